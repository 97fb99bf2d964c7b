-- Generated scripts, run: fibers, moves, lines of the trace, and the status.
use Rattle.std.proofs.Common.{◌≡◌, refl}
use Rattle.test_commands.specs.Run.{loads, ok}

load_1 : loads 1 ≡ ok "fibers 2\nmoves 15\nlines 3\nstatus 0\n"
unfolding loads
load_1 = refl

load_2 : loads 2 ≡ ok "fibers 3\nmoves 26\nlines 5\nstatus 0\n"
unfolding loads
load_2 = refl

load_3 : loads 3 ≡ ok "fibers 4\nmoves 37\nlines 7\nstatus 0\n"
unfolding loads
load_3 = refl

load_100 : loads 100 ≡ ok "fibers 101\nmoves 1105\nlines 201\nstatus 0\n"
unfolding loads
load_100 = refl
