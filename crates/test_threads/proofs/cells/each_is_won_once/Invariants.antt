use Rattle.std.proofs.Common.{length}
use Rattle.test_threads.proofs.cells.each_is_won_once.Given as goal

abbrev pub decreases-loop-won : goal.decreases-loop-won
decreases-loop-won g l = length l.racers.items
