use Rattle.std.proofs.Common.{◌≡◌, false}
use Rattle.test_threads.proofs.turns.work.Given as goal

abbrev pub invariant-loop-number : goal.invariant-loop-number
invariant-loop-number g l = (l.pass.turn ≡ l.turn.id) × (l.pass.holds ≡ false)
