use Rattle.std.proofs.Common.{arith}
use Rattle.std.proofs.lemmas.Grind.{common_steps}
use Rattle.trace_out.proofs.Consumed.{has_read_some}
use Rattle.trace_out.proofs.input.read_input.Goals as goal

-- what was taken before and the piece whose bytes found no room
pub returns-then-is_err-clause-some : goal.returns-then-is_err-clause-some
returns-then-is_err-clause-some g c =
    has_read_some _ _ _ _ _ c.reading.invariant.taken c.in-Ok.ensures.bytes.0 (grind (arith, common_steps))
