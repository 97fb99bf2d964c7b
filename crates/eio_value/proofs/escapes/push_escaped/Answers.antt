use Rattle.eio_value.proofs.Fronts.{front_before}
use Rattle.eio_value.proofs.escapes.push_escaped.Goals as goal

pub returns-in_err-push_byte-clause-front : goal.returns-in_err-push_byte-clause-front
returns-in_err-push_byte-clause-front c = front_before _ _ _ _ c.loop-byte.invariant c.in_err-push_byte.ensures.front
