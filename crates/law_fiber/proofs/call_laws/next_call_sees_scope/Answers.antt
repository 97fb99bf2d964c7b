use Rattle.law_fiber.proofs.Calls.Settling.{next_call_sees_scope}
use Rattle.law_fiber.proofs.call_laws.next_call_sees_scope.Goals as goal

pub returns : goal.returns
returns c = next_call_sees_scope
