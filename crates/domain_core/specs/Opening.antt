-- The fibers of a domain whose body is about to run.
use Rattle.std.specs.Prelude.{◌≡◌, ℕ, List, [], ◌∷◌, Option, Some}
use Rattle.fiber_step.specs.Framing.{KeptFrames, position_of}
use Rattle.fiber_step.specs.Placing.{ArePlaced}
use Rattle.script_forms.specs.Flat.{nodes_of}
use Rattle.spec_script.specs.Scripts.{Script}
use Rattle.spec_fiber.specs.Replies.{begun}
use Rattle.spec_machine.specs.Domain.{OfBody}
use Rattle.law_domain.specs.Sound.Laws.{body_of}
use Rattle.domain_core.specs.Keeping.{KeptFiber, new_fiber}

-- there is one fiber, which stands before its body in this context
pub record HasBody (script : Script) (body context : ℕ) (fibers : List (Option KeptFiber)) : Type 0 where
  pub frames : KeptFrames
  pub begins : position_of (nodes_of script) frames ≡ begun (body_of script body) []
  pub placed : ArePlaced (nodes_of script) frames.items
  pub is : fibers ≡ Some (new_fiber 0 context OfBody frames) ∷ []
