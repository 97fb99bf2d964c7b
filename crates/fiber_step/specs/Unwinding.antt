-- What an exception drops of a fiber's work.
use Rattle.std.specs.Prelude.{◌≡◌, ◌≤◌, Bool, true, List, [], Option, Some, None}
use Rattle.eio_value.specs.declared.raised.Outcome.TheVariants as outcome
use Rattle.eio_value.specs.declared.raised.Raised.{Raised}
use Rattle.script_forms.specs.declared.node.Node.{Node}
use Rattle.spec_fiber.specs.Work.{Carry}
use Rattle.fiber_step.specs.Framing.{KeptFrames}
use Rattle.fiber_step.specs.Placing.{ArePlaced}
use Rattle.fiber_step.specs.Standing.{works_of, is_end}
use Rattle.fiber_step.specs.Turning.{with_mark, next_call}
use Rattle.fiber_step.specs.Weighing.{weight}
use Rattle.fiber_step.specs.declared.mark.Mark.{Mark}
use Rattle.fiber_step.specs.declared.mark.Mark.TheVariants as mark

-- whether an exception goes no further than to this mark: a `try` catches it, and an end makes its call with it
abbrev pub stops : Mark → Bool
stops (mark.Try handler keep) = true
stops it = is_end it

-- an exception comes to the same from where the fiber stood as from where it stands
pub record IsDropped (old new : KeptFrames) : Type 0 where
  pub same : (nodes : List Node) (raised : Raised) (c : Carry) → next_call nodes (outcome.Err raised) old c ≡ next_call nodes (outcome.Err raised) new c
  pub placed : (nodes : List Node) → ArePlaced nodes old.items → ArePlaced nodes new.items
  pub lighter : (nodes : List Node) → weight (works_of nodes new.items) ≤ weight (works_of nodes old.items)

-- a fiber before the mark at which an exception stops, or behind all its work
abbrev pub stopped : Option Mark → KeptFrames → KeptFrames
stopped None kept = kept
stopped (Some it) kept = with_mark it kept

-- an exception stops at this mark, or at none, where no work is left
abbrev pub IsStop : Option Mark → KeptFrames → Type 0
IsStop None kept = kept.items ≡ []
IsStop (Some it) kept = stops it ≡ true
