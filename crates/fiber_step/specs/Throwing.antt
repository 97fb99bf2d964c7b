-- What an exception comes to, and a new raise.
use Rattle.std.specs.Prelude.{◌≡◌, ◌++◌, List, ℕ}
use Rattle.eio_value.specs.declared.plain.Member.{Member}
use Rattle.script_forms.specs.declared.node.Node.{Node}
use Rattle.spec_fiber.specs.Settling.{Settled}
use Rattle.spec_fiber.specs.Work.{Carry}
use Rattle.fiber_step.specs.Framing.{KeptFrames}
use Rattle.fiber_step.specs.Placing.{ArePlaced}
use Rattle.fiber_step.specs.Turning.{Shared, carried, next_behind, IsLighter, RaisesNothing}
use Rattle.fiber_step.specs.declared.progress.Progress.{Progress}

abbrev pub shared_by : (texts : List (List ℕ)) → (serial : ℕ) → Shared
shared_by texts serial = record { texts = texts; serial = serial }

-- the table has grown at its end, if at all
pub record IsGrown (old new : List (List ℕ)) : Type 0 where
  pub more : List (List ℕ)
  pub is : new ≡ old ++ more

-- the next call is the same, with whatever raises there were and then perhaps more
abbrev pub LeadsTo : (from : Carry → Settled) → Shared → (to : Carry → Settled) → Shared → Type 0
LeadsTo from shared to later = (raises : List Member) → (others : List Member) × (from (carried shared raises) ≡ to (carried later others))

-- what an exception comes to, or a new raise: it may put a text into the table and take the next raise's number, and raises nothing more.
-- The next call was given by `from`
pub record IsTurnWith (nodes : List Node) (from : KeptFrames → Carry → Settled) (old : KeptFrames) (shared : Shared) (it : Progress) (new : KeptFrames) (later : Shared) : Type 0 where
  pub next : LeadsTo (from old) shared (next_behind nodes it new) later
  pub placed : ArePlaced nodes old.items → ArePlaced nodes new.items
  pub lighter : IsLighter nodes old it new
  pub quiet : RaisesNothing nodes it
