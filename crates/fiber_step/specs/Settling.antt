-- The next call of a fiber: what it is, and where the fiber stands behind it.
use Rattle.std.specs.Prelude.{◌≡◌, ℕ, List, ⊤}
use Rattle.eio_value.specs.Exceptions.{HasTextsOfRaised}
use Rattle.eio_value.specs.declared.plain.Member.{Member}
use Rattle.eio_value.specs.declared.raised.Outcome.{Outcome}
use Rattle.eio_value.specs.declared.raised.Outcome.TheVariants as outcome
use Rattle.script_forms.specs.declared.node.Node.{Node}
use Rattle.spec_fiber.specs.Settling.{Settled}
use Rattle.spec_fiber.specs.Work.{Carry, restored}
use Rattle.fiber_step.specs.Framing.{KeptFrames}
use Rattle.fiber_step.specs.Placing.{ArePlaced}
use Rattle.fiber_step.specs.Standing.{ask_of, works_of}
use Rattle.fiber_step.specs.Throwing.{LeadsTo}
use Rattle.fiber_step.specs.Turning.{Shared, carried, next_call, next_behind, HasItsParts}
use Rattle.fiber_step.specs.declared.ask.Ask.{Ask}
use Rattle.fiber_step.specs.declared.progress.Progress.{Progress}

-- whatever raises there were, with these and perhaps more the next call is this one, and the fiber stands so behind it
abbrev pub SettlesTo : List Node → Outcome → (old : KeptFrames) → Shared → Ask → (new : KeptFrames) → Shared → Type 0
SettlesTo nodes came old shared call new later =
    (raises : List Member) → (others : List Member)
    × (next_call nodes came old (carried shared raises) ≡ record { call = ask_of nodes call; behind = works_of nodes new.items; carry = restored new.variables (carried later others) })

-- what the turns of a settling have come to, whose next call was given by `from` when it began
pub record HasComeTo (nodes : List Node) (from : Carry → Settled) (shared : Shared) (it : Progress) (new : KeptFrames) (later : Shared) : Type 0 where
  pub next : LeadsTo from shared (next_behind nodes it new) later
  pub placed : ArePlaced nodes new.items
  pub parts : HasItsParts nodes later.texts it

-- the texts of what came stand in the table
abbrev pub HasTextsOfOutcome : List (List ℕ) → Outcome → Type 0
HasTextsOfOutcome texts (outcome.Ok it) = ⊤
HasTextsOfOutcome texts (outcome.Err raised) = HasTextsOfRaised texts raised
