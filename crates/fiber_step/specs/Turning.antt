-- What one turn of a settling does: an item is taken, and the next call is the same from where the fiber stands then.
use Rattle.std.specs.Prelude.{◌≡◌, ◌<◌, ℕ, Bool, true, false, List, [], ◌∷◌, ◌++◌, take, Option, Some, None}
use Rattle.eio_value.specs.Exceptions.{HasTextsOfPlain}
use Rattle.eio_value.specs.declared.plain.Member.{Member}
use Rattle.eio_value.specs.declared.raised.Outcome.{Outcome}
use Rattle.eio_value.specs.declared.value.Value.{Value}
use Rattle.script_forms.specs.declared.node.Node.{Node}
use Rattle.spec_fiber.specs.Replies.{passed}
use Rattle.spec_fiber.specs.Settling.{Settled, answered}
use Rattle.spec_fiber.specs.Silent.{raises}
use Rattle.spec_fiber.specs.Work.{Carry, restored}
use Rattle.fiber_step.specs.Framing.{KeptFrames}
use Rattle.fiber_step.specs.Going.{goes}
use Rattle.fiber_step.specs.Placing.{ArePlaced}
use Rattle.fiber_step.specs.Standing.{ask_of, works_of}
use Rattle.fiber_step.specs.Stepping.{HasBodiesOf}
use Rattle.fiber_step.specs.Weighing.{weight}
use Rattle.fiber_step.specs.declared.fiber.Taken.{Taken}
use Rattle.fiber_step.specs.declared.fiber.Taken.TheVariants as taken
use Rattle.fiber_step.specs.declared.item.Item.TheVariants as item
use Rattle.fiber_step.specs.declared.mark.Mark.{Mark}
use Rattle.fiber_step.specs.declared.mark.Mark.TheVariants as mark
use Rattle.fiber_step.specs.declared.progress.Progress.{Progress}
use Rattle.fiber_step.specs.declared.progress.Progress.TheVariants as progress

-- where a fiber stood before this mark was taken
abbrev pub with_mark : Mark → KeptFrames → KeptFrames
with_mark it kept = record kept { items = kept.items ++ item.Mark it ∷ [] }

-- the next item is taken
abbrev pub Takes : KeptFrames → KeptFrames → Taken → Type 0
Takes old new taken.Nothing = (old.items ≡ []) × (new ≡ old)
Takes old new (taken.Mark it) = old ≡ with_mark it new
Takes old new taken.Restored = old.items ≡ new.items ++ item.Restore new.variables ∷ []

-- what a fiber's settling changes beside the fiber: the table of texts, and the number that the next raise has
pub record Shared : Type 0 where
  pub texts : List (List ℕ)
  pub serial : ℕ

-- what a fiber carries but for its variables, once these raises were
abbrev pub carried : Shared → List Member → Carry
carried shared raises = record { variables = []; texts = shared.texts; serial = shared.serial; raises = raises }

-- the next call of a fiber that stands so and goes on with what came
abbrev pub next_call : List Node → Outcome → KeptFrames → Carry → Settled
next_call nodes came kept c = passed came (works_of nodes kept.items) (restored kept.variables c)

-- the next call behind a turn
abbrev pub next_behind : List Node → Progress → KeptFrames → Carry → Settled
next_behind nodes (progress.GoesOn it) kept c = answered (works_of nodes kept.items) it (restored kept.variables c)
next_behind nodes (progress.Calls call) kept c = record { call = ask_of nodes call; behind = works_of nodes kept.items; carry = restored kept.variables c }
next_behind nodes (progress.Raises what) kept c = goes (raises what (restored kept.variables c)) (works_of nodes kept.items)

-- a turn that leaves the table as it is, and makes no raise itself: it may say what is to be raised
abbrev pub Turns : List Node → Outcome → (old : KeptFrames) → Progress → (new : KeptFrames) → Type 0
Turns nodes came old turn new = (c : Carry) → next_call nodes came old c ≡ next_behind nodes turn new c

-- less silent work is left, where a turn makes no call
abbrev pub IsLighter : List Node → (old : KeptFrames) → Progress → (new : KeptFrames) → Type 0
IsLighter nodes old (progress.Calls call) new = Unit {0}
IsLighter nodes old other new = weight (works_of nodes new.items) < weight (works_of nodes old.items)

-- nothing is raised, and the blocks of the call stand among the nodes
abbrev pub RaisesNothing : List Node → Progress → Type 0
RaisesNothing nodes (progress.GoesOn it) = Unit {0}
RaisesNothing nodes (progress.Calls call) = HasBodiesOf nodes call
RaisesNothing nodes (progress.Raises what) = ⊥

-- the blocks of the call stand among the nodes, and the table has the text of what is raised
abbrev pub HasItsParts : List Node → (texts : List (List ℕ)) → Progress → Type 0
HasItsParts nodes texts (progress.GoesOn it) = Unit {0}
HasItsParts nodes texts (progress.Calls call) = HasBodiesOf nodes call
HasItsParts nodes texts (progress.Raises what) = HasTextsOfPlain texts what

-- before a block, with this mark at its end
abbrev pub gone_into : (end : Mark) → (body : ℕ) → KeptFrames → KeptFrames
gone_into end body kept = record kept { items = (kept.items ++ item.Mark end ∷ []) ++ item.Mark (mark.Run body) ∷ [] }

-- with the first variables alone, and with one more
abbrev pub cut_to : (keep : ℕ) → KeptFrames → KeptFrames
cut_to keep kept = record kept { variables = take keep kept.variables }

abbrev pub naming : Value → KeptFrames → KeptFrames
naming it kept = record kept { variables = kept.variables ++ it ∷ [] }

abbrev pub kept_to : Option ℕ → KeptFrames → KeptFrames
kept_to None kept = kept
kept_to (Some keep) kept = cut_to keep kept

-- what one turn does that comes to this and raises nothing
pub record IsTurn (nodes : List Node) (came : Outcome) (old : KeptFrames) (it : Progress) (new : KeptFrames) : Type 0 where
  pub next : Turns nodes came old it new
  pub placed : ArePlaced nodes old.items → ArePlaced nodes new.items
  pub lighter : IsLighter nodes old it new
  pub quiet : RaisesNothing nodes it

-- what one turn does that comes to this, which may be a raise, of a text that the table has
pub record IsTurnOrRaise (nodes : List Node) (texts : List (List ℕ)) (came : Outcome) (old : KeptFrames) (it : Progress) (new : KeptFrames) : Type 0 where
  pub next : Turns nodes came old it new
  pub placed : ArePlaced nodes old.items → ArePlaced nodes new.items
  pub lighter : IsLighter nodes old it new
  pub parts : HasItsParts nodes texts it

-- whether a mark begins statements
abbrev pub is_run : Mark → Bool
is_run (mark.Run at) = true
is_run other = false

-- before a handler, with these marks at its end and behind it, between which the fiber's own variables come back
abbrev pub handling : (closing end : Mark) → (handler : ℕ) → (registered : List Value) → KeptFrames → KeptFrames
handling closing end handler registered kept =
    gone_into end handler (record { items = (kept.items ++ item.Mark closing ∷ []) ++ item.Restore kept.variables ∷ []; variables = registered })
