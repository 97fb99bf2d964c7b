-- What a mark does that is taken.
use Rattle.std.proofs.Common.{◌≡◌, ◌+◌, ℕ, List, [], ◌∷◌, ◌++◌, Some, refl, sym, ap, subst}
use Rattle.std.proofs.lemmas.List.Elements.{All-push, All-pop}
use Rattle.eio_value.specs.declared.raised.Outcome.{Outcome}
use Rattle.script_forms.specs.declared.node.Node.{Node}
use Rattle.spec_fiber.specs.Replies.{passed}
use Rattle.spec_fiber.specs.Work.{Carry, restored}
use Rattle.fiber_step.specs.Framing.{KeptFrames}
use Rattle.fiber_step.specs.Placing.{IsPlacedMark, IsPlaced, ArePlaced}
use Rattle.fiber_step.specs.Standing.{mark_work, works_of}
use Rattle.fiber_step.specs.Turning.{with_mark, next_call, IsTurn, IsTurnOrRaise, RaisesNothing, HasItsParts}
use Rattle.fiber_step.specs.Weighing.{weight_of_item, weight}
use Rattle.fiber_step.specs.declared.item.Item.{Item}
use Rattle.fiber_step.specs.declared.item.Item.TheVariants as item
use Rattle.fiber_step.specs.declared.mark.Mark.{Mark}
use Rattle.fiber_step.specs.declared.progress.Progress.{Progress}
use Rattle.fiber_step.specs.declared.progress.Progress.TheVariants as progress
use Rattle.fiber_step.proofs.Positions.{next_item}

-- a mark is the next item of work
pub mark_next : (nodes : List Node) (came : Outcome) (it : Mark) (old : KeptFrames) (c : Carry)
    → next_call nodes came (with_mark it old) c ≡ passed came (mark_work nodes it ∷ works_of nodes old.items) (restored old.variables c)
mark_next nodes came it old c = ap (λ work. passed came work (restored old.variables c)) (next_item nodes old.items (item.Mark it))

pub mark_weight : (nodes : List Node) (it : Mark) (old : KeptFrames) → weight (works_of nodes (with_mark it old).items) ≡ weight_of_item (mark_work nodes it) + weight (works_of nodes old.items)
mark_weight nodes it old = ap weight (next_item nodes old.items (item.Mark it))

-- ## Placed items

pub mark_placed : (nodes : List Node) (it : Mark) (old : KeptFrames) → ArePlaced nodes (with_mark it old).items → ArePlaced nodes old.items × IsPlacedMark nodes it
mark_placed nodes it old all = All-pop (IsPlaced nodes) (old.items ++ item.Mark it ∷ []) old.items (Some (item.Mark it)) refl all

pub placed_mark : (nodes : List Node) (it : Mark) (items : List Item) → ArePlaced nodes items → IsPlacedMark nodes it → ArePlaced nodes (items ++ item.Mark it ∷ [])
placed_mark nodes it items all is = All-push (IsPlaced nodes) items (item.Mark it) all is

-- ## Turns

-- where another name is given to the mark and to what comes of it
pub as_turn : (nodes : List Node) (came : Outcome) (it m : Mark) (old : KeptFrames) (t s : Progress) (new k : KeptFrames) → it ≡ m → t ≡ s → new ≡ k → IsTurn nodes came (with_mark m old) s k → IsTurn nodes came (with_mark it old) t new
as_turn nodes came it m old t s new k same_mark same_turn same_kept is =
    subst (λ x. IsTurn nodes came (with_mark x old) t new) (sym same_mark)
    (subst (λ x. IsTurn nodes came (with_mark m old) x new) (sym same_turn)
    (subst (λ x. IsTurn nodes came (with_mark m old) s x) (sym same_kept) is))

pub quiet_parts : (nodes : List Node) (texts : List (List ℕ)) (t : Progress) → RaisesNothing nodes t → HasItsParts nodes texts t
quiet_parts nodes texts (progress.GoesOn it) quiet = tt
quiet_parts nodes texts (progress.Calls call) quiet = quiet
quiet_parts nodes texts (progress.Raises what) quiet = absurd quiet

-- one that raises nothing is one that may raise
pub turn_or_raise : (nodes : List Node) (texts : List (List ℕ)) (came : Outcome) (old new : KeptFrames) (t : Progress) → IsTurn nodes came old t new → IsTurnOrRaise nodes texts came old t new
turn_or_raise nodes texts came old new t is = record { next = is.next; placed = is.placed; lighter = is.lighter; parts = quiet_parts nodes texts t is.quiet }
