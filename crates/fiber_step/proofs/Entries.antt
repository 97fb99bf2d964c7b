-- How a fiber goes into a block.
use Rattle.std.proofs.Common.{◌≡◌, ℕ, zero, suc, ◌-◌, List, [], ◌∷◌, ◌++◌, length, Some, Result, Ok, Err, sym, ap, ◌∙◌, subst}
use Rattle.std.specs.Prelude.{slice_get, OnOk}
use Rattle.std.specs.List.{AllByRecursion as Each}
use Rattle.eio_value.specs.declared.value.Value.{Value}
use Rattle.script_code.specs.Standing.{block_at}
use Rattle.script_forms.specs.declared.node.Group.{Group}
use Rattle.script_forms.specs.declared.node.Node.{Node}
use Rattle.script_forms.specs.declared.node.Node.TheVariants as node
use Rattle.spec_fiber.specs.Replies.{Position, into, entered}
use Rattle.spec_fiber.specs.Silent.{items_of}
use Rattle.spec_fiber.specs.Work as work
use Rattle.fiber_step.specs.Having.{HasStatements}
use Rattle.fiber_step.specs.Framing.{KeptFrames, position_of}
use Rattle.fiber_step.specs.Placing.{IsPlaced, IsPlacedMark, ArePlaced}
use Rattle.fiber_step.specs.Standing.{ask_of, mark_work, works_of}
use Rattle.fiber_step.specs.Stepping.{HasBranchBodies}
use Rattle.fiber_step.specs.Turning.{gone_into, handling}
use Rattle.fiber_step.specs.declared.ask.Ask.{Ask}
use Rattle.fiber_step.specs.declared.item.Item.TheVariants as item
use Rattle.fiber_step.specs.declared.mark.Mark.{Mark}
use Rattle.fiber_step.specs.declared.mark.Mark.TheVariants as mark
use Rattle.fiber_step.proofs.Branches.{same_branches, same_some}
use Rattle.fiber_step.proofs.Positions.{next_item, next_two}
use Rattle.fiber_step.proofs.Turns.{placed_mark}
use Rattle.std.proofs.lemmas.List.Elements.{All-push}

-- ## Placed items

pub placed_into : (nodes : List Node) (end : Mark) (body : ℕ) (old new : KeptFrames) → new ≡ gone_into end body old → ArePlaced nodes old.items → HasStatements nodes body → IsPlacedMark nodes end → ArePlaced nodes new.items
placed_into nodes end body old new e all has is =
    subst (λ (k : KeptFrames). ArePlaced nodes k.items) (sym e) (placed_mark nodes (mark.Run body) (old.items ++ item.Mark end ∷ []) (placed_mark nodes end old.items all is) (has, tt))

pub placed_handling : (nodes : List Node) (closing end : Mark) (handler : ℕ) (registered : List Value) (old new : KeptFrames) → new ≡ handling closing end handler registered old
    → ArePlaced nodes old.items → HasStatements nodes handler → IsPlacedMark nodes closing → IsPlacedMark nodes end → ArePlaced nodes new.items
placed_handling nodes closing end handler registered old new e all has is_closing is_end =
    let first = placed_mark nodes closing old.items all is_closing in
    let second = All-push (IsPlaced nodes) (old.items ++ item.Mark closing ∷ []) (item.Restore old.variables) first tt in
    placed_into nodes end handler (record { items = (old.items ++ item.Mark closing ∷ []) ++ item.Restore old.variables ∷ []; variables = registered }) new e second has is_end

-- where it stands then
pub stands_handling : (nodes : List Node) (closing end : Mark) (handler : ℕ) (registered : List Value) (old new : KeptFrames) → new ≡ handling closing end handler registered old
    → position_of nodes new ≡ into (block_at nodes handler) (mark_work nodes end) (work.Restore old.variables ∷ mark_work nodes closing ∷ works_of nodes old.items) registered
stands_handling nodes closing end handler registered old new e =
    let with_closing = old.items ++ item.Mark closing ∷ [] in
    let below = next_item nodes with_closing (item.Restore old.variables) ∙ ap (λ these. work.Restore old.variables ∷ these) (next_item nodes old.items (item.Mark closing)) in
    ap (position_of nodes) e
    ∙ ap (λ these. let p : Position = record { work = these; variables = registered } in p)
    (next_two nodes (with_closing ++ item.Restore old.variables ∷ []) (item.Mark end) handler
    ∙ ap (λ these. work.Run (items_of (block_at nodes handler)) ∷ mark_work nodes end ∷ these) below)

-- ## What is had of a result

pub on_ok : {A E : Type 0} (P Q : Type 0) (r : Result A E) → OnOk r P → (P → Q) → OnOk r Q
on_ok P Q (Ok it) holds then = then holds
on_ok P Q (Err e) holds then = tt

-- ## The last of the branches

each_got : (P : ℕ → Type 0) (these : List ℕ) (k found : ℕ) → Each P these → slice_get these k ≡ Some found → P found
each_got P [] zero found all e = absurd (cc)
each_got P [] (suc k) found all e = absurd (cc)
each_got P (n ∷ these) zero found all e = subst P (same_some n found e) all.0
each_got P (n ∷ these) (suc k) found all e = each_got P these k found all.1 e

pub own_begins : (nodes : List Node) (form : ℕ) (n : Node) (group : Group) (blocks : List ℕ) (after found : ℕ) (these : List ℕ) → HasBranchBodies nodes form
    → slice_get nodes form ≡ Some n → n ≡ node.Branches group blocks after → these ≡ blocks → Some found ≡ slice_get these (length these - 1) → HasStatements nodes found
own_begins nodes form n group blocks after found these has at is same last =
    let all = same_branches n n group has.group blocks has.numbers after has.after is (same_some n _ (sym at ∙ has.is)) in
    each_got (HasStatements nodes) has.numbers (length these - 1) found has.begin (sym (last ∙ ap (λ s. slice_get s (length these - 1)) (same ∙ all)))

-- ## A block that is gone into

stands_into : (nodes : List Node) (end : Mark) (body : ℕ) (old new : KeptFrames) → new ≡ gone_into end body old → position_of nodes new ≡ into (block_at nodes body) (mark_work nodes end) (works_of nodes old.items) old.variables
stands_into nodes end body old new e =
    ap (position_of nodes) e ∙ ap (λ these. let p : Position = record { work = these; variables = old.variables } in p) (next_two nodes old.items (item.Mark end) body)

-- that of a call, with the mark that stands behind it
pub stands_entered : (nodes : List Node) (asked call : Ask) (number : ℕ) (end : Mark) (body : ℕ) (old named new : KeptFrames) → new ≡ gone_into end body named → asked ≡ call
    → into (block_at nodes body) (mark_work nodes end) (works_of nodes named.items) named.variables ≡ entered (ask_of nodes call) number (works_of nodes old.items) old.variables
    → position_of nodes new ≡ entered (ask_of nodes asked) number (works_of nodes old.items) old.variables
stands_entered nodes asked call number end body old named new e is same =
    stands_into nodes end body named new e ∙ (same ∙ ap (λ (a : Ask). entered (ask_of nodes a) number (works_of nodes old.items) old.variables) (sym is))
