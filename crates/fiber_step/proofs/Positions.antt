-- Where a fiber stands once items were pushed onto its work.
use Rattle.std.proofs.Common.{◌≡◌, ℕ, List, [], ◌∷◌, ◌++◌, reverse, map, ap, ◌∙◌, arith}
use Rattle.std.proofs.lemmas.Grind.{common_steps}
use Rattle.script_forms.specs.declared.node.Node.{Node}
use Rattle.fiber_step.specs.Standing.{work_of, works_of}
use Rattle.fiber_step.specs.declared.item.Item.{Item}
use Rattle.fiber_step.specs.declared.item.Item.TheVariants as item
use Rattle.fiber_step.specs.declared.mark.Mark.TheVariants as mark

last_first : (items : List Item) (it : Item) → reverse (items ++ it ∷ []) ≡ it ∷ reverse items
last_first items it = grind (arith, common_steps)

-- the next item is the last
pub next_item : (nodes : List Node) (items : List Item) (it : Item) → works_of nodes (items ++ it ∷ []) ≡ work_of nodes it ∷ works_of nodes items
next_item nodes items it = ap (λ these. map (work_of nodes) these) (last_first items it)

pub next_two : (nodes : List Node) (items : List Item) (end : Item) (body : ℕ)
    → works_of nodes ((items ++ end ∷ []) ++ item.Mark (mark.Run body) ∷ []) ≡ work_of nodes (item.Mark (mark.Run body)) ∷ work_of nodes end ∷ works_of nodes items
next_two nodes items end body = next_item nodes (items ++ end ∷ []) (item.Mark (mark.Run body)) ∙ ap (λ these. work_of nodes (item.Mark (mark.Run body)) ∷ these) (next_item nodes items end)
