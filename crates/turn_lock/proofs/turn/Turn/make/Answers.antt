use Rattle.std.proofs.Common.{ℕ, List, [], ◌∷◌, ◌++◌, Some, refl, sym, ap, ◌∙◌, subst, arith}
use Rattle.atomic_table.specs.Table.{opening}
use Rattle.turn_lock.specs.Rule.{first_view, KeptTurns}
use Rattle.turn_lock.proofs.Dealing.{opens}
use Rattle.turn_lock.proofs.turn.Turn.make.Goals as goal

pub new-requires : goal.new-requires
new-requires g c =
    let some = c.requires.some in let is = c.from-2.ensures in let fits = c.ranges.passes.fits in
    let words : List ℕ = 0 ∷ 0 ∷ 0 ∷ 0 ∷ 0 ∷ 0 ∷ 0 ∷ 0 ∷ 0 ∷ 0 ∷ 0 ∷ 0 ∷ 0 ∷ 0 ∷ 0 ∷ 0 ∷ 0 ∷ [] in
    let items = c.push_reserved.ensures.items ∙ ap (λ l. l ++ Some c.args.value ∷ []) c.in_ok-slots.ensures.items in
    subst (λ l. KeptTurns (λ x. g.V.Kept.stands x 0) c.from-2.result (opening words l (first_view c.from-2.result))) (sym items)
    (opens (λ x. g.V.Kept.stands x 0) c.from-2.result words c.args.value (omega arith) (omega arith) refl refl refl c.requires.empty)
