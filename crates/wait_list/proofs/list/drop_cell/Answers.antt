use Rattle.std.proofs.Common.{rules, refl, ℕ, ◌≡◌, ◌==◌, not, map, filter, cond, ◌∷◌, List, [], ap, true, false}
use Rattle.std.proofs.lemmas.Fn.{filter_same}
use Rattle.spec_parts.specs.Row.{Queued}
use Rattle.wait_list.specs.declared.queued.Queued.{Queued as Kept}
use Rattle.wait_list.specs.Standing.{queued_of}
use Rattle.wait_list.specs.Waits.{others}
use Rattle.wait_list.proofs.list.drop_cell.Goals as goal

-- those with another cell
abbrev kept : ℕ → List Kept → List Kept
kept cell = filter (λ (x : Kept). not (x.who.cell == cell))

kept-map : (cell : ℕ) (xs : List Kept) → map queued_of (kept cell xs) ≡ others cell (map queued_of xs)
kept-map cell [] = refl
kept-map cell (x ∷ xs) =
    elim (not (x.who.cell == cell)) as (λ b. map queued_of (cond b (x ∷ kept cell xs) (kept cell xs)) ≡ cond b (queued_of x ∷ others cell (map queued_of xs)) (others cell (map queued_of xs))) [
      | true ↦ ap (λ (l : List Queued). queued_of x ∷ l) (kept-map cell xs)
      | false ↦ kept-map cell xs
    ]

pub returns : goal.returns
returns c = record {
  items = rw (filter_same _ (λ (x : Kept). not (x.who.cell == c.args.cell)) _ (λ x b f' k. search rules) _ _ c.retain.ensures.filtered) (kept-map c.args.cell c.args.queue.now.items);
  room = c.retain.ensures.capacity;
}
