-- The marks of a list tell which cells stand there, when a fiber leaves and when one is entered.
use Rattle.std.proofs.Common.{◌≡◌, ℕ, ◌<◌, ◌≤◌, ◌==◌, Bool, true, false, List, [], ◌∷◌, ◌++◌, length, refl, sym, ◌∙◌, arith, eqb-true, slice_set, length-set, subst, slice_index_or}
use Rattle.std.proofs.lemmas.List.{get_or-set_same, get_or-set_other}
use Rattle.std.proofs.lemmas.List.Elements.{All-tail}
use Rattle.spec_parts.specs.Row.{Queued}
use Rattle.wait_list.specs.Standing.{Holds}
use Rattle.wait_list.specs.Waits.{stands, others}
use Rattle.wait_list.proofs.Cells.{once_tail, first_is_gone, once_entered, below_entered, stands_entered, stands_besides, no_more_than_cells}

-- what a mark says after the one of a cell was set
pub set_go : (marks : List Bool) (at cell : ℕ) (b d : Bool) (answer : Bool) → at < length marks → ((at == cell) ≡ true → answer ≡ b) → ((at == cell) ≡ false → answer ≡ slice_index_or marks cell d) → (is : Bool) → (at == cell) ≡ is
    → slice_index_or (slice_set marks at b) cell d ≡ answer
set_go marks at cell b d answer within here there true is =
    let same : at ≡ cell = eqb-true at cell is in
    rw (← same) (get_or-set_same marks at b d within) ∙ sym (here is)
set_go marks at cell b d answer within here there false is = get_or-set_other marks at cell b d (other at cell is) ∙ sym (there is)
  where
    other : (a c : ℕ) → (a == c) ≡ false → c ≡ a → ⊥
    other a c is e = grind arith

-- the oldest has left
pub holds_popped : (x : Queued) (xs : List Queued) (marks : List Bool) (room : ℕ) → Holds (x ∷ xs) marks room → Holds xs (slice_set marks x.who.cell false) room
holds_popped x xs marks room holds =
    let within : x.who.cell < length marks = holds.below 0 x (omega arith) in
    record {
      once = once_tail x xs holds.once;
      below = rw (length-set marks x.who.cell false) (All-tail (λ (q : Queued). q.who.cell < length marks) x xs holds.below);
      marked = λ cell d less.
          set_go marks x.who.cell cell false d (stands cell xs) within
          (λ is. let same : x.who.cell ≡ cell = eqb-true x.who.cell cell is in rw (← same) (first_is_gone x xs holds.once))
          (λ is. sym (holds.marked cell d (rw (length-set marks x.who.cell false) at less) ∙ rw is refl))
          (x.who.cell == cell) refl;
      fits = rw (length-set marks x.who.cell false) holds.fits;
    }

-- a fiber was entered
pub holds_entered : (q : Queued) (xs : List Queued) (marks : List Bool) (room : ℕ) → q.who.cell < length marks → Holds xs marks room → Holds (others q.who.cell xs ++ q ∷ []) (slice_set marks q.who.cell true) room
holds_entered q xs marks room within holds =
    record {
      once = once_entered q xs holds.once;
      below = rw (length-set marks q.who.cell true) (below_entered (length marks) q xs within holds.below);
      marked = λ cell d less.
          set_go marks q.who.cell cell true d (stands cell (others q.who.cell xs ++ q ∷ [])) within
          (λ is. stands_entered cell q xs is)
          (λ is. stands_besides cell q xs is ∙ sym (holds.marked cell d (rw (length-set marks q.who.cell true) at less)))
          (q.who.cell == cell) refl;
      fits = rw (length-set marks q.who.cell true) holds.fits;
    }

pub no_more_than_marks : (xs : List Queued) (marks : List Bool) (room : ℕ) → Holds xs marks room → length xs ≤ length marks
no_more_than_marks xs marks room holds = no_more_than_cells (length marks) xs holds.once holds.below

pub holds_as : (xs ys : List Queued) (marks now : List Bool) (room space : ℕ) → xs ≡ ys → marks ≡ now → room ≡ space → Holds xs marks room → Holds ys now space
holds_as xs ys marks now room space list mark rooms holds =
    subst (λ (l : List Queued). Holds l now space) list (subst (λ (m : List Bool). Holds xs m space) mark (subst (λ (n : ℕ). Holds xs marks n) rooms holds))
