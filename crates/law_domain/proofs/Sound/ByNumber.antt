-- What stands under a number in a list, after one was changed or one more was made.
use Rattle.std.proofs.Common.{◌≡◌, ◌≢◌, ◌⊎◌, inl, inr, ℕ, zero, suc, ◌<◌, ◌≤◌, List, [], ◌∷◌, ◌++◌, length, slice_set, refl, ap, ◌∙◌, sym, subst, arith}
use Rattle.std.specs.Prelude.{slice_get}
use Rattle.std.specs.Option.{unwrap_or}

pub same_or_other : (n m : ℕ) → (n ≡ m) ⊎ (n ≢ m)
same_or_other zero zero = inl refl
same_or_other zero (suc m) = inr (λ e. omega (arith, e))
same_or_other (suc n) zero = inr (λ e. omega (arith, e))
same_or_other (suc n) (suc m) = elim (same_or_other n m) as (λ _. (suc n ≡ suc m) ⊎ (suc n ≢ suc m)) [ inl e ↦ inl (ap suc e) | inr other ↦ inr (λ e. other (omega (arith, e))) ]

module _ {X : Type 0} (otherwise : X) where
  abbrev pub at : List X → ℕ → X
  at xs n = unwrap_or (slice_get xs n) otherwise

  -- the others stay as they were
  pub others_unchanged : (xs : List X) (n m : ℕ) (changed : X) → m ≢ n → at (slice_set xs n changed) m ≡ at xs m
  others_unchanged [] n m changed other = refl
  others_unchanged (x ∷ xs) zero zero changed other = absurd (other refl)
  others_unchanged (x ∷ xs) zero (suc m) changed other = refl
  others_unchanged (x ∷ xs) (suc n) zero changed other = refl
  others_unchanged (x ∷ xs) (suc n) (suc m) changed other = others_unchanged xs n m changed (λ e. other (ap suc e))

  -- the changed one, where it was made
  pub changed_itself : (xs : List X) (n : ℕ) (changed : X) → n < length xs → at (slice_set xs n changed) n ≡ changed
  changed_itself [] n changed below = absurd (omega arith)
  changed_itself (x ∷ xs) zero changed below = refl
  changed_itself (x ∷ xs) (suc n) changed below = changed_itself xs n changed (omega arith)

  -- once one more was made, the older ones stand where they stood, it stands last, and past it stands none
  pub older_unchanged : (xs : List X) (n : ℕ) (made : X) → n < length xs → at (xs ++ made ∷ []) n ≡ at xs n
  older_unchanged [] n made below = absurd (omega arith)
  older_unchanged (x ∷ xs) zero made below = refl
  older_unchanged (x ∷ xs) (suc n) made below = older_unchanged xs n made (omega arith)

  pub made_last : (xs : List X) (made : X) → at (xs ++ made ∷ []) (length xs) ≡ made
  made_last [] made = refl
  made_last (x ∷ xs) made = made_last xs made

  pub past_all : (xs : List X) (n : ℕ) → length xs ≤ n → at xs n ≡ otherwise
  past_all [] n past = refl
  past_all (x ∷ xs) zero past = absurd (omega arith)
  past_all (x ∷ xs) (suc n) past = past_all xs n (omega arith)

  -- behind one more, all others stand where they stood
  pub pushed_other : (xs : List X) (n : ℕ) (made : X) → n ≢ length xs → at (xs ++ made ∷ []) n ≡ at xs n
  pushed_other [] zero made other = absurd (other refl)
  pushed_other [] (suc n) made other = refl
  pushed_other (x ∷ xs) zero made other = refl
  pushed_other (x ∷ xs) (suc n) made other = pushed_other xs n made (λ e. other (ap suc e))

  pub set_keeps_length : (xs : List X) (n : ℕ) (changed : X) → length (slice_set xs n changed) ≡ length xs
  set_keeps_length [] n changed = refl
  set_keeps_length (x ∷ xs) zero changed = refl
  set_keeps_length (x ∷ xs) (suc n) changed = ap suc (set_keeps_length xs n changed)

  -- what the changed one has as before, each has as before
  pub same_of_each : {Y : Type 0} (f : X → Y) (xs : List X) (n : ℕ) (x : X) → n < length xs → f x ≡ f (at xs n) → (m : ℕ) → f (at (slice_set xs n x) m) ≡ f (at xs m)
  same_of_each f xs n x below same m = elim (same_or_other m n) as (λ _. f (at (slice_set xs n x) m) ≡ f (at xs m)) [
    | inl e ↦ subst (λ (j : ℕ). f (at (slice_set xs n x) j) ≡ f (at xs j)) (sym e) (ap f (changed_itself xs n x below) ∙ same)
    | inr other ↦ ap f (others_unchanged xs n m x other)
  ]

  -- what the new one has as none has, each has as before
  pub pushed_same : {Y : Type 0} (f : X → Y) (xs : List X) (x : X) → f x ≡ f otherwise → (m : ℕ) → f (at (xs ++ x ∷ []) m) ≡ f (at xs m)
  pushed_same f xs x same m = elim (same_or_other m (length xs)) as (λ _. f (at (xs ++ x ∷ []) m) ≡ f (at xs m)) [
    | inl e ↦ subst (λ (j : ℕ). f (at (xs ++ x ∷ []) j) ≡ f (at xs j)) (sym e) (ap f (made_last xs x) ∙ (same ∙ ap f (sym (past_all xs (length xs) (omega arith)))))
    | inr other ↦ ap f (pushed_other xs m x other)
  ]

  -- the same, whether it was made or not
  pub set_same : {Y : Type 0} (f : X → Y) (xs : List X) (n : ℕ) (x : X) → f x ≡ f (at xs n) → (m : ℕ) → f (at (slice_set xs n x) m) ≡ f (at xs m)
  set_same f [] n x same m = refl
  set_same f (y ∷ xs) zero x same zero = same
  set_same f (y ∷ xs) zero x same (suc m) = refl
  set_same f (y ∷ xs) (suc n) x same zero = refl
  set_same f (y ∷ xs) (suc n) x same (suc m) = set_same f xs n x same m

  -- changed into itself
  pub set_itself : (xs : List X) (n : ℕ) → slice_set xs n (at xs n) ≡ xs
  set_itself [] n = refl
  set_itself (x ∷ xs) zero = refl
  set_itself (x ∷ xs) (suc n) = ap (λ (ys : List X). x ∷ ys) (set_itself xs n)
