-- Lists of numbers: in which nothing stands twice, what stands in them with one more, and without one.
use Rattle.std.proofs.Common.{◌≡◌, ◌≢◌, ◌⊎◌, inl, inr, ℕ, zero, suc, ◌<◌, Bool, true, false, not, ◌==◌, List, [], ◌∷◌, ◌++◌, length, refl, ◌∙◌, sym, subst, cond, true≢false, eqb-true, eq-eqb, arith}
use Rattle.std.specs.Prelude.{slice_index_or, All}
use Rattle.std.specs.List.{AllPairs, Contains}
use Rattle.std.proofs.lemmas.List.Elements.{All-append, All-contains_itself}
use Rattle.std.proofs.lemmas.List.Kept.{AllPairs-cons}
use Rattle.spec_parts.specs.Switches.{without}

-- ## Lists in which nothing stands twice

abbrev pub AreDistinct : List ℕ → Type 0
AreDistinct xs = AllPairs (λ g h. g ≢ h) xs

pub distinct_behind : (x : ℕ) (xs : List ℕ) → AreDistinct (x ∷ xs) → AreDistinct xs
distinct_behind x xs apart = λ i j d less below. apart (suc i) (suc j) d (omega (arith, less)) (omega (arith, below))

pub not_behind : (x : ℕ) (xs : List ℕ) → AreDistinct (x ∷ xs) → Contains xs x → ⊥
not_behind x xs apart there = (
    let below : there.0 < length xs = there.1 in
    apart 0 (suc there.0) x (omega arith) (omega (arith, below)) (sym there.2))

pub contains_behind : {X : Type 0} (y x : X) (xs : List X) → Contains xs x → Contains (y ∷ xs) x
contains_behind y x xs there = (let below : there.0 < length xs = there.1 in (suc there.0, omega (arith, below), there.2))

pub contains_first : {X : Type 0} (x : X) (xs : List X) → Contains (x ∷ xs) x
contains_first x xs = (0, omega arith, refl)

pub contains_cases : {X : Type 0} (y x : X) (xs : List X) → Contains (y ∷ xs) x → (y ≡ x) ⊎ Contains xs x
contains_cases y x xs there = cases there.0 there.1 there.2 where
  cases : (k : ℕ) → k < length (y ∷ xs) → slice_index_or (y ∷ xs) k x ≡ x → (y ≡ x) ⊎ Contains xs x
  cases zero below is = inl is
  cases (suc k) below is = inr (k, omega (arith, below), is)

pub front_apart : (x : ℕ) (xs : List ℕ) → AreDistinct xs → (Contains xs x → ⊥) → AreDistinct (x ∷ xs)
front_apart x xs apart new = AllPairs-cons (λ g h. g ≢ h) x xs (λ i d below e. new (subst (λ (y : ℕ). Contains xs y) (sym e) (All-contains_itself xs i d below))) apart

pub distinct_back : (xs : List ℕ) (x : ℕ) → AreDistinct xs → (Contains xs x → ⊥) → AreDistinct (xs ++ x ∷ [])
distinct_back [] x apart new = λ i j d less below. absurd (omega (arith, less, below))
distinct_back (y ∷ ys) x apart new =
    AllPairs-cons (λ g h. g ≢ h) y (ys ++ x ∷ [])
    (All-append (λ h. y ≢ h) ys (x ∷ []) (λ k d below. apart 0 (suc k) d (omega arith) (omega (arith, below))) (λ k d below. alone k d below))
    (distinct_back ys x (distinct_behind y ys apart) (λ there. new (contains_behind y x ys there))) where
      alone : (k d : ℕ) → k < 1 → y ≢ slice_index_or (x ∷ []) k d
      alone zero d below is = new (0, omega arith, is)
      alone (suc k) d below is = omega (arith, below)

-- ## Without one

module _ (g h : ℕ) where
  -- what is left stood there, and is another one
  pub left_stood : (xs : List ℕ) → Contains (without g xs) h → Contains xs h × (h ≢ g)
  left_stood [] there = absurd (omega (arith, there.1))
  left_stood (x ∷ xs) there = by_equal (left_stood xs) (x == g) refl there where
    by_equal : (Contains (without g xs) h → Contains xs h × (h ≢ g)) → (same : Bool) → (x == g) ≡ same
        → Contains (cond (not same) (x ∷ without g xs) (without g xs)) h → Contains (x ∷ xs) h × (h ≢ g)
    by_equal rest true is there = (let it = rest there in (contains_behind x h xs it.0, it.1))
    by_equal rest false is there = elim (contains_cases x h (without g xs) there) as (λ _. Contains (x ∷ xs) h × (h ≢ g)) [
      | inl e ↦ (subst (λ (y : ℕ). Contains (x ∷ xs) y) e (contains_first x xs), λ same. true≢false (sym (eq-eqb x g (e ∙ same)) ∙ is))
      | inr it ↦ (let was = rest it in (contains_behind x h xs was.0, was.1))
    ]

  -- another one is left
  pub other_left : h ≢ g → (xs : List ℕ) → Contains xs h → Contains (without g xs) h
  other_left other [] there = there
  other_left other (x ∷ xs) there = by_equal (other_left other xs) (x == g) refl (contains_cases x h xs there) where
    by_equal : (Contains xs h → Contains (without g xs) h) → (same : Bool) → (x == g) ≡ same
        → (x ≡ h) ⊎ Contains xs h → Contains (cond (not same) (x ∷ without g xs) (without g xs)) h
    by_equal rest true is (inl e) = absurd (other (sym e ∙ eqb-true x g is))
    by_equal rest true is (inr it) = rest it
    by_equal rest false is (inl e) = subst (λ (y : ℕ). Contains (x ∷ without g xs) y) e (contains_first x (without g xs))
    by_equal rest false is (inr it) = contains_behind x h (without g xs) (rest it)

pub none_stands : (g : ℕ) → Contains [] g → ⊥
none_stands g there = (let below : there.0 < 0 = there.1 in omega (arith, below))

-- ## All of a list

pub all_front : {X : Type 0} (P : X → Type 0) (x : X) (xs : List X) → P x → All P xs → All P (x ∷ xs)
all_front P x xs is all zero d below = is
all_front P x xs is all (suc k) d below = all k d (omega (arith, below))

pub all_rest : {X : Type 0} (P : X → Type 0) (x : X) (xs : List X) → All P (x ∷ xs) → All P xs
all_rest P x xs all k d below = all (suc k) d (omega (arith, below))

pub all_none : {X : Type 0} (P : X → Type 0) → All P []
all_none P k d below = absurd (omega (arith, below))
