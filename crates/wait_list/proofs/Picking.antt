-- The first of a list that passes a test, by its place: what stands there, and what is left without it. The list is seen through f.
use Rattle.std.proofs.Common.{◌≡◌, ℕ, suc, ◌+◌, ◌<◌, ◌≤◌, nat_lt, Bool, true, false, List, [], ◌∷◌, length, map, get_or, Some, None, refl, ap, cond, arith}
use Rattle.std.specs.Prelude.{find}
use Rattle.std.specs.List.{position, position_or_len, remove}
use Rattle.std.proofs.lemmas.Grind.{common_steps}
use Rattle.spec_parts.specs.Row.{but_first}

is_below : (a b : ℕ) → nat_lt a b ≡ true → a < b
is_below a b h = grind (arith, common_steps)

is_past : (a b : ℕ) → nat_lt a b ≡ false → b ≤ a
is_past a b h = grind (arith, common_steps)

module _ {A B : Type 0} (f : A → B) (p : B → Bool) where
  abbrev place : List A → ℕ
  place xs = position_or_len (λ x. p (f x)) xs

  -- what stands at the place and what is left without it
  pub record Picked (xs : List A) (i : ℕ) (d : A) : Type 0 where
    pub within : i < length xs
    pub found : find p (map f xs) ≡ Some (f (get_or xs i d))
    pub left : map f (remove xs i) ≡ but_first p (map f xs)

  picked_go : (x : A) (xs : List A) (d : A) (b : Bool) → p (f x) ≡ b → place (x ∷ xs) < length (x ∷ xs) → (place xs < length xs → Picked xs (place xs) d) → Picked (x ∷ xs) (place (x ∷ xs)) d
  picked_go x xs d true e less rest = rw e (record { within = omega arith; found = rw e refl; left = rw (e, but_first) refl })
  picked_go x xs d false e less rest =
      let one : 1 + place xs ≡ suc (place xs) = omega arith in
      let more : Picked xs (place xs) d = rest (let h : 1 + place xs < suc (length xs) = rw e at less in omega arith) in
      rw e (rw one (record {
        within = let h : place xs < length xs = more.within in omega arith;
        found = rw e more.found;
        left = rw (e, but_first) (ap (λ (l : List B). f x ∷ l) more.left);
      }))

  at_place : (xs : List A) (d : A) → place xs < length xs → Picked xs (place xs) d
  at_place [] d less = absurd (omega (arith, less))
  at_place (x ∷ xs) d less = picked_go x xs d (p (f x)) refl less (λ l. at_place xs d l)

  none_go : (x : A) (xs : List A) (b : Bool) → p (f x) ≡ b → length (x ∷ xs) ≤ place (x ∷ xs) → (length xs ≤ place xs → find p (map f xs) ≡ None) → find p (map f (x ∷ xs)) ≡ None
  none_go x xs true e past rest = absurd (let h : suc (length xs) ≤ 0 = rw e at past in omega arith)
  none_go x xs false e past rest = rw e (rest (let h : suc (length xs) ≤ 1 + place xs = rw e at past in omega arith))

  past_all : (xs : List A) → length xs ≤ place xs → find p (map f xs) ≡ None
  past_all [] past = refl
  past_all (x ∷ xs) past = none_go x xs (p (f x)) refl past (λ l. past_all xs l)

  position_go : (xs : List A) (i : ℕ) (d : A) (b : Bool) → nat_lt (place xs) (length xs) ≡ b → cond b (Some (place xs)) None ≡ Some i → Picked xs i d
  position_go xs i d true e is = let same : place xs ≡ i = cc in rw (← same) (at_place xs d (is_below (place xs) (length xs) e))
  position_go xs i d false e is = let none : None ≡ Some i = is in cc

  pub picked : (xs : List A) (i : ℕ) (d : A) → position (λ x. p (f x)) xs ≡ Some i → Picked xs i d
  picked xs i d is = position_go xs i d (nat_lt (place xs) (length xs)) refl is

  nowhere_go : (xs : List A) (b : Bool) → nat_lt (place xs) (length xs) ≡ b → cond b (Some (place xs)) None ≡ None → find p (map f xs) ≡ None
  nowhere_go xs true e is = let none : Some (place xs) ≡ None = is in cc
  nowhere_go xs false e is = past_all xs (is_past (place xs) (length xs) e)

  pub nowhere : (xs : List A) → position (λ x. p (f x)) xs ≡ None → find p (map f xs) ≡ None
  nowhere xs is = nowhere_go xs (nat_lt (place xs) (length xs)) refl is

  without_go : (x : B) (xs : List B) (b : Bool) → p x ≡ b → find p (x ∷ xs) ≡ None → (find p xs ≡ None → but_first p xs ≡ xs) → but_first p (x ∷ xs) ≡ x ∷ xs
  without_go x xs true e none rest = let h : Some x ≡ None = rw e at none in cc
  without_go x xs false e none rest = rw (e, but_first) (ap (λ (l : List B). x ∷ l) (rest (rw e at none)))

  -- where none passes all are left
  pub all_left : (xs : List B) → find p xs ≡ None → but_first p xs ≡ xs
  all_left [] none = refl
  all_left (x ∷ xs) none = without_go x xs (p x) refl none (λ l. all_left xs l)
