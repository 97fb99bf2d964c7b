-- Of lists: what a search finds is as each item is, and what stands at a place stands there in a longer list.
use Rattle.std.proofs.Common.{◌≡◌, ℕ, zero, suc, Bool, true, false, cond, List, [], ◌∷◌, ◌++◌, length, Option, Some, None, refl, sym, subst}
use Rattle.std.proofs.lemmas.Bool.{and_parts}
use Rattle.std.specs.Prelude.{slice_get, find, filter, option_map}
use Rattle.std.specs.List.{AllByRecursion as Each, list_all}

pub same_Some : {A : Type 0} (x y : A) → ◌≡◌ {A = Option A} (Some x) (Some y) → x ≡ y
same_Some x y e = cc

pub none_some : {A : Type 0} (x : A) → None ≡ Some x → ⊥
none_some x e = cc

-- ## Each item

pub each_found : {A : Type 0} (P : A → Type 0) (test : A → Bool) (xs : List A) (x : A) → Each P xs → find test xs ≡ Some x → P x
each_found P test [] x each e = absurd (none_some x e)
each_found {A} P test (y ∷ xs) x each e = by (test y) e (each_found P test xs x each.1)
  where
    by : (b : Bool) → cond b (Some y) (find test xs) ≡ Some x → (find test xs ≡ Some x → P x) → P x
    by true e rest = subst P (same_Some y x e) each.0
    by false e rest = rest e

-- the same of a test that each item passes
pub found_passes : {A : Type 0} (passes test : A → Bool) (xs : List A) (x : A) → list_all passes xs ≡ true → find test xs ≡ Some x → passes x ≡ true
found_passes passes test [] x all e = absurd (none_some x e)
found_passes {A} passes test (y ∷ xs) x all e =
    let parts = and_parts (passes y) (list_all passes xs) all in
    by (test y) e parts.0 (found_passes passes test xs x parts.1)
  where
    by : (b : Bool) → cond b (Some y) (find test xs) ≡ Some x → passes y ≡ true → (find test xs ≡ Some x → passes x ≡ true) → passes x ≡ true
    by true e own rest = subst (λ (z : A). passes z ≡ true) (same_Some y x e) own
    by false e own rest = rest e

-- where nothing is found, no item passes
pub none_passes : {A B : Type 0} (f : A → B) (test : A → Bool) (xs : List A) → option_map f (find test xs) ≡ None → Each (λ x. test x ≡ false) xs
none_passes f test [] e = tt
none_passes {A} {B} f test (y ∷ xs) e = by (test y) refl e (none_passes f test xs)
  where
    by : (b : Bool) → test y ≡ b → option_map f (cond b (Some y) (find test xs)) ≡ None → (option_map f (find test xs) ≡ None → Each (λ x. test x ≡ false) xs)
        → (test y ≡ false) × Each (λ x. test x ≡ false) xs
    by true is e rest = absurd (none_some (f y) (sym e))
    by false is e rest = (is, rest e)

pub each_kept : {A : Type 0} (P : A → Type 0) (test : A → Bool) (xs : List A) → Each P xs → Each P (filter test xs)
each_kept P test [] each = tt
each_kept P test (y ∷ xs) each = by (test y) (each_kept P test xs each.1)
  where
    by : (b : Bool) → Each P (filter test xs) → Each P (cond b (y ∷ filter test xs) (filter test xs))
    by true rest = (each.0, rest)
    by false rest = rest

pub each_more : {A : Type 0} (P : A → Type 0) (xs ys : List A) → Each P xs → Each P ys → Each P (xs ++ ys)
each_more P [] ys one other = other
each_more P (x ∷ xs) ys one other = (one.0, each_more P xs ys one.1 other)

pub each_so : {A : Type 0} (P Q : A → Type 0) (xs : List A) → ((x : A) → P x → Q x) → Each P xs → Each Q xs
each_so P Q [] so each = tt
each_so P Q (x ∷ xs) so each = (so x each.0, each_so P Q xs so each.1)

-- ## Places

pub stays_at : {A : Type 0} (xs ys : List A) (n : ℕ) (x : A) → slice_get xs n ≡ Some x → slice_get (xs ++ ys) n ≡ Some x
stays_at [] ys n x e = absurd (none_some x e)
stays_at (y ∷ xs) ys zero x e = e
stays_at (y ∷ xs) ys (suc n) x e = stays_at xs ys n x e

pub stands_last : {A : Type 0} (xs : List A) (x : A) → slice_get (xs ++ x ∷ []) (length xs) ≡ Some x
stands_last [] x = refl
stands_last (y ∷ xs) x = stands_last xs x
