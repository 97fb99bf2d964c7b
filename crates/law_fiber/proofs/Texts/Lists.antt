-- What holds of each element of a list holds of each of a part of it, and of each of two lists in one.
use Rattle.std.proofs.Common.{◌≡◌, ◌<◌, ℕ, zero, suc, Contains, length, get_or, slice_set, find, cond, IfSome, ap, arith, Bool, true, false, List, [], ◌∷◌, ◌++◌, take, filter, map, Option, Some, None}
use Rattle.std.specs.Prelude.{slice_get}
use Rattle.std.specs.List.{AllByRecursion as Each}
use Rattle.std.specs.Option.{unwrap_or}

module _ {X : Type 0} (P : X → Type 0) where
  pub each_append : (xs ys : List X) → Each P xs → Each P ys → Each P (xs ++ ys)
  each_append [] ys all others = others
  each_append (x ∷ xs) ys all others = (all.0, each_append xs ys all.1 others)

  pub each_push : (xs : List X) (x : X) → Each P xs → P x → Each P (xs ++ x ∷ [])
  each_push xs x all last = each_append xs (x ∷ []) all (last, tt)

  pub each_take : (n : ℕ) (xs : List X) → Each P xs → Each P (take n xs)
  each_take zero xs all = tt
  each_take (suc n) [] all = tt
  each_take (suc n) (x ∷ xs) all = (all.0, each_take n xs all.1)

  pub each_at : (xs : List X) (n : ℕ) (d : X) → Each P xs → P d → P (unwrap_or (slice_get xs n) d)
  each_at [] n d all default = default
  each_at (x ∷ xs) zero d all default = all.0
  each_at (x ∷ xs) (suc n) d all default = each_at xs n d all.1 default

  pub each_filter : (test : X → Bool) (xs : List X) → Each P xs → Each P (filter test xs)
  each_filter test [] all = tt
  each_filter test (x ∷ xs) all = by (test x) (each_filter test xs all.1)
    where
      by : (b : Bool) → Each P (filter test xs) → Each P (cond b (x ∷ filter test xs) (filter test xs))
      by true rest = (all.0, rest)
      by false rest = rest

  -- an element, where there is one
  pub each_get : (xs : List X) (n : ℕ) → Each P xs → IfSome (slice_get xs n) P
  each_get [] n all = tt
  each_get (x ∷ xs) zero all = all.0
  each_get (x ∷ xs) (suc n) all = each_get xs n all.1

  pub each_found : (test : X → Bool) (xs : List X) → Each P xs → IfSome (find test xs) P
  each_found test [] all = tt
  each_found test (x ∷ xs) all = by (test x) (each_found test xs all.1)
    where
      by : (b : Bool) → IfSome (find test xs) P → IfSome (cond b (Some x) (find test xs)) P
      by true rest = all.0
      by false rest = rest

  pub or_default : (found : Option X) (d : X) → IfSome found P → P d → P (unwrap_or found d)
  or_default (Some x) d is default = is
  or_default None d is default = default

  -- each number's element, where one stands for those that aren't there
  pub at_set : (xs : List X) (n : ℕ) (x d : X) → ((k : ℕ) → P (unwrap_or (slice_get xs k) d)) → P x → (k : ℕ) → P (unwrap_or (slice_get (slice_set xs n x) k) d)
  at_set [] n x d all new k = all k
  at_set (y ∷ ys) zero x d all new zero = new
  at_set (y ∷ ys) zero x d all new (suc k) = all (suc k)
  at_set (y ∷ ys) (suc n) x d all new zero = all 0
  at_set (y ∷ ys) (suc n) x d all new (suc k) = at_set ys n x d (λ j. all (suc j)) new k

  pub at_push : (xs : List X) (x d : X) → P d → ((k : ℕ) → P (unwrap_or (slice_get xs k) d)) → P x → (k : ℕ) → P (unwrap_or (slice_get (xs ++ x ∷ []) k) d)
  at_push [] x d default all new zero = new
  at_push [] x d default all new (suc k) = default
  at_push (y ∷ ys) x d default all new zero = all 0
  at_push (y ∷ ys) x d default all new (suc k) = at_push ys x d default (λ j. all (suc j)) new k

pub each_weaker : {X : Type 0} (P Q : X → Type 0) → ((x : X) → P x → Q x) → (xs : List X) → Each P xs → Each Q xs
each_weaker P Q so [] all = tt
each_weaker P Q so (x ∷ xs) all = (so x all.0, each_weaker P Q so xs all.1)

pub contains_map : {X Y : Type 0} (f : X → Y) (xs : List X) (x : X) → Contains xs x → Contains (map f xs) (f x)
contains_map {X} {Y} f xs x there = by xs there.0 there.1 there.2
  where
    by : (ys : List X) (k : ℕ) → k < length ys → get_or ys k x ≡ x → Contains (map f ys) (f x)
    by [] k less is = absurd (omega (arith, less))
    by (y ∷ ys) zero less is = (0, omega arith, ap f is)
    by (y ∷ ys) (suc k) less is = let rest = by ys k (omega (arith, less)) is in (suc rest.0, omega (arith, rest.1), rest.2)
