-- The fibers that are kept under keys, as the list by their numbers.
use Rattle.std.proofs.Common.{◌≡◌, ◌≢◌, ◌⊎◌, inl, inr, ℕ, zero, suc, ◌+◌, ◌<◌, ◌≤◌, Bool, true, List, [], ◌∷◌, ◌++◌, length, slice_set, Option, Some, None, refl, ap, ap₂, ◌∙◌, sym, subst, cond, true≢false, arith}
use Rattle.std.specs.Prelude.{slice_get, slice_index_or, count_by, is_some, IsSome}
use Rattle.std.proofs.lemmas.Option.{none-some, same_Some}
use Rattle.std.proofs.lemmas.List.Sums.{sum_by-cons}
use Rattle.slab.proofs.SlabLemmas.{Updates-with_value}
use Rattle.slab.specs.Slab.{Slab, get, slab_len, with_value, Updates}
use Rattle.domain_core.specs.declared.fiber.Fiber.{Fiber}
use Rattle.domain_core.specs.Keeping.{kept_at}
use Rattle.domain_core.specs.Keyed.{kept_under, kept_in, HasKey, AreKeyed}
use Rattle.domain_core.proofs.ByNumber.{same_or_other}

-- what is kept under the key of a number, if it has one
abbrev pub under : Slab Fiber → Option (Option ℕ) → Option Fiber
under kept found = elim found [ None ↦ None | Some key ↦ kept_under kept key ]

pub looked_up : (keys : List (Option ℕ)) (kept : Slab Fiber) (n : ℕ) → kept_at (kept_in keys kept) n ≡ under kept (slice_get keys n)
looked_up [] kept n = refl
looked_up (key ∷ keys) kept zero = refl
looked_up (key ∷ keys) kept (suc n) = looked_up keys kept n

-- a number with a fiber has a key
has_key_by : (kept : Slab Fiber) (found : Option (Option ℕ)) → IsSome (under kept found) → (key : ℕ) × (found ≡ Some (Some key))
has_key_by kept None is = absurd (true≢false (sym is))
has_key_by kept (Some None) is = absurd (true≢false (sym is))
has_key_by kept (Some (Some key)) is = (key, refl)

pub has_key : (keys : List (Option ℕ)) (kept : Slab Fiber) (n : ℕ) → IsSome (kept_at (kept_in keys kept) n) → HasKey keys n
has_key keys kept n is = has_key_by kept (slice_get keys n) (subst (λ (o : Option Fiber). IsSome o) (looked_up keys kept n) is)

pub key_below : {X : Type 0} (xs : List X) (n : ℕ) (x : X) → slice_get xs n ≡ Some x → n < length xs
key_below [] n x e = absurd (none-some _ e)
key_below (y ∷ xs) zero x e = omega arith
key_below (y ∷ xs) (suc n) x e = (let h : n < length xs = key_below xs n x e in omega arith)

-- as many were made as have had keys
pub made_is : (keys : List (Option ℕ)) (kept : Slab Fiber) → length (kept_in keys kept) ≡ length keys
made_is [] kept = refl
made_is (key ∷ keys) kept = ap suc (made_is keys kept)

-- and the fiber is the one under that key
pub kept_by_key : (keys : List (Option ℕ)) (kept : Slab Fiber) (n key : ℕ) → slice_get keys n ≡ Some (Some key) → kept_at (kept_in keys kept) n ≡ get kept key
kept_by_key keys kept n key is = looked_up keys kept n ∙ ap (under kept) is

-- ## How many

abbrev one_if : Bool → ℕ
one_if b = cond b 1 0

pub counted : {X : Type 0} (slot : Option X) (slots : List (Option X)) → count_by is_some (slot ∷ slots) ≡ one_if (is_some slot) + count_by is_some slots
counted {X} slot slots = sum_by-cons (λ (slot : Option X). cond (is_some slot) 1 0) slot slots

-- what stands there
pub index_by_get : {X : Type 0} (xs : List X) (n : ℕ) (otherwise x : X) → slice_get xs n ≡ Some x → slice_index_or xs n otherwise ≡ x
index_by_get [] n otherwise x e = absurd (none-some _ e)
index_by_get (y ∷ xs) zero otherwise x e = same_Some _ _ e
index_by_get (y ∷ xs) (suc n) otherwise x e = index_by_get xs n otherwise x e

-- one in the place of another
pub as_many : {X : Type 0} (slots : List (Option X)) (n : ℕ) (slot : Option X) → is_some (slice_index_or slots n None) ≡ is_some slot → count_by is_some (slice_set slots n slot) ≡ count_by is_some slots
as_many [] n slot e = refl
as_many (first ∷ slots) zero slot e = counted slot slots ∙ (ap (λ b. one_if b + count_by is_some slots) (sym e) ∙ sym (counted first slots))
as_many (first ∷ slots) (suc n) slot e = counted first (slice_set slots n slot) ∙ (ap (λ m. one_if (is_some first) + m) (as_many slots n slot e) ∙ sym (counted first slots))

-- one goes
pub one_fewer : {X : Type 0} (slots : List (Option X)) (n : ℕ) → is_some (slice_index_or slots n None) ≡ true → count_by is_some (slice_set slots n None) + 1 ≡ count_by is_some slots
one_fewer [] n e = absurd (true≢false (sym e))
one_fewer (first ∷ slots) zero e =
    let one : count_by is_some (first ∷ slots) ≡ 1 + count_by is_some slots = counted first slots ∙ ap (λ b. one_if b + count_by is_some slots) e in
    let none : count_by is_some (slice_set (first ∷ slots) zero None) ≡ 0 + count_by is_some slots = counted None slots in
    omega (arith, one, none)
one_fewer (first ∷ slots) (suc n) e =
    let less : count_by is_some (slice_set slots n None) + 1 ≡ count_by is_some slots = one_fewer slots n e in
    let now = counted first (slice_set slots n None) in
    let was = counted first slots in
    omega (arith, less, now, was)

-- one more comes
pub one_more_counted : {X : Type 0} (slots : List (Option X)) (x : X) → count_by is_some (slots ++ Some x ∷ []) ≡ count_by is_some slots + 1
one_more_counted [] x = refl
one_more_counted (first ∷ slots) x =
    let more : count_by is_some (slots ++ Some x ∷ []) ≡ count_by is_some slots + 1 = one_more_counted slots x in
    let now = counted first (slots ++ Some x ∷ []) in
    let was = counted first slots in
    omega (arith, more, now, was)

-- so many are kept as have keys
pub live_count : (keys : List (Option ℕ)) (kept : Slab Fiber) → ((n key : ℕ) → slice_get keys n ≡ Some (Some key) → is_some (get kept key) ≡ true) → count_by is_some (kept_in keys kept) ≡ count_by is_some keys
live_count [] kept found = refl
live_count (None ∷ keys) kept found = live_count keys kept (λ n. found (suc n))
live_count (Some key ∷ keys) kept found =
    let rest : count_by is_some (kept_in keys kept) ≡ count_by is_some keys = live_count keys kept (λ n. found (suc n)) in
    counted (get kept key) (kept_in keys kept) ∙ (ap₂ (λ b n. one_if b + n) (found zero key refl) rest ∙ sym (counted (Some key) keys))

-- ## The list

-- another slab in which each key that is had leads to the same
pub same_list : (keys : List (Option ℕ)) (old new : Slab Fiber) → ((n key : ℕ) → slice_get keys n ≡ Some (Some key) → get new key ≡ get old key) → kept_in keys new ≡ kept_in keys old
same_list [] old new same = refl
same_list (None ∷ keys) old new same = ap (λ rest. None ∷ rest) (same_list keys old new (λ n. same (suc n)))
same_list (Some key ∷ keys) old new same = ap₂ (λ first rest. first ∷ rest) (same zero key refl) (same_list keys old new (λ n. same (suc n)))

-- one more at the end
pub one_more_key : (keys : List (Option ℕ)) (kept : Slab Fiber) (key : ℕ) → kept_in (keys ++ Some key ∷ []) kept ≡ kept_in keys kept ++ get kept key ∷ []
one_more_key [] kept key = refl
one_more_key (first ∷ keys) kept key = ap (λ rest. kept_under kept first ∷ rest) (one_more_key keys kept key)

-- the fiber of one number changed
pub one_changed : (keys : List (Option ℕ)) (old new : Slab Fiber) (n key : ℕ) (fiber : Fiber)
    → slice_get keys n ≡ Some (Some key)
    → get new key ≡ Some fiber
    → ((m other : ℕ) → m ≢ n → slice_get keys m ≡ Some (Some other) → get new other ≡ get old other)
    → kept_in keys new ≡ slice_set (kept_in keys old) n (Some fiber)
one_changed [] old new n key fiber has is same = absurd (none-some _ has)
one_changed (first ∷ keys) old new zero key fiber has is same =
    ap₂ (λ f rest. f ∷ rest) (ap (kept_under new) (same_Some _ _ has) ∙ is) (same_list keys old new (λ m other. same (suc m) other (λ e. omega (arith, e))))
one_changed (Some first ∷ keys) old new (suc n) key fiber has is same = ap₂ (λ f rest. f ∷ rest) (same zero first (λ e. omega (arith, e)) refl) (one_changed keys old new n key fiber has is (λ m other not. same (suc m) other (λ e. not (omega (arith, e)))))
one_changed (None ∷ keys) old new (suc n) key fiber has is same = ap (λ rest. None ∷ rest) (one_changed keys old new n key fiber has is (λ m other not. same (suc m) other (λ e. not (omega (arith, e)))))

-- the fiber of one number gone
pub one_gone : (keys : List (Option ℕ)) (old new : Slab Fiber) (n : ℕ)
    → ((m other : ℕ) → m ≢ n → slice_get keys m ≡ Some (Some other) → get new other ≡ get old other)
    → kept_in (slice_set keys n None) new ≡ slice_set (kept_in keys old) n None
one_gone [] old new n same = refl
one_gone (first ∷ keys) old new zero same = ap (λ rest. None ∷ rest) (same_list keys old new (λ m other. same (suc m) other (λ e. omega (arith, e))))
one_gone (None ∷ keys) old new (suc n) same = ap (λ rest. None ∷ rest) (one_gone keys old new n (λ m other not. same (suc m) other (λ e. not (omega (arith, e)))))
one_gone (Some first ∷ keys) old new (suc n) same = ap₂ (λ f rest. f ∷ rest) (same zero first (λ e. omega (arith, e)) refl) (one_gone keys old new n (λ m other not. same (suc m) other (λ e. not (omega (arith, e)))))

-- a number whose key is gone has none
gone_has : (keys : List (Option ℕ)) (n other : ℕ) → slice_get (slice_set keys n None) n ≡ Some (Some other) → ⊥
gone_has [] n other e = none-some _ e
gone_has (first ∷ keys) zero other e = none-some _ (same_Some _ _ e)
gone_has (first ∷ keys) (suc n) other e = gone_has keys n other e

other_has : (keys : List (Option ℕ)) (n m : ℕ) → m ≢ n → slice_get (slice_set keys n None) m ≡ slice_get keys m
other_has [] n m not = refl
other_has (first ∷ keys) zero zero not = absurd (not refl)
other_has (first ∷ keys) zero (suc m) not = refl
other_has (first ∷ keys) (suc n) zero not = refl
other_has (first ∷ keys) (suc n) (suc m) not = other_has keys n m (λ e. not (ap suc e))

-- what stands in a list with one more stands in the list, or is the last
last_or_before : {X : Type 0} (xs : List X) (n : ℕ) (x y : X) → slice_get (xs ++ x ∷ []) n ≡ Some y → (slice_get xs n ≡ Some y) ⊎ ((n ≡ length xs) × (y ≡ x))
last_or_before [] zero x y e = inr (refl, sym (same_Some _ _ e))
last_or_before [] (suc n) x y e = absurd (none-some _ e)
last_or_before (first ∷ xs) zero x y e = inl e
last_or_before (first ∷ xs) (suc n) x y e = elim (last_or_before xs n x y e) as (λ _. (slice_get xs n ≡ Some y) ⊎ ((suc n ≡ suc (length xs)) × (y ≡ x))) [
  | inl before ↦ inl before
  | inr last ↦ inr (ap suc last.0, last.1)
]

-- ## Changes of what is kept

module _ (keys : List (Option ℕ)) (kept : Slab Fiber) (keyed : AreKeyed keys kept) where
  pub all_found : (n key : ℕ) → slice_get keys n ≡ Some (Some key) → is_some (get kept key) ≡ true
  all_found n key has = (let there = keyed.found n key has in ap is_some there.1)

  pub live_is : slab_len kept ≡ count_by is_some (kept_in keys kept)
  live_is = keyed.many ∙ sym (live_count keys kept all_found)

  -- two numbers with one key are one
  apart : (n m key other : ℕ) → slice_get keys n ≡ Some (Some key) → slice_get keys m ≡ Some (Some other) → m ≢ n → other ≢ key
  apart n m key other has has_other not e =
      let there = keyed.found n key has in
      let also = keyed.found m other has_other in
      let one : also.0 ≡ there.0 = same_Some _ _ (sym also.1 ∙ (ap (get kept) e ∙ there.1)) in
      not (sym also.2 ∙ (ap (λ (f : Fiber). f.number) one ∙ there.2))

  module _ (n key : ℕ) (has : slice_get keys n ≡ Some (Some key)) where
    -- the fiber of this number in another form
    module _ (fiber : Fiber) (number : fiber.number ≡ n) where
      updated : Updates kept (with_value kept key fiber) key (Some fiber)
      updated = Updates-with_value kept key fiber (all_found n key has)

      others : (m other : ℕ) → m ≢ n → slice_get keys m ≡ Some (Some other) → get (with_value kept key fiber) other ≡ get kept other
      others m other not has_other = updated.others other (apart n m key other has has_other not)

      pub changed_list : kept_in keys (with_value kept key fiber) ≡ slice_set (kept_in keys kept) n (Some fiber)
      changed_list = one_changed keys kept (with_value kept key fiber) n key fiber has updated.changed others

      found_then : (m other : ℕ) → slice_get keys m ≡ Some (Some other) → (f : Fiber) × (get (with_value kept key fiber) other ≡ Some f) × (f.number ≡ m)
      found_then m other has_other = elim (same_or_other m n) as (λ _. (f : Fiber) × (get (with_value kept key fiber) other ≡ Some f) × (f.number ≡ m)) [
        | inl e ↦ (
            let same : other ≡ key = same_Some _ _ (same_Some _ _ (sym has_other ∙ (ap (slice_get keys) e ∙ has))) in
            (fiber, ap (get (with_value kept key fiber)) same ∙ updated.changed, number ∙ sym e))
        | inr not ↦ (let there = keyed.found m other has_other in (there.0, others m other not has_other ∙ there.1, there.2))
      ]

      pub changed_keyed : AreKeyed keys (with_value kept key fiber)
      changed_keyed = record {
        found = found_then;
        many = as_many kept.slots key (Some fiber) (all_found n key has) ∙ keyed.many;
        room = keyed.room;
      }

    -- the fiber of this number gone
    module _ (fewer : Slab Fiber) (updates : Updates kept fewer key None) where
      pub gone_list : kept_in (slice_set keys n None) fewer ≡ slice_set (kept_in keys kept) n None
      gone_list = one_gone keys kept fewer n (λ m other not has_other. updates.others other (apart n m key other has has_other not))

      found_gone : (m other : ℕ) → slice_get (slice_set keys n None) m ≡ Some (Some other) → (f : Fiber) × (get fewer other ≡ Some f) × (f.number ≡ m)
      found_gone m other has_other = elim (same_or_other m n) as (λ _. (f : Fiber) × (get fewer other ≡ Some f) × (f.number ≡ m)) [
        | inl e ↦ absurd (gone_has keys n other (ap (slice_get (slice_set keys n None)) (sym e) ∙ has_other))
        | inr not ↦ (
            let still : slice_get keys m ≡ Some (Some other) = sym (other_has keys n m not) ∙ has_other in
            let there = keyed.found m other still in
            (there.0, updates.others other (apart n m key other has still not) ∙ there.1, there.2))
      ]

      pub gone_keyed : slab_len fewer + 1 ≡ slab_len kept → fewer.capacity ≡ kept.capacity → AreKeyed (slice_set keys n None) fewer
      gone_keyed less same = record {
        found = found_gone;
        many = (
            let one : count_by is_some (slice_set keys n None) + 1 ≡ count_by is_some keys = one_fewer keys n (ap is_some (index_by_get keys n None (Some key) has)) in
            let many : slab_len kept ≡ count_by is_some keys = keyed.many in
            omega (arith, one, many, less));
        room = subst (λ m. 1024 ≤ m) (sym same) keyed.room;
      }

  -- one fiber more, under a key that was vacant
  module _ (key : ℕ) (fiber : Fiber) (more : Slab Fiber) (vacant : get kept key ≡ None) (updates : Updates kept more key (Some fiber)) where
    not_had : (n other : ℕ) → slice_get keys n ≡ Some (Some other) → other ≢ key
    not_had n other has e = (let there = keyed.found n other has in none-some _ (sym vacant ∙ (ap (get kept) (sym e) ∙ there.1)))

    pub added_list : kept_in (keys ++ Some key ∷ []) more ≡ kept_in keys kept ++ Some fiber ∷ []
    added_list =
        one_more_key keys more key
        ∙ ap₂ (λ front last. front ++ last ∷ []) (same_list keys kept more (λ n other has. updates.others other (not_had n other has))) updates.changed

    pub added_keyed : fiber.number ≡ length keys → slab_len more ≡ slab_len kept + 1 → more.capacity ≡ kept.capacity → AreKeyed (keys ++ Some key ∷ []) more
    added_keyed number many same = record {
      found = λ n other has. elim (last_or_before keys n (Some key) (Some other) has) as (λ _. (f : Fiber) × (get more other ≡ Some f) × (f.number ≡ n)) [
        | inl before ↦ (let there = keyed.found n other before in (there.0, updates.others other (not_had n other before) ∙ there.1, there.2))
        | inr last ↦ (fiber, ap (get more) (same_Some _ _ last.1) ∙ updates.changed, number ∙ sym last.0)
      ];
      many = many ∙ (ap (λ n. n + 1) keyed.many ∙ sym (one_more_counted keys key));
      room = subst (λ m. 1024 ≤ m) (sym same) keyed.room;
    }
