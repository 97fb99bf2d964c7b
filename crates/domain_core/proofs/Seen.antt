-- Fibers as they are seen, with the exceptions that lie beside: a change of one of them leaves the others as they were.
use Rattle.std.proofs.Common.{◌≡◌, ◌≢◌, inl, inr, ℕ, zero, suc, ◌+◌, ◌<◌, Bool, List, [], ◌∷◌, ◌++◌, length, slice_set, Option, Some, None, refl, ap, ap₂, ◌∙◌, sym, subst, cond, true≢false, arith}
use Rattle.std.specs.Prelude.{slice_get, count_by, is_some, IsSome}
use Rattle.std.specs.Option.{option_map, option_and_then, unwrap_or}
use Rattle.std.proofs.lemmas.Option.{none-some, same_Some}
use Rattle.std.proofs.lemmas.List.Sums.{sum_by-cons}
use Rattle.slab.specs.Slab.{Slab, get, slab_len, with_value, Updates}
use Rattle.eio_value.specs.declared.raised.Outcome.TheVariants as outcome
use Rattle.eio_value.specs.declared.raised.Raised.{Raised}
use Rattle.fiber_step.specs.Framing.{KeptFrames}
use Rattle.spec_machine.specs.Domain as model
use Rattle.domain_core.specs.declared.fiber.Fiber.{Fiber}
use Rattle.domain_core.specs.declared.standing.Next.TheVariants as next
use Rattle.domain_core.specs.declared.standing.Standing.{Standing}
use Rattle.domain_core.specs.declared.standing.Standing.TheVariants as standing
use Rattle.domain_core.specs.Keeping.{KeptFiber, kept_at, changed_at}
use Rattle.domain_core.specs.Keyed.{standing_of, fiber_of, role_of, thrown_under, thrown_by, thrown_at, raised_in, raised_of, none_raised, plain_standing, seen_as, kept_under, kept_in, fibers_in, HasKey, AreThrown, AreKeyed, IsWithout}
use Rattle.domain_core.specs.Stepping.{Reframes}
use Rattle.domain_core.proofs.ByNumber as numbers
use Rattle.domain_core.proofs.ByNumber.{same_or_other}
use Rattle.domain_core.proofs.KeyLemmas.{under, looked_up, all_found, has_key, kept_by_key, made_is, live_is, key_below, changed_list, gone_list, added_list}

-- ## What is seen of them

pub seen_at : (t : ℕ → Raised) (fibers : List (Option Fiber)) (n : ℕ) → kept_at (seen_as t fibers) n ≡ option_map (fiber_of t) (kept_at fibers n)
seen_at t [] n = refl
seen_at t (x ∷ fibers) zero = refl
seen_at t (x ∷ fibers) (suc n) = seen_at t fibers n

pub seen_length : (t : ℕ → Raised) (fibers : List (Option Fiber)) → length (seen_as t fibers) ≡ length fibers
seen_length t [] = refl
seen_length t (x ∷ fibers) = ap suc (seen_length t fibers)

some_seen : (t : ℕ → Raised) (found : Option Fiber) → is_some (option_map (fiber_of t) found) ≡ is_some found
some_seen t None = refl
some_seen t (Some fiber) = refl

abbrev one_if : Bool → ℕ
one_if b = cond b 1 0

counted : {X : Type 0} (slot : Option X) (slots : List (Option X)) → count_by is_some (slot ∷ slots) ≡ one_if (is_some slot) + count_by is_some slots
counted {X} slot slots = sum_by-cons (λ (x : Option X). one_if (is_some x)) slot slots

-- as many are seen as there are
pub seen_count : (t : ℕ → Raised) (fibers : List (Option Fiber)) → count_by is_some (seen_as t fibers) ≡ count_by is_some fibers
seen_count t [] = refl
seen_count t (x ∷ fibers) =
    counted (option_map (fiber_of t) x) (seen_as t fibers) ∙ (ap₂ (λ b n. one_if b + n) (some_seen t x) (seen_count t fibers) ∙ sym (counted x fibers))

module _ (t u : ℕ → Raised) where
  standing_same : (s : Standing) → ((key : ℕ) → thrown_under s ≡ Some key → u key ≡ t key) → standing_of u s ≡ standing_of t s
  standing_same (standing.Ready it) same = refl
  standing_same (standing.Throws key) same = ap (λ r. model.Ready (model.GoesOn (outcome.Err r))) (same key refl)
  standing_same (standing.Parked it) same = refl
  standing_same standing.AwaitsCancel same = refl

  one_same : (found : Option Fiber) → ((key : ℕ) → thrown_by found ≡ Some key → u key ≡ t key) → option_map (fiber_of u) found ≡ option_map (fiber_of t) found
  one_same None same = refl
  one_same (Some f) same =
      ap (λ s. Some (record { number = f.number; context = f.context; role = role_of f.role; standing = s; frames = f.frames })) (standing_same f.standing same)

  seen_same : (fibers : List (Option Fiber)) → ((m key : ℕ) → thrown_at fibers m ≡ Some key → u key ≡ t key) → seen_as u fibers ≡ seen_as t fibers
  seen_same [] same = refl
  seen_same (x ∷ fibers) same = ap₂ (λ f rest. f ∷ rest) (one_same x (same 0)) (seen_same fibers (λ m. same (suc m)))

  -- another one in the place of one
  pub seen_set : (fibers : List (Option Fiber)) (n : ℕ) (slot : Option Fiber) → ((m key : ℕ) → m ≢ n → thrown_at fibers m ≡ Some key → u key ≡ t key)
      → seen_as u (slice_set fibers n slot) ≡ slice_set (seen_as t fibers) n (option_map (fiber_of u) slot)
  seen_set [] n slot same = refl
  seen_set (x ∷ fibers) zero slot same = ap (λ rest. option_map (fiber_of u) slot ∷ rest) (seen_same fibers (λ m key. same (suc m) key (λ e. omega (arith, e))))
  seen_set (x ∷ fibers) (suc n) slot same =
      ap₂ (λ f rest. f ∷ rest) (one_same x (λ key. same 0 key (λ e. omega (arith, e)))) (seen_set fibers n slot (λ m key other. same (suc m) key (λ e. other (omega (arith, e)))))

-- one more
seen_more : (t : ℕ → Raised) (fibers : List (Option Fiber)) (f : Fiber) → seen_as t (fibers ++ Some f ∷ []) ≡ seen_as t fibers ++ Some (fiber_of t f) ∷ []
seen_more t [] f = refl
seen_more t (x ∷ fibers) f = ap (λ rest. option_map (fiber_of t) x ∷ rest) (seen_more t fibers f)

-- ## The exceptions

-- where one more goes on with none, the others go on with what they did
added_before : (fibers : List (Option Fiber)) (f : Fiber) → thrown_under f.standing ≡ None → (n key : ℕ) → thrown_at (fibers ++ Some f ∷ []) n ≡ Some key → thrown_at fibers n ≡ Some key
added_before [] f none zero key is = absurd (none-some _ (sym none ∙ is))
added_before [] f none (suc n) key is = absurd (none-some _ is)
added_before (x ∷ fibers) f none zero key is = is
added_before (x ∷ fibers) f none (suc n) key is = added_before fibers f none n key is

-- where one was taken out, the others lie there as before
without_other : (gone : Option ℕ) (old new : Slab Raised) → IsWithout gone old new → (k : ℕ) → gone ≢ Some k → get new k ≡ get old k
without_other None old new is k other = ap (λ (s : Slab Raised). get s k) is
without_other (Some key) old new is k other = is.others k (λ e. other (ap (λ m. Some m) (sym e)))

pub none_under : (s : Standing) → ((key : ℕ) → s ≢ standing.Throws key) → thrown_under s ≡ None
none_under (standing.Ready it) other = refl
none_under (standing.Throws key) other = absurd (other key refl)
none_under (standing.Parked it) other = refl
none_under standing.AwaitsCancel other = refl

-- ## How they are kept once one of them was replaced

module _ (fibers : List (Option Fiber)) (old new : Slab Raised) (are : AreThrown fibers old) (n : ℕ) (slot : Option Fiber) (below : n < length fibers)
    (same : (m key : ℕ) → m ≢ n → thrown_at fibers m ≡ Some key → get new key ≡ get old key)
    (there : (key : ℕ) → thrown_by slot ≡ Some key → IsSome (get new key))
    (alone : (m key : ℕ) → m ≢ n → thrown_at fibers m ≡ Some key → thrown_by slot ≡ Some key → ⊥) where
  its_own : (m key : ℕ) → m ≡ n → thrown_at (slice_set fibers n slot) m ≡ Some key → thrown_by slot ≡ Some key
  its_own m key e is = sym (ap thrown_by (ap (kept_at (slice_set fibers n slot)) e ∙ numbers.changed_itself None fibers n slot below)) ∙ is

  anothers : (m key : ℕ) → m ≢ n → thrown_at (slice_set fibers n slot) m ≡ Some key → thrown_at fibers m ≡ Some key
  anothers m key other is = sym (ap thrown_by (numbers.others_unchanged None fibers n m slot other)) ∙ is

  there_then : (m key : ℕ) → thrown_at (slice_set fibers n slot) m ≡ Some key → IsSome (get new key)
  there_then m key is = elim (same_or_other m n) as (λ _. IsSome (get new key)) [
    | inl e ↦ there key (its_own m key e is)
    | inr other ↦ subst (λ (o : Option Raised). IsSome o) (sym (same m key other (anothers m key other is))) (are.there m key (anothers m key other is))
  ]

  apart_then : (m o key : ℕ) → thrown_at (slice_set fibers n slot) m ≡ Some key → thrown_at (slice_set fibers n slot) o ≡ Some key → m ≡ o
  apart_then m o key is also = elim (same_or_other m n) as (λ _. m ≡ o) [
    | inl e ↦ elim (same_or_other o n) as (λ _. m ≡ o) [
      | inl e2 ↦ e ∙ sym e2
      | inr other ↦ absurd (alone o key other (anothers o key other also) (its_own m key e is))
    ]
    | inr other ↦ elim (same_or_other o n) as (λ _. m ≡ o) [
      | inl e2 ↦ absurd (alone m key other (anothers m key other is) (its_own o key e2 also))
      | inr another ↦ are.apart m o key (anothers m key other is) (anothers o key another also)
    ]
  ]

  pub set_thrown : AreThrown (slice_set fibers n slot) new
  set_thrown = record { there = there_then; apart = apart_then }

  pub set_seen : seen_as (raised_in new) (slice_set fibers n slot) ≡ slice_set (seen_as (raised_in old) fibers) n (option_map (fiber_of (raised_in new)) slot)
  set_seen = seen_set (raised_in old) (raised_in new) fibers n slot (λ m key other is. ap (λ (o : Option Raised). unwrap_or o none_raised) (same m key other is))

-- ## The fibers under keys

module _ (keys : List (Option ℕ)) (kept : Slab Fiber) (thrown : Slab Raised) where
  pub kept_has_key : (n : ℕ) → IsSome (kept_at (fibers_in keys kept thrown) n) → HasKey keys n
  kept_has_key n is = has_key keys kept n (sym (some_seen (raised_in thrown) (kept_at (kept_in keys kept) n)) ∙ (ap is_some (sym (seen_at (raised_in thrown) (kept_in keys kept) n)) ∙ is))

  pub seen_by_key : (n key : ℕ) → slice_get keys n ≡ Some (Some key) → kept_at (fibers_in keys kept thrown) n ≡ option_map (fiber_of (raised_in thrown)) (get kept key)
  seen_by_key n key is = seen_at (raised_in thrown) (kept_in keys kept) n ∙ ap (option_map (fiber_of (raised_in thrown))) (kept_by_key keys kept n key is)

  pub made_seen : length (fibers_in keys kept thrown) ≡ length keys
  made_seen = seen_length (raised_in thrown) (kept_in keys kept) ∙ made_is keys kept

  pub live_seen : AreKeyed keys kept → slab_len kept ≡ count_by is_some (fibers_in keys kept thrown)
  live_seen keyed = live_is keys kept keyed ∙ sym (seen_count (raised_in thrown) (kept_in keys kept))

  -- a fiber was replaced by another one of the same number, and the exceptions beside by others
  module _ (keyed : AreKeyed keys kept) (are : AreThrown (kept_in keys kept) thrown) (n key : ℕ) (has : slice_get keys n ≡ Some (Some key))
      (was : Fiber) (stood : get kept key ≡ Some was) where
    pub its_number : was.number ≡ n
    its_number = (let there = keyed.found n key has in ap (λ (f : Fiber). f.number) (same_Some _ _ (sym stood ∙ there.1)) ∙ there.2)

    pub below_made : n < length (kept_in keys kept)
    below_made = (let h : n < length keys = key_below keys n (Some key) has in let e : length (kept_in keys kept) ≡ length keys = made_is keys kept in omega (arith, h, e))

    -- what it threw
    pub its_thrown : thrown_at (kept_in keys kept) n ≡ thrown_under was.standing
    its_thrown = ap thrown_by (kept_by_key keys kept n key has ∙ stood)

    module _ (fiber : Fiber) (number : fiber.number ≡ n) (new : Slab Raised)
        (same : (m k : ℕ) → m ≢ n → thrown_at (kept_in keys kept) m ≡ Some k → get new k ≡ get thrown k)
        (there : (k : ℕ) → thrown_under fiber.standing ≡ Some k → IsSome (get new k))
        (alone : (m k : ℕ) → m ≢ n → thrown_at (kept_in keys kept) m ≡ Some k → thrown_under fiber.standing ≡ Some k → ⊥) where
      pub replaced_thrown : AreThrown (kept_in keys (with_value kept key fiber)) new
      replaced_thrown = subst (λ (fibers : List (Option Fiber)). AreThrown fibers new) (sym (changed_list keys kept keyed n key has fiber number))
          (set_thrown (kept_in keys kept) thrown new are n (Some fiber) below_made same there alone)

      pub replaced_seen : (change : KeptFiber → KeptFiber) → change (fiber_of (raised_in thrown) was) ≡ fiber_of (raised_in new) fiber
          → fibers_in keys (with_value kept key fiber) new ≡ changed_at n change (fibers_in keys kept thrown)
      replaced_seen change changes =
          ap (seen_as (raised_in new)) (changed_list keys kept keyed n key has fiber number)
          ∙ (set_seen (kept_in keys kept) thrown new are n (Some fiber) below_made same there alone
          ∙ ap (λ (slot : Option KeptFiber). slice_set (fibers_in keys kept thrown) n slot)
          (ap (λ (f : KeptFiber). Some f) (sym changes) ∙ sym (ap (option_map change) (seen_by_key n key has ∙ ap (option_map (fiber_of (raised_in thrown))) stood))))

    -- it stands as it did, and goes on with what it did
    module _ (fiber : Fiber) (number : fiber.number ≡ n) (stands : fiber.standing ≡ was.standing) where
      its_own_there : (k : ℕ) → thrown_under fiber.standing ≡ Some k → IsSome (get thrown k)
      its_own_there k is = are.there n k (its_thrown ∙ (ap thrown_under (sym stands) ∙ is))

      its_own_alone : (m k : ℕ) → m ≢ n → thrown_at (kept_in keys kept) m ≡ Some k → thrown_under fiber.standing ≡ Some k → ⊥
      its_own_alone m k other is also = other (are.apart m n k is (its_thrown ∙ (ap thrown_under (sym stands) ∙ also)))

      pub stayed_thrown : AreThrown (kept_in keys (with_value kept key fiber)) thrown
      stayed_thrown = replaced_thrown fiber number thrown (λ m k other is. refl) its_own_there its_own_alone

      pub stayed_seen : (change : KeptFiber → KeptFiber) → change (fiber_of (raised_in thrown) was) ≡ fiber_of (raised_in thrown) fiber
          → fibers_in keys (with_value kept key fiber) thrown ≡ changed_at n change (fibers_in keys kept thrown)
      stayed_seen = replaced_seen fiber number thrown (λ m k other is. refl) its_own_there its_own_alone

    -- it has other frames
    module _ (frames : KeptFrames) where
      abbrev pub reframed : Reframes n (fibers_in keys kept thrown) (fibers_in keys (with_value kept key (record was { frames = frames })) thrown)
      reframed = record {
        fiber = fiber_of (raised_in thrown) was;
        there = seen_by_key n key has ∙ ap (option_map (fiber_of (raised_in thrown))) stood;
        frames = frames;
        is = stayed_seen (record was { frames = frames }) its_number refl (λ it. record it { frames = frames }) refl;
      }

    -- what it went on with is forgotten
    module _ (new : Slab Raised) (without : IsWithout (thrown_under was.standing) thrown new) where
      others_stay : (m k : ℕ) → m ≢ n → thrown_at (kept_in keys kept) m ≡ Some k → get new k ≡ get thrown k
      others_stay m k other is = without_other (thrown_under was.standing) thrown new without k (λ e. other (are.apart m n k is (its_thrown ∙ e)))

      -- and it goes on with no exception
      module _ (stands : Standing) (none : thrown_under stands ≡ None) where
        none_there : (k : ℕ) → thrown_under stands ≡ Some k → IsSome (get new k)
        none_there k is = absurd (none-some _ (sym none ∙ is))

        none_alone : (m k : ℕ) → m ≢ n → thrown_at (kept_in keys kept) m ≡ Some k → thrown_under stands ≡ Some k → ⊥
        none_alone m k other is also = none-some _ (sym none ∙ also)

        pub stood_thrown : AreThrown (kept_in keys (with_value kept key (record was { standing = stands }))) new
        stood_thrown = replaced_thrown (record was { standing = stands }) its_number new others_stay none_there none_alone

        pub stood_seen : fibers_in keys (with_value kept key (record was { standing = stands })) new
            ≡ changed_at n (λ fiber. record fiber { standing = plain_standing stands }) (fibers_in keys kept thrown)
        stood_seen = replaced_seen (record was { standing = stands }) its_number new others_stay none_there none_alone (λ fiber. record fiber { standing = plain_standing stands })
            (ap (λ (s : model.Standing). record (fiber_of (raised_in thrown) was) { standing = s })
            (standing_same (raised_in new) (λ k. none_raised) stands (λ k is. absurd (none-some _ (sym none ∙ is)))))

      -- and it is gone
      module _ (fewer : Slab Fiber) (updates : Updates kept fewer key None) where
        nothing_there : (k : ℕ) → thrown_by None ≡ Some k → IsSome (get new k)
        nothing_there k is = absurd (none-some _ is)

        nothing_alone : (m k : ℕ) → m ≢ n → thrown_at (kept_in keys kept) m ≡ Some k → thrown_by None ≡ Some k → ⊥
        nothing_alone m k other is also = none-some _ also

        gone_is : kept_in (slice_set keys n None) fewer ≡ slice_set (kept_in keys kept) n None
        gone_is = gone_list keys kept keyed n key has fewer updates

        pub gone_thrown : AreThrown (kept_in (slice_set keys n None) fewer) new
        gone_thrown = subst (λ (fibers : List (Option Fiber)). AreThrown fibers new) (sym gone_is)
            (set_thrown (kept_in keys kept) thrown new are n None below_made others_stay nothing_there nothing_alone)

        pub gone_seen : fibers_in (slice_set keys n None) fewer new ≡ slice_set (fibers_in keys kept thrown) n None
        gone_seen = ap (seen_as (raised_in new)) gone_is ∙ set_seen (kept_in keys kept) thrown new are n None below_made others_stay nothing_there nothing_alone

    -- an exception more lies beside, with which it goes on, and what it went on with is forgotten
    module _ (raised : Raised) (beside more : Slab Raised) (under : ℕ) (others_lie : (k : ℕ) → get beside k ≡ get thrown k)
        (vacant : get beside under ≡ None) (updates : Updates beside more under (Some raised)) where
      not_had : (m k : ℕ) → thrown_at (kept_in keys kept) m ≡ Some k → k ≢ under
      not_had m k is e = true≢false (sym (are.there m k is) ∙ ap is_some (sym (others_lie k) ∙ (ap (get beside) e ∙ vacant)))

      pub still_there : (k : ℕ) → thrown_under was.standing ≡ Some k → IsSome (get more k)
      still_there k is = (
          let at_it : thrown_at (kept_in keys kept) n ≡ Some k = its_thrown ∙ is in
          subst (λ (o : Option Raised). IsSome o) (sym (updates.others k (not_had n k at_it) ∙ others_lie k)) (are.there n k at_it))

      module _ (new : Slab Raised) (without : IsWithout (thrown_under was.standing) more new) where
        others_lie_there : (m k : ℕ) → m ≢ n → thrown_at (kept_in keys kept) m ≡ Some k → get new k ≡ get thrown k
        others_lie_there m k other is =
            without_other (thrown_under was.standing) more new without k (λ e. other (are.apart m n k is (its_thrown ∙ e)))
            ∙ (updates.others k (not_had m k is) ∙ others_lie k)

        is_new : get new under ≡ Some raised
        is_new = without_other (thrown_under was.standing) more new without under (λ e. not_had n under (its_thrown ∙ e) refl) ∙ updates.changed

        new_there : (k : ℕ) → Some under ≡ Some k → IsSome (get new k)
        new_there k is = subst (λ (o : Option Raised). IsSome o) (sym (ap (get new) (sym (same_Some _ _ is)) ∙ is_new)) refl

        new_alone : (m k : ℕ) → m ≢ n → thrown_at (kept_in keys kept) m ≡ Some k → Some under ≡ Some k → ⊥
        new_alone m k other is also = not_had m k is (sym (same_Some _ _ also))

        abbrev throwing : Fiber
        throwing = record was { standing = standing.Throws under }

        pub throws_thrown : AreThrown (kept_in keys (with_value kept key throwing)) new
        throws_thrown = replaced_thrown throwing its_number new others_lie_there new_there new_alone

        pub throws_seen : fibers_in keys (with_value kept key throwing) new
            ≡ changed_at n (λ fiber. record fiber { standing = model.Ready (model.GoesOn (outcome.Err raised)) }) (fibers_in keys kept thrown)
        throws_seen = replaced_seen throwing its_number new others_lie_there new_there new_alone (λ fiber. record fiber { standing = model.Ready (model.GoesOn (outcome.Err raised)) })
            (ap (λ (r : Raised). record (fiber_of (raised_in thrown) was) { standing = model.Ready (model.GoesOn (outcome.Err r)) }) (ap (λ (o : Option Raised). unwrap_or o none_raised) (sym is_new)))

    -- the exception that it goes on with
    raised_by : (s : Standing) → thrown_under s ≡ None → raised_of (standing_of (raised_in thrown) s) ≡ None
    raised_by (standing.Ready (next.GoesOn it)) none = refl
    raised_by (standing.Ready next.LooksUp) none = refl
    raised_by (standing.Ready next.FindsOff) none = refl
    raised_by (standing.Ready (next.CallsAgain it)) none = refl
    raised_by (standing.Throws k) none = absurd (none-some _ (sym none))
    raised_by (standing.Parked it) none = refl
    raised_by standing.AwaitsCancel none = refl

    raised_is : kept_at (fibers_in keys kept thrown) n ≡ Some (fiber_of (raised_in thrown) was)
    raised_is = seen_by_key n key has ∙ ap (option_map (fiber_of (raised_in thrown))) stood

    pub none_thrown : thrown_under was.standing ≡ None → option_and_then (λ (fiber : KeptFiber). raised_of fiber.standing) (kept_at (fibers_in keys kept thrown) n) ≡ None
    none_thrown none = ap (option_and_then (λ (fiber : KeptFiber). raised_of fiber.standing)) raised_is ∙ raised_by was.standing none

    some_raised : (o : Option Raised) → IsSome o → Some (unwrap_or o none_raised) ≡ o
    some_raised None is = absurd (true≢false (sym is))
    some_raised (Some r) is = refl

    pub some_thrown : (k : ℕ) → was.standing ≡ standing.Throws k → option_and_then (λ (fiber : KeptFiber). raised_of fiber.standing) (kept_at (fibers_in keys kept thrown) n) ≡ get thrown k
    some_thrown k is =
        ap (option_and_then (λ (fiber : KeptFiber). raised_of fiber.standing)) raised_is
        ∙ (ap (λ s. raised_of (standing_of (raised_in thrown) s)) is ∙ some_raised (get thrown k) (are.there n k (its_thrown ∙ ap thrown_under is)))

  -- one more fiber, which goes on with no exception
  module _ (keyed : AreKeyed keys kept) (are : AreThrown (kept_in keys kept) thrown) (key : ℕ) (fiber : Fiber) (more : Slab Fiber) (vacant : get kept key ≡ None) (updates : Updates kept more key (Some fiber))
      (none : thrown_under fiber.standing ≡ None) where
    added_is : kept_in (keys ++ Some key ∷ []) more ≡ kept_in keys kept ++ Some fiber ∷ []
    added_is = added_list keys kept keyed key fiber more vacant updates

    pub added_thrown : AreThrown (kept_in (keys ++ Some key ∷ []) more) thrown
    added_thrown = subst (λ (fibers : List (Option Fiber)). AreThrown fibers thrown) (sym added_is) (record {
      there = λ m k is. are.there m k (added_before (kept_in keys kept) fiber none m k is);
      apart = λ m o k is also. are.apart m o k (added_before (kept_in keys kept) fiber none m k is) (added_before (kept_in keys kept) fiber none o k also);
    })

    pub added_seen : fibers_in (keys ++ Some key ∷ []) more thrown ≡ fibers_in keys kept thrown ++ Some (fiber_of (raised_in thrown) fiber) ∷ []
    added_seen = ap (seen_as (raised_in thrown)) added_is ∙ seen_more (raised_in thrown) (kept_in keys kept) fiber

  -- how the fiber of a number stands
  stands_as : (found : Option Fiber) → option_map (λ (f : KeptFiber). f.standing) (option_map (fiber_of (raised_in thrown)) found) ≡ option_map (λ (f : Fiber). standing_of (raised_in thrown) f.standing) found
  stands_as None = refl
  stands_as (Some f) = refl

  under_as : (found : Option (Option ℕ)) → under kept found ≡ kept_under kept (unwrap_or found None)
  under_as None = refl
  under_as (Some key) = refl

  pub standing_seen : (n : ℕ) (found : Option ℕ) → found ≡ kept_at keys n
      → option_map (λ (f : Fiber). standing_of (raised_in thrown) f.standing) (kept_under kept found) ≡ option_map (λ (f : KeptFiber). f.standing) (kept_at (fibers_in keys kept thrown) n)
  standing_seen n found is = sym (
      ap (option_map (λ (f : KeptFiber). f.standing))
      (seen_at (raised_in thrown) (kept_in keys kept) n ∙ ap (option_map (fiber_of (raised_in thrown))) (looked_up keys kept n ∙ (under_as (slice_get keys n) ∙ ap (kept_under kept) (sym is))))
      ∙ stands_as (kept_under kept found))

  has_by : (found : Option (Option ℕ)) (key : ℕ) → Some key ≡ unwrap_or found None → found ≡ Some (Some key)
  has_by None key is = absurd (none-some _ (sym is))
  has_by (Some it) key is = ap (λ k. Some k) (sym is)

  pub there_under : AreKeyed keys kept → (n key : ℕ) → Some key ≡ kept_at keys n → IsSome (get kept key)
  there_under keyed n key is = all_found keys kept keyed n key (has_by (slice_get keys n) key is)
