-- What the calls make of the tree: a context has a reason, one more is made, one ends. Each keeps the invariant, and changes the list as the definition does.
use Rattle.std.proofs.Common.{◌≡◌, ℕ, zero, suc, ◌+◌, ◌<◌, ◌≤◌, ◌≢◌, inl, inr, Bool, true, false, not, List, [], ◌∷◌, ◌++◌, length, slice_set, get_or, Option, Some, None, arith, refl, ap, ap₂, ◌∙◌, sym, subst, true≢false, length-append, add-one, cond}
use Rattle.std.specs.Prelude.{is_some, is_none, slice_get, count_by, nat_le, ◌&&◌}
use Rattle.std.proofs.lemmas.Grind.{common_steps}
use Rattle.std.proofs.lemmas.List.Sums.{sum_by-cons}
use Rattle.std.specs.Option.{option_map, option_and_then}
use Rattle.std.proofs.lemmas.Bool.Decides.{eqb_tells}
use Rattle.eio_value.specs.declared.plain.Plain.{Plain}
use Rattle.slab.specs.Slab.{Slab, get, slab_len, with_value, Updates}
use Rattle.spec_parts.specs.Contexts.{Context, never_made, context_at, is_live, live_count, is_full, Made, make, off, takes_effect, cancel}
use Rattle.cancel_tree.specs.declared.kept.Jump.{Jump}
use Rattle.cancel_tree.specs.declared.kept.KeptContext.{KeptContext}
use Rattle.cancel_tree.specs.declared.kept.ContextKey.{ContextKey}
use Rattle.cancel_tree.specs.Places.{place_at}
use Rattle.cancel_tree.specs.KeptContext.{kept_at, context_of, listed, contexts_in, reason_count, Stands, IsTree}
use Rattle.cancel_tree.specs.Endings.{HasNoLiveChild}
use Rattle.cancel_tree.proofs.Finding.{place_at-number, below_found, Rise-append, AreBelow-next, place_at-append_other, place_at-append_itself, rest_of, Rise-rest, AreBelow-rest, place_at-rest_other, place_at-rest_itself, absent_past}
use Rattle.cancel_tree.proofs.Listing.{length-listed, listed_set, listed_same, live_count-set, live_count-append, live_count-end}
use Rattle.cancel_tree.proofs.Reasons.{counts_as, reason_count-append, reason_count-set}
use Rattle.cancel_tree.proofs.Trees.{OffGoesOn, stands_there, live_is_placed, at_own, off_ends}

-- A value of a slab changes

pub same_there : (slots : List (Option KeptContext)) (key : ℕ) (old new : KeptContext) → get_or slots key None ≡ Some old → get_or (slice_set slots key (Some new)) key None ≡ Some new
same_there [] key old new e = cc
same_there (slot ∷ slots) zero old new e = refl
same_there (slot ∷ slots) (suc key) old new e = same_there slots key old new e

pub others_there : (slots : List (Option KeptContext)) (key other : ℕ) (new : Option KeptContext) → other ≢ key → get_or (slice_set slots key new) other None ≡ get_or slots other None
others_there [] key other new apart = refl
others_there (slot ∷ slots) zero zero new apart = absurd (apart refl)
others_there (slot ∷ slots) zero (suc other) new apart = refl
others_there (slot ∷ slots) (suc key) zero new apart = refl
others_there (slot ∷ slots) (suc key) (suc other) new apart = others_there slots key other new (λ e. apart (ap suc e))

abbrev one_if : Bool → ℕ
one_if b = cond b 1 0

counted : (slot : Option KeptContext) (slots : List (Option KeptContext)) → count_by is_some (slot ∷ slots) ≡ one_if (is_some slot) + count_by is_some slots
counted slot slots = sum_by-cons (λ (slot : Option KeptContext). one_if (is_some slot)) slot slots

as_many : (slots : List (Option KeptContext)) (key : ℕ) (old new : KeptContext) → get_or slots key None ≡ Some old → count_by is_some (slice_set slots key (Some new)) ≡ count_by is_some slots
as_many [] key old new e = refl
as_many (slot ∷ slots) zero old new e = counted (Some new) slots ∙ ap (λ (slot : Option KeptContext). one_if (is_some slot) + count_by is_some slots) (sym e) ∙ sym (counted slot slots)
as_many (slot ∷ slots) (suc key) old new e = counted slot (slice_set slots key (Some new)) ∙ ap (λ n. one_if (is_some slot) + n) (as_many slots key old new e) ∙ sym (counted slot slots)

-- Whether one more may be made

pub not_full : (contexts : List Context) (n : ℕ) → live_count contexts ≡ n → n < 4096 → is_full contexts ≡ false
not_full contexts n e h = rw e (refuses n h)
  where
    refuses : (n : ℕ) → n < 4096 → nat_le 4096 n ≡ false
    refuses n h = grind (arith, common_steps)

pub make_number : (context : Context) (contexts : List Context) → is_full contexts ≡ false → (make context contexts).number ≡ Some (length contexts)
make_number context contexts e = by (is_full contexts) e
  where
    by : (full : Bool) → full ≡ false → (let answer : Made = elim full [ true ↦ record { number = None; contexts = contexts } | false ↦ record { number = Some (length contexts); contexts = contexts ++ context ∷ [] } ] in answer.number) ≡ Some (length contexts)
    by true e = absurd (true≢false e)
    by false e = refl

pub make_full : (context : Context) (contexts : List Context) → is_full contexts ≡ true → (make context contexts).contexts ≡ contexts
make_full context contexts e = by (is_full contexts) e
  where
    by : (full : Bool) → full ≡ true → (let answer : Made = elim full [ true ↦ record { number = None; contexts = contexts } | false ↦ record { number = Some (length contexts); contexts = contexts ++ context ∷ [] } ] in answer.contexts) ≡ contexts
    by true e = refl
    by false e = absurd (true≢false (sym e))

pub make_contexts : (context : Context) (contexts : List Context) → is_full contexts ≡ false → (make context contexts).contexts ≡ contexts ++ context ∷ []
make_contexts context contexts e = by (is_full contexts) e
  where
    by : (full : Bool) → full ≡ false → (let answer : Made = elim full [ true ↦ record { number = None; contexts = contexts } | false ↦ record { number = Some (length contexts); contexts = contexts ++ context ∷ [] } ] in answer.contexts) ≡ contexts ++ context ∷ []
    by true e = absurd (true≢false e)
    by false e = refl

-- Whether a cancellation takes effect

pub takes_not_live : (contexts : List Context) (c : ℕ) → is_live contexts c ≡ false → takes_effect contexts c ≡ false
takes_not_live contexts c e = ap (λ b. b && is_none (off contexts c)) e

and_true : (a b : Bool) → a ≡ true → b ≡ true → (a && b) ≡ true
and_true true true e f = refl
and_true true false e f = f
and_true false b e f = e

pub takes : (contexts : List Context) (c : ℕ) → is_live contexts c ≡ true → is_some (off contexts c) ≡ false → takes_effect contexts c ≡ true
takes contexts c lives fresh = and_true (is_live contexts c) (is_none (off contexts c)) lives (ap not fresh)

pub cancel_none : (contexts : List Context) (c : ℕ) (why : Plain) → takes_effect contexts c ≡ false → cancel c why contexts ≡ contexts
cancel_none contexts c why e = by (takes_effect contexts c) e
  where
    by : (takes : Bool) → takes ≡ false → ◌≡◌ {A = List Context} (elim takes [ true ↦ slice_set contexts c (record (context_at contexts c) { reason = Some why }) | false ↦ contexts ]) contexts
    by true e = absurd (true≢false e)
    by false e = refl

pub cancel_some : (contexts : List Context) (c : ℕ) (why : Plain) → takes_effect contexts c ≡ true → cancel c why contexts ≡ slice_set contexts c (record (context_at contexts c) { reason = Some why })
cancel_some contexts c why e = by (takes_effect contexts c) e
  where
    by : (takes : Bool) → takes ≡ true → ◌≡◌ {A = List Context} (elim takes [ true ↦ slice_set contexts c (record (context_at contexts c) { reason = Some why }) | false ↦ contexts ]) (slice_set contexts c (record (context_at contexts c) { reason = Some why }))
    by true e = refl
    by false e = absurd (true≢false (sym e))

pub length-contexts_in : (made : ℕ) (kept : Slab KeptContext) (places : List ContextKey) → length (contexts_in made kept places) ≡ made
unfolding contexts_in
length-contexts_in made kept places = length-listed made (λ c. context_of (kept_at kept places c))

pub found_if : (found : Option ContextKey) → is_some found ≡ true → (place : ContextKey) × (found ≡ Some place)
found_if None e = absurd (true≢false (sym e))
found_if (Some place) e = (place, refl)

module _ (made : ℕ) (kept : Slab KeptContext) (places : List ContextKey) (tree : IsTree made kept places) where
  -- two numbers aren't kept under one key
  pub keys_differ : (c x : ℕ) (place other : ContextKey) → place_at places c ≡ Some place → place_at places x ≡ Some other → x ≢ c → other.key ≢ place.key
  keys_differ c x place other at there apart same =
      let first : Stands made kept places place = tree.stands c place at in
      let second : Stands made kept places other = tree.stands x other there in
      let one : second.context ≡ first.context = (let f : get kept place.key ≡ Some first.context = first.found in let g : get kept other.key ≡ Some second.context = second.found in let h : get kept other.key ≡ get kept place.key = ap (get kept) same in cc) in
      apart (sym (place_at-number places x other there) ∙ sym second.number ∙ ap (λ (context : KeptContext). context.number) one ∙ first.number ∙ place_at-number places c place at)

  -- a place stands as it stood, where its context is kept and its parent's place is unchanged
  pub stays_standing : (made' : ℕ) (kept' : Slab KeptContext) (places' : List ContextKey) (place : ContextKey) (there : Stands made kept places place) → get kept' place.key ≡ get kept place.key
      → ((parent : ContextKey) → there.context.parent ≡ Some parent → place_at places' parent.number ≡ place_at places parent.number) → Stands made' kept' places' place
  stays_standing made' kept' places' place there same parents = record {
    context = there.context;
    found = same ∙ there.found;
    number = there.number;
    older = there.older;
    placed = λ parent e. parents parent e ∙ there.placed parent e;
  }

  -- a live parent is found at its place
  pub parent_is_placed : (number : ℕ) (found : Option ContextKey) → is_live (contexts_in made kept places) number ≡ true → found ≡ place_at places number
      → (option_map (λ (place : ContextKey). place.number) found ≡ Some number) × ((p : ContextKey) → found ≡ Some p → place_at places p.number ≡ Some p)
  parent_is_placed number found lives e =
      let there = found_if found (ap is_some e ∙ sym (live_is_placed made kept places tree number) ∙ lives) in (
        ap (option_map (λ (place : ContextKey). place.number)) there.1 ∙ ap Some (place_at-number places number there.0 (sym e ∙ there.1)),
        λ p f. at_own places number p (sym e ∙ f),
      )

  placed_below : (c : ℕ) (place : ContextKey) → place_at places c ≡ Some place → c < length (contexts_in made kept places)
  placed_below c place at = subst (λ n. c < n) (sym (length-contexts_in made kept places)) (below_found made places c place tree.below at)

  -- A reason

  module _ (c : ℕ) (place : ContextKey) (context changed : KeptContext) (kept' : Slab KeptContext) (at : place_at places c ≡ Some place) (found : get kept place.key ≡ Some context)
      (number : changed.number ≡ context.number) (parent : changed.parent ≡ context.parent)
      (itself : get kept' place.key ≡ Some changed) (others : (key : ℕ) → key ≢ place.key → get kept' key ≡ get kept key) where
    kept_others : (x : ℕ) → x ≢ c → context_of (kept_at kept places x) ≡ context_of (kept_at kept' places x)
    kept_others x apart = by (place_at places x) refl
      where
        by : (there : Option ContextKey) → place_at places x ≡ there → context_of (option_and_then (λ (place : ContextKey). get kept place.key) there) ≡ context_of (option_and_then (λ (place : ContextKey). get kept' place.key) there)
        by None e = refl
        by (Some other) e = ap context_of (sym (others other.key (keys_differ c x place other at e apart)))

    kept_itself : context_of (kept_at kept' places c) ≡ context_of (Some changed)
    kept_itself = ap (λ there. context_of (option_and_then (λ (place : ContextKey). get kept' place.key) there)) at ∙ ap context_of itself

    pub changed_list : contexts_in made kept' places ≡ slice_set (contexts_in made kept places) c (context_of (Some changed))
    unfolding contexts_in
    changed_list =
        listed_set made (λ x. context_of (kept_at kept places x)) (λ x. context_of (kept_at kept' places x)) c (below_found made places c place tree.below at) (λ x below apart. kept_others x apart)
        ∙ ap (slice_set (listed made (λ x. context_of (kept_at kept places x))) c) kept_itself

    -- the count of reasons goes by what the context had and has
    pub changed_count : reason_count (contexts_in made kept' places) + counts_as context.reason ≡ reason_count (contexts_in made kept places) + counts_as changed.reason
    changed_count =
        ap (λ contexts. reason_count contexts + counts_as context.reason) changed_list
        ∙ ap (λ (there : Context). reason_count (slice_set (contexts_in made kept places) c (context_of (Some changed))) + counts_as there.reason) (sym (stands_there made kept places tree c place context at found))
        ∙ reason_count-set (contexts_in made kept places) c (context_of (Some changed)) (placed_below c place at)

    pub changed_tree : slab_len kept' ≡ slab_len kept → kept'.capacity ≡ kept.capacity → IsTree made kept' places
    changed_tree many room = record {
      rise = tree.rise;
      below = tree.below;
      stands = λ x other e. elim (eqb_tells x c) [
        | inl same ↦ stands_changed x other e same.1
        | inr apart ↦ stays_standing made kept' places other (tree.stands x other e) (others other.key (keys_differ c x place other at e apart.1)) (λ parent e. refl)
      ];
      live =
          ap live_count changed_list
          ∙ live_count-set (contexts_in made kept places) c (context_of (Some changed)) (sym (ap (λ (context : Context). context.ended) (stands_there made kept places tree c place context at found)))
          ∙ tree.live;
      many = many ∙ tree.many;
      room = subst (λ n. 4096 ≤ n) (sym room) tree.room;
    }
      where
        stands_changed : (x : ℕ) (other : ContextKey) → place_at places x ≡ Some other → x ≡ c → Stands made kept' places other
        stands_changed x other e same =
            let one : place ≡ other = (let h : place_at places x ≡ place_at places c = ap (place_at places) same in cc) in
            let there : Stands made kept places place = tree.stands c place at in
            let context_is : there.context ≡ context = (let h : get kept place.key ≡ Some there.context = there.found in cc) in
            subst (Stands made kept' places) one record {
              context = changed;
              found = itself;
              number = number ∙ ap (λ (context : KeptContext). context.number) (sym context_is) ∙ there.number;
              older = λ p e. there.older p (ap (λ (context : KeptContext). context.parent) context_is ∙ sym parent ∙ e);
              placed = λ p e. there.placed p (ap (λ (context : KeptContext). context.parent) context_is ∙ sym parent ∙ e);
            }

  -- the context at a place has a reason from now on
  abbrev pub with_reason : KeptContext → Plain → KeptContext
  with_reason context why = record context { reason = Some why }

  module _ (c : ℕ) (place : ContextKey) (context : KeptContext) (why : Plain) (at : place_at places c ≡ Some place) (found : get kept place.key ≡ Some context) where
    pub cancelled_tree : IsTree made (with_value kept place.key (with_reason context why)) places
    cancelled_tree =
        changed_tree c place context (with_reason context why) (with_value kept place.key (with_reason context why)) at found refl refl
        (same_there kept.slots place.key context (with_reason context why) found)
        (λ key apart. others_there kept.slots place.key key (Some (with_reason context why)) apart)
        (as_many kept.slots place.key context (with_reason context why) found)
        refl

    -- a context that isn't off has no reason of its own
    had_none : off (contexts_in made kept places) c ≡ None → is_some context.reason ≡ false
    had_none fresh = by (is_some context.reason) refl
      where
        by : (some : Bool) → is_some context.reason ≡ some → is_some context.reason ≡ false
        by true e =
            let goes : OffGoesOn (contexts_in made kept places) places c (Some place) = (at_own places c place at, ap (off (contexts_in made kept places)) (sym (place_at-number places c place at))) in
            absurd (true≢false (sym e ∙ ap is_some (sym (off_ends made kept places tree c place context goes found e) ∙ fresh)))
        by false e = e

    pub cancelled_count : off (contexts_in made kept places) c ≡ None → reason_count (contexts_in made (with_value kept place.key (with_reason context why)) places) ≡ reason_count (contexts_in made kept places) + 1
    cancelled_count fresh =
        let counts =
        changed_count c place context (with_reason context why) (with_value kept place.key (with_reason context why)) at found refl refl
        (same_there kept.slots place.key context (with_reason context why) found)
        (λ key apart. others_there kept.slots place.key key (Some (with_reason context why)) apart) in
        let had : counts_as context.reason ≡ 0 = ap one_if (had_none fresh) in
        omega (arith, counts, had)

    pub cancelled_list : takes_effect (contexts_in made kept places) c ≡ true → contexts_in made (with_value kept place.key (with_reason context why)) places ≡ cancel c why (contexts_in made kept places)
    cancelled_list effect =
        changed_list c place context (with_reason context why) (with_value kept place.key (with_reason context why)) at found refl refl
        (same_there kept.slots place.key context (with_reason context why) found)
        (λ key apart. others_there kept.slots place.key key (Some (with_reason context why)) apart)
        ∙ ap (λ (there : Context). slice_set (contexts_in made kept places) c (record there { reason = Some why })) (sym (stands_there made kept places tree c place context at found))
        ∙ sym (cancel_some (contexts_in made kept places) c why effect)

  -- One more

  module _ (key : ℕ) (parent : Option ContextKey) (protected : Bool) (jump : Option Jump) (kept' : Slab KeptContext) (vacant : get kept key ≡ None)
      (updates : Updates kept kept' key (Some (record { number = made; parent = parent; protected = protected; reason = None; jump = jump })))
      (placed : (p : ContextKey) → parent ≡ Some p → place_at places p.number ≡ Some p) where
    abbrev pub new_place : ContextKey
    new_place = record { number = made; key = key }

    abbrev pub new_kept : KeptContext
    new_kept = record { number = made; parent = parent; protected = protected; reason = None; jump = jump }

    abbrev pub more : List ContextKey
    more = places ++ new_place ∷ []

    pub key_is_new : (x : ℕ) (place : ContextKey) → place_at places x ≡ Some place → place.key ≢ key
    key_is_new x place e same =
        let there : Stands made kept places place = tree.stands x place e in
        let f : get kept place.key ≡ Some there.context = there.found in
        let g : get kept place.key ≡ get kept key = ap (get kept) same in
        cc

    older_apart : (x : ℕ) → x < made → made ≢ x
    older_apart x below e = absurd (omega arith)

    kept_older_ones : (x : ℕ) → x < made → context_of (kept_at kept' more x) ≡ context_of (kept_at kept places x)
    kept_older_ones x below =
        ap (λ there. context_of (option_and_then (λ (place : ContextKey). get kept' place.key) there)) (place_at-append_other places new_place x (older_apart x below))
        ∙ by (place_at places x) refl
      where
        by : (there : Option ContextKey) → place_at places x ≡ there → context_of (option_and_then (λ (place : ContextKey). get kept' place.key) there) ≡ context_of (option_and_then (λ (place : ContextKey). get kept place.key) there)
        by None e = refl
        by (Some place) e = ap context_of (updates.others place.key (key_is_new x place e))

    no_place_yet : place_at places made ≡ None
    no_place_yet = absent_past made made places (omega arith) tree.below

    pub new_there : place_at more made ≡ Some new_place
    new_there = place_at-append_itself places new_place made refl no_place_yet

    pub made_list : contexts_in (made + 1) kept' more ≡ contexts_in made kept places ++ context_of (Some (record { number = made; parent = parent; protected = protected; reason = None; jump = jump })) ∷ []
    unfolding contexts_in listed
    made_list =
        ap (λ n. listed n (λ x. context_of (kept_at kept' more x))) (add-one made)
        ∙ ap₂ (λ contexts context. contexts ++ context ∷ [])
        (listed_same made (λ x. context_of (kept_at kept' more x)) (λ x. context_of (kept_at kept places x)) kept_older_ones)
        (ap (λ there. context_of (option_and_then (λ (place : ContextKey). get kept' place.key) there)) new_there ∙ ap context_of updates.changed)

    pub made_count : reason_count (contexts_in (made + 1) kept' more) ≡ reason_count (contexts_in made kept places)
    made_count = ap reason_count made_list ∙ reason_count-append (contexts_in made kept places) (context_of (Some new_kept)) refl

    more_many : length more ≡ length places + 1
    more_many = length-append places (new_place ∷ [])

    pub made_tree : slab_len kept' ≡ slab_len kept + 1 → kept'.capacity ≡ kept.capacity → IsTree (made + 1) kept' more
    made_tree many room = record {
      rise = Rise-append places new_place tree.rise tree.below;
      below = AreBelow-next made places new_place tree.below refl;
      stands = λ x place e. elim (eqb_tells x made) [ inl same ↦ stands_new x place e same.1 | inr apart ↦ stands_old x place e apart.1 ];
      live =
          ap live_count made_list
          ∙ live_count-append (contexts_in made kept places) (context_of (Some new_kept)) refl
          ∙ ap (λ n. n + 1) tree.live
          ∙ sym more_many;
      many = many ∙ ap (λ n. n + 1) tree.many ∙ sym more_many;
      room = subst (λ n. 4096 ≤ n) (sym room) tree.room;
    }
      where
        parent_stays : (p : ContextKey) → place_at places p.number ≡ Some p → place_at more p.number ≡ Some p
        parent_stays p e = place_at-append_other places new_place p.number (λ same. let below : p.number < made = below_found made places p.number p tree.below e in absurd (omega arith)) ∙ e

        stands_new : (x : ℕ) (place : ContextKey) → place_at more x ≡ Some place → x ≡ made → Stands (made + 1) kept' more place
        stands_new x place e same =
            let one : new_place ≡ place = (let h : place_at more x ≡ place_at more made = ap (place_at more) same in let g : place_at more made ≡ Some new_place = new_there in cc) in
            subst (Stands (made + 1) kept' more) one record {
              context = new_kept;
              found = updates.changed;
              number = refl;
              older = λ p e. below_found made places p.number p tree.below (placed p e);
              placed = λ p e. parent_stays p (placed p e);
            }

        stands_old : (x : ℕ) (place : ContextKey) → place_at more x ≡ Some place → x ≢ made → Stands (made + 1) kept' more place
        stands_old x place e apart =
            let before : place_at places x ≡ Some place = sym (place_at-append_other places new_place x (λ same. apart (sym same))) ∙ e in
            let there : Stands made kept places place = tree.stands x place before in
            stays_standing (made + 1) kept' more place there (updates.others place.key (key_is_new x place before))
            (λ p e. parent_stays p (there.placed p e) ∙ sym (there.placed p e))

  -- One ends

  module _ (c i : ℕ) (gone : ContextKey) (kept' : Slab KeptContext) (at : place_at places c ≡ Some gone) (there : slice_get places i ≡ Some gone)
      (updates : Updates kept kept' gone.key None)
      (childless : HasNoLiveChild (contexts_in made kept places) c) where
    abbrev pub fewer : List ContextKey
    fewer = rest_of places i

    pub number_is : gone.number ≡ c
    number_is = place_at-number places c gone at

    pub others_placed : (x : ℕ) → x ≢ c → place_at fewer x ≡ place_at places x
    others_placed x apart = place_at-rest_other places i gone x there (λ e. apart (sym e ∙ number_is))

    pub gone_there : place_at fewer c ≡ None
    gone_there = place_at-rest_itself places i gone c tree.rise there number_is

    kept_others_left : (x : ℕ) → x ≢ c → context_of (kept_at kept places x) ≡ context_of (kept_at kept' fewer x)
    kept_others_left x apart =
        by (place_at places x) refl
        ∙ ap (λ there. context_of (option_and_then (λ (place : ContextKey). get kept' place.key) there)) (sym (others_placed x apart))
      where
        by : (found : Option ContextKey) → place_at places x ≡ found → context_of (option_and_then (λ (place : ContextKey). get kept place.key) found) ≡ context_of (option_and_then (λ (place : ContextKey). get kept' place.key) found)
        by None e = refl
        by (Some other) e = ap context_of (sym (updates.others other.key (keys_differ c x gone other at e apart)))

    pub ended_list : contexts_in made kept' fewer ≡ slice_set (contexts_in made kept places) c never_made
    unfolding contexts_in
    ended_list =
        listed_set made (λ x. context_of (kept_at kept places x)) (λ x. context_of (kept_at kept' fewer x)) c (below_found made places c gone tree.below at) (λ x below apart. kept_others_left x apart)
        ∙ ap (λ found. slice_set (listed made (λ x. context_of (kept_at kept places x))) c (context_of (option_and_then (λ (place : ContextKey). get kept' place.key) found))) gone_there

    pub ended_count : (context : KeptContext) → get kept gone.key ≡ Some context → reason_count (contexts_in made kept' fewer) + counts_as context.reason ≡ reason_count (contexts_in made kept places)
    ended_count context found =
        let counts : reason_count (contexts_in made kept' fewer) + counts_as context.reason ≡ reason_count (contexts_in made kept places) + counts_as never_made.reason =
        ap (λ contexts. reason_count contexts + counts_as context.reason) ended_list
        ∙ ap (λ (there : Context). reason_count (slice_set (contexts_in made kept places) c never_made) + counts_as there.reason) (sym (stands_there made kept places tree c gone context at found))
        ∙ reason_count-set (contexts_in made kept places) c never_made (placed_below c gone at) in
        counts ∙ (let same : reason_count (contexts_in made kept places) + 0 ≡ reason_count (contexts_in made kept places) = omega arith in same)

    gone_lives : (context_at (contexts_in made kept places) c).ended ≡ false
    gone_lives = let stood : Stands made kept places gone = tree.stands c gone at in ap (λ (context : Context). context.ended) (stands_there made kept places tree c gone stood.context at stood.found)

    -- no context that is left has it as its parent
    pub parent_left : (x : ℕ) (place : ContextKey) (e : place_at places x ≡ Some place) (p : ContextKey) → (tree.stands x place e).context.parent ≡ Some p → p.number ≢ c
    parent_left x place e p parent same =
        let stood : Stands made kept places place = tree.stands x place e in
        let lives : is_live (contexts_in made kept places) x ≡ true = live_is_placed made kept places tree x ∙ ap is_some e in
        let context : context_at (contexts_in made kept places) x ≡ context_of (Some stood.context) = stands_there made kept places tree x place stood.context e stood.found in
        childless x lives (ap (λ (context : Context). context.parent) context ∙ ap (option_map (λ (place : ContextKey). place.number)) parent ∙ ap Some same)

    pub ended_tree : length fewer + 1 ≡ length places → slab_len kept' + 1 ≡ slab_len kept → kept'.capacity ≡ kept.capacity → IsTree made kept' fewer
    ended_tree count many room = record {
      rise = Rise-rest places i tree.rise;
      below = AreBelow-rest made places i tree.below;
      stands = stands_left;
      live =
          (let before : live_count (contexts_in made kept places) ≡ length places = tree.live in
          let after : live_count (slice_set (contexts_in made kept places) c never_made) + 1 ≡ live_count (contexts_in made kept places) = live_count-end (contexts_in made kept places) c never_made gone_lives refl in
          ap live_count ended_list ∙ same_less _ _ (after ∙ before ∙ sym count));
      many = (let before : slab_len kept ≡ length places = tree.many in same_less _ _ (many ∙ before ∙ sym count));
      room = subst (λ n. 4096 ≤ n) (sym room) tree.room;
    }
      where
        same_less : (a b : ℕ) → a + 1 ≡ b + 1 → a ≡ b
        same_less a b e = omega arith

        stands_left : (x : ℕ) (place : ContextKey) → place_at fewer x ≡ Some place → Stands made kept' fewer place
        stands_left x place e = elim (eqb_tells x c) [
          | inl same ↦ (let h : place_at fewer x ≡ place_at fewer c = ap (place_at fewer) same.1 in let g : place_at fewer c ≡ None = gone_there in cc)
          | inr apart ↦
              let before : place_at places x ≡ Some place = sym (others_placed x apart.1) ∙ e in
              stays_standing made kept' fewer place (tree.stands x place before) (updates.others place.key (keys_differ c x gone place at before apart.1))
              (λ p parent. others_placed p.number (parent_left x place before p parent))
        ]
