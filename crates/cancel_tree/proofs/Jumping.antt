-- Jumps stay jumps, whatever changes: the way up from a context that is left is unchanged.
use Rattle.std.proofs.Common.{◌≡◌, ℕ, zero, suc, ◌+◌, ◌<◌, ◌≢◌, inl, inr, Bool, true, false, ◌==◌, ◌||◌, List, [], ◌∷◌, ◌++◌, Option, Some, None, arith, refl, ap, ◌∙◌, sym, subst, true≢false}
use Rattle.std.specs.Prelude.{slice_get, IfSome}
use Rattle.std.specs.List.{list_any}
use Rattle.std.specs.Option.{option_map}
use Rattle.std.proofs.lemmas.Bool.Decides.{eqb_tells}
use Rattle.std.proofs.lemmas.Option.{none-some}
use Rattle.eio_value.specs.declared.plain.Plain.{Plain}
use Rattle.slab.specs.Slab.{Slab, get, slab_len, with_value, Updates}
use Rattle.spec_parts.specs.Contexts.{Context, never_made, context_at, above, way_within, goes_up_to}
use Rattle.law_parts.proofs.Places.{others_unchanged, older_unchanged, made_last}
use Rattle.law_parts.proofs.Staying.{same_above}
use Rattle.law_parts.proofs.Walks.{above_is_parent, goes_up_walks}
use Rattle.cancel_tree.specs.declared.kept.Jump.{Jump}
use Rattle.cancel_tree.specs.declared.kept.KeptContext.{KeptContext}
use Rattle.cancel_tree.specs.declared.kept.ContextKey.{ContextKey}
use Rattle.cancel_tree.specs.Endings.{HasNoLiveChild}
use Rattle.cancel_tree.specs.Jumps.{JumpsFrom, JumpsUnder, JumpsTo, HasJumps}
use Rattle.cancel_tree.specs.KeptContext.{context_of, contexts_in, Stands, IsTree}
use Rattle.cancel_tree.specs.Places.{place_at}
use Rattle.cancel_tree.proofs.Changes.{same_there, others_there, with_reason, keys_differ, changed_list, made_list, made_tree, key_is_new, new_there, ended_list, fewer, others_placed, parent_left, gone_there, length-contexts_in}
use Rattle.cancel_tree.proofs.Finding.{below_found, tells_other, same_number, place_at-append_other}
use Rattle.cancel_tree.proofs.Trees.{stands_there, parents_older, goes_up_to_itself}

-- what is said of a value that there may be
pub if_some : {X : Type 0} (P : X → Type 0) (found : Option X) → IfSome found P → (x : X) → found ≡ Some x → P x
if_some P None given x e = absurd (none-some x e)
if_some P (Some y) given x e = let same : y ≡ x = cc in subst P same given

abbrev above_of : Context → Option ℕ
above_of context = elim context.protected [ true ↦ None | false ↦ context.parent ]

-- from the good contexts each step leads to a good one, and is the same in both lists
module _ (before after : List Context) (Good : ℕ → Type 0) (same : (x : ℕ) → Good x → above after x ≡ above before x) (closed : (x p : ℕ) → Good x → above before x ≡ Some p → Good p) where
  way_alike : (n x : ℕ) → Good x → way_within n after x ≡ way_within n before x
  unfolding way_within
  way_alike zero x good = refl
  way_alike (suc n) x good =
      ap (λ way. x ∷ way) (ap (λ from. elim from as (λ _. List ℕ) [ None ↦ [] | Some p ↦ way_within n after p ]) (same x good) ∙ onward (above before x) (λ p e. way_alike n p (closed x p good e)))
    where
      onward : (from : Option ℕ) → ((p : ℕ) → from ≡ Some p → way_within n after p ≡ way_within n before p) → ◌≡◌ {A = List ℕ} (elim from [ None ↦ [] | Some p ↦ way_within n after p ]) (elim from [ None ↦ [] | Some p ↦ way_within n before p ])
      onward None alike = refl
      onward (Some p) alike = alike p refl

  up_alike : (x c : ℕ) → Good x → goes_up_to after x c ≡ goes_up_to before x c
  up_alike x c good = ap (list_any (λ y. y == c)) (way_alike (x + 1) x good)

  way_good : (n x q : ℕ) → Good x → list_any (λ y. y == q) (way_within n before x) ≡ true → Good q
  unfolding way_within
  way_good zero x q good e = absurd (true≢false (sym e))
  way_good (suc n) x q good e = by (x == q) refl (λ p f. way_good n p q (closed x p good f))
    where
      onward : (from : Option ℕ) → above before x ≡ from → list_any (λ y. y == q) (elim from [ None ↦ [] | Some p ↦ way_within n before p ]) ≡ true → ((p : ℕ) → above before x ≡ Some p → list_any (λ y. y == q) (way_within n before p) ≡ true → Good q) → Good q
      onward None f e later = absurd (true≢false (sym e))
      onward (Some p) f e later = later p f e

      either : (a b : Bool) → a ≡ false → (a || b) ≡ true → b ≡ true
      either true b f e = absurd (true≢false f)
      either false b f e = e

      by : (test : Bool) → (x == q) ≡ test → ((p : ℕ) → above before x ≡ Some p → list_any (λ y. y == q) (way_within n before p) ≡ true → Good q) → Good q
      by true t later = subst Good (same_number x q t) good
      by false t later = onward (above before x) refl (either (x == q) _ t e) later

  jumps_on : (places places' : List ContextKey) (c : ℕ) (to : ContextKey) → Good c → Good to.number → place_at places' to.number ≡ place_at places to.number → JumpsTo before places c to → JumpsTo after places' c to
  jumps_on places places' c to good further there jumps = record {
    placed = there ∙ jumps.placed;
    further = jumps.further;
    alike = λ x le. up_alike c x good ∙ jumps.alike x le ∙ sym (up_alike to.number x further);
  }

module _ (made : ℕ) (kept : Slab KeptContext) (places : List ContextKey) (tree : IsTree made kept places) (has : HasJumps made kept places) where
  -- A reason

  module _ (c : ℕ) (place : ContextKey) (context changed : KeptContext) (kept' : Slab KeptContext) (at : place_at places c ≡ Some place) (found : get kept place.key ≡ Some context)
      (number : changed.number ≡ context.number) (parent : changed.parent ≡ context.parent) (protected : changed.protected ≡ context.protected) (jump : changed.jump ≡ context.jump)
      (itself : get kept' place.key ≡ Some changed) (others : (key : ℕ) → key ≢ place.key → get kept' key ≡ get kept key) where
    above_changed : (x : ℕ) → above (contexts_in made kept' places) x ≡ above (contexts_in made kept places) x
    above_changed x =
        let stood : context_at (contexts_in made kept places) c ≡ context_of (Some context) = stands_there made kept places tree c place context at found in
        ap (λ contexts. above contexts x) (changed_list made kept places tree c place context changed kept' at found number parent itself others)
        ∙ same_above (contexts_in made kept places) c x (context_of (Some changed))
        (ap (option_map (λ (place : ContextKey). place.number)) parent ∙ sym (ap (λ (context : Context). context.parent) stood))
        (protected ∙ sym (ap (λ (context : Context). context.protected) stood))

    pub jumps_changed : HasJumps made kept' places
    jumps_changed = record {
      jumps = λ x other left there kept_there to e.
          jumps_on (contexts_in made kept places) (contexts_in made kept' places) (λ _. Unit {0}) (λ x _. above_changed x) (λ x p _ _. tt) places places x to.place tt tt refl
          (elim (eqb_tells x c) [
            | inl same ↦
                let one : place ≡ other = (let h : place_at places x ≡ place_at places c = ap (place_at places) same.1 in cc) in
                let now : changed ≡ left = (let h : get kept' other.key ≡ get kept' place.key = ap (λ (place : ContextKey). get kept' place.key) (sym one) in cc) in
                let was : get kept other.key ≡ Some context = ap (λ (place : ContextKey). get kept place.key) (sym one) ∙ found in
                has.jumps x other context there was to (sym jump ∙ ap (λ (context : KeptContext). context.jump) now ∙ e)
            | inr apart ↦ has.jumps x other left there (sym (others other.key (keys_differ made kept places tree c x place other at there apart.1)) ∙ kept_there) to e
          ]);
    }

  pub jumps_cancelled : (c : ℕ) (place : ContextKey) (context : KeptContext) (why : Plain) → place_at places c ≡ Some place → get kept place.key ≡ Some context → HasJumps made (with_value kept place.key (with_reason made kept places tree context why)) places
  jumps_cancelled c place context why at found =
      jumps_changed c place context (with_reason made kept places tree context why) (with_value kept place.key (with_reason made kept places tree context why)) at found refl refl refl refl
      (same_there kept.slots place.key context (with_reason made kept places tree context why) found)
      (λ key apart. others_there kept.slots place.key key (Some (with_reason made kept places tree context why)) apart)

  -- One more

  module _ (key : ℕ) (parent : Option ContextKey) (protected : Bool) (jump : Option Jump) (kept' : Slab KeptContext) (vacant : get kept key ≡ None)
      (updates : Updates kept kept' key (Some (record { number = made; parent = parent; protected = protected; reason = None; jump = jump })))
      (placed : (p : ContextKey) → parent ≡ Some p → place_at places p.number ≡ Some p) (many : slab_len kept' ≡ slab_len kept + 1) (room : kept'.capacity ≡ kept.capacity)
      (under : (to : Jump) → jump ≡ Some to → JumpsUnder kept parent protected to) where
    abbrev wider : List ContextKey
    wider = places ++ record { number = made; key = key } ∷ []

    abbrev new_context : Context
    new_context = context_of (Some (record { number = made; parent = parent; protected = protected; reason = None; jump = jump }))

    new_tree : IsTree (made + 1) kept' wider
    new_tree = made_tree made kept places tree key parent protected jump kept' vacant updates placed many room

    new_list : contexts_in (made + 1) kept' wider ≡ contexts_in made kept places ++ new_context ∷ []
    new_list = made_list made kept places tree key parent protected jump kept' vacant updates placed

    above_older : (x : ℕ) → x < made → above (contexts_in (made + 1) kept' wider) x ≡ above (contexts_in made kept places) x
    above_older x below =
        ap (λ contexts. above contexts x) new_list
        ∙ ap above_of (older_unchanged (contexts_in made kept places) x new_context (subst (λ n. x < n) (sym (length-contexts_in made kept places)) below))

    older_closed : (x p : ℕ) → x < made → above (contexts_in made kept places) x ≡ Some p → p < made
    older_closed x p below e =
        let lower : p < x = parents_older made kept places tree x p (above_is_parent (contexts_in made kept places) x p e) in
        omega arith

    older_alike : (x c : ℕ) → x < made → goes_up_to (contexts_in (made + 1) kept' wider) x c ≡ goes_up_to (contexts_in made kept places) x c
    older_alike x c below = up_alike (contexts_in made kept places) (contexts_in (made + 1) kept' wider) (λ x. x < made) above_older older_closed x c below

    still_placed : (p : ContextKey) → place_at places p.number ≡ Some p → place_at wider p.number ≡ Some p
    still_placed p e =
        place_at-append_other places (record { number = made; key = key }) p.number (λ same. let below : p.number < made = below_found made places p.number p tree.below e in absurd (omega arith)) ∙ e

    -- the new one's first step
    first_step : (p : ContextKey) → protected ≡ false → parent ≡ Some p → above (contexts_in (made + 1) kept' wider) made ≡ Some p.number
    first_step p open_above e =
        ap (λ contexts. above contexts made) new_list
        ∙ ap above_of (made_last (contexts_in made kept places) made new_context (sym (length-contexts_in made kept places)))
        ∙ ap (λ b. elim b as (λ _. Option ℕ) [ true ↦ None | false ↦ option_map (λ (place : ContextKey). place.number) parent ]) open_above
        ∙ ap (option_map (λ (place : ContextKey). place.number)) e

    from_new : (p : ContextKey) → protected ≡ false → parent ≡ Some p → (x : ℕ) → x < made → goes_up_to (contexts_in (made + 1) kept' wider) made x ≡ goes_up_to (contexts_in made kept places) p.number x
    from_new p open_above e x below =
        goes_up_walks (contexts_in (made + 1) kept' wider) (parents_older (made + 1) kept' wider new_tree) made x
        ∙ ap (λ b. b || elim (above (contexts_in (made + 1) kept' wider) made) as (λ _. Bool) [ None ↦ false | Some p ↦ goes_up_to (contexts_in (made + 1) kept' wider) p x ]) (tells_other made x (λ same. absurd (omega arith)))
        ∙ ap (λ from. elim from as (λ _. Bool) [ None ↦ false | Some p ↦ goes_up_to (contexts_in (made + 1) kept' wider) p x ]) (first_step p open_above e)
        ∙ older_alike p.number x (below_found made places p.number p tree.below (placed p e))

    jumps_new : (to : Jump) → jump ≡ Some to → JumpsTo (contexts_in (made + 1) kept' wider) wider made to.place
    jumps_new to e = by (under to e).jumps
      where
        by : JumpsFrom kept (under to e).place to → JumpsTo (contexts_in (made + 1) kept' wider) wider made to.place
        by (inl same) =
            let p : ContextKey = (under to e).place in
            let there : place_at places p.number ≡ Some p = placed p (under to e).under in
            let below : p.number < made = below_found made places p.number p tree.below there in
            subst (λ place. JumpsTo (contexts_in (made + 1) kept' wider) wider made place) (sym same) record {
              placed = still_placed p there;
              further = below;
              alike = λ x le. from_new p (under to e).open_above (under to e).under x (omega arith) ∙ sym (older_alike p.number x below);
            }
        by (inr two) =
            let p : ContextKey = (under to e).place in
            let there : place_at places p.number ≡ Some p = placed p (under to e).under in
            let below : p.number < made = below_found made places p.number p tree.below there in
            let one : JumpsTo (contexts_in made kept places) places p.number two.first.place = has.jumps p.number p two.context there two.found two.first two.jumps in
            let next : JumpsTo (contexts_in made kept places) places two.first.place.number two.second.place = has.jumps two.first.place.number two.first.place two.far one.placed two.found_far two.second two.jumps_far in
            let nearer : two.first.place.number < p.number = one.further in
            let farther : two.second.place.number < two.first.place.number = next.further in
            subst (λ place. JumpsTo (contexts_in (made + 1) kept' wider) wider made place) two.ends record {
              placed = still_placed two.second.place next.placed;
              further = omega arith;
              alike = λ x le.
                  from_new p (under to e).open_above (under to e).under x (omega arith)
                  ∙ one.alike x (omega arith)
                  ∙ next.alike x le
                  ∙ sym (older_alike two.second.place.number x (omega arith));
            }

    pub jumps_made : HasJumps (made + 1) kept' wider
    jumps_made = record {
      jumps = λ x place context there kept_there to e. elim (eqb_tells x made) [
        | inl same ↦
            let one : record { number = made; key = key } ≡ place = (let h : place_at wider x ≡ place_at wider made = ap (place_at wider) same.1 in let g : place_at wider made ≡ Some (record { number = made; key = key }) = new_there made kept places tree key parent protected jump kept' vacant updates placed in cc) in
            let now : record { number = made; parent = parent; protected = protected; reason = None; jump = jump } ≡ context = (let h : get kept' place.key ≡ get kept' key = ap (λ (place : ContextKey). get kept' place.key) (sym one) in let g = updates.changed in cc) in
            subst (λ x. JumpsTo (contexts_in (made + 1) kept' wider) wider x to.place) (sym same.1) (jumps_new to (ap (λ (context : KeptContext). context.jump) now ∙ e))
        | inr apart ↦
            let before : place_at places x ≡ Some place = sym (place_at-append_other places (record { number = made; key = key }) x (λ same. apart.1 (sym same))) ∙ there in
            let old : JumpsTo (contexts_in made kept places) places x to.place = has.jumps x place context before (sym (updates.others place.key (key_is_new made kept places tree key parent protected jump kept' vacant updates placed x place before)) ∙ kept_there) to e in
            let below : x < made = below_found made places x place tree.below before in
            let lower : to.place.number < x = old.further in
            jumps_on (contexts_in made kept places) (contexts_in (made + 1) kept' wider) (λ x. x < made) above_older older_closed places wider x to.place below (omega arith) (still_placed to.place old.placed ∙ sym old.placed) old
      ];
    }

  -- One ends

  module _ (c i : ℕ) (gone : ContextKey) (kept' : Slab KeptContext) (at : place_at places c ≡ Some gone) (there : slice_get places i ≡ Some gone)
      (updates : Updates kept kept' gone.key None)
      (childless : HasNoLiveChild (contexts_in made kept places) c) where
    abbrev left : List ContextKey
    left = fewer made kept places tree c i gone kept' at there updates childless

    -- a live context that stays
    record Stays (x : ℕ) : Type 0 where
      pub place : ContextKey
      pub found : place_at places x ≡ Some place
      pub apart : x ≢ c

    above_left : (x : ℕ) → Stays x → above (contexts_in made kept' left) x ≡ above (contexts_in made kept places) x
    above_left x stays =
        ap (λ contexts. above contexts x) (ended_list made kept places tree c i gone kept' at there updates childless)
        ∙ ap above_of (others_unchanged (contexts_in made kept places) c x never_made stays.apart)

    left_closed : (x p : ℕ) → Stays x → above (contexts_in made kept places) x ≡ Some p → Stays p
    left_closed x p stays e = by (tree.stands x stays.place stays.found).context.parent refl (sym (ap (λ (context : Context). context.parent) stood) ∙ above_is_parent (contexts_in made kept places) x p e)
      where
        stood : context_at (contexts_in made kept places) x ≡ context_of (Some (tree.stands x stays.place stays.found).context)
        stood = let there : Stands made kept places stays.place = tree.stands x stays.place stays.found in stands_there made kept places tree x stays.place there.context stays.found there.found

        by : (parent : Option ContextKey) → (tree.stands x stays.place stays.found).context.parent ≡ parent → option_map (λ (place : ContextKey). place.number) parent ≡ Some p → Stays p
        by None k f = absurd (none-some p f)
        by (Some parent) k f =
            let same : parent.number ≡ p = cc in
            subst Stays same record {
              place = parent;
              found = (tree.stands x stays.place stays.found).placed parent k;
              apart = parent_left made kept places tree c i gone kept' at there updates childless x stays.place stays.found parent k;
            }

    pub jumps_left : HasJumps made kept' left
    jumps_left = record {
      jumps = λ x place context found kept_there to e. elim (eqb_tells x c) [
        | inl same ↦ absurd (gone_is_none x place same.1 found)
        | inr apart ↦
            let before : place_at places x ≡ Some place = sym (others_placed made kept places tree c i gone kept' at there updates childless x apart.1) ∙ found in
            let old : JumpsTo (contexts_in made kept places) places x to.place = has.jumps x place context before (sym (updates.others place.key (keys_differ made kept places tree c x gone place at before apart.1)) ∙ kept_there) to e in
            let stays : Stays x = record { place = place; found = before; apart = apart.1 } in
            let reaches : goes_up_to (contexts_in made kept places) x to.place.number ≡ true = old.alike to.place.number (omega arith) ∙ goes_up_to_itself (contexts_in made kept places) to.place.number to.place.number refl in
            let end_stays : Stays to.place.number = way_good (contexts_in made kept places) (contexts_in made kept' left) Stays above_left left_closed (x + 1) x to.place.number stays reaches in
            jumps_on (contexts_in made kept places) (contexts_in made kept' left) Stays above_left left_closed places left x to.place stays end_stays
            (others_placed made kept places tree c i gone kept' at there updates childless to.place.number end_stays.apart) old
      ];
    }
      where
        gone_is_none : (x : ℕ) (place : ContextKey) → x ≡ c → place_at left x ≡ Some place → ⊥
        gone_is_none x place same found =
            let h : place_at left x ≡ place_at left c = ap (place_at left) same in
            let g : place_at left c ≡ None = gone_there made kept places tree c i gone kept' at there updates childless in
            none-some place (sym g ∙ sym h ∙ found)
