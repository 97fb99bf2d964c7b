-- The tree as it is kept: what it says of each number, and the walks upwards.
use Rattle.std.proofs.Common.{◌≡◌, ℕ, zero, suc, ◌+◌, ◌<◌, ◌≤◌, ◌≢◌, inl, inr, Bool, true, false, not, ◌==◌, ◌||◌, List, ◌∷◌, Option, Some, None, arith, rules, refl, ap, ap₂, ◌∙◌, sym, true≢false}
use Rattle.std.specs.Prelude.{is_some, IsSome, nat_le}
use Rattle.std.proofs.lemmas.Grind.{common_steps}
use Rattle.std.specs.List.{list_any}
use Rattle.std.specs.Option.{option_map, option_and_then}
use Rattle.std.proofs.lemmas.Bool.Decides.{eqb_tells}
use Rattle.std.proofs.lemmas.Option.{none-some}
use Rattle.eio_value.specs.declared.plain.Plain.{Plain}
use Rattle.slab.specs.Slab.{Slab, get}
use Rattle.spec_parts.specs.Contexts.{Context, never_made, context_at, is_live, above, off, way_within, goes_up_to}
use Rattle.law_parts.specs.Contexts.{or_else, off_above}
use Rattle.law_parts.proofs.Walks.{ParentsAreOlder, above_is_parent, off_walks, goes_up_walks}
use Rattle.cancel_tree.specs.declared.kept.Jump.{Jump}
use Rattle.cancel_tree.specs.declared.kept.KeptContext.{KeptContext}
use Rattle.cancel_tree.specs.declared.kept.ContextKey.{ContextKey}
use Rattle.cancel_tree.specs.Jumps.{kept_above, kept_towards, JumpsTo, HasJumps}
use Rattle.cancel_tree.specs.Places.{place_at}
use Rattle.cancel_tree.specs.KeptContext.{kept_at, context_of, contexts_in, Stands, IsTree}
use Rattle.cancel_tree.proofs.Finding.{place_at-number, absent_past, tells_other, tells_same}
use Rattle.cancel_tree.proofs.Listing.{compared, listed_below, listed_past}

-- how far a walk may still go
abbrev pub height : Option ContextKey → ℕ
height None = 0
height (Some place) = place.number + 1

at_most : (a b : ℕ) → nat_le a b ≡ true → a ≤ b
at_most a b h = grind (arith, common_steps)

pub has_value : {X : Type 0} (o : Option X) (x : X) → o ≡ Some x → IsSome o
has_value o x e = rw e (search rules)

-- what is found for a number stands at its own
pub at_own : (places : List ContextKey) (c : ℕ) (place : ContextKey) → place_at places c ≡ Some place → place_at places place.number ≡ Some place
at_own places c place e = ap (place_at places) (place_at-number places c place e) ∙ e

abbrev above_of : Context → Option ℕ
above_of context = elim context.protected [ true ↦ None | false ↦ context.parent ]

abbrev off_from : List Context → Option ℕ → Option Plain
off_from contexts from = elim from [ None ↦ None | Some p ↦ off contexts p ]

-- the walk: what is asked of c is asked of the place that is next
abbrev pub OffGoesOn : List Context → List ContextKey → (c : ℕ) → Option ContextKey → Type 0
OffGoesOn contexts places c None = off contexts c ≡ None
OffGoesOn contexts places c (Some place) = (place_at places place.number ≡ Some place) × (off contexts c ≡ off contexts place.number)

abbrev up_from : List Context → ℕ → Option ℕ → Bool
up_from contexts c from = elim from [ None ↦ false | Some p ↦ goes_up_to contexts p c ]

-- the same walk to another context
abbrev pub UpGoesOn : List Context → List ContextKey → (x c : ℕ) → Option ContextKey → Type 0
UpGoesOn contexts places x c None = goes_up_to contexts x c ≡ false
UpGoesOn contexts places x c (Some place) = (place_at places place.number ≡ Some place) × (goes_up_to contexts x c ≡ goes_up_to contexts place.number c)

mapped : (protected : Bool) (parent : Option ContextKey) → ◌≡◌ {A = Option ℕ} (elim protected [ true ↦ None | false ↦ option_map (λ (place : ContextKey). place.number) parent ]) (option_map (λ (place : ContextKey). place.number) (elim protected [ true ↦ None | false ↦ parent ]))
mapped true parent = refl
mapped false parent = refl

unprotected : (protected : Bool) (parent : Option ContextKey) (p : ContextKey) → elim protected [ true ↦ None | false ↦ parent ] ≡ Some p → parent ≡ Some p
unprotected true parent p e = absurd (none-some p e)
unprotected false parent p e = e

own_alone : (own rest : Option Plain) → is_some own ≡ true → or_else own rest ≡ own
own_alone None rest e = absurd (true≢false (sym e))
own_alone (Some why) rest e = refl

no_reason : (own rest : Option Plain) → is_some own ≡ false → or_else own rest ≡ rest
no_reason None rest e = refl
no_reason (Some why) rest e = absurd (true≢false e)

itself_or : (x c : ℕ) (rest : List ℕ) → x ≡ c → list_any (λ y. y == c) (x ∷ rest) ≡ true
itself_or x c rest same = ap (λ b. b || list_any (λ y. y == c) rest) (tells_same x c same)

-- each context goes up to itself
pub goes_up_to_itself : (contexts : List Context) (x c : ℕ) → x ≡ c → goes_up_to contexts x c ≡ true
unfolding way_within
goes_up_to_itself contexts x c same = from_first (x + 1) (omega arith)
  where
    from_first : (steps : ℕ) → steps ≡ suc x → list_any (λ y. y == c) (way_within steps contexts x) ≡ true
    from_first zero e = absurd (omega arith)
    from_first (suc steps) e = itself_or x c _ same

module _ (made : ℕ) (kept : Slab KeptContext) (places : List ContextKey) (tree : IsTree made kept places) where
  -- under each number stands what is kept there
  pub stands_under : (c : ℕ) → context_at (contexts_in made kept places) c ≡ context_of (kept_at kept places c)
  unfolding contexts_in
  stands_under c = elim (compared c made) [
    | inl below ↦ listed_below made (λ c. context_of (kept_at kept places c)) c below
    | inr rest ↦
        let past : made ≤ c = elim rest [ inl same ↦ omega arith | inr beyond ↦ omega arith ] in
        listed_past made (λ c. context_of (kept_at kept places c)) c past
        ∙ ap (λ place. context_of (option_and_then (λ (place : ContextKey). get kept place.key) place)) (sym (absent_past made c places past tree.below))
  ]

  pub absent_there : (c : ℕ) → place_at places c ≡ None → context_at (contexts_in made kept places) c ≡ never_made
  absent_there c e = stands_under c ∙ ap (λ place. context_of (option_and_then (λ (place : ContextKey). get kept place.key) place)) e

  -- at a place stands the context that is kept under its key
  pub stands_there : (c : ℕ) (place : ContextKey) (context : KeptContext) → place_at places c ≡ Some place → get kept place.key ≡ Some context → context_at (contexts_in made kept places) c ≡ context_of (Some context)
  stands_there c place context e found =
      stands_under c
      ∙ ap (λ place. context_of (option_and_then (λ (place : ContextKey). get kept place.key) place)) e
      ∙ ap context_of found

  pub live_is_placed : (c : ℕ) → is_live (contexts_in made kept places) c ≡ is_some (place_at places c)
  live_is_placed c = by (place_at places c) refl
    where
      by : (found : Option ContextKey) → place_at places c ≡ found → is_live (contexts_in made kept places) c ≡ is_some found
      by None e = ap (λ context. not context.ended) (absent_there c e)
      by (Some place) e =
          let there : Stands made kept places place = tree.stands c place e in
          ap (λ context. not context.ended) (stands_there c place there.context e there.found)

  -- what is kept at a place: its parent is older, and stands at its own place
  pub kept_older : (c : ℕ) (place : ContextKey) (context : KeptContext) → place_at places c ≡ Some place → get kept place.key ≡ Some context → (parent : ContextKey) → context.parent ≡ Some parent → parent.number < c
  kept_older c place context e found parent p =
      let there : Stands made kept places place = tree.stands c place e in
      let same : there.context ≡ context = (let h : get kept place.key ≡ Some there.context = there.found in cc) in
      let below : parent.number < place.number = there.older parent (ap (λ (context : KeptContext). context.parent) same ∙ p) in
      let number : place.number ≡ c = place_at-number places c place e in
      omega arith

  pub kept_placed : (c : ℕ) (place : ContextKey) (context : KeptContext) → place_at places c ≡ Some place → get kept place.key ≡ Some context → (parent : ContextKey) → context.parent ≡ Some parent → place_at places parent.number ≡ Some parent
  kept_placed c place context e found parent p =
      let there : Stands made kept places place = tree.stands c place e in
      let same : there.context ≡ context = (let h : get kept place.key ≡ Some there.context = there.found in cc) in
      there.placed parent (ap (λ (context : KeptContext). context.parent) same ∙ p)

  pub parents_older : ParentsAreOlder (contexts_in made kept places)
  parents_older c parent e = by (place_at places c) refl
    where
      by : (found : Option ContextKey) → place_at places c ≡ found → parent < c
      by None absent = absurd (none-some parent (sym (ap (λ context. context.parent) (absent_there c absent)) ∙ e))
      by (Some place) at =
          let there : Stands made kept places place = tree.stands c place at in
          by_parent there.context.parent refl (sym (ap (λ context. context.parent) (stands_there c place there.context at there.found)) ∙ e)
        where
          by_parent : (p : Option ContextKey) → (tree.stands c place at).context.parent ≡ p → option_map (λ (place : ContextKey). place.number) p ≡ Some parent → parent < c
          by_parent None k f = absurd (none-some parent f)
          by_parent (Some p) k f =
              let lower : p.number < place.number = (tree.stands c place at).older p k in
              let number : place.number ≡ c = place_at-number places c place at in
              let same : p.number ≡ parent = cc in
              omega arith

  -- Who is off

  pub absent_above : (c : ℕ) → place_at places c ≡ None → above (contexts_in made kept places) c ≡ None
  absent_above c e = ap above_of (absent_there c e)

  pub absent_off : (c : ℕ) → place_at places c ≡ None → off (contexts_in made kept places) c ≡ None
  absent_off c e =
      off_walks (contexts_in made kept places) parents_older c
      ∙ ap₂ or_else (ap (λ (context : Context). context.reason) (absent_there c e)) (ap (off_from (contexts_in made kept places)) (absent_above c e))

  -- where a cancellation comes down from
  above_there : (c : ℕ) (place : ContextKey) (context : KeptContext) → place_at places c ≡ Some place → get kept place.key ≡ Some context → above (contexts_in made kept places) c ≡ option_map (λ (place : ContextKey). place.number) (kept_above context)
  above_there c place context e found = ap above_of (stands_there c place context e found) ∙ mapped context.protected context.parent

  -- the walk begins at the context's own place
  pub off_begins : (c : ℕ) → OffGoesOn (contexts_in made kept places) places c (place_at places c)
  off_begins c = by (place_at places c) refl
    where
      by : (found : Option ContextKey) → place_at places c ≡ found → OffGoesOn (contexts_in made kept places) places c found
      by None e = absent_off c e
      by (Some place) e =
          let number : place.number ≡ c = place_at-number places c place e in
          (ap (place_at places) number ∙ e, ap (off (contexts_in made kept places)) (sym number))

  -- it ends at a context with a reason of its own
  pub off_ends : (c : ℕ) (place : ContextKey) (context : KeptContext) → OffGoesOn (contexts_in made kept places) places c (Some place) → get kept place.key ≡ Some context → is_some context.reason ≡ true → off (contexts_in made kept places) c ≡ context.reason
  off_ends c place context goes found some =
      goes.1
      ∙ off_walks (contexts_in made kept places) parents_older place.number
      ∙ ap (λ (at : Context). or_else at.reason (off_above (contexts_in made kept places) place.number)) (stands_there place.number place context goes.0 found)
      ∙ own_alone context.reason _ some

  -- and goes on at its parent where it has none
  pub off_goes_on : (c : ℕ) (place : ContextKey) (context : KeptContext) → OffGoesOn (contexts_in made kept places) places c (Some place) → get kept place.key ≡ Some context → is_some context.reason ≡ false → OffGoesOn (contexts_in made kept places) places c (kept_above context)
  off_goes_on c place context goes found none = by (kept_above context) refl
    where
      walked : off (contexts_in made kept places) c ≡ off_from (contexts_in made kept places) (option_map (λ (place : ContextKey). place.number) (kept_above context))
      walked =
          goes.1
          ∙ off_walks (contexts_in made kept places) parents_older place.number
          ∙ ap (λ (at : Context). or_else at.reason (off_above (contexts_in made kept places) place.number)) (stands_there place.number place context goes.0 found)
          ∙ no_reason context.reason _ none
          ∙ ap (off_from (contexts_in made kept places)) (above_there place.number place context goes.0 found)

      by : (next : Option ContextKey) → kept_above context ≡ next → OffGoesOn (contexts_in made kept places) places c next
      by None e = walked ∙ ap (λ next. off_from (contexts_in made kept places) (option_map (λ (place : ContextKey). place.number) next)) e
      by (Some parent) e = (
        kept_placed place.number place context goes.0 found parent (unprotected context.protected context.parent parent e),
        walked ∙ ap (λ next. off_from (contexts_in made kept places) (option_map (λ (place : ContextKey). place.number) next)) e,
      )

  pub lower_next : (place : ContextKey) (context : KeptContext) → place_at places place.number ≡ Some place → get kept place.key ≡ Some context → height (kept_above context) < height (Some place)
  lower_next place context at found = by (kept_above context) refl
    where
      by : (next : Option ContextKey) → kept_above context ≡ next → height next < height (Some place)
      by None e = omega arith
      by (Some parent) e =
          let lower : parent.number < place.number = kept_older place.number place context at found parent (unprotected context.protected context.parent parent e) in
          omega arith

  pub is_there : (place : ContextKey) → place_at places place.number ≡ Some place → (context : KeptContext) × (get kept place.key ≡ Some context)
  is_there place at = let there : Stands made kept places place = tree.stands place.number place at in (there.context, there.found)

  -- Who goes up to whom

  up_walks : (x c : ℕ) → x ≢ c → goes_up_to (contexts_in made kept places) x c ≡ up_from (contexts_in made kept places) c (above (contexts_in made kept places) x)
  up_walks x c other =
      goes_up_walks (contexts_in made kept places) parents_older x c
      ∙ ap (λ b. b || up_from (contexts_in made kept places) c (above (contexts_in made kept places) x)) (tells_other x c other)

  pub up_begins : (x c : ℕ) → x ≢ c → UpGoesOn (contexts_in made kept places) places x c (place_at places x)
  up_begins x c other = by (place_at places x) refl
    where
      by : (found : Option ContextKey) → place_at places x ≡ found → UpGoesOn (contexts_in made kept places) places x c found
      by None e = up_walks x c other ∙ ap (up_from (contexts_in made kept places) c) (absent_above x e)
      by (Some place) e =
          let number : place.number ≡ x = place_at-number places x place e in
          (ap (place_at places) number ∙ e, ap (λ x. goes_up_to (contexts_in made kept places) x c) (sym number))

  -- nobody goes up to a younger context
  never_younger : (n x c : ℕ) → x < n → x < c → goes_up_to (contexts_in made kept places) x c ≡ false
  never_younger zero x c h k = absurd (omega arith)
  never_younger (suc n) x c h k = up_walks x c (λ e. absurd (omega arith)) ∙ by (above (contexts_in made kept places) x) refl (λ p below. never_younger n p c (omega arith) (omega arith))
    where
      by : (from : Option ℕ) → above (contexts_in made kept places) x ≡ from → ((p : ℕ) → p < x → goes_up_to (contexts_in made kept places) p c ≡ false) → up_from (contexts_in made kept places) c from ≡ false
      by None e older = refl
      by (Some p) e older = older p (parents_older x p (above_is_parent (contexts_in made kept places) x p e))

  up_at_itself : (x c : ℕ) → x ≡ c → goes_up_to (contexts_in made kept places) x c ≡ true
  up_at_itself x c same =
      goes_up_walks (contexts_in made kept places) parents_older x c
      ∙ ap (λ b. b || up_from (contexts_in made kept places) c (above (contexts_in made kept places) x)) (tells_same x c same)

  -- the walk ends where it comes to a context that is no younger
  pub up_ends : (x c : ℕ) (place : ContextKey) → UpGoesOn (contexts_in made kept places) places x c (Some place) → place.number ≤ c → goes_up_to (contexts_in made kept places) x c ≡ (place.number == c)
  up_ends x c place goes h = goes.1 ∙ elim (eqb_tells place.number c) [
    | inl same ↦ up_at_itself place.number c same.1 ∙ sym same.0
    | inr other ↦ let k : place.number ≢ c = other.1 in never_younger (place.number + 1) place.number c (omega arith) (omega arith) ∙ sym other.0
  ]

  pub up_goes_on : (x c : ℕ) (place : ContextKey) (context : KeptContext) → UpGoesOn (contexts_in made kept places) places x c (Some place) → get kept place.key ≡ Some context → c < place.number → UpGoesOn (contexts_in made kept places) places x c (kept_above context)
  up_goes_on x c place context goes found younger = by (kept_above context) refl
    where
      walked : goes_up_to (contexts_in made kept places) x c ≡ up_from (contexts_in made kept places) c (option_map (λ (place : ContextKey). place.number) (kept_above context))
      walked =
          goes.1
          ∙ up_walks place.number c (λ e. absurd (omega arith))
          ∙ ap (up_from (contexts_in made kept places) c) (above_there place.number place context goes.0 found)

      by : (next : Option ContextKey) → kept_above context ≡ next → UpGoesOn (contexts_in made kept places) places x c next
      by None e = walked ∙ ap (λ next. up_from (contexts_in made kept places) c (option_map (λ (place : ContextKey). place.number) next)) e
      by (Some parent) e = (
        kept_placed place.number place context goes.0 found parent (unprotected context.protected context.parent parent e),
        walked ∙ ap (λ next. up_from (contexts_in made kept places) c (option_map (λ (place : ContextKey). place.number) next)) e,
      )

  -- by a jump too, where it doesn't pass c
  pub up_goes_towards : (x c : ℕ) (place : ContextKey) (context : KeptContext) → HasJumps made kept places → UpGoesOn (contexts_in made kept places) places x c (Some place) → get kept place.key ≡ Some context → c < place.number
      → UpGoesOn (contexts_in made kept places) places x c (kept_towards c context)
  up_goes_towards x c place context has goes found younger = by context.jump refl
    where
      step : UpGoesOn (contexts_in made kept places) places x c (kept_above context)
      step = up_goes_on x c place context goes found younger

      by_test : (jump : Jump) (test : Bool) → context.jump ≡ Some jump → nat_le c jump.place.number ≡ test → UpGoesOn (contexts_in made kept places) places x c (elim test [ true ↦ Some jump.place | false ↦ kept_above context ])
      by_test jump true e t =
          let jumps : JumpsTo (contexts_in made kept places) places place.number jump.place = has.jumps place.number place context goes.0 found jump e in
          (jumps.placed, goes.1 ∙ jumps.alike c (at_most c jump.place.number t))
      by_test jump false e t = step

      by : (jump : Option Jump) → context.jump ≡ jump → UpGoesOn (contexts_in made kept places) places x c (elim jump [ None ↦ kept_above context | Some jump ↦ elim (nat_le c jump.place.number) [ true ↦ Some jump.place | false ↦ kept_above context ] ])
      by None e = step
      by (Some jump) e = by_test jump (nat_le c jump.place.number) e refl

  pub lower_towards : (c : ℕ) (place : ContextKey) (context : KeptContext) → HasJumps made kept places → place_at places place.number ≡ Some place → get kept place.key ≡ Some context → height (kept_towards c context) < height (Some place)
  lower_towards c place context has at found = by context.jump refl
    where
      step : height (kept_above context) < height (Some place)
      step = lower_next place context at found

      by_test : (jump : Jump) (test : Bool) → context.jump ≡ Some jump → height (elim test [ true ↦ Some jump.place | false ↦ kept_above context ]) < height (Some place)
      by_test jump true e = let lower : jump.place.number < place.number = (has.jumps place.number place context at found jump e).further in omega arith
      by_test jump false e = step

      by : (jump : Option Jump) → context.jump ≡ jump → height (elim jump [ None ↦ kept_above context | Some jump ↦ elim (nat_le c jump.place.number) [ true ↦ Some jump.place | false ↦ kept_above context ] ]) < height (Some place)
      by None e = step
      by (Some jump) e = by_test jump (nat_le c jump.place.number) e
