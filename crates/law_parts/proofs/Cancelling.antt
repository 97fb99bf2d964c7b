-- Whom a cancellation has off: those who go up to the cancelled context, and no others.
-- Where a cancellation comes down from is unchanged, and one reason alone is new, so the walk up before and the walk up after go together.
use Rattle.std.proofs.Common.{◌≡◌, ℕ, zero, suc, ◌+◌, ◌<◌, ◌≤◌, ◌⊎◌, inl, inr, Bool, true, false, ◌||◌, ◌==◌, ◌≢◌, ◌&&◌, not, List, length, slice_set, Option, Some, None, refl, ap, sym, subst, ◌∙◌, arith, true≢false}
use Rattle.std.specs.Prelude.{is_none}
use Rattle.std.proofs.lemmas.Bool.Decides.{eqb_tells}
use Rattle.eio_value.specs.declared.plain.Plain.{Plain}
use Rattle.spec_parts.specs.Contexts.{Context, context_at, above, off, goes_up_to, is_live, takes_effect, cancel}
use Rattle.law_parts.specs.Contexts.{or_else, off_above, off_then}
use Rattle.law_parts.proofs.Places.{others_unchanged, changed_itself, past_all}
use Rattle.law_parts.proofs.Walks.{ParentsAreOlder, above_is_parent, off_walks, goes_up_walks}
use Rattle.law_parts.proofs.Staying.{Continues, cancel_step, not_off, same_above, below_or_past}

-- the context with the reason of a cancellation, and the contexts with it
abbrev cancelled : List Context → ℕ → Plain → Context
cancelled contexts c why = record (context_at contexts c) { reason = Some why }

abbrev after_it : List Context → ℕ → Plain → List Context
after_it contexts c why = slice_set contexts c (cancelled contexts c why)

abbrev given : Plain → Bool → Option Plain
given why true = Some why
given why false = None

given_by : (why : Plain) (b : Bool) → elim b [ true ↦ Some why | false ↦ None ] ≡ given why b
given_by why true = refl
given_by why false = refl

first_true : (a b : Bool) → (a && b) ≡ true → a ≡ true
first_true true b e = refl
first_true false b e = absurd (true≢false (sym e))

-- whose cancellation takes effect was made
was_made : (contexts : List Context) (c : ℕ) → takes_effect contexts c ≡ true → c < length contexts
was_made contexts c effect = by (below_or_past contexts c)
  where
    by : (c < length contexts) ⊎ (length contexts ≤ c) → c < length contexts
    by (inl below) = below
    by (inr past) = absurd (true≢false (sym (first_true (is_live contexts c) (is_none (off contexts c)) effect) ∙ ap (λ context. not context.ended) (past_all contexts c past)))

nested : (a b d : Option Plain) → or_else a (or_else b d) ≡ or_else (or_else a b) d
nested (Some why) b d = refl
nested None b d = refl

module _ (contexts : List Context) (c : ℕ) (why : Plain) (older : ParentsAreOlder contexts) (effect : takes_effect contexts c ≡ true) (later : ParentsAreOlder (after_it contexts c why)) where
  -- one step up, where x isn't the cancelled context
  walk_on : (own : Option Plain) (from : Option ℕ) → ((p : ℕ) → from ≡ Some p → off (after_it contexts c why) p ≡ or_else (off contexts p) (given why (goes_up_to contexts p c)))
      → or_else own (elim from [ None ↦ None | Some p ↦ off (after_it contexts c why) p ]) ≡ or_else (or_else own (elim from [ None ↦ None | Some p ↦ off contexts p ])) (given why (elim from [ None ↦ false | Some p ↦ goes_up_to contexts p c ]))
  walk_on own None agree = nested own None None
  walk_on own (Some p) agree = ap (or_else own) (agree p refl) ∙ nested own (off contexts p) (given why (goes_up_to contexts p c))

  at_itself : (x : ℕ) → (x == c) ≡ true → x ≡ c → off (after_it contexts c why) x ≡ or_else (off contexts x) (given why (goes_up_to contexts x c))
  at_itself x e same =
      let new : (context_at (after_it contexts c why) x).reason ≡ Some why = subst (λ y. (context_at (after_it contexts c why) y).reason ≡ Some why) (sym same) (ap (λ context. context.reason) (changed_itself contexts c (cancelled contexts c why) (was_made contexts c effect))) in
      let before : off contexts x ≡ None = subst (λ y. off contexts y ≡ None) (sym same) (not_off contexts c effect) in
      let met : goes_up_to contexts x c ≡ true = goes_up_walks contexts older x c ∙ ap (λ b. b || elim (above contexts x) [ None ↦ false | Some p ↦ goes_up_to contexts p c ]) e in
      off_walks (after_it contexts c why) later x
      ∙ ap (λ own. or_else own (off_above (after_it contexts c why) x)) new
      ∙ sym (ap (λ o. or_else o (given why (goes_up_to contexts x c))) before ∙ ap (given why) met)

  elsewhere : (x : ℕ) → (x == c) ≡ false → x ≢ c → ((p : ℕ) → above contexts x ≡ Some p → off (after_it contexts c why) p ≡ or_else (off contexts p) (given why (goes_up_to contexts p c)))
      → off (after_it contexts c why) x ≡ or_else (off contexts x) (given why (goes_up_to contexts x c))
  elsewhere x e other agree =
      let met : goes_up_to contexts x c ≡ elim (above contexts x) [ None ↦ false | Some p ↦ goes_up_to contexts p c ] = goes_up_walks contexts older x c ∙ ap (λ b. b || elim (above contexts x) [ None ↦ false | Some p ↦ goes_up_to contexts p c ]) e in
      off_walks (after_it contexts c why) later x
      ∙ ap (λ context. or_else context.reason (off_above (after_it contexts c why) x)) (others_unchanged contexts c x (cancelled contexts c why) other)
      ∙ ap (λ from. or_else (context_at contexts x).reason (elim from [ None ↦ None | Some p ↦ off (after_it contexts c why) p ])) (same_above contexts c x (cancelled contexts c why) refl refl)
      ∙ walk_on (context_at contexts x).reason (above contexts x) agree
      ∙ sym (ap (λ o. or_else o (given why (goes_up_to contexts x c))) (off_walks contexts older x) ∙ ap (λ b. or_else (or_else (context_at contexts x).reason (off_above contexts x)) (given why b)) met)

  below : (n x : ℕ) → x < n → off (after_it contexts c why) x ≡ or_else (off contexts x) (given why (goes_up_to contexts x c))
  below zero x h = absurd (omega arith)
  below (suc n) x h = elim (eqb_tells x c) [
    | inl same ↦ at_itself x same.0 same.1
    | inr other ↦ elsewhere x other.0 other.1 (λ p from. let lower : p < x = older x p (above_is_parent contexts x p from) in below n p (omega arith))
  ]

cancel_is : (contexts : List Context) (c : ℕ) (why : Plain) → takes_effect contexts c ≡ true → cancel c why contexts ≡ after_it contexts c why
cancel_is contexts c why effect = by (takes_effect contexts c) effect
  where
    by : (takes : Bool) → takes ≡ true → ◌≡◌ {A = List Context} (elim takes [ true ↦ after_it contexts c why | false ↦ contexts ]) (after_it contexts c why)
    by true e = refl
    by false e = absurd (true≢false (sym e))

pub cancels_below : (contexts : List Context) (c : ℕ) (why : Plain) (x : ℕ) → ParentsAreOlder contexts → takes_effect contexts c ≡ true → off (cancel c why contexts) x ≡ off_then contexts c why x
cancels_below contexts c why x older effect =
    let step : Continues contexts (cancel c why contexts) = cancel_step contexts c why older in
    let later : ParentsAreOlder (after_it contexts c why) = subst ParentsAreOlder (cancel_is contexts c why effect) step.older in
    ap (λ contexts. off contexts x) (cancel_is contexts c why effect)
    ∙ below contexts c why older effect later (x + 1) x (omega arith)
    ∙ ap (or_else (off contexts x)) (sym (given_by why (goes_up_to contexts x c)))
