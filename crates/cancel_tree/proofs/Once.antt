-- A context is cancelled once: where a cancellation takes effect, the way up from the context begins with the reason that it then has.
use Rattle.std.proofs.Common.{◌≡◌, ℕ, suc, Bool, true, false, List, [], slice_set, Option, Some, None, refl, ap, ◌∙◌, add-one}
use Rattle.std.specs.Prelude.{is_none, ◌&&◌}
use Rattle.eio_value.specs.declared.plain.Plain.{Plain}
use Rattle.spec_parts.specs.Contexts.{Context, context_at, above, way_within, first_reason, off, is_live, takes_effect, cancel}
use Rattle.law_parts.proofs.Places.{changed_itself}
use Rattle.cancel_tree.specs.Cancelling.{CancelsOnce}
use Rattle.cancel_tree.proofs.Changes.{cancel_none, cancel_some}
use Rattle.cancel_tree.proofs.Forgotten.{live_below, effect_lives}

and_false : (a b : Bool) → b ≡ false → (a && b) ≡ false
and_false true b e = e
and_false false b e = refl

-- a context with a reason is off by it
own_first : (contexts : List Context) (n c : ℕ) (why : Plain) → (context_at contexts c).reason ≡ Some why → first_reason contexts (way_within (suc n) contexts c) ≡ Some why
unfolding way_within
own_first contexts n c why own =
    ap (λ reason. elim reason as (λ _. Option Plain) [ Some why ↦ Some why | None ↦ first_reason contexts (elim (above contexts c) as (λ _. List ℕ) [ None ↦ [] | Some p ↦ way_within n contexts p ]) ]) own

off_by_own : (contexts : List Context) (c : ℕ) (why : Plain) → (context_at contexts c).reason ≡ Some why → off contexts c ≡ Some why
off_by_own contexts c why own = ap (λ n. first_reason contexts (way_within n contexts c)) (add-one c) ∙ own_first contexts c c why own

off_once : (contexts : List Context) (c : ℕ) (why : Plain) → takes_effect contexts c ≡ true → off (cancel c why contexts) c ≡ Some why
off_once contexts c why effect =
    let reasoned : Context = record (context_at contexts c) { reason = Some why } in
    ap (λ after. off after c) (cancel_some contexts c why effect)
    ∙ off_by_own (slice_set contexts c reasoned) c why (ap (λ context. context.reason) (changed_itself contexts c reasoned (live_below contexts c (effect_lives contexts c effect))))

pub cancels_once : CancelsOnce
cancels_once contexts c why = by (takes_effect contexts c) refl
  where
    by : (takes : Bool) → takes_effect contexts c ≡ takes → takes_effect (cancel c why contexts) c ≡ false
    by true effect = and_false (is_live (cancel c why contexts) c) (is_none (off (cancel c why contexts) c)) (ap is_none (off_once contexts c why effect))
    by false effect = ap (λ after. takes_effect after c) (cancel_none contexts c why effect) ∙ effect
