-- Whom a cancellation strikes. It gives a context a reason and changes no way up, so those that it reaches are the same before and after.
use Rattle.std.proofs.Common.{◌≡◌, ℕ, zero, suc, ◌+◌, true, false, ◌==◌, List, [], ◌∷◌, slice_set, Option, Some, None, refl, ap, ◌∙◌, sym}
use Rattle.std.specs.List.{list_any}
use Rattle.eio_value.specs.declared.plain.Plain.{Plain}
use Rattle.spec_parts.specs.Contexts.{Context, Waiting, context_at, above, way_within, goes_up_to, takes_effect, cancel, reached, to_be_struck}
use Rattle.law_parts.proofs.Staying.{same_above}
use Rattle.cancel_tree.proofs.Changes.{cancel_some}
use Rattle.cancel_tree.proofs.Waiting.{reached-cons}

-- the way up from where a cancellation comes down to a context
abbrev way_from : (steps : ℕ) → List Context → Option ℕ → List ℕ
way_from n contexts from = elim from [ None ↦ [] | Some parent ↦ way_within n contexts parent ]

module _ (contexts : List Context) (c : ℕ) (why : Plain) where
  abbrev reasoned : Context
  reasoned = record (context_at contexts c) { reason = Some why }

  abbrev afterwards : List Context
  afterwards = slice_set contexts c reasoned

  same_way : (n x : ℕ) → way_within n afterwards x ≡ way_within n contexts x
  unfolding way_within
  same_way zero x = refl
  same_way (suc n) x = ap (λ way. x ∷ way) (ap (way_from n afterwards) (same_above contexts c x reasoned refl refl) ∙ onward (above contexts x) (same_way n))
    where
      onward : (from : Option ℕ) → ((p : ℕ) → way_within n afterwards p ≡ way_within n contexts p) → way_from n afterwards from ≡ way_from n contexts from
      onward None same = refl
      onward (Some p) same = same p

  goes_the_same : (x d : ℕ) → goes_up_to afterwards x d ≡ goes_up_to contexts x d
  goes_the_same x d = ap (list_any (λ y. y == d)) (same_way (x + 1) x)

  reaches_the_same : (ws : List Waiting) (d : ℕ) → reached afterwards ws d ≡ reached contexts ws d
  reaches_the_same [] d = refl
  reaches_the_same (w ∷ ws) d = reached-cons contexts afterwards w ws d (goes_the_same w.context d) (reaches_the_same ws d)

-- where it takes effect, those that it strikes are those that it reaches afterwards
pub struck_some : (contexts : List Context) (c : ℕ) (why : Plain) (ws : List Waiting) → takes_effect contexts c ≡ true → reached (cancel c why contexts) ws c ≡ to_be_struck contexts ws c
struck_some contexts c why ws effect =
    ap (λ after. reached after ws c) (cancel_some contexts c why effect)
    ∙ reaches_the_same contexts c why ws c
    ∙ sym (ap (λ b. elim b as (λ _. List ℕ) [ true ↦ reached contexts ws c | false ↦ [] ]) effect)
