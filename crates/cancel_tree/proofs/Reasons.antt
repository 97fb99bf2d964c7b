-- How many contexts have a reason of their own: what a change or one more makes of that, and that nobody is off where none has.
use Rattle.std.proofs.Common.{◌≡◌, ℕ, zero, suc, ◌+◌, ◌<◌, ◌≤◌, false, List, [], ◌∷◌, ◌++◌, length, slice_set, Option, Some, None, arith, refl, ap, ◌∙◌, cond, true≢false}
use Rattle.std.specs.Prelude.{is_some}
use mir.Val.{bool_byte as from_bool}
use Rattle.std.proofs.lemmas.List.Sums.{sum_by-cons, sum_by_push, count_by-le-length}
use Rattle.eio_value.specs.declared.plain.Plain.{Plain}
use Rattle.spec_parts.specs.Contexts.{Context, context_at, way_up, first_reason, off}
use Rattle.cancel_tree.specs.KeptContext.{reason_count}

abbrev pub counts_as : Option Plain → ℕ
counts_as reason = cond (is_some reason) 1 0

pub counted_as : (reason : Option Plain) → from_bool (is_some reason) ≡ counts_as reason
counted_as None = refl
counted_as (Some why) = refl

reason_count-cons : (x : Context) (xs : List Context) → reason_count (x ∷ xs) ≡ counts_as x.reason + reason_count xs
reason_count-cons x xs = sum_by-cons (λ (context : Context). counts_as context.reason) x xs

pub reason_count-le : (contexts : List Context) → reason_count contexts ≤ length contexts
reason_count-le contexts = count_by-le-length (λ (context : Context). is_some context.reason) contexts

-- one more, which has none
pub reason_count-append : (contexts : List Context) (x : Context) → x.reason ≡ None → reason_count (contexts ++ x ∷ []) ≡ reason_count contexts
reason_count-append contexts x none =
    let pushed : reason_count (contexts ++ x ∷ []) ≡ reason_count contexts + counts_as x.reason = sum_by_push (λ (context : Context). counts_as context.reason) contexts x in
    let nothing : counts_as x.reason ≡ 0 = ap counts_as none in
    omega arith

-- one changes
pub reason_count-set : (contexts : List Context) (c : ℕ) (x : Context) → c < length contexts → reason_count (slice_set contexts c x) + counts_as (context_at contexts c).reason ≡ reason_count contexts + counts_as x.reason
reason_count-set [] c x below = absurd (omega arith)
reason_count-set (context ∷ contexts) zero x below = omega (arith, reason_count-cons x contexts, reason_count-cons context contexts)
reason_count-set (context ∷ contexts) (suc c) x below =
    omega (arith, reason_count-cons context (slice_set contexts c x), reason_count-cons context contexts, reason_count-set contexts c x (omega arith))

-- Where none has a reason

pub not_some : (reason : Option Plain) → is_some reason ≡ false → reason ≡ None
not_some None e = refl
not_some (Some why) e = absurd (true≢false e)

no_reason : (reason : Option Plain) → counts_as reason ≡ 0 → reason ≡ None
no_reason None e = refl
no_reason (Some why) e = absurd (omega arith)

nobody_has_one : (contexts : List Context) (c : ℕ) → reason_count contexts ≡ 0 → (context_at contexts c).reason ≡ None
nobody_has_one [] c e = refl
nobody_has_one (context ∷ contexts) zero e = no_reason context.reason (omega (arith, reason_count-cons context contexts))
nobody_has_one (context ∷ contexts) (suc c) e = nobody_has_one contexts c (omega (arith, reason_count-cons context contexts))

none_on_a_way : (contexts : List Context) (way : List ℕ) → reason_count contexts ≡ 0 → first_reason contexts way ≡ None
none_on_a_way contexts [] e = refl
none_on_a_way contexts (c ∷ way) e =
    ap (λ reason. elim reason as (λ _. Option Plain) [ Some why ↦ Some why | None ↦ first_reason contexts way ]) (nobody_has_one contexts c e)
    ∙ none_on_a_way contexts way e

pub nobody_off : (contexts : List Context) (c : ℕ) → reason_count contexts ≡ 0 → off contexts c ≡ None
nobody_off contexts c e = none_on_a_way contexts (way_up contexts c) e
