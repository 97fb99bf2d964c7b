-- Operands evaluated one behind the other, from the left.
use Rattle.std.proofs.Common.{◌≡◌, ℕ, zero, suc, ◌+◌, ◌-◌, ◌<◌, ◌≤◌, List, [], ◌∷◌, ◌++◌, length, refl, sym, ap, ◌∙◌, subst, append_assoc, length-append, append-nil, arith}
use Rattle.eio_value.specs.declared.plain.Plain.{Plain}
use Rattle.eio_value.specs.declared.value.Value.{Value}
use Rattle.script_code.specs.Standing.{expression_at, behind_expression, expressions_at, behind_expressions}
use Rattle.script_forms.specs.declared.node.Node.{Node}
use Rattle.spec_fiber.specs.Evaluation.{Evaluated, Is, Raises, value_of, values_of, ◌then◌}
use Rattle.fiber_step.specs.Having.{HasExpression, HasExpressions}

-- values behind these
abbrev behind_these : List Value → Evaluated (List Value) → Evaluated (List Value)
behind_these values others = others then λ more. Is (values ++ more)

-- of so many operands from a number on these values are had, and so many are left from a further number on
pub record IsTraced (nodes : List Node) (variables : List Value) (count number : ℕ) (values : List Value) (left behind : ℕ) : Type 0 where
  pub has : HasExpressions nodes left behind
  pub all : length values + left ≡ count
  pub value : behind_these values (values_of variables (expressions_at nodes left behind)) ≡ values_of variables (expressions_at nodes count number)
  pub end : behind_expressions nodes left behind ≡ behind_expressions nodes count number

none_before : (others : Evaluated (List Value)) → behind_these [] others ≡ others
none_before (Is more) = refl
none_before (Raises what) = refl

pub none_had : (nodes : List Node) (variables : List Value) (count number : ℕ) → HasExpressions nodes count number → IsTraced nodes variables count number [] count number
none_had nodes variables count number has = record { has = has; all = omega arith; value = none_before _; end = refl }

-- one more of those that are left
abbrev FirstLeft : List Node → List Value → (count number : ℕ) → List Value → (left behind : ℕ) → Type 0
FirstLeft nodes variables count number values left behind = (next : Evaluated Value) → next ≡ value_of variables (expression_at nodes behind)
    → behind_these values (next then λ first. values_of variables (expressions_at nodes left (behind_expression nodes behind)) then λ others. Is (first ∷ others)) ≡ values_of variables (expressions_at nodes count number)

first_left : (nodes : List Node) (variables : List Value) (count number : ℕ) (values : List Value) (left behind : ℕ) → IsTraced nodes variables count number values (suc left) behind → FirstLeft nodes variables count number values left behind
unfolding values_of
first_left nodes variables count number values left behind traced next same =
    ap (λ (e : Evaluated Value). behind_these values (e then λ first. values_of variables (expressions_at nodes left (behind_expression nodes behind)) then λ others. Is (first ∷ others))) same ∙ traced.value

one_longer : (values : List Value) (v : Value) (others : Evaluated (List Value)) → behind_these (values ++ v ∷ []) others ≡ behind_these values (others then λ more. Is (v ∷ more))
one_longer values v (Is more) = ap Is (append_assoc values (v ∷ []) more)
one_longer values v (Raises what) = refl

had_by : (nodes : List Node) (variables : List Value) (count number : ℕ) (values : List Value) (left behind : ℕ) (v : Value) → IsTraced nodes variables count number values (suc left) behind
    → Is v ≡ value_of variables (expression_at nodes behind) → IsTraced nodes variables count number (values ++ v ∷ []) left (behind_expression nodes behind)
had_by nodes variables count number values left behind v traced is =
    let all = traced.all in
    let sum : length (values ++ v ∷ []) ≡ length values + 1 = length-append values (v ∷ []) in
    record {
      has = traced.has.1;
      all = omega (arith, all, sum);
      value = one_longer values v _ ∙ first_left nodes variables count number values left behind traced (Is v) is;
      end = traced.end;
    }

one_left : (left : ℕ) → 0 < left → left ≡ suc (left - 1)
one_left left h = omega (arith, h)

in_turn : (nodes : List Node) (variables : List Value) (count number : ℕ) (values : List Value) (left behind : ℕ) → 0 < left → IsTraced nodes variables count number values left behind
    → IsTraced nodes variables count number values (suc (left - 1)) behind
in_turn nodes variables count number values left behind some traced = subst (λ n. IsTraced nodes variables count number values n behind) (one_left left some) traced

pub first_has : (nodes : List Node) (variables : List Value) (count number : ℕ) (values : List Value) (left behind : ℕ) → 0 < left → IsTraced nodes variables count number values left behind → HasExpression nodes behind
first_has nodes variables count number values left behind some traced = (in_turn nodes variables count number values left behind some traced).has.0

pub one_had : (nodes : List Node) (variables : List Value) (count number : ℕ) (values : List Value) (left behind : ℕ) (v : Value) (after : ℕ) → 0 < left → IsTraced nodes variables count number values left behind
    → Is v ≡ value_of variables (expression_at nodes behind) → after ≡ behind_expression nodes behind → IsTraced nodes variables count number (values ++ v ∷ []) (left - 1) after
one_had nodes variables count number values left behind v after some traced is at =
    subst (λ k. IsTraced nodes variables count number (values ++ v ∷ []) (left - 1) k) (sym at)
    (had_by nodes variables count number values (left - 1) behind v (in_turn nodes variables count number values left behind some traced) is)

pub one_raises : (nodes : List Node) (variables : List Value) (count number : ℕ) (values : List Value) (left behind : ℕ) (what : Plain) → 0 < left → IsTraced nodes variables count number values left behind
    → Raises what ≡ value_of variables (expression_at nodes behind) → Raises what ≡ values_of variables (expressions_at nodes count number)
one_raises nodes variables count number values left behind what some traced is =
    first_left nodes variables count number values (left - 1) behind (in_turn nodes variables count number values left behind some traced) (Raises what) is

-- all are had
all_had_by : (nodes : List Node) (variables : List Value) (count number : ℕ) (values : List Value) (behind : ℕ) → IsTraced nodes variables count number values zero behind
    → (Is values ≡ values_of variables (expressions_at nodes count number)) × (behind ≡ behind_expressions nodes count number)
unfolding values_of
all_had_by nodes variables count number values behind traced = (ap Is (sym (append-nil values)) ∙ traced.value, traced.end)

none_left : (left : ℕ) → left ≤ 0 → left ≡ zero
none_left left h = omega (arith, h)

pub all_had : (nodes : List Node) (variables : List Value) (count number : ℕ) (values : List Value) (left behind : ℕ) → left ≤ 0 → IsTraced nodes variables count number values left behind
    → (Is values ≡ values_of variables (expressions_at nodes count number)) × (behind ≡ behind_expressions nodes count number)
all_had nodes variables count number values left behind none traced =
    all_had_by nodes variables count number values behind (subst (λ n. IsTraced nodes variables count number values n behind) (none_left left none) traced)
