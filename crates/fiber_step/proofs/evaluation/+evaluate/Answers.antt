use Rattle.std.proofs.Common.{rules, ◌≡◌, ◌+◌, ◌∙◌, sym, ap, subst, arith, w64, FitsSigned, Some, Err}
use Rattle.std.proofs.lemmas.Int.{to_z-of_z}
use Rattle.eio_value.specs.declared.value.Value.TheVariants.{Int}
use Rattle.script_forms.specs.Flat.{nodes_of}
use Rattle.script_code.specs.Standing.{expression_at, behind_expression}
use Rattle.spec_fiber.specs.Evaluation.{value_of, Is}
use Rattle.fiber_step.specs.Evaluating.{operand_value}
use Rattle.fiber_step.specs.Having.{HasExpression}
use Rattle.fiber_step.proofs.ExpressionNodes.{has_within, has_operands, behind_is_later, no_other}
use Rattle.fiber_step.proofs.ExpressionValues.{number_leaf, text_leaf, variable_leaf, unit_leaf, left_raises, right_raises, both_are}
use Rattle.fiber_step.proofs.evaluation.+evaluate.Goals.{in-Number, in-Text, in-Variable, in-Unit}
use Rattle.fiber_step.proofs.evaluation.+evaluate.Goals as goal

pub node-requires : goal.node-requires
node-requires t c = has_within _ _ c.requires

pub overflow_add-number : goal.overflow_add-number
overflow_add-number t c = let within = has_within _ _ c.requires in let few = c.node.ensures.few in record { fits = omega arith }

pub overflow_add-result : goal.overflow_add-result
overflow_add-result t c = let within = has_within _ _ c.requires in let few = c.node.ensures.few in record { fits = omega arith }

pub evaluate-requires : goal.evaluate-requires
evaluate-requires t c =
    let within = has_within _ _ c.requires in
    let operands = has_operands _ _ c.in-Operation.operator c.requires (c.node.ensures.node ∙ ap (λ n. Some n) c.in-Operation.is) in
    (omega arith, operands.left)

pub unreachable-requires : goal.unreachable-requires
unreachable-requires t c =
    no_other _ _ _ c.requires c.node.ensures.node c.in_default.not-Number c.in_default.not-Text c.in_default.not-Variable c.in_default.not-Unit c.in_default.not-Operation

pub evaluate-requires-in-Operation : goal.evaluate-requires-in-Operation
evaluate-requires-in-Operation t c =
    let within = has_within _ _ c.requires in
    let operands = has_operands _ _ c.in-Operation.operator c.requires (c.node.ensures.node ∙ ap (λ n. Some n) c.in-Operation.is) in
    let at = c.in_ok-left-in-Operation.ensures.behind in
    let later = behind_is_later (nodes_of c.args.script.now) (c.args.number + 1) operands.left in
    let right_within = has_within _ _ operands.right in
    (omega arith, subst (λ k. HasExpression (nodes_of c.args.script.now) k) (sym at) operands.right)

pub returns-in_err-left-in-Operation-clause-value : goal.returns-in_err-left-in-Operation-clause-value
returns-in_err-left-in-Operation-clause-value t c =
    let is : c.from_residual.result ≡ Err c.in_err-left-in-Operation.field-0.0 = search rules in
    ap operand_value is
    ∙ left_raises c.args.variables.now (nodes_of c.args.script.now) c.args.number _ c.in-Operation.operator _ c.node.ensures.stands c.in-Operation.is c.in_err-left-in-Operation.ensures.value

pub returns-in_err-right-in-Operation-clause-value : goal.returns-in_err-right-in-Operation-clause-value
returns-in_err-right-in-Operation-clause-value t c =
    let is : c.from_residual-in_err-right-in-Operation.result ≡ Err c.in_err-right-in-Operation.field-0.0 = search rules in
    let at = c.in_ok-left-in-Operation.ensures.behind in
    ap operand_value is
    ∙ right_raises c.args.variables.now (nodes_of c.args.script.now) c.args.number _ c.in-Operation.operator _ _ c.node.ensures.stands c.in-Operation.is c.in_ok-left-in-Operation.ensures.value
    (c.in_err-right-in-Operation.ensures.value ∙ ap (λ k. value_of c.args.variables.now (expression_at (nodes_of c.args.script.now) k)) at)

pub returns-in_err-operated-in-Operation-clause-value : goal.returns-in_err-operated-in-Operation-clause-value
returns-in_err-operated-in-Operation-clause-value t c =
    let is : c.from_residual-in_err-operated-in-Operation.result ≡ Err c.in_err-operated-in-Operation.field-0.0 = search rules in
    let at = c.in_ok-left-in-Operation.ensures.behind in
    ap operand_value is
    ∙ (c.in_err-operated-in-Operation.ensures
    ∙ both_are c.args.variables.now (nodes_of c.args.script.now) c.args.number _ c.in-Operation.operator _ _ c.node.ensures.stands c.in-Operation.is c.in_ok-left-in-Operation.ensures.value
    (c.in_ok-right-in-Operation.ensures.value ∙ ap (λ k. value_of c.args.variables.now (expression_at (nodes_of c.args.script.now) k)) at))

pub returns-in-Operation-clause-value : goal.returns-in-Operation-clause-value
returns-in-Operation-clause-value t c =
    let at = c.in_ok-left-in-Operation.ensures.behind in
    c.in_ok-operated-in-Operation.ensures
    ∙ both_are c.args.variables.now (nodes_of c.args.script.now) c.args.number _ c.in-Operation.operator _ _ c.node.ensures.stands c.in-Operation.is c.in_ok-left-in-Operation.ensures.value
    (c.in_ok-right-in-Operation.ensures.value ∙ ap (λ k. value_of c.args.variables.now (expression_at (nodes_of c.args.script.now) k)) at)

pub returns-in-Operation-clause-behind : goal.returns-in-Operation-clause-behind
returns-in-Operation-clause-behind t c =
    let operands = has_operands _ _ c.in-Operation.operator c.requires (c.node.ensures.node ∙ ap (λ n. Some n) c.in-Operation.is) in
    c.in_ok-right-in-Operation.ensures.behind
    ∙ (ap (λ k. behind_expression (nodes_of c.args.script.now) k) c.in_ok-left-in-Operation.ensures.behind ∙ sym operands.behind)

pub returns-clause-value : goal.returns-clause-value
returns-clause-value t c = elim c.match-node.branch [
  | in-Number w ↦ let fits : FitsSigned w64 w.in-Number.z = search rules in ap Is (w.value-is ∙ ap Int (to_z-of_z w64 w.in-Number.z fits)) ∙ (number_leaf c.args.variables.now _ _ _ _ c.node.ensures.stands w.in-Number.is).is
  | in-Text w ↦ ap Is w.value-is ∙ (text_leaf c.args.variables.now _ _ _ _ c.node.ensures.stands w.in-Text.is).is
  | in-Variable w ↦ ap Is (w.value-is ∙ w.value-value.ensures) ∙ (variable_leaf c.args.variables.now _ _ _ _ c.node.ensures.stands w.in-Variable.is).is
  | in-Unit w ↦ ap Is w.value-is ∙ (unit_leaf c.args.variables.now _ _ _ c.node.ensures.stands w.in-Unit.is).is
]

pub returns-clause-behind : goal.returns-clause-behind
returns-clause-behind t c = elim c.match-node.branch [
  | in-Number w ↦ (number_leaf c.args.variables.now _ _ _ _ c.node.ensures.stands w.in-Number.is).behind
  | in-Text w ↦ (text_leaf c.args.variables.now _ _ _ _ c.node.ensures.stands w.in-Text.is).behind
  | in-Variable w ↦ (variable_leaf c.args.variables.now _ _ _ _ c.node.ensures.stands w.in-Variable.is).behind
  | in-Unit w ↦ (unit_leaf c.args.variables.now _ _ _ c.node.ensures.stands w.in-Unit.is).behind
]
