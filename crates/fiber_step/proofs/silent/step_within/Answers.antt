use Rattle.std.proofs.Common.{rules, ◌≡◌, Err, length, sym, ap, ◌∙◌, subst}
use Rattle.script_forms.specs.Flat.{nodes_of}
use Rattle.std.proofs.Common.{FitsSigned, w64, if◌then◌else◌}
use Rattle.std.proofs.lemmas.Int.{to_z-of_z}
use Rattle.spec_fiber.specs.Silent.{is_zero}
use Rattle.fiber_step.specs.Stepping.{IsStepOf, HasFewLeft, repeats_step}
use Rattle.fiber_step.proofs.SilentSteps.{let_raises, let_step, form_step, if_raises, if_step, give_raises, give_step, raise_step, repeat_raises, repeat_step}
use Rattle.fiber_step.proofs.StepKinds.{silent_only}
use Rattle.fiber_step.proofs.Parts.{begins_within}
use Rattle.fiber_step.proofs.Steps.{knows_node, known_at}
use Rattle.fiber_step.proofs.silent.step_within.Goals.{in-Let+in_ok-named-in-Let, in-LetForm, in-If+in_ok-test-in-If, in-Give+in_ok-given-in-Give, in-Raise, in-Repeat+in_ok-times-in-Repeat}
use Rattle.fiber_step.proofs.silent.step_within.Goals as goal

pub node-requires : goal.node-requires
node-requires c = begins_within _ _ c.requires.statement

pub evaluate-requires : goal.evaluate-requires
evaluate-requires c =
    let knows = knows_node _ _ _ _ c.requires.statement c.node.ensures.node c.node.ensures.stands c.node.ensures.text in
    (known_at _ _ _ _ _ knows c.in-Let.is).parts.0

pub returns-in_err-named-in-Let : goal.returns-in_err-named-in-Let
returns-in_err-named-in-Let c =
    let knows = knows_node _ _ _ _ c.requires.statement c.node.ensures.node c.node.ensures.stands c.node.ensures.text in
    let is : c.from_residual.result ≡ Err c.in_err-named-in-Let.field-0.0 = search rules in
    subst (λ r. IsStepOf (nodes_of c.args.script.now) (length c.args.script.now.texts) c.args.number c.args.variables.now r) (sym is)
    (let_raises _ _ _ _ _ _ knows c.in-Let.is c.in_err-named-in-Let.ensures.value)

pub evaluate_number-requires : goal.evaluate_number-requires
evaluate_number-requires c =
    let knows = knows_node _ _ _ _ c.requires.statement c.node.ensures.node c.node.ensures.stands c.node.ensures.text in
    (known_at _ _ _ _ _ knows c.in-If.is).parts.0

pub returns-in_err-test-in-If : goal.returns-in_err-test-in-If
returns-in_err-test-in-If c =
    let knows = knows_node _ _ _ _ c.requires.statement c.node.ensures.node c.node.ensures.stands c.node.ensures.text in
    let is : c.from_residual-in_err-test-in-If.result ≡ Err c.in_err-test-in-If.field-0.0 = search rules in
    subst (λ r. IsStepOf (nodes_of c.args.script.now) (length c.args.script.now.texts) c.args.number c.args.variables.now r) (sym is)
    (if_raises _ _ _ _ _ _ _ _ _ knows c.in-If.is c.in_err-test-in-If.ensures.value)

pub evaluate-requires-in-Give : goal.evaluate-requires-in-Give
evaluate-requires-in-Give c =
    let knows = knows_node _ _ _ _ c.requires.statement c.node.ensures.node c.node.ensures.stands c.node.ensures.text in
    (known_at _ _ _ _ _ knows c.in-Give.is).parts.0

pub returns-in_err-given-in-Give : goal.returns-in_err-given-in-Give
returns-in_err-given-in-Give c =
    let knows = knows_node _ _ _ _ c.requires.statement c.node.ensures.node c.node.ensures.stands c.node.ensures.text in
    let is : c.from_residual-in_err-given-in-Give.result ≡ Err c.in_err-given-in-Give.field-0.0 = search rules in
    subst (λ r. IsStepOf (nodes_of c.args.script.now) (length c.args.script.now.texts) c.args.number c.args.variables.now r) (sym is)
    (give_raises _ _ _ _ _ _ knows c.in-Give.is c.in_err-given-in-Give.ensures.value)

pub evaluate_number-requires-in-Repeat : goal.evaluate_number-requires-in-Repeat
evaluate_number-requires-in-Repeat c =
    let knows = knows_node _ _ _ _ c.requires.statement c.node.ensures.node c.node.ensures.stands c.node.ensures.text in
    (known_at _ _ _ _ _ knows c.in-Repeat.is).parts.0

pub returns-in_err-times-in-Repeat : goal.returns-in_err-times-in-Repeat
returns-in_err-times-in-Repeat c =
    let knows = knows_node _ _ _ _ c.requires.statement c.node.ensures.node c.node.ensures.stands c.node.ensures.text in
    let is : c.from_residual-in_err-times-in-Repeat.result ≡ Err c.in_err-times-in-Repeat.field-0.0 = search rules in
    subst (λ r. IsStepOf (nodes_of c.args.script.now) (length c.args.script.now.texts) c.args.number c.args.variables.now r) (sym is)
    (repeat_raises _ _ _ _ _ _ _ _ knows c.in-Repeat.is c.in_err-times-in-Repeat.ensures.value)

pub unreachable-requires : goal.unreachable-requires
unreachable-requires c =
    silent_only _ (c.requires.kind _ c.node.ensures.node) c.in_default.not-Let c.in_default.not-LetForm c.in_default.not-If c.in_default.not-Give c.in_default.not-Raise c.in_default.not-Repeat

pub returns : goal.returns
returns c =
    let knows = knows_node _ _ _ _ c.requires.statement c.node.ensures.node c.node.ensures.stands c.node.ensures.text in
    elim c.match-node.branch [
      | in-Let+in_ok-named-in-Let w ↦ let_step _ _ _ _ _ _ _ _ knows w.in-Let.is w.in_ok-named-in-Let.ensures.value (ap (λ it. it.0) w.step-is) (ap (λ it. it.1) w.step-is ∙ w.in_ok-named-in-Let.ensures.behind)
      | in-LetForm w ↦ form_step _ _ _ _ _ _ _ knows c.node.ensures.node w.in-LetForm.is (ap (λ it. it.0) w.step-is) (ap (λ it. it.1) w.step-is)
      | in-If+in_ok-test-in-If w ↦
          let fits : FitsSigned w64 w.in_ok-test-in-If.test.number = search rules in
          let body = w.chosen-body.ensures ∙ ap (λ z. if is_zero z then w.in-If.else_block else w.in-If.then_block) (to_z-of_z w64 w.in_ok-test-in-If.test.number fits) in
          if_step _ _ _ _ _ _ _ _ _ _ _ _ knows w.in-If.is w.in_ok-test-in-If.ensures.value body (ap (λ it. it.0) w.step-is) (ap (λ it. it.1) w.step-is)
      | in-Give+in_ok-given-in-Give w ↦ give_step _ _ _ _ _ _ _ _ knows w.in-Give.is w.in_ok-given-in-Give.ensures.value (ap (λ it. it.0) w.step-is) (ap (λ it. it.1) w.step-is ∙ w.in_ok-given-in-Give.ensures.behind)
      | in-Raise w ↦ raise_step _ _ _ _ _ _ _ _ knows w.in-Raise.is (ap (λ it. it.0) w.step-is) (ap (λ it. it.1) w.step-is)
      | in-Repeat+in_ok-times-in-Repeat w ↦
          let fits : FitsSigned w64 w.in_ok-times-in-Repeat.times.number = search rules in
          let made : c.match-node.step.0 ≡ w.repeated-step.result = ap (λ it. it.0) w.step-is in
          let turns = ap (λ z. repeats_step z w.in-Repeat.body) (to_z-of_z w64 w.in_ok-times-in-Repeat.times.number fits) in
          repeat_step _ _ _ _ _ _ _ _ _ _ knows w.in-Repeat.is w.in_ok-times-in-Repeat.ensures.value (made ∙ (w.repeated-step.ensures.step ∙ turns))
          (subst (λ s. HasFewLeft s) (sym made) w.repeated-step.ensures.few) (ap (λ it. it.1) w.step-is)
    ]
