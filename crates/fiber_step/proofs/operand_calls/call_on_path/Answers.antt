use Rattle.std.proofs.Common.{rules, ◌≡◌, Err, length, sym, ap, ◌∙◌, subst}
use Rattle.script_forms.specs.Flat.{nodes_of}
use Rattle.script_code.specs.Standing.{expression_at, behind_expression}
use Rattle.spec_fiber.specs.Evaluation.{text_of}
use Rattle.fiber_step.specs.Having.{HasExpression}
use Rattle.fiber_step.specs.Stepping.{IsStepOf}
use Rattle.fiber_step.proofs.OperandSteps.{open_dir_raises, open_dir_step, on_path_raises, on_path_step, save_path_raises, save_content_raises, save_step}
use Rattle.fiber_step.proofs.Parts.{begins_within}
use Rattle.fiber_step.proofs.StepKinds.{path_only}
use Rattle.fiber_step.proofs.Steps.{knows_node, known_at}
use Rattle.fiber_step.proofs.operand_calls.call_on_path.Goals.{in-OpenDir+in_ok-path-in-OpenDir, in-OnPath+in_ok-named-in-OnPath, in-Save+in_ok-named-in-Save+in_ok-saved-in-Save}
use Rattle.fiber_step.proofs.operand_calls.call_on_path.Goals as goal

pub node-requires : goal.node-requires
node-requires c = begins_within _ _ c.requires.statement

pub evaluate_text-requires : goal.evaluate_text-requires
evaluate_text-requires c =
    let knows = knows_node _ _ _ _ c.requires.statement c.node.ensures.node c.node.ensures.stands c.node.ensures.text in
    (known_at _ _ _ _ _ knows c.in-OpenDir.is).parts.0

pub returns-in_err-path-in-OpenDir : goal.returns-in_err-path-in-OpenDir
returns-in_err-path-in-OpenDir c =
    let knows = knows_node _ _ _ _ c.requires.statement c.node.ensures.node c.node.ensures.stands c.node.ensures.text in
    let is : c.from_residual.result ≡ Err c.in_err-path-in-OpenDir.field-0.0 = search rules in
    subst (λ r. IsStepOf (nodes_of c.args.script.now) (length c.args.script.now.texts) c.args.number c.args.variables.now r) (sym is)
    (open_dir_raises _ _ _ _ _ _ _ _ _ knows c.in-OpenDir.is c.in_err-path-in-OpenDir.ensures.value)

pub evaluate_text-requires-in-OnPath : goal.evaluate_text-requires-in-OnPath
evaluate_text-requires-in-OnPath c =
    let knows = knows_node _ _ _ _ c.requires.statement c.node.ensures.node c.node.ensures.stands c.node.ensures.text in
    (known_at _ _ _ _ _ knows c.in-OnPath.is).parts.0

pub returns-in_err-named-in-OnPath : goal.returns-in_err-named-in-OnPath
returns-in_err-named-in-OnPath c =
    let knows = knows_node _ _ _ _ c.requires.statement c.node.ensures.node c.node.ensures.stands c.node.ensures.text in
    let is : c.from_residual-in_err-named-in-OnPath.result ≡ Err c.in_err-named-in-OnPath.field-0.0 = search rules in
    subst (λ r. IsStepOf (nodes_of c.args.script.now) (length c.args.script.now.texts) c.args.number c.args.variables.now r) (sym is)
    (on_path_raises _ _ _ _ _ _ _ _ knows c.in-OnPath.is c.in_err-named-in-OnPath.ensures.value)

pub evaluate_text-requires-in-Save : goal.evaluate_text-requires-in-Save
evaluate_text-requires-in-Save c =
    let knows = knows_node _ _ _ _ c.requires.statement c.node.ensures.node c.node.ensures.stands c.node.ensures.text in
    (known_at _ _ _ _ _ knows c.in-Save.is).parts.0

pub returns-in_err-named-in-Save : goal.returns-in_err-named-in-Save
returns-in_err-named-in-Save c =
    let knows = knows_node _ _ _ _ c.requires.statement c.node.ensures.node c.node.ensures.stands c.node.ensures.text in
    let is : c.from_residual-in_err-named-in-Save.result ≡ Err c.in_err-named-in-Save.field-0.0 = search rules in
    subst (λ r. IsStepOf (nodes_of c.args.script.now) (length c.args.script.now.texts) c.args.number c.args.variables.now r) (sym is)
    (save_path_raises _ _ _ _ _ _ _ _ knows c.in-Save.is c.in_err-named-in-Save.ensures.value)

pub evaluate_text-requires-in-Save-2 : goal.evaluate_text-requires-in-Save-2
evaluate_text-requires-in-Save-2 c =
    let knows = knows_node _ _ _ _ c.requires.statement c.node.ensures.node c.node.ensures.stands c.node.ensures.text in
    subst (λ k. HasExpression (nodes_of c.args.script.now) k) (sym c.in_ok-named-in-Save.ensures.behind) (known_at _ _ _ _ _ knows c.in-Save.is).parts.1

pub returns-in_err-saved-in-Save : goal.returns-in_err-saved-in-Save
returns-in_err-saved-in-Save c =
    let knows = knows_node _ _ _ _ c.requires.statement c.node.ensures.node c.node.ensures.stands c.node.ensures.text in
    let is : c.from_residual-in_err-saved-in-Save.result ≡ Err c.in_err-saved-in-Save.field-0.0 = search rules in
    subst (λ r. IsStepOf (nodes_of c.args.script.now) (length c.args.script.now.texts) c.args.number c.args.variables.now r) (sym is)
    (save_content_raises _ _ _ _ _ _ _ _ _ knows c.in-Save.is c.in_ok-named-in-Save.ensures.value (c.in_err-saved-in-Save.ensures.value ∙ ap (λ k. text_of c.args.variables.now (expression_at (nodes_of c.args.script.now) k)) c.in_ok-named-in-Save.ensures.behind))

pub unreachable-requires : goal.unreachable-requires
unreachable-requires c =
    path_only _ (c.requires.kind _ c.node.ensures.node) c.in_default.not-OpenDir c.in_default.not-OnPath c.in_default.not-Save

pub returns : goal.returns
returns c =
    let knows = knows_node _ _ _ _ c.requires.statement c.node.ensures.node c.node.ensures.stands c.node.ensures.text in
    elim c.match-node.branch [
      | in-OpenDir+in_ok-path-in-OpenDir w ↦ open_dir_step _ _ _ _ _ _ _ _ _ _ _ _ knows w.in-OpenDir.is w.in_ok-path-in-OpenDir.ensures.value w.place-place.ensures (ap (λ it. it.0) w.call-is) (ap (λ it. it.1) w.call-is)
      | in-OnPath+in_ok-named-in-OnPath w ↦ on_path_step _ _ _ _ _ _ _ _ _ _ _ knows w.in-OnPath.is w.in_ok-named-in-OnPath.ensures.value w.place-place-in-OnPath.ensures (ap (λ it. it.0) w.call-is) (ap (λ it. it.1) w.call-is ∙ w.in_ok-named-in-OnPath.ensures.behind)
      | in-Save+in_ok-named-in-Save+in_ok-saved-in-Save w ↦
          let first = w.in_ok-named-in-Save.ensures in
          save_step _ _ _ _ _ _ _ _ _ _ _ _ knows w.in-Save.is first.value
          (w.in_ok-saved-in-Save.ensures.value ∙ ap (λ k. text_of c.args.variables.now (expression_at (nodes_of c.args.script.now) k)) first.behind) w.place-place-in-Save.ensures
          (ap (λ it. it.0) w.call-is ∙ w.saving-call.ensures) (ap (λ it. it.1) w.call-is ∙ (w.in_ok-saved-in-Save.ensures.behind ∙ ap (λ k. behind_expression (nodes_of c.args.script.now) k) first.behind))
    ]
