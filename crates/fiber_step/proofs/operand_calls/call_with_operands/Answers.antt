use Rattle.std.proofs.Common.{rules, ◌≡◌, Err, length, sym, ap, ◌∙◌, subst}
use Rattle.script_forms.specs.Flat.{nodes_of}
use Rattle.std.proofs.Common.{FitsSigned, w64}
use Rattle.std.proofs.lemmas.Int.{to_z-of_z}
use Rattle.fiber_step.specs.declared.ask.Ask.TheVariants as ask
use Rattle.fiber_step.specs.Stepping.{IsStepOf}
use Rattle.fiber_step.proofs.OperandSteps.{trace_raises, trace_step, on_object_with_raises, on_object_with_step, sleep_raises, sleep_step, take_bytes_raises, take_bytes_step, put_raises, put_step}
use Rattle.fiber_step.proofs.Parts.{begins_within}
use Rattle.fiber_step.proofs.StepKinds.{operands_only}
use Rattle.fiber_step.proofs.Steps.{knows_node, known_at}
use Rattle.fiber_step.proofs.operand_calls.call_with_operands.Goals.{in-Trace+in_ok-traced-in-Trace, in-OnObjectWith+in_ok-given-in-OnObjectWith, in-Sleep+in_ok-time-in-Sleep, in-TakeBytes+in_ok-most-in-TakeBytes, in-Put+in_ok-written-in-Put}
use Rattle.fiber_step.proofs.operand_calls.call_with_operands.Goals as goal

pub node-requires : goal.node-requires
node-requires c = begins_within _ _ c.requires.statement

pub evaluate_all-requires-clause-room : goal.evaluate_all-requires-clause-room
evaluate_all-requires-clause-room c =
    let knows = knows_node _ _ _ _ c.requires.statement c.node.ensures.node c.node.ensures.stands c.node.ensures.text in
    (known_at _ _ _ _ _ knows c.in-Trace.is).parts.0

pub evaluate_all-requires-clause-expressions : goal.evaluate_all-requires-clause-expressions
evaluate_all-requires-clause-expressions c =
    let knows = knows_node _ _ _ _ c.requires.statement c.node.ensures.node c.node.ensures.stands c.node.ensures.text in
    (known_at _ _ _ _ _ knows c.in-Trace.is).parts.1

pub returns-in_err-traced-in-Trace : goal.returns-in_err-traced-in-Trace
returns-in_err-traced-in-Trace c =
    let knows = knows_node _ _ _ _ c.requires.statement c.node.ensures.node c.node.ensures.stands c.node.ensures.text in
    let is : c.from_residual.result ≡ Err c.in_err-traced-in-Trace.field-0.0 = search rules in
    subst (λ r. IsStepOf (nodes_of c.args.script.now) (length c.args.script.now.texts) c.args.number c.args.variables.now r) (sym is)
    (trace_raises _ _ _ _ _ _ _ knows c.in-Trace.is c.in_err-traced-in-Trace.ensures.values)

pub evaluate-requires : goal.evaluate-requires
evaluate-requires c =
    let knows = knows_node _ _ _ _ c.requires.statement c.node.ensures.node c.node.ensures.stands c.node.ensures.text in
    (known_at _ _ _ _ _ knows c.in-OnObjectWith.is).parts.0

pub returns-in_err-given-in-OnObjectWith : goal.returns-in_err-given-in-OnObjectWith
returns-in_err-given-in-OnObjectWith c =
    let knows = knows_node _ _ _ _ c.requires.statement c.node.ensures.node c.node.ensures.stands c.node.ensures.text in
    let is : c.from_residual-in_err-given-in-OnObjectWith.result ≡ Err c.in_err-given-in-OnObjectWith.field-0.0 = search rules in
    subst (λ r. IsStepOf (nodes_of c.args.script.now) (length c.args.script.now.texts) c.args.number c.args.variables.now r) (sym is)
    (on_object_with_raises _ _ _ _ _ _ _ _ knows c.in-OnObjectWith.is c.in_err-given-in-OnObjectWith.ensures.value)

pub evaluate_number-requires : goal.evaluate_number-requires
evaluate_number-requires c =
    let knows = knows_node _ _ _ _ c.requires.statement c.node.ensures.node c.node.ensures.stands c.node.ensures.text in
    (known_at _ _ _ _ _ knows c.in-Sleep.is).parts.0

pub returns-in_err-time-in-Sleep : goal.returns-in_err-time-in-Sleep
returns-in_err-time-in-Sleep c =
    let knows = knows_node _ _ _ _ c.requires.statement c.node.ensures.node c.node.ensures.stands c.node.ensures.text in
    let is : c.from_residual-in_err-time-in-Sleep.result ≡ Err c.in_err-time-in-Sleep.field-0.0 = search rules in
    subst (λ r. IsStepOf (nodes_of c.args.script.now) (length c.args.script.now.texts) c.args.number c.args.variables.now r) (sym is)
    (sleep_raises _ _ _ _ _ _ knows c.in-Sleep.is c.in_err-time-in-Sleep.ensures.value)

pub evaluate_number-requires-in-TakeBytes : goal.evaluate_number-requires-in-TakeBytes
evaluate_number-requires-in-TakeBytes c =
    let knows = knows_node _ _ _ _ c.requires.statement c.node.ensures.node c.node.ensures.stands c.node.ensures.text in
    (known_at _ _ _ _ _ knows c.in-TakeBytes.is).parts.0

pub returns-in_err-most-in-TakeBytes : goal.returns-in_err-most-in-TakeBytes
returns-in_err-most-in-TakeBytes c =
    let knows = knows_node _ _ _ _ c.requires.statement c.node.ensures.node c.node.ensures.stands c.node.ensures.text in
    let is : c.from_residual-in_err-most-in-TakeBytes.result ≡ Err c.in_err-most-in-TakeBytes.field-0.0 = search rules in
    subst (λ r. IsStepOf (nodes_of c.args.script.now) (length c.args.script.now.texts) c.args.number c.args.variables.now r) (sym is)
    (take_bytes_raises _ _ _ _ _ _ _ knows c.in-TakeBytes.is c.in_err-most-in-TakeBytes.ensures.value)

pub evaluate_text-requires : goal.evaluate_text-requires
evaluate_text-requires c =
    let knows = knows_node _ _ _ _ c.requires.statement c.node.ensures.node c.node.ensures.stands c.node.ensures.text in
    (known_at _ _ _ _ _ knows c.in-Put.is).parts.0

pub returns-in_err-written-in-Put : goal.returns-in_err-written-in-Put
returns-in_err-written-in-Put c =
    let knows = knows_node _ _ _ _ c.requires.statement c.node.ensures.node c.node.ensures.stands c.node.ensures.text in
    let is : c.from_residual-in_err-written-in-Put.result ≡ Err c.in_err-written-in-Put.field-0.0 = search rules in
    subst (λ r. IsStepOf (nodes_of c.args.script.now) (length c.args.script.now.texts) c.args.number c.args.variables.now r) (sym is)
    (put_raises _ _ _ _ _ _ _ knows c.in-Put.is c.in_err-written-in-Put.ensures.value)

pub unreachable-requires : goal.unreachable-requires
unreachable-requires c =
    operands_only _ (c.requires.kind _ c.node.ensures.node) c.in_default.not-Trace c.in_default.not-OnObjectWith c.in_default.not-Sleep c.in_default.not-TakeBytes c.in_default.not-Put

pub returns : goal.returns
returns c =
    let knows = knows_node _ _ _ _ c.requires.statement c.node.ensures.node c.node.ensures.stands c.node.ensures.text in
    elim c.match-node.branch [
      | in-Trace+in_ok-traced-in-Trace w ↦ trace_step _ _ _ _ _ _ _ _ _ knows w.in-Trace.is w.in_ok-traced-in-Trace.ensures.values (ap (λ it. it.0) w.call-is) (ap (λ it. it.1) w.call-is ∙ w.in_ok-traced-in-Trace.ensures.behind)
      | in-OnObjectWith+in_ok-given-in-OnObjectWith w ↦ on_object_with_step _ _ _ _ _ _ _ _ _ _ knows w.in-OnObjectWith.is w.in_ok-given-in-OnObjectWith.ensures.value (ap (λ it. it.0) w.call-is ∙ w.on_object.ensures) (ap (λ it. it.1) w.call-is ∙ w.in_ok-given-in-OnObjectWith.ensures.behind)
      | in-Sleep+in_ok-time-in-Sleep w ↦
          let fits : FitsSigned w64 w.in_ok-time-in-Sleep.time.number = search rules in
          sleep_step _ _ _ _ _ _ _ _ knows w.in-Sleep.is w.in_ok-time-in-Sleep.ensures.value (ap (λ it. it.0) w.call-is ∙ ap (λ z. ask.Sleep z) (to_z-of_z w64 _ fits)) (ap (λ it. it.1) w.call-is ∙ w.in_ok-time-in-Sleep.ensures.behind)
      | in-TakeBytes+in_ok-most-in-TakeBytes w ↦
          let fits : FitsSigned w64 w.in_ok-most-in-TakeBytes.most.number = search rules in
          take_bytes_step _ _ _ _ _ _ _ _ _ _ knows w.in-TakeBytes.is w.in_ok-most-in-TakeBytes.ensures.value w.number-reader.ensures (ap (λ it. it.0) w.call-is ∙ ap (λ z. ask.TakeBytes w.number-reader.result z) (to_z-of_z w64 _ fits)) (ap (λ it. it.1) w.call-is ∙ w.in_ok-most-in-TakeBytes.ensures.behind)
      | in-Put+in_ok-written-in-Put w ↦ put_step _ _ _ _ _ _ _ _ _ _ knows w.in-Put.is w.in_ok-written-in-Put.ensures.value w.number-writer.ensures (ap (λ it. it.0) w.call-is) (ap (λ it. it.1) w.call-is ∙ w.in_ok-written-in-Put.ensures.behind)
    ]
