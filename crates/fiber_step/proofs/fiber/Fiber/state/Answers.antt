use Rattle.std.proofs.Common.{subst, arith, length}
use Rattle.eio_value.specs.declared.plain.Plain.TheVariants.{Invalid}
use Rattle.script_forms.specs.Flat.{nodes_of}
use Rattle.fiber_step.specs.Stepping.{IsStepped, IsRaise}
use Rattle.fiber_step.proofs.Results.{if_ok}
use Rattle.fiber_step.proofs.Stated.{form_raises, last_step}
use Rattle.fiber_step.proofs.fiber.Fiber.state.Goals as goal

pub step_at-requires : goal.step_at-requires
step_at-requires c = c.requires.form.behind.begins

pub take_step-requires-clause-lets : goal.take_step-requires-clause-lets
take_step-requires-clause-lets c = let count = c.requires.form.behind.count in omega arith

pub take_step-requires-clause-step : goal.take_step-requires-clause-step
take_step-requires-clause-step c = last_step _ _ _ _ c.in-Ok.ensures.is c.in-Ok.ensures.bodies c.requires.form.last

pub returns-in-Ok : goal.returns-in-Ok
returns-in-Ok c =
    let stepped = subst (λ those. IsStepped (nodes_of c.args.script.now) (length c.args.script.now.texts) c.args.form those c.in-Ok.stepped) c.variables.ensures c.in-Ok.ensures in
    if_ok _ _ c.take_step.result c.take_step.ensures
    (λ t is value. is (nodes_of c.args.script.now) c.args.script.now.texts value c.requires.form c.requires.first stepped)

pub returns-in-Err : goal.returns-in-Err
returns-in-Err c =
    let raised = subst (λ those. IsRaise (nodes_of c.args.script.now) c.args.form those (Invalid c.in-Err.why)) c.variables.ensures c.in-Err.ensures in
    λ value. form_raises (nodes_of c.args.script.now) c.args.script.now.texts c.args.at c.args.form c.args.self.now value (Invalid c.in-Err.why) c.requires.form raised tt
