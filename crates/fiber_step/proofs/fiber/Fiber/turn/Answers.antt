use Rattle.std.proofs.Common.{subst}
use Rattle.eio_value.specs.declared.raised.Outcome.TheVariants as outcome
use Rattle.script_forms.specs.Flat.{nodes_of}
use Rattle.fiber_step.specs.Turning.{Takes}
use Rattle.fiber_step.proofs.Results.{if_ok}
use Rattle.fiber_step.proofs.Settles.{ends, restores, taken_turn, mark_fits}
use Rattle.fiber_step.proofs.fiber.Fiber.turn.Goals as goal

pub returns-in-Nothing : goal.returns-in-Nothing
returns-in-Nothing c =
    let taken = subst (λ t. Takes c.args.self.now c.take.new.self t) c.in-Nothing.is c.take.ensures in
    ends (nodes_of c.args.script.now) c.args.script.now.texts c.args.value c.args.self.now c.take.new.self taken.0 taken.1

pub returns-in-Restored : goal.returns-in-Restored
returns-in-Restored c =
    let taken = subst (λ t. Takes c.args.self.now c.take.new.self t) c.in-Restored.is c.take.ensures in
    restores (nodes_of c.args.script.now) c.args.script.now.texts c.args.value c.args.self.now c.take.new.self taken

pub take_mark-requires : goal.take_mark-requires
take_mark-requires c =
    let taken = subst (λ t. Takes c.args.self.now c.take.new.self t) c.in-Mark.is c.take.ensures in
    (mark_fits (nodes_of c.args.script.now) c.args.self.now c.take.new.self c.in-Mark.mark taken c.requires).1

pub returns-in-Mark : goal.returns-in-Mark
returns-in-Mark c =
    let taken = subst (λ t. Takes c.args.self.now c.take.new.self t) c.in-Mark.is c.take.ensures in
    if_ok _ _ c.take_mark.result c.take_mark.ensures
    (λ t is. taken_turn (nodes_of c.args.script.now) c.args.script.now.texts (outcome.Ok c.args.value) c.args.self.now c.take.new.self c.take_mark.new.self c.in-Mark.mark t taken is)
