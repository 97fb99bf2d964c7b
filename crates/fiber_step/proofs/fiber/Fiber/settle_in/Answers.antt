use Rattle.std.proofs.Common.{◌∙◌}
use Rattle.std.proofs.lemmas.Result.{on_ok_weaker}
use Rattle.script_forms.specs.Flat.{nodes_of}
use Rattle.fiber_step.proofs.Settles.{long_enough}
use Rattle.fiber_step.proofs.Throws.{grown_then}
use Rattle.fiber_step.proofs.fiber.Fiber.settle_in.Goals as goal

pub go_on-requires : goal.go_on-requires
go_on-requires c =
    let first = c.in-Ok.ensures.first (nodes_of c.args.script.now) c.args.serial.now c.requires.items in
    record { items = first.placed; texts = long_enough _ _ _ c.requires.texts c.in-Ok.ensures.grown; parts = first.parts }

pub returns-in-Ok-clause-settled : goal.returns-in-Ok-clause-settled
returns-in-Ok-clause-settled c =
    let first = c.in-Ok.ensures.first (nodes_of c.args.script.now) c.args.serial.now c.requires.items in
    on_ok_weaker c.go_on.result (λ come raises. let begun = first.next raises in let then = come.next begun.0 in (then.0, begun.1 ∙ then.1)) c.go_on.ensures.come

pub returns-in-Ok-clause-items : goal.returns-in-Ok-clause-items
returns-in-Ok-clause-items c = on_ok_weaker c.go_on.result (λ come. come.placed) c.go_on.ensures.come

pub returns-in-Ok-clause-bodies : goal.returns-in-Ok-clause-bodies
returns-in-Ok-clause-bodies c = on_ok_weaker c.go_on.result (λ come. come.parts) c.go_on.ensures.come

pub returns-in-Ok-clause-grown : goal.returns-in-Ok-clause-grown
returns-in-Ok-clause-grown c = grown_then _ _ _ c.in-Ok.ensures.grown c.go_on.ensures.grown
