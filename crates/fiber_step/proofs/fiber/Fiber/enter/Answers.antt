use Rattle.std.proofs.Common.{◌∙◌, ℕ, ap, false, true, length}
use Rattle.eio_value.specs.declared.value.Value.TheVariants as value
use Rattle.script_forms.specs.Flat.{nodes_of}
use Rattle.script_code.specs.Standing.{block_at}
use Rattle.spec_script.specs.Syntax.{Block}
use Rattle.spec_fiber.specs.Replies as model
use Rattle.spec_fiber.specs.Replies.{into, into_with}
use Rattle.spec_fiber.specs.Silent.{blocks_of}
use Rattle.spec_fiber.specs.Work as work
use Rattle.fiber_step.specs.Framing.{KeptFrames}
use Rattle.fiber_step.specs.Standing.{branches_at, mark_work, works_of}
use Rattle.fiber_step.specs.Turning.{naming}
use Rattle.fiber_step.specs.declared.ask.Ask.TheVariants as ask
use Rattle.fiber_step.specs.declared.mark.Mark.{Mark}
use Rattle.fiber_step.specs.declared.mark.Mark.TheVariants as mark
use Rattle.fiber_step.proofs.Entries.{on_ok, stands_entered}
use Rattle.fiber_step.proofs.fiber.Fiber.enter.Goals as goal

pub returns-in-Sub-clause-ok : goal.returns-in-Sub-clause-ok
returns-in-Sub-clause-ok c = (
    let nodes = nodes_of c.args.script.now in
    let old : KeptFrames = c.args.self.now in
    on_ok _ _ c.go_into_with.result c.go_into_with.ensures.ok (λ made.
    stands_entered nodes c.args.ask.now (ask.Sub c.in-Sub.body) c.args.number c.leaving.result c.in-Sub.body old (naming (value.Ctx c.args.number) c.args.self.now) _ made c.in-Sub.is
    (ap (λ (end : Mark). into_with (value.Ctx c.args.number) (block_at nodes c.in-Sub.body) (mark_work nodes end) (works_of nodes old.items) old.variables) c.leaving.ensures
    ∙ ap (λ (n : ℕ). into_with (value.Ctx c.args.number) (block_at nodes c.in-Sub.body) (work.Leave c.args.number false n) (works_of nodes old.items) old.variables) (c.len-keep.ensures ∙ ap length c.variables.ensures))))

pub returns-in-Protect-clause-ok : goal.returns-in-Protect-clause-ok
returns-in-Protect-clause-ok c = (
    let nodes = nodes_of c.args.script.now in
    let old : KeptFrames = c.args.self.now in
    on_ok _ _ c.go_into.result c.go_into.ensures.ok (λ made.
    stands_entered nodes c.args.ask.now (ask.Protect c.in-Protect.body) c.args.number c.leaving-in-Protect.result c.in-Protect.body old c.args.self.now _ made c.in-Protect.is
    (ap (λ (end : Mark). into (block_at nodes c.in-Protect.body) (mark_work nodes end) (works_of nodes old.items) old.variables) c.leaving-in-Protect.ensures
    ∙ ap (λ (n : ℕ). into (block_at nodes c.in-Protect.body) (work.Leave c.args.number false n) (works_of nodes old.items) old.variables) (c.len-keep.ensures ∙ ap length c.variables.ensures))))

pub returns-in-OnRelease-clause-ok : goal.returns-in-OnRelease-clause-ok
returns-in-OnRelease-clause-ok c = (
    let nodes = nodes_of c.args.script.now in
    let old : KeptFrames = c.args.self.now in
    on_ok _ _ c.go_into-in-OnRelease.result c.go_into-in-OnRelease.ensures.ok (λ made.
    stands_entered nodes c.args.ask.now (ask.OnRelease _ c.in-OnRelease.handler) c.args.number c.leaving-in-OnRelease.result c.in-OnRelease.handler old c.args.self.now _ made c.in-OnRelease.is
    (ap (λ (end : Mark). into (block_at nodes c.in-OnRelease.handler) (mark_work nodes end) (works_of nodes old.items) old.variables) c.leaving-in-OnRelease.ensures
    ∙ ap (λ (n : ℕ). into (block_at nodes c.in-OnRelease.handler) (work.Leave c.args.number true n) (works_of nodes old.items) old.variables) (c.len-keep.ensures ∙ ap length c.variables.ensures))))

pub returns-in-Switch-clause-ok : goal.returns-in-Switch-clause-ok
returns-in-Switch-clause-ok c = (
    let nodes = nodes_of c.args.script.now in
    let old : KeptFrames = c.args.self.now in
    on_ok _ _ c.go_into_with-in-Switch.result c.go_into_with-in-Switch.ensures.ok (λ made.
    stands_entered nodes c.args.ask.now (ask.Switch c.in-Switch.body) c.args.number (mark.Close c.args.number c.len-keep.result) c.in-Switch.body old (naming (value.Switch c.args.number) c.args.self.now) _ made c.in-Switch.is
    (ap (λ (n : ℕ). into_with (value.Switch c.args.number) (block_at nodes c.in-Switch.body) (work.Close c.args.number n) (works_of nodes old.items) old.variables) (c.len-keep.ensures ∙ ap length c.variables.ensures))))

pub returns-in-Branches-clause-ok : goal.returns-in-Branches-clause-ok
returns-in-Branches-clause-ok c = (
    let nodes = nodes_of c.args.script.now in
    let old : KeptFrames = c.args.self.now in
    on_ok _ _ c.go_into-in-Branches.result c.go_into-in-Branches.ensures.ok (λ made.
    stands_entered nodes c.args.ask.now (ask.Branches _ c.in-Branches.form) c.args.number (mark.Join c.args.number c.len-keep.result) c.own_branch.result old c.args.self.now _ made c.in-Branches.is
    (ap (λ (b : Block). into b (mark_work nodes (mark.Join c.args.number c.len-keep.result)) (works_of nodes old.items) old.variables) c.own_branch.ensures.block
    ∙ ap (λ (n : ℕ). into (model.own_branch (blocks_of (branches_at nodes c.in-Branches.form))) (work.Join c.args.number n) (works_of nodes old.items) old.variables) (c.len-keep.ensures ∙ ap length c.variables.ensures))))
