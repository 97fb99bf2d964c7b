use Rattle.std.proofs.Common.{◌∙◌, ap, sym, subst, length}
use Rattle.spec_parts.specs.Switches.{switch_at}
use Rattle.switch_core.specs.Attaching.{IsAttached}
use Rattle.domain_core.specs.Conditions.{IsAttachedToNone, IsAwake}
use Rattle.domain_core.specs.Mirrors.{Mirrors}
use Rattle.spec_fiber.specs.Replies.{begun}
use Rattle.script_code.specs.Standing.{block_at}
use Rattle.domain_core.proofs.Making.{older_awake, new_awake, forks_mirrors}
use Rattle.domain_core.proofs.domain.Domain.make.Goals as goal

pub attach-requires-clause-apart : goal.attach-requires-clause-apart
attach-requires-clause-apart c attached =
    subst (λ kept. IsAttachedToNone kept (length kept.fibers)) (sym c.self.view_is) c.requires.can.apart c.args.switch
    (subst (λ m. IsAttached m (switch_at c.self.inside.switches c.args.switch)) c.in_ok-new.ensures.number attached)

pub returns-clause-awake : goal.returns-clause-awake
returns-clause-awake c g awake = older_awake _ _ _ g c.in_ok-new.ensures.ok (subst (λ kept. IsAwake kept g) (sym c.self.view_is) awake)

pub returns-clause-new : goal.returns-clause-new
returns-clause-new c =
    new_awake c.self.inside.fibers _ (length c.self.inside.fibers) c.in_ok-new.new c.context-context.result _ _ c.in_ok-new.ensures.ok c.in_ok-new.ensures.number

pub returns-clause-made : goal.returns-clause-made
returns-clause-made c nodes has texts l mirrors =
    forks_mirrors nodes texts _ l (subst (λ kept. Mirrors nodes texts kept l) (sym c.self.view_is) mirrors)
    c.args.maker c.args.switch c.args.body c.in_ok-new.new c.context-context.result c.args.daemon _ c.at.ensures.1 c.in_ok-frames.frames
    c.in_ok-new.ensures.number c.context-context.ensures
    (c.in_ok-frames.ensures.position nodes ∙ ap (begun (block_at nodes c.args.body)) (c.new.ensures ∙ (c.in_ok-values.ensures.items_if_clones_equal (λ x y e. e) ∙ (c.as_slice.ensures ∙ c.variables-variables.ensures))))
    (c.in_ok-frames.ensures.items nodes has)
    c.add.new.self c.attach.new.self c.in_ok-new.ensures.ok c.in_ok-attach.ensures.ok
