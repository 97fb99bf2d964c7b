use Rattle.std.proofs.Common.{◌∙◌, ap, sym, subst, refl}
use Rattle.spec_machine.specs.Domain.{OfGroup}
use Rattle.spec_fiber.specs.Replies.{begun}
use Rattle.script_code.specs.Standing.{block_at}
use Rattle.domain_core.specs.Mirrors.{Mirrors}
use Rattle.domain_core.proofs.Making.{made_mirrors}
use Rattle.domain_core.proofs.domain.Domain.make_branch.Goals as goal

pub returns-clause-made : goal.returns-clause-made
returns-clause-made c nodes has texts l mirrors =
    made_mirrors nodes texts _ l (subst (λ kept. Mirrors nodes texts kept l) (sym c.self.view_is) mirrors)
    c.args.maker _ c.at.ensures.1 c.args.body c.in_ok-frames.frames
    (c.in_ok-frames.ensures.position nodes ∙ ap (begun (block_at nodes c.args.body)) (c.new.ensures ∙ (c.in_ok-values.ensures.items_if_clones_equal (λ x y e. e) ∙ (c.as_slice.ensures ∙ c.variables-variables.ensures))))
    (c.in_ok-frames.ensures.items nodes has)
    (OfGroup c.args.group) c.args.context c.args.context refl
    c.add.new.self c.in_ok-add.ensures.ok
