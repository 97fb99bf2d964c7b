use Rattle.std.proofs.Common.{ap, subst, ◌∙◌, List, ℕ, [], ◌∷◌, ◌++◌, Contains}
use Rattle.switch_core.specs.Attached.{fibers_of}
use Rattle.switch_core.proofs.Orders.{fibers_of-insert, timed-insert}
use Rattle.switch_core.proofs.fibers.Fibers.push.Goals as goal

pub invariant_of-self-2 : goal.invariant_of-self-2
invariant_of-self-2 c = timed-insert c.args.fiber c.self.inside.next c.self.inside.times.entries _ c.self.invariant c.in_ok-insert.ensures.entries c.in_ok-insert.ensures.ordered

pub returns-clause-ok : goal.returns-clause-ok
returns-clause-ok c =
    ap fibers_of c.in_ok-insert.ensures.entries
    ∙ (fibers_of-insert c.args.fiber c.self.inside.next c.self.inside.times.entries c.self.invariant.before (λ found. c.requires (subst (λ (fs : List ℕ). Contains fs c.args.fiber) c.self.view_is found))
    ∙ ap (λ (fs : List ℕ). fs ++ c.args.fiber ∷ []) c.self.view_is)
