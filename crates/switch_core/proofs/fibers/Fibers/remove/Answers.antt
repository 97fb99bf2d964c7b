use Rattle.std.proofs.Common.{ap, ◌∙◌}
use Rattle.spec_parts.specs.Switches.{without}
use Rattle.switch_core.specs.Attached.{fibers_of}
use Rattle.switch_core.proofs.Orders.{fibers_of-remove, timed-remove}
use Rattle.switch_core.proofs.fibers.Fibers.remove.Goals as goal

pub invariant_of-self : goal.invariant_of-self
invariant_of-self c = timed-remove c.args.fiber c.self.inside.next c.self.inside.times.entries _ c.self.invariant c.remove.ensures.entries c.remove.ensures.ordered

pub returns : goal.returns
returns c =
    ap fibers_of c.remove.ensures.entries
    ∙ (fibers_of-remove c.args.fiber c.self.inside.times.entries c.self.invariant.apart
    ∙ ap (without c.args.fiber) c.self.view_is)
