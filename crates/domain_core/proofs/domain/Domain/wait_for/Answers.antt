use Rattle.spec_machine.specs.Domain.{ForOthers, Parked, stands}
use Rattle.trace_lines.specs.declared.line.Said2.TheVariants as said
use Rattle.domain_core.specs.Keyed.{call_of}
use Rattle.domain_core.proofs.Awake.{becomes_parked}
use Rattle.domain_core.proofs.Composing.{makes_told}
use Rattle.domain_core.proofs.domain.Domain.wait_for.Goals as goal

pub returns-clause-makes : goal.returns-clause-makes
returns-clause-makes c nodes =
    makes_told nodes (stands (Parked (ForOthers (call_of c.args.again))) c.args.fiber) c.args.fiber c.args.did said.Waits _ _
    (becomes_parked _ c.args.self.now c.self.view_is c.args.fiber c.requires.awake (call_of c.args.again) c.stand.new.self c.stand.ensures nodes)
