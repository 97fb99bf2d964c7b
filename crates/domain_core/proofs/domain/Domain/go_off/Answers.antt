use Rattle.spec_machine.specs.Domain.{FindsOff, to_back}
use Rattle.trace_lines.specs.declared.line.Said2.TheVariants as said
use Rattle.domain_core.proofs.Composing.{makes_told}
use Rattle.domain_core.proofs.domain.Domain.go_off.Goals as goal

pub returns-clause-makes : goal.returns-clause-makes
returns-clause-makes c nodes = makes_told nodes (to_back FindsOff c.args.fiber) c.args.fiber c.args.did said.Off _ _ (c.to_back.ensures.becomes nodes)
