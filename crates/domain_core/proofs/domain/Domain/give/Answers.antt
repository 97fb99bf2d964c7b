use Rattle.eio_value.specs.declared.raised.Outcome.TheVariants as outcome
use Rattle.spec_machine.specs.Domain.{GoesOn, to_head}
use Rattle.trace_lines.specs.declared.line.Said2.TheVariants as said
use Rattle.domain_core.proofs.Composing.{makes_told}
use Rattle.domain_core.proofs.domain.Domain.give.Goals as goal

pub returns-clause-makes : goal.returns-clause-makes
returns-clause-makes c nodes =
    makes_told nodes (to_head (GoesOn (outcome.Ok c.args.value)) c.args.fiber) c.args.fiber c.args.did (said.Done c.args.value) _ _ (c.to_head.ensures.becomes nodes)
