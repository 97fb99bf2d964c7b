use Rattle.eio_value.specs.declared.raised.Outcome.TheVariants as outcome
use Rattle.spec_machine.specs.Domain.{GoesOn, to_head}
use Rattle.trace_lines.specs.declared.line.Said2.TheVariants as said
use Rattle.domain_core.proofs.Composing.{makes_told}
use Rattle.domain_core.proofs.domain.Domain.raise_again.Goals as goal

pub returns-clause-makes : goal.returns-clause-makes
returns-clause-makes c nodes =
    makes_told nodes (to_head (GoesOn (outcome.Err c.args.raised.now)) c.args.fiber) c.args.fiber c.args.did (said.Raised c.args.raised.now) _ _
    (c.in_ok-throw_at_head.ensures.becomes nodes)
