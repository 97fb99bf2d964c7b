use Rattle.spec_machine.specs.Domain.{LooksUp, to_back}
use Rattle.spec_machine.specs.Moves.{own_call}
use Rattle.script_forms.specs.Flat.{nodes_of}
use Rattle.trace_lines.specs.declared.line.Did.TheVariants as did
use Rattle.trace_lines.specs.declared.line.Said2.TheVariants as said
use Rattle.domain_core.proofs.Composing.{makes_told}
use Rattle.domain_core.proofs.domain.Domain.yield_now.Goals as goal

pub returns-clause-answers : goal.returns-clause-answers
unfolding own_call
returns-clause-answers c script =
    makes_told (nodes_of script) (to_back LooksUp c.args.fiber) c.args.fiber did.Yield said.Back _ _ (c.to_back.ensures.becomes (nodes_of script))
