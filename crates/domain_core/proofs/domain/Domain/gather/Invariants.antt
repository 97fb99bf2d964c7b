use Rattle.domain_core.proofs.Gathering.{HasGathered}
use Rattle.domain_core.proofs.domain.Domain.gather.Given as goal

abbrev pub invariant-loop-body : goal.invariant-loop-body
invariant-loop-body l = HasGathered l.maker l.context l.number l.bodies l.body-index l.initial.self l.self
