use Rattle.std.proofs.Common.{ap}
use Rattle.eio_value.specs.declared.raised.Outcome.TheVariants as outcome
use Rattle.spec_machine.specs.Domain as model
use Rattle.domain_core.proofs.Awake.{becomes_at_head}
use Rattle.domain_core.proofs.domain.Domain.throw_at_head.Goals as goal

pub returns-clause-becomes : goal.returns-clause-becomes
returns-clause-becomes c =
    becomes_at_head _ c.args.self.now c.self.view_is c.args.fiber c.requires.awake (model.GoesOn (outcome.Err c.args.raised.now)) c.throw.new.self c.push_head_reserved.new.self.fibers
    c.in_ok-throw.ensures.ok (ap (λ ready. ready.fibers) c.push_head_reserved.ensures)
