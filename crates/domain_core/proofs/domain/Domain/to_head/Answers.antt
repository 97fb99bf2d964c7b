use Rattle.std.proofs.Common.{ap, refl}
use Rattle.spec_machine.specs.Domain as model
use Rattle.domain_core.specs.Keyed.{next_of}
use Rattle.domain_core.proofs.Awake.{becomes_at_head, stays_awake}
use Rattle.domain_core.proofs.domain.Domain.to_head.Goals as goal

pub returns-clause-becomes : goal.returns-clause-becomes
returns-clause-becomes c =
    becomes_at_head _ c.args.self.now c.self.view_is c.args.fiber c.requires.awake (next_of c.args.next) c.stand.new.self c.push_head_reserved.new.self.fibers c.stand.ensures
    (ap (λ ready. ready.fibers) c.push_head_reserved.ensures)

pub returns-clause-awake : goal.returns-clause-awake
returns-clause-awake c =
    stays_awake _ c.args.self.now c.self.view_is c.args.fiber c.requires.awake (λ fiber. record fiber { standing = model.Ready (next_of c.args.next) }) (λ f calm. refl)
    c.stand.new.self c.push_head_reserved.new.self.fibers c.stand.ensures
