use Rattle.std.proofs.Common.{refl, sym, subst}
use Rattle.spec_machine.specs.SwitchMoves.{fails_with}
use Rattle.domain_core.specs.Mirrors.{Mirrors}
use Rattle.domain_core.proofs.Scoping.{leaves_all}
use Rattle.domain_core.proofs.domain.Domain.fails_with.Goals as goal

pub returns-in-Some-clause-becomes : goal.returns-in-Some-clause-becomes
returns-in-Some-clause-becomes c nodes texts l mirrors =
    subst (λ failed. Mirrors nodes texts c.fails.new.self (fails_with c.args.maker c.args.switch failed l)) (sym c.in-Some.is) (c.fails.ensures.becomes nodes texts l mirrors)

pub returns-in_default-clause-leaves : goal.returns-in_default-clause-leaves
returns-in_default-clause-leaves c = leaves_all c.args.self.now c.args.self.now refl
