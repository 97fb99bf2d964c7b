use Rattle.std.proofs.Common.{sym, subst, Option}
use Rattle.eio_value.specs.declared.plain.Plain.{Plain}
use Rattle.spec_machine.specs.GroupMoves.{cancels_if}
use Rattle.domain_core.specs.Mirrors.{Mirrors}
use Rattle.domain_core.proofs.domain.Domain.cancel_if.Goals as goal

pub returns-in-Some-clause-becomes : goal.returns-in-Some-clause-becomes
returns-in-Some-clause-becomes c = λ nodes texts l mirrors.
    subst (λ (why : Option Plain). Mirrors nodes texts c.cancel_context.new.self (cancels_if c.args.maker c.args.context why l)) (sym c.in-Some.is)
    (c.cancel_context.ensures.becomes nodes texts l mirrors)
