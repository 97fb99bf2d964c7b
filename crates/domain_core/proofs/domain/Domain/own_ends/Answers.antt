use Rattle.std.proofs.Common.{sym, subst, Option}
use Rattle.eio_value.specs.declared.raised.Outcome.{Outcome}
use Rattle.spec_machine.specs.GroupMoves.{own_ended}
use Rattle.domain_core.specs.Mirrors.{Mirrors}
use Rattle.domain_core.proofs.domain.Domain.own_ends.Goals as goal

pub returns-in-Some-clause-becomes : goal.returns-in-Some-clause-becomes
returns-in-Some-clause-becomes c = λ nodes texts l mirrors.
    subst (λ (own : Option Outcome). Mirrors nodes texts c.branch_ends.new.self (own_ended c.args.group own c.args.fiber l)) (sym c.in-Some.is)
    (c.branch_ends.ensures.becomes nodes texts l mirrors)
