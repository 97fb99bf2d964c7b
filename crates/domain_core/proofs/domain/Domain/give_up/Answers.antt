use Rattle.std.proofs.Common.{◌≡◌, ◌⊎◌, inl, inr, false, refl, sym, subst}
use Rattle.eio_value.specs.declared.raised.Outcome.{Outcome}
use Rattle.spec_machine.specs.Domain.{DomainState}
use Rattle.spec_machine.specs.SwitchMoves.{given_up}
use Rattle.domain_core.specs.Mirrors.{Mirrors}
use Rattle.domain_core.proofs.Ends.{is_cancelled, gives_up, none_cancelled}
use Rattle.domain_core.proofs.Scoping.{leaves_all}
use Rattle.domain_core.proofs.domain.Domain.give_up.Goals as goal
use Rattle.domain_core.proofs.domain.Domain.give_up.Goals.{else-daemon-via-then-daemon+else-matches, in-Cancelled, in_default-matches, else-daemon-via-else-daemon}

pub returns-in_default-clause-leaves : goal.returns-in_default-clause-leaves
returns-in_default-clause-leaves c = leaves_all c.args.self.now c.args.self.now refl

pub returns-then-matches-clause-leaves : goal.returns-then-matches-clause-leaves
returns-then-matches-clause-leaves c = leaves_all c.args.self.now c.args.self.now refl

pub returns-clause-becomes : goal.returns-clause-becomes
returns-clause-becomes c = λ nodes texts l mirrors. (
    let why : (c.args.daemon ≡ false) ⊎ (is_cancelled c.in-Err.raised ≡ false) = elim c.else-daemon.branch as (λ _. (c.args.daemon ≡ false) ⊎ (is_cancelled c.in-Err.raised ≡ false)) [
      | else-daemon-via-then-daemon+else-matches w ↦ elim w.match-matches.branch as (λ _. (c.args.daemon ≡ false) ⊎ (is_cancelled c.in-Err.raised ≡ false)) [
        | in-Cancelled x ↦ absurd (let e = x.matches-is in let f = w.if-matches.false in cc)
        | in_default-matches x ↦ inr (none_cancelled c.in-Err.raised (λ member. x.in_default-matches.not-Cancelled member))
      ]
      | else-daemon-via-else-daemon w ↦ inl w.if-daemon.false
    ] in
    subst (λ (result : Outcome). Mirrors nodes texts c.fails.new.self (given_up c.args.fiber c.args.switch c.args.daemon result l)) (sym c.in-Err.is)
    (subst (λ (k : DomainState). Mirrors nodes texts c.fails.new.self k) (sym (gives_up c.args.fiber c.args.switch c.args.daemon c.in-Err.raised l why))
    (c.fails.ensures.becomes nodes texts l mirrors)))
