use Rattle.std.proofs.lemmas.Result.{on_ok_weaker}
use Rattle.eio_value.specs.declared.raised.Raised.TheVariants.{One}
use Rattle.spec_machine.specs.Steps.{raises_again}
use Rattle.domain_core.proofs.Composing.{makes_after_raise}
use Rattle.domain_core.proofs.domain.Domain.raise.Goals as goal

pub returns-clause-makes : goal.returns-clause-makes
returns-clause-makes c =
    on_ok_weaker c.raise_again.result
    (λ makes nodes. makes_after_raise nodes c.args.what c.in_ok-member.member (λ made l. raises_again c.args.did (One made) c.args.fiber l)
    c.args.self.now c.new_raise.new.self c.raise_again.new.told c.raise_again.new.self c.in_ok-member.ensures.raises (makes nodes))
    c.raise_again.ensures.makes
