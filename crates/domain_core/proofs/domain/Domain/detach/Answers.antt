use Rattle.std.proofs.Common.{sym, subst}
use Rattle.spec_parts.specs.Switches.{switch_at}
use Rattle.spec_machine.specs.SwitchMoves.{given_up}
use Rattle.switch_core.specs.Attaching.{IsAttached}
use Rattle.domain_core.specs.Answering.{BecomesUnder}
use Rattle.domain_core.specs.Keeping.{KeptDomain}
use Rattle.domain_core.proofs.Ends.{attached_still, detached_becomes}
use Rattle.domain_core.proofs.domain.Domain.detach.Goals as goal

pub detach-woken-requires-clause-attached : goal.detach-woken-requires-clause-attached
detach-woken-requires-clause-attached c =
    subst (λ (kept : KeptDomain). IsAttached c.args.fiber (switch_at kept.switches c.args.switch)) (sym c.self.view_is)
    (attached_still c.args.fiber c.args.switch c.args.self.now c.give_up.new.self c.give_up.ensures.leaves c.requires.attached)

pub returns-clause-becomes : goal.returns-clause-becomes
returns-clause-becomes c = λ nodes. detached_becomes nodes c.args.switch c.args.fiber c.args.daemon c.args.outcome.now c.args.self.now _ c.detach-woken.new.self c.detach-woken.result c.wake.new.self
    (subst (λ (kept : KeptDomain). BecomesUnder nodes (given_up c.args.fiber c.args.switch c.args.daemon c.args.outcome.now) c.args.self.now kept) (sym c.self.view_is) (c.give_up.ensures.becomes nodes))
    c.detach-woken.ensures.woken c.detach-woken.ensures.switches (c.wake.ensures.becomes nodes)
