use Rattle.std.proofs.Common.{◌≡◌, true, ◌++◌, ap, ◌∙◌, sym}
use Rattle.spec_parts.specs.Contexts.{takes_effect}
use Rattle.spec_parts.specs.ContextCalls.{members}
use Rattle.cancel_tree.proofs.Striking.{struck_some}
use Rattle.cancel_tree.proofs.contexts.Contexts.strike.Goals as goal

pub returns-then-cancel-clause-struck : goal.returns-then-cancel-clause-struck
returns-then-cancel-clause-struck c =
    let effect : takes_effect c.args.self.now.made c.args.c ≡ true = sym c.cancel.ensures.took ∙ c.if-cancel.true in
    c.members.ensures.reached
    ∙ ap (λ contexts. c.args.out.now.items ++ members contexts c.args.c) c.cancel.ensures.after
    ∙ ap (λ struck. c.args.out.now.items ++ struck) (struck_some c.args.self.now.made c.args.c c.args.why c.args.self.now.waiting effect)
