use Rattle.std.proofs.Common.{◌≡◌, ℕ, true, false, List, ◌∙◌, sym, subst}
use Rattle.fiber_step.specs.declared.ask.Ask.TheVariants as kept_ask
use Rattle.fiber_step.specs.Standing.{ask_of}
use Rattle.spec_parts.specs.Switches.{switch_at}
use Rattle.script_forms.specs.Flat.{nodes_of}
use Rattle.script_forms.specs.declared.node.Node.{Node}
use Rattle.spec_fiber.specs.Asks.{Ask}
use Rattle.trace_lines.specs.declared.line.Did.TheVariants as did
use Rattle.trace_lines.specs.declared.line.Said2.TheVariants as said
use Rattle.spec_machine.specs.ContextMoves.{protected_of}
use Rattle.spec_machine.specs.Domain.{DomainState}
use Rattle.spec_machine.specs.Moves.{own_call}
use Rattle.spec_machine.specs.Steps.{does, halts, in_new}
use Rattle.domain_core.specs.Answering.{MakesUnder, registers}
use Rattle.domain_core.specs.Keeping.{KeptDomain}
use Rattle.domain_core.proofs.Composing.{makes_after, makes_as, makes_entering, makes_full, makes_in_new}
use Rattle.domain_core.proofs.Scopes.{finished_there, releases, releases_late, runs_late}
use Rattle.domain_core.proofs.domain.Domain.on_release.Goals as goal

pub returns-then-not-is_finished-clause-answers : goal.returns-then-not-is_finished-clause-answers
unfolding own_call
returns-then-not-is_finished-clause-answers c = (
    let nodes : List Node = nodes_of c.args.script.now in
    let call : Ask = ask_of nodes (kept_ask.OnRelease c.args.switch c.args.handler) in
    let g : ℕ = c.args.fiber in
    let n : ℕ = c.args.switch in
    let unfinished : (switch_at c.args.self.now.switches n).finished ≡ false =
    subst (λ (kept : KeptDomain). (switch_at kept.switches n).finished ≡ false) c.self.view_is (sym c.if-not-is_finished.ensures) in
    makes_as nodes _ (λ (l : DomainState). does (did.OnRelease n) g (registers g n c.args.handler l)) _ _ _
    (λ texts l mirrors. releases nodes call n c.args.handler g l (finished_there nodes texts _ l mirrors n ∙ unfinished))
    (makes_after nodes (registers g n c.args.handler) (does (did.OnRelease n) g) _ c.register.new.self _ _
    (c.in_ok-register.ensures.registers nodes) (c.give.ensures.makes nodes)))

pub returns-in_default-clause-answers : goal.returns-in_default-clause-answers
unfolding own_call
returns-in_default-clause-answers c = (
    let nodes : List Node = nodes_of c.args.script.now in
    let call : Ask = ask_of nodes (kept_ask.OnRelease c.args.switch c.args.handler) in
    let g : ℕ = c.args.fiber in
    let n : ℕ = c.args.switch in
    let over : (switch_at c.args.self.now.switches n).finished ≡ true =
    subst (λ (kept : KeptDomain). (switch_at kept.switches n).finished ≡ true) c.self.view_is (sym c.if-not-is_finished.ensures) in
    makes_as nodes _ (λ (l : DomainState). in_new (protected_of l g) g l (runs_late call n g)) _ _ _
    (λ texts l mirrors. releases_late nodes call n c.args.handler g l (finished_there nodes texts _ l mirrors n ∙ over))
    (makes_full nodes (λ l. protected_of l g) g (λ l. runs_late call n g) _ _ _ c.in_default.ensures.number
    (subst (λ (kept : KeptDomain). MakesUnder nodes (halts g) kept c.halt.new.told c.halt.new.self) c.in_default.ensures.none (c.halt.ensures.makes nodes))))

pub returns-clause-answers : goal.returns-clause-answers
unfolding own_call
returns-clause-answers c = (
    let nodes : List Node = nodes_of c.args.script.now in
    let call : Ask = ask_of nodes (kept_ask.OnRelease c.args.switch c.args.handler) in
    let g : ℕ = c.args.fiber in
    let n : ℕ = c.args.switch in
    let new : ℕ = c.in-Some.context in
    let over : (switch_at c.args.self.now.switches n).finished ≡ true =
    subst (λ (kept : KeptDomain). (switch_at kept.switches n).finished ≡ true) c.self.view_is (sym c.if-not-is_finished.ensures) in
    makes_as nodes _ (λ (l : DomainState). in_new (protected_of l g) g l (runs_late call n g)) _ _ _
    (λ texts l mirrors. releases_late nodes call n c.args.handler g l (finished_there nodes texts _ l mirrors n ∙ over))
    (makes_in_new nodes (λ l. protected_of l g) g (λ l. runs_late call n g) new _ _ _ c.in-Some.ensures.number
    (makes_after nodes (λ l. record l { contexts = (protected_of l g).contexts }) (runs_late call n g new) _ c.new_protected.new.self _ _ (c.in-Some.ensures.becomes nodes)
    (makes_entering nodes (did.OnRelease n) said.Handler call new new g _ _ c.in_ok-enter.ensures.becomes))))
