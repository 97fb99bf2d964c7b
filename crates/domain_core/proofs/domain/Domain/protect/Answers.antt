use Rattle.std.proofs.Common.{ℕ, List, subst}
use Rattle.eio_value.specs.declared.value.Value.TheVariants as value
use Rattle.fiber_step.specs.declared.ask.Ask.TheVariants as kept_ask
use Rattle.fiber_step.specs.Standing.{ask_of}
use Rattle.script_forms.specs.Flat.{nodes_of}
use Rattle.script_forms.specs.declared.node.Node.{Node}
use Rattle.spec_fiber.specs.Asks.{Ask}
use Rattle.trace_lines.specs.declared.line.Did.TheVariants as did
use Rattle.trace_lines.specs.declared.line.Said2.TheVariants as said
use Rattle.spec_machine.specs.ContextMoves.{before_block, enters_context, protected_of}
use Rattle.spec_machine.specs.Domain.{DomainState}
use Rattle.spec_machine.specs.Moves.{own_call}
use Rattle.spec_machine.specs.Steps.{Step, halts}
use Rattle.domain_core.specs.Answering.{MakesUnder}
use Rattle.domain_core.specs.Keeping.{KeptDomain}
use Rattle.domain_core.proofs.Composing.{makes_after, makes_entering, makes_full, makes_in_new}
use Rattle.domain_core.proofs.domain.Domain.protect.Goals as goal

-- the block, in a context that is new
abbrev enters_in : Ask → (fiber : ℕ) → (context : ℕ) → DomainState → Step
enters_in call g c m = enters_context did.Protect (said.Done (value.Ctx c)) c (before_block call c g m) g m

pub returns-in_default-clause-answers : goal.returns-in_default-clause-answers
unfolding own_call
returns-in_default-clause-answers c = (
    let nodes : List Node = nodes_of c.args.script.now in
    let call : Ask = ask_of nodes (kept_ask.Protect c.args.body) in
    let g : ℕ = c.args.fiber in
    makes_full nodes (λ l. protected_of l g) g (λ l. enters_in call g) _ _ _ c.in_default.ensures.number
    (subst (λ (kept : KeptDomain). MakesUnder nodes (halts g) kept c.halt.new.told c.halt.new.self) c.in_default.ensures.none (c.halt.ensures.makes nodes)))

pub returns-clause-answers : goal.returns-clause-answers
unfolding own_call
returns-clause-answers c = (
    let nodes : List Node = nodes_of c.args.script.now in
    let call : Ask = ask_of nodes (kept_ask.Protect c.args.body) in
    let g : ℕ = c.args.fiber in
    let new : ℕ = c.in-Some.context in
    makes_in_new nodes (λ l. protected_of l g) g (λ l. enters_in call g) new _ _ _ c.in-Some.ensures.number
    (makes_after nodes (λ l. record l { contexts = (protected_of l g).contexts }) (enters_in call g new) _ c.new_protected.new.self _ _ (c.in-Some.ensures.becomes nodes)
    (makes_entering nodes did.Protect (said.Done (value.Ctx new)) call new new g _ _ c.in_ok-enter.ensures.becomes)))
