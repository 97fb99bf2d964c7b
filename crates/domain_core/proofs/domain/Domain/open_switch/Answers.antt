use Rattle.std.proofs.Common.{◌≡◌, ℕ, List, length, ◌∙◌, ap, sym, subst}
use Rattle.std.proofs.lemmas.Result.{on_ok_weaker}
use Rattle.eio_value.specs.declared.value.Value.{Value}
use Rattle.eio_value.specs.declared.value.Value.TheVariants as value
use Rattle.fiber_step.specs.declared.ask.Ask.TheVariants as kept_ask
use Rattle.fiber_step.specs.Standing.{ask_of}
use Rattle.spec_parts.specs.Switches.{Switch}
use Rattle.script_forms.specs.Flat.{nodes_of}
use Rattle.script_forms.specs.declared.node.Node.{Node}
use Rattle.spec_fiber.specs.Asks.{Ask}
use Rattle.trace_lines.specs.declared.line.Did.TheVariants as did
use Rattle.trace_lines.specs.declared.line.Said2.TheVariants as said
use Rattle.spec_machine.specs.ContextMoves.{before_block, enters_context, sub_of}
use Rattle.spec_machine.specs.Domain.{DomainState}
use Rattle.spec_machine.specs.Moves.{own_call}
use Rattle.spec_machine.specs.Steps.{Step, halts, in_new}
use Rattle.spec_machine.specs.SwitchMoves.{opens}
use Rattle.domain_core.specs.Answering.{MakesUnder}
use Rattle.domain_core.specs.Keeping.{KeptDomain}
use Rattle.domain_core.proofs.Composing.{makes_after, makes_as, makes_entering, makes_full, makes_in_new, makes_off, makes_on}
use Rattle.domain_core.proofs.Scopes.{opens_there}
use Rattle.domain_core.proofs.domain.Domain.open_switch.Goals as goal

-- the block of this switch, in a context that is new
abbrev enters_in : Ask → (number fiber : ℕ) → (context : ℕ) → DomainState → Step
enters_in call n g c m = enters_context did.Switch (said.Done (value.Switch n)) c (before_block call n g m) g (opens c m)

abbrev goes : Ask → (fiber : ℕ) → DomainState → Value → Step
goes call g l ignored = in_new (sub_of l g) g l (enters_in call (length l.switches) g)

pub returns-in-Some-clause-answers : goal.returns-in-Some-clause-answers
unfolding own_call
returns-in-Some-clause-answers c = (
    let nodes : List Node = nodes_of c.args.script.now in
    let call : Ask = ask_of nodes (kept_ask.Switch c.args.body) in
    on_ok_weaker c.raise_cancelled.result
    (λ makes. makes_off nodes did.Switch c.args.fiber (goes call c.args.fiber) c.in-Some.why _ _ _ c.in-Some.ensures (makes nodes))
    c.raise_cancelled.ensures.makes)

pub returns-in_default-new_sub-clause-answers : goal.returns-in_default-new_sub-clause-answers
unfolding own_call
returns-in_default-new_sub-clause-answers c = (
    let nodes : List Node = nodes_of c.args.script.now in
    let call : Ask = ask_of nodes (kept_ask.Switch c.args.body) in
    let g : ℕ = c.args.fiber in
    makes_on nodes did.Switch g (goes call g) _ _ _ c.in_default.ensures
    (makes_full nodes (λ l. sub_of l g) g (λ l. enters_in call (length l.switches) g) _ _ _ c.in_default-new_sub.ensures.number
    (subst (λ (kept : KeptDomain). MakesUnder nodes (halts g) kept c.halt.new.told c.halt.new.self) c.in_default-new_sub.ensures.none (c.halt.ensures.makes nodes))))

pub returns-clause-answers : goal.returns-clause-answers
unfolding own_call
returns-clause-answers c = (
    let nodes : List Node = nodes_of c.args.script.now in
    let call : Ask = ask_of nodes (kept_ask.Switch c.args.body) in
    let g : ℕ = c.args.fiber in
    let new : ℕ = c.in-Some-new_sub.context in
    let n : ℕ = c.in_ok-switch.switch in
    let number : length c.args.self.now.switches ≡ n =
    ap (λ (xs : List Switch). length xs) (sym c.new_sub.ensures.switches) ∙ sym (c.in_ok-switch.ensures.number ∙ ap (λ (kept : KeptDomain). length kept.switches) c.self.view_is) in
    let room : DomainState → DomainState = λ l. record l { contexts = (sub_of l g).contexts } in
    makes_on nodes did.Switch g (goes call g) _ _ _ c.in_default.ensures
    (makes_in_new nodes (λ l. sub_of l g) g (λ l. enters_in call (length l.switches) g) new _ _ _ c.in-Some-new_sub.ensures.number
    (makes_as nodes _ (λ (l : DomainState). enters_in call n g new (room l)) _ _ _
    (λ texts l mirrors. ap (λ (m : ℕ). enters_in call m g new (room l)) (ap (λ (xs : List Switch). length xs) mirrors.switches ∙ number))
    (makes_after nodes room (enters_in call n g new) _ c.new_sub.new.self _ _ (c.in-Some-new_sub.ensures.becomes nodes)
    (makes_after nodes (opens new) (λ m. enters_context did.Switch (said.Done (value.Switch n)) new (before_block call n g m) g m) _ _ _ _
    (opens_there nodes _ c.new_sub.new.self new c.open.new.self c.self.view_is c.in_ok-switch.ensures.ok)
    (makes_entering nodes did.Switch (said.Done (value.Switch n)) call n new g _ _ c.in_ok-enter.ensures.becomes))))))
