use Rattle.std.proofs.Common.{◌≡◌, ◌∙◌, ap, sym, subst, None, List, Option, ℕ}
use Rattle.std.specs.Prelude.{IsSome}
use Rattle.eio_value.specs.declared.value.Value.{Value}
use Rattle.trace_lines.specs.declared.line.Did.TheVariants as did
use Rattle.trace_lines.specs.declared.line.Said2.TheVariants as said
use Rattle.spec_script.specs.Scripts.{Script}
use Rattle.law_script.specs.Scripts.Soundness.{IsSound}
use Rattle.script_forms.specs.Flat.{nodes_of}
use Rattle.script_code.specs.Numbered.{HasNumbers}
use Rattle.script_forms.specs.declared.node.Node.{Node}
use Rattle.spec_fiber.specs.Numbered.{block_numbered}
use Rattle.spec_fiber.specs.Replies.{handled}
use Rattle.spec_fiber.specs.Asks as asks
use Rattle.spec_parts.specs.Switches.{Handler}
use Rattle.fiber_step.specs.Numbering.Beginnings.{BeginsBlock}
use Rattle.fiber_step.proofs.Numbering.Beginning.{blocks_by_node}
use Rattle.fiber_step.specs.declared.ask.Ask.{Ask}
use Rattle.fiber_step.specs.declared.ask.Ask.TheVariants as ask
use Rattle.fiber_step.specs.Having.{HasStatements}
use Rattle.spec_machine.specs.ContextMoves.{enters_context, protected_of}
use Rattle.spec_machine.specs.Domain.{Fiber, fiber_at}
use Rattle.spec_machine.specs.Steps.{halts}
use Rattle.spec_machine.specs.SwitchMoves.{runs}
use Rattle.domain_core.specs.contracts.domain.Domain.{the_view}
use Rattle.domain_core.specs.Answering.{MakesUnder}
use Rattle.domain_core.specs.Conditions.{IsAwake}
use Rattle.domain_core.specs.Keeping.{KeptFiber, KeptDomain, changed_at, kept_at}
use Rattle.domain_core.specs.Stepping.{Handles, IsPlacedAt}
use Rattle.domain_core.proofs.Awake.{awake_by, awake_inside, awake_there}
use Rattle.domain_core.proofs.Composing.{makes_full}
use Rattle.domain_core.proofs.Entering.{placed_moved}
use Rattle.domain_core.proofs.Handling.{begins_there, handled_awake, handles_becomes, runs_makes}
use Rattle.domain_core.proofs.Mirroring.{lives_changed}
use Rattle.domain_core.proofs.domain.Domain.run_handler.Goals as goal

-- there is no room for the context of the handler
pub returns-in_default-clause-makes : goal.returns-in_default-clause-makes
returns-in_default-clause-makes c =
    makes_full (nodes_of c.args.script.now) (λ l. protected_of l c.args.fiber) c.args.fiber
    (λ l context m. (let fiber : Fiber = fiber_at m.fibers c.args.fiber in
    enters_context (did.Close c.args.switch) said.Handler context
    (handled (asks.Close c.args.switch None c.args.kept) context (block_numbered c.args.script.now c.args.handler.block) c.args.handler.values fiber.work fiber.variables) c.args.fiber m))
    c.args.self.now c.halt.new.told c.halt.new.self c.in_default.ensures.number
    (subst (λ (kept : KeptDomain). MakesUnder (nodes_of c.args.script.now) (halts c.args.fiber) kept c.halt.new.told c.halt.new.self) c.in_default.ensures.none (c.halt.ensures.makes (nodes_of c.args.script.now)))

-- what the fiber is before it goes into the context of the handler
awake_then : (now opened inside : KeptDomain) (g : ℕ) → opened.fibers ≡ now.fibers → inside ≡ opened → IsAwake now g → IsAwake inside g
awake_then now opened inside g fibers same awake = awake_inside inside opened same g (awake_by now opened fibers g awake)

placed_then : (nodes : List Node) (now opened inside : KeptDomain) (g : ℕ) → opened.fibers ≡ now.fibers → inside ≡ opened → IsPlacedAt nodes g now.fibers → IsPlacedAt nodes g inside.fibers
placed_then nodes now opened inside g fibers same placed = subst (λ (xs : List (Option KeptFiber)). IsPlacedAt nodes g xs) (sym (ap (λ (kept : KeptDomain). kept.fibers) same ∙ fibers)) placed

pub handle-requires : goal.handle-requires
handle-requires c = record {
  lives =
      subst (λ (xs : List (Option KeptFiber)). IsSome (kept_at xs c.args.fiber)) (sym c.go_to.ensures)
      (lives_changed c.self.inside.fibers c.args.fiber _ (awake_there (the_view c.self.inside) c.args.fiber
      (awake_then c.args.self.now c.new_protected.new.self (the_view c.self.inside) c.args.fiber c.in-Some.ensures.fibers.fibers c.self.view_is c.requires.enters.awake)));
}

-- the handler, as it is handed over
handed : (block : ℕ) (values taken : List Value) (items : List Value) (handler : Handler) → taken ≡ items → items ≡ values → record { block = block; values = values } ≡ handler
    → record { block = block; values = taken } ≡ handler
handed block values taken items handler first second same = ap (λ (xs : List Value). record { block = block; values = xs }) (first ∙ second) ∙ same

-- it has gone before the handler
handles_then : (script : Script) (now opened inside : KeptDomain) (g context : ℕ) (call : Ask) (handler : Handler) (moved fibers : List (Option KeptFiber))
    → opened.fibers ≡ now.fibers → inside ≡ opened → IsAwake now g → IsPlacedAt (nodes_of script) g now.fibers
    → IsSound script → HasNumbers script → BeginsBlock script handler.block
    → moved ≡ changed_at g (λ fiber. record fiber { context = context }) inside.fibers
    → ((nodes : List Node) → HasStatements nodes handler.block → IsPlacedAt nodes g moved → Handles nodes call context handler.block handler.values g moved fibers)
    → Handles (nodes_of script) call context handler.block handler.values g moved fibers
handles_then script now opened inside g context call handler moved fibers same view awake placed sound has begins are handles =
    handles (nodes_of script) (begins_there script sound has handler.block begins)
    (subst (λ (xs : List (Option KeptFiber)). IsPlacedAt (nodes_of script) g xs) (sym are)
    (placed_moved (nodes_of script) inside.fibers g context (awake_there inside g (awake_then now opened inside g same view awake)) (placed_then (nodes_of script) now opened inside g same view placed)))

pub to_head-requires-clause-awake : goal.to_head-requires-clause-awake
to_head-requires-clause-awake c = (
    let same : record { block = c.handler.inside.node; values = c.new-values.result } ≡ c.args.handler
    = handed c.handler.inside.node c.handler.inside.env c.new-values.result c.into_values.result.items c.args.handler c.new-values.ensures c.into_values.ensures c.handler.view_is in
    handled_awake (the_view c.self.inside) c.new_protected.new.self c.self.view_is c.args.fiber
    (awake_then c.args.self.now c.new_protected.new.self (the_view c.self.inside) c.args.fiber c.in-Some.ensures.fibers.fibers c.self.view_is c.requires.enters.awake)
    c.in-Some.context c.go_to.new.self c.go_to.ensures
    (nodes_of c.args.script.now) (ask.Close c.args.switch None c.args.kept) c.handler.inside.node c.new-values.result c.handle.new.self
    (handles_then c.args.script.now c.args.self.now c.new_protected.new.self (the_view c.self.inside) c.args.fiber c.in-Some.context (ask.Close c.args.switch None c.args.kept)
    (record { block = c.handler.inside.node; values = c.new-values.result }) c.go_to.new.self c.handle.new.self
    c.in-Some.ensures.fibers.fibers c.self.view_is c.requires.enters.awake c.requires.enters.placed c.is_sound.ensures.sound c.is_sound.ensures.numbers
    (subst (λ (x : Handler). BeginsBlock c.args.script.now x.block) (sym same) c.requires.handler) c.go_to.ensures c.in_ok-handle.ensures))

pub returns-clause-makes : goal.returns-clause-makes
returns-clause-makes c = (
    let same : record { block = c.handler.inside.node; values = c.new-values.result } ≡ c.args.handler
    = handed c.handler.inside.node c.handler.inside.env c.new-values.result c.into_values.result.items c.args.handler c.new-values.ensures c.into_values.ensures c.handler.view_is in
    let begins : BeginsBlock c.args.script.now c.handler.inside.node = subst (λ (x : Handler). BeginsBlock c.args.script.now x.block) (sym same) c.requires.handler in
    subst (λ (h : Handler). MakesUnder (nodes_of c.args.script.now) (runs c.args.script.now (asks.Close c.args.switch None c.args.kept) c.args.switch h c.args.fiber) c.args.self.now
    (record { fiber = c.args.fiber; did = did.Close c.args.switch; reply = said.Handler }) c.to_head.new.self) same
    (runs_makes c.args.script.now c.args.switch c.args.kept (record { block = c.handler.inside.node; values = c.new-values.result }) c.args.fiber c.in-Some.context
    c.args.self.now c.new_protected.new.self _ c.to_head.new.self c.in-Some.ensures.number (c.in-Some.ensures.becomes (nodes_of c.args.script.now))
    (handles_becomes (the_view c.self.inside) c.new_protected.new.self c.self.view_is c.args.fiber
    (awake_then c.args.self.now c.new_protected.new.self (the_view c.self.inside) c.args.fiber c.in-Some.ensures.fibers.fibers c.self.view_is c.requires.enters.awake)
    c.in-Some.context c.go_to.new.self c.go_to.ensures
    (nodes_of c.args.script.now) (ask.Close c.args.switch None c.args.kept) c.handler.inside.node c.new-values.result c.handle.new.self
    (handles_then c.args.script.now c.args.self.now c.new_protected.new.self (the_view c.self.inside) c.args.fiber c.in-Some.context (ask.Close c.args.switch None c.args.kept)
    (record { block = c.handler.inside.node; values = c.new-values.result }) c.go_to.new.self c.handle.new.self
    c.in-Some.ensures.fibers.fibers c.self.view_is c.requires.enters.awake c.requires.enters.placed c.is_sound.ensures.sound c.is_sound.ensures.numbers
    begins c.go_to.ensures c.in_ok-handle.ensures))
    (blocks_by_node.found c.args.script.now c.is_sound.ensures.numbers c.handler.inside.node begins)
    (c.to_head.ensures.becomes (nodes_of c.args.script.now))))
