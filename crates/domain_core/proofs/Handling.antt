-- A fiber goes before a handler of the switch that it closes.
use Rattle.std.proofs.Common.{◌≡◌, ℕ, List, Option, Some, None, ap, sym, subst}
use Rattle.std.proofs.lemmas.List.Elements.{All-contains}
use Rattle.eio_value.specs.declared.raised.Outcome.TheVariants as outcome
use Rattle.eio_value.specs.declared.value.Value.{Value}
use Rattle.eio_value.specs.declared.value.Value.TheVariants as value
use Rattle.trace_lines.specs.declared.line.Did.TheVariants as did
use Rattle.trace_lines.specs.declared.line.Said2.TheVariants as said
use Rattle.spec_script.specs.Scripts.{Script}
use Rattle.spec_script.specs.Syntax.{Block, Begins}
use Rattle.law_script.specs.Scripts.Soundness.{IsSound, IsSoundBlock}
use Rattle.script_forms.specs.Flat.{nodes_of}
use Rattle.script_code.specs.Numbered.{HasNumbers, IsNumberedBlock}
use Rattle.script_code.specs.Standing.{block_at}
use Rattle.script_forms.specs.declared.node.Node.{Node}
use Rattle.spec_fiber.specs.Asks as asks
use Rattle.spec_fiber.specs.Numbered.{number_of, block_numbered}
use Rattle.spec_fiber.specs.Replies.{Position, handled}
use Rattle.spec_parts.specs.Switches.{Handler}
use Rattle.fiber_step.specs.Numbering.Beginnings.{BeginsBlock, StandsAtNumber, IsSoundSomewhere, blocks_in}
use Rattle.fiber_step.proofs.Numbering.Beginning.{blocks_by_node}
use Rattle.fiber_step.specs.declared.ask.Ask.{Ask}
use Rattle.fiber_step.specs.Having.{HasStatements}
use Rattle.fiber_step.specs.Standing.{ask_of}
use Rattle.spec_machine.specs.ContextMoves.{enters_context, protected_of}
use Rattle.spec_machine.specs.Domain as model
use Rattle.spec_machine.specs.Domain.{DomainState, Fiber, fiber_at, moved_to, never_made, placed, to_head}
use Rattle.spec_machine.specs.SwitchMoves.{runs}
use Rattle.domain_core.specs.Answering.{BecomesUnder, HoldsOf, MakesUnder}
use Rattle.domain_core.specs.Conditions.{IsAwake}
use Rattle.domain_core.specs.Keeping.{KeptFiber, KeptDomain, changed_at}
use Rattle.domain_core.specs.Mirrors.{Mirrors}
use Rattle.domain_core.specs.Stepping.{Handles}
use Rattle.domain_core.proofs.ByNumber as numbers
use Rattle.domain_core.proofs.Composing.{makes_in_new, makes_told}
use Rattle.domain_core.proofs.Entering.{handles_mirrors, moved_awake, moved_becomes, reframed_awake}
use Rattle.domain_core.proofs.Mirroring.{below_fibers}

-- ## Where a block of the script begins

stands_there : (nodes : List Node) (block : Block) → StandsAtNumber nodes block → IsSoundSomewhere block → HasStatements nodes (number_of block)
unfolding IsNumberedBlock IsSoundBlock
stands_there nodes (Begins n items) stands sound = record { known = sound.0; statements = items; behind = stands.behind; is = stands.is; numbered = stands.numbered.1; sound = sound.1 }

-- the statements of a block stand
pub begins_there : (script : Script) → IsSound script → HasNumbers script → (number : ℕ) → BeginsBlock script number → HasStatements (nodes_of script) number
begins_there script sound has number at =
    subst (λ (n : ℕ). HasStatements (nodes_of script) n) at.begins
    (stands_there (nodes_of script) at.block
    (All-contains (StandsAtNumber (nodes_of script)) (blocks_in script) at.block (blocks_by_node.stand script has) at.its)
    (All-contains IsSoundSomewhere (blocks_in script) at.block (blocks_by_node.sound script sound) at.its))

-- ## Before the handler

module _ (inside now : KeptDomain) (same : inside ≡ now) (g : ℕ) (awake : IsAwake inside g) (context : ℕ) (moved : List (Option KeptFiber))
    (are : moved ≡ changed_at g (λ fiber. record fiber { context = context }) inside.fibers)
    (nodes : List Node) (call : Ask) (handler : ℕ) (registered : List Value) (fibers : List (Option KeptFiber)) (it : Handles nodes call context handler registered g moved fibers) where
  pub handled_awake : IsAwake (record inside { fibers = fibers }) g
  handled_awake = (
      let there : IsAwake (record inside { fibers = moved }) g = moved_awake inside now same g awake context moved are g awake in
      reframed_awake (record inside { fibers = moved }) g fibers it.reframes there g there)

  abbrev before : Fiber → Position
  before fiber = handled (ask_of nodes call) context (block_at nodes handler) registered fiber.work fiber.variables

  pub handles_becomes : BecomesUnder nodes
      (λ l. placed (handled (ask_of nodes call) context (block_at nodes handler) registered (fiber_at l.fibers g).work (fiber_at l.fibers g).variables) g (moved_to context g l))
      now (record inside { fibers = fibers })
  handles_becomes texts l mirrors_now = (
      let mirrors : Mirrors nodes texts inside l = subst (λ (kept : KeptDomain). Mirrors nodes texts kept l) (sym same) mirrors_now in
      let fiber : fiber_at (moved_to context g l).fibers g ≡ record (fiber_at l.fibers g) { context = context }
      = numbers.changed_itself never_made l.fibers g (record (fiber_at l.fibers g) { context = context }) (below_fibers nodes texts inside l g awake.fiber awake.there mirrors) in
      subst (λ (p : Position). Mirrors nodes texts (record inside { fibers = fibers }) (placed p g (moved_to context g l))) (ap before fiber)
      (handles_mirrors nodes texts (record inside { fibers = moved }) (moved_to context g l) (moved_becomes inside now same g awake context moved are nodes texts l mirrors)
      call context handler registered g fibers it))

-- ## The move

pub runs_makes : (script : Script) (n : ℕ) (kept : Value) (handler : Handler) (g context : ℕ) (old opened between new : KeptDomain)
    → HoldsOf old (λ l. Some context ≡ (protected_of l g).number)
    → BecomesUnder (nodes_of script) (λ l. record l { contexts = (protected_of l g).contexts }) old opened
    → BecomesUnder (nodes_of script)
    (λ m. placed (handled (asks.Close n None kept) context (block_at (nodes_of script) handler.block) handler.values (fiber_at m.fibers g).work (fiber_at m.fibers g).variables) g (moved_to context g m)) opened between
    → block_numbered script handler.block ≡ block_at (nodes_of script) handler.block
    → BecomesUnder (nodes_of script) (to_head (model.GoesOn (outcome.Ok value.Unit)) g) between new
    → MakesUnder (nodes_of script) (runs script (asks.Close n None kept) n handler g) old (record { fiber = g; did = did.Close n; reply = said.Handler }) new
runs_makes script n kept handler g context old opened between new number first second found last =
    makes_in_new (nodes_of script) (λ l. protected_of l g) g
    (λ l c m. (let fiber : Fiber = fiber_at m.fibers g in
    enters_context (did.Close n) said.Handler c (handled (asks.Close n None kept) c (block_numbered script handler.block) handler.values fiber.work fiber.variables) g m))
    context old (record { fiber = g; did = did.Close n; reply = said.Handler }) new number
    (makes_told (nodes_of script)
    (λ l. (let m : DomainState = record l { contexts = (protected_of l g).contexts } in
    to_head (model.GoesOn (outcome.Ok value.Unit)) g
    (placed (handled (asks.Close n None kept) context (block_numbered script handler.block) handler.values (fiber_at m.fibers g).work (fiber_at m.fibers g).variables) g (moved_to context g m))))
    g (did.Close n) said.Handler old new
    (λ texts l mirrors. (
    let m : DomainState = record l { contexts = (protected_of l g).contexts } in
    subst (λ (b : Block). Mirrors (nodes_of script) texts new
    (to_head (model.GoesOn (outcome.Ok value.Unit)) g (placed (handled (asks.Close n None kept) context b handler.values (fiber_at m.fibers g).work (fiber_at m.fibers g).variables) g (moved_to context g m))))
    (sym found)
    (last texts _ (second texts m (first texts l mirrors))))))
