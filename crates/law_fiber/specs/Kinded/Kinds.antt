-- What the variables of a fiber hold, by the kinds of the names that they stand for, wherever the fiber stands between two calls.
-- A slot of a switch holds a switch, of a context a context, of a reader, a writer or a capability its number; of the number more may be known, as that
-- such a switch was made. A variable may hold anything, since a script names a switch or a context only where it wants one.
-- Work has kinds, for the kinds that the slots have now, where all its statements are sound when their turn comes: whether the call that the fiber waits in
-- is answered with a value or with an exception. A value runs the statements that are left, and the ends of blocks cut the variables to those that they
-- keep. An exception drops statements, and leaves the variables as they are up to the `try` or the end that it comes to. Statements may bring variables
-- behind those that are there, so what stands behind them has kinds whatever was brought.
use Rattle.std.specs.Prelude.{◌≡◌, ℕ, ◌≤◌, Bool, IsTrue, List, [], ◌∷◌, ◌++◌, length, take, All, pos, flat_map, Contains}
use Rattle.eio_value.specs.declared.value.Value.{Value}
use Rattle.eio_value.specs.declared.value.Value.TheVariants as value
use Rattle.spec_script.specs.Kinds.{Kind, VariableKind, ContextKind, SwitchKind, ReaderKind, WriterKind, CapabilityKind, PromiseKind, MutexKind, PoolKind, ExecutorKind, FlowKind, DirectoryKind, object_kind, object_kind_with}
use Rattle.spec_script.specs.Limits.{weights, reader_limits}
use Rattle.spec_script.specs.Scripts.{Script}
use Rattle.spec_script.specs.Syntax.{Block, Statements}
use Rattle.law_script.specs.Scripts.Soundness.{Known, Has, IsIn, IsSoundForking, HasItsBranches, IsSoundBlock, AreSoundStatements, kinds_of}
use Rattle.spec_fiber.specs.Asks as ask
use Rattle.spec_fiber.specs.Asks.{Ask, DirectoryRef}
use Rattle.spec_fiber.specs.Numbered.{number_of, block_numbered, blocks_from, blocks_of_statements}
use Rattle.spec_fiber.specs.Replies.{Position}
use Rattle.spec_fiber.specs.Settling.{Settled}
use Rattle.spec_fiber.specs.Work as work
use Rattle.spec_fiber.specs.Work.{Work}

-- what is known beside the kinds of the slots: the kinds of the declarations; of the number that a slot of this kind names; and of each block that a
-- fiber may go into
pub record Facts : Type 1 where
  pub declared : List Kind
  pub names : Kind → ℕ → Type 0
  pub blocks : Block → Type 0

-- the block is one of the script's, and is found there by its number
pub record IsOfScript (script : Script) (block : Block) : Type 0 where
  pub its : Contains (flat_map blocks_from script.bodies) block
  pub found : block_numbered script (number_of block) ≡ block

-- what is known of the fibers of a script, with a test on the numbers that slots name
abbrev pub facts_of : Script → (names : Kind → ℕ → Bool) → Facts
facts_of script names = record {
  declared = kinds_of script.declarations;
  names = λ kind number. IsTrue (names kind number);
  blocks = IsOfScript script;
}

-- what a place knows whose names of blocks have these kinds
abbrev pub knows : Facts → (slots : List Kind) → Known
knows facts slots = record { declared = facts.declared; slots = slots }

-- ## Variables

abbrev pub HasKind : Facts → Kind → Value → Type 0
HasKind facts VariableKind it = Unit {0}
HasKind facts ContextKind (value.Ctx number) = facts.names ContextKind number
HasKind facts SwitchKind (value.Switch number) = facts.names SwitchKind number
HasKind facts ReaderKind (value.Int (pos number)) = facts.names ReaderKind number
HasKind facts WriterKind (value.Int (pos number)) = facts.names WriterKind number
HasKind facts CapabilityKind (value.Int (pos number)) = facts.names CapabilityKind number
HasKind facts kind it = ⊥

-- as many variables as slots, each of its kind
abbrev pub HasKinds : Facts → (slots : List Kind) → (variables : List Value) → Type 0
HasKinds facts [] [] = Unit {0}
HasKinds facts (kind ∷ slots) (it ∷ variables) = HasKind facts kind it × HasKinds facts slots variables
HasKinds facts slots variables = ⊥

-- the same slots, and maybe more behind them
abbrev pub StartsWith : (slots longer : List Kind) → Type 0
StartsWith slots longer = (more : List Kind) × (longer ≡ slots ++ more)

abbrev pub with_kind : Kind → List Kind → List Kind
with_kind kind slots = slots ++ kind ∷ []

-- ## Blocks

-- statements that are sound where the slots have these kinds, and of each block inside them is known what is of all
abbrev pub FitStatements : Facts → (slots : List Kind) → Statements → Type 0
FitStatements facts slots items = AreSoundStatements (knows facts slots) items × All facts.blocks (blocks_of_statements items)

abbrev pub FitsBlock : Facts → (slots : List Kind) → Block → Type 0
FitsBlock facts slots block = IsSoundBlock (knows facts slots) block × All facts.blocks (blocks_from block)

-- ## Calls

abbrev pub HasKindOfPlace : Facts → DirectoryRef → Type 0
HasKindOfPlace facts (ask.Declared number) = Has (knows facts []) DirectoryKind number
HasKindOfPlace facts (ask.Opened number) = facts.names CapabilityKind number

-- a call of a fiber whose slots have these kinds: it names what its place wants, and its blocks are sound for these slots, with one more where they bring a
-- name. A job's block is sound for what the job is given
abbrev pub HasKindsOfCall : Facts → (slots : List Kind) → Ask → Type 0
HasKindsOfCall facts slots (ask.Sub body) = FitsBlock facts (with_kind ContextKind slots) body
HasKindsOfCall facts slots (ask.Protect body) = FitsBlock facts slots body
HasKindsOfCall facts slots (ask.Cancel context text) = facts.names ContextKind context
HasKindsOfCall facts slots (ask.Switch body) = FitsBlock facts (with_kind SwitchKind slots) body
HasKindsOfCall facts slots (ask.Fork forking switch body) =
    IsSoundForking (knows facts slots) forking × facts.names SwitchKind switch × FitsBlock facts slots body
HasKindsOfCall facts slots (ask.Fail switch text) = facts.names SwitchKind switch
HasKindsOfCall facts slots (ask.OnRelease switch handler) = facts.names SwitchKind switch × FitsBlock facts slots handler
HasKindsOfCall facts slots (ask.Branches group blocks) = (1 ≤ length blocks) × HasItsBranches group (length blocks) × All (FitsBlock facts slots) blocks
HasKindsOfCall facts slots (ask.OnObject call object) = Has (knows facts slots) (object_kind call) object
HasKindsOfCall facts slots (ask.OnObjectWith call object given) = Has (knows facts slots) (object_kind_with call) object
HasKindsOfCall facts slots (ask.Use pool) = Has (knows facts slots) PoolKind pool
HasKindsOfCall facts slots (ask.Submit executor weight given job) =
    Has (knows facts slots) ExecutorKind executor × IsIn weights weight × (own : List Kind) × HasKinds facts own given × FitsBlock facts own job
HasKindsOfCall facts slots (ask.OpenReader flow limit body) =
    Has (knows facts slots) FlowKind flow × IsIn reader_limits limit × FitsBlock facts (with_kind ReaderKind slots) body
HasKindsOfCall facts slots (ask.OnReader call reader) = facts.names ReaderKind reader
HasKindsOfCall facts slots (ask.TakeBytes reader count) = facts.names ReaderKind reader
HasKindsOfCall facts slots (ask.Copy from to) = Has (knows facts slots) FlowKind from × Has (knows facts slots) FlowKind to
HasKindsOfCall facts slots (ask.OpenWriter flow body) = Has (knows facts slots) FlowKind flow × FitsBlock facts (with_kind WriterKind slots) body
HasKindsOfCall facts slots (ask.PutText writer text) = facts.names WriterKind writer
HasKindsOfCall facts slots (ask.OpenDirectory place path body) = HasKindOfPlace facts place × FitsBlock facts (with_kind CapabilityKind slots) body
HasKindsOfCall facts slots (ask.OnPath call place path) = HasKindOfPlace facts place
HasKindsOfCall facts slots (ask.Save only_new place path content) = HasKindOfPlace facts place
HasKindsOfCall facts slots (ask.UnlockEnd mutex it) = Has (knows facts slots) MutexKind mutex
HasKindsOfCall facts slots (ask.PoisonEnd mutex raised) = Has (knows facts slots) MutexKind mutex
HasKindsOfCall facts slots (ask.PutEnd pool resource it) = Has (knows facts slots) PoolKind pool
HasKindsOfCall facts slots (ask.ResolveEnd promise it) = Has (knows facts slots) PromiseKind promise
HasKindsOfCall facts slots call = Unit {0}

-- what is known of the number that a call was answered with, by which its block names what the call made
abbrev pub HasKindOfNumber : Facts → Ask → (number : ℕ) → Type 0
HasKindOfNumber facts (ask.Sub body) number = facts.names ContextKind number
HasKindOfNumber facts (ask.Switch body) number = facts.names SwitchKind number
HasKindOfNumber facts (ask.OpenReader flow limit body) number = facts.names ReaderKind number
HasKindOfNumber facts (ask.OpenWriter flow body) number = facts.names WriterKind number
HasKindOfNumber facts (ask.OpenDirectory place path body) number = facts.names CapabilityKind number
HasKindOfNumber facts call number = Unit {0}

-- ## Work

-- statements may bring names behind the slots that are there, so that there are the same, and maybe more
abbrev pub Behind : (slots : List Kind) → (List Kind → Type 0) → Type 0
Behind slots Rest = (longer : List Kind) → StartsWith slots longer → Rest longer

-- what work asks of the kinds that the slots have: where it goes on with a value, and where it goes on with an exception
pub record Asked : Type 1 where
  pub at_value : (slots : List Kind) → Type 0
  pub at_exception : (slots : List Kind) → Type 0

-- whichever comes; before an exception names may have been brought
abbrev pub AtBoth : Asked → (slots : List Kind) → Type 0
AtBoth asked slots = asked.at_value slots × Behind slots asked.at_exception

-- at an end that is a call, which may be answered with either
abbrev pub at_call : Asked → (change : List Kind → List Kind) → Asked
at_call asked change = record { at_value = λ slots. AtBoth asked (change slots); at_exception = λ slots. AtBoth asked (change slots) }

-- at an item that an exception drops
abbrev pub at_item : Asked → (AtValue : List Kind → Type 0) → Asked
at_item asked AtValue = record { at_value = AtValue; at_exception = asked.at_exception }

-- at an end that is a call on an object, which was declared
abbrev pub on_object : (Object : Type 0) → Asked → Asked
on_object Object asked = record { at_value = λ slots. Object × asked.at_value slots; at_exception = λ slots. Object × asked.at_exception slots }

abbrev pub AtRestored : Facts → List Value → (List Kind → Type 0) → Type 0
AtRestored facts variables Rest = (own : List Kind) × HasKinds facts own variables × Rest own

unfoldable pub asked_by : Facts → List Work → Asked
asked_by facts [] = record { at_value = λ slots. Unit {0}; at_exception = λ slots. Unit {0} }
asked_by facts (work.Run items ∷ rest) =
    let asked = asked_by facts rest in
    at_item asked (λ slots. FitStatements facts slots items × Behind slots asked.at_value × Behind slots asked.at_exception)
asked_by facts (work.Cut keep ∷ rest) = let asked = asked_by facts rest in at_item asked (λ slots. asked.at_value (take keep slots))
asked_by facts (work.Restore variables ∷ rest) =
    let asked = asked_by facts rest in
    record { at_value = λ slots. AtRestored facts variables asked.at_value; at_exception = λ slots. AtRestored facts variables asked.at_exception }
asked_by facts (work.Try handler keep ∷ rest) =
    let asked = asked_by facts rest in
    record {
      at_value = λ slots. asked.at_value (take keep slots);
      at_exception = λ slots.
          FitsBlock facts (with_kind VariableKind (take keep slots)) handler
          × Behind (with_kind VariableKind (take keep slots)) (λ longer. asked.at_value (take keep longer))
          × Behind (with_kind VariableKind (take keep slots)) asked.at_exception;
    }
asked_by facts (work.Bind slot ∷ rest) = let asked = asked_by facts rest in at_item asked (λ slots. asked.at_value (with_kind VariableKind (take slot slots)))
asked_by facts (work.Loop body keep ∷ rest) =
    let asked = asked_by facts rest in
    at_item asked (λ slots. (keep ≤ length slots) × FitsBlock facts (take keep slots) body × Behind (take keep slots) asked.at_exception)
asked_by facts (work.Repeat turn left body keep ∷ rest) =
    let asked = asked_by facts rest in
    at_item asked (λ slots.
    (keep ≤ length slots)
    × FitsBlock facts (with_kind VariableKind (take keep slots)) body
    × asked.at_value (take keep slots)
    × Behind (take keep slots) asked.at_exception)
asked_by facts (work.Leave context late keep ∷ rest) = at_call (asked_by facts rest) (take keep)
asked_by facts (work.Close switch keep ∷ rest) = at_call (asked_by facts rest) (take keep)
asked_by facts (work.Closing switch kept ∷ rest) = at_call (asked_by facts rest) (λ slots. slots)
asked_by facts (work.Join group keep ∷ rest) = at_call (asked_by facts rest) (take keep)
asked_by facts (work.ShutReader reader keep ∷ rest) = at_call (asked_by facts rest) (take keep)
asked_by facts (work.ShutWriter writer keep ∷ rest) = at_call (asked_by facts rest) (take keep)
asked_by facts (work.Locking mutex body ∷ rest) =
    let asked = asked_by facts rest in
    at_item asked (λ slots. Has (knows facts []) MutexKind mutex × FitsBlock facts slots body × AtBoth asked slots)
asked_by facts (work.Unlock mutex keep ∷ rest) = on_object (Has (knows facts []) MutexKind mutex) (at_call (asked_by facts rest) (take keep))
asked_by facts (work.Using pool body ∷ rest) =
    let asked = asked_by facts rest in
    at_item asked (λ slots. Has (knows facts []) PoolKind pool × FitsBlock facts (with_kind VariableKind slots) body × AtBoth asked slots)
asked_by facts (work.Put pool resource keep ∷ rest) = on_object (Has (knows facts []) PoolKind pool) (at_call (asked_by facts rest) (take keep))
asked_by facts (work.Resolve promise ∷ rest) = on_object (Has (knows facts []) PromiseKind promise) (at_call (asked_by facts rest) (λ slots. slots))

-- the slots have these kinds, and whatever comes, the work has kinds
abbrev pub HasKindsOfWork : Facts → (slots : List Kind) → List Work → Type 0
HasKindsOfWork facts slots rest = AtBoth (asked_by facts rest) slots

-- ## Fibers

-- where a fiber stands between two calls
pub record HasKindsAt (facts : Facts) (position : Position) : Type 0 where
  pub slots : List Kind
  pub variables : HasKinds facts slots position.variables
  pub work : HasKindsOfWork facts slots position.work

-- the next call of a fiber, what it leaves behind and what it carries then
pub record HasKindsOfSettled (facts : Facts) (s : Settled) : Type 0 where
  pub slots : List Kind
  pub variables : HasKinds facts slots s.carry.variables
  pub work : HasKindsOfWork facts slots s.behind
  pub call : HasKindsOfCall facts slots s.call
