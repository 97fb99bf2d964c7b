-- Laws of the definitions on what the variables of a fiber hold.
-- They speak of a script and a test on numbers, which says what is known of those that slots name: as that such a switch or context was made.
use Rattle.std.specs.Prelude.{◌≡◌, ℕ, Bool, IsTrue, List, [], All, Option}
use Rattle.std.specs.List.{flat_map}
use Rattle.eio_value.specs.declared.raised.Outcome.{Outcome}
use Rattle.eio_value.specs.declared.raised.Raised.{Raised}
use Rattle.eio_value.specs.declared.value.Value.{Value}
use Rattle.spec_script.specs.Kinds.{Kind}
use Rattle.spec_script.specs.Scripts.{Script}
use Rattle.spec_script.specs.Syntax.{Block, Forking, Promising, Group}
use Rattle.law_script.specs.Scripts.Soundness.{IsSound}
use Rattle.spec_fiber.specs.Asks as ask
use Rattle.spec_fiber.specs.Asks.{Ask}
use Rattle.spec_fiber.specs.Numbered.{number_of, block_numbered, blocks_from}
use Rattle.spec_fiber.specs.Replies.{Position, passed, begun, begun_promising, entered, handled, other_branches}
use Rattle.spec_fiber.specs.Work.{Work, Carry}
use Rattle.law_fiber.specs.Kinded.Kinds.{IsOfScript, facts_of, HasKinds, FitsBlock, HasKindsOfCall, HasKindOfNumber, HasKindsOfWork, HasKindsAt, HasKindsOfSettled}

-- ## The next call

-- a fiber whose variables and work have kinds makes a call that has them, whatever its work goes on with, and has kinds again
abbrev pub KindsStay : Type 0
KindsStay = (script : Script) (names : Kind → ℕ → Bool) (came : Outcome) (rest : List Work) (c : Carry) (slots : List Kind)
    → HasKinds (facts_of script names) slots c.variables → HasKindsOfWork (facts_of script names) slots rest
    → HasKindsOfSettled (facts_of script names) (passed came rest c)

-- ## Blocks

-- a block that is kept by its number, as a handler is
abbrev pub FitsByNumber : Type 0
FitsByNumber = (script : Script) (names : Kind → ℕ → Bool) (slots : List Kind) (block : Block) → FitsBlock (facts_of script names) slots block
    → (block_numbered script (number_of block) ≡ block) × FitsBlock (facts_of script names) slots (block_numbered script (number_of block))

-- the bodies of a sound script, whose blocks have their numbers alone
abbrev pub BodiesFit : Type 0
BodiesFit = (script : Script) (names : Kind → ℕ → Bool) → IsSound script → All (IsOfScript script) (flat_map blocks_from script.bodies)
    → All (FitsBlock (facts_of script names) []) script.bodies

-- ## Between two calls

-- a test that more numbers pass
abbrev pub IsWeaker : (names more : Kind → ℕ → Bool) → Type 0
IsWeaker names more = (kind : Kind) (number : ℕ) → IsTrue (names kind number) → IsTrue (more kind number)

-- so it is while switches and contexts are made
abbrev pub PositionsGrow : Type 0
PositionsGrow = (script : Script) (names more : Kind → ℕ → Bool) (position : Position) → IsWeaker names more
    → HasKindsAt (facts_of script names) position → HasKindsAt (facts_of script more) position

abbrev pub CallsGrow : Type 0
CallsGrow = (script : Script) (names more : Kind → ℕ → Bool) (slots : List Kind) (call : Ask) → IsWeaker names more
    → HasKindsOfCall (facts_of script names) slots call → HasKindsOfCall (facts_of script more) slots call

abbrev pub VariablesGrow : Type 0
VariablesGrow = (script : Script) (names more : Kind → ℕ → Bool) (slots : List Kind) (variables : List Value) → IsWeaker names more
    → HasKinds (facts_of script names) slots variables → HasKinds (facts_of script more) slots variables

-- a new fiber has kinds where its block fits the variables that it begins with: none for a body, those of its maker for a fork and for a branch, and
-- what it is given for a job
abbrev pub BeginsWithKinds : Type 0
BeginsWithKinds = (script : Script) (names : Kind → ℕ → Bool) (slots : List Kind) (block : Block) (variables : List Value)
    → FitsBlock (facts_of script names) slots block → HasKinds (facts_of script names) slots variables
    → HasKindsAt (facts_of script names) (begun block variables)

abbrev pub ForksBeginWithKinds : Type 0
ForksBeginWithKinds = (script : Script) (names : Kind → ℕ → Bool) (slots : List Kind) (forking : Forking) (switch : ℕ) (body : Block)
    (variables : List Value)
    → HasKindsOfCall (facts_of script names) slots (ask.Fork forking switch body) → HasKinds (facts_of script names) slots variables
    → HasKindsAt (facts_of script names) (begun body variables)

abbrev pub PromisingForksBeginWithKinds : Type 0
PromisingForksBeginWithKinds = (script : Script) (names : Kind → ℕ → Bool) (slots : List Kind) (promise switch : ℕ) (body : Block)
    (variables : List Value)
    → HasKindsOfCall (facts_of script names) slots (ask.Fork (Promising promise) switch body) → HasKinds (facts_of script names) slots variables
    → HasKindsAt (facts_of script names) (begun_promising promise body variables)

abbrev pub BranchesBeginWithKinds : Type 0
BranchesBeginWithKinds = (script : Script) (names : Kind → ℕ → Bool) (slots : List Kind) (group : Group) (blocks : List Block) (variables : List Value)
    → HasKindsOfCall (facts_of script names) slots (ask.Branches group blocks) → HasKinds (facts_of script names) slots variables
    → All (λ block. HasKindsAt (facts_of script names) (begun block variables)) (other_branches blocks)

abbrev pub JobsBeginWithKinds : Type 0
JobsBeginWithKinds = (script : Script) (names : Kind → ℕ → Bool) (slots : List Kind) (executor weight : ℕ) (given : List Value) (job : Block)
    → HasKindsOfCall (facts_of script names) slots (ask.Submit executor weight given job)
    → HasKindsAt (facts_of script names) (begun job given)

-- before the block of a call that was answered with a number of what it made
abbrev pub EntersWithKinds : Type 0
EntersWithKinds = (script : Script) (names : Kind → ℕ → Bool) (slots : List Kind) (call : Ask) (number : ℕ) (rest : List Work) (variables : List Value)
    → HasKindsOfCall (facts_of script names) slots call → HasKindOfNumber (facts_of script names) call number
    → HasKinds (facts_of script names) slots variables → HasKindsOfWork (facts_of script names) slots rest
    → HasKindsAt (facts_of script names) (entered call number rest variables)

-- before a handler that fits the variables that it was registered with
abbrev pub HandlesWithKinds : Type 0
HandlesWithKinds = (script : Script) (names : Kind → ℕ → Bool) (slots own : List Kind) (switch : ℕ) (failed : Option Raised) (kept : Value) (context : ℕ)
    (handler : Block) (registered : List Value) (rest : List Work) (variables : List Value)
    → FitsBlock (facts_of script names) own handler → HasKinds (facts_of script names) own registered
    → HasKinds (facts_of script names) slots variables → HasKindsOfWork (facts_of script names) slots rest
    → HasKindsAt (facts_of script names) (handled (ask.Close switch failed kept) context handler registered rest variables)

pub record KindsStayBetween : Type 0 where
  pub numbers : FitsByNumber
  pub bodies : BodiesFit
  pub positions : PositionsGrow
  pub calls : CallsGrow
  pub variables : VariablesGrow
  pub begins : BeginsWithKinds
  pub forks : ForksBeginWithKinds
  pub promising : PromisingForksBeginWithKinds
  pub branches : BranchesBeginWithKinds
  pub jobs : JobsBeginWithKinds
  pub enters : EntersWithKinds
  pub handles : HandlesWithKinds
