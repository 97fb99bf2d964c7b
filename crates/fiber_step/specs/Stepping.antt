-- What the statement at a number comes to, beside the definition's `statement`.
use Rattle.std.specs.Prelude.{◌≡◌, ◌<◌, ◌≤◌, ◌^◌, ℕ, suc, ◌+◌, List, length, ℤ, pos, Some, Result, Ok, Err, slice_get}
use Rattle.std.specs.List.{AllByRecursion as Each}
use Rattle.eio_value.specs.declared.plain.Misuse.{Misuse}
use Rattle.eio_value.specs.declared.plain.Plain.{Plain}
use Rattle.eio_value.specs.declared.plain.Plain.TheVariants.{Failure, Invalid}
use Rattle.eio_value.specs.declared.value.Value.{Value}
use Rattle.eio_value.specs.declared.value.Value.TheVariants as value
use Rattle.spec_script.specs.Syntax as syntax
use Rattle.script_code.specs.Standing.{statements_at, block_at}
use Rattle.script_code.specs.Texted.{IsAmong}
use Rattle.script_forms.specs.declared.node.Group.{Group}
use Rattle.script_forms.specs.declared.node.Group.TheVariants as group
use Rattle.script_forms.specs.declared.node.Node.{Node}
use Rattle.script_forms.specs.declared.node.Node.TheVariants as node
use Rattle.spec_fiber.specs.Silent.{Went, Past, within, raises, asks, repeats, statement, block}
use Rattle.spec_fiber.specs.Work.{Carry, bound}
use Rattle.fiber_step.specs.Calling.{statement_at}
use Rattle.fiber_step.specs.Entering.{HasBranches}
use Rattle.fiber_step.specs.Having.{HasStatements, BeginsStatement}
use Rattle.fiber_step.specs.Standing.{ask_of}
use Rattle.fiber_step.specs.declared.ask.Ask.{Ask}
use Rattle.fiber_step.specs.declared.ask.Ask.TheVariants as ask
use Rattle.fiber_step.specs.declared.step.Step.{Step}
use Rattle.fiber_step.specs.declared.step.Step.TheVariants as step
use Rattle.fiber_step.specs.declared.step.Stepped.{Stepped}
use Rattle.fiber_step.specs.Weighing.{weight_of_statement, weight_of_block}

-- ## Statements

-- with these variables the statement at this number goes so
abbrev pub StatementGoes : List Node → (number : ℕ) → List Value → (Carry → Went) → Type 0
StatementGoes nodes number variables went = (c : Carry) → c.variables ≡ variables → statement (statement_at nodes number) c ≡ went c

abbrev pub IsStep : List Node → (number : ℕ) → List Value → Step → Type 0
IsStep nodes number variables (step.Past it) = StatementGoes nodes number variables (λ c. Past it c)
IsStep nodes number variables (step.Named it) = StatementGoes nodes number variables (λ c. Past value.Unit (bound (length c.variables) it c))
IsStep nodes number variables step.Form = (slice_get nodes number ≡ Some node.LetForm) × (statement_at nodes number ≡ syntax.LetForm (statement_at nodes (number + 1)))
IsStep nodes number variables (step.Block body) = StatementGoes nodes number variables (λ c. within (length c.variables) (block (block_at nodes body) c))
IsStep nodes number variables (step.Tried tried handler) = StatementGoes nodes number variables (λ c. statement (syntax.Try (block_at nodes tried) (block_at nodes handler)) c)
IsStep nodes number variables (step.Looped body) = StatementGoes nodes number variables (λ c. statement (syntax.Loop (block_at nodes body)) c)
IsStep nodes number variables (step.Repeated left body) = StatementGoes nodes number variables (λ c. repeats 0 left (block_at nodes body) (length c.variables) c)
IsStep nodes number variables (step.Locks mutex body) = StatementGoes nodes number variables (λ c. statement (syntax.UseRw mutex (block_at nodes body)) c)
IsStep nodes number variables (step.Uses pool body) = StatementGoes nodes number variables (λ c. statement (syntax.UsePool pool (block_at nodes body)) c)
IsStep nodes number variables (step.Raises text) = StatementGoes nodes number variables (λ c. raises (Failure text) c)
IsStep nodes number variables (step.Calls call) = StatementGoes nodes number variables (λ c. asks (ask_of nodes call) c)

abbrev pub IsRaise : List Node → (number : ℕ) → List Value → Plain → Type 0
IsRaise nodes number variables what = StatementGoes nodes number variables (λ c. raises what c)

-- ## What is done next

-- behind the statement: the form of a `let` is done first
abbrev pub IsAfter : List Node → (number : ℕ) → Step → (after : ℕ) → Type 0
IsAfter nodes number step.Form after = (after ≡ number + 1) × BeginsStatement nodes after
IsAfter nodes number other after = (statements_at nodes number ≡ syntax.Then (statement_at nodes number) (statements_at nodes after)) × HasStatements nodes after

-- ## Blocks

-- each branch of the form at this number begins at a node
pub record HasBranchBodies (nodes : List Node) (form : ℕ) : Type 0 where
  pub group : Group
  pub numbers : List ℕ
  pub after : ℕ
  pub is : slice_get nodes form ≡ Some (node.Branches group numbers after)
  pub begin : Each (HasStatements nodes) numbers

-- the blocks of a call begin at nodes
abbrev pub HasBodiesOf : List Node → Ask → Type 0
HasBodiesOf nodes (ask.Sub body) = HasStatements nodes body
HasBodiesOf nodes (ask.Protect body) = HasStatements nodes body
HasBodiesOf nodes (ask.Switch body) = HasStatements nodes body
HasBodiesOf nodes (ask.Fork forking switch body) = HasStatements nodes body
HasBodiesOf nodes (ask.OnRelease switch handler) = HasStatements nodes handler
HasBodiesOf nodes (ask.Branches group form) = HasBranches nodes form × HasBranchBodies nodes form
HasBodiesOf nodes (ask.Submit executor weight given job) = HasStatements nodes job
HasBodiesOf nodes (ask.OpenReader flow limit body) = HasStatements nodes body
HasBodiesOf nodes (ask.OpenWriter flow body) = HasStatements nodes body
HasBodiesOf nodes (ask.OpenDirectory place path body) = HasStatements nodes body
HasBodiesOf nodes other = Unit {0}

abbrev pub HasBodies : List Node → Step → Type 0
HasBodies nodes (step.Block body) = HasStatements nodes body
HasBodies nodes (step.Tried tried handler) = HasStatements nodes tried × HasStatements nodes handler
HasBodies nodes (step.Looped body) = HasStatements nodes body
HasBodies nodes (step.Repeated left body) = HasStatements nodes body × (left + 1 < 2 ^ 63)
HasBodies nodes (step.Locks mutex body) = HasStatements nodes body
HasBodies nodes (step.Uses pool body) = HasStatements nodes body
HasBodies nodes (step.Calls call) = HasBodiesOf nodes call
HasBodies nodes other = Unit {0}

-- ## Texts

-- the texts of a call, and of a raise, stand in a table of so many texts
abbrev pub HasTextOfAsk : (texts : ℕ) → Ask → Type 0
HasTextOfAsk texts (ask.Cancel context text) = IsAmong texts text
HasTextOfAsk texts (ask.Fail switch text) = IsAmong texts text
HasTextOfAsk texts other = Unit {0}

abbrev pub HasText : (texts : ℕ) → Step → Type 0
HasText texts (step.Raises text) = IsAmong texts text
HasText texts (step.Calls call) = HasTextOfAsk texts call
HasText texts other = Unit {0}

-- ## Weights

-- the blocks that a statement goes into weigh less than it
abbrev pub IsLight : List Node → (number : ℕ) → Step → Type 0
IsLight nodes number (step.Block body) = 2 + weight_of_block (block_at nodes body) ≤ weight_of_statement (statement_at nodes number)
IsLight nodes number (step.Tried tried handler) =
    4 + weight_of_block (block_at nodes tried) + weight_of_block (block_at nodes handler) ≤ weight_of_statement (statement_at nodes number)
IsLight nodes number other = Unit {0}

-- ## All of it

pub record IsStepped (nodes : List Node) (texts number : ℕ) (variables : List Value) (it : Stepped) : Type 0 where
  pub is : IsStep nodes number variables it.step
  pub after : IsAfter nodes number it.step it.after
  pub bodies : HasBodies nodes it.step
  pub text : HasText texts it.step
  pub light : IsLight nodes number it.step

abbrev pub IsStepOf : List Node → (texts number : ℕ) → List Value → Result Stepped Misuse → Type 0
IsStepOf nodes texts number variables (Ok it) = IsStepped nodes texts number variables it
IsStepOf nodes texts number variables (Err why) = IsRaise nodes number variables (Invalid why)

-- ## Turns and branches

-- a `repeat` of so many turns
abbrev pub repeats_step : ℤ → (body : ℕ) → Step
repeats_step (pos (suc left)) body = step.Repeated left body
repeats_step z body = step.Past value.Unit

abbrev pub HasFewLeft : Step → Type 0
HasFewLeft (step.Repeated left body) = left + 1 < 2 ^ 63
HasFewLeft other = Unit {0}

-- a form without branches: `both` and `first` always have some
abbrev pub unbranched : Group → Step
unbranched group.Any = step.Calls ask.AwaitCancel
unbranched other = step.Past value.Unit
