-- What the statements that are left of a block do.
use Rattle.std.specs.Prelude.{◌≡◌, ◌<◌, ◌^◌, ◌+◌, ℕ, zero, suc, length, List, Some, slice_get, Bool, true, false}
use Rattle.spec_script.specs.Syntax.{Statement, LetForm, Statements}
use Rattle.script_code.specs.Standing.{statements_at, Stands}
use Rattle.script_code.specs.Unflat.{bound}
use Rattle.script_forms.specs.declared.node.Node.{Node}
use Rattle.script_forms.specs.declared.node.Node.TheVariants as node
use Rattle.spec_fiber.specs.Silent.{statement}
use Rattle.spec_fiber.specs.Work.{Carry, restored}
use Rattle.fiber_step.specs.Calling.{statement_at}
use Rattle.fiber_step.specs.Going.{goes}
use Rattle.fiber_step.specs.Having.{BeginsStatement}
use Rattle.fiber_step.specs.Framing.{KeptFrames}
use Rattle.fiber_step.specs.Placing.{ArePlaced}
use Rattle.fiber_step.specs.Standing.{works_of}
use Rattle.fiber_step.specs.Stepping.{IsStep, IsLight, HasBodies}
use Rattle.fiber_step.specs.Turning.{with_mark, next_behind, RaisesNothing}
use Rattle.fiber_step.specs.Weighing.{weight_of_statement, weight}
use Rattle.fiber_step.specs.declared.mark.Mark.TheVariants as mark
use Rattle.fiber_step.specs.declared.step.Step.{Step}
use Rattle.fiber_step.specs.declared.step.Step.TheVariants as step
use Rattle.fiber_step.specs.declared.progress.Progress.{Progress}
use Rattle.fiber_step.specs.declared.progress.Progress.TheVariants as progress

-- ## Lets before a form

-- so many `let`s that name what a form gives
abbrev pub lets_of : ℕ → Statement → Statement
lets_of zero form = form
lets_of (suc n) form = LetForm (lets_of n form)

abbrev pub bound_by : ℕ → Statements → Statements
bound_by zero items = items
bound_by (suc n) items = bound (bound_by n items)

-- behind so many `let`s a form begins at this number
pub record IsBehindLets (nodes : List Node) (number form : ℕ) : Type 0 where
  pub lets : ℕ
  pub count : form ≡ number + lets
  pub is : statements_at nodes number ≡ bound_by lets (statements_at nodes form)
  pub begins : BeginsStatement nodes form

-- the form itself begins there
pub record IsForm (nodes : List Node) (number form : ℕ) : Type 0 where
  pub behind : IsBehindLets nodes number form
  pub last : slice_get nodes form ≡ Some node.LetForm → ⊥

-- with the marks of so many `let`s
abbrev pub binding : ℕ → KeptFrames → KeptFrames
binding zero kept = kept
binding (suc n) kept = binding n (with_mark (mark.Bind (length kept.variables)) kept)

-- ## A statement that raises nothing

-- what is done by a step, the statement at this number
abbrev pub IsSilentStep : Step → Type 0
IsSilentStep (step.Raises text) = ⊥
IsSilentStep step.Form = ⊥
IsSilentStep (step.Repeated left body) = left + 1 < 2 ^ 63
IsSilentStep other = Unit {0}

-- the step of a form behind its lets
abbrev pub IsLastStep : Step → Type 0
IsLastStep step.Form = ⊥
IsLastStep (step.Repeated left body) = left + 1 < 2 ^ 63
IsLastStep other = Unit {0}

-- less work is left than the statement was
abbrev pub IsLighterBy : List Node → (number : ℕ) → (old : KeptFrames) → Progress → (new : KeptFrames) → Type 0
IsLighterBy nodes number old (progress.Calls call) new = Unit {0}
IsLighterBy nodes number old other new = weight (works_of nodes new.items) < weight_of_statement (statement_at nodes number) + weight (works_of nodes old.items)

-- the statement at this number comes to this, and raises nothing
pub record IsDone (nodes : List Node) (number : ℕ) (old : KeptFrames) (it : Progress) (new : KeptFrames) : Type 0 where
  pub next : (c : Carry) → goes (statement (statement_at nodes number) (restored old.variables c)) (works_of nodes old.items) ≡ next_behind nodes it new c
  pub placed : ArePlaced nodes old.items → ArePlaced nodes new.items
  pub lighter : IsLighterBy nodes number old it new
  pub quiet : RaisesNothing nodes it

-- a step is done, of whatever statement it is
abbrev pub IsDoneBy : Step → (old : KeptFrames) → Progress → (new : KeptFrames) → Type 0
IsDoneBy step old it new = (nodes : List Node) (number : ℕ) → IsStep nodes number old.variables step → HasBodies nodes step → IsLight nodes number step → IsDone nodes number old it new

-- whether a step goes into a block at once
abbrev pub is_entering : Step → Bool
is_entering (step.Block body) = true
is_entering (step.Tried tried handler) = true
is_entering (step.Looped body) = true
is_entering (step.Repeated left body) = true
is_entering other = false

-- another statement begins at this number than one that gives its block's value
pub record NoGive (nodes : List Node) (number : ℕ) : Type 0 where
  pub first : Node
  pub is : slice_get nodes number ≡ Some first
  pub stands : Stands nodes number first
  pub other : first ≡ node.Give → ⊥
