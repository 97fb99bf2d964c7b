-- The variables that a job takes with it, in the code.
use Rattle.std.specs.Prelude.{◌≡◌, List, length, nat_lt, is_none, Result, Ok, Err}
use Rattle.spec_script.specs.Captures.{slots_of, job_scope}
use Rattle.spec_script.specs.Faults.{Shape, Size, Twice}
use Rattle.spec_script.specs.Kinds.{VariableKind}
use Rattle.spec_script.specs.Limits.{most_captured}
use Rattle.spec_script.specs.Reads.{Made, Reads, ◌>>>◌, gives, refuses, requires_that}
use Rattle.spec_script.specs.Scopes.{Named, Scope, named_in, used}
use Rattle.spec_script.specs.Trees.{Tree, Word, place_of}
use Rattle.script_forms.specs.Faults.{Fails}
use Rattle.script_statements.specs.declared.captures.Job.{Job}
use Rattle.script_forms.specs.declared.fault.ScriptFault.{ScriptFault}

-- the variable that a tree stands for, behind these: one step of the definitions' `captured_behind`
abbrev pub captured_next : Scope → (before : List Named) → Tree → Reads Named
captured_next scope before (Word at name) =
    requires_that (nat_lt (length before) most_captured) (Size at) >>> λ _.
    requires_that (is_none (named_in before name)) (Twice at) >>> λ _.
    used VariableKind scope (Word at name) >>> λ slot. gives (record { name = name; kind = VariableKind; number = slot })
captured_next scope before tree = refuses (Shape (place_of tree))

-- variables were taken, with these slots, and the job sees them
pub record HasCaptured (read : Reads (List Named)) (scope : Scope) (job : Job) : Type 0 where
  pub taken : List Named
  pub gives : (made : Made) → read made ≡ Ok (taken, made)
  pub slots : job.slots ≡ slots_of taken
  pub inner : job.inner ≡ job_scope scope taken

abbrev pub Captures : Result Job ScriptFault → Scope → Reads (List Named) → Type 0
Captures (Ok job) scope read = HasCaptured read scope job
Captures (Err f) scope read = (made : Made) → Fails f (read made)
