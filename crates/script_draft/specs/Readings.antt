-- What a reading function of the code gave, beside what the definitions' steps give.
use Rattle.std.specs.Prelude.{◌≡◌, ℕ, List, ◌++◌, length, take, Result, Ok, Err}
use Rattle.spec_script.specs.Reads.{Made, Reads}
use Rattle.spec_script.specs.Syntax.{Statement, Expressions}
use Rattle.spec_script.specs.Scopes.{Scope}
use Rattle.spec_script.specs.Statements.{Stated}
use Rattle.script_draft.specs.Drafts.{Drafted, made_of}
use Rattle.script_forms.specs.Flat.{flat_statement, flat_expressions, expression_count}
use Rattle.script_forms.specs.Faults.{Fails}
use Rattle.script_forms.specs.declared.fault.ScriptFault.{ScriptFault}
use Rattle.script_forms.specs.declared.node.Node.{Node}

-- a step that makes nothing gives what the code gave, or its fault
abbrev pub Finds : {X A : Type 0} → (X → A) → Result X ScriptFault → Reads A → Type 0
Finds view (Ok x) read = (made : Made) → read made ≡ Ok (view x, made)
Finds view (Err f) read = (made : Made) → Fails f (read made)

-- a step that leaves the nodes as they are gives what the code gave, and makes what the code made
abbrev pub Makes : {X A : Type 0} → (X → A) → Result X ScriptFault → Reads A → (old new : Drafted) → Type 0
Makes view (Ok x) read old new = (read (made_of old) ≡ Ok (view x, made_of new)) × (new.nodes ≡ old.nodes)
Makes view (Err f) read old new = Fails f (read (made_of old))

-- a step gave a value, whose nodes are those that the code put behind the others
pub record HasGrown {A : Type 0} (read : Reads A) (flat : A → List Node) (old new : Drafted) : Type 0 where
  pub value : A
  pub gives : read (made_of old) ≡ Ok (value, made_of new)
  pub grows : new.nodes ≡ old.nodes ++ flat value

abbrev pub Grows : {X A : Type 0} → Result X ScriptFault → Reads A → (ℕ → A → List Node) → (old new : Drafted) → Type 0
Grows (Ok x) read flat old new = HasGrown read (flat (length old.nodes)) old new
Grows (Err f) read flat old new = Fails f (read (made_of old))

-- a statement was read, whose nodes begin at this number, with this scope behind it
pub record HasStated (read : Stated) (behind : Scope) (at : ℕ) (old new : Drafted) : Type 0 where
  pub value : Statement
  pub gives : read (made_of old) ≡ Ok ((value, behind), made_of new)
  pub grows : new.nodes ≡ take at old.nodes ++ flat_statement at value

abbrev pub States : {X : Type 0} → Result X ScriptFault → Stated → (behind : Scope) → (at : ℕ) → (old new : Drafted) → Type 0
States (Ok x) read behind at old new = HasStated read behind at old new
States (Err f) read behind at old new = Fails f (read (made_of old))

-- the operands of a `trace` were read, and so many they are
pub record HasTraced (read : Reads Expressions) (count : ℕ) (old new : Drafted) : Type 0 where
  pub value : Expressions
  pub gives : read (made_of old) ≡ Ok (value, made_of new)
  pub grows : new.nodes ≡ old.nodes ++ flat_expressions value
  pub counted : expression_count value ≡ count

abbrev pub Traces : Result ℕ ScriptFault → Reads Expressions → (old new : Drafted) → Type 0
Traces (Ok count) read old new = HasTraced read count old new
Traces (Err f) read old new = Fails f (read (made_of old))
