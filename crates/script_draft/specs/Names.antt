-- The code's names as those of the definitions.
use Rattle.std.specs.Prelude.{◌≡◌, Result, Ok, Err}
use Rattle.spec_script.specs.Kinds as model
use Rattle.spec_script.specs.Scopes as scopes
use Rattle.spec_script.specs.Trees.{Tree}
use Rattle.spec_script.specs.Reads.{Made}
use Rattle.script_draft.specs.declared.kind.Kind.{Kind}
use Rattle.script_draft.specs.declared.scope.Named.{Named}
use Rattle.script_forms.specs.declared.fault.ScriptFault.{ScriptFault}
use Rattle.script_forms.specs.Faults.{Fails}
use Rattle.script_draft.specs.declared.kind.Kind.TheVariants as kind

abbrev pub kind_of : Kind → model.Kind
kind_of kind.Variable = model.VariableKind
kind_of kind.Context = model.ContextKind
kind_of kind.Switch = model.SwitchKind
kind_of kind.Reader = model.ReaderKind
kind_of kind.Writer = model.WriterKind
kind_of kind.Capability = model.CapabilityKind
kind_of kind.Stream = model.StreamKind
kind_of kind.Promise = model.PromiseKind
kind_of kind.Semaphore = model.SemaphoreKind
kind_of kind.Mutex = model.MutexKind
kind_of kind.Pool = model.PoolKind
kind_of kind.Executor = model.ExecutorKind
kind_of kind.Flow = model.FlowKind
kind_of kind.Directory = model.DirectoryKind

abbrev pub named_of : Named → scopes.Named
named_of it = record { name = it.name.now; kind = kind_of it.kind; number = it.number }

-- a new name came into scope as in the definitions, or was refused as there
abbrev pub Brings : {X : Type 0} → Result X ScriptFault → model.Kind → (old new : scopes.Scope) → Tree → Type 0
Brings (Ok x) kind old new tree = (made : Made) → scopes.bring kind old tree made ≡ Ok (new, made)
Brings (Err f) kind old new tree = (made : Made) → Fails f (scopes.bring kind old tree made)
