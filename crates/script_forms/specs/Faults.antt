-- The faults of the code as those of the definitions.
use Rattle.std.specs.Prelude.{◌≡◌, Result, Err}
use Rattle.spec_script.specs.Faults as model
use Rattle.script_forms.specs.declared.fault.ScriptFault.{ScriptFault}
use Rattle.script_forms.specs.declared.fault.ScriptFault.TheVariants as fault

-- the definitions refuse so, with the same place; where memory ran out, nothing is said of them
abbrev pub Fails : {A : Type 0} → ScriptFault → Result A model.ScriptFault → Type 0
Fails fault.NoMemory read = Unit {0}
Fails (fault.Shape at) read = read ≡ Err (model.Shape at)
Fails (fault.Name at) read = read ≡ Err (model.Name at)
Fails (fault.Twice at) read = read ≡ Err (model.Twice at)
Fails (fault.Size at) read = read ≡ Err (model.Size at)
