-- The generator's tree is a script's, so that no fault is left but that of memory.
use Rattle.std.proofs.Common.{◌≡◌, ℕ, Result, Ok, Err, refl, subst}
use Rattle.spec_script.specs.Faults as model
use Rattle.spec_script.specs.Generator.{generated}
use Rattle.spec_script.specs.Scripts.{Script, script_of}
use Rattle.spec_script.specs.Trees.{Tree}
use Rattle.law_script.specs.Scripts.Generated.{IsScript}
use Rattle.law_script.proofs.Scripts.Generated.{generated_is_read}
use Rattle.script_forms.specs.Faults.{Fails}
use Rattle.script_forms.specs.declared.fault.ScriptFault.{ScriptFault}
use Rattle.script_forms.specs.declared.fault.ScriptFault.TheVariants as fault

given_or_refused : (script : Script) (f : model.ScriptFault) (r : Result Script model.ScriptFault) → r ≡ Ok script → r ≡ Err f → ⊥
given_or_refused script f r one other = cc

left_fault : (f : ScriptFault) (tree : Tree) → IsScript tree → Fails f (script_of tree) → f ≡ fault.NoMemory
left_fault fault.NoMemory tree is fails = refl
left_fault (fault.Shape at) tree is fails = absurd (given_or_refused is.script (model.Shape at) _ is.read fails)
left_fault (fault.Name at) tree is fails = absurd (given_or_refused is.script (model.Name at) _ is.read fails)
left_fault (fault.Twice at) tree is fails = absurd (given_or_refused is.script (model.Twice at) _ is.read fails)
left_fault (fault.Size at) tree is fails = absurd (given_or_refused is.script (model.Size at) _ is.read fails)

pub no_fault : (f : ScriptFault) (tree : Tree) (n : ℕ) → tree ≡ generated n → Fails f (script_of tree) → f ≡ fault.NoMemory
no_fault f tree n is fails = left_fault f (generated n) (generated_is_read n) (subst (λ (t : Tree). Fails f (script_of t)) is fails)
