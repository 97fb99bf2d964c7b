-- The refusals of the code, beside those of the definitions.
use Rattle.std.specs.Prelude.{◌≡◌, ℕ, List, codes, Result, Err}
use Rattle.spec_script.specs.Limits.{most_input_bytes}
use Rattle.spec_script.specs.Faults as model
use Rattle.spec_script.specs.Refusals.{TooLong, NoTree, NoScript, MockOnly, DomainOnly, Unbuilt, NoHistory, NoList, NoNet, refusal_line_of}
use Rattle.spec_script.specs.Refusals as refusals
use Rattle.script_tree.specs.declared.fault.TreeFault.{TreeFault}
use Rattle.script_tree.specs.declared.fault.TreeFault.TheVariants as tree_fault
use Rattle.script_forms.specs.declared.fault.ScriptFault.{ScriptFault}
use Rattle.script_forms.specs.declared.fault.ScriptFault.TheVariants as script_fault
use Rattle.script_input.specs.declared.fault.InputFault.{InputFault}
use Rattle.script_input.specs.declared.fault.InputFault.TheVariants as fault
use Rattle.script_input.specs.declared.refusal.Kind.{Kind}
use Rattle.script_input.specs.declared.refusal.Kind.TheVariants as kind
use Rattle.script_input.specs.declared.refusal.Refusal.{Refusal}

-- the word of each kind
abbrev pub kind_name : Kind → List ℕ
kind_name kind.Byte = codes "Byte"
kind_name kind.Unclosed = codes "Unclosed"
kind_name kind.Stray = codes "Stray"
kind_name kind.Number = codes "Number"
kind_name kind.LongText = codes "LongText"
kind_name kind.Deep = codes "Deep"
kind_name kind.Shape = codes "Shape"
kind_name kind.Size = codes "Size"
kind_name kind.Twice = codes "Twice"
kind_name kind.Name = codes "Name"
kind_name kind.MockOnly = codes "MockOnly"
kind_name kind.DomainOnly = codes "DomainOnly"
kind_name kind.Unbuilt = codes "Unbuilt"
kind_name kind.NoHistory = codes "NoHistory"
kind_name kind.List = codes "List"
kind_name kind.Net = codes "Net"

-- the line of a refusal
abbrev pub line_of : Refusal → List ℕ
line_of refusal = refusal_line_of (kind_name refusal.kind) refusal.at

-- a refusal of this kind at a place
abbrev pub at_place : Kind → ℕ → Refusal
at_place kind at = record { kind = kind; at = at }

-- the code's refusal for each of the definitions'
abbrev pub seen_tree : model.TreeFault → Refusal
seen_tree (model.Byte at) = at_place kind.Byte at
seen_tree (model.Unclosed at) = at_place kind.Unclosed at
seen_tree (model.Stray at) = at_place kind.Stray at
seen_tree (model.Number at) = at_place kind.Number at
seen_tree (model.LongText at) = at_place kind.LongText at
seen_tree (model.Deep at) = at_place kind.Deep at

abbrev pub seen_script : model.ScriptFault → Refusal
seen_script (model.Shape at) = at_place kind.Shape at
seen_script (model.Size at) = at_place kind.Size at
seen_script (model.Twice at) = at_place kind.Twice at
seen_script (model.Name at) = at_place kind.Name at

abbrev pub seen : refusals.Refusal → Refusal
seen TooLong = at_place kind.Size most_input_bytes
seen (NoTree e) = seen_tree e
seen (NoScript e) = seen_script e
seen (MockOnly at) = at_place kind.MockOnly at
seen (DomainOnly at) = at_place kind.DomainOnly at
seen (Unbuilt at) = at_place kind.Unbuilt at
seen (NoHistory at) = at_place kind.NoHistory at
seen (NoList at) = at_place kind.List at
seen (NoNet at) = at_place kind.Net at

-- a fault of the readers in code as one of the input
abbrev pub of_tree_fault : TreeFault → InputFault
of_tree_fault (tree_fault.Byte at) = fault.Refused (at_place kind.Byte at)
of_tree_fault (tree_fault.Unclosed at) = fault.Refused (at_place kind.Unclosed at)
of_tree_fault (tree_fault.Stray at) = fault.Refused (at_place kind.Stray at)
of_tree_fault (tree_fault.Number at) = fault.Refused (at_place kind.Number at)
of_tree_fault (tree_fault.LongText at) = fault.Refused (at_place kind.LongText at)
of_tree_fault (tree_fault.Deep at) = fault.Refused (at_place kind.Deep at)
of_tree_fault tree_fault.NoMemory = fault.NoMemory

abbrev pub of_script_fault : ScriptFault → InputFault
of_script_fault (script_fault.Shape at) = fault.Refused (at_place kind.Shape at)
of_script_fault (script_fault.Name at) = fault.Refused (at_place kind.Name at)
of_script_fault (script_fault.Twice at) = fault.Refused (at_place kind.Twice at)
of_script_fault (script_fault.Size at) = fault.Refused (at_place kind.Size at)
of_script_fault script_fault.NoMemory = fault.NoMemory

-- the definitions refuse so, with the same kind and place
pub record IsRefusedAs {A : Type 0} (refusal : Refusal) (read : Result A refusals.Refusal) : Type 0 where
  pub why : refusals.Refusal
  pub refused : read ≡ Err why
  pub same : refusal ≡ seen why

-- where memory ran out, nothing is said of the input
abbrev pub Refuses : {A : Type 0} → InputFault → Result A refusals.Refusal → Type 0
Refuses fault.NoMemory read = Unit {0}
Refuses (fault.Refused refusal) read = IsRefusedAs refusal read
