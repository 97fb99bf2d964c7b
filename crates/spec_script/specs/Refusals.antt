-- The refusals of an input, and the line that each writes: `!Refused KIND at OFFSET`.
use Rattle.std.specs.Prelude.{ℕ, true, false, nat_le, List, [], ◌∷◌, ◌++◌, length, codes, Result, Ok, Err}
use Rattle.std.specs.Fmt.{decimal}
use Rattle.spec_script.specs.Bytes.{line_feed}
use Rattle.spec_script.specs.Limits.{most_input_bytes}
use Rattle.spec_script.specs.Trees.{Tree}
use Rattle.spec_script.specs.Faults as fault
use Rattle.spec_script.specs.Faults.{TreeFault, ScriptFault}
use Rattle.spec_script.specs.Reading.{reading}

-- why an input is refused. Where several fit, the first of them is the answer.
--   TooLong     it has more bytes than an input may have
--   NoTree      it is no tree
--   NoScript    its tree is no script
--   MockOnly    a form that several domains don't run, where the command runs several
--   DomainOnly  a further body, where the command runs one domain
--   Unbuilt     a form that isn't built yet, where the command runs the script
--   NoHistory   it has no byte 0, where the command checks a history, which stands behind that byte
--   NoList      a form of lists that can't be written out, where the command writes them out
--   NoNet       a form of the mocked network that can't be written out, likewise
pub data Refusal : Type 0 where
  TooLong : Refusal
  NoTree : TreeFault → Refusal
  NoScript : ScriptFault → Refusal
  MockOnly : (at : ℕ) → Refusal
  DomainOnly : (at : ℕ) → Refusal
  Unbuilt : (at : ℕ) → Refusal
  NoHistory : (at : ℕ) → Refusal
  NoList : (at : ℕ) → Refusal
  NoNet : (at : ℕ) → Refusal

-- the line of a kind and a place
abbrev pub refusal_line_of : (kind : List ℕ) → (at : ℕ) → List ℕ
refusal_line_of kind at = codes "!Refused " ++ kind ++ codes " at " ++ decimal at ++ line_feed ∷ []

abbrev pub tree_fault_line : TreeFault → List ℕ
tree_fault_line (fault.Byte at) = refusal_line_of (codes "Byte") at
tree_fault_line (fault.Unclosed at) = refusal_line_of (codes "Unclosed") at
tree_fault_line (fault.Stray at) = refusal_line_of (codes "Stray") at
tree_fault_line (fault.Number at) = refusal_line_of (codes "Number") at
tree_fault_line (fault.LongText at) = refusal_line_of (codes "LongText") at
tree_fault_line (fault.Deep at) = refusal_line_of (codes "Deep") at

abbrev pub script_fault_line : ScriptFault → List ℕ
script_fault_line (fault.Shape at) = refusal_line_of (codes "Shape") at
script_fault_line (fault.Size at) = refusal_line_of (codes "Size") at
script_fault_line (fault.Twice at) = refusal_line_of (codes "Twice") at
script_fault_line (fault.Name at) = refusal_line_of (codes "Name") at

-- an input that is too long is refused at the first byte too many
unfoldable pub refusal_line : Refusal → List ℕ
refusal_line TooLong = refusal_line_of (codes "Size") most_input_bytes
refusal_line (NoTree e) = tree_fault_line e
refusal_line (NoScript e) = script_fault_line e
refusal_line (MockOnly at) = refusal_line_of (codes "MockOnly") at
refusal_line (DomainOnly at) = refusal_line_of (codes "DomainOnly") at
refusal_line (Unbuilt at) = refusal_line_of (codes "Unbuilt") at
refusal_line (NoHistory at) = refusal_line_of (codes "NoHistory") at
refusal_line (NoList at) = refusal_line_of (codes "List") at
refusal_line (NoNet at) = refusal_line_of (codes "Net") at

-- a fault of a step as the refusal of the input
abbrev pub or_refused : {A E : Type 0} → (E → Refusal) → Result A E → Result A Refusal
or_refused refusal (Ok x) = Ok x
or_refused refusal (Err e) = Err (refusal e)

-- the tree of an input: its size is asked first, then what it spells
unfoldable pub input_tree : List ℕ → Result Tree Refusal
input_tree bytes = elim (nat_le (length bytes) most_input_bytes) [ true ↦ or_refused NoTree (reading bytes) | false ↦ Err TooLong ]
