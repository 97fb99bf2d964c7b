-- What the functions of the code that read blocks gave, beside the definitions' steps.
use Rattle.std.specs.Prelude.{◌≡◌, ℕ, ◌+◌, Bool, true, false, List, [], ◌∷◌, ◌++◌, length, Option, Some, None, is_some, Result, Ok, Err}
use Rattle.spec_script.specs.Trees.{Tree, Word, Branch, Trees, Nil, And}
use Rattle.spec_script.specs.Forms.{form_of}
use Rattle.spec_script.specs.Syntax.{Statement, Statements, Block, Begins}
use Rattle.spec_script.specs.Reads.{Reads, Makes}
use Rattle.script_draft.specs.Drafts.{Drafted, made_of}
use Rattle.script_forms.specs.Flat.{flat_statement, flat_statements}
use Rattle.script_draft.specs.Ahead.{form_at}
use Rattle.script_forms.specs.Heads.{form_seen}
use Rattle.script_forms.specs.declared.heads.Form.{Form}
use Rattle.script_forms.specs.Faults.{Fails}
use Rattle.script_forms.specs.declared.fault.ScriptFault.{ScriptFault}
use Rattle.script_forms.specs.declared.node.Node.{Node}
use Rattle.script_forms.specs.declared.node.Node.TheVariants as node

-- whether the next tree of a row is the last
abbrev pub is_last : Trees → Bool
is_last (And tree Nil) = true
is_last trees = false

-- a block was read, which begins with the next node
pub record HasBlock (read : Reads Block) (old new : Drafted) : Type 0 where
  pub items : Statements
  pub gives : read (made_of old) ≡ Ok (Begins (length old.nodes) items, made_of new)
  pub grows : new.nodes ≡ old.nodes ++ flat_statements (length old.nodes) items

abbrev pub Blocked : {X : Type 0} → Result X ScriptFault → Reads Block → (old new : Drafted) → Type 0
Blocked (Ok x) read old new = HasBlock read old new
Blocked (Err f) read old new = Fails f (read (made_of old))

-- the value of a `let` was read, with the node of the `let`; the value's own nodes stand behind it
pub record HasValue (read : Reads Statement) (head : Node) (old new : Drafted) : Type 0 where
  pub value : Statement
  pub inner : List Node
  pub gives : read (made_of old) ≡ Ok (value, made_of new)
  pub grows : new.nodes ≡ old.nodes ++ inner
  pub flat : (at : ℕ) → length old.nodes ≡ at + 1 → flat_statement at value ≡ head ∷ inner

abbrev pub Values : Result Node ScriptFault → Reads Statement → (old new : Drafted) → Type 0
Values (Ok head) read old new = HasValue read head old new
Values (Err f) read old new = Fails f (read (made_of old))

-- the node of a form was opened, behind the other nodes
pub record HasOpened (read : Makes) (old new : Drafted) : Type 0 where
  pub gives : read (made_of old) ≡ Ok (tt, made_of new)
  pub grows : new.nodes ≡ old.nodes ++ node.End ∷ []

abbrev pub Opened : {X : Type 0} → Result X ScriptFault → Makes → (old new : Drafted) → Type 0
Opened (Ok x) read old new = HasOpened read old new
Opened (Err f) read old new = Fails f (read (made_of old))

-- the word that a list begins with
abbrev pub list_word : Tree → List ℕ
list_word (Branch at (And (Word place word) items)) = word
list_word tree = []

-- the tree is a list that begins this form, or none that begins a form
abbrev pub Comes : Option Form → Tree → Type 0
Comes (Some it) tree = (is_some (form_at tree) ≡ true) × (form_of (list_word tree) ≡ Some (form_seen (list_word tree) it))
Comes None tree = is_some (form_at tree) ≡ true → form_of (list_word tree) ≡ None
