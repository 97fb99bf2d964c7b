-- The statement that begins at a number, and the kinds of nodes by what their statements come to.
use Rattle.std.specs.Prelude.{◌≡◌, ℕ, Bool, true, false, List, Some, slice_get}
use Rattle.spec_script.specs.Syntax as syntax
use Rattle.spec_script.specs.Syntax.{Statement, Statements, Done, Then}
use Rattle.script_code.specs.Standing.{statements_at}
use Rattle.script_forms.specs.declared.node.Node.{Node}
use Rattle.script_forms.specs.declared.node.Node.TheVariants as node

-- the first of some statements; where there is none, a call that does nothing
abbrev pub first_statement : Statements → Statement
first_statement Done = syntax.Yield
first_statement (Then it rest) = it

abbrev pub statement_at : List Node → (number : ℕ) → Statement
statement_at nodes number = first_statement (statements_at nodes number)

-- the node at a number is of a kind
abbrev pub IsOfKind : (Node → Bool) → List Node → (number : ℕ) → Type 0
IsOfKind kind nodes number = (it : Node) → slice_get nodes number ≡ Some it → kind it ≡ true

-- whether a node begins a statement that calls with no operand to be evaluated and no block
abbrev pub is_bare : Node → Bool
is_bare node.Yield = true
is_bare node.Check = true
is_bare node.AwaitCancel = true
is_bare node.Now = true
is_bare (node.Cancel context text) = true
is_bare (node.Fail switch text) = true
is_bare (node.OnObject call object) = true
is_bare (node.OnReader call reader) = true
is_bare (node.Copy from to) = true
is_bare other = false

-- whether a node begins a statement whose call goes into its block
abbrev pub has_own_block : Node → Bool
has_own_block (node.Sub n after) = true
has_own_block (node.Protect n after) = true
has_own_block (node.Switch n after) = true
has_own_block (node.BufRead flow limit n after) = true
has_own_block (node.BufWrite flow n after) = true
has_own_block other = false

-- whether a node begins a statement whose call hands a block on
abbrev pub hands_on : Node → Bool
hands_on (node.Fork forking switch n after) = true
hands_on (node.OnRelease switch n after) = true
hands_on (node.Submit executor weight captured n after) = true
hands_on other = false

-- whether a node begins a statement with branches
abbrev pub is_group : Node → Bool
is_group (node.Branches group numbers after) = true
is_group other = false

-- whether a node begins a statement that goes into a block with nothing evaluated before
abbrev pub has_marks : Node → Bool
has_marks (node.Try n m after) = true
has_marks (node.Loop n after) = true
has_marks (node.UseRw mutex n after) = true
has_marks (node.UsePool pool n after) = true
has_marks other = false

-- whether a node begins a statement that calls with operands
abbrev pub has_operands : Node → Bool
has_operands (node.Trace count) = true
has_operands (node.OnObjectWith call object) = true
has_operands node.Sleep = true
has_operands (node.TakeBytes reader) = true
has_operands (node.Put writer) = true
has_operands other = false

-- whether a node begins a statement that calls with a path
abbrev pub is_of_path : Node → Bool
is_of_path (node.OpenDir directory n after) = true
is_of_path (node.OnPath call directory) = true
is_of_path (node.Save only_new directory) = true
is_of_path other = false

-- whether a node begins a statement of another kind: one that names or gives a value, branches, raises or repeats
abbrev pub is_silent : Node → Bool
is_silent node.Let = true
is_silent node.LetForm = true
is_silent (node.If n m after) = true
is_silent node.Give = true
is_silent (node.Raise text) = true
is_silent (node.Repeat n after) = true
is_silent other = false
