-- Forms whose last items are the statements of one block: what is read of them before it.
use Rattle.std.specs.Prelude.{◌≡◌, ℕ, ◌+◌, ◌≤◌, List, ◌++◌, length, Result, Ok, Err}
use Rattle.spec_script.specs.Trees.{Tree, Trees}
use Rattle.spec_script.specs.Kinds.{Kind}
use Rattle.spec_script.specs.Syntax.{Statement, Statements, Block, Begins}
use Rattle.spec_script.specs.Scopes.{Scope, bring}
use Rattle.spec_script.specs.Reads.{Made, Reads, ◌>>>◌}
use Rattle.spec_script.specs.Statements.{Stated, stated, statements, block_of}
use Rattle.script_tree.specs.Pieces.{Piece}
use Rattle.script_draft.specs.Ahead.{around}
use Rattle.script_draft.specs.Drafts.{Drafted, made_of}
use Rattle.script_forms.specs.Flat.{flat_statement, flat_statements, headed}
use Rattle.script_forms.specs.Faults.{Fails}
use Rattle.script_statements.specs.declared.bodies.BodyForm.{BodyForm}
use Rattle.script_statements.specs.declared.bodies.BodyForm.TheVariants as form
use Rattle.script_statements.specs.declared.bodies.Opened.{Opened}
use Rattle.script_forms.specs.declared.fault.ScriptFault.{ScriptFault}
use Rattle.script_forms.specs.declared.node.Forking.{Forking}
use Rattle.script_forms.specs.declared.node.Node.{Node}
use Rattle.script_forms.specs.declared.node.Node.TheVariants as node

-- the node of a form, with the number of its block and that behind all that belongs to it
abbrev pub node_of_body : BodyForm → (body after : ℕ) → Node
node_of_body form.Repeat body after = node.Repeat body after
node_of_body form.Loop body after = node.Loop body after
node_of_body form.Sub body after = node.Sub body after
node_of_body form.Protect body after = node.Protect body after
node_of_body form.Switch body after = node.Switch body after
node_of_body (form.Fork forking switch) body after = node.Fork forking switch body after
node_of_body (form.OnRelease switch) body after = node.OnRelease switch body after
node_of_body (form.UseRw mutex) body after = node.UseRw mutex body after
node_of_body (form.UsePool pool) body after = node.UsePool pool body after
node_of_body (form.Submit executor weight captured) body after = node.Submit executor weight captured body after
node_of_body (form.BufRead flow limit) body after = node.BufRead flow limit body after
node_of_body (form.BufWrite flow) body after = node.BufWrite flow body after
node_of_body (form.OpenDir directory) body after = node.OpenDir directory body after

-- what stands before the block was read; with the block's statements it makes the statement
pub record IsOpened (read : Stated) (scope : Scope) (form : BodyForm) (inner : Scope) (items : Trees) (old new : Drafted) : Type 0 where
  pub make : Block → Statement
  pub between : List Node
  pub gives : read (made_of old) ≡ (block_of (statements inner items) >>> λ body. stated scope (make body)) (made_of new)
  pub grows : new.nodes ≡ old.nodes ++ between
  pub flat : (at number : ℕ) (body : Statements) → flat_statement at (make (Begins number body)) ≡ headed at (node_of_body form number) (between ++ flat_statements (at + 1 + length between) body)

abbrev pub Opens : Result Opened ScriptFault → Stated → Scope → (items : Trees) → (old new : Drafted) → Type 0
Opens (Ok it) read scope items old new = IsOpened read scope it.form it.inner items old new
Opens (Err f) read scope items old new = Fails f (read (made_of old))

-- the names that a block sees, with one more
abbrev pub Names : Result Opened ScriptFault → Kind → Scope → Tree → Type 0
Names (Ok it) kind scope tree = (made : Made) → bring kind scope tree made ≡ Ok (it.inner, made)
Names (Err f) kind scope tree = (made : Made) → Fails f (bring kind scope tree made)

-- a fork onto the switch that was used
abbrev pub IsFork : Forking → BodyForm → (read : Reads ℕ) → Type 0
IsFork forking (form.Fork how switch) read = (how ≡ forking) × ((made : Made) → read made ≡ Ok (switch, made))
IsFork forking other read = ⊥

abbrev pub Forks : Forking → Result Opened ScriptFault → Reads ℕ → Type 0
Forks forking (Ok it) read = IsFork forking it.form read
Forks forking (Err f) read = (made : Made) → Fails f (read made)
