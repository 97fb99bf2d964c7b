use Rattle.std.proofs.Common.{◌≡◌, refl}
use Rattle.script_forms.specs.Flat.{nodes_of}
use Rattle.script_forms.specs.declared.node.Node.{Node}
use Rattle.script_forms.specs.declared.node.Node.TheVariants as node
use Rattle.fiber_step.specs.Having.{HasParts}
use Rattle.fiber_step.proofs.Parts.{has_parts, begins_within}
use Rattle.fiber_step.proofs.step.step_at.Goals as goal

pub node-requires : goal.node-requires
node-requires c = begins_within _ _ c.requires

-- a node that is none of these begins no statement
no_other : (c : goal.In_default) → (it : Node) → c.node.result.now ≡ it → HasParts (nodes_of c.args.script.now) c.args.number it → ⊥
no_other c node.End is parts = parts
no_other c (node.Number z) is parts = parts
no_other c (node.Text text) is parts = parts
no_other c (node.Variable slot) is parts = parts
no_other c node.Unit is parts = parts
no_other c (node.Operation operator) is parts = parts
no_other c node.Yield is parts = c.in_default.not-Yield is
no_other c node.Check is parts = c.in_default.not-Check is
no_other c node.AwaitCancel is parts = c.in_default.not-AwaitCancel is
no_other c node.Now is parts = c.in_default.not-Now is
no_other c (node.Cancel context text) is parts = c.in_default.not-Cancel context text is
no_other c (node.Fail switch text) is parts = c.in_default.not-Fail switch text is
no_other c (node.OnObject call object) is parts = c.in_default.not-OnObject call object is
no_other c (node.OnReader call reader) is parts = c.in_default.not-OnReader call reader is
no_other c (node.Copy from to) is parts = c.in_default.not-Copy from to is
no_other c (node.Sub n after) is parts = c.in_default.not-Sub n after is
no_other c (node.Protect n after) is parts = c.in_default.not-Protect n after is
no_other c (node.Switch n after) is parts = c.in_default.not-Switch n after is
no_other c (node.BufRead flow limit n after) is parts = c.in_default.not-BufRead flow limit n after is
no_other c (node.BufWrite flow n after) is parts = c.in_default.not-BufWrite flow n after is
no_other c (node.Fork forking switch n after) is parts = c.in_default.not-Fork forking switch n after is
no_other c (node.OnRelease switch n after) is parts = c.in_default.not-OnRelease switch n after is
no_other c (node.Submit executor weight captured n after) is parts = c.in_default.not-Submit executor weight captured n after is
no_other c (node.Branches group numbers after) is parts = c.in_default.not-Branches group numbers after is
no_other c (node.Try n m after) is parts = c.in_default.not-Try n m after is
no_other c (node.Loop n after) is parts = c.in_default.not-Loop n after is
no_other c (node.UseRw mutex n after) is parts = c.in_default.not-UseRw mutex n after is
no_other c (node.UsePool pool n after) is parts = c.in_default.not-UsePool pool n after is
no_other c (node.Trace count) is parts = c.in_default.not-Trace count is
no_other c (node.OnObjectWith call object) is parts = c.in_default.not-OnObjectWith call object is
no_other c node.Sleep is parts = c.in_default.not-Sleep is
no_other c (node.TakeBytes reader) is parts = c.in_default.not-TakeBytes reader is
no_other c (node.Put writer) is parts = c.in_default.not-Put writer is
no_other c (node.OpenDir directory n after) is parts = c.in_default.not-OpenDir directory n after is
no_other c (node.OnPath call directory) is parts = c.in_default.not-OnPath call directory is
no_other c (node.Save only_new directory) is parts = c.in_default.not-Save only_new directory is
no_other c node.Let is parts = c.in_default.not-Let is
no_other c node.LetForm is parts = c.in_default.not-LetForm is
no_other c (node.If n m after) is parts = c.in_default.not-If n m after is
no_other c node.Give is parts = c.in_default.not-Give is
no_other c (node.Raise text) is parts = c.in_default.not-Raise text is
no_other c (node.Repeat n after) is parts = c.in_default.not-Repeat n after is

pub unreachable-requires : goal.unreachable-requires
unreachable-requires c = no_other c c.node.result.now refl (has_parts _ _ _ c.requires c.node.ensures.node)

pub returns-in-Sub : goal.returns-in-Sub
returns-in-Sub c = c.call_with_block.ensures c.args.variables.now

pub returns-in-Branches : goal.returns-in-Branches
returns-in-Branches c = c.branching.ensures c.args.variables.now

pub returns-in-Try : goal.returns-in-Try
returns-in-Try c = c.block_at_once.ensures c.args.variables.now
