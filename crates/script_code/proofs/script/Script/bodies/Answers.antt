use Rattle.std.proofs.Common.{rules, ◌<◌, ◌≤◌, ◌^◌, List, length, ap, ◌∙◌, subst, arith}
use Rattle.std.proofs.lemmas.Grind.{common_steps}
use Rattle.std.proofs.lemmas.List.{length-map}
use Rattle.script_forms.specs.Flat.{number_of, nodes_of}
use Rattle.script_code.specs.ScriptInside.{view_of}
use Rattle.script_forms.specs.declared.node.Node.{Node}
use Rattle.script_code.proofs.ScriptNumbers.{bodies_fit, script_has_numbers}
use Rattle.script_code.proofs.script.Script.bodies.Goals as goal

-- src/script.rt:125:9
pub overflow_cast-result : goal.overflow_cast-result
overflow_cast-result c =
    let whole = c.self.invariant in
    let few = (script_has_numbers c.self.inside.tree (view_of c.self.inside) whole.read).few in
    let fit = (bodies_fit c.self.inside.version).1 in
    let count = c.len.ensures in
    let numbers = ap length whole.bodies ∙ length-map (view_of c.self.inside).bodies number_of in
    let less : length c.self.inside.bodies.items < 256 = omega (arith, few, fit, numbers) in
    first_of (search (rules, less, count), grind (arith, common_steps))

pub returns-clause-few : goal.returns-clause-few
returns-clause-few c = subst (λ (nodes : List Node). length nodes < 2 ^ 32) (c.self.invariant.nodes ∙ ap nodes_of c.self.view_is) c.self.invariant.few
