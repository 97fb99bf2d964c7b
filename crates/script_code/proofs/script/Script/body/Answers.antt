use Rattle.std.proofs.Common.{ℕ, ◌<◌, map, sym, ap, ◌∙◌, subst}
use Rattle.std.proofs.lemmas.List.{length-map}
use Rattle.spec_script.specs.Scripts.{Script}
use Rattle.script_forms.specs.Flat.{number_of, nodes_of}
use Rattle.script_code.specs.Standing.{statements_at}
use Rattle.script_code.specs.Numbered.{HasNumbers}
use Rattle.script_code.specs.ScriptInside.{view_of}
use Rattle.script_code.proofs.NodesGoOn.{body_is_node}
use Rattle.script_code.proofs.NodesStand.{body_begins, seen_at}
use Rattle.script_code.proofs.ScriptNumbers.{script_has_numbers}
use Rattle.script_code.proofs.script.Script.body.Goals as goal

-- src/script.rt:130:5
pub returns-clause-body : goal.returns-clause-body
returns-clause-body c =
    let script = c.args.self.now in
    let has = subst HasNumbers c.self.view_is (script_has_numbers c.self.inside.tree (view_of c.self.inside) c.self.invariant.read) in
    let same = c.self.invariant.bodies ∙ ap (λ (s : Script). map number_of s.bodies) c.self.view_is in
    let less = subst (λ (n : ℕ). c.args.number < n) (sym (length-map script.bodies number_of)) c.requires in
    body_begins script has c.args.number c.index.result.now (seen_at c.self.inside.bodies.items (map number_of script.bodies) c.args.number c.index.result.now same less c.index.ensures)

pub returns-clause-node : goal.returns-clause-node
returns-clause-node c =
    let script = c.args.self.now in
    let has = subst HasNumbers c.self.view_is (script_has_numbers c.self.inside.tree (view_of c.self.inside) c.self.invariant.read) in
    body_is_node script has c.args.number c.index.result.now (statements_at (nodes_of script) c.index.result.now) (returns-clause-body c)
