use Rattle.std.proofs.Common.{◌<◌, ◌^◌, List, length, ap, ◌∙◌, subst}
use Rattle.script_forms.specs.Flat.{nodes_of}
use Rattle.script_code.specs.Numbered.{HasNumbers}
use Rattle.script_code.specs.ScriptInside.{view_of}
use Rattle.script_forms.specs.declared.node.Node.{Node}
use Rattle.script_code.proofs.NodeTexts.{node_has_text}
use Rattle.script_code.proofs.NodesGoOn.{node_goes_on}
use Rattle.script_code.proofs.NodesStand.{node_stands, seen_at}
use Rattle.script_code.proofs.ScriptNumbers.{script_has_numbers}
use Rattle.script_code.specs.Texted.{HasBodyTexts}
use Rattle.script_code.proofs.TextsRead.{script_has_texts}
use Rattle.script_code.proofs.script.Script.node.Goals as goal

-- src/script.rt:138:5
pub returns-clause-stands : goal.returns-clause-stands
returns-clause-stands c =
    let has = subst HasNumbers c.self.view_is (script_has_numbers c.self.inside.tree (view_of c.self.inside) c.self.invariant.read) in
    let same = c.self.invariant.nodes ∙ ap nodes_of c.self.view_is in
    node_stands c.args.self.now has c.args.number c.index.result.now
    (seen_at c.self.inside.nodes.items (nodes_of c.args.self.now) c.args.number c.index.result.now same c.requires c.index.ensures)

pub returns-clause-text : goal.returns-clause-text
returns-clause-text c =
    let has = subst HasBodyTexts c.self.view_is (script_has_texts c.self.inside.tree (view_of c.self.inside) c.self.invariant.read).bodies in
    let same = c.self.invariant.nodes ∙ ap nodes_of c.self.view_is in
    node_has_text c.args.self.now has c.args.number c.index.result.now
    (seen_at c.self.inside.nodes.items (nodes_of c.args.self.now) c.args.number c.index.result.now same c.requires c.index.ensures)

pub returns-clause-goes_on : goal.returns-clause-goes_on
returns-clause-goes_on c =
    let has = subst HasNumbers c.self.view_is (script_has_numbers c.self.inside.tree (view_of c.self.inside) c.self.invariant.read) in
    let same = c.self.invariant.nodes ∙ ap nodes_of c.self.view_is in
    node_goes_on c.args.self.now has c.args.number c.index.result.now
    (seen_at c.self.inside.nodes.items (nodes_of c.args.self.now) c.args.number c.index.result.now same c.requires c.index.ensures)

pub returns-clause-few : goal.returns-clause-few
returns-clause-few c = subst (λ (nodes : List Node). length nodes < 2 ^ 32) (c.self.invariant.nodes ∙ ap nodes_of c.self.view_is) c.self.invariant.few
