use Rattle.std.proofs.Common.{◌≡◌, refl, ap, ◌∙◌}
use Rattle.spec_script.specs.Scripts.{body_scope}
use Rattle.script_draft.specs.Ahead.{tree_ahead}
use Rattle.script_declarations.specs.DeclarationsRead.{declared_of, is_main}
use Rattle.script_lang.proofs.reader.bodies_behind.Goals as goal

pub read_bodies-requires : goal.read_bodies-requires
read_bodies-requires c = ap (λ ps. is_main (tree_ahead ps)) c.again-rest.ensures ∙ c.requires

pub returns : goal.returns
returns c =
    let scope : c.new-scope.result ≡ body_scope (declared_of c.args.declared.now) = rw (c.new-scope.ensures, c.deref.ensures.value) refl in
    rw c.again-rest.ensures at (c.read_bodies.ensures (declared_of c.args.declared.now) scope)
