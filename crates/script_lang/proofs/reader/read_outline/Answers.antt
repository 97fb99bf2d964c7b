use Rattle.std.proofs.Common.{refl}
use Rattle.std.proofs.lemmas.Result.{err_from_is_err_and}
use Rattle.spec_script.specs.Scripts.{script_by}
use Rattle.script_declarations.specs.DeclarationsRead.{declared_of}
use Rattle.script_draft.specs.Drafts.{made_of}
use Rattle.script_lang.proofs.ScriptsWhole.{root_here, tree_here, parts_here, main_here, declarations_fail, bodies_stop, script_read, nodes_read}
use Rattle.script_lang.proofs.reader.read_outline.Goals as goal

pub root-requires : goal.root-requires
root-requires c = root_here c.new-cursor.result _ c.args.tree.now c.new-cursor.ensures c.nodes.ensures

pub returns-in_err-found-clause-fault : goal.returns-in_err-found-clause-fault
returns-in_err-found-clause-fault c =
    let p = err_from_is_err_and c.from_residual.result c.from_residual.ensures.1 in
    let here = tree_here c.new-cursor.result _ c.args.tree.now c.new-cursor.ensures c.nodes.ensures in
    rw (p.1, p.2) (rw here at c.in_err-found.ensures)

pub returns-in_err-declared-clause-fault : goal.returns-in_err-declared-clause-fault
returns-in_err-declared-clause-fault c =
    let p = err_from_is_err_and c.from_residual-in_err-declared.result c.from_residual-in_err-declared.ensures.1 in
    let here = tree_here c.new-cursor.result _ c.args.tree.now c.new-cursor.ensures c.nodes.ensures in
    let root = rw here at c.in_ok-found.ensures in
    rw (p.1, p.2) (declarations_fail c.args.tree.now c.root.new.cursor c.in_ok-found.found.version c.in_ok-found.found.bodies c.limits_of-limits.result c.args.draft.now _ root c.limits_of-limits.ensures c.requires c.in_err-declared.ensures.reads)

pub bodies_behind-requires : goal.bodies_behind-requires
bodies_behind-requires c =
    let here = tree_here c.new-cursor.result _ c.args.tree.now c.new-cursor.ensures c.nodes.ensures in
    let root = rw here at c.in_ok-found.ensures in
    main_here c.root.new.cursor c.declarations.new.cursor c.declarations.new.cursor root.parts root.is c.in_ok-declared.ensures.end refl

pub returns-in_err-bodies-clause-fault : goal.returns-in_err-bodies-clause-fault
returns-in_err-bodies-clause-fault c =
    let p = err_from_is_err_and c.from_residual-in_err-bodies.result c.from_residual-in_err-bodies.ensures.1 in
    let here = tree_here c.new-cursor.result _ c.args.tree.now c.new-cursor.ensures c.nodes.ensures in
    let root = rw here at c.in_ok-found.ensures in
    let row = parts_here c.root.new.cursor c.declarations.new.cursor c.declarations.new.cursor root.parts root.is c.in_ok-declared.ensures.end refl in
    let stops = c.in_err-bodies.ensures root.parts.main root.parts.behind row in
    rw (p.1, p.2) (bodies_stop c.args.tree.now c.root.new.cursor c.in_ok-found.found.version c.in_ok-found.found.bodies c.limits_of-limits.result c.args.draft.now c.declarations.new.draft (declared_of c.in_ok-declared.declared) _ root c.limits_of-limits.ensures c.requires c.in_ok-declared.ensures.reads.0 stops)

pub returns-clause-tree : goal.returns-clause-tree
returns-clause-tree c = rw c.in_ok-outline_of.ensures refl

pub returns-clause-read : goal.returns-clause-read
returns-clause-read c =
    let here = tree_here c.new-cursor.result _ c.args.tree.now c.new-cursor.ensures c.nodes.ensures in
    let root = rw here at c.in_ok-found.ensures in
    let row = parts_here c.root.new.cursor c.declarations.new.cursor c.declarations.new.cursor root.parts root.is c.in_ok-declared.ensures.end refl in
    let bodies = c.in_ok-bodies.ensures root.parts.main root.parts.behind row in
    let read = script_read c.args.tree.now c.root.new.cursor c.in_ok-found.found.version c.in_ok-found.found.bodies c.limits_of-limits.result c.args.draft.now c.declarations.new.draft c.bodies_behind.new.draft (declared_of c.in_ok-declared.declared) _ root c.limits_of-limits.ensures c.requires c.in_ok-declared.ensures.reads.0 bodies.0 in
    rw c.in_ok-outline_of.ensures (record {
      script = script_by c.in_ok-found.found.version root.parts (declared_of c.in_ok-declared.declared) bodies.0.blocks (made_of c.bodies_behind.new.draft);
      is = record {
        read = read;
        version = refl;
        names = refl;
        declarations = refl;
        bodies = bodies.0.named;
        nodes = nodes_read _ _ c.args.draft.now c.declarations.new.draft c.bodies_behind.new.draft c.requires c.in_ok-declared.ensures.reads.1 bodies.0;
        texts = refl;
        failures = refl;
        formed = refl;
        first_domain = bodies.1;
      };
    })
