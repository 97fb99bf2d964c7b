use Rattle.script_draft.specs.Ahead.{tree_ahead}
use Rattle.script_declarations.specs.DeclarationsRead.{declared_of}
use Rattle.script_draft.specs.Drafts.{made_of}
use Rattle.script_declarations.proofs.DeclarationsRead.{no_declaration}
use Rattle.script_declarations.proofs.declarations.declaration.Goals as goal

pub returns-in-None-clause-reads : goal.returns-in-None-clause-reads
returns-in-None-clause-reads c = rw c.place-at.ensures (no_declaration c.args.limits c.args.bodies (declared_of c.args.declared.now) (tree_ahead c.args.cursor.now) (made_of c.args.draft.now) c.in-None.ensures.0)
