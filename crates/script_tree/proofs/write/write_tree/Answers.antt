use Rattle.std.proofs.Common.{◌≤◌, ◌+◌, length, vec_len, vec_capacity}
use Rattle.spec_script.specs.Canonical.{document}
use Rattle.script_tree.proofs.Spelled.{document_is, document_pushed}
use Rattle.script_tree.proofs.write.write_tree.Goals as goal

pub returns-else-is_err-clause-ok : goal.returns-else-is_err-clause-ok
returns-else-is_err-clause-ok c =
    document_pushed c.push_document-written.result c.args.out.now.items c.push_document-written.new.out.items c.args.tree.now _ c.nodes.ensures c.push_document-written.ensures.ok

pub returns-then-is_err-clause-room : goal.returns-then-is_err-clause-room
returns-then-is_err-clause-room c =
    λ (room : vec_len c.args.out.now + length (document c.args.tree.now) ≤ vec_capacity c.args.out.now).
    c.push_document-written.ensures.room (rw (document_is c.args.tree.now _ c.nodes.ensures) room)
