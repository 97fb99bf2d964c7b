use Rattle.std.proofs.Common.{ap, sym, subst, arith, ◌∙◌, List}
use Rattle.std.proofs.lemmas.Result.{err_from_is_err_and}
use Rattle.spec_script.specs.Reading.{tree_at}
use Rattle.script_tree.specs.Pieces.{Piece}
use Rattle.script_tree.specs.Views.{from, Fails}
use Rattle.script_tree.specs.Growing.{grows}
use Rattle.script_tree.proofs.Wholes.{whole_reads, whole_strays, whole_pieces, whole_fails}
use Rattle.script_tree.proofs.reader.read_tree.Goals as goal

pub returns-in_err-next-clause-fault : goal.returns-in_err-next-clause-fault
returns-in_err-next-clause-fault c =
    let p = err_from_is_err_and c.from_residual.result c.from_residual.ensures.1 in
    let failed = subst (λ (ps : List Piece). Fails c.in_err-next.field-0.0 (grows ps (tree_at 64 (from c.args.bytes.now c.after_gap-begin.result)))) c.new-draft.ensures c.in_err-next.ensures.tree in
    whole_fails c.args.bytes.now c.after_gap-begin.result c.from_residual.result p.0 c.in_err-next.field-0.0 p.1 p.2 c.after_gap-begin.ensures.gap failed

pub returns-then-end-bytes-clause-fault : goal.returns-then-end-bytes-clause-fault
returns-then-end-bytes-clause-fault c =
    let read = ap (λ (ps : List Piece). grows ps (tree_at 64 (from c.args.bytes.now c.after_gap-begin.result))) (sym c.new-draft.ensures) ∙ c.in_ok-next.ensures.tree in
    whole_strays c.args.bytes.now c.after_gap-begin.result c.in_ok-next.next c.after_gap-end.result c.push_tree.new.draft c.after_gap-begin.ensures.gap read c.after_gap-end.ensures.gap c.if-end-bytes.true

pub returns-clause-ok : goal.returns-clause-ok
returns-clause-ok c =
    let read = ap (λ (ps : List Piece). grows ps (tree_at 64 (from c.args.bytes.now c.after_gap-begin.result))) (sym c.new-draft.ensures) ∙ c.in_ok-next.ensures.tree in
    rw c.into_tree.ensures (whole_reads c.args.bytes.now c.after_gap-begin.result c.in_ok-next.next c.after_gap-end.result c.push_tree.new.draft c.after_gap-begin.ensures.gap read c.after_gap-end.ensures.gap (omega arith))

pub into_tree-requires : goal.into_tree-requires
into_tree-requires c =
    let read = ap (λ (ps : List Piece). grows ps (tree_at 64 (from c.args.bytes.now c.after_gap-begin.result))) (sym c.new-draft.ensures) ∙ c.in_ok-next.ensures.tree in
    whole_pieces c.args.bytes.now c.after_gap-begin.result c.in_ok-next.next c.push_tree.new.draft read
