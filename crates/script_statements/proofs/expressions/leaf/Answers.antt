use Rattle.std.proofs.Common.{◌≡◌, w64, rules}
use mir.Val.{to_z, of_z}
use Rattle.std.proofs.lemmas.Result.{err_from_is_err_and}
use Rattle.script_draft.specs.Ahead.{tree_ahead}
use Rattle.script_draft.specs.Drafts.{made_of}
use Rattle.script_draft.proofs.Cursors.{number_passed, text_passed}
use Rattle.script_statements.proofs.ExpressionsRead.{number_grown, text_grown, variable_grown, variable_fails}
use Rattle.script_statements.proofs.expressions.leaf.Goals as goal

pub returns-in-Some-clause-past : goal.returns-in-Some-clause-past
returns-in-Some-clause-past c = number_passed c.args.cursor.now c.pass.new.self _ c.requires.tree c.in-Some.ensures c.pass.ensures

pub returns-in-Some-clause-reads : goal.returns-in-Some-clause-reads
returns-in-Some-clause-reads c =
    let same : to_z w64 (of_z w64 c.in-Some.number.number) ≡ c.in-Some.number.number = search rules in
    number_grown c.args.scope.now (tree_ahead c.args.cursor.now) _ _ c.args.draft.now c.push.new.self c.in-Some.ensures (rw same at c.in_ok-push.ensures)

pub returns-in-Some-text_ahead-clause-past : goal.returns-in-Some-text_ahead-clause-past
returns-in-Some-text_ahead-clause-past c = text_passed c.args.cursor.now c.pass-in-Some-text_ahead.new.self _ c.requires.tree c.in-Some-text_ahead.ensures c.pass-in-Some-text_ahead.ensures

pub returns-in-Some-text_ahead-clause-reads : goal.returns-in-Some-text_ahead-clause-reads
returns-in-Some-text_ahead-clause-reads c = text_grown c.args.scope.now (tree_ahead c.args.cursor.now) _ _ _ c.args.draft.now c.text.new.self c.push-in-Some-text_ahead.new.self c.in-Some-text_ahead.ensures c.in_ok-id.ensures.number c.in_ok-id.ensures.table c.in_ok-push-2.ensures

pub returns-in_err-slot-clause-reads : goal.returns-in_err-slot-clause-reads
returns-in_err-slot-clause-reads c =
    let p = err_from_is_err_and c.from_residual-in_err-slot.result c.from_residual-in_err-slot.ensures.1 in
    rw (p.1, p.2) (variable_fails c.args.scope.now (tree_ahead c.args.cursor.now) _ (made_of c.args.draft.now) c.in_default.ensures c.in_default-text_ahead.ensures c.requires.leaf c.in_err-slot.ensures.reads)

pub returns-clause-reads : goal.returns-clause-reads
returns-clause-reads c = variable_grown c.args.scope.now (tree_ahead c.args.cursor.now) c.in_ok-slot.slot c.args.draft.now c.push-2.new.self c.in_default.ensures c.in_default-text_ahead.ensures c.requires.leaf c.in_ok-slot.ensures.reads c.in_ok-push-3.ensures
