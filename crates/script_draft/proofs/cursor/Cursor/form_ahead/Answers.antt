use Rattle.script_draft.proofs.Cursors.{form_ahead, no_form_ahead_alone, no_form_ahead_other}
use Rattle.script_draft.proofs.cursor.Cursor.form_ahead.Goals as goal

pub returns-in_err-second : goal.returns-in_err-second
returns-in_err-second c = rw c.from_residual-in_err-second.ensures (no_form_ahead_alone c.args.self.now _ c.in_ok-at.ensures c.in_err-second.ensures)

pub returns-in_err-head : goal.returns-in_err-head
returns-in_err-head c = rw c.from_residual-in_err-head.ensures (no_form_ahead_other c.args.self.now _ _ c.in_ok-at.ensures c.in_ok-second.ensures c.in_err-head.ensures)

pub returns : goal.returns
returns c = form_ahead c.args.self.now _ _ _ _ c.in_ok-at.ensures c.in_ok-second.ensures c.in_ok-head.ensures
