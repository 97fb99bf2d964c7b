use Rattle.script_draft.proofs.Cursors.{enter_passed}
use Rattle.script_draft.proofs.cursor.Cursor.enter.Goals as goal

pub returns : goal.returns
returns c = enter_passed c.args.self.now c.pass.new.self c.pass-2.new.self _ _ c.in_ok-head.ensures c.pass.ensures c.pass-2.ensures
