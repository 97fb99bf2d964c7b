use Rattle.script_draft.proofs.Cursors.{open_passed}
use Rattle.script_draft.proofs.cursor.Cursor.open.Goals as goal

pub returns : goal.returns
returns c = open_passed c.args.self.now c.pass.new.self _ c.in_ok-at.ensures c.pass.ensures
