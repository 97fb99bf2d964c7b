use Rattle.script_draft.proofs.Cursors.{end_passed}
use Rattle.script_draft.proofs.cursor.Cursor.close.Goals as goal

pub returns : goal.returns
returns c = end_passed c.args.self.now c.pass.new.self c.requires c.pass.ensures
