use Rattle.script_draft.proofs.Cursors.{text_passed}
use Rattle.script_draft.proofs.cursor.Cursor.text.Goals as goal

pub returns-clause-past : goal.returns-clause-past
returns-clause-past c = text_passed c.args.self.now c.pass.new.self _ c.requires c.in-Some.ensures c.pass.ensures
