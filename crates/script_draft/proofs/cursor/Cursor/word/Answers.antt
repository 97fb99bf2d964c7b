use Rattle.script_draft.proofs.Cursors.{word_passed}
use Rattle.script_draft.proofs.cursor.Cursor.word.Goals as goal

pub returns-clause-past : goal.returns-clause-past
returns-clause-past c = word_passed c.args.self.now c.pass.new.self _ c.requires c.in-Some.ensures c.pass.ensures
