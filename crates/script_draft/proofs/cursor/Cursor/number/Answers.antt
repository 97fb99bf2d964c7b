use Rattle.script_draft.proofs.Cursors.{number_passed}
use Rattle.script_draft.proofs.cursor.Cursor.number.Goals as goal

pub returns-clause-past : goal.returns-clause-past
returns-clause-past c = number_passed c.args.self.now c.pass.new.self _ c.requires c.in-Some.ensures c.pass.ensures
