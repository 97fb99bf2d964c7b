use Rattle.script_draft.proofs.Within.{within_here, within_past}
use Rattle.script_lang.proofs.ScriptsRead.{leaf_skipped}
use Rattle.script_lang.proofs.reader.+skip.Goals as goal

pub loop-cursor-init : goal.loop-cursor-init
loop-cursor-init t c = within_here _

pub loop-cursor-preserved : goal.loop-cursor-preserved
loop-cursor-preserved t c = within_past _ _ _ c.loop-cursor.invariant c.skip.ensures

pub returns-then-is_none : goal.returns-then-is_none
returns-then-is_none t c = leaf_skipped c.open.result c.is_none.result c.args.cursor.now c.open.new.self c.pass.new.self c.requires c.open.ensures c.is_none.ensures c.if-is_none.true c.pass.ensures
