use Rattle.std.proofs.Common.{sym, ◌∙◌}
use Rattle.script_lang.proofs.ScriptsRead.{count_goes, count_ends}
use Rattle.script_lang.proofs.reader.count_domains.Goals as goal

pub loop-cursor-preserved : goal.loop-cursor-preserved
loop-cursor-preserved c = count_goes _ _ _ _ _ (sym c.has_tree.ensures ∙ c.loop-cursor-test.true) c.skip.ensures c.in_ok-count.ensures.count c.loop-cursor.invariant

pub returns-clause-count : goal.returns-clause-count
returns-clause-count c = count_ends _ _ _ (sym c.has_tree.ensures ∙ c.loop-cursor-test.false) c.loop-cursor.invariant
