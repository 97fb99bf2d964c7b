use Rattle.std.proofs.Common.{sym, ◌∙◌}
use Rattle.script_lang.proofs.ScriptsRead.{named_none, named_some}
use Rattle.script_lang.proofs.reader.bodies_named.Goals as goal

pub returns-then-not-has_tree : goal.returns-then-not-has_tree
returns-then-not-has_tree c = named_none c.args.cursor.now c.again-look.result c.find_main.new.cursor c.again-look.ensures c.find_main.ensures (sym c.has_tree.ensures ∙ c.if-not-has_tree.true)

pub returns : goal.returns
returns c = named_some c.args.cursor.now c.again-look.result c.find_main.new.cursor c.skip.new.cursor _ c.again-look.ensures c.find_main.ensures (sym c.has_tree.ensures ∙ c.if-not-has_tree.false) c.skip.ensures c.in_ok-count_domains.ensures.count
