use Rattle.std.proofs.Common.{sym, ◌∙◌}
use Rattle.script_lang.proofs.ScriptsRead.{nothing_first, something_first}
use Rattle.script_lang.proofs.reader.first_place.Goals as goal

pub returns-then-not-has_tree : goal.returns-then-not-has_tree
returns-then-not-has_tree c = nothing_first c.args.cursor.now (sym c.has_tree.ensures ∙ c.if-not-has_tree.true)

pub returns : goal.returns
returns c = something_first c.args.cursor.now c.place.result (sym c.has_tree.ensures ∙ c.if-not-has_tree.false) c.place.ensures
