use Rattle.std.proofs.Common.{sym, ◌∙◌}
use Rattle.script_statements.proofs.StatementsRead.{trace_ahead, trace_empty}
use Rattle.script_statements.proofs.statements.trace_feature.Goals as goal

pub returns-then-not-has_tree : goal.returns-then-not-has_tree
returns-then-not-has_tree c = trace_empty c.args.cursor.now (sym c.has_tree.ensures ∙ c.if-not-has_tree.true)

pub returns-then-are_texts : goal.returns-then-are_texts
returns-then-are_texts c = trace_ahead c.args.cursor.now _ (sym c.has_tree.ensures ∙ c.if-not-has_tree.false) (sym c.are_texts.ensures ∙ c.if-are_texts.true)

pub returns-else-are_texts : goal.returns-else-are_texts
returns-else-are_texts c = trace_ahead c.args.cursor.now _ (sym c.has_tree.ensures ∙ c.if-not-has_tree.false) (sym c.are_texts.ensures ∙ c.if-are_texts.false)
