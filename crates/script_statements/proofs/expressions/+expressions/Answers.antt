use Rattle.std.proofs.Common.{sym}
use Rattle.script_draft.specs.Ahead.{ahead, tree_ahead}
use Rattle.script_draft.specs.Drafts.{made_of}
use Rattle.script_statements.proofs.ExpressionsRead.{item_enters, item_list, item_full, operation_unknown, operation_misfit, operation_full, unit_read, operator_read, operands_grown}
use Rattle.script_statements.proofs.expressions.+expressions.Goals as goal

pub item-returns-in-Some-clause-reads : goal.item-returns-in-Some-clause-reads
item-returns-in-Some-clause-reads t c =
    rw (item_enters c.args.scope.now c.args.full c.in-Some.head.at c.in-Some.head.word.now c.args.cursor.now c.enter.new.self c.in-Some.ensures) c.operation.ensures.reads

pub item-returns-in-Some-list_ahead-clause-reads : goal.item-returns-in-Some-list_ahead-clause-reads
item-returns-in-Some-list_ahead-clause-reads t c =
    item_list c.args.scope.now c.args.full (tree_ahead c.args.cursor.now) c.in-Some-list_ahead.at (made_of c.args.draft.now) c.in_default.ensures.0 (rw c.in_default.ensures.1 at c.in-Some-list_ahead.ensures)

pub item-returns-then-full-clause-reads : goal.item-returns-then-full-clause-reads
item-returns-then-full-clause-reads t c =
    rw (c.place.ensures, c.in_default.ensures.1) (item_full c.args.scope.now c.args.full (tree_ahead c.args.cursor.now) (made_of c.args.draft.now) (sym (rw c.in_default.ensures.1 at c.in_default-list_ahead.ensures)) c.if-full.true)

pub operands-returns-clause-reads : goal.operands-returns-clause-reads
operands-returns-clause-reads t c =
    operands_grown c.args.scope.now c.args.operator c.args.cursor.now c.item.new.cursor c.item-2.new.cursor c.args.draft.now c.push.new.self c.item.new.draft c.item-2.new.draft c.requires c.in_ok-item.ensures.past c.in_ok-item-2.ensures.past c.in_ok-push.ensures c.in_ok-item.ensures.reads c.in_ok-item-2.ensures.reads

pub operation-returns-in_default-clause-reads : goal.operation-returns-in_default-clause-reads
operation-returns-in_default-clause-reads t c = operation_unknown c.args.scope.now c.args.full c.args.head.now.at c.args.head.now.word.now (ahead c.args.cursor.now) (made_of c.args.draft.now) c.in_default.ensures

pub operation-returns-then-count-operand_count-clause-reads : goal.operation-returns-then-count-operand_count-clause-reads
operation-returns-then-count-operand_count-clause-reads t c = operation_misfit c.args.scope.now c.args.full c.args.head.now.at c.count.result c.operand_count.result c.args.head.now.word.now c.in-Some.it (ahead c.args.cursor.now) (made_of c.args.draft.now) c.in-Some.ensures c.count.ensures c.operand_count.ensures c.if-count-operand_count.true

pub operation-returns-then-full-clause-reads : goal.operation-returns-then-full-clause-reads
operation-returns-then-full-clause-reads t c = operation_full c.args.scope.now c.args.full c.args.head.now.at c.count.result c.operand_count.result c.args.head.now.word.now c.in-Some.it (ahead c.args.cursor.now) (made_of c.args.draft.now) c.in-Some.ensures c.count.ensures c.operand_count.ensures c.if-count-operand_count.false c.if-full.true

pub operation-returns-in-Unit-clause-reads : goal.operation-returns-in-Unit-clause-reads
operation-returns-in-Unit-clause-reads t c =
    unit_read c.args.scope.now c.args.full c.args.head.now.at c.count.result c.operand_count.result c.args.head.now.word.now c.in-Some.it (ahead c.args.cursor.now) c.args.draft.now c.form.new.self c.unit.new.draft c.unit.result c.in-Some.ensures c.in-Unit.is c.count.ensures c.operand_count.ensures c.if-count-operand_count.false c.if-full.false c.in_ok-form.ensures c.unit.ensures.node c.unit.ensures.fault

pub operation-returns-in-Operator-clause-reads : goal.operation-returns-in-Operator-clause-reads
operation-returns-in-Operator-clause-reads t c =
    operator_read c.args.scope.now c.args.full c.args.head.now.at c.count.result c.operand_count.result c.args.head.now.word.now c.in-Operator.operator c.in-Some.it (ahead c.args.cursor.now) c.args.draft.now c.form.new.self c.operands.new.draft c.operands.result c.in-Some.ensures c.in-Operator.is c.count.ensures c.operand_count.ensures c.if-count-operand_count.false c.if-full.false c.in_ok-form.ensures c.operands.ensures.reads
