use Rattle.std.proofs.Common.{◌++◌, [], ◌∷◌, Bool, false, arith, ap, sym, subst, ◌∙◌}
use Rattle.std.proofs.lemmas.Result.{err_from_is_err_and}
use Rattle.std.proofs.lemmas.Bool.{false≢true}
use Rattle.spec_script.specs.Trees.{Tree, Word, And}
use Rattle.spec_script.specs.Statements as model
use Rattle.script_draft.specs.Ahead.{ahead, tree_ahead}
use Rattle.script_statements.specs.Blocks.{is_last, list_word}
use Rattle.script_draft.specs.Drafts.{made_of}
use Rattle.script_forms.specs.Heads.{head_of}
use Rattle.script_draft.specs.Readings.{States}
use Rattle.script_statements.proofs.BranchesRead.{blocks_first, blocks_next, blocks_fail, blocks_end, full_after, blocks_less, branches_fail}
use Rattle.script_statements.proofs.FormsRead.{misfit, gives_head, give_late, branches_head, let_name_fails, let_value_fails, let_read, if_test_fails, if_then_fails, if_else_fails, if_read, try_block_fails, try_name_fails, try_handler_fails, try_read, fill_less, body_read}
use Rattle.script_statements.proofs.StatementsRead.{within_all, within_past, within_behind, amid_first, amid_next, amid_fails, amid_ends, last_by_count, no_form, unknown_form, node_fails, form_read, opened_count, placed, no_block, full_block, block_read, value_of_expression, value_expression_fails, value_no_value, entered, value_node_fails, value_form_fails, value_of_form}
use Rattle.script_statements.proofs.statements.+statements.Goals as goal

-- ## Blocks

pub block-returns-in_default-clause-reads : goal.block-returns-in_default-clause-reads
block-returns-in_default-clause-reads t c =
    rw c.place-place.ensures (no_block c.args.scope.now c.args.full (tree_ahead c.args.cursor.now) (made_of c.args.draft.now) c.in_default.ensures.0)

pub block-returns-then-full-clause-reads : goal.block-returns-then-full-clause-reads
block-returns-then-full-clause-reads t c =
    full_block c.args.scope.now c.args.full c.in-Some.at c.args.cursor.now c.open.new.self (made_of c.args.draft.now) c.in-Some.ensures c.if-full.true

pub block-returns-clause-reads : goal.block-returns-clause-reads
block-returns-clause-reads t c =
    block_read c.args.scope.now c.args.full c.in-Some.at c.args.cursor.now c.open.new.self c.args.draft.now c.statements.new.draft c.statements.result c.in-Some.ensures c.if-full.false c.statements.ensures.reads

-- ## The statements of a block

pub statements-loop-cursor-init : goal.statements-loop-cursor-init
statements-loop-cursor-init t c = record { within = within_all _; amid = amid_first _ _ _ _ c.in_ok-inside.ensures }

pub statements-loop-cursor-preserved : goal.statements-loop-cursor-preserved
statements-loop-cursor-preserved t c = record {
  within = within_past _ _ _ c.loop-cursor.invariant.within c.in_ok-statement.ensures.past;
  amid = amid_next _ _ _ _ _ _ _ _ _ (sym c.has_tree.ensures ∙ c.loop-cursor-test.true) c.in_ok-statement.ensures.past c.loop-cursor.invariant.amid c.in_ok-statement.ensures.reads;
}

pub statements-returns-in_err-statement-clause-reads : goal.statements-returns-in_err-statement-clause-reads
statements-returns-in_err-statement-clause-reads t c =
    let p = err_from_is_err_and c.from_residual-in_err-statement.result c.from_residual-in_err-statement.ensures.1 in
    rw (p.1, p.2) (amid_fails _ _ _ _ _ _ _ (sym c.has_tree.ensures ∙ c.loop-cursor-test.true) c.loop-cursor.invariant.amid c.in_err-statement.ensures.reads)

pub statements-returns-clause-behind : goal.statements-returns-clause-behind
statements-returns-clause-behind t c = within_behind _ _ _ c.loop-cursor.invariant.within c.close.ensures

pub statements-returns-clause-reads : goal.statements-returns-clause-reads
statements-returns-clause-reads t c = amid_ends _ _ _ _ _ _ _ (sym c.has_tree.ensures ∙ c.loop-cursor-test.false) c.loop-cursor.invariant.amid c.in_ok-push.ensures

-- ## A statement

pub statement-returns-in_default-clause-reads : goal.statement-returns-in_default-clause-reads
statement-returns-in_default-clause-reads t c =
    rw c.place-at.ensures (no_form c.args.scope.now (is_last (ahead c.args.cursor.now)) (tree_ahead c.args.cursor.now) (made_of c.args.draft.now) c.in_default.ensures.0)

pub statement-returns-in_default-form_of-clause-reads : goal.statement-returns-in_default-form_of-clause-reads
statement-returns-in_default-form_of-clause-reads t c =
    unknown_form c.args.scope.now (is_last (ahead c.args.cursor.now)) c.place-at.result c.in-Some.word.word.now c.args.cursor.now c.enter.new.self (made_of c.args.draft.now)
    (placed c.in-Some.word.at c.place-at.result c.in-Some.word.word.now c.args.cursor.now c.enter.new.self c.place-at.ensures c.in-Some.ensures) c.in_default-form_of.ensures

pub statement-returns-in_err-opened-clause-reads : goal.statement-returns-in_err-opened-clause-reads
statement-returns-in_err-opened-clause-reads t c =
    let p = err_from_is_err_and c.from_residual.result c.from_residual.ensures.1 in
    rw (p.1, p.2) (node_fails c.args.scope.now (is_last (ahead c.args.cursor.now)) c.place-at.result c.in-Some.word.word.now c.in-Some-form_of.it c.args.cursor.now c.enter.new.self _ (made_of c.args.draft.now)
    (placed c.in-Some.word.at c.place-at.result c.in-Some.word.word.now c.args.cursor.now c.enter.new.self c.place-at.ensures c.in-Some.ensures) c.in-Some-form_of.ensures (c.in_err-opened.ensures.reads c.in-Some.word.word.now))

pub statement-form-requires : goal.statement-form-requires
statement-form-requires t c = let less = c.in-Some.ensures.fewer in (omega (arith, less), opened_count c.args.draft.now c.form_node.new.draft c.in_ok-opened.opened c.in_ok-opened.ensures.place (c.in_ok-opened.ensures.reads c.in-Some.word.word.now).grows)

pub statement-returns-clause-reads : goal.statement-returns-clause-reads
statement-returns-clause-reads t c =
    form_read c.args.scope.now (is_last (ahead c.args.cursor.now)) c.place-at.result c.in-Some.word.word.now c.in-Some-form_of.it c.args.cursor.now c.enter.new.self c.form.new.scope c.in_ok-opened.opened c.args.draft.now c.form_node.new.draft c.form.new.draft c.form.result
    (placed c.in-Some.word.at c.place-at.result c.in-Some.word.word.now c.args.cursor.now c.enter.new.self c.place-at.ensures c.in-Some.ensures) c.in-Some-form_of.ensures c.in_ok-opened.ensures.place (c.in_ok-opened.ensures.reads c.in-Some.word.word.now)
    (subst (λ (b : Bool). (place : Tree) → States c.form.result (model.form c.args.scope.now b c.place-at.result (head_of c.in-Some-form_of.it.head) (And place (ahead c.enter.new.self))) c.form.new.scope c.in_ok-opened.opened c.form_node.new.draft c.form.new.draft) (last_by_count (ahead c.args.cursor.now) c.count-is_last.result c.count-is_last.ensures) c.form.ensures.reads)

-- ## Forms

pub form-returns-then-not-is_fitting-clause-reads : goal.form-returns-then-not-is_fitting-clause-reads
form-returns-then-not-is_fitting-clause-reads t c = λ word.
    misfit c.args.scope.now c.args.is_last c.args.at c.args.head word (ahead c.args.cursor.now) (made_of c.args.draft.now) (λ fits. false≢true (sym c.if-not-is_fitting.true ∙ c.is_fitting.ensures.1 fits))

pub form-returns-then-not-is_last-clause-reads : goal.form-returns-then-not-is_last-clause-reads
form-returns-then-not-is_last-clause-reads t c = λ word.
    let head = gives_head c.args.head (sym c.shape_of.ensures ∙ c.in-Give.is) in
    let fits = c.is_fitting.ensures.0 c.if-not-is_fitting.false in
    rw (head, c.if-not-is_last.true) (give_late c.args.scope.now c.args.at word (ahead c.args.cursor.now) (made_of c.args.draft.now) (rw head at fits))

pub form-returns-in-Branches-clause-reads : goal.form-returns-in-Branches-clause-reads
form-returns-in-Branches-clause-reads t c = λ word.
    rw (branches_head c.args.scope.now c.args.is_last c.args.at c.args.head c.in-Branches.group word (ahead c.args.cursor.now) (sym c.shape_of.ensures ∙ c.in-Branches.is) (c.is_fitting.ensures.0 c.if-not-is_fitting.false)) c.branches_form.ensures.reads

-- ## `let`

pub let_form-returns-in_err-bring-clause-reads : goal.let_form-returns-in_err-bring-clause-reads
let_form-returns-in_err-bring-clause-reads t c =
    let p = err_from_is_err_and c.from_residual-in_err-bring.result c.from_residual-in_err-bring.ensures.1 in
    rw (p.1, p.2) (λ last at word. let_name_fails c.args.scope.now last at word c.args.cursor.now (made_of c.args.draft.now) _ c.requires.items (rw c.in_ok-behind.ensures at (c.in_err-bring.ensures.reads (made_of c.args.draft.now))))

pub let_form-returns-in_err-node-clause-reads : goal.let_form-returns-in_err-node-clause-reads
let_form-returns-in_err-node-clause-reads t c =
    let p = err_from_is_err_and c.from_residual-in_err-node.result c.from_residual-in_err-node.ensures.1 in
    rw (p.1, p.2) (λ last at word. let_value_fails c.args.scope.now c.bring.new.self last at word c.args.cursor.now c.bring.new.cursor (made_of c.args.draft.now) _ c.requires.items c.in_ok-bring.ensures.past (rw c.in_ok-behind.ensures at c.in_ok-bring.ensures.reads) c.in_err-node.ensures.reads)

pub let_form-returns-clause-reads : goal.let_form-returns-clause-reads
let_form-returns-clause-reads t c = λ last at word.
    let_read c.args.scope.now c.bring.new.self last at word c.args.cursor.now c.bring.new.cursor c.value.new.cursor c.args.opened c.in_ok-node.node c.args.draft.now c.value.new.draft c.fill.new.self c.requires.items c.in_ok-bring.ensures.past c.in_ok-node.ensures.past c.requires.opened (rw c.in_ok-behind.ensures at c.in_ok-bring.ensures.reads) c.in_ok-node.ensures.reads c.fill.ensures

pub value-returns-in_err-item-clause-reads : goal.value-returns-in_err-item-clause-reads
value-returns-in_err-item-clause-reads t c =
    let p = err_from_is_err_and c.from_residual.result c.from_residual.ensures.1 in
    rw (p.1, p.2) (value_expression_fails c.args.scope.now (tree_ahead c.args.cursor.now) (made_of c.args.draft.now) _ c.in_default.ensures c.in_err-item.ensures.reads)

pub value-returns-in_default-clause-reads : goal.value-returns-in_default-clause-reads
value-returns-in_default-clause-reads t c = value_of_expression c.args.scope.now (tree_ahead c.args.cursor.now) c.args.draft.now c.item.new.draft c.in_default.ensures c.in_ok-item.ensures.reads

pub value-returns-then-not-it-clause-reads : goal.value-returns-then-not-it-clause-reads
value-returns-then-not-it-clause-reads t c = rw c.place-at.ensures (value_no_value c.args.scope.now (tree_ahead c.args.cursor.now) (made_of c.args.draft.now) c.in-Some.it c.in-Some.ensures c.if-not-it.true)

pub value-returns-in_err-opened-clause-reads : goal.value-returns-in_err-opened-clause-reads
value-returns-in_err-opened-clause-reads t c =
    let p = err_from_is_err_and c.from_residual-in_err-opened.result c.from_residual-in_err-opened.ensures.1 in
    rw (p.1, p.2) (value_node_fails c.args.scope.now c.args.cursor.now c.enter.new.self (made_of c.args.draft.now) c.in-Some.it _ (entered c.enter.result c.args.cursor.now c.enter.new.self c.in-Some.ensures.0 c.enter.ensures) c.in-Some.ensures.1 c.if-not-it.false (rw c.place-at.ensures at (c.in_err-opened.ensures.reads (list_word (tree_ahead c.args.cursor.now)))))

pub value-form-requires : goal.value-form-requires
value-form-requires t c = let less = (entered c.enter.result c.args.cursor.now c.enter.new.self c.in-Some.ensures.0 c.enter.ensures).fewer in (omega (arith, less), opened_count c.args.draft.now c.form_node.new.draft c.in_ok-opened.opened c.in_ok-opened.ensures.place (c.in_ok-opened.ensures.reads (list_word (tree_ahead c.args.cursor.now))).grows)

pub value-returns-in_err-form-clause-reads : goal.value-returns-in_err-form-clause-reads
value-returns-in_err-form-clause-reads t c =
    let p = err_from_is_err_and c.from_residual-in_err-form.result c.from_residual-in_err-form.ensures.1 in
    rw (p.1, p.2) (value_form_fails c.args.scope.now c.args.cursor.now c.enter.new.self c.args.draft.now c.form_node.new.draft c.in-Some.it _ (entered c.enter.result c.args.cursor.now c.enter.new.self c.in-Some.ensures.0 c.enter.ensures) c.in-Some.ensures.1 c.if-not-it.false (rw c.place-at.ensures at (c.in_ok-opened.ensures.reads (list_word (tree_ahead c.args.cursor.now)))) (rw (c.in_ok-inside.ensures, c.place-at.ensures) at c.in_err-form.ensures.reads))

pub value-returns-clause-reads : goal.value-returns-clause-reads
value-returns-clause-reads t c =
    value_of_form c.args.scope.now c.form.new.scope c.args.cursor.now c.enter.new.self c.in_ok-opened.opened c.args.draft.now c.form_node.new.draft c.form.new.draft c.in-Some.it (entered c.enter.result c.args.cursor.now c.enter.new.self c.in-Some.ensures.0 c.enter.ensures) c.in-Some.ensures.1 c.if-not-it.false c.in_ok-opened.ensures.place (rw c.place-at.ensures at (c.in_ok-opened.ensures.reads (list_word (tree_ahead c.args.cursor.now)))) (rw (c.in_ok-inside.ensures, c.place-at.ensures) at c.in_ok-form.ensures.reads)

-- ## `if`

pub if_form-returns-in_err-item-clause-reads : goal.if_form-returns-in_err-item-clause-reads
if_form-returns-in_err-item-clause-reads t c =
    let p = err_from_is_err_and c.from_residual.result c.from_residual.ensures.1 in
    rw (p.1, p.2) (λ last at word. if_test_fails c.args.scope.now last at word c.args.cursor.now (made_of c.args.draft.now) _ c.requires.items c.in_err-item.ensures.reads)

pub if_form-returns-in_err-block-clause-reads : goal.if_form-returns-in_err-block-clause-reads
if_form-returns-in_err-block-clause-reads t c =
    let p = err_from_is_err_and c.from_residual-in_err-block.result c.from_residual-in_err-block.ensures.1 in
    rw (p.1, p.2) (λ last at word. if_then_fails c.args.scope.now last at word c.args.cursor.now c.item.new.cursor c.args.draft.now c.item.new.draft _ c.requires.items c.in_ok-item.ensures.past c.in_ok-item.ensures.reads c.in_err-block.ensures.reads)

pub if_form-returns-in_err-block-2-clause-reads : goal.if_form-returns-in_err-block-2-clause-reads
if_form-returns-in_err-block-2-clause-reads t c =
    let p = err_from_is_err_and c.from_residual-in_err-block-2.result c.from_residual-in_err-block-2.ensures.1 in
    rw (p.1, p.2) (λ last at word. if_else_fails c.args.scope.now last at word c.args.cursor.now c.item.new.cursor c.block.new.cursor c.args.draft.now c.item.new.draft c.block.new.draft _ c.requires.items c.in_ok-item.ensures.past c.in_ok-block.ensures.past c.in_ok-item.ensures.reads c.in_ok-block.ensures.reads c.in_err-block-2.ensures.reads)

pub if_form-returns-clause-reads : goal.if_form-returns-clause-reads
if_form-returns-clause-reads t c = λ last at word.
    if_read c.args.scope.now last at word c.args.cursor.now c.item.new.cursor c.block.new.cursor c.block-2.new.cursor c.args.opened c.next-then_block.result c.next-else_block.result c.next-after.result c.args.draft.now c.item.new.draft c.block.new.draft c.block-2.new.draft c.fill.new.self c.requires.items c.in_ok-item.ensures.past c.in_ok-block.ensures.past c.in_ok-block-2.ensures.past c.requires.opened c.in_ok-item.ensures.reads c.in_ok-block.ensures.reads c.in_ok-block-2.ensures.reads c.next-then_block.ensures c.next-else_block.ensures c.next-after.ensures c.fill.ensures

-- ## `try`

pub try_form-returns-in_err-block-clause-reads : goal.try_form-returns-in_err-block-clause-reads
try_form-returns-in_err-block-clause-reads t c =
    let p = err_from_is_err_and c.from_residual.result c.from_residual.ensures.1 in
    rw (p.1, p.2) (λ last at word. try_block_fails c.args.scope.now last at word c.args.cursor.now (made_of c.args.draft.now) _ c.requires.items c.in_err-block.ensures.reads)

pub try_form-returns-in_err-bring-clause-reads : goal.try_form-returns-in_err-bring-clause-reads
try_form-returns-in_err-bring-clause-reads t c =
    let p = err_from_is_err_and c.from_residual-in_err-bring.result c.from_residual-in_err-bring.ensures.1 in
    rw (p.1, p.2) (λ last at word. try_name_fails c.args.scope.now last at word c.args.cursor.now c.block.new.cursor c.args.draft.now c.block.new.draft _ c.requires.items c.in_ok-block.ensures.past c.in_ok-block.ensures.reads (rw c.in_ok-inner.ensures at (c.in_err-bring.ensures.reads (made_of c.block.new.draft))))

pub try_form-returns-in_err-block-2-clause-reads : goal.try_form-returns-in_err-block-2-clause-reads
try_form-returns-in_err-block-2-clause-reads t c =
    let p = err_from_is_err_and c.from_residual-in_err-block-2.result c.from_residual-in_err-block-2.ensures.1 in
    rw (p.1, p.2) (λ last at word. try_handler_fails c.args.scope.now c.bring.new.self last at word c.args.cursor.now c.block.new.cursor c.bring.new.cursor c.args.draft.now c.block.new.draft _ c.requires.items c.in_ok-block.ensures.past c.in_ok-bring.ensures.past c.in_ok-block.ensures.reads (rw c.in_ok-inner.ensures at c.in_ok-bring.ensures.reads) c.in_err-block-2.ensures.reads)

pub try_form-returns-clause-reads : goal.try_form-returns-clause-reads
try_form-returns-clause-reads t c = λ last at word.
    try_read c.args.scope.now c.bring.new.self last at word c.args.cursor.now c.block.new.cursor c.bring.new.cursor c.block-2.new.cursor c.args.opened c.next-tried.result c.next-handler.result c.next-after.result c.args.draft.now c.block.new.draft c.block-2.new.draft c.fill.new.self c.requires.items c.in_ok-block.ensures.past c.in_ok-bring.ensures.past c.in_ok-block-2.ensures.past c.requires.opened c.in_ok-block.ensures.reads (rw c.in_ok-inner.ensures at c.in_ok-bring.ensures.reads) c.in_ok-block-2.ensures.reads c.next-tried.ensures c.next-handler.ensures c.next-after.ensures c.fill.ensures

-- ## Branches

pub branches_form-loop-blocks-init : goal.branches_form-loop-blocks-init
branches_form-loop-blocks-init t c = record { within = within_all _; amid = blocks_first _ _ _ _ c.new-blocks.ensures.items }

pub branches_form-loop-blocks-preserved : goal.branches_form-loop-blocks-preserved
branches_form-loop-blocks-preserved t c = record {
  within = within_past _ _ _ c.loop-blocks.invariant.within c.in_ok-block.ensures.past;
  amid = blocks_next _ _ _ _ _ _ _ _ _ _ (sym c.has_tree.ensures ∙ c.loop-blocks-test.true) c.in_ok-block.ensures.past c.loop-blocks.invariant.amid (c.in_ok-push.ensures.items ∙ ap (λ n. c.loop-blocks.blocks.items ++ n ∷ []) c.next.ensures) (full_after _ _ (let one = c.in_ok-push.ensures.len in let is = c.len.ensures in let count = c.loop-blocks.blocks.ok in omega (arith, one, is, count))) c.in_ok-block.ensures.reads;
}

pub branches_form-returns-in_err-block-clause-reads : goal.branches_form-returns-in_err-block-clause-reads
branches_form-returns-in_err-block-clause-reads t c =
    let p = err_from_is_err_and c.from_residual-in_err-block.result c.from_residual-in_err-block.ensures.1 in
    let full = full_after c.len.result c.loop-blocks.blocks.items (let one = c.in_ok-push.ensures.len in let is = c.len.ensures in let count = c.loop-blocks.blocks.ok in omega (arith, one, is, count)) in
    rw (p.1, p.2) (branches_fail c.args.scope.now c.args.group (ahead c.args.cursor.now) (made_of c.args.draft.now) _ (blocks_fail _ _ _ _ _ _ _ _ (sym c.has_tree.ensures ∙ c.loop-blocks-test.true) c.loop-blocks.invariant.amid full c.in_err-block.ensures.reads))

pub branches_form-fill-requires : goal.branches_form-fill-requires
branches_form-fill-requires t c = blocks_less _ _ _ _ c.args.opened c.args.draft.now _ c.loop-blocks.invariant.amid c.requires

pub branches_form-returns-clause-reads : goal.branches_form-returns-clause-reads
branches_form-returns-clause-reads t c =
    blocks_end c.args.scope.now c.args.group c.args.cursor.now _ c.args.opened c.next-after.result c.loop-blocks.blocks.items c.args.draft.now _ c.fill.new.self (sym c.has_tree.ensures ∙ c.loop-blocks-test.false) c.loop-blocks.invariant.amid c.requires c.next-after.ensures (rw c.new.ensures at c.fill.ensures)

-- ## Forms with one block

pub body_form-fill-requires : goal.body_form-fill-requires
body_form-fill-requires t c =
    let o = c.in_ok-it.ensures.reads false 0 (Word 0 []) in
    fill_less c.args.opened c.args.draft.now c.open_body.new.draft c.statements.new.draft _ _ c.requires.opened o.grows c.in_ok-statements.ensures.reads.grows

pub body_form-returns-clause-reads : goal.body_form-returns-clause-reads
body_form-returns-clause-reads t c = λ last at word.
    body_read _ c.args.scope.now c.in_ok-it.it.inner c.in_ok-it.it.form (ahead c.open_body.new.cursor) c.args.opened c.next-body.result c.next-after.result c.into_node.result c.args.draft.now c.open_body.new.draft c.statements.new.draft c.fill.new.self c.requires.opened (c.in_ok-it.ensures.reads last at word) c.in_ok-statements.ensures.reads c.next-body.ensures c.next-after.ensures c.into_node.ensures c.fill.ensures
