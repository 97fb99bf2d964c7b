use Rattle.std.proofs.Common.{◌∙◌, ◌++◌, refl, append_assoc, ap}
use Rattle.std.proofs.lemmas.Result.{err_from_is_err_and}
use Rattle.spec_script.specs.Syntax as syntax
use Rattle.spec_script.specs.Statements.{form}
use Rattle.script_forms.specs.Calls.{directory_of}
use Rattle.script_statements.proofs.LeavesRead.{directory_in_of}
use Rattle.script_draft.specs.Drafts.{made_of}
use Rattle.script_forms.specs.Flat.{flat_statement, flat_expression}
use Rattle.script_forms.specs.declared.node.Node.TheVariants as node
use Rattle.script_draft.proofs.Counts.{three_trees, three_ahead, two_passed, one_left}
use Rattle.script_draft.proofs.Steps.{fails_first, fill_stated}
use Rattle.script_statements.proofs.mock_forms.save_form.Goals as goal

pub returns-in_err-directory-clause-reads : goal.returns-in_err-directory-clause-reads
unfolding form
returns-in_err-directory-clause-reads c =
    let p = err_from_is_err_and c.from_residual.result c.from_residual.ensures.1 in
    rw (p.1, p.2) (λ last at word. rw (three_ahead c.args.cursor.now c.requires.items) (fails_first _ _ _ (c.in_err-directory.ensures.reads (made_of c.args.draft.now))))

pub returns-in_err-item-clause-reads : goal.returns-in_err-item-clause-reads
unfolding form
returns-in_err-item-clause-reads c =
    let p = err_from_is_err_and c.from_residual-in_err-item.result c.from_residual-in_err-item.ensures.1 in
    rw (p.1, p.2) (λ last at word. rw (two_passed c.args.cursor.now c.directory.new.cursor c.requires.items c.in_ok-directory.ensures.past, c.in_ok-directory.ensures.reads (made_of c.args.draft.now)) (fails_first _ _ _ c.in_err-item.ensures.reads))

pub returns-in_err-item-2-clause-reads : goal.returns-in_err-item-2-clause-reads
unfolding form
returns-in_err-item-2-clause-reads c =
    let p = err_from_is_err_and c.from_residual-in_err-item-2.result c.from_residual-in_err-item-2.ensures.1 in
    rw (p.1, p.2) (λ last at word. rw (one_left c.args.cursor.now c.directory.new.cursor c.item.new.cursor c.requires.items c.in_ok-directory.ensures.past c.in_ok-item.ensures.past, c.in_ok-directory.ensures.reads (made_of c.args.draft.now), c.in_ok-item.ensures.reads.gives) (fails_first _ _ _ c.in_err-item-2.ensures.reads))

pub returns-clause-reads : goal.returns-clause-reads
unfolding form flat_statement
returns-clause-reads c = λ last at word.
    fill_stated _ c.args.scope.now c.args.opened c.args.draft.now c.item-2.new.draft c.fill.new.self (syntax.Save c.args.only_new (directory_of c.in_ok-directory.directory) c.in_ok-item.ensures.reads.value c.in_ok-item-2.ensures.reads.value) (node.Save c.args.only_new c.in_ok-directory.directory) (flat_expression c.in_ok-item.ensures.reads.value ++ flat_expression c.in_ok-item-2.ensures.reads.value) c.requires.opened
    (rw (three_trees c.args.cursor.now c.directory.new.cursor c.item.new.cursor c.item-2.new.cursor c.requires.items c.in_ok-directory.ensures.past c.in_ok-item.ensures.past c.in_ok-item-2.ensures.past, c.in_ok-directory.ensures.reads (made_of c.args.draft.now), c.in_ok-item.ensures.reads.gives, c.in_ok-item-2.ensures.reads.gives) refl)
    (c.in_ok-item-2.ensures.reads.grows ∙ (ap (λ ns. ns ++ flat_expression c.in_ok-item-2.ensures.reads.value) c.in_ok-item.ensures.reads.grows ∙ append_assoc c.args.draft.now.nodes (flat_expression c.in_ok-item.ensures.reads.value) (flat_expression c.in_ok-item-2.ensures.reads.value))) c.fill.ensures (rw (directory_in_of c.in_ok-directory.directory) refl)
