use Rattle.std.proofs.Common.{sym, [], refl, append-nil}
use Rattle.std.proofs.lemmas.Result.{err_from_is_err_and}
use Rattle.spec_script.specs.Syntax as syntax
use Rattle.spec_script.specs.Statements.{form}
use Rattle.script_draft.specs.Drafts.{made_of}
use Rattle.script_forms.specs.Flat.{flat_statement}
use Rattle.script_forms.specs.declared.node.Node.TheVariants as node
use Rattle.script_draft.proofs.Counts.{two_trees, two_ahead, one_passed}
use Rattle.script_draft.proofs.Steps.{fails_first, fill_stated}
use Rattle.script_statements.proofs.mock_forms.copy_form.Goals as goal

pub returns-in_err-from-clause-reads : goal.returns-in_err-from-clause-reads
unfolding form
returns-in_err-from-clause-reads c =
    let p = err_from_is_err_and c.from_residual.result c.from_residual.ensures.1 in
    rw (p.1, p.2) (λ last at word. rw (two_ahead c.args.cursor.now c.requires.items) (fails_first _ _ _ (c.in_err-from.ensures.reads (made_of c.args.draft.now))))

pub returns-in_err-to-clause-reads : goal.returns-in_err-to-clause-reads
unfolding form
returns-in_err-to-clause-reads c =
    let p = err_from_is_err_and c.from_residual-in_err-to.result c.from_residual-in_err-to.ensures.1 in
    rw (p.1, p.2) (λ last at word. rw (one_passed c.args.cursor.now c.used.new.cursor c.requires.items c.in_ok-from.ensures.past, c.in_ok-from.ensures.reads (made_of c.args.draft.now)) (fails_first _ _ _ (c.in_err-to.ensures.reads (made_of c.args.draft.now))))

pub returns-clause-reads : goal.returns-clause-reads
unfolding form flat_statement
returns-clause-reads c = λ last at word.
    fill_stated _ c.args.scope.now c.args.opened c.args.draft.now c.args.draft.now c.fill.new.self (syntax.Copy c.in_ok-from.from c.in_ok-to.to) (node.Copy c.in_ok-from.from c.in_ok-to.to) [] c.requires.opened
    (rw (two_trees c.args.cursor.now c.used.new.cursor c.used-2.new.cursor c.requires.items c.in_ok-from.ensures.past c.in_ok-to.ensures.past, c.in_ok-from.ensures.reads (made_of c.args.draft.now), c.in_ok-to.ensures.reads (made_of c.args.draft.now)) refl)
    (sym (append-nil _)) c.fill.ensures refl
