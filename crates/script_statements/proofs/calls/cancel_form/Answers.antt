use Rattle.std.proofs.Common.{sym, ◌∙◌, [], refl, append-nil}
use Rattle.std.proofs.lemmas.Result.{err_from_is_err_and}
use Rattle.spec_script.specs.Syntax as syntax
use Rattle.spec_script.specs.Statements.{form}
use Rattle.script_draft.specs.Drafts.{made_of}
use Rattle.script_forms.specs.Flat.{flat_statement}
use Rattle.script_forms.specs.declared.node.Node.TheVariants as node
use Rattle.script_draft.proofs.Counts.{two_trees, two_ahead, one_passed}
use Rattle.script_draft.proofs.Steps.{fails_first, fill_stated}
use Rattle.script_statements.proofs.calls.cancel_form.Goals as goal

pub returns-in_err-context-clause-reads : goal.returns-in_err-context-clause-reads
unfolding form
returns-in_err-context-clause-reads c =
    let p = err_from_is_err_and c.from_residual.result c.from_residual.ensures.1 in
    rw (p.1, p.2) (λ last at word. rw (two_ahead c.args.cursor.now c.requires.items) (fails_first _ _ _ (c.in_err-context.ensures.reads (made_of c.args.draft.now))))

pub returns-in_err-text-clause-reads : goal.returns-in_err-text-clause-reads
unfolding form
returns-in_err-text-clause-reads c =
    let p = err_from_is_err_and c.from_residual-in_err-text.result c.from_residual-in_err-text.ensures.1 in
    rw (p.1, p.2) (λ last at word. rw (one_passed c.args.cursor.now c.used.new.cursor c.requires.items c.in_ok-context.ensures.past, c.in_ok-context.ensures.reads (made_of c.args.draft.now)) (fails_first _ _ _ c.in_err-text.ensures.reads))

pub returns-clause-reads : goal.returns-clause-reads
unfolding form flat_statement
returns-clause-reads c = λ last at word.
    fill_stated _ c.args.scope.now c.args.opened c.args.draft.now c.failure.new.draft c.fill.new.self (syntax.Cancel c.in_ok-context.context c.in_ok-text.text) (node.Cancel c.in_ok-context.context c.in_ok-text.text) [] c.requires.opened
    (rw (two_trees c.args.cursor.now c.used.new.cursor c.failure.new.cursor c.requires.items c.in_ok-context.ensures.past c.in_ok-text.ensures.past, c.in_ok-context.ensures.reads (made_of c.args.draft.now), c.in_ok-text.ensures.reads.0) refl)
    (c.in_ok-text.ensures.reads.1 ∙ sym (append-nil _)) c.fill.ensures refl
