use Rattle.std.proofs.Common.{sym, ◌∙◌, [], refl, append-nil}
use Rattle.std.proofs.lemmas.Result.{err_from_is_err_and}
use Rattle.spec_script.specs.Syntax as syntax
use Rattle.spec_script.specs.Statements.{form}
use Rattle.script_forms.specs.Flat.{flat_statement}
use Rattle.script_forms.specs.declared.node.Node.TheVariants as node
use Rattle.script_draft.proofs.Counts.{one_tree, one_ahead}
use Rattle.script_draft.proofs.Steps.{fails_first, fill_stated}
use Rattle.script_statements.proofs.silent_forms.raise_form.Goals as goal

pub returns-in_err-text-clause-reads : goal.returns-in_err-text-clause-reads
unfolding form
returns-in_err-text-clause-reads c =
    let p = err_from_is_err_and c.from_residual.result c.from_residual.ensures.1 in
    rw (p.1, p.2) (λ last at word. rw (one_ahead c.args.cursor.now c.requires.items) (fails_first _ _ _ c.in_err-text.ensures.reads))

pub returns-clause-reads : goal.returns-clause-reads
unfolding form flat_statement
returns-clause-reads c = λ last at word.
    fill_stated _ c.args.scope.now c.args.opened c.args.draft.now c.failure.new.draft c.fill.new.self (syntax.Raise c.in_ok-text.text) (node.Raise c.in_ok-text.text) [] c.requires.opened
    (rw (one_tree c.args.cursor.now c.failure.new.cursor c.requires.items c.in_ok-text.ensures.past, c.in_ok-text.ensures.reads.0) refl)
    (c.in_ok-text.ensures.reads.1 ∙ sym (append-nil _)) c.fill.ensures refl
