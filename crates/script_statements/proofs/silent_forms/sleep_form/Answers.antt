use Rattle.std.proofs.lemmas.Result.{err_from_is_err_and}
use Rattle.std.proofs.Common.{refl}
use Rattle.spec_script.specs.Syntax as syntax
use Rattle.spec_script.specs.Statements.{form}
use Rattle.script_forms.specs.Flat.{flat_statement, flat_expression}
use Rattle.script_forms.specs.declared.node.Node.TheVariants as node
use Rattle.script_draft.proofs.Counts.{one_tree, one_ahead}
use Rattle.script_draft.proofs.Steps.{fails_first, fill_stated}
use Rattle.script_statements.proofs.silent_forms.sleep_form.Goals as goal

pub returns-in_err-item-clause-reads : goal.returns-in_err-item-clause-reads
unfolding form
returns-in_err-item-clause-reads c =
    let p = err_from_is_err_and c.from_residual.result c.from_residual.ensures.1 in
    rw (p.1, p.2) (λ last at word. rw (one_ahead c.args.cursor.now c.requires.items) (fails_first _ _ _ c.in_err-item.ensures.reads))

pub returns-clause-reads : goal.returns-clause-reads
unfolding form flat_statement
returns-clause-reads c = λ last at word.
    fill_stated _ c.args.scope.now c.args.opened c.args.draft.now c.item.new.draft c.fill.new.self (syntax.Sleep c.in_ok-item.ensures.reads.value) node.Sleep (flat_expression c.in_ok-item.ensures.reads.value) c.requires.opened
    (rw (one_tree c.args.cursor.now c.item.new.cursor c.requires.items c.in_ok-item.ensures.past, c.in_ok-item.ensures.reads.gives) refl)
    c.in_ok-item.ensures.reads.grows c.fill.ensures refl
