use Rattle.std.proofs.Common.{sym, ◌∷◌, [], refl, append-nil, ap}
use Rattle.std.proofs.lemmas.Result.{err_from_is_err_and}
use Rattle.spec_script.specs.Syntax as syntax
use Rattle.spec_script.specs.Statements.{form}
use Rattle.script_forms.specs.Calls.{reader_call_of}
use Rattle.script_statements.proofs.LeavesRead.{reader_call_in_of}
use Rattle.script_draft.specs.Drafts.{made_of}
use Rattle.script_forms.specs.Flat.{flat_statement}
use Rattle.script_forms.specs.declared.node.Node.TheVariants as node
use Rattle.script_draft.proofs.Counts.{one_tree, one_ahead}
use Rattle.script_draft.proofs.Steps.{fails_first, fill_stated}
use Rattle.script_statements.proofs.mock_forms.reader_form.Goals as goal

pub returns-in_err-reader-clause-reads : goal.returns-in_err-reader-clause-reads
unfolding form
returns-in_err-reader-clause-reads c =
    let p = err_from_is_err_and c.from_residual.result c.from_residual.ensures.1 in
    rw (p.1, p.2) (λ last at word. rw (one_ahead c.args.cursor.now c.requires.items) (fails_first _ _ _ (c.in_err-reader.ensures.reads (made_of c.args.draft.now))))

pub returns-clause-reads : goal.returns-clause-reads
unfolding form flat_statement
returns-clause-reads c = λ last at word.
    fill_stated _ c.args.scope.now c.args.opened c.args.draft.now c.args.draft.now c.fill.new.self (syntax.OnReader (reader_call_of c.args.call) c.in_ok-reader.reader) (node.OnReader c.args.call c.in_ok-reader.reader) [] c.requires.opened
    (rw (one_tree c.args.cursor.now c.used.new.cursor c.requires.items c.in_ok-reader.ensures.past, c.in_ok-reader.ensures.reads (made_of c.args.draft.now)) refl)
    (sym (append-nil _)) c.fill.ensures (ap (λ call. node.OnReader call c.in_ok-reader.reader ∷ []) (reader_call_in_of c.args.call))
