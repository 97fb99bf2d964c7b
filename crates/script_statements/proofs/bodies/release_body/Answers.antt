use Rattle.std.proofs.Common.{sym, [], append-nil, refl}
use Rattle.std.proofs.lemmas.Result.{err_from_is_err_and}
use Rattle.spec_script.specs.Syntax as syntax
use Rattle.spec_script.specs.Statements.{form}
use Rattle.script_draft.specs.Drafts.{made_of}
use Rattle.script_forms.specs.Flat.{flat_statement}
use Rattle.script_statements.proofs.BodiesRead.{block_alone, one_before, one_behind}
use Rattle.script_draft.proofs.Steps.{fails_first}
use Rattle.script_forms.specs.declared.node.Node.TheVariants as node
use Rattle.script_statements.proofs.bodies.release_body.Goals as goal

pub returns-in_err-switch-clause-reads : goal.returns-in_err-switch-clause-reads
unfolding form
returns-in_err-switch-clause-reads c =
    let p = err_from_is_err_and c.from_residual.result c.from_residual.ensures.1 in
    rw (p.1, p.2) (λ d last at word. rw (one_before c.args.cursor.now c.requires) (fails_first _ _ _ (c.in_err-switch.ensures.reads (made_of d))))

pub returns-clause-reads : goal.returns-clause-reads
unfolding form flat_statement
returns-clause-reads c = λ d last at word. record {
  make = λ body. syntax.OnRelease c.in_ok-switch.switch body;
  between = [];
  gives = rw (one_behind c.args.cursor.now c.used.new.cursor c.requires c.in_ok-switch.ensures.past, c.in_ok-switch.ensures.reads (made_of d), c.in_ok-inner.ensures) refl;
  grows = sym (append-nil _);
  flat = λ at number body. block_alone at (λ after. node.OnRelease c.in_ok-switch.switch number after) body;
}
