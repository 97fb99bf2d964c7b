use Rattle.std.proofs.Common.{refl}
use Rattle.std.proofs.lemmas.Result.{err_from_is_err_and}
use Rattle.spec_script.specs.Syntax as syntax
use Rattle.spec_script.specs.Statements.{form}
use Rattle.script_draft.specs.Drafts.{made_of}
use Rattle.script_forms.specs.Flat.{flat_expression, flat_statement}
use Rattle.script_statements.proofs.BodiesRead.{two_before, two_behind, two_between}
use Rattle.script_draft.proofs.Steps.{fails_first}
use Rattle.script_statements.proofs.bodies.repeat_body.Goals as goal

pub returns-in_err-inner-clause-reads : goal.returns-in_err-inner-clause-reads
unfolding form
returns-in_err-inner-clause-reads c =
    let p = err_from_is_err_and c.from_residual.result c.from_residual.ensures.1 in
    rw (p.1, p.2) (λ last at word. rw (two_before c.args.cursor.now c.requires) (fails_first _ _ _ (c.in_err-inner.ensures.reads (made_of c.args.draft.now))))

pub returns-in_err-item-clause-reads : goal.returns-in_err-item-clause-reads
unfolding form
returns-in_err-item-clause-reads c =
    let p = err_from_is_err_and c.from_residual-in_err-item.result c.from_residual-in_err-item.ensures.1 in
    rw (p.1, p.2) (λ last at word. rw (two_between c.args.cursor.now c.with_name.new.cursor c.requires c.in_ok-inner.ensures.past, c.in_ok-inner.ensures.reads (made_of c.args.draft.now)) (fails_first _ _ _ c.in_err-item.ensures.reads))

pub returns-clause-reads : goal.returns-clause-reads
unfolding form flat_statement
returns-clause-reads c = λ last at word. record {
  make = λ body. syntax.Repeat c.in_ok-item.ensures.reads.value body;
  between = flat_expression c.in_ok-item.ensures.reads.value;
  gives = rw (two_behind c.args.cursor.now c.with_name.new.cursor c.item.new.cursor c.requires c.in_ok-inner.ensures.past c.in_ok-item.ensures.past, c.in_ok-inner.ensures.reads (made_of c.args.draft.now), c.in_ok-item.ensures.reads.gives) refl;
  grows = c.in_ok-item.ensures.reads.grows;
  flat = λ at number body. refl;
}
