use Rattle.std.proofs.Common.{sym, [], append-nil, refl}
use Rattle.std.proofs.lemmas.Result.{err_from_is_err_and}
use Rattle.spec_script.specs.Syntax as syntax
use Rattle.spec_script.specs.Statements.{form}
use Rattle.script_draft.specs.Drafts.{made_of}
use Rattle.script_forms.specs.Flat.{flat_statement}
use Rattle.script_statements.proofs.BodiesRead.{block_alone, two_before, two_behind, two_between}
use Rattle.script_draft.proofs.Steps.{fails_first}
use Rattle.script_forms.specs.declared.node.Node.TheVariants as node
use Rattle.script_statements.proofs.bodies.buf_write_body.Goals as goal

pub returns-in_err-inner-clause-reads : goal.returns-in_err-inner-clause-reads
unfolding form
returns-in_err-inner-clause-reads c =
    let p = err_from_is_err_and c.from_residual.result c.from_residual.ensures.1 in
    rw (p.1, p.2) (λ d last at word. rw (two_before c.args.cursor.now c.requires) (fails_first _ _ _ (c.in_err-inner.ensures.reads (made_of d))))

pub returns-in_err-flow-clause-reads : goal.returns-in_err-flow-clause-reads
unfolding form
returns-in_err-flow-clause-reads c =
    let p = err_from_is_err_and c.from_residual-in_err-flow.result c.from_residual-in_err-flow.ensures.1 in
    rw (p.1, p.2) (λ d last at word. rw (two_between c.args.cursor.now c.with_name.new.cursor c.requires c.in_ok-inner.ensures.past, c.in_ok-inner.ensures.reads (made_of d)) (fails_first _ _ _ (c.in_err-flow.ensures.reads (made_of d))))

pub returns-clause-reads : goal.returns-clause-reads
unfolding form flat_statement
returns-clause-reads c = λ d last at word. record {
  make = λ body. syntax.BufWrite c.in_ok-flow.flow body;
  between = [];
  gives = rw (two_behind c.args.cursor.now c.with_name.new.cursor c.used.new.cursor c.requires c.in_ok-inner.ensures.past c.in_ok-flow.ensures.past, c.in_ok-inner.ensures.reads (made_of d), c.in_ok-flow.ensures.reads (made_of d)) refl;
  grows = sym (append-nil _);
  flat = λ at number body. block_alone at (λ after. node.BufWrite c.in_ok-flow.flow number after) body;
}
