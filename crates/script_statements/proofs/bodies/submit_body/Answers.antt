use Rattle.std.proofs.Common.{sym, [], append-nil, refl}
use Rattle.std.proofs.lemmas.Result.{err_from_is_err_and}
use Rattle.spec_script.specs.Syntax as syntax
use Rattle.spec_script.specs.Statements.{form}
use Rattle.script_draft.specs.Drafts.{made_of}
use Rattle.script_forms.specs.Flat.{flat_statement}
use Rattle.script_statements.proofs.BodiesRead.{block_alone, three_after_one, three_after_two, three_before, three_behind}
use Rattle.script_draft.proofs.Steps.{fails_first}
use Rattle.script_forms.specs.declared.node.Node.TheVariants as node
use Rattle.script_statements.proofs.bodies.submit_body.Goals as goal

pub returns-in_err-executor-clause-reads : goal.returns-in_err-executor-clause-reads
unfolding form
returns-in_err-executor-clause-reads c =
    let p = err_from_is_err_and c.from_residual.result c.from_residual.ensures.1 in
    rw (p.1, p.2) (λ d last at word. rw (three_before c.args.cursor.now c.requires) (fails_first _ _ _ (c.in_err-executor.ensures.reads (made_of d))))

pub returns-in_err-weight-clause-reads : goal.returns-in_err-weight-clause-reads
unfolding form
returns-in_err-weight-clause-reads c =
    let p = err_from_is_err_and c.from_residual-in_err-weight.result c.from_residual-in_err-weight.ensures.1 in
    rw (p.1, p.2) (λ d last at word. rw (three_after_one c.args.cursor.now c.used.new.cursor c.requires c.in_ok-executor.ensures.past, c.in_ok-executor.ensures.reads (made_of d)) (fails_first _ _ _ (c.in_err-weight.ensures.reads (made_of d))))

pub returns-in_err-job-clause-reads : goal.returns-in_err-job-clause-reads
unfolding form
returns-in_err-job-clause-reads c =
    let p = err_from_is_err_and c.from_residual-in_err-job.result c.from_residual-in_err-job.ensures.1 in
    rw (p.1, p.2) (λ d last at word. rw (three_after_two c.args.cursor.now c.used.new.cursor c.number_within.new.cursor c.requires c.in_ok-executor.ensures.past c.in_ok-weight.ensures.past, c.in_ok-executor.ensures.reads (made_of d), c.in_ok-weight.ensures.reads (made_of d)) (fails_first _ _ _ (c.in_err-job.ensures.reads (made_of d))))

pub returns-clause-reads : goal.returns-clause-reads
unfolding form flat_statement
returns-clause-reads c = λ d last at word. record {
  make = λ body. syntax.Submit c.in_ok-executor.executor c.in_ok-weight.weight c.in_ok-job.job.slots body;
  between = [];
  gives = rw (three_behind c.args.cursor.now c.used.new.cursor c.number_within.new.cursor c.captured.new.cursor c.requires c.in_ok-executor.ensures.past c.in_ok-weight.ensures.past c.in_ok-job.ensures.past, c.in_ok-executor.ensures.reads (made_of d), c.in_ok-weight.ensures.reads (made_of d), c.in_ok-job.ensures.reads.gives (made_of d), c.in_ok-job.ensures.reads.inner, c.in_ok-job.ensures.reads.slots) refl;
  grows = sym (append-nil _);
  flat = λ at number body. block_alone at (λ after. node.Submit c.in_ok-executor.executor c.in_ok-weight.weight c.in_ok-job.job.slots number after) body;
}
