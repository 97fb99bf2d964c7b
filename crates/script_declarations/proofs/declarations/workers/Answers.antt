use Rattle.std.proofs.Common.{sym, ◌∙◌, length}
use Rattle.std.proofs.lemmas.Result.{err_from_is_err_and}
use Rattle.script_draft.proofs.Within.{within_past}
use Rattle.script_declarations.proofs.DeclarationsRead.{number_refused, worker_refused, worker_taken, workers_end}
use Rattle.script_declarations.proofs.declarations.workers.Goals as goal

pub returns-in_err-number-clause-reads : goal.returns-in_err-number-clause-reads
returns-in_err-number-clause-reads c =
    let p = err_from_is_err_and c.from_residual.result c.from_residual.ensures.1 in
    rw (p.1, p.2) (λ made. number_refused c.args.bodies (length c.loop-cursor.numbers.items) c.loop-cursor.numbers.items _ c.loop-cursor.cursor made _ (sym c.has_tree.ensures ∙ c.loop-cursor-test.true) c.in_err-number.ensures.number (c.loop-cursor.invariant.rest made))

pub returns-in_err-worker-clause-reads : goal.returns-in_err-worker-clause-reads
returns-in_err-worker-clause-reads c =
    let p = err_from_is_err_and c.from_residual-in_err-worker.result c.from_residual-in_err-worker.ensures.1 in
    rw (p.1, p.2) (λ made. worker_refused c.args.bodies c.len.result _ _ c.loop-cursor.numbers.items _ c.loop-cursor.cursor c.number.new.self made _ (sym c.has_tree.ensures ∙ c.loop-cursor-test.true) c.in_ok-number.ensures.past c.in_ok-number.ensures.number (c.len.ensures ∙ c.loop-cursor.numbers.ok.0) (c.in_err-worker.ensures made) (c.loop-cursor.invariant.rest made))

pub loop-cursor-preserved : goal.loop-cursor-preserved
loop-cursor-preserved c = record {
  within = within_past c.args.cursor.now c.loop-cursor.cursor c.number.new.self c.loop-cursor.invariant.within c.in_ok-number.ensures.past;
  rest = λ made. rw c.in_ok-push.ensures.items (worker_taken c.args.bodies c.len.result _ _ c.in_ok-worker.field-0 c.loop-cursor.numbers.items _ c.loop-cursor.cursor c.number.new.self made (sym c.has_tree.ensures ∙ c.loop-cursor-test.true) c.in_ok-number.ensures.past c.in_ok-number.ensures.number (c.len.ensures ∙ c.loop-cursor.numbers.ok.0) (c.in_ok-worker.ensures made) (c.loop-cursor.invariant.rest made));
}

pub returns-clause-reads : goal.returns-clause-reads
returns-clause-reads c = λ made. rw c.new.ensures (workers_end c.args.bodies (length c.loop-cursor.numbers.items) c.loop-cursor.numbers.items _ c.loop-cursor.cursor made (sym c.has_tree.ensures ∙ c.loop-cursor-test.false) (c.loop-cursor.invariant.rest made))
