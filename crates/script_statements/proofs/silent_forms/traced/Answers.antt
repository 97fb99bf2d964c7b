use Rattle.std.proofs.Common.{◌≡◌, false, arith, sym, ◌∙◌, refl}
use Rattle.std.specs.Prelude.{nat_le}
use Rattle.std.proofs.lemmas.Bool.{leb-false}
use Rattle.std.proofs.lemmas.Result.{err_from_is_err_and}
use Rattle.script_draft.specs.Ahead.{ahead, tree_ahead}
use Rattle.script_statements.proofs.LeavesRead.{tracing_begins, tracing_goes, tracing_fails, tracing_ends, had_room}
use Rattle.script_statements.proofs.silent_forms.traced.Goals as goal

pub loop-cursor-init : goal.loop-cursor-init
loop-cursor-init c = record { few = omega arith; around = refl; fewer = omega arith; tracing = tracing_begins c.args.scope.now (ahead c.args.cursor.now) c.args.draft.now }

pub loop-cursor-preserved : goal.loop-cursor-preserved
loop-cursor-preserved c =
    let past = c.in_ok-item.ensures.past in
    let reads = c.in_ok-item.ensures.reads in
    let room : nat_le 8 c.loop-cursor.operands ≡ false = had_room c.args.scope.now _ (tree_ahead c.loop-cursor.cursor) c.loop-cursor.draft c.item.new.draft reads in
    record {
      few = omega (arith, leb-false 8 c.loop-cursor.operands room);
      around = past.around ∙ c.loop-cursor.invariant.around;
      fewer = omega (arith, past.fewer, c.loop-cursor.invariant.fewer);
      tracing = tracing_goes c.args.scope.now (ahead c.args.cursor.now) c.loop-cursor.cursor c.item.new.cursor c.loop-cursor.operands c.args.draft.now c.loop-cursor.draft c.item.new.draft (sym c.has_tree.ensures ∙ c.loop-cursor-test.true) past c.loop-cursor.invariant.tracing reads;
    }

pub returns-in_err-item-clause-reads : goal.returns-in_err-item-clause-reads
returns-in_err-item-clause-reads c =
    let p = err_from_is_err_and c.from_residual.result c.from_residual.ensures.1 in
    rw (p.1, p.2) (tracing_fails c.args.scope.now (ahead c.args.cursor.now) c.loop-cursor.cursor c.loop-cursor.operands c.args.draft.now c.loop-cursor.draft _ (sym c.has_tree.ensures ∙ c.loop-cursor-test.true) c.loop-cursor.invariant.tracing c.in_err-item.ensures.reads)

pub returns-clause-reads : goal.returns-clause-reads
returns-clause-reads c = tracing_ends c.args.scope.now (ahead c.args.cursor.now) c.loop-cursor.cursor c.loop-cursor.operands c.args.draft.now c.loop-cursor.draft (sym c.has_tree.ensures ∙ c.loop-cursor-test.false) c.loop-cursor.invariant.tracing
