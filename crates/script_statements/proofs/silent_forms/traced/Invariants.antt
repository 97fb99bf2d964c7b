use Rattle.std.proofs.Common.{◌≡◌, ◌≤◌, length}
use Rattle.script_draft.specs.Ahead.{ahead, around}
use Rattle.script_statements.proofs.LeavesRead.{IsTracing}
use Rattle.script_statements.proofs.silent_forms.traced.Given as goal

abbrev pub invariant-loop-cursor : goal.invariant-loop-cursor
invariant-loop-cursor l = record {
  few : l.operands ≤ 8;
  around : around l.cursor ≡ around l.fn.cursor;
  fewer : length l.cursor ≤ length l.fn.cursor;
  tracing : IsTracing l.scope (ahead l.fn.cursor) (ahead l.cursor) l.operands l.fn.draft l.draft;
}

abbrev pub decreases-loop-cursor : goal.decreases-loop-cursor
decreases-loop-cursor l = length l.cursor
