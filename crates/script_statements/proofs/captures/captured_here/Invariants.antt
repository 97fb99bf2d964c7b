use Rattle.std.proofs.Common.{◌≡◌, ◌≤◌, length, map}
use Rattle.script_draft.specs.Ahead.{ahead, around}
use Rattle.script_draft.specs.Names.{named_of}
use Rattle.script_statements.proofs.LeavesRead.{IsTaking}
use Rattle.script_statements.proofs.captures.captured_here.Given as goal

abbrev pub invariant-loop-names : goal.invariant-loop-names
invariant-loop-names l = record {
  few : length l.names.items ≤ 8;
  around : around l.cursor ≡ around l.fn.cursor;
  fewer : length l.cursor ≤ length l.fn.cursor;
  taking : IsTaking l.scope (ahead l.fn.cursor) (ahead l.cursor) l.slots.items (map named_of l.names.items);
}

abbrev pub decreases-loop-names : goal.decreases-loop-names
decreases-loop-names l = length l.cursor
