use Rattle.std.proofs.Common.{◌+◌, ◌*◌, length}
use Rattle.script_draft.specs.Ahead.{ahead, IsWithin}
use Rattle.script_statements.proofs.StatementsRead.{IsAmid}
use Rattle.script_statements.proofs.BranchesRead.{IsAmidBlocks}
use Rattle.script_statements.proofs.statements.+statements.Given as goal

abbrev pub decreases-block : goal.decreases-block
decreases-block l = 4 * length l.cursor.now

abbrev pub decreases-statement : goal.decreases-statement
decreases-statement l = 4 * length l.cursor.now

abbrev pub decreases-value : goal.decreases-value
decreases-value l = 4 * length l.cursor.now

abbrev pub decreases-statements : goal.decreases-statements
decreases-statements l = 4 * length l.cursor.now + 1

abbrev pub decreases-let_form : goal.decreases-let_form
decreases-let_form l = 4 * length l.cursor.now + 1

abbrev pub decreases-if_form : goal.decreases-if_form
decreases-if_form l = 4 * length l.cursor.now + 1

abbrev pub decreases-try_form : goal.decreases-try_form
decreases-try_form l = 4 * length l.cursor.now + 1

abbrev pub decreases-branches_form : goal.decreases-branches_form
decreases-branches_form l = 4 * length l.cursor.now + 1

abbrev pub decreases-body_form : goal.decreases-body_form
decreases-body_form l = 4 * length l.cursor.now + 2

abbrev pub decreases-form : goal.decreases-form
decreases-form l = 4 * length l.cursor.now + 3

abbrev pub invariant-statements-loop-cursor : goal.invariant-statements-loop-cursor
invariant-statements-loop-cursor l = record {
  within : IsWithin l.fn.cursor l.cursor;
  amid : IsAmid l.fn.scope (ahead l.fn.cursor) l.fn.draft l.inside (ahead l.cursor) l.draft;
}

abbrev pub decreases-statements-loop-cursor : goal.decreases-statements-loop-cursor
decreases-statements-loop-cursor l = length l.cursor

abbrev pub invariant-branches_form-loop-blocks : goal.invariant-branches_form-loop-blocks
invariant-branches_form-loop-blocks l = record {
  within : IsWithin l.fn.cursor l.cursor;
  amid : IsAmidBlocks l.fn.scope (ahead l.fn.cursor) l.fn.draft l.blocks.items (ahead l.cursor) l.draft;
}

abbrev pub decreases-branches_form-loop-blocks : goal.decreases-branches_form-loop-blocks
decreases-branches_form-loop-blocks l = length l.cursor
