use Rattle.std.proofs.Common.{◌+◌, ◌*◌, length}
use Rattle.script_statements.proofs.expressions.+expressions.Given as goal

abbrev pub decreases-item : goal.decreases-item
decreases-item l = 3 * length l.cursor.now

abbrev pub decreases-operands : goal.decreases-operands
decreases-operands l = 3 * length l.cursor.now + 1

abbrev pub decreases-operation : goal.decreases-operation
decreases-operation l = 3 * length l.cursor.now + 2
