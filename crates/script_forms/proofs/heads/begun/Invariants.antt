use Rattle.std.proofs.Common.{◌≡◌, map, length}
use Rattle.script_forms.specs.Words.{begun, seen}
use Rattle.script_forms.proofs.heads.begun.Given as goal

abbrev pub invariant-loop-table : goal.invariant-loop-table
invariant-loop-table g l = begun l.word (map seen l.table) ≡ begun l.word (map seen l.fn.table)

abbrev pub decreases-loop-table : goal.decreases-loop-table
decreases-loop-table g l = length l.table
