use Rattle.std.proofs.Common.{◌≡◌, take}
use Rattle.script_code.proofs.table.copy_of.Given as goal

abbrev pub invariant-loop-number : goal.invariant-loop-number
invariant-loop-number l = l.copy ≡ take l.number l.texts
