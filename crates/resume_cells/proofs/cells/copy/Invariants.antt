use Rattle.std.proofs.Common.{◌≡◌, length, take}
use Rattle.std.specs.Mem.Slots.{slots_items}
use Rattle.resume_cells.proofs.cells.copy.Given as goal

abbrev pub invariant-loop-i : goal.invariant-loop-i
invariant-loop-i l = (length l.words ≡ length l.initial.words) × (take l.i l.words ≡ take l.i (slots_items l.closed.words))
