use Rattle.std.proofs.Common.{length}
use Rattle.script_draft.specs.Ahead.{IsWithin}
use Rattle.script_lang.proofs.reader.+skip.Given as goal

abbrev pub decreases-skip : goal.decreases-skip
decreases-skip l = length l.cursor.now

abbrev pub invariant-loop-cursor : goal.invariant-loop-cursor
invariant-loop-cursor l = IsWithin l.initial.cursor l.cursor

abbrev pub decreases-loop-cursor : goal.decreases-loop-cursor
decreases-loop-cursor l = length l.cursor
