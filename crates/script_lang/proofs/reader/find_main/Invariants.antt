use Rattle.std.proofs.Common.{◌≡◌, length}
use Rattle.script_draft.specs.Ahead.{ahead, IsWithin}
use Rattle.script_declarations.specs.DeclarationsRead.{from_main}
use Rattle.script_lang.proofs.reader.find_main.Given as goal

abbrev pub invariant-loop-cursor : goal.invariant-loop-cursor
invariant-loop-cursor l = record {
  within : IsWithin l.initial.cursor l.cursor;
  main : from_main (ahead l.cursor) ≡ from_main (ahead l.initial.cursor);
}

abbrev pub decreases-loop-cursor : goal.decreases-loop-cursor
decreases-loop-cursor l = length l.cursor
