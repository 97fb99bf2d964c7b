use Rattle.std.proofs.Common.{◌≡◌, ◌+◌, ◌≤◌, drop}
use Rattle.cli_program.specs.Places.{behind_all, place_behind}
use Rattle.cli_program.proofs.line_column.place_after.Given as goal

abbrev pub invariant-loop-byte : goal.invariant-loop-byte
invariant-loop-byte l = record {
  line : l.place.line ≤ l.byte-index + 1;
  column : l.place.column ≤ l.byte-index + 1;
  rest : behind_all l.place (drop l.byte-index l.bytes) ≡ place_behind l.bytes;
}
