use Rattle.std.proofs.Common.{refl}
use Rattle.cli_program.proofs.Behind.{at_end, column_of, line_of, passed}
use Rattle.cli_program.proofs.line_column.place_after.Goals as goal

pub loop-byte-preserved : goal.loop-byte-preserved
loop-byte-preserved c = record {
  line = line_of _ _ _ _ c.after-place.ensures c.loop-byte.invariant.line;
  column = column_of _ _ _ _ c.after-place.ensures c.loop-byte.invariant.column;
  rest = passed _ _ _ c.args.bytes.now c.loop-byte.byte-index _ c.loop-byte-test.true refl c.after-place.ensures c.loop-byte.invariant.rest;
}

pub returns-clause-place : goal.returns-clause-place
returns-clause-place c = at_end _ _ c.args.bytes.now c.loop-byte.byte-index c.loop-byte-test.false c.loop-byte.invariant.rest
