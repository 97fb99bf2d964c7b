use Rattle.std.proofs.Common.{◌≡◌, ◌++◌, length}
use Rattle.spec_script.specs.Reads.{Made, gives, ◌>>>◌}
use Rattle.spec_script.specs.Declarations.{workers}
use Rattle.script_draft.specs.Ahead.{ahead, IsWithin}
use Rattle.script_declarations.proofs.declarations.workers.Given as goal

abbrev pub invariant-loop-cursor : goal.invariant-loop-cursor
invariant-loop-cursor l = record {
  within : IsWithin l.initial.cursor l.cursor;
  rest : (made : Made) → workers l.bodies 0 (ahead l.initial.cursor) made ≡ (workers l.bodies (length l.numbers.items) (ahead l.cursor) >>> λ others. gives (l.numbers.items ++ others)) made;
}

abbrev pub decreases-loop-cursor : goal.decreases-loop-cursor
decreases-loop-cursor l = length l.cursor
