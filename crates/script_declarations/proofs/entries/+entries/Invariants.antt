use Rattle.std.proofs.Common.{◌≡◌, ◌+◌, ◌*◌, [], length}
use Rattle.spec_script.specs.Entries.{entries}
use Rattle.spec_script.specs.Reads.{gives, ◌>>>◌}
use Rattle.script_draft.specs.Ahead.{ahead, IsWithin}
use Rattle.script_draft.specs.Drafts.{made_of}
use Rattle.script_declarations.specs.EntriesRead.{names_in, listed}
use Rattle.script_declarations.proofs.entries.+entries.Given as goal

abbrev pub decreases-entries : goal.decreases-entries
decreases-entries l = 3 * length l.cursor.now + 2

abbrev pub decreases-entry : goal.decreases-entry
decreases-entry l = 3 * length l.cursor.now

abbrev pub decreases-named : goal.decreases-named
decreases-named l = 3 * length l.cursor.now + 1

abbrev pub invariant-entries-loop-cursor : goal.invariant-entries-loop-cursor
invariant-entries-loop-cursor l = record {
  within : IsWithin l.initial.cursor l.cursor;
  nodes : l.draft.nodes ≡ l.initial.draft.nodes;
  rest : entries [] (ahead l.initial.cursor) (made_of l.initial.draft) ≡ (entries (names_in l.list.items) (ahead l.cursor) >>> λ others. gives (listed l.list.items others)) (made_of l.draft);
}

abbrev pub decreases-entries-loop-cursor : goal.decreases-entries-loop-cursor
decreases-entries-loop-cursor l = length l.cursor
