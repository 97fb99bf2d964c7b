use Rattle.std.proofs.Common.{◌≡◌, ◌++◌, take, drop}
use Rattle.spec_parts.specs.Directories.{with_entry}
use Rattle.path_cap.proofs.directory.put_in_order.Given as goal

abbrev pub invariant-loop-at : goal.invariant-loop-at
invariant-loop-at l = (l.entries.items ≡ l.initial.entries.items) × (with_entry l.item l.entries.items ≡ take l.at l.entries.items ++ with_entry l.item (drop l.at l.entries.items))
