use Rattle.std.proofs.Common.{◌≡◌, ◌≤◌, ◌+◌, ◌*◌, length, drop}
use Rattle.eio_value.specs.Directory.{entry_count, item_count}
use Rattle.eio_value.specs.EntriesInside.{directory_of, item_of}
use Rattle.spec_parts.specs.Directories.{placed}
use Rattle.path_cap.proofs.tree.DirTree.+place.Given as goal

abbrev pub decreases-place_all : goal.decreases-place_all
decreases-place_all l = 2 * entry_count (directory_of l.entries.now) + 1

abbrev pub decreases-place : goal.decreases-place
decreases-place l = 2 * item_count (item_of l.entry.now)

abbrev pub invariant-place_all-loop-entry : goal.invariant-place_all-loop-entry
invariant-place_all-loop-entry l = record {
  same : placed (directory_of (drop l.entry-index l.entries)) l.at l.self ≡ placed (directory_of l.entries) l.at l.initial.self;
  len : length l.self + entry_count (directory_of (drop l.entry-index l.entries)) ≤ length l.initial.self + entry_count (directory_of l.entries);
  fits : entry_count (directory_of (drop l.entry-index l.entries)) ≤ entry_count (directory_of l.entries);
}
