-- A directory in a directory has fewer entries than the whole.
use Rattle.std.specs.Prelude.{◌≤◌, max, List, [], ◌∷◌}
use Rattle.std.proofs.Common.{arith}
use denote.Param.Weighed.{most}
use Rattle.eio_value.specs.Directory.{item_count, entry_count}
use Rattle.eio_value.specs.EntriesInside.{item_of, directory_of}
use Rattle.eio_value.specs.declared.entry.Entry.{Entry}
use Rattle.eio_value.specs.declared.entry.Entry.TheVariants as entry
use Rattle.eio_value.specs.declared.entry.Entries.TheDeep.{deep-Entry}

-- no entry has as many entries as the directory that it stands in
pub deep_le-item_count : (entry : Entry) → deep-Entry entry ≤ item_count (item_of entry)
unfolding item_count
deep_le-item_count (entry.File name content) = omega arith
deep_le-item_count (entry.Link name target) = omega arith
deep_le-item_count (entry.Sub name entries) = omega arith

pub most_le-entry_count : (entries : List Entry) → max (most deep-Entry entries) 0 ≤ entry_count (directory_of entries)
unfolding entry_count
most_le-entry_count [] = omega arith
most_le-entry_count (entry ∷ entries) = omega (arith, deep_le-item_count entry, most_le-entry_count entries)
