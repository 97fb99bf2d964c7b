use Rattle.std.proofs.Common.{◌≡◌, map, drop}
use Rattle.std.specs.List.{list_any}
use Rattle.std.specs.Str.{bytes_eq}
use Rattle.script_declarations.specs.EntriesRead.{own_name}
use Rattle.script_declarations.proofs.entries.is_taken.Given as goal

abbrev pub invariant-loop-entry : goal.invariant-loop-entry
invariant-loop-entry l = list_any (bytes_eq l.name) (map own_name (drop l.entry-index l.before)) ≡ list_any (bytes_eq l.name) (map own_name l.before)
