use Rattle.std.proofs.Common.{◌≡◌, map, take}
use Rattle.path_cap.proofs.directory.Directory.names.Given as goal

abbrev pub invariant-loop-item : goal.invariant-loop-item
invariant-loop-item l = map (λ name. name.items) l.names.items ≡ map (λ entry. entry.name) (take l.item-index l.item-items)
