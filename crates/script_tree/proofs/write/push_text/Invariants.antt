use Rattle.std.proofs.Common.{◌≡◌, ◌≤◌, ◌∷◌, ◌++◌, take, vec_capacity}
use Rattle.std.specs.List.{flat_map}
use Rattle.spec_script.specs.Bytes.{quote}
use Rattle.spec_script.specs.Spelling.{item_spelling}
use Rattle.script_tree.proofs.write.push_text.Given as goal

abbrev pub invariant-loop-item : goal.invariant-loop-item
invariant-loop-item l = record {
  so_far : l.out.items ≡ l.fn.out.items ++ quote ∷ flat_map item_spelling (take l.item-index l.text);
  capacity : vec_capacity l.fn.out ≤ vec_capacity l.out;
}
