use Rattle.std.proofs.Common.{◌≤◌, ◌<◌, ◌-◌, ◌+◌, ◌*◌, length, drop}
use Rattle.spec_script.specs.Reading.{tree_at, list_by}
use Rattle.script_tree.specs.Growing.{grows}
use Rattle.script_tree.proofs.Lists.{IsListRead}
use Rattle.script_tree.proofs.reader.+trees.Given as goal

abbrev pub decreases-push_list : goal.decreases-push_list
decreases-push_list l = 2 * l.lists + 1

abbrev pub decreases-push_tree : goal.decreases-push_tree
decreases-push_tree l = 2 * l.lists

abbrev pub invariant-push_list-loop-at : goal.invariant-push_list-loop-at
invariant-push_list-loop-at l = record {
  within : l.at ≤ length l.bytes;
  behind : l.paren < l.at;
  read : IsListRead (tree_at l.lists) l.bytes l.paren l.at l.draft (grows l.fn.draft (list_by (tree_at l.lists) l.paren (drop (l.paren + 1) l.bytes)));
}

abbrev pub decreases-push_list-loop-at : goal.decreases-push_list-loop-at
decreases-push_list-loop-at l = length l.bytes - l.at
