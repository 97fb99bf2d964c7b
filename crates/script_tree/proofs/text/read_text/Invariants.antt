use Rattle.std.proofs.Common.{◌≡◌, ◌≤◌, ◌<◌, ◌-◌, ◌+◌, length, drop, false}
use Rattle.spec_script.specs.Reading.{text_items}
use Rattle.script_tree.proofs.Texts.{with_front}
use Rattle.script_tree.proofs.text.read_text.Given as goal

abbrev pub invariant-loop-at : goal.invariant-loop-at
invariant-loop-at l = record {
  within : l.at ≤ length l.bytes;
  behind : l.quote < l.at;
  same : with_front l.items.items (text_items l.quote l.escaped (length l.items.items) l.at (drop l.at l.bytes)) ≡ text_items l.quote false 0 (l.quote + 1) (drop (l.quote + 1) l.bytes);
}

abbrev pub decreases-loop-at : goal.decreases-loop-at
decreases-loop-at l = length l.bytes - l.at
