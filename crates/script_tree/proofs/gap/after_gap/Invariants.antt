use Rattle.std.proofs.Common.{◌≡◌, ◌≤◌, ◌-◌, length, drop, false}
use Rattle.spec_script.specs.Reading.{past_gap}
use Rattle.script_tree.proofs.gap.after_gap.Given as goal

abbrev pub invariant-loop-at : goal.invariant-loop-at
invariant-loop-at l = record {
  within : l.at ≤ length l.bytes;
  behind : l.fn.begin ≤ l.at;
  same : past_gap l.in_comment l.at (drop l.at l.bytes) ≡ past_gap false l.fn.begin (drop l.fn.begin l.bytes);
}

abbrev pub decreases-loop-at : goal.decreases-loop-at
decreases-loop-at l = length l.bytes - l.at
