use Rattle.std.proofs.Common.{◌≡◌, ◌+◌, ◌*◌, length}
use Rattle.spec_parts.specs.Walk as model
use Rattle.path_cap.proofs.walk.+walk.Given as goal

abbrev pub decreases-follow_link : goal.decreases-follow_link
decreases-follow_link l = 2 * l.links

abbrev pub decreases-walk : goal.decreases-walk
decreases-walk l = 2 * l.links + 1

abbrev pub invariant-walk-loop-name : goal.invariant-walk-loop-name
invariant-walk-loop-name l = model.walk l.links l.tree l.follow l.place l.left ≡ model.walk l.fn.links l.tree l.fn.follow l.fn.place l.fn.left

abbrev pub decreases-walk-loop-name : goal.decreases-walk-loop-name
decreases-walk-loop-name l = length l.left
