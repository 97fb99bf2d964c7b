use Rattle.std.proofs.Common.{◌≡◌, ◌++◌, filter, take}
use Rattle.eio_value.specs.Joining.{is_new_to}
use Rattle.eio_value.specs.Several.{first_eight}
use Rattle.eio_value.proofs.joining.with_new.Given as goal

abbrev pub invariant-loop-other : goal.invariant-loop-other
invariant-loop-other l = l.joined ≡ first_eight (l.members.members ++ filter (is_new_to l.members.members) (take l.other-index l.others)) l.members.cut
