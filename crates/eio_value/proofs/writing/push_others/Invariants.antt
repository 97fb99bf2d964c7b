use Rattle.std.proofs.Common.{◌≡◌, ◌++◌, take}
use Rattle.std.specs.Prelude.{codes}
use Rattle.std.specs.List.{flat_map}
use Rattle.eio_value.specs.Exceptions.{plain_text}
use Rattle.eio_value.proofs.writing.push_others.Given as goal

abbrev pub invariant-loop-member : goal.invariant-loop-member
invariant-loop-member l = l.out.items ≡ l.initial.out.items ++ flat_map (λ member. codes "; " ++ plain_text l.texts member.what) (take l.member-index l.others)
