-- What two exceptions become together is held where both are: each of its members is one of theirs.
use Rattle.std.proofs.Common.{Bool, true, false, ◌||◌, nat_lt, List, [], ◌∷◌, ◌++◌, length, take, filter, Option, Some, None, IfSome}
use Rattle.std.specs.List.{AllByRecursion as Each}
use Rattle.eio_value.specs.Joining.{members_of, is_cut, raised_of, are_one_raise, is_new_to, at_most_eight, combine}
use Rattle.eio_value.specs.Joining as joining
use Rattle.eio_value.specs.declared.plain.Member.{Member}
use Rattle.eio_value.specs.declared.raised.Raised.{Raised}
use Rattle.eio_value.specs.declared.raised.Raised.TheVariants.{One, Cancelled, Many}
use Rattle.spec_parts.specs.Errors as errors
use Rattle.law_fiber.specs.Texts.Texts.{Held, IsHeldRaised}
use Rattle.law_fiber.proofs.Texts.Lists.{each_append, each_take, each_filter}

module _ (held : Held) where
  abbrev IsHeldMember : Member → Type 0
  IsHeldMember member = held.exception member.what

  members_held : (r : Raised) → IsHeldRaised held r → Each IsHeldMember (members_of r)
  members_held (One member) is = (is, tt)
  members_held (Cancelled member) is = (is, tt)
  members_held (Many several) is = is

  raised_held : (members : List Member) (cut : Bool) → Each IsHeldMember members → IsHeldRaised held (raised_of members cut)
  raised_held [] cut are = tt
  raised_held (member ∷ []) cut are = are.0
  raised_held (member ∷ (other ∷ others)) cut are = are

  all_held : (a b : Raised) → IsHeldRaised held a → IsHeldRaised held b
      → IsHeldRaised held (at_most_eight (members_of a ++ filter (is_new_to (members_of a)) (members_of b)) (is_cut a || is_cut b))
  all_held a b first second =
      let all = members_of a ++ filter (is_new_to (members_of a)) (members_of b) in
      raised_held (take 8 all) ((is_cut a || is_cut b) || nat_lt 8 (length all))
      (each_take IsHeldMember 8 all
      (each_append IsHeldMember (members_of a) (filter (is_new_to (members_of a)) (members_of b)) (members_held a first)
      (each_filter IsHeldMember (is_new_to (members_of a)) (members_of b) (members_held b second))))

  joined_held : (a b : Raised) → IsHeldRaised held a → IsHeldRaised held b → IsHeldRaised held (joining.joined a b)
  joined_held (Cancelled m) (Cancelled n) first second = first
  joined_held (Cancelled m) (One n) first second = second
  joined_held (Cancelled m) (Many several) first second = second
  joined_held (One m) (Cancelled n) first second = first
  joined_held (Many several) (Cancelled n) first second = first
  joined_held (One m) (One n) first second = all_held (One m) (One n) first second
  joined_held (One m) (Many several) first second = all_held (One m) (Many several) first second
  joined_held (Many several) (One n) first second = all_held (Many several) (One n) first second
  joined_held (Many several) (Many more) first second = all_held (Many several) (Many more) first second

  combine_held : (a b : Raised) → IsHeldRaised held a → IsHeldRaised held b → IsHeldRaised held (combine a b)
  combine_held a b first second = by (are_one_raise a b)
    where
      by : (one : Bool) → IsHeldRaised held (elim one [ true ↦ a | false ↦ joining.joined a b ])
      by true = first
      by false = joined_held a b first second

  -- the errors of a switch or a group, with one more
  pub errors_held : (before : Option Raised) (r : Raised) → IfSome before (IsHeldRaised held) → IsHeldRaised held r → IsHeldRaised held (errors.joined before r)
  errors_held None r is one = one
  errors_held (Some before) r is one = combine_held before r is one
