-- Laws of joining, of the raises that code can hold.
use Rattle.std.specs.Prelude.{⊤, ◌≡◌, ◌≢◌, ◌≤◌, ◌||◌, Bool, true, false, nat_lt, List, ◌++◌, length, take, filter}
use Rattle.eio_value.specs.declared.plain.Member.{Member}
use Rattle.eio_value.specs.declared.raised.Raised.{Raised}
use Rattle.eio_value.specs.declared.raised.Raised.TheVariants.{One, Cancelled, Many}
use Rattle.eio_value.specs.Several.{Several, AreDistinct}
use Rattle.eio_value.specs.Joining.{members_of, is_cut, is_new_to, combine}

-- two to eight members with distinct serials
pub record AreTwoToEight (several : Several) : Type 0 where
  pub least : 2 ≤ length several.members
  pub most : length several.members ≤ 8
  pub distinct : AreDistinct several.members

-- a raise that code can hold: where several are raised, they are two to eight with distinct serials
abbrev pub IsHeld : Raised → Type 0
IsHeld (Many several) = AreTwoToEight several
IsHeld raised = ⊤

abbrev pub is_cancelled : Raised → Bool
is_cancelled (Cancelled member) = true
is_cancelled raised = false

-- what is cancelled and what stands alone are two raises
abbrev pub AreApart : Raised → Raised → Type 0
AreApart (Cancelled m) (One n) = m.serial ≢ n.serial
AreApart a b = ⊤

-- both sides, and behind the first what is new of the second
abbrev pub all_members : Raised → Raised → List Member
all_members a b = members_of a ++ filter (is_new_to (members_of a)) (members_of b)

-- what raises become together that code can hold, code can hold: never more than eight members, each raise once
abbrev pub CombineIsHeld : Type 0
CombineIsHeld = (a b : Raised) → IsHeld a → IsHeld b → IsHeld (combine a b)

-- the members stand in order of arrival, and that some are left out is said
pub record AreInOrder (a b : Raised) : Type 0 where
  pub members : members_of (combine a b) ≡ take 8 (all_members a b)
  pub cut : is_cut (combine a b) ≡ ((is_cut a || is_cut b) || nat_lt 8 (length (all_members a b)))

abbrev pub CombineIsInOrder : Type 0
CombineIsInOrder = (a b : Raised) → IsHeld a → IsHeld b → is_cancelled a ≡ false → is_cancelled b ≡ false → AreInOrder a b

-- a raise joined with itself is that raise
abbrev pub CombineWithItself : Type 0
CombineWithItself = (a : Raised) → IsHeld a → combine a a ≡ a

-- what is cancelled leaves what came before it, and gives way to what comes behind it, unless both are one raise
pub record GivesWay (m : Member) (b : Raised) : Type 0 where
  pub behind : combine b (Cancelled m) ≡ b
  pub before : is_cancelled b ≡ false → AreApart (Cancelled m) b → combine (Cancelled m) b ≡ b

abbrev pub CancelledGivesWay : Type 0
CancelledGivesWay = (m : Member) (b : Raised) → GivesWay m b

-- in which order three raises are joined makes no difference where neighbours are apart
abbrev pub CombineInAnyGrouping : Type 0
CombineInAnyGrouping = (a b c : Raised) → IsHeld a → IsHeld b → IsHeld c → AreApart a b → AreApart b c → combine (combine a b) c ≡ combine a (combine b c)
