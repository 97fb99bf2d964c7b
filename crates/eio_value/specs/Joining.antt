-- What two exceptions become that were raised together.
-- The members are kept in order of arrival, each raise once, and at most eight of them. What is cancelled gives way to any other exception.
use Rattle.std.specs.Prelude.{ℕ, Bool, true, false, ◌||◌, ◌==◌, not, nat_lt, List, [], ◌∷◌, ◌++◌, length, take, filter, Option, Some, None}
use Rattle.std.specs.List.{list_any}
use Rattle.eio_value.specs.declared.plain.Member.{Member}
use Rattle.eio_value.specs.declared.raised.Raised.{Raised}
use Rattle.eio_value.specs.declared.raised.Raised.TheVariants.{One, Cancelled, Many}

-- the members of what is raised
abbrev pub members_of : Raised → List Member
members_of (One member) = member ∷ []
members_of (Cancelled member) = member ∷ []
members_of (Many several) = several.members

-- whether others were left out
abbrev pub is_cut : Raised → Bool
is_cut (One member) = false
is_cut (Cancelled member) = false
is_cut (Many several) = several.cut

-- what these members are together: a single one stands alone
abbrev pub raised_of : List Member → Bool → Raised
raised_of (member ∷ []) cut = One member
raised_of members cut = Many (record { members = members; cut = cut })

-- the serial of what stands alone
abbrev pub lone_serial : Raised → Option ℕ
lone_serial (One member) = Some member.serial
lone_serial (Cancelled member) = Some member.serial
lone_serial (Many several) = None

-- both stand alone, with one serial
abbrev pub are_one_raise : Raised → Raised → Bool
are_one_raise a b = elim (lone_serial a) [
  | None ↦ false
  | Some m ↦ elim (lone_serial b) [ None ↦ false | Some n ↦ m == n ]
]

-- a raise that isn't among these members
abbrev pub is_new_to : List Member → Member → Bool
is_new_to members member = not (list_any (λ other. other.serial == member.serial) members)

-- the first eight of these members; whether any is left out, or was before
abbrev pub at_most_eight : List Member → Bool → Raised
at_most_eight members cut = raised_of (take 8 members) (cut || nat_lt 8 (length members))

-- two different raises: of two that are cancelled the first; of one that is cancelled and one that isn't the other;
-- else the members of the first, and behind them those of the second that are new
abbrev pub joined : Raised → Raised → Raised
joined (Cancelled m) (Cancelled n) = Cancelled m
joined (Cancelled m) b = b
joined a (Cancelled n) = a
joined a b = at_most_eight (members_of a ++ filter (is_new_to (members_of a)) (members_of b)) (is_cut a || is_cut b)

-- one raise joined with itself is that raise
abbrev pub combine : Raised → Raised → Raised
combine a b = elim (are_one_raise a b) [ true ↦ a | false ↦ joined a b ]
