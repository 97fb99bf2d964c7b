-- Exceptions that were raised together: their members in order of arrival, and whether others were left out.
use Rattle.std.specs.Prelude.{◌≢◌, ℕ, Bool, ◌||◌, nat_lt, List, [], ◌∷◌, length, take}
use Rattle.std.specs.List.{AllPairs}
use Rattle.eio_value.specs.declared.plain.Member.{Member}
use Rattle.eio_value.specs.declared.plain.Plain.{Plain}
use Rattle.eio_value.specs.declared.plain.Plain.TheVariants.{Exit}

-- what contracts see of `Members`
pub record Several : Type 0 where
  pub members : List Member
  pub cut : Bool

-- another raise than the one with this number
abbrev pub HasOtherSerial : ℕ → Member → Type 0
HasOtherSerial serial member = member.serial ≢ serial

-- no two members are the same raise
abbrev pub AreDistinct : List Member → Type 0
AreDistinct members = AllPairs (λ a b. a.serial ≢ b.serial) members

-- what the first of them is; `Exit` where there is none, which `Members` never is
abbrev pub first_what : Several → Plain
first_what several = elim several.members [ [] ↦ Exit | member ∷ members ↦ member.what ]

-- the first eight of these members; whether any is left out, or was before
abbrev pub first_eight : List Member → Bool → Several
first_eight members cut = record { members = take 8 members; cut = cut || nat_lt 8 (length members) }
