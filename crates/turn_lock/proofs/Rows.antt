-- The definitions on worked histories.
use Rattle.std.proofs.Common.{◌≡◌, ℕ, List, [], ◌∷◌, refl}
use Rattle.turn_lock.specs.History.{entries, entries_by, StartsWith}
use Rattle.turn_lock.specs.Numbers.{weight}
use Rattle.turn_lock.specs.Rule.{first_view}
use Rattle.turn_lock.specs.Steps.{dealer, dealt, spent}

-- two passes, of which the second made two entries
abbrev worked : List (ℕ × ℕ)
worked = (1, 7) ∷ (0, 5) ∷ (1, 6) ∷ []

all_entries : entries worked ≡ 7 ∷ 5 ∷ 6 ∷ []
all_entries = refl

first_pass : entries_by 0 worked ≡ 5 ∷ []
first_pass = refl

second_pass : entries_by 1 worked ≡ 7 ∷ 6 ∷ []
second_pass = refl

no_pass : entries_by 2 worked ≡ []
no_pass = refl

begins : StartsWith worked ((1, 7) ∷ [])
begins = ((0, 5) ∷ (1, 6) ∷ [], refl)

-- the first of three passes stands for all, and deals them one by one
three : weight (first_view {E = ℕ} 3) ≡ 3
three = refl

one_dealt : weight (dealer (first_view {E = ℕ} 3)) ≡ 1
one_dealt = refl

two_left : weight (dealt (first_view {E = ℕ} 3)) ≡ 2
two_left = refl

second : (dealt (first_view {E = ℕ} 3)).number ≡ 1
second = refl

none_left : weight (spent {E = ℕ}) ≡ 0
none_left = refl
