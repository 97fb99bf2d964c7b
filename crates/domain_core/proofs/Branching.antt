-- New fibers of a group stand before all others, in order of their numbers.
use Rattle.std.proofs.Common.{◌≡◌, ℕ, zero, suc, ◌+◌, ◌-◌, ◌<◌, ◌≤◌, List, ◌∷◌, ◌++◌, length, refl, ap, ◌∙◌, arith}
use Rattle.std.proofs.lemmas.List.{length-append}
use Rattle.spec_machine.specs.GroupMoves.{numbers_from}

pub before_first : (first n : ℕ) (count : ℕ) (rest : List ℕ) → first < n → (n - 1) ∷ (numbers_from n count ++ rest) ≡ numbers_from (n - 1) (suc count) ++ rest
before_first first n count rest below = (let same : n ≡ n - 1 + 1 = omega arith in ap (λ m. (n - 1) ∷ (numbers_from m count ++ rest)) same)

pub as_many : (first count : ℕ) → length (numbers_from first count) ≡ count
as_many first zero = refl
as_many first (suc count) = ap suc (as_many (first + 1) count)

-- while some are still to be put, there is room for one
pub room_for_all : (first count n done most : ℕ) (ready rest : List ℕ) → ready ≡ numbers_from n done ++ rest → most ≡ 1024
    → first < n → n + done ≡ first + count → length rest + count ≤ 1024 → length ready < most
room_for_all first count n done most ready rest is many below all room = (
    let long : length ready ≡ done + length rest = ap (λ (xs : List ℕ). length xs) is ∙ (length-append (numbers_from n done) rest ∙ ap (λ m. m + length rest) (as_many n done)) in
    omega (arith, long, many, below, all, room))
