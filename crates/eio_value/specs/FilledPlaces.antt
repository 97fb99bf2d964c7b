-- An array of eight places that is filled from the front: what stands in the first places, and one blank in all others.
use Rattle.std.specs.Prelude.{◌≡◌, ℕ, ◌-◌, ◌≤◌, List, ◌++◌, length, take, drop, replicate}
use Rattle.std.proofs.Common.{take-append-drop, arith}
use Rattle.std.proofs.lemmas.Grind.{common_steps}

-- the front and its blanks are all places
pub padded_front : {A : Type 0} (blank : A) (places : List A) (n : ℕ) → length places ≡ 8 → n ≤ 8 → drop n places ≡ replicate (8 - n) blank → take n places ++ replicate (8 - length (take n places)) blank ≡ places
padded_front blank places n whole most rest =
    let count : length (take n places) ≡ n = grind (arith, common_steps) in
    rw (count, ← rest) (take-append-drop n places)

pub length_front : {A : Type 0} (places : List A) (n : ℕ) → length places ≡ 8 → n ≤ 8 → length (take n places) ≡ n
length_front places n whole most = grind (arith, common_steps)
