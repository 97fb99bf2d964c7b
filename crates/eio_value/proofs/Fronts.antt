-- What stood in front of bytes to which was appended twice.
use Rattle.std.specs.Prelude.{◌≡◌, ℕ, ◌≤◌, List, ◌++◌, length, take, refl}
use Rattle.std.specs.List.{flat_map}
use Rattle.std.proofs.Common.{ap, sym, ◌∙◌, append_assoc, arith}
use Rattle.std.proofs.lemmas.List.{length-append, take_all, take-take, take_at}
use Rattle.eio_value.specs.Appending.{IsFront}

-- what stood in front of the first still stands in front of the second
pub front_before : (old text first second : List ℕ) → first ≡ old ++ text → IsFront first second → IsFront old second
front_before old text first second is front =
    let shorter : length old ≤ length first = omega (arith, ap length is, length-append old text) in
    sym (take-take (length old) (length first) second shorter) ∙ (ap (take (length old)) (front ∙ is) ∙ take_at old text (length old) refl)

-- two texts that were appended are their joined text
pub both_appended : (old a b whole first second : List ℕ) → first ≡ old ++ a → whole ≡ a ++ b → second ≡ first ++ b → second ≡ old ++ whole
both_appended old a b whole first second one is two = two ∙ (ap (λ xs. xs ++ b) one ∙ (append_assoc old a b ∙ ap (λ xs. old ++ xs) (sym is)))

-- what a loop has written at its end
pub all_written : {X : Type 0} (f : X → List ℕ) (xs : List X) (i : ℕ) (old new : List ℕ) → new ≡ old ++ flat_map f (take i xs) → length xs ≤ i → new ≡ old ++ flat_map f xs
all_written f xs i old new is end = is ∙ ap (λ ys. old ++ flat_map f ys) (take_all i xs end)
