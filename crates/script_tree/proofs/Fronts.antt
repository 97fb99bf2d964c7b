-- Bytes at the front of others.
use Rattle.std.proofs.Common.{◌≡◌, ℕ, ◌≤◌, List, ◌++◌, length, take, drop, Result, Ok, Err, arith, ap, sym, ◌∙◌}
use Rattle.std.specs.Prelude.{OnErr}
use Rattle.std.proofs.Math.Seq.{take-length, take-append_seam}
use Rattle.std.proofs.lemmas.List.{length-take, take-append-le, take-append-drop}
use Rattle.script_tree.specs.Fronts.{IsFront}

pub front_itself : (bytes : List ℕ) → IsFront bytes bytes
front_itself bytes = record { same = take-length bytes }

pub front_appended : (front behind whole : List ℕ) → whole ≡ front ++ behind → IsFront front whole
front_appended front behind whole e = record { same = ap (take (length front)) e ∙ take-append_seam front behind }

-- what begins with bytes that begin with others begins with those too
pub front_passed : (front middle whole : List ℕ) → IsFront front middle → IsFront middle whole → IsFront front whole
front_passed front middle whole first second =
    let short : length front ≤ length middle = omega (arith, ap length first.same, length-take (length front) middle) in
    let split : whole ≡ middle ++ drop (length middle) whole = sym (take-append-drop (length middle) whole) ∙ ap (λ xs. xs ++ drop (length middle) whole) second.same in
    record { same = ap (take (length front)) split ∙ (take-append-le (length front) middle (drop (length middle) whole) short ∙ first.same) }

-- a fact that stands after a failure
pub after_err : {A E : Type 0} (P : Type 0) (r : Result A E) → P → OnErr r P
after_err P (Ok x) p = tt
after_err P (Err e) p = p
