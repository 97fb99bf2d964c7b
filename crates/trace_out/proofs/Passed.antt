-- What a buffer passes on in several calls, and which front of it where a sink fails.
use Rattle.std.proofs.Common.{◌≡◌, ℕ, ◌+◌, ◌-◌, ◌≤◌, List, [], ◌++◌, take, drop, subst, sym, ap, refl, ◌∙◌, append_assoc, append-nil, arith}
use Rattle.std.proofs.lemmas.List.{take-append-drop}
use Rattle.std.proofs.Math.Seq.{take-add}
use Rattle.std.proofs.KnownBytes.{Appends-nil, Appends-trans}
use Rattle.std.specs.Prelude.{Result, Ok, Err, OnErr}
use Rattle.std.specs.declared.option.Option.{Option}
use Rattle.std.specs.Io.KnownBytes.{Appends}
use Rattle.trace_out.specs.Causes.{AppendsFront}
use Rattle.trace_out.specs.Passing.{PassesOn}
use Rattle.trace_out.proofs.Appended.{front_after, front_longer, front_of_whole}

-- nothing was put
pub passes_none : (a : Option (List ℕ)) (p : List ℕ) → PassesOn a a p [] p
passes_none a p = record { written = []; appended = Appends-nil a; whole = sym (append-nil p) }

-- bytes that are held back besides
pub passes_held : (a : Option (List ℕ)) (p xs : List ℕ) → PassesOn a a p xs (p ++ xs)
passes_held a p xs = record { written = []; appended = Appends-nil a; whole = refl }

-- all was written that was held back with these bytes behind it
pub passes_filled : (a b : Option (List ℕ)) (p xs filled r : List ℕ) → filled ≡ p ++ xs → Appends a b filled → r ≡ [] → PassesOn a b p xs r
passes_filled a b p xs filled r is all none = record { written = filled; appended = all; whole = ap (λ bs. filled ++ bs) none ∙ (append-nil filled ∙ is) }

-- first some and then more
module _ (a b c : Option (List ℕ)) (p xs q ys : List ℕ) (first : PassesOn a b p xs q) where
  whole_of : first.written ++ (q ++ ys) ≡ p ++ (xs ++ ys)
  whole_of = sym (append_assoc first.written q ys) ∙ (ap (λ bs. bs ++ ys) first.whole ∙ append_assoc p xs ys)

  pub passes_more : (r : List ℕ) → PassesOn b c q ys r → PassesOn a c p (xs ++ ys) r
  passes_more r second = record {
    written = first.written ++ second.written;
    appended = Appends-trans a b c _ _ first.appended second.appended;
    whole = append_assoc first.written second.written r ∙ (ap (λ bs. first.written ++ bs) second.whole ∙ whole_of);
  }

  -- what is held back and more, all of it or a front, make the whole or a front of it
  pub all_passed : Appends b c (q ++ ys) → Appends a c (p ++ (xs ++ ys))
  all_passed all = subst (Appends a c) whole_of (Appends-trans a b c _ _ first.appended all)

  pub front_passed : AppendsFront b c (q ++ ys) → AppendsFront a c (p ++ (xs ++ ys))
  front_passed front = subst (AppendsFront a c) whole_of (front_after a b c _ _ first.appended front)

-- what was written is a front of all that was put
pub front_written : (a b : Option (List ℕ)) (p xs q : List ℕ) → PassesOn a b p xs q → AppendsFront a b (p ++ xs)
front_written a b p xs q passed = subst (AppendsFront a b) passed.whole (front_longer a b passed.written q (front_of_whole a b passed.written passed.appended))

-- and then all that is held back, or a front of it
module _ (a b c : Option (List ℕ)) (p xs q : List ℕ) (passed : PassesOn a b p xs q) where
  pub all_flushed : Appends b c q → Appends a c (p ++ xs)
  all_flushed all = subst (Appends a c) passed.whole (Appends-trans a b c _ _ passed.appended all)

  pub front_flushed : AppendsFront b c q → AppendsFront a c (p ++ xs)
  front_flushed front = subst (AppendsFront a c) passed.whole (front_after a b c _ _ passed.appended front)

-- a front of bytes and then a slice of the rest
module _ (a b c : Option (List ℕ)) (p q bs : List ℕ) (n to : ℕ) (forward : n ≤ to) (first : PassesOn a b p (take n bs) q) where
  slice_is : take n bs ++ take (to - n) (drop n bs) ≡ take to bs
  slice_is = (let whole : n + (to - n) ≡ to = omega arith in sym (take-add n (to - n) bs) ∙ ap (λ m. take m bs) whole)

  pub passes_slice : (r : List ℕ) → PassesOn b c q (take (to - n) (drop n bs)) r → PassesOn a c p (take to bs) r
  passes_slice r second = subst (λ (xs : List ℕ). PassesOn a c p xs r) slice_is (passes_more a b c p _ q _ first r second)

  pub front_slice : AppendsFront b c (q ++ take (to - n) (drop n bs)) → AppendsFront a c (p ++ bs)
  front_slice front = (
      let till : AppendsFront a c (p ++ take to bs) = subst (λ (xs : List ℕ). AppendsFront a c (p ++ xs)) slice_is (front_passed a b c p _ q _ first front) in
      subst (AppendsFront a c) (append_assoc p (take to bs) (drop to bs) ∙ ap (λ xs. p ++ xs) (take-append-drop to bs)) (front_longer a c _ (drop to bs) till))

-- what holds anyway holds at an error
pub at_error : {T E P : Type 0} (result : Result T E) → P → OnErr result P
at_error (Ok x) holds = tt
at_error (Err e) holds = holds
