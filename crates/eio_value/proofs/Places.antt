-- One more value in the place of the first blank.
use Rattle.std.specs.Prelude.{◌≡◌, ◌≢◌, ℕ, ◌+◌, ◌-◌, ◌<◌, ◌≤◌, List, length, take, drop, replicate, slice_set, All}
use Rattle.std.proofs.Common.{ap, subst, sym, ◌∙◌, arith}
use Rattle.std.proofs.lemmas.List.{drop-set-lt, drop-replicate, take_more_set}
use Rattle.std.proofs.lemmas.List.Quantifiers.{all_pairs_push}
use Rattle.std.proofs.Math.Seq.{drop-drop}
use Rattle.eio_value.specs.declared.plain.Member.{Member}
use Rattle.eio_value.specs.FilledPlaces.{length_front}
use Rattle.eio_value.specs.Several.{HasOtherSerial, AreDistinct}

-- the places behind it are blank as before
pub rest_after : {A : Type 0} (blank : A) (places : List A) (n : ℕ) (x : A) → length places ≡ 8 → n < 8 → drop n places ≡ replicate (8 - n) blank → drop (n + 1) (slice_set places n x) ≡ replicate (8 - (n + 1)) blank
rest_after blank places n x whole less rest =
    let past : drop (n + 1) (slice_set places n x) ≡ drop (n + 1) places = drop-set-lt (n + 1) places n x (omega arith) in
    let fewer : replicate (8 - n - 1) blank ≡ replicate (8 - (n + 1)) blank = ap (λ k. replicate k blank) (omega arith) in
    past ∙ (sym (drop-drop 1 n places) ∙ (ap (drop 1) rest ∙ (drop-replicate 1 (8 - n) blank ∙ fewer)))

-- fewer than all places are filled where the front is shorter
pub count_below : {A : Type 0} (places : List A) (n : ℕ) (front : List A) → length places ≡ 8 → n ≤ 8 → take n places ≡ front → length front < 8 → n < 8
count_below places n front whole most is_front less = let count = length_front places n whole most in subst (λ k. k < 8) count (subst (λ xs. length xs < 8) (sym is_front) less)

-- a member with a serial of its own keeps the serials distinct
pub distinct_after : (places : List Member) (n : ℕ) (x : Member) → length places ≡ 8 → n < 8 → AreDistinct (take n places) → All (HasOtherSerial x.serial) (take n places) → AreDistinct (take (n + 1) (slice_set places n x))
distinct_after places n x whole less distinct others =
    subst AreDistinct (sym (take_more_set places n x (omega (arith, whole, less)))) (all_pairs_push (λ a b. a.serial ≢ b.serial) (take n places) x distinct others)
