-- What several writes append together, and which fronts of it.
use Rattle.std.proofs.Common.{◌≡◌, ℕ, ◌+◌, ◌-◌, ◌≤◌, min, List, [], ◌++◌, length, take, drop, subst, sym, ◌∙◌, arith}
use Rattle.std.proofs.lemmas.Grind.{common_steps}
use Rattle.std.proofs.lemmas.List.{take_min, take-append-le}
use Rattle.std.proofs.Math.Seq.{take-add, take-append-add, take-length}
use Rattle.std.proofs.KnownBytes.{Appends-nil, Appends-trans}
use Rattle.std.specs.declared.option.Option.{Option}
use Rattle.std.specs.Io.KnownBytes.{Appends}
use Rattle.trace_out.specs.Causes.{AppendsFront}

-- n bytes of a text and then m bytes of its rest are n + m bytes of it
pub appends_more : (old mid new : Option (List ℕ)) (xs : List ℕ) (n m : ℕ) → Appends old mid (take n xs) → Appends mid new (take m (drop n xs)) → Appends old new (take (n + m) xs)
appends_more old mid new xs n m first second = subst (Appends old new) (sym (take-add n m xs)) (Appends-trans old mid new _ _ first second)

-- the same where the rest is a slice from a place on
pub appends_slice : (old mid new : Option (List ℕ)) (xs : List ℕ) (n m : ℕ) → n ≤ length xs → Appends old mid (take n xs) → Appends mid new (take m (take (length xs - n) (drop n xs))) → Appends old new (take (n + m) xs)
appends_slice old mid new xs n m within first second =
    let whole : take (length xs - n) (drop n xs) ≡ drop n xs = grind (arith, common_steps) in
    appends_more old mid new xs n m first (subst (λ ys. Appends mid new (take m ys)) whole second)

-- the whole is a front of itself
pub front_of_whole : (old new : Option (List ℕ)) (bs : List ℕ) → Appends old new bs → AppendsFront old new bs
front_of_whole old new bs whole = (length bs, subst (Appends old new) (sym (take-length bs)) whole)

-- nothing is a front of everything
pub front_none : (old : Option (List ℕ)) (bs : List ℕ) → AppendsFront old old bs
front_none old bs =
    let none : [] ≡ take 0 bs = grind (arith, common_steps) in
    (0, subst (Appends old old) none (Appends-nil old))

-- a front of ys behind the whole of xs is a front of both
pub front_after : (old mid new : Option (List ℕ)) (xs ys : List ℕ) → Appends old mid xs → AppendsFront mid new ys → AppendsFront old new (xs ++ ys)
front_after old mid new xs ys first (n, second) =
    let both = Appends-trans old mid new _ _ first second in
    (length xs + n, subst (Appends old new) (sym (take-append-add xs ys n)) both)

-- a front of xs is a front of whatever begins with xs
pub front_longer : (old new : Option (List ℕ)) (xs ys : List ℕ) → AppendsFront old new xs → AppendsFront old new (xs ++ ys)
front_longer old new xs ys (n, front) =
    let m = min n (length xs) in
    let same : take n xs ≡ take m (xs ++ ys) = sym (take_min n xs) ∙ sym (take-append-le m xs ys (omega arith)) in
    (m, subst (Appends old new) same front)
