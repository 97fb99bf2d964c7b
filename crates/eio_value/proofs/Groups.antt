-- Lists of members that are joined: what is new to both sides, how many are left, and either grouping.
use Rattle.std.specs.Prelude.{◌≡◌, ◌≢◌, ℕ, suc, ◌+◌, ◌<◌, ◌≤◌, Bool, true, false, ◌==◌, ◌||◌, ◌&&◌, not, nat_lt, List, [], ◌∷◌, ◌++◌, length, take, drop, filter, slice_index_or, All, refl}
use Rattle.std.proofs.Common.{ap, sym, ◌∙◌, cond, ⊎_elim, append_assoc, arith}
use Rattle.std.proofs.lemmas.Bool.{both_ways, cases_lt, ne_eqb, eqb-true, eqb-false, lt-ltb, le-ltb, and_right, or_parts, not-true}
use Rattle.std.proofs.lemmas.List.{length-append, length-take, get_or-take, take_all, take-take, take-append-le, take-append-drop}
use Rattle.std.proofs.lemmas.List.Elements.{All-append, filter-append, filter_agree, filter_passes}
use Rattle.std.proofs.lemmas.List.Folds.{list_any-append}
use Rattle.std.proofs.lemmas.List.Kept.{AllPairs-cons, AllPairs-filter}
use Rattle.eio_value.specs.declared.plain.Member.{Member}
use Rattle.eio_value.specs.Several.{AreDistinct}
use Rattle.eio_value.specs.Joining.{is_new_to}
use Rattle.eio_value.proofs.JoiningLemmas.{has_serial, head_apart, tail_distinct, filter_alike}

-- the first, and behind them what is new of the second
abbrev pub both : List Member → List Member → List Member
both xs ys = xs ++ filter (is_new_to xs) ys

-- whether these are more than eight
abbrev pub over : List Member → Bool
over xs = nat_lt 8 (length xs)

-- Either grouping

-- a raise that isn't among the first is among what is new of the second where it is among the second
among_new : (xs ys : List Member) (serial : ℕ) → has_serial xs serial ≡ false → has_serial (filter (is_new_to xs) ys) serial ≡ has_serial ys serial
among_new xs [] serial none = refl
among_new xs (y ∷ ys) serial none = by (has_serial xs y.serial) refl (among_new xs ys serial none)
  where
    by : (old : Bool) → has_serial xs y.serial ≡ old → has_serial (filter (is_new_to xs) ys) serial ≡ has_serial ys serial → has_serial (filter (is_new_to xs) (y ∷ ys)) serial ≡ has_serial (y ∷ ys) serial
    by false e rest = ap (λ b. has_serial (cond (not b) (y ∷ filter (is_new_to xs) ys) (filter (is_new_to xs) ys)) serial) e ∙ ap (λ b. (y.serial == serial) || b) rest
    by true e rest =
        let other : (y.serial == serial) ≡ false = ne_eqb _ _ (λ same. both_ways (has_serial xs serial) none (ap (has_serial xs) (sym same) ∙ e)) in
        ap (λ b. has_serial (cond (not b) (y ∷ filter (is_new_to xs) ys) (filter (is_new_to xs) ys)) serial) e ∙ (rest ∙ ap (λ b. b || has_serial ys serial) (sym other))

and_true : (b : Bool) → (b && true) ≡ b
and_true true = refl
and_true false = refl

-- what is new to both sides is new to each
new_to_both : (xs ys : List Member) (z : Member) → is_new_to (both xs ys) z ≡ (is_new_to ys z && is_new_to xs z)
new_to_both xs ys z = by (has_serial xs z.serial) refl
  where
    parts : has_serial (both xs ys) z.serial ≡ (has_serial xs z.serial || has_serial (filter (is_new_to xs) ys) z.serial)
    parts = list_any-append (λ other. other.serial == z.serial) xs (filter (is_new_to xs) ys)

    by : (old : Bool) → has_serial xs z.serial ≡ old → is_new_to (both xs ys) z ≡ (is_new_to ys z && is_new_to xs z)
    by true e = ap not (parts ∙ ap (λ b. b || has_serial (filter (is_new_to xs) ys) z.serial) e) ∙ sym (and_right (is_new_to ys z) (is_new_to xs z) (ap not e))
    by false e = ap not (parts ∙ (ap (λ b. b || has_serial (filter (is_new_to xs) ys) z.serial) e ∙ among_new xs ys z.serial e)) ∙ sym (ap (λ b. is_new_to ys z && not b) e ∙ and_true (is_new_to ys z))

-- what passes two tests, one behind the other, passes both
filter_twice : {X : Type 0} (p q : X → Bool) (xs : List X) → filter p (filter q xs) ≡ filter (λ x. q x && p x) xs
filter_twice p q [] = refl
filter_twice {X} p q (x ∷ xs) = by (q x) refl (filter_twice p q xs)
  where
    by : (b : Bool) → q x ≡ b → filter p (filter q xs) ≡ filter (λ y. q y && p y) xs → filter p (filter q (x ∷ xs)) ≡ filter (λ y. q y && p y) (x ∷ xs)
    by true e rest = ap (λ b. filter p (cond b (x ∷ filter q xs) (filter q xs))) e ∙ (ap (λ ys. cond (p x) (x ∷ ys) ys) rest ∙ ap (λ b. cond (b && p x) (x ∷ filter (λ y. q y && p y) xs) (filter (λ y. q y && p y) xs)) (sym e))
    by false e rest = ap (λ b. filter p (cond b (x ∷ filter q xs) (filter q xs))) e ∙ (rest ∙ ap (λ b. cond (b && p x) (x ∷ filter (λ y. q y && p y) xs) (filter (λ y. q y && p y) xs)) (sym e))

pub both_grouped : (xs ys zs : List Member) → both (both xs ys) zs ≡ both xs (both ys zs)
both_grouped xs ys zs =
    let new : filter (is_new_to (both xs ys)) zs ≡ filter (is_new_to xs) (filter (is_new_to ys) zs) = filter_agree (is_new_to (both xs ys)) (λ z. is_new_to ys z && is_new_to xs z) (new_to_both xs ys) zs ∙ sym (filter_twice (is_new_to xs) (is_new_to ys) zs) in
    ap (λ ws. both xs ys ++ ws) new ∙ (append_assoc xs (filter (is_new_to xs) ys) (filter (is_new_to xs) (filter (is_new_to ys) zs)) ∙ ap (λ ws. xs ++ ws) (sym (filter_append-new xs ys zs)))
  where
    filter_append-new : (xs ys zs : List Member) → filter (is_new_to xs) (both ys zs) ≡ filter (is_new_to xs) ys ++ filter (is_new_to xs) (filter (is_new_to ys) zs)
    filter_append-new xs ys zs = filter-append (is_new_to xs) ys (filter (is_new_to ys) zs)

-- How many are new

one_more : (b : Bool) (x : Member) (xs : List Member) → length (cond b (x ∷ xs) xs) ≤ length xs + 1
one_more true x xs = omega arith
one_more false x xs = omega arith

-- that one more is among the first makes at most one fewer new
one_fewer : (m : Member) (xs ys : List Member) → AreDistinct ys → length (filter (is_new_to xs) ys) ≤ length (filter (is_new_to (m ∷ xs)) ys) + 1
one_fewer m xs [] distinct = omega arith
one_fewer m xs (y ∷ ys) distinct = by (m.serial == y.serial) refl (has_serial xs y.serial) refl (one_fewer m xs ys (tail_distinct y ys distinct))
  where
    by : (here : Bool) → (m.serial == y.serial) ≡ here → (old : Bool) → has_serial xs y.serial ≡ old → length (filter (is_new_to xs) ys) ≤ length (filter (is_new_to (m ∷ xs)) ys) + 1 → length (filter (is_new_to xs) (y ∷ ys)) ≤ length (filter (is_new_to (m ∷ xs)) (y ∷ ys)) + 1
    by true e old o rest =
        let others : All (λ w. is_new_to xs w ≡ is_new_to (m ∷ xs) w) ys = λ k d less.
        ap (λ b. not (b || has_serial xs (slice_index_or ys k d).serial)) (sym (ne_eqb m.serial (slice_index_or ys k d).serial (λ same. head_apart y ys distinct k d less (sym (eqb-true _ _ e) ∙ same)))) in
        let alike : filter (is_new_to xs) ys ≡ filter (is_new_to (m ∷ xs)) ys = filter_alike (is_new_to xs) (is_new_to (m ∷ xs)) ys others in
        let ours : length (filter (is_new_to (m ∷ xs)) (y ∷ ys)) ≡ length (filter (is_new_to (m ∷ xs)) ys) = ap (λ b. length (cond (not (b || has_serial xs y.serial)) (y ∷ filter (is_new_to (m ∷ xs)) ys) (filter (is_new_to (m ∷ xs)) ys))) e in
        omega (arith, one_more (is_new_to xs y) y (filter (is_new_to xs) ys), ap length alike, ours)
    by false e true o rest =
        let theirs : length (filter (is_new_to xs) (y ∷ ys)) ≡ length (filter (is_new_to xs) ys) = ap (λ b. length (cond (not b) (y ∷ filter (is_new_to xs) ys) (filter (is_new_to xs) ys))) o in
        let ours : length (filter (is_new_to (m ∷ xs)) (y ∷ ys)) ≡ length (filter (is_new_to (m ∷ xs)) ys) = λ j. length (cond (not (e j || o j)) (y ∷ filter (is_new_to (m ∷ xs)) ys) (filter (is_new_to (m ∷ xs)) ys)) in
        omega (arith, theirs, ours, rest)
    by false e false o rest =
        let theirs : length (filter (is_new_to xs) (y ∷ ys)) ≡ suc (length (filter (is_new_to xs) ys)) = ap (λ b. length (cond (not b) (y ∷ filter (is_new_to xs) ys) (filter (is_new_to xs) ys))) o in
        let ours : length (filter (is_new_to (m ∷ xs)) (y ∷ ys)) ≡ suc (length (filter (is_new_to (m ∷ xs)) ys)) = λ j. length (cond (not (e j || o j)) (y ∷ filter (is_new_to (m ∷ xs)) ys) (filter (is_new_to (m ∷ xs)) ys)) in
        omega (arith, theirs, ours, rest)

all_new : (ys : List Member) → filter (is_new_to []) ys ≡ ys
all_new [] = refl
all_new (y ∷ ys) = ap (λ ws. y ∷ ws) (all_new ys)

-- of distinct raises at most as many aren't new as there are others
pub old_or_new : (xs ys : List Member) → AreDistinct ys → length ys ≤ length xs + length (filter (is_new_to xs) ys)
old_or_new [] ys distinct = omega (arith, ap length (all_new ys))
old_or_new (m ∷ xs) ys distinct = omega (arith, old_or_new xs ys distinct, one_fewer m xs ys distinct)

-- Distinct raises

distinct_append : (xs ys : List Member) → AreDistinct xs → AreDistinct ys → All (λ y. has_serial xs y.serial ≡ false) ys → AreDistinct (xs ++ ys)
distinct_append [] ys ours theirs new = theirs
distinct_append (x ∷ xs) ys ours theirs new =
    let apart : All (λ y. x.serial ≢ y.serial) ys = λ k d less same. eqb-false x.serial (slice_index_or ys k d).serial (or_parts _ _ (new k d less)).0 same in
    let rest : All (λ y. has_serial xs y.serial ≡ false) ys = λ k d less. (or_parts _ _ (new k d less)).1 in
    AllPairs-cons (λ a b. a.serial ≢ b.serial) x (xs ++ ys) (All-append (λ y. x.serial ≢ y.serial) xs ys (head_apart x xs ours) apart) (distinct_append xs ys (tail_distinct x xs ours) theirs rest)

pub distinct_both : (xs ys : List Member) → AreDistinct xs → AreDistinct ys → AreDistinct (both xs ys)
distinct_both xs ys ours theirs =
    let passes : All (λ y. is_new_to xs y ≡ true) (filter (is_new_to xs) ys) = filter_passes (is_new_to xs) ys in
    distinct_append xs (filter (is_new_to xs) ys) ours (AllPairs-filter (λ a b. a.serial ≢ b.serial) (is_new_to xs) ys theirs) (λ k d less. not-true _ (passes k d less))

pub distinct_front : (n : ℕ) (xs : List Member) → AreDistinct xs → AreDistinct (take n xs)
distinct_front n xs distinct i j d less within same =
    let inside : j < length xs = omega (arith, length-take n xs) in
    let below : j < n = omega (arith, length-take n xs) in
    let before : i < n = omega arith in
    distinct i j d less inside (ap (λ m. m.serial) (sym (get_or-take n xs i d before)) ∙ (same ∙ ap (λ m. m.serial) (get_or-take n xs j d below)))

-- Cut to eight before or behind

pub cut_before : (xs ys : List Member) → take 8 (both (take 8 xs) ys) ≡ take 8 (both xs ys)
cut_before xs ys = ⊎_elim large small (cases_lt 8 (length xs))
  where
    small : length xs ≤ 8 → take 8 (both (take 8 xs) ys) ≡ take 8 (both xs ys)
    small few = ap (λ zs. take 8 (both zs ys)) (take_all 8 xs few)

    large : 8 < length xs → take 8 (both (take 8 xs) ys) ≡ take 8 (both xs ys)
    large many =
        let enough : 8 ≤ length (take 8 xs) = omega (arith, length-take 8 xs) in
        let most : 8 ≤ length xs = omega arith in
        take-append-le 8 (take 8 xs) (filter (is_new_to (take 8 xs)) ys) enough ∙ (take-take 8 8 xs (omega arith) ∙ sym (take-append-le 8 xs (filter (is_new_to xs) ys) most))

pub over_before : (xs ys : List Member) → (over xs || over (both (take 8 xs) ys)) ≡ over (both xs ys)
over_before xs ys = ⊎_elim large small (cases_lt 8 (length xs))
  where
    small : length xs ≤ 8 → (over xs || over (both (take 8 xs) ys)) ≡ over (both xs ys)
    small few = λ j. le-ltb 8 (length xs) few j || over (both (take_all 8 xs few j) ys)

    large : 8 < length xs → (over xs || over (both (take 8 xs) ys)) ≡ over (both xs ys)
    large many = ap (λ b. b || over (both (take 8 xs) ys)) (lt-ltb 8 (length xs) many) ∙ sym (lt-ltb 8 (length (both xs ys)) (omega (arith, length-append xs (filter (is_new_to xs) ys))))

pub cut_behind : (xs ys : List Member) → AreDistinct ys → take 8 (both xs (take 8 ys)) ≡ take 8 (both xs ys)
cut_behind xs ys distinct = ⊎_elim large small (cases_lt 8 (length ys))
  where
    small : length ys ≤ 8 → take 8 (both xs (take 8 ys)) ≡ take 8 (both xs ys)
    small few = ap (λ zs. take 8 (both xs zs)) (take_all 8 ys few)

    large : 8 < length ys → take 8 (both xs (take 8 ys)) ≡ take 8 (both xs ys)
    large many =
        let front : List Member = filter (is_new_to xs) (take 8 ys) in
        let rest : List Member = filter (is_new_to xs) (drop 8 ys) in
        let enough : 8 ≤ length (both xs (take 8 ys)) = omega (arith, old_or_new xs (take 8 ys) (distinct_front 8 ys distinct), length-take 8 ys, length-append xs front) in
        let split : both xs ys ≡ both xs (take 8 ys) ++ rest = ap (both xs) (sym (take-append-drop 8 ys)) ∙ (ap (λ zs. xs ++ zs) (filter-append (is_new_to xs) (take 8 ys) (drop 8 ys)) ∙ sym (append_assoc xs front rest)) in
        sym (ap (take 8) split ∙ take-append-le 8 (both xs (take 8 ys)) rest enough)

pub over_behind : (xs ys : List Member) → AreDistinct ys → (over ys || over (both xs (take 8 ys))) ≡ over (both xs ys)
over_behind xs ys distinct = ⊎_elim large small (cases_lt 8 (length ys))
  where
    small : length ys ≤ 8 → (over ys || over (both xs (take 8 ys))) ≡ over (both xs ys)
    small few = λ j. le-ltb 8 (length ys) few j || over (both xs (take_all 8 ys few j))

    large : 8 < length ys → (over ys || over (both xs (take 8 ys))) ≡ over (both xs ys)
    large many = ap (λ b. b || over (both xs (take 8 ys))) (lt-ltb 8 (length ys) many) ∙ sym (lt-ltb 8 (length (both xs ys)) (omega (arith, old_or_new xs ys distinct, length-append xs (filter (is_new_to xs) ys))))
