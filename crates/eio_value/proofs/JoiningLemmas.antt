-- Members that are joined one by one.
use Rattle.std.specs.Prelude.{◌≡◌, ◌≢◌, ℕ, suc, ◌+◌, ◌-◌, ◌<◌, ◌≤◌, Bool, true, false, ◌==◌, ◌||◌, not, nat_lt, List, [], ◌∷◌, ◌++◌, length, take, drop, filter, slice_index_or, All, refl}
use Rattle.std.specs.List.{list_any}
use Rattle.std.proofs.Common.{ap, subst, sym, ◌∙◌, cond, ⊎_elim, append_assoc, arith}
use Rattle.std.proofs.lemmas.Bool.{both_ways, cases_lt, eq-eqb, ne_eqb, lt-ltb, le-ltb, or_right}
use Rattle.std.proofs.lemmas.List.{append-nil, take_all, take-append-le, length_push, length-take, length-drop, get_or-take, get_or-drop, get_or_default, take_rest}
use Rattle.std.proofs.lemmas.List.Elements.{All-append, All-filter, All-take, All-head, All-tail, filter_more}
use Rattle.std.proofs.lemmas.List.Folds.{list_any_at}
use Rattle.eio_value.specs.declared.plain.Member.{Member}
use Rattle.eio_value.specs.Several.{Several, HasOtherSerial, AreDistinct, first_eight}
use Rattle.eio_value.specs.Joining.{is_new_to}

abbrev pub several : List Member → Bool → Several
several members cut = record { members = members; cut = cut }

-- whether the raise with this number is among these members
abbrev pub has_serial : List Member → ℕ → Bool
has_serial members serial = list_any (λ other. other.serial == serial) members

abbrev pub is_among : List Member → Member → Bool
is_among members member = has_serial members member.serial

-- the same, asked of a slice of these members
pub told : (ms asked : List Member) (serial : ℕ) (answer b : Bool) → asked ≡ ms → answer ≡ has_serial asked serial → answer ≡ b → has_serial ms serial ≡ b
told ms asked serial answer b same says is = ap (λ xs. has_serial xs serial) (sym same) ∙ (sym says ∙ is)

-- the first is another raise than each of the others
pub head_apart : (m : Member) (ms : List Member) → AreDistinct (m ∷ ms) → All (λ n. m.serial ≢ n.serial) ms
head_apart m ms distinct k d less = distinct 0 (suc k) d (omega arith) (omega arith)

pub tail_distinct : (m : Member) (ms : List Member) → AreDistinct (m ∷ ms) → AreDistinct ms
tail_distinct m ms distinct i j d less within = distinct (suc i) (suc j) d (omega arith) (omega arith)

-- a raise that isn't among these members is another than each of them
pub all_other : (ms : List Member) (x : Member) → is_among ms x ≡ false → All (HasOtherSerial x.serial) ms
all_other ms x new k d less same = both_ways _ new (list_any_at (λ other. other.serial == x.serial) ms k d less (eq-eqb _ _ same))

-- two tests that agree at each of these keep the same of them
pub filter_alike : {X : Type 0} (p q : X → Bool) (xs : List X) → All (λ x. p x ≡ q x) xs → filter p xs ≡ filter q xs
filter_alike p q [] alike = refl
filter_alike {X} p q (x ∷ xs) alike =
    let here : p x ≡ q x = All-head (λ y. p y ≡ q y) x xs alike in
    let rest : filter p xs ≡ filter q xs = filter_alike p q xs (All-tail (λ y. p y ≡ q y) x xs alike) in
    λ j. cond (here j) (x ∷ rest j) (rest j)

-- a member that is new has another serial than all that were joined before it
pub others_before : (joined : Several) (ms others : List Member) (cut : Bool) (i : ℕ) (d : Member) → AreDistinct others → i < length others → joined ≡ first_eight (ms ++ filter (is_new_to ms) (take i others)) cut → is_among ms (slice_index_or others i d) ≡ false → All (HasOtherSerial (slice_index_or others i d).serial) joined.members
others_before joined ms others cut i d distinct less was new =
    let x : Member = slice_index_or others i d in
    let P : Member → Type 0 = HasOtherSerial x.serial in
    let earlier : All P (take i others) = λ k e within same.
    let below : k < i = omega (arith, within, length-take i others) in
    distinct k i e below less (ap (λ m. m.serial) (sym (get_or-take i others k e below)) ∙ (same ∙ ap (λ m. m.serial) (get_or_default others i d e less))) in
    subst (λ s. All P s.members) (sym was) (All-take P 8 _ (All-append P ms _ (all_other ms x new) (All-filter (is_new_to ms) P (take i others) earlier)))

-- what is joined after one more of the others, where it is new and where it isn't
pub joined_new : (ms others : List Member) (i : ℕ) (d : Member) → i < length others → is_among ms (slice_index_or others i d) ≡ false → ms ++ filter (is_new_to ms) (take (i + 1) others) ≡ (ms ++ filter (is_new_to ms) (take i others)) ++ slice_index_or others i d ∷ []
joined_new ms others i d less new =
    let x : Member = slice_index_or others i d in
    let one : cond (is_new_to ms x) (x ∷ []) [] ≡ x ∷ [] = ap (λ b. cond (not b) (x ∷ []) []) new in
    ap (λ xs. ms ++ xs) (filter_more (is_new_to ms) others i d less ∙ ap (λ xs. filter (is_new_to ms) (take i others) ++ xs) one) ∙ sym (append_assoc ms (filter (is_new_to ms) (take i others)) (x ∷ []))

pub joined_old : (ms others : List Member) (i : ℕ) (d : Member) → i < length others → is_among ms (slice_index_or others i d) ≡ true → ms ++ filter (is_new_to ms) (take (i + 1) others) ≡ ms ++ filter (is_new_to ms) (take i others)
joined_old ms others i d less old =
    let x : Member = slice_index_or others i d in
    let none : cond (is_new_to ms x) (x ∷ []) [] ≡ [] = ap (λ b. cond (not b) (x ∷ []) []) old in
    ap (λ xs. ms ++ xs) (filter_more (is_new_to ms) others i d less ∙ (ap (λ xs. filter (is_new_to ms) (take i others) ++ xs) none ∙ append-nil _))

-- one more behind the first eight: it is there where there is room
pub with_more : (zs : List Member) (cut : Bool) (x : Member) (before after : Several) → before ≡ first_eight zs cut → (length before.members < 8 → after ≡ several (before.members ++ x ∷ []) before.cut) → (8 ≤ length before.members → after ≡ several before.members true) → after ≡ first_eight (zs ++ x ∷ []) cut
with_more zs cut x before after was added left_out = ⊎_elim room full (cases_lt (length zs) 8)
  where
    count : length (zs ++ x ∷ []) ≡ length zs + 1
    count = length_push zs x

    members : before.members ≡ take 8 zs
    members = ap (λ s. s.members) was

    flag : before.cut ≡ (cut || nat_lt 8 (length zs))
    flag = ap (λ s. s.cut) was

    room : length zs < 8 → after ≡ first_eight (zs ++ x ∷ []) cut
    room less =
        let whole : take 8 zs ≡ zs = take_all 8 zs (omega arith) in
        let whole_after : take 8 (zs ++ x ∷ []) ≡ zs ++ x ∷ [] = take_all 8 (zs ++ x ∷ []) (omega (arith, count)) in
        let none : nat_lt 8 (length zs) ≡ false = le-ltb 8 (length zs) (omega arith) in
        let none_after : nat_lt 8 (length (zs ++ x ∷ [])) ≡ false = le-ltb 8 (length (zs ++ x ∷ [])) (omega (arith, count)) in
        let place : length before.members < 8 = subst (λ xs. length xs < 8) (sym (members ∙ whole)) less in
        let there : before.members ++ x ∷ [] ≡ take 8 (zs ++ x ∷ []) = ap (λ xs. xs ++ x ∷ []) (members ∙ whole) ∙ sym whole_after in
        let same : before.cut ≡ (cut || nat_lt 8 (length (zs ++ x ∷ []))) = flag ∙ ap (λ b. cut || b) (none ∙ sym none_after) in
        added place ∙ (λ j. several (there j) (same j))

    full : 8 ≤ length zs → after ≡ first_eight (zs ++ x ∷ []) cut
    full enough =
        let kept : take 8 (zs ++ x ∷ []) ≡ take 8 zs = take-append-le 8 zs (x ∷ []) enough in
        let some : nat_lt 8 (length (zs ++ x ∷ [])) ≡ true = lt-ltb 8 (length (zs ++ x ∷ [])) (omega (arith, count)) in
        let no_place : 8 ≤ length before.members = subst (λ xs. 8 ≤ length xs) (sym members) (omega (arith, length-take 8 zs)) in
        let there : before.members ≡ take 8 (zs ++ x ∷ []) = members ∙ sym kept in
        let same : true ≡ (cut || nat_lt 8 (length (zs ++ x ∷ []))) = sym (or_right cut _ some) in
        left_out no_place ∙ (λ j. several (there j) (same j))

-- a member that is none of these is no reason to leave one of them out
apart_alike : (m n : Member) (ws : List Member) → All (λ w. n.serial ≢ w.serial) ws → filter (is_new_to (m ∷ [])) ws ≡ filter (is_new_to (m ∷ n ∷ [])) ws
apart_alike m n ws apart =
    filter_alike (is_new_to (m ∷ [])) (is_new_to (m ∷ n ∷ [])) ws
    (λ k d less. ap (λ b. not ((m.serial == (slice_index_or ws k d).serial) || (b || false))) (sym (ne_eqb _ _ (apart k d less))))

-- one raise before several of which it is the first
pub behind_itself : (m first second : Member) (rest : List Member) → AreDistinct (first ∷ second ∷ rest) → first.serial ≡ m.serial → m ∷ filter (is_new_to (m ∷ [])) (first ∷ second ∷ rest) ≡ m ∷ second ∷ filter (is_new_to (m ∷ second ∷ [])) rest
behind_itself m first second rest distinct same =
    let old : (m.serial == first.serial) ≡ true = eq-eqb _ _ (sym same) in
    let new : (m.serial == second.serial) ≡ false = ne_eqb _ _ (λ e. All-head (λ n. first.serial ≢ n.serial) second rest (head_apart first (second ∷ rest) distinct) (same ∙ e)) in
    let others : filter (is_new_to (m ∷ [])) rest ≡ filter (is_new_to (m ∷ second ∷ [])) rest = apart_alike m second rest (head_apart second rest (tail_distinct first (second ∷ rest) distinct)) in
    let ours : List Member = filter (is_new_to (m ∷ [])) rest in
    (λ j. m ∷ cond (not (old j || false)) (first ∷ cond (not (new j || false)) (second ∷ ours) ours) (cond (not (new j || false)) (second ∷ ours) ours)) ∙ ap (λ xs. m ∷ second ∷ xs) others

-- one raise before several whose first is another
pub behind_another : (m first : Member) (rest : List Member) → AreDistinct (first ∷ rest) → first.serial ≢ m.serial → m ∷ filter (is_new_to (m ∷ [])) (first ∷ rest) ≡ m ∷ first ∷ filter (is_new_to (m ∷ first ∷ [])) rest
behind_another m first rest distinct other =
    let new : (m.serial == first.serial) ≡ false = ne_eqb _ _ (λ e. other (sym e)) in
    let others : filter (is_new_to (m ∷ [])) rest ≡ filter (is_new_to (m ∷ first ∷ [])) rest = apart_alike m first rest (head_apart first rest distinct) in
    let ours : List Member = filter (is_new_to (m ∷ [])) rest in
    (λ j. m ∷ cond (not (new j || false)) (first ∷ ours) ours) ∙ ap (λ xs. m ∷ first ∷ xs) others

-- the same of a list by its places
pub behind_same : (m : Member) (xs : List Member) (d e : Member) → 2 ≤ length xs → AreDistinct xs → (slice_index_or xs 0 d).serial ≡ m.serial → m ∷ filter (is_new_to (m ∷ [])) xs ≡ m ∷ slice_index_or xs 1 e ∷ filter (is_new_to (m ∷ slice_index_or xs 1 e ∷ [])) (take (length xs - 2) (drop 2 xs))
behind_same m [] d e least distinct same = absurd (omega arith)
behind_same m (x ∷ []) d e least distinct same = absurd (omega arith)
behind_same m (x ∷ y ∷ rest) d e least distinct same =
    behind_itself m x y rest distinct same ∙ ap (λ ws. m ∷ y ∷ filter (is_new_to (m ∷ y ∷ [])) ws) (sym (take_rest (x ∷ y ∷ rest) 2))

pub behind_other : (m : Member) (xs : List Member) (d e : Member) → 2 ≤ length xs → AreDistinct xs → (slice_index_or xs 0 d).serial ≢ m.serial → m ∷ filter (is_new_to (m ∷ [])) xs ≡ m ∷ slice_index_or xs 0 e ∷ filter (is_new_to (m ∷ slice_index_or xs 0 e ∷ [])) (take (length xs - 1) (drop 1 xs))
behind_other m [] d e least distinct other = absurd (omega arith)
behind_other m (x ∷ rest) d e least distinct other =
    behind_another m x rest distinct other ∙ ap (λ ws. m ∷ x ∷ filter (is_new_to (m ∷ x ∷ [])) ws) (sym (take_rest (x ∷ rest) 1))

-- what is left of distinct raises is distinct
pub rest_distinct : (n : ℕ) (xs : List Member) → AreDistinct xs → AreDistinct (take (length xs - n) (drop n xs))
rest_distinct n xs distinct = subst AreDistinct (sym (take_rest xs n)) left
  where
    left : AreDistinct (drop n xs)
    left i j d less within same = distinct (n + i) (n + j) d (omega arith) (omega (arith, length-drop n xs)) (ap (λ m. m.serial) (sym (get_or-drop n xs i d)) ∙ (same ∙ ap (λ m. m.serial) (get_or-drop n xs j d)))

-- one raise and several behind it, from a pair on
pub behind_from : (m second : Member) (held pair started all : Several) (asked tail : List Member) (cut : Bool) → asked ≡ held.members → cut ≡ held.cut → pair ≡ several (m ∷ second ∷ []) false → started ≡ several pair.members (pair.cut || cut) → all ≡ first_eight (started.members ++ filter (is_new_to started.members) tail) started.cut → m ∷ filter (is_new_to (m ∷ [])) asked ≡ m ∷ second ∷ filter (is_new_to (m ∷ second ∷ [])) tail → all ≡ first_eight (m ∷ filter (is_new_to (m ∷ [])) held.members) held.cut
behind_from m second held pair started all asked tail cut members flag is_pair is_started is_all same =
    let begun : started ≡ several (m ∷ second ∷ []) cut = is_started ∙ ap (λ p. several p.members (p.cut || cut)) is_pair in
    is_all ∙ (ap (λ s. first_eight (s.members ++ filter (is_new_to s.members) tail) s.cut) begun ∙ (ap (λ xs. first_eight xs cut) (sym same) ∙ (λ j. first_eight (m ∷ filter (is_new_to (m ∷ [])) (members j)) (flag j))))
