-- The laws of joining: a raise that isn't cancelled is the list of its members, and whether others were left out.
use Rattle.std.specs.Prelude.{◌≡◌, ◌≢◌, ◌+◌, ◌≤◌, Bool, true, false, ◌==◌, ◌||◌, not, List, [], ◌∷◌, ◌++◌, length, take, filter, slice_index_or, min, All, refl}
use Rattle.std.proofs.Common.{ap, subst, sym, ◌∙◌, cond, arith}
use Rattle.std.proofs.lemmas.Bool.{true≢false, eq-eqb, ne_eqb, le-ltb}
use Rattle.std.proofs.lemmas.List.{append-nil, length-append, length-take, take_all}
use Rattle.std.proofs.lemmas.List.Folds.{list_any_at}
use Rattle.eio_value.specs.declared.plain.Member.{Member}
use Rattle.eio_value.specs.declared.raised.Raised.{Raised}
use Rattle.eio_value.specs.declared.raised.Raised.TheVariants.{One, Cancelled, Many}
use Rattle.eio_value.specs.Several.{AreDistinct}
use Rattle.eio_value.specs.Joining.{members_of, is_cut, is_new_to, raised_of, at_most_eight, joined, combine}
use Rattle.eio_value.specs.JoiningLaws.{IsHeld, is_cancelled, AreApart, AreInOrder, CombineIsHeld, CombineIsInOrder, CombineWithItself, CancelledGivesWay, CombineInAnyGrouping}
use Rattle.eio_value.proofs.JoiningLemmas.{several, filter_alike}
use Rattle.eio_value.proofs.Groups.{both, over, both_grouped, old_or_new, distinct_both, distinct_front, cut_before, over_before, cut_behind, over_behind}

-- one to eight distinct members; where there is one, none was left out
record IsKept (members : List Member) (cut : Bool) : Type 0 where
  least : 1 ≤ length members
  most : length members ≤ 8
  distinct : AreDistinct members
  alone : length members ≡ 1 → cut ≡ false

-- A raise and its members

members_back : (members : List Member) (cut : Bool) → members_of (raised_of members cut) ≡ members
members_back [] cut = refl
members_back (m ∷ []) cut = refl
members_back (m ∷ n ∷ rest) cut = refl

cut_back : (members : List Member) (cut : Bool) → (length members ≡ 1 → cut ≡ false) → is_cut (raised_of members cut) ≡ cut
cut_back [] cut alone = refl
cut_back (m ∷ []) cut alone = sym (alone refl)
cut_back (m ∷ n ∷ rest) cut alone = refl

not_cancelled : (members : List Member) (cut : Bool) → is_cancelled (raised_of members cut) ≡ false
not_cancelled [] cut = refl
not_cancelled (m ∷ []) cut = refl
not_cancelled (m ∷ n ∷ rest) cut = refl

held_back : (members : List Member) (cut : Bool) → IsKept members cut → IsHeld (raised_of members cut)
held_back [] cut kept = absurd (omega (arith, kept.least))
held_back (m ∷ []) cut kept = tt
held_back (m ∷ n ∷ rest) cut kept = record { least = omega arith; most = kept.most; distinct = kept.distinct }

many_back : (members : List Member) (cut : Bool) → 2 ≤ length members → raised_of members cut ≡ Many (several members cut)
many_back [] cut least = absurd (omega arith)
many_back (m ∷ []) cut least = absurd (omega arith)
many_back (m ∷ n ∷ rest) cut least = refl

kept_of : (a : Raised) → IsHeld a → is_cancelled a ≡ false → IsKept (members_of a) (is_cut a)
kept_of (One m) held plain = record { least = omega arith; most = omega arith; distinct = λ i j d less within same. absurd (omega arith); alone = λ one. refl }
kept_of (Cancelled m) held plain = absurd (true≢false plain)
kept_of (Many s) held plain = record { least = omega (arith, held.least); most = held.most; distinct = held.distinct; alone = λ one. absurd (omega (arith, held.least)) }

-- Joining by members

combine_is : (a b : Raised) → is_cancelled a ≡ false → is_cancelled b ≡ false → combine a b ≡ at_most_eight (both (members_of a) (members_of b)) (is_cut a || is_cut b)
combine_is (One m) (One n) first second = by (m.serial == n.serial) refl
  where
    by : (b : Bool) → (m.serial == n.serial) ≡ b → combine (One m) (One n) ≡ at_most_eight (both (m ∷ []) (n ∷ [])) false
    by true e = ap (λ b. elim b [ true ↦ One m | false ↦ joined (One m) (One n) ]) e ∙ sym (ap (λ b. at_most_eight (m ∷ cond (not (b || false)) (n ∷ []) []) false) e)
    by false e = ap (λ b. elim b [ true ↦ One m | false ↦ joined (One m) (One n) ]) e
combine_is (One m) (Many t) first second = refl
combine_is (Many s) (One n) first second = refl
combine_is (Many s) (Many t) first second = refl
combine_is (Cancelled m) b first second = absurd (true≢false first)
combine_is (One m) (Cancelled n) first second = absurd (true≢false second)
combine_is (Many s) (Cancelled n) first second = absurd (true≢false second)

kept_both : (xs ys : List Member) (p q : Bool) → IsKept xs p → IsKept ys q → IsKept (take 8 (both xs ys)) ((p || q) || over (both xs ys))
kept_both xs ys p q ours theirs = record {
  least = omega (arith, ours.least, count, long);
  most = omega (arith, count);
  distinct = distinct_front 8 (both xs ys) (distinct_both xs ys ours.distinct theirs.distinct);
  alone = λ one.
      let first : p ≡ false = ours.alone (omega (arith, one, ours.least, count, long)) in
      let second : q ≡ false = theirs.alone (omega (arith, one, ours.least, theirs.least, count, long, old_or_new xs ys theirs.distinct)) in
      let whole : over (both xs ys) ≡ false = le-ltb 8 (length (both xs ys)) (omega (arith, one, count)) in
      λ j. (first j || second j) || whole j;
}
  where
    count : length (take 8 (both xs ys)) ≡ min 8 (length (both xs ys))
    count = length-take 8 (both xs ys)

    long : length (both xs ys) ≡ length xs + length (filter (is_new_to xs) ys)
    long = length-append xs (filter (is_new_to xs) ys)

kept_combined : (a b : Raised) → IsHeld a → IsHeld b → is_cancelled a ≡ false → is_cancelled b ≡ false → IsKept (take 8 (both (members_of a) (members_of b))) ((is_cut a || is_cut b) || over (both (members_of a) (members_of b)))
kept_combined a b first second left right = kept_both (members_of a) (members_of b) (is_cut a) (is_cut b) (kept_of a first left) (kept_of b second right)

in_order : (a b : Raised) → IsHeld a → IsHeld b → is_cancelled a ≡ false → is_cancelled b ≡ false → AreInOrder a b
in_order a b first second left right = record {
  members = ap members_of (combine_is a b left right) ∙ members_back _ _;
  cut = ap is_cut (combine_is a b left right) ∙ cut_back _ _ (kept_combined a b first second left right).alone;
}

pub combine_is_in_order : CombineIsInOrder
combine_is_in_order = in_order

-- What is cancelled

behind_all : (a : Raised) (m : Member) → combine a (Cancelled m) ≡ a
behind_all (One n) m = by (n.serial == m.serial)
  where
    by : (b : Bool) → (elim b as (λ b'. Raised) [ true ↦ One n | false ↦ One n ]) ≡ One n
    by true = refl
    by false = refl
behind_all (Cancelled n) m = by (n.serial == m.serial)
  where
    by : (b : Bool) → (elim b as (λ b'. Raised) [ true ↦ Cancelled n | false ↦ Cancelled n ]) ≡ Cancelled n
    by true = refl
    by false = refl
behind_all (Many s) m = refl

before_others : (m : Member) (b : Raised) → is_cancelled b ≡ false → AreApart (Cancelled m) b → combine (Cancelled m) b ≡ b
before_others m (One n) plain apart = ap (λ b. elim b [ true ↦ Cancelled m | false ↦ One n ]) (ne_eqb m.serial n.serial apart)
before_others m (Cancelled n) plain apart = absurd (true≢false plain)
before_others m (Many s) plain apart = refl

pub cancelled_gives_way : CancelledGivesWay
cancelled_gives_way m b = record { behind = behind_all b m; before = before_others m b }

-- Never more than eight

held_plain : (a b : Raised) → IsHeld a → IsHeld b → is_cancelled a ≡ false → is_cancelled b ≡ false → IsHeld (combine a b)
held_plain a b first second left right = subst IsHeld (sym (combine_is a b left right)) (held_back _ _ (kept_combined a b first second left right))

held_combined : (a b : Raised) → IsHeld a → IsHeld b → IsHeld (combine a b)
held_combined (One m) (One n) first second = held_plain (One m) (One n) first second refl refl
held_combined (One m) (Many t) first second = held_plain (One m) (Many t) first second refl refl
held_combined (Many s) (One n) first second = held_plain (Many s) (One n) first second refl refl
held_combined (Many s) (Many t) first second = held_plain (Many s) (Many t) first second refl refl
held_combined (Cancelled m) (Many t) first second = second
held_combined (Cancelled m) (One n) first second = by (m.serial == n.serial)
  where
    by : (b : Bool) → IsHeld (elim b as (λ b'. Raised) [ true ↦ Cancelled m | false ↦ One n ])
    by true = tt
    by false = tt
held_combined a (Cancelled n) first second = subst IsHeld (sym (behind_all a n)) first

pub combine_is_held : CombineIsHeld
combine_is_held = held_combined

-- With itself

none_kept : {X : Type 0} (xs : List X) → filter (λ x. false) xs ≡ []
none_kept [] = refl
none_kept (x ∷ xs) = none_kept xs

none_new : (members : List Member) → filter (is_new_to members) members ≡ []
none_new members =
    let old : All (λ x. is_new_to members x ≡ false) members = λ k d less. ap not (list_any_at (λ other. other.serial == (slice_index_or members k d).serial) members k d less (eq-eqb _ _ refl)) in
    filter_alike (is_new_to members) (λ x. false) members old ∙ none_kept members

twice : (b : Bool) → ((b || b) || false) ≡ b
twice true = refl
twice false = refl

with_itself : (a : Raised) → IsHeld a → combine a a ≡ a
with_itself (One m) held = ap (λ b. elim b [ true ↦ One m | false ↦ joined (One m) (One m) ]) (eq-eqb m.serial m.serial refl)
with_itself (Cancelled m) held = ap (λ b. elim b [ true ↦ Cancelled m | false ↦ Cancelled m ]) (eq-eqb m.serial m.serial refl)
with_itself (Many s) held =
    let same : both s.members s.members ≡ s.members = ap (λ xs. s.members ++ xs) (none_new s.members) ∙ append-nil s.members in
    let whole : over s.members ≡ false = le-ltb 8 (length s.members) held.most in
    ap (λ xs. at_most_eight xs (s.cut || s.cut)) same
    ∙ ((λ j. raised_of (take_all 8 s.members held.most j) ((s.cut || s.cut) || whole j))
    ∙ (ap (raised_of s.members) (twice s.cut) ∙ many_back s.members s.cut held.least))

pub combine_with_itself : CombineWithItself
combine_with_itself = with_itself

-- Either grouping

left_flags : (p q x r y z : Bool) → (x || y) ≡ z → ((((p || q) || x) || r) || y) ≡ (((p || q) || r) || z)
left_flags true q x r y z is = refl
left_flags false true x r y z is = refl
left_flags false false true true y z is = refl
left_flags false false false true y z is = refl
left_flags false false true false y z is = is
left_flags false false false false y z is = is

right_flags : (p q r x y z : Bool) → (x || y) ≡ z → ((p || ((q || r) || x)) || y) ≡ (((p || q) || r) || z)
right_flags true q r x y z is = refl
right_flags false true r x y z is = refl
right_flags false false true x y z is = refl
right_flags false false false x y z is = is

group_plain : (a b c : Raised) → IsHeld a → IsHeld b → IsHeld c → is_cancelled a ≡ false → is_cancelled b ≡ false → is_cancelled c ≡ false → combine (combine a b) c ≡ combine a (combine b c)
group_plain a b c ha hb hc pa pb pc =
    let xs : List Member = members_of a in
    let ys : List Member = members_of b in
    let zs : List Member = members_of c in
    let p : Bool = is_cut a in
    let q : Bool = is_cut b in
    let r : Bool = is_cut c in
    let front : List Member = take 8 (both xs ys) in
    let front_cut : Bool = (p || q) || over (both xs ys) in
    let back : List Member = take 8 (both ys zs) in
    let back_cut : Bool = (q || r) || over (both ys zs) in
    let distinct : AreDistinct (both ys zs) = distinct_both ys zs (kept_of b hb pb).distinct (kept_of c hc pc).distinct in
    ap (λ x. combine x c) (combine_is a b pa pb)
    ∙ (combine_is (raised_of front front_cut) c (not_cancelled front front_cut) pc
    ∙ ((λ j. at_most_eight (both (members_back front front_cut j) zs) (cut_back front front_cut (kept_combined a b ha hb pa pb).alone j || r))
    ∙ ((λ j. raised_of (cut_before (both xs ys) zs j) (left_flags p q (over (both xs ys)) r (over (both front zs)) (over (both (both xs ys) zs)) (over_before (both xs ys) zs) j))
    ∙ ((λ j. raised_of (take 8 (both_grouped xs ys zs j)) (((p || q) || r) || over (both_grouped xs ys zs j)))
    ∙ sym (ap (combine a) (combine_is b c pb pc)
    ∙ (combine_is a (raised_of back back_cut) pa (not_cancelled back back_cut)
    ∙ ((λ j. at_most_eight (both xs (members_back back back_cut j)) (p || cut_back back back_cut (kept_combined b c hb hc pb pc).alone j))
    ∙ (λ j. raised_of (cut_behind xs (both ys zs) distinct j) (right_flags p q r (over (both ys zs)) (over (both xs back)) (over (both xs (both ys zs))) (over_behind xs (both ys zs) distinct) j)))))))))

one_apart : (m n : Member) (rest : List Member) (cut : Bool) → m.serial ≢ n.serial → AreApart (Cancelled m) (raised_of (n ∷ rest) cut)
one_apart m n [] cut apart = apart
one_apart m n (x ∷ rest) cut apart = tt

several_apart : (m : Member) (members : List Member) (cut : Bool) → 2 ≤ length members → AreApart (Cancelled m) (raised_of members cut)
several_apart m [] cut least = tt
several_apart m (x ∷ []) cut least = absurd (omega arith)
several_apart m (x ∷ y ∷ rest) cut least = tt

-- what is apart from a raise is apart from what it becomes
apart_from_both : (m : Member) (b c : Raised) → IsHeld b → is_cancelled b ≡ false → is_cancelled c ≡ false → AreApart (Cancelled m) b → AreApart (Cancelled m) (at_most_eight (both (members_of b) (members_of c)) (is_cut b || is_cut c))
apart_from_both m (One n) c held pb pc apart = one_apart m n _ _ apart
apart_from_both m (Cancelled n) c held pb pc apart = absurd (true≢false pb)
apart_from_both m (Many s) c held pb pc apart = several_apart m _ _ (omega (arith, held.least, length-take 8 (both s.members (members_of c)), length-append s.members (filter (is_new_to s.members) (members_of c))))

group_first : (a b c : Raised) → IsHeld a → IsHeld b → IsHeld c → is_cancelled b ≡ false → is_cancelled c ≡ false → AreApart a b → combine (combine a b) c ≡ combine a (combine b c)
group_first (One m) b c ha hb hc pb pc apart = group_plain (One m) b c ha hb hc refl pb pc
group_first (Many s) b c ha hb hc pb pc apart = group_plain (Many s) b c ha hb hc refl pb pc
group_first (Cancelled m) b c ha hb hc pb pc apart =
    let plain : is_cancelled (combine b c) ≡ false = ap is_cancelled (combine_is b c pb pc) ∙ not_cancelled _ _ in
    let still : AreApart (Cancelled m) (combine b c) = subst (AreApart (Cancelled m)) (sym (combine_is b c pb pc)) (apart_from_both m b c hb pb pc apart) in
    ap (λ x. combine x c) (before_others m b pb apart) ∙ sym (before_others m (combine b c) plain still)

group_second : (a b c : Raised) → IsHeld a → IsHeld b → IsHeld c → is_cancelled c ≡ false → AreApart a b → AreApart b c → combine (combine a b) c ≡ combine a (combine b c)
group_second a (One n) c ha hb hc pc first second = group_first a (One n) c ha hb hc refl pc first
group_second a (Many t) c ha hb hc pc first second = group_first a (Many t) c ha hb hc refl pc first
group_second a (Cancelled n) c ha hb hc pc first second = ap (λ x. combine x c) (behind_all a n) ∙ sym (ap (combine a) (before_others n c pc second))

group : (a b c : Raised) → IsHeld a → IsHeld b → IsHeld c → AreApart a b → AreApart b c → combine (combine a b) c ≡ combine a (combine b c)
group a b (One o) ha hb hc first second = group_second a b (One o) ha hb hc refl first second
group a b (Many u) ha hb hc first second = group_second a b (Many u) ha hb hc refl first second
group a b (Cancelled o) ha hb hc first second = behind_all (combine a b) o ∙ ap (combine a) (sym (behind_all b o))

pub combine_in_any_grouping : CombineInAnyGrouping
combine_in_any_grouping = group
