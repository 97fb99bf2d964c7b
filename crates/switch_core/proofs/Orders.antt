-- Attached fibers in the order of attaching: one more comes last, and without one the others keep their order.
use Rattle.std.specs.Prelude.{◌≡◌, ℕ, ◌+◌, ◌<◌, ◌≤◌, Bool, true, false, ◌==◌, ◌||◌, not, nat_lt, List, [], ◌∷◌, ◌++◌, map, filter, Contains, slice_index_or, refl}
use Rattle.std.specs.List.{AllByRecursion, Any, list_any}
use Rattle.std.specs.List.Sorted.{IsStrictlySortedBy}
use Rattle.std.specs.declared.cmp.Ordering.{Ordering}
use Rattle.std.specs.declared.cmp.Ordering.TheVariants.{Less, Equal, Greater}
use Rattle.std.specs.Ordering.{nat_cmp, is_eq, match_ordering}
use Rattle.std.specs.BTreeMap.{insert_entry, is_at}
use Rattle.std.specs.Map.{keys_of, remove_entry}
use Rattle.std.proofs.Common.{ap, sym, subst, ◌∙◌, cond, arith}
use Rattle.std.proofs.lemmas.Bool.{both_ways, cond-true, cond-false, ltb-true, ltb-false, lt-ltb, le-ltb, eqb-true, or_parts, not_from_false, false_from_ne_true}
use Rattle.std.proofs.lemmas.Bool.Decides.{nat_tests}
use Rattle.std.proofs.lemmas.List.{map-append}
use Rattle.std.proofs.lemmas.List.Folds.{Any-from_list_any}
use Rattle.spec_parts.specs.Switches.{without}
use Rattle.switch_core.specs.Attached.{Entry, put, in_order, fibers_of, AreBefore, AreTimed}

-- What holds of all

all_put : (P : Entry → Type 0) (e : Entry) (ys : List Entry) → P e → AllByRecursion P ys → AllByRecursion P (put e ys)
all_put P e [] p ps = (p, tt)
all_put P e (y ∷ ys) p ps = by (nat_lt y.1 e.1) (all_put P e ys p ps.1)
  where
    by : (b : Bool) → AllByRecursion P (put e ys) → AllByRecursion P (cond b (y ∷ put e ys) (e ∷ y ∷ ys))
    by true rest = (ps.0, rest)
    by false rest = (p, ps)

all_weaker : (P Q : Entry → Type 0) → ((e : Entry) → P e → Q e) → (es : List Entry) → AllByRecursion P es → AllByRecursion Q es
all_weaker P Q weaker [] ps = tt
all_weaker P Q weaker (e ∷ es) ps = (weaker e ps.0, all_weaker P Q weaker es ps.1)

all_in_order : (P : Entry → Type 0) (es : List Entry) → AllByRecursion P es → AllByRecursion P (in_order es)
all_in_order P [] ps = tt
all_in_order P (e ∷ es) ps = all_put P e (in_order es) ps.0 (all_in_order P es ps.1)

all_filter : (P : Entry → Type 0) (test : Entry → Bool) (es : List Entry) → AllByRecursion P es → AllByRecursion P (filter test es)
all_filter P test [] ps = tt
all_filter P test (e ∷ es) ps = by (test e) (all_filter P test es ps.1)
  where
    by : (b : Bool) → AllByRecursion P (filter test es) → AllByRecursion P (cond b (e ∷ filter test es) (filter test es))
    by true rest = (ps.0, rest)
    by false rest = rest

-- One more

put_last : (x : Entry) (ys : List Entry) → AreBefore x.1 ys → put x ys ≡ ys ++ x ∷ []
put_last x [] before = refl
put_last x (y ∷ ys) before = cond-true _ _ _ (lt-ltb y.1 x.1 before.0) ∙ ap (λ zs. y ∷ zs) (put_last x ys before.1)

put_before_last : (e x : Entry) (ys : List Entry) → e.1 < x.1 → put e (ys ++ x ∷ []) ≡ put e ys ++ x ∷ []
put_before_last e x [] less = cond-false _ _ _ (le-ltb x.1 e.1 (omega arith))
put_before_last e x (y ∷ ys) less = by (nat_lt y.1 e.1) (put_before_last e x ys less)
  where
    by : (b : Bool) → put e (ys ++ x ∷ []) ≡ put e ys ++ x ∷ [] → cond b (y ∷ put e (ys ++ x ∷ [])) (e ∷ y ∷ (ys ++ x ∷ [])) ≡ cond b (y ∷ put e ys) (e ∷ y ∷ ys) ++ x ∷ []
    by true rest = ap (λ zs. y ∷ zs) rest
    by false rest = refl

-- the test of a key is that of its number
is_at-nat : (fiber key : ℕ) → is_eq (nat_cmp fiber key) ≡ (key == fiber)
is_at-nat fiber key = grind (arith, nat_tests)

abbrev is_of : ℕ → Entry → Bool
is_of fiber e = e.0 == fiber

in_order-insert : (fiber time : ℕ) (es : List Entry) → AreBefore time es → list_any (is_of fiber) es ≡ false → in_order (insert_entry nat_cmp es fiber time) ≡ in_order es ++ (fiber, time) ∷ []
in_order-insert fiber time [] before none = refl
in_order-insert fiber time (e ∷ es) before none = by (nat_cmp fiber e.0) refl (in_order-insert fiber time es before.1 (or_parts _ _ none).1)
  where
    by : (o : Ordering) → nat_cmp fiber e.0 ≡ o → in_order (insert_entry nat_cmp es fiber time) ≡ in_order es ++ (fiber, time) ∷ [] → in_order (match_ordering o ((fiber, time) ∷ e ∷ es) ((e.0, time) ∷ es) (e ∷ insert_entry nat_cmp es fiber time)) ≡ in_order (e ∷ es) ++ (fiber, time) ∷ []
    by Less is rest = put_last (fiber, time) (in_order (e ∷ es)) (all_in_order (λ x. x.1 < time) (e ∷ es) before)
    by Equal is rest = absurd (both_ways (e.0 == fiber) (or_parts _ _ none).0 (sym (is_at-nat fiber e.0) ∙ ap is_eq is))
    by Greater is rest = ap (put e) rest ∙ put_before_last e (fiber, time) (in_order es) before.0

before-insert : (fiber time : ℕ) (es : List Entry) → AreBefore time es → AreBefore (time + 1) (insert_entry nat_cmp es fiber time)
before-insert fiber time [] before = (omega arith, tt)
before-insert fiber time (e ∷ es) before = by (nat_cmp fiber e.0) (before-insert fiber time es before.1)
  where
    later : AreBefore (time + 1) (e ∷ es)
    later = all_weaker (λ x. x.1 < time) (λ x. x.1 < time + 1) (λ x less. omega arith) (e ∷ es) before

    by : (o : Ordering) → AreBefore (time + 1) (insert_entry nat_cmp es fiber time) → AreBefore (time + 1) (match_ordering o ((fiber, time) ∷ e ∷ es) ((e.0, time) ∷ es) (e ∷ insert_entry nat_cmp es fiber time))
    by Less rest = (omega arith, later)
    by Equal rest = (omega arith, later.1)
    by Greater rest = (later.0, rest)

-- Without one

abbrev IsRising : List Entry → Type 0
IsRising [] = Unit {0}
IsRising (y ∷ ys) = AllByRecursion (λ z. y.1 ≤ z.1) ys × IsRising ys

rising-put : (e : Entry) (ys : List Entry) → IsRising ys → IsRising (put e ys)
rising-put e [] rising = (tt, tt)
rising-put e (y ∷ ys) rising = by (nat_lt y.1 e.1) refl (rising-put e ys rising.1)
  where
    by : (b : Bool) → nat_lt y.1 e.1 ≡ b → IsRising (put e ys) → IsRising (cond b (y ∷ put e ys) (e ∷ y ∷ ys))
    by true is rest = (let less : y.1 < e.1 = ltb-true y.1 e.1 is in all_put (λ z. y.1 ≤ z.1) e ys (omega arith) rising.0, rest)
    by false is rest =
        let most : e.1 ≤ y.1 = ltb-false y.1 e.1 is in
        ((most, all_weaker (λ z. y.1 ≤ z.1) (λ z. e.1 ≤ z.1) (λ z le. omega arith) ys rising.0), rising)

rising-in_order : (es : List Entry) → IsRising (in_order es)
rising-in_order [] = tt
rising-in_order (e ∷ es) = rising-put e (in_order es) (rising-in_order es)

put_first : (e : Entry) (ys : List Entry) → AllByRecursion (λ z. e.1 ≤ z.1) ys → put e ys ≡ e ∷ ys
put_first e [] first = refl
put_first e (y ∷ ys) first = cond-false _ _ _ (le-ltb y.1 e.1 first.0)

filter-put_kept : (test : Entry → Bool) (e : Entry) (ys : List Entry) → test e ≡ true → IsRising ys → filter test (put e ys) ≡ put e (filter test ys)
filter-put_kept test e [] passes rising = cond-true _ _ _ passes
filter-put_kept test e (y ∷ ys) passes rising = by (nat_lt y.1 e.1) refl (test y) refl (filter-put_kept test e ys passes rising.1)
  where
    by : (b : Bool) → nat_lt y.1 e.1 ≡ b → (kept : Bool) → test y ≡ kept → filter test (put e ys) ≡ put e (filter test ys) → filter test (cond b (y ∷ put e ys) (e ∷ y ∷ ys)) ≡ put e (cond kept (y ∷ filter test ys) (filter test ys))
    by true is true k rest = cond-true _ _ _ k ∙ (ap (λ zs. y ∷ zs) rest ∙ sym (cond-true _ _ _ is))
    by true is false k rest = cond-false _ _ _ k ∙ rest
    by false is true k rest = cond-true _ _ _ passes ∙ (ap (λ zs. e ∷ zs) (cond-true _ _ _ k) ∙ sym (cond-false _ _ _ is))
    by false is false k rest =
        let most : e.1 ≤ y.1 = ltb-false y.1 e.1 is in
        cond-true _ _ _ passes ∙ (ap (λ zs. e ∷ zs) (cond-false _ _ _ k) ∙ sym (put_first e (filter test ys) (all_filter (λ z. e.1 ≤ z.1) test ys (all_weaker (λ z. y.1 ≤ z.1) (λ z. e.1 ≤ z.1) (λ z le. omega arith) ys rising.0))))

filter-put_dropped : (test : Entry → Bool) (e : Entry) (ys : List Entry) → test e ≡ false → filter test (put e ys) ≡ filter test ys
filter-put_dropped test e [] fails = cond-false _ _ _ fails
filter-put_dropped test e (y ∷ ys) fails = by (nat_lt y.1 e.1) (filter-put_dropped test e ys fails)
  where
    by : (b : Bool) → filter test (put e ys) ≡ filter test ys → filter test (cond b (y ∷ put e ys) (e ∷ y ∷ ys)) ≡ filter test (y ∷ ys)
    by true rest = ap (λ zs. cond (test y) (y ∷ zs) zs) rest
    by false rest = cond-false _ _ _ fails

abbrev is_other : ℕ → Entry → Bool
is_other fiber e = not (e.0 == fiber)

filter_none : (fiber : ℕ) (es : List Entry) → list_any (is_of fiber) es ≡ false → filter (is_other fiber) es ≡ es
filter_none fiber [] none = refl
filter_none fiber (e ∷ es) none =
    let parts = or_parts (is_of fiber e) (list_any (is_of fiber) es) none in
    cond-true (is_other fiber e) (e ∷ filter (is_other fiber) es) (filter (is_other fiber) es) (not_from_false (is_of fiber e) parts.0) ∙ ap (λ zs. e ∷ zs) (filter_none fiber es parts.1)

swapped : (a b c : Bool) → (a || (b || c)) ≡ (b || (a || c))
swapped true true c = refl
swapped true false c = refl
swapped false b c = refl

any-put : (test : Entry → Bool) (e : Entry) (ys : List Entry) → list_any test (put e ys) ≡ (test e || list_any test ys)
any-put test e [] = refl
any-put test e (y ∷ ys) = by (nat_lt y.1 e.1) (any-put test e ys)
  where
    by : (b : Bool) → list_any test (put e ys) ≡ (test e || list_any test ys) → list_any test (cond b (y ∷ put e ys) (e ∷ y ∷ ys)) ≡ (test e || list_any test (y ∷ ys))
    by true rest = ap (λ b. test y || b) rest ∙ swapped (test y) (test e) (list_any test ys)
    by false rest = refl

any-in_order : (test : Entry → Bool) (es : List Entry) → list_any test (in_order es) ≡ list_any test es
any-in_order test [] = refl
any-in_order test (e ∷ es) = any-put test e (in_order es) ∙ ap (λ b. test e || b) (any-in_order test es)

-- a key below all others stands nowhere else
none_above : (fiber key : ℕ) (es : List Entry) → (key == fiber) ≡ true → AllByRecursion (λ y. nat_cmp key y ≡ Less) (keys_of es) → list_any (is_of fiber) es ≡ false
none_above fiber key [] same above = refl
none_above fiber key (e ∷ es) same above =
    let apart : (e.0 == fiber) ≡ false = false_from_ne_true _ (λ equal. other (eqb-true _ _ same) (eqb-true _ _ equal) above.0) in
    ap (λ b. b || list_any (is_of fiber) es) apart ∙ none_above fiber key es same above.1
  where
    other : key ≡ fiber → e.0 ≡ fiber → nat_cmp key e.0 ≡ Less → ⊥
    other k o less = grind (arith, nat_tests)

in_order-remove : (fiber : ℕ) (es : List Entry) → IsStrictlySortedBy nat_cmp (keys_of es) → in_order (remove_entry (is_at (nat_cmp fiber)) es) ≡ filter (is_other fiber) (in_order es)
unfolding IsStrictlySortedBy
in_order-remove fiber [] sorted = refl
in_order-remove fiber (e ∷ es) sorted = by (e.0 == fiber) refl (in_order-remove fiber es sorted.1)
  where
    by : (b : Bool) → (e.0 == fiber) ≡ b → in_order (remove_entry (is_at (nat_cmp fiber)) es) ≡ filter (is_other fiber) (in_order es) → in_order (cond (is_eq (nat_cmp fiber e.0)) es (e ∷ remove_entry (is_at (nat_cmp fiber)) es)) ≡ filter (is_other fiber) (put e (in_order es))
    by true is rest =
        ap in_order (cond-true _ es (e ∷ remove_entry (is_at (nat_cmp fiber)) es) (is_at-nat fiber e.0 ∙ is))
        ∙ (sym (filter_none fiber (in_order es) (any-in_order (is_of fiber) es ∙ none_above fiber e.0 es is sorted.0))
        ∙ sym (filter-put_dropped (is_other fiber) e (in_order es) (ap not is)))
    by false is rest =
        ap in_order (cond-false _ es (e ∷ remove_entry (is_at (nat_cmp fiber)) es) (is_at-nat fiber e.0 ∙ is))
        ∙ (ap (put e) rest ∙ sym (filter-put_kept (is_other fiber) e (in_order es) (ap not is) (rising-in_order es)))

before-remove : (fiber time : ℕ) (es : List Entry) → AreBefore time es → AreBefore time (remove_entry (is_at (nat_cmp fiber)) es)
before-remove fiber time [] before = tt
before-remove fiber time (e ∷ es) before = by (is_eq (nat_cmp fiber e.0)) (before-remove fiber time es before.1)
  where
    by : (b : Bool) → AreBefore time (remove_entry (is_at (nat_cmp fiber)) es) → AreBefore time (cond b es (e ∷ remove_entry (is_at (nat_cmp fiber)) es))
    by true rest = before.1
    by false rest = (before.0, rest)

-- The fibers alone

map-filter : (fiber : ℕ) (es : List Entry) → map (λ e. e.0) (filter (is_other fiber) es) ≡ without fiber (map (λ e. e.0) es)
map-filter fiber [] = refl
map-filter fiber (e ∷ es) = by (not (e.0 == fiber)) (map-filter fiber es)
  where
    by : (b : Bool) → map (λ x. x.0) (filter (is_other fiber) es) ≡ without fiber (map (λ x. x.0) es) → map (λ (x : Entry). x.0) (cond b (e ∷ filter (is_other fiber) es) (filter (is_other fiber) es)) ≡ cond b (e.0 ∷ without fiber (map (λ x. x.0) es)) (without fiber (map (λ x. x.0) es))
    by true rest = ap (λ zs. e.0 ∷ zs) rest
    by false rest = rest

any-map : (fiber : ℕ) (es : List Entry) → list_any (λ f. f == fiber) (map (λ e. e.0) es) ≡ list_any (is_of fiber) es
any-map fiber [] = refl
any-map fiber (e ∷ es) = ap (λ b. (e.0 == fiber) || b) (any-map fiber es)

contained : (fiber : ℕ) (fs : List ℕ) → list_any (λ f. f == fiber) fs ≡ true → Contains fs fiber
contained fiber fs found = at (Any-from_list_any (λ f. f == fiber) fs found)
  where
    at : Any (λ f. (f == fiber) ≡ true) fs → Contains fs fiber
    at any = (any.0, any.2, subst (λ z. slice_index_or fs any.0 z ≡ z) (eqb-true _ _ any.4) any.3)

-- without a fiber, the others are in their order
pub fibers_of-remove : (fiber : ℕ) (es : List Entry) → IsStrictlySortedBy nat_cmp (keys_of es) → fibers_of (remove_entry (is_at (nat_cmp fiber)) es) ≡ without fiber (fibers_of es)
fibers_of-remove fiber es sorted = ap (map (λ e. e.0)) (in_order-remove fiber es sorted) ∙ map-filter fiber (in_order es)

-- a new fiber that is attached after all others comes last
pub fibers_of-insert : (fiber time : ℕ) (es : List Entry) → AreBefore time es → (Contains (fibers_of es) fiber → ⊥) → fibers_of (insert_entry nat_cmp es fiber time) ≡ fibers_of es ++ fiber ∷ []
fibers_of-insert fiber time es before new =
    let none : list_any (is_of fiber) es ≡ false = false_from_ne_true _ (λ found. new (contained fiber (fibers_of es) (any-map fiber (in_order es) ∙ (any-in_order (is_of fiber) es ∙ found)))) in
    ap (map (λ e. e.0)) (in_order-insert fiber time es before none) ∙ map-append (λ (e : Entry). e.0) (in_order es) ((fiber, time) ∷ [])

-- where no fiber is in the row, none is in the map
pub fibers_of-none : (es : List Entry) → fibers_of es ≡ [] → es ≡ []
fibers_of-none [] none = refl
fibers_of-none (e ∷ es) none = absurd (some (in_order es) none)
  where
    some : (ys : List Entry) → map (λ (x : Entry). x.0) (put e ys) ≡ [] → ⊥
    some [] empty = cc
    some (y ∷ ys) empty = by (nat_lt y.1 e.1) empty
      where
        by : (b : Bool) → map (λ (x : Entry). x.0) (cond b (y ∷ put e ys) (e ∷ y ∷ ys)) ≡ [] → ⊥
        by true empty' = cc
        by false empty' = cc

-- The invariant

pub timed-insert : (fiber time : ℕ) (es new : List Entry) → AreTimed es time → new ≡ insert_entry nat_cmp es fiber time → IsStrictlySortedBy nat_cmp (keys_of new) → AreTimed new (time + 1)
timed-insert fiber time es new timed is apart = record { apart = apart; before = subst (AreBefore (time + 1)) (sym is) (before-insert fiber time es timed.before) }

pub timed-remove : (fiber time : ℕ) (es new : List Entry) → AreTimed es time → new ≡ remove_entry (is_at (nat_cmp fiber)) es → IsStrictlySortedBy nat_cmp (keys_of new) → AreTimed new time
timed-remove fiber time es new timed is apart = record { apart = apart; before = subst (AreBefore time) (sym is) (before-remove fiber time es timed.before) }
