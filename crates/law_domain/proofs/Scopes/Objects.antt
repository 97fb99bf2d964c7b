-- Who waits for the shared objects of a mocked run: each fiber that stands in a list of an object is parked in just that wait, and stands in one list, once.
-- So what a call wakes, and a strike ends, is the wait of a fiber that waits.
use Rattle.std.proofs.Common.{◌≡◌, ℕ, zero, suc, ◌+◌, ◌≤◌, ◌<◌, Bool, true, false, cond, List, [], ◌∷◌, ◌++◌, Option, Some, None, refl, sym, ap, ◌∙◌, subst, arith, slice_set}
use Rattle.std.specs.Prelude.{filter, find, not, map}
use Rattle.std.proofs.lemmas.Bool.{both_ways}
use Rattle.eio_value.specs.declared.call.Answer.TheVariants as answer
use Rattle.eio_value.specs.declared.message.Waiter.{Waiter}
use Rattle.eio_value.specs.declared.raised.Outcome.{Outcome}
use Rattle.eio_value.specs.declared.value.Value.{Value}
use Rattle.eio_value.specs.Sending.{Sent, Start, Resumes}
use Rattle.spec_parts.specs.Data.{Data}
use Rattle.spec_parts.specs.Row.{Row, Queued, Side, Takers, Adders, Alone, Keeps, Waits, Does, Ignores, Looks, Handed, Stepped, queue, but_first, has_other_cell, entered, started, otherwise, found, stepped}
use Rattle.spec_parts.specs.Strikes.{same_wait, struck}
use Rattle.spec_machine.specs.Domain.{OnObject, Parked}
use Rattle.spec_machine.specs.Shared.{row_at}
use Rattle.law_domain.specs.Scopes.Finished.{WaitsOnObject}
use Rattle.law_domain.proofs.Scopes.Counts.{times, Compared, Same, Other, compared, one, one_self}
use Rattle.law_domain.proofs.Scopes.Scopes.{View, standing_at}

-- ## Words

abbrev pub Every : {A : Type 0} → (A → Type 0) → List A → Type 0
Every P [] = Unit {0}
Every P (x ∷ xs) = P x × Every P xs

pub every_weaker : {A : Type 0} (P Q : A → Type 0) → ((a : A) → P a → Q a) → (xs : List A) → Every P xs → Every Q xs
every_weaker P Q weaker [] h = tt
every_weaker P Q weaker (x ∷ xs) h = (weaker x h.0, every_weaker P Q weaker xs h.1)

pub every_append : {A : Type 0} (P : A → Type 0) (xs ys : List A) → Every P xs → Every P ys → Every P (xs ++ ys)
every_append P [] ys h k = k
every_append P (x ∷ xs) ys h k = (h.0, every_append P xs ys h.1 k)

every_filter : {A : Type 0} (P : A → Type 0) (test : A → Bool) (xs : List A) → Every P xs → Every P (filter test xs)
every_filter P test [] h = tt
every_filter P test (x ∷ xs) h = by (test x) (every_filter P test xs h.1)
  where
    by : (b : Bool) → Every P (filter test xs) → Every P (cond b (x ∷ filter test xs) (filter test xs))
    by true rest = (h.0, rest)
    by false rest = rest

-- what tells waits apart: a number for each
abbrev pub Key : Type 0
Key = Waiter → ℕ

abbrev pub keys_in : Key → List Queued → List ℕ
keys_in key list = map (λ queued. key queued.who) list

-- how often a number stands in a row, and in all rows
abbrev pub in_row : Key → ℕ → Row → ℕ
in_row key g row = times g (keys_in key row.takers) + times g (keys_in key row.adders)

abbrev pub in_rows : Key → ℕ → List Row → ℕ
in_rows key g [] = 0
in_rows key g (row ∷ rows) = in_row key g row + in_rows key g rows

-- waits are told apart by their fibers
abbrev pub fiber_of : Key
fiber_of who = who.fiber

-- the fiber is parked in this wait
abbrev pub Stood : View → Queued → Type 0
Stood v queued = standing_at v queued.who.fiber ≡ Parked (OnObject queued.who)

abbrev pub RowOf : (Queued → Type 0) → Row → Type 0
RowOf P row = Every P row.takers × Every P row.adders

times_filter : (key : Key) (g : ℕ) (test : Queued → Bool) (xs : List Queued) → times g (keys_in key (filter test xs)) ≤ times g (keys_in key xs)
times_filter key g test [] = omega arith
times_filter key g test (x ∷ xs) = by (test x) (times_filter key g test xs)
  where
    by : (b : Bool) → times g (keys_in key (filter test xs)) ≤ times g (keys_in key xs) → times g (keys_in key (cond b (x ∷ filter test xs) (filter test xs))) ≤ one g (key x.who) + times g (keys_in key xs)
    by true rest = omega (arith, rest)
    by false rest = omega (arith, rest)

times_keys_append : (key : Key) (g : ℕ) (xs : List Queued) (q : Queued) → times g (keys_in key (xs ++ q ∷ [])) ≡ times g (keys_in key xs) + one g (key q.who)
times_keys_append key g [] q = omega arith
times_keys_append key g (x ∷ xs) q = let rest : times g (keys_in key (xs ++ q ∷ [])) ≡ times g (keys_in key xs) + one g (key q.who) = times_keys_append key g xs q in omega (arith, rest)

-- ## What a call leaves of a row

-- no one new stands there
pub record Fewer (row next : Row) : Type 1 where
  pub all : (P : Queued → Type 0) → RowOf P row → RowOf P next
  pub count : (key : Key) (g : ℕ) → in_row key g next ≤ in_row key g row

-- nobody is woken by what is sent
abbrev pub WakesNobody : Option Sent → Type 0
WakesNobody (Some (Resumes who result)) = ⊥
WakesNobody sent = Unit {0}

-- nobody new waits and nobody is woken; the caller waits; or someone who waited is woken
pub data RowSteps (row : Row) (who : Waiter) (step : Stepped) : Type 1 where
  Left : Fewer row step.row → WakesNobody step.sent → RowSteps row who step
  Enters : step.answer ≡ answer.Waits → step.sent ≡ None → ((P : Queued → Type 0) → ((item : Value) (number : ℕ) → P (record { who = who; item = item; number = number })) → RowOf P row → RowOf P step.row)
      → ((key : Key) (g : ℕ) → in_row key g step.row ≤ in_row key g row + one g (key who)) → RowSteps row who step
  Woke : (queued : Queued) (result : Outcome) → step.sent ≡ Some (Resumes queued.who result) → ((P : Queued → Type 0) → RowOf P row → P queued)
      → Fewer row step.row → ((key : Key) → in_row key (key queued.who) step.row + 1 ≤ in_row key (key queued.who) row) → RowSteps row who step

same_fewer : (row : Row) (values : Data) → Fewer row (record row { values = values })
same_fewer row values = record { all = (λ P h. h); count = (λ key g. omega arith) }

entered_all : (P : Queued → Type 0) (row : Row) (values : Data) (side : Side) (q : Queued) → P q → RowOf P row → RowOf P (entered row values side q)
entered_all P row values Takers q it h =
    (every_append P (filter (λ x. has_other_cell q.who.cell x.who) row.takers) (q ∷ []) (every_filter P (λ x. has_other_cell q.who.cell x.who) row.takers h.0) (it, tt), every_filter P (λ x. has_other_cell q.who.cell x.who) row.adders h.1)
entered_all P row values Adders q it h =
    (every_filter P (λ x. has_other_cell q.who.cell x.who) row.takers h.0, every_append P (filter (λ x. has_other_cell q.who.cell x.who) row.adders) (q ∷ []) (every_filter P (λ x. has_other_cell q.who.cell x.who) row.adders h.1) (it, tt))

entered_count : (key : Key) (g : ℕ) (row : Row) (values : Data) (side : Side) (q : Queued) → in_row key g (entered row values side q) ≤ in_row key g row + one g (key q.who)
entered_count key g row values Takers q =
    let test : Queued → Bool = λ x. has_other_cell q.who.cell x.who in
    omega (arith, times_keys_append key g (filter test row.takers) q, times_filter key g test row.takers, times_filter key g test row.adders)
entered_count key g row values Adders q =
    let test : Queued → Bool = λ x. has_other_cell q.who.cell x.who in
    omega (arith, times_keys_append key g (filter test row.adders) q, times_filter key g test row.takers, times_filter key g test row.adders)

starts_nobody : (start : Option Start) → WakesNobody (started start)
starts_nobody None = tt
starts_nobody (Some start) = tt

alone_steps : (row : Row) (who : Waiter) (off : Bool) (alone : Alone) → RowSteps row who (otherwise row who off alone)
alone_steps row who off (Keeps values given start) = Left (same_fewer row values) (starts_nobody start)
alone_steps row who true (Waits values side item number) = Left (record { all = (λ P h. h); count = (λ key g. omega arith) }) tt
alone_steps row who false (Waits values side item number) =
    let q : Queued = record { who = who; item = item; number = number } in
    Enters refl refl (λ P new h. entered_all P row values side q (new item number) h) (λ key g. entered_count key g row values side q)

-- the first that passes a test, and the others
record IsFirst (list next : List Queued) (q : Queued) : Type 1 where
  is : (P : Queued → Type 0) → Every P list → P q
  others : (P : Queued → Type 0) → Every P list → Every P next
  count : (key : Key) (g : ℕ) → times g (keys_in key next) + one g (key q.who) ≡ times g (keys_in key list)

abbrev Others : (pick : Queued → Bool) → Bool → Queued → List Queued → List Queued
Others pick b x xs = elim b as (λ _. List Queued) [ true ↦ xs | false ↦ x ∷ but_first pick xs ]

found_first : (pick : Queued → Bool) (list : List Queued) (q : Queued) → find pick list ≡ Some q → IsFirst list (but_first pick list) q
found_first pick [] q none = absurd (cc)
found_first pick (x ∷ xs) q is = by (pick x) is (found_first pick xs q)
  where
    by : (b : Bool) → cond b (Some x) (find pick xs) ≡ Some q → (find pick xs ≡ Some q → IsFirst xs (but_first pick xs) q) → IsFirst (x ∷ xs) (Others pick b x xs) q
    by true it rest =
        let same : x ≡ q = cc in
        record {
          is = (λ P h. subst P same h.0);
          others = (λ P h. h.1);
          count = (λ key g. let e : one g (key q.who) ≡ one g (key x.who) = ap (λ (y : Queued). one g (key y.who)) (sym same) in omega (arith, e));
        }
    by false it rest =
        let first : IsFirst xs (but_first pick xs) q = rest it in
        record { is = (λ P h. first.is P h.1); others = (λ P h. (h.0, first.others P h.1)); count = (λ key g. omega (arith, first.count key g)) }

looks_steps : (row : Row) (who : Waiter) (off : Bool) (side : Side) (pick : Queued → Bool) (hand : Queued → Handed) (alone : Alone) (it : Option Queued) → find pick (queue side row) ≡ it
    → RowSteps row who (found row side pick hand (otherwise row who off alone) it)
looks_steps row who off side pick hand alone None is = alone_steps row who off alone
looks_steps row who off Takers pick hand alone (Some q) is =
    let first : IsFirst row.takers (but_first pick row.takers) q = found_first pick row.takers q is in
    Woke q (hand q).outcome refl (λ P h. first.is P h.0)
    (record { all = (λ P h. (first.others P h.0, h.1)); count = (λ key g. omega (arith, first.count key g)) })
    (λ key. omega (arith, first.count key (key q.who), one_self (key q.who)))
looks_steps row who off Adders pick hand alone (Some q) is =
    let first : IsFirst row.adders (but_first pick row.adders) q = found_first pick row.adders q is in
    Woke q (hand q).outcome refl (λ P h. first.is P h.1)
    (record { all = (λ P h. (h.0, first.others P h.1)); count = (λ key g. omega (arith, first.count key g)) })
    (λ key. omega (arith, first.count key (key q.who), one_self (key q.who)))

pub row_steps : (row : Row) (who : Waiter) (off : Bool) (it : Does) → RowSteps row who (stepped row who off it)
row_steps row who off (Ignores alone) = alone_steps row who off alone
row_steps row who off (Looks side pick hand alone) = looks_steps row who off side pick hand alone (find pick (queue side row)) refl

-- ## Rows

-- a row in the place of one
pub set_all : (P : Queued → Type 0) (rows : List Row) (object : ℕ) (row : Row) → Every (RowOf P) rows → RowOf P row → Every (RowOf P) (slice_set rows object row)
set_all P [] object row h it = tt
set_all P (r ∷ rows) zero row h it = (it, h.1)
set_all P (r ∷ rows) (suc object) row h it = (h.0, set_all P rows object row h.1 it)

pub at_all : (P : Queued → Type 0) (rows : List Row) (object : ℕ) → Every (RowOf P) rows → RowOf P (row_at rows object)
at_all P [] object h = (tt, tt)
at_all P (r ∷ rows) zero h = h.0
at_all P (r ∷ rows) (suc object) h = at_all P rows object h.1

pub set_count : (key : Key) (g : ℕ) (rows : List Row) (object : ℕ) (row : Row) → in_rows key g (slice_set rows object row) + in_row key g (row_at rows object) ≤ in_rows key g rows + in_row key g row
set_count key g [] object row = omega arith
set_count key g (r ∷ rows) zero row = omega arith
set_count key g (r ∷ rows) (suc object) row =
    let rest : in_rows key g (slice_set rows object row) + in_row key g (row_at rows object) ≤ in_rows key g rows + in_row key g row = set_count key g rows object row in omega (arith, rest)

-- what stands somewhere is found there
pub record IsThere (P : Queued → Type 0) (key : Key) (g : ℕ) : Type 0 where
  pub queued : Queued
  pub key_is : key queued.who ≡ g
  pub holds : P queued

module _ (P : Queued → Type 0) (key : Key) (g : ℕ) where
  in_list : (list : List Queued) → Every P list → 0 < times g (keys_in key list) → IsThere P key g
  in_list [] h some = absurd (omega (arith, some))
  in_list (q ∷ list) h some = by (compared g (key q.who)) (in_list list h.1)
    where
      by : Compared g (key q.who) → (0 < times g (keys_in key list) → IsThere P key g) → IsThere P key g
      by (Same same is_one) rest = record { queued = q; key_is = sym same; holds = h.0 }
      by (Other differs none) rest = rest (omega (arith, some, none))

  pub found_in_rows : (rows : List Row) → Every (RowOf P) rows → 0 < in_rows key g rows → IsThere P key g
  found_in_rows [] h some = absurd (omega (arith, some))
  found_in_rows (row ∷ rows) h some = by (times g (keys_in key row.takers)) refl (times g (keys_in key row.adders)) refl (found_in_rows rows h.1)
    where
      by : (n : ℕ) → times g (keys_in key row.takers) ≡ n → (k : ℕ) → times g (keys_in key row.adders) ≡ k → (0 < in_rows key g rows → IsThere P key g) → IsThere P key g
      by (suc n) is k other rest = in_list row.takers h.0.0 (omega (arith, is))
      by zero is (suc k) other rest = in_list row.adders h.0.1 (omega (arith, other))
      by zero is zero other rest = rest (omega (arith, some, is, other))

  -- what holds of all but one, which stands in no list
  module _ (Q : Queued → Type 0) (stay : (q : Queued) → (key q.who ≡ g → ⊥) → P q → Q q) where
    list_stays : (list : List Queued) → times g (keys_in key list) ≡ 0 → Every P list → Every Q list
    list_stays [] none h = tt
    list_stays (q ∷ list) none h = by (compared g (key q.who)) (λ left. list_stays list left h.1)
      where
        by : Compared g (key q.who) → (times g (keys_in key list) ≡ 0 → Every Q list) → Every Q (q ∷ list)
        by (Same same is_one) rest = absurd (omega (arith, none, is_one))
        by (Other differs other) rest = (stay q (λ e. differs (sym e)) h.0, rest (omega (arith, none, other)))

    pub rows_stay : (rows : List Row) → in_rows key g rows ≡ 0 → Every (RowOf P) rows → Every (RowOf Q) rows
    rows_stay [] none h = tt
    rows_stay (row ∷ rows) none h = ((list_stays row.takers (omega (arith, none)) h.0.0, list_stays row.adders (omega (arith, none)) h.0.1), rows_stay rows (omega (arith, none)) h.1)

pub rows_weaker : (P Q : Queued → Type 0) → ((q : Queued) → P q → Q q) → (rows : List Row) → Every (RowOf P) rows → Every (RowOf Q) rows
rows_weaker P Q weaker rows h = every_weaker (RowOf P) (RowOf Q) (λ row k. (every_weaker P Q weaker row.takers k.0, every_weaker P Q weaker row.adders k.1)) rows h

-- ## Strikes

abbrev not_it : Waiter → Queued → Bool
not_it who q = not (same_wait who q.who)

same_itself : (who : Waiter) → same_wait who who ≡ true
same_itself who = grind arith

abbrev pub struck_rows : Waiter → List Row → List Row
struck_rows who rows = map (λ row. struck row who) rows

pub struck_all : (P : Queued → Type 0) (who : Waiter) (rows : List Row) → Every (RowOf P) rows → Every (RowOf P) (struck_rows who rows)
struck_all P who [] h = tt
struck_all P who (row ∷ rows) h = ((every_filter P (not_it who) row.takers h.0.0, every_filter P (not_it who) row.adders h.0.1), struck_all P who rows h.1)

pub struck_count : (key : Key) (g : ℕ) (who : Waiter) (rows : List Row) → in_rows key g (struck_rows who rows) ≤ in_rows key g rows
struck_count key g who [] = omega arith
struck_count key g who (row ∷ rows) =
    let rest : in_rows key g (struck_rows who rows) ≤ in_rows key g rows = struck_count key g who rows in omega (arith, rest, times_filter key g (not_it who) row.takers, times_filter key g (not_it who) row.adders)

-- where all that have a key are in one wait, none is left after a strike on it
module _ (P : Queued → Type 0) (key : Key) (g : ℕ) (who : Waiter) (one_wait : (q : Queued) → key q.who ≡ g → P q → who ≡ q.who) where
  list_struck : (list : List Queued) → Every P list → times g (keys_in key (filter (not_it who) list)) ≡ 0
  list_struck [] h = refl
  list_struck (q ∷ list) h = by (same_wait who q.who) refl (list_struck list h.1)
    where
      by : (b : Bool) → same_wait who q.who ≡ b → times g (keys_in key (filter (not_it who) list)) ≡ 0 → times g (keys_in key (cond (not b) (q ∷ filter (not_it who) list) (filter (not_it who) list))) ≡ 0
      by true same rest = rest
      by false differs rest = apart (compared g (key q.who))
        where
          apart : Compared g (key q.who) → one g (key q.who) + times g (keys_in key (filter (not_it who) list)) ≡ 0
          apart (Other other none) = omega (arith, none, rest)
          apart (Same same is_one) = absurd (both_ways (same_wait who q.who) differs (subst (λ (w : Waiter). same_wait who w ≡ true) (one_wait q (sym same) h.0) (same_itself who)))

  pub struck_none : (rows : List Row) → Every (RowOf P) rows → in_rows key g (struck_rows who rows) ≡ 0
  struck_none [] h = refl
  struck_none (row ∷ rows) h = let rest : in_rows key g (struck_rows who rows) ≡ 0 = struck_none rows h.1 in omega (arith, rest, list_struck row.takers h.0.0, list_struck row.adders h.0.1)

-- ## What each move of a mocked run leaves of all rows

-- each waiting fiber is parked in its wait, and stands in one list, once
pub record Held (v : View) (rows : List Row) : Type 0 where
  pub stand : Every (RowOf (Stood v)) rows
  pub once : (g : ℕ) → in_rows fiber_of g rows ≤ 1

abbrev Stay : (v w : View) → (g : ℕ) → Type 0
Stay v w g = (x : ℕ) (who : Waiter) → (x ≡ g → ⊥) → standing_at v x ≡ Parked (OnObject who) → standing_at w x ≡ Parked (OnObject who)

-- whoever stands somewhere is parked there
pub parked_in_rows : (v : View) (g : ℕ) (rows : List Row) → Every (RowOf (Stood v)) rows → 0 < in_rows fiber_of g rows → WaitsOnObject (standing_at v g)
parked_in_rows v g rows h some =
    let it : IsThere (Stood v) fiber_of g = found_in_rows (Stood v) fiber_of g rows h some in
    (it.queued.who, subst (λ (x : ℕ). standing_at v x ≡ Parked (OnObject it.queued.who)) it.key_is it.holds)

-- nobody's wait for an object has ended
pub held_on : (v w : View) (rows : List Row) → ((x : ℕ) (who : Waiter) → standing_at v x ≡ Parked (OnObject who) → standing_at w x ≡ Parked (OnObject who)) → Held v rows → Held w rows
held_on v w rows waits held = record { stand = rows_weaker (Stood v) (Stood w) (λ q is. waits q.who.fiber q.who is) rows held.stand; once = held.once }

-- a row has fewer waiters
pub held_fewer : (v : View) (rows : List Row) (object : ℕ) (row : Row) → Fewer (row_at rows object) row → Held v rows → Held v (slice_set rows object row)
held_fewer v rows object row fewer held = record {
  stand = set_all (Stood v) rows object row held.stand (fewer.all (Stood v) (at_all (Stood v) rows object held.stand));
  once = (λ g. omega (arith, held.once g, set_count fiber_of g rows object row, fewer.count fiber_of g));
}

-- a fiber that stood in no list waits now
pub held_more : (v : View) (rows : List Row) (object : ℕ) (who : Waiter) (row : Row)
    → ((P : Queued → Type 0) → ((item : Value) (number : ℕ) → P (record { who = who; item = item; number = number })) → RowOf P (row_at rows object) → RowOf P row)
    → ((key : Key) (g : ℕ) → in_row key g row ≤ in_row key g (row_at rows object) + one g (key who))
    → standing_at v who.fiber ≡ Parked (OnObject who) → in_rows fiber_of who.fiber rows ≡ 0
    → Held v rows → Held v (slice_set rows object row)
held_more v rows object who row all count is none held = record {
  stand = set_all (Stood v) rows object row held.stand (all (Stood v) (λ item number. is) (at_all (Stood v) rows object held.stand));
  once = (λ g. once_by g (compared g who.fiber));
}
  where
    once_by : (g : ℕ) → Compared g who.fiber → in_rows fiber_of g (slice_set rows object row) ≤ 1
    once_by g (Other differs zero_) = omega (arith, held.once g, set_count fiber_of g rows object row, count fiber_of g, zero_)
    once_by g (Same same is_one) =
        let none_g : in_rows fiber_of g rows ≡ 0 = subst (λ (n : ℕ). in_rows fiber_of n rows ≡ 0) (sym same) none in omega (arith, none_g, set_count fiber_of g rows object row, count fiber_of g, is_one)

-- a fiber leaves a row
pub woken_none : (v : View) (rows : List Row) (object : ℕ) (row : Row) (g : ℕ) → in_row fiber_of g row + 1 ≤ in_row fiber_of g (row_at rows object) → Held v rows → in_rows fiber_of g (slice_set rows object row) ≡ 0
woken_none v rows object row g less held = omega (arith, less, held.once g, set_count fiber_of g rows object row)

-- and goes on; all others stand as before
pub held_without : (v w : View) (rows : List Row) (g : ℕ) → Stay v w g → in_rows fiber_of g rows ≡ 0 → Held v rows → Held w rows
held_without v w rows g stay none held = record { stand = rows_stay (Stood v) fiber_of g (Stood w) (λ q differs is. stay q.who.fiber q.who differs is) rows none held.stand; once = held.once }

pub the_wait : (a b : Waiter) → Parked (OnObject a) ≡ Parked (OnObject b) → a ≡ b
the_wait a b e = cc

-- a wait was ended by a strike
pub held_struck : (v : View) (rows : List Row) (g : ℕ) (who : Waiter) → standing_at v g ≡ Parked (OnObject who) → Held v rows → Held v (struck_rows who rows) × (in_rows fiber_of g (struck_rows who rows) ≡ 0)
held_struck v rows g who is held = (
  record { stand = struck_all (Stood v) who rows held.stand; once = (λ x. omega (arith, held.once x, struck_count fiber_of x who rows)) },
  struck_none (Stood v) fiber_of g who (λ q same stood. the_wait who q.who (sym is ∙ subst (λ (n : ℕ). standing_at v n ≡ Parked (OnObject q.who)) same stood)) rows held.stand,
)
