-- What a call gives that meets its row: the step of a row, which is the row before without some of the dead.
use Rattle.std.proofs.Common.{◌≡◌, ℕ, Bool, true, false, List, [], ◌∷◌, ◌++◌, All, Some, refl, sym, ap, ◌∙◌, subst}
use Rattle.std.proofs.lemmas.List.Elements.{All-nil, All-cons, All-head, All-tail}
use Rattle.std.specs.Prelude.{find}
use Rattle.eio_value.specs.declared.call.Call.{Call}
use Rattle.eio_value.specs.declared.message.Waiter.{Waiter}
use Rattle.eio_value.specs.Waking.{Test, IsKnown}
use Rattle.executor_pool.specs.Finishing.{AsksFor, Parts}
use Rattle.law_parts.proofs.Alike.{only, stepped_alike}
use Rattle.law_parts.specs.Skips.{TouchesNone, only_stepped}
use Rattle.object_core.proofs.KindKept.{does_keep, step_keeps}
use Rattle.object_core.specs.Calling.{MeetsBy, MeetsCall, is_for_one}
use Rattle.object_core.specs.Dead.{DeadStepAlike}
use Rattle.object_core.specs.Kinds.{kind_of}
use Rattle.spec_parts.specs.Objects.{does}
use Rattle.spec_parts.specs.Row.{Row, Queued, Side, Takers, Adders, Does, Ignores, Looks, Stepped, but_first, only_row, queue, stepped, with_queue}
use Rattle.spec_parts.specs.Skipping.{waiters}
use Rattle.wait_list.specs.Meeting.{Asks}

-- the row without some that don't stay, and the step on it
pub record Left (row : Row) (who : Waiter) (off : Bool) (what : Does) (after : Stepped) (Gone : List Waiter → Type 0) : Type 0 where
  pub rest : Row
  pub dead : List Queued
  pub gone : Gone (waiters dead)
  pub values : rest.values ≡ row.values
  pub less : (stays : Waiter → Bool) → All (λ queued. stays queued.who ≡ false) dead → only_row stays rest ≡ only_row stays row
  pub gives : stepped rest who off what ≡ after

only_past : (stays : Waiter → Bool) (dead rest : List Queued) → All (λ queued. stays queued.who ≡ false) dead → only stays (dead ++ rest) ≡ only stays rest
only_past stays [] rest gone = refl
only_past stays (queued ∷ dead) rest gone = rw (All-head (λ (q : Queued). stays q.who ≡ false) queued dead gone) (only_past stays dead rest (All-tail (λ (q : Queued). stays q.who ≡ false) queued dead gone))

but_go : (stays : Waiter → Bool) (pick : Queued → Bool) (x : Queued) (xs : List Queued) (queued : Queued) (b : Bool) → pick x ≡ b → (c : Bool) → stays x.who ≡ c → find pick (x ∷ xs) ≡ Some queued → stays queued.who ≡ false
    → (find pick xs ≡ Some queued → only stays (but_first pick xs) ≡ only stays xs)
    → only stays (but_first pick (x ∷ xs)) ≡ only stays (x ∷ xs)
but_go stays pick x xs queued true eb c ec is gone ih =
    let same : x ≡ queued = cc (rw eb at is) in
    let out : stays x.who ≡ false = ap (λ (q : Queued). stays q.who) same ∙ gone in
    rw (out, eb, but_first) refl
but_go stays pick x xs queued false eb true ec is gone ih = let rest = ih (rw eb at is) in rw (ec, eb, ec, but_first) (ap (λ (l : List Queued). x ∷ l) rest)
but_go stays pick x xs queued false eb false ec is gone ih = let rest = ih (rw eb at is) in rw (ec, eb, ec, but_first) rest

only_but : (stays : Waiter → Bool) (pick : Queued → Bool) (list : List Queued) (queued : Queued) → find pick list ≡ Some queued → stays queued.who ≡ false → only stays (but_first pick list) ≡ only stays list
only_but stays pick [] queued is gone = refl
only_but stays pick (x ∷ xs) queued is gone = but_go stays pick x xs queued (pick x) refl (stays x.who) refl is gone (λ further. only_but stays pick xs queued further gone)

with_only : (stays : Waiter → Bool) (side : Side) (row : Row) (rest : List Queued) → only stays rest ≡ only stays (queue side row) → only_row stays (with_queue side rest row.values row) ≡ only_row stays row
with_only stays Takers row rest same = λ i. record { values = row.values; takers = same i; adders = only stays row.adders }
with_only stays Adders row rest same = λ i. record { values = row.values; takers = only stays row.takers; adders = same i }

same_values : (side : Side) (row : Row) (rest : List Queued) → (with_queue side rest row.values row).values ≡ row.values
same_values Takers row rest = refl
same_values Adders row rest = refl

module _ (knew knows : Test) (tells : Bool) (row : Row) (who : Waiter) (off : Bool) where
  left_asks : (what : Does) (after : Stepped) → Asks knew knows tells row who off what after → Left row who off what after (All (IsKnown knows))
  left_asks (Ignores alone) after asks = record { rest = row; dead = []; gone = All-nil (IsKnown knows); values = refl; less = λ stays gone. refl; gives = asks.0 }
  left_asks (Looks side pick hand alone) after asks = record {
    rest = with_queue side asks.rest row.values row;
    dead = asks.dead;
    gone = asks.skips.known;
    values = same_values side row asks.rest;
    less = λ stays gone. with_only stays side row asks.rest (sym (only_past stays asks.dead asks.rest gone) ∙ ap (only stays) (sym asks.are_all));
    gives = asks.gives;
  }

  one_less : (side : Side) (pick : Queued → Bool) (dead rest : List Queued) → Parts pick (queue side row) dead rest → (stays : Waiter → Bool) → All (λ queued. stays queued.who ≡ false) dead
      → only stays rest ≡ only stays (queue side row)
  one_less side pick [] rest parts stays gone = ap (only stays) parts
  one_less side pick (queued ∷ more) rest parts stays gone = ap (only stays) parts.2 ∙ only_but stays pick (queue side row) queued parts.1 (All-head (λ (q : Queued). stays q.who ≡ false) queued more gone)

  left_one : (what : Does) (after : Stepped) → AsksFor knew knows tells row who off what after → Left row who off what after (All (IsKnown knows))
  left_one (Ignores alone) after asks = record { rest = row; dead = []; gone = All-nil (IsKnown knows); values = refl; less = λ stays gone. refl; gives = asks.0 }
  left_one (Looks side pick hand alone) after asks = record {
    rest = with_queue side asks.rest row.values row;
    dead = asks.dead;
    gone = asks.skips.known;
    values = same_values side row asks.rest;
    less = λ stays gone. with_only stays side row asks.rest (one_less side pick asks.dead asks.rest asks.parts stays gone);
    gives = asks.gives;
  }

  left_by : (one : Bool) (serial : ℕ) (call : Call) (after : Stepped) → MeetsBy one knew knows tells row who off serial call after → Left row who off (does row.values serial call) after (All (IsKnown knows))
  left_by true serial call after meets = left_one (does row.values serial call) after meets
  left_by false serial call after meets = left_asks (does row.values serial call) after meets

  pub kind_kept : (serial : ℕ) (call : Call) (after : Stepped) → MeetsCall knew knows tells row who off serial call after → kind_of after.row.values ≡ kind_of row.values
  kind_kept serial call after meets =
      let left = left_by (is_for_one call) serial call after meets in
      ap (λ (step : Stepped). kind_of step.row.values) (sym left.gives)
      ∙ step_keeps (kind_of row.values) left.rest who off (does row.values serial call) (ap kind_of left.values) (does_keep row.values serial call)

-- ## The dead

gone_from : (knows : Test) (stays : Waiter → Bool) → ((other : Waiter) → IsKnown knows other → stays other ≡ false) → (dead : List Queued) → All (IsKnown knows) (waiters dead) → All (λ queued. stays queued.who ≡ false) dead
gone_from knows stays out [] known = All-nil (λ (q : Queued). stays q.who ≡ false)
gone_from knows stays out (queued ∷ dead) known =
    All-cons (λ (q : Queued). stays q.who ≡ false) queued dead (out queued.who (All-head (IsKnown knows) queued.who (waiters dead) known))
    (gone_from knows stays out dead (All-tail (IsKnown knows) queued.who (waiters dead) known))

pub dead_step_alike : DeadStepAlike
dead_step_alike knew knows tells row who off serial call after stays meets out touches =
    let what : Does = does row.values serial call in
    let left = left_by knew knows tells row who off (is_for_one call) serial call after meets in
    let same : only_row stays left.rest ≡ only_row stays row = left.less stays (gone_from knows stays out left.dead left.gone) in
    ap (λ (r : Row). stepped r who off what) (sym same)
    ∙ stepped_alike stays left.rest who off what (subst (λ (step : Stepped). TouchesNone stays who step) (sym left.gives) touches)
    ∙ ap (only_stepped stays) left.gives
