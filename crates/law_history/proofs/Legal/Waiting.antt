-- What holds of all who wait in a row, before a step and after it.
use Rattle.std.proofs.Common.{◌≡◌, Bool, true, false, List, [], ◌∷◌, ◌++◌, Option, Some, None, refl, ap, subst}
use Rattle.std.specs.Prelude.{find, cond}
use Rattle.eio_value.specs.declared.call.Answer.TheVariants as answer
use Rattle.eio_value.specs.declared.message.Waiter.{Waiter}
use Rattle.spec_parts.specs.Data.{Data}
use Rattle.eio_value.specs.Sending.{Start}
use Rattle.spec_parts.specs.Row.{Row, Queued, Side, Takers, Adders, Alone, Keeps, Waits, Handed, Does, Ignores, Looks, Stepped, but_first, entered, found, has_other_cell, only_row, otherwise, queue, started, stepped, with_queue}
use Rattle.law_parts.proofs.Alike.{only}
use Rattle.law_history.proofs.Legal.Coming.{woken_in}
use Rattle.law_history.proofs.Legal.Rows.{by_test}

module _ (P : Waiter → Type 0) where
  abbrev pub AllQueued : List Queued → Type 0
  AllQueued [] = Unit {0}
  AllQueued (q ∷ qs) = P q.who × AllQueued qs

  abbrev pub AllWaiting : Row → Type 0
  AllWaiting row = AllQueued row.takers × AllQueued row.adders

  queued_only : (p : Waiter → Bool) (qs : List Queued) → AllQueued qs → AllQueued (only p qs)
  queued_only p [] h = tt
  queued_only p (q ∷ qs) h = let k : AllQueued (only p qs) = queued_only p qs h.1 in by_test (λ b. AllQueued (cond b (q ∷ only p qs) (only p qs))) (p q.who) (λ e. (h.0, k)) (λ e. k)

  pub waiting_only : (p : Waiter → Bool) (row : Row) → AllWaiting row → AllWaiting (only_row p row)
  waiting_only p row h = (queued_only p row.takers h.0, queued_only p row.adders h.1)

  queued_push : (qs : List Queued) (q : Queued) → AllQueued qs → P q.who → AllQueued (qs ++ q ∷ [])
  queued_push [] q h k = (k, tt)
  queued_push (x ∷ xs) q h k = (h.0, queued_push xs q h.1 k)

  queued_but_first : (pick : Queued → Bool) (qs : List Queued) → AllQueued qs → AllQueued (but_first pick qs)
  queued_but_first pick [] h = tt
  queued_but_first pick (q ∷ qs) h = let k : AllQueued (but_first pick qs) = queued_but_first pick qs h.1 in by_test (λ b. AllQueued (elim b [ true ↦ qs | false ↦ q ∷ but_first pick qs ])) (pick q) (λ e. h.1) (λ e. (h.0, k))

  first_go : (q : Queued) (b : Bool) (rest : Option Queued) (r : Queued) → P q.who → (rest ≡ Some r → P r.who) → cond b (Some q) rest ≡ Some r → P r.who
  first_go q true rest r h ih e = subst (λ (k : Queued). P k.who) (ap (λ (o : Option Queued). elim o [ None ↦ q | Some k ↦ k ]) e) h
  first_go q false rest r h ih e = ih e

  queued_first : (pick : Queued → Bool) (qs : List Queued) (r : Queued) → AllQueued qs → find pick qs ≡ Some r → P r.who
  queued_first pick [] r h e = absurd (cc)
  queued_first pick (q ∷ qs) r h e = first_go q (pick q) (find pick qs) r h.0 (λ k. queued_first pick qs r h.1 k) e

  of_side : (side : Side) (row : Row) → AllWaiting row → AllQueued (queue side row)
  of_side Takers row h = h.0
  of_side Adders row h = h.1

  with_side : (side : Side) (qs : List Queued) (values : Data) (row : Row) → AllWaiting row → AllQueued qs → AllWaiting (with_queue side qs values row)
  with_side Takers qs values row h k = (k, h.1)
  with_side Adders qs values row h k = (h.0, k)

  waiting_entered : (row : Row) (values : Data) (side : Side) (q : Queued) → AllWaiting row → P q.who → AllWaiting (entered row values side q)
  waiting_entered row values side q h k =
      let others : Row = only_row (has_other_cell q.who.cell) row in
      let rest : AllWaiting others = waiting_only (has_other_cell q.who.cell) row h in
      with_side side (queue side others ++ q ∷ []) values others rest (queued_push (queue side others) q (of_side side others rest) k)

  none_started : (start : Option Start) (who : Waiter) → woken_in (started start) ≡ Some who → ⊥
  none_started None who e = cc
  none_started (Some start) who e = cc

  otherwise_wakes : (row : Row) (who : Waiter) (off : Bool) (alone : Alone) (woken : Waiter) → woken_in (otherwise row who off alone).sent ≡ Some woken → P woken
  otherwise_wakes row who off (Keeps values it start) woken e = absurd (none_started start woken e)
  otherwise_wakes row who true (Waits values side item number) woken e = absurd (cc)
  otherwise_wakes row who false (Waits values side item number) woken e = absurd (cc)

  otherwise_waiting : (row : Row) (who : Waiter) (off : Bool) (alone : Alone) → AllWaiting row → ((otherwise row who off alone).answer ≡ answer.Waits → P who) → AllWaiting (otherwise row who off alone).row
  otherwise_waiting row who off (Keeps values it start) h k = h
  otherwise_waiting row who true (Waits values side item number) h k = h
  otherwise_waiting row who false (Waits values side item number) h k = waiting_entered row values side (record { who = who; item = item; number = number }) h (k refl)

  found_wakes : (row : Row) (side : Side) (pick : Queued → Bool) (hand : Queued → Handed) (other : Stepped) (woken : Waiter) → AllWaiting row → (woken_in other.sent ≡ Some woken → P woken)
      → (first : Option Queued) → find pick (queue side row) ≡ first → woken_in (found row side pick hand other first).sent ≡ Some woken → P woken
  found_wakes row side pick hand other woken h ih None e q = ih q
  found_wakes row side pick hand other woken h ih (Some r) e q =
      subst P (ap (λ (u : Option Waiter). elim u [ None ↦ r.who | Some k ↦ k ]) q) (queued_first pick (queue side row) r (of_side side row h) e)

  -- whom a step wakes was waiting
  pub step_wakes : (row : Row) (who : Waiter) (off : Bool) (what : Does) (woken : Waiter) → AllWaiting row → woken_in (stepped row who off what).sent ≡ Some woken → P woken
  step_wakes row who off (Ignores alone) woken h e = otherwise_wakes row who off alone woken e
  step_wakes row who off (Looks side pick hand alone) woken h e =
      found_wakes row side pick hand (otherwise row who off alone) woken h (λ k. otherwise_wakes row who off alone woken k) (find pick (queue side row)) refl e

  found_waiting : (row : Row) (side : Side) (pick : Queued → Bool) (hand : Queued → Handed) (other : Stepped) (first : Option Queued) → AllWaiting row → (first ≡ None → AllWaiting other.row) → AllWaiting (found row side pick hand other first).row
  found_waiting row side pick hand other None h ih = ih refl
  found_waiting row side pick hand other (Some q) h ih = with_side side (but_first pick (queue side row)) (hand q).values row h (queued_but_first pick (queue side row) (of_side side row h))

  -- who waits after a step waited before it, or was entered by it
  pub step_waiting : (row : Row) (who : Waiter) (off : Bool) (what : Does) → AllWaiting row → ((stepped row who off what).answer ≡ answer.Waits → P who) → AllWaiting (stepped row who off what).row
  step_waiting row who off (Ignores alone) h k = otherwise_waiting row who off alone h k
  step_waiting row who off (Looks side pick hand alone) h k =
      found_waiting row side pick hand (otherwise row who off alone) (find pick (queue side row)) h (λ none. otherwise_waiting row who off alone h (λ a. k (rw none a)))

queued_weaker : (P Q : Waiter → Type 0) → ((who : Waiter) → P who → Q who) → (qs : List Queued) → AllQueued P qs → AllQueued Q qs
queued_weaker P Q f [] h = tt
queued_weaker P Q f (q ∷ qs) h = (f q.who h.0, queued_weaker P Q f qs h.1)

pub waiting_weaker : (P Q : Waiter → Type 0) → ((who : Waiter) → P who → Q who) → (row : Row) → AllWaiting P row → AllWaiting Q row
waiting_weaker P Q f row h = (queued_weaker P Q f row.takers h.0, queued_weaker P Q f row.adders h.1)
