-- A row with waiters that a step doesn't come to, and the row without them, take the same step.
-- Whom a list gives first is the same in both, since the first of the longer list stays; all else are filters of the lists, which commute.
use Rattle.std.proofs.Common.{◌≡◌, Bool, true, false, List, [], ◌∷◌, ◌++◌, Option, Some, None, refl, sym, ap, ◌∙◌}
use Rattle.std.specs.Prelude.{cond, filter, find}
use Rattle.eio_value.specs.declared.call.Answer.TheVariants as answer
use Rattle.eio_value.specs.declared.message.Waiter.{Waiter}
use Rattle.spec_parts.specs.Data.{Data}
use Rattle.spec_parts.specs.Objects.{does}
use Rattle.eio_value.specs.Sending.{Resumes}
use Rattle.spec_parts.specs.Row.{Row, Queued, Side, Takers, Adders, Alone, Keeps, Waits, Handed, Does, Ignores, Looks, Stepped, but_first, entered, found, has_other_cell, only_row, otherwise, queue, stepped, with_queue}
use Rattle.law_parts.specs.Skips.{TouchesNone, only_stepped, SkipsAlike}

-- those of a list that stay
abbrev pub only : (Waiter → Bool) → List Queued → List Queued
only stays list = filter (λ queued. stays queued.who) list

-- Filters

commute_go : (p q : Waiter → Bool) (x : Queued) (xs : List Queued) (b : Bool) → p x.who ≡ b → (c : Bool) → q x.who ≡ c → only p (only q xs) ≡ only q (only p xs) → only p (only q (x ∷ xs)) ≡ only q (only p (x ∷ xs))
commute_go p q x xs true eb true ec ih = rw (eb, ec, eb) (ap (λ (l : List Queued). x ∷ l) ih)
commute_go p q x xs true eb false ec ih = rw (eb, ec) ih
commute_go p q x xs false eb true ec ih = rw (eb, ec, eb) ih
commute_go p q x xs false eb false ec ih = rw (eb, ec) ih

-- the order of two filters doesn't matter
pub only-only : (p q : Waiter → Bool) (list : List Queued) → only p (only q list) ≡ only q (only p list)
only-only p q [] = refl
only-only p q (x ∷ xs) = commute_go p q x xs (p x.who) refl (q x.who) refl (only-only p q xs)

push_go : (p : Waiter → Bool) (b : Bool) (q x : Queued) (xs : List Queued) → only p (xs ++ q ∷ []) ≡ only p xs ++ q ∷ []
    → cond b (x ∷ only p (xs ++ q ∷ [])) (only p (xs ++ q ∷ [])) ≡ cond b (x ∷ only p xs) (only p xs) ++ q ∷ []
push_go p true q x xs ih = ap (λ (l : List Queued). x ∷ l) ih
push_go p false q x xs ih = ih

-- one that stays stays at the end
pub only-push : (p : Waiter → Bool) (list : List Queued) (q : Queued) → p q.who ≡ true → only p (list ++ q ∷ []) ≡ only p list ++ q ∷ []
only-push p [] q stays = rw stays refl
only-push p (x ∷ xs) q stays = push_go p (p x.who) q x xs (only-push p xs q stays)

module _ (p : Waiter → Bool) where
  -- The first of a list

  abbrev FirstSame : (Queued → Bool) → List Queued → Type 0
  FirstSame pick list = (find pick (only p list) ≡ find pick list) × (but_first pick (only p list) ≡ only p (but_first pick list))

  first_go : (pick : Queued → Bool) (x : Queued) (xs : List Queued) (b : Bool) → pick x ≡ b → (c : Bool) → p x.who ≡ c
      → ((q : Queued) → find pick (x ∷ xs) ≡ Some q → p q.who ≡ true)
      → (((q : Queued) → find pick xs ≡ Some q → p q.who ≡ true) → FirstSame pick xs)
      → FirstSame pick (x ∷ xs)
  first_go pick x xs true eb c ec stays ih = let px : p x.who ≡ true = stays x (rw eb refl) in (rw (px, eb) refl, rw (px, eb, but_first) refl)
  first_go pick x xs false eb true ec stays ih = let rest : FirstSame pick xs = ih (λ q e. stays q (rw eb e)) in (rw (ec, eb) rest.0, rw (ec, eb, ec, but_first) (ap (λ (l : List Queued). x ∷ l) rest.1))
  first_go pick x xs false eb false ec stays ih = let rest : FirstSame pick xs = ih (λ q e. stays q (rw eb e)) in (rw (ec, eb) rest.0, rw (ec, eb, ec, but_first) rest.1)

  -- where the first stays, it is the first of those that stay
  pub first_same : (pick : Queued → Bool) (list : List Queued) → ((q : Queued) → find pick list ≡ Some q → p q.who ≡ true) → FirstSame pick list
  first_same pick [] stays = (refl, refl)
  first_same pick (x ∷ xs) stays = first_go pick x xs (pick x) refl (p x.who) refl stays (λ k. first_same pick xs k)

  -- A waiter that is entered

  pub entered_alike : (row : Row) (values : Data) (side : Side) (queued : Queued) → p queued.who ≡ true → entered (only_row p row) values side queued ≡ only_row p (entered row values side queued)
  entered_alike row values Takers queued stays =
      let other : Waiter → Bool = has_other_cell queued.who.cell in
      let takers : only other (only p row.takers) ++ queued ∷ [] ≡ only p (only other row.takers ++ queued ∷ []) =
      ap (λ (l : List Queued). l ++ queued ∷ []) (only-only other p row.takers) ∙ sym (only-push p (only other row.takers) queued stays)
      in
      λ i. record { values = values; takers = takers i; adders = only-only other p row.adders i }
  entered_alike row values Adders queued stays =
      let other : Waiter → Bool = has_other_cell queued.who.cell in
      let adders : only other (only p row.adders) ++ queued ∷ [] ≡ only p (only other row.adders ++ queued ∷ []) =
      ap (λ (l : List Queued). l ++ queued ∷ []) (only-only other p row.adders) ∙ sym (only-push p (only other row.adders) queued stays)
      in
      λ i. record { values = values; takers = only-only other p row.takers i; adders = adders i }

  otherwise_alike : (row : Row) (who : Waiter) (off : Bool) (alone : Alone) → ((otherwise row who off alone).answer ≡ answer.Waits → p who ≡ true)
      → otherwise (only_row p row) who off alone ≡ only_stepped p (otherwise row who off alone)
  otherwise_alike row who off (Keeps values answer start) stays = refl
  otherwise_alike row who true (Waits values side item number) stays = refl
  otherwise_alike row who false (Waits values side item number) stays =
      λ i. record { row = entered_alike row values side (record { who = who; item = item; number = number }) (stays refl) i; answer = answer.Waits; sent = None }

  -- A waiter that is found

  only_queue : (side : Side) (row : Row) → queue side (only_row p row) ≡ only p (queue side row)
  only_queue Takers row = refl
  only_queue Adders row = refl

  only_with : (side : Side) (list : List Queued) (values : Data) (row : Row) → with_queue side (only p list) values (only_row p row) ≡ only_row p (with_queue side list values row)
  only_with Takers list values row = refl
  only_with Adders list values row = refl

  found_alike : (row : Row) (side : Side) (pick : Queued → Bool) (hand : Queued → Handed) (other shorter : Stepped) (first : Option Queued)
      → but_first pick (only p (queue side row)) ≡ only p (but_first pick (queue side row))
      → (first ≡ None → shorter ≡ only_stepped p other)
      → found (only_row p row) side pick hand shorter first ≡ only_stepped p (found row side pick hand other first)
  found_alike row side pick hand other shorter None rest missed = missed refl
  found_alike row side pick hand other shorter (Some q) rest missed =
      let left : with_queue side (but_first pick (queue side (only_row p row))) (hand q).values (only_row p row) ≡ only_row p (with_queue side (but_first pick (queue side row)) (hand q).values row) =
      ap (λ (l : List Queued). with_queue side (but_first pick l) (hand q).values (only_row p row)) (only_queue side row)
      ∙ ap (λ (l : List Queued). with_queue side l (hand q).values (only_row p row)) rest
      ∙ only_with side (but_first pick (queue side row)) (hand q).values row
      in
      λ i. record { row = left i; answer = (hand q).answer; sent = Some (Resumes q.who (hand q).outcome) }

  -- for all objects and calls
  pub stepped_alike : (row : Row) (who : Waiter) (off : Bool) (what : Does) → TouchesNone p who (stepped row who off what) → stepped (only_row p row) who off what ≡ only_stepped p (stepped row who off what)
  stepped_alike row who off (Ignores alone) touches = otherwise_alike row who off alone touches.entered
  stepped_alike row who off (Looks side pick hand alone) touches =
      let first : FirstSame pick (queue side row) = first_same pick (queue side row) (λ q e. touches.woken q.who (hand q).outcome (rw e refl)) in
      ap (λ (f : Option Queued). found (only_row p row) side pick hand (otherwise (only_row p row) who off alone) f) (ap (find pick) (only_queue side row) ∙ first.0)
      ∙ found_alike row side pick hand (otherwise row who off alone) (otherwise (only_row p row) who off alone) (find pick (queue side row)) first.1
      (λ none. otherwise_alike row who off alone (λ waits. touches.entered (rw none waits)))

pub skips_alike : SkipsAlike
skips_alike stays row who off serial call touches = stepped_alike stays row who off (does row.values serial call) touches
