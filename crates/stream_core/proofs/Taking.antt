-- `take` by what `take_nonblocking` gives: the same where there is an item, and else it waits.
use Rattle.std.proofs.Common.{◌≡◌, ℕ, Bool, true, false, List, [], ◌∷◌, ◌++◌, Option, Some, None, refl, sym, ap, ◌∙◌, subst, append-nil}
use Rattle.std.specs.List.{All}
use Rattle.eio_value.specs.declared.call.Answer.{Answer}
use Rattle.eio_value.specs.declared.call.Answer.TheVariants as answer
use Rattle.eio_value.specs.declared.call.Call.TheVariants as call
use Rattle.eio_value.specs.declared.message.Waiter.{Waiter}
use Rattle.eio_value.specs.declared.value.Value.{Value}
use Rattle.eio_value.specs.declared.value.Value.TheVariants as value
use Rattle.eio_value.specs.declared.raised.Outcome.TheVariants as outcome
use Rattle.eio_value.specs.Sending.{Sent, Resumes}
use Rattle.eio_value.specs.Waking.{Test, IsKnown}
use Rattle.law_parts.specs.Items.{items}
use Rattle.spec_parts.specs.Data.{Stream}
use Rattle.spec_parts.specs.Row.{Row, Queued, Takers, Waits, Stepped, otherwise, quiet, stepped}
use Rattle.spec_parts.specs.Skipping.{waiters}
use Rattle.spec_parts.specs.Streams.{take_does}
use Rattle.wait_list.specs.Lists.{WaitingList}
use Rattle.wait_list.specs.Meeting.{Meets}
use Rattle.wait_list.specs.Waits.{others}
use Rattle.wait_list.proofs.Waiting.{waited}

abbrev pub row_of : ℕ → List Value → (takers adders : List Queued) → Row
row_of capacity held takers adders = record { values = Stream capacity held; takers = takers; adders = adders }

-- where nothing was taken: no item is there, the adders were all dead, and they are gone
pub record NoneTaken (knows : Test) (row after : Row) (sent : Option Sent) : Type 0 where
  pub no_items : items row.values ≡ []
  pub dead : All (IsKnown knows) (waiters row.adders)
  pub gone : after ≡ record row { adders = [] }
  pub silent : sent ≡ None

module _ (knew knows : Test) (tells : Bool) (who : Waiter) (off : Bool) (serial object : ℕ) where
  -- where an item was found
  found_go : (capacity : ℕ) (held : List Value) (takers adders : List Queued) (item : Value) (after : Row) (sent : Option Sent)
      → Meets knew knows tells (row_of capacity held takers adders) who off serial (call.TakeNonblocking object) (record { row = after; answer = answer.Done item; sent = sent })
      → Meets knew knows tells (row_of capacity held takers adders) who off serial (call.Take object) (record { row = after; answer = answer.Done item; sent = sent })
  found_go capacity (x ∷ xs) takers adders item after sent meets = meets
  found_go capacity [] takers adders item after sent meets = record { dead = meets.dead; rest = meets.rest; are_all = meets.are_all; skips = meets.skips; alive = meets.alive; keeps = meets.keeps; gives = by meets.rest meets.gives }
    where
      by : (rest : List Queued)
          → stepped (row_of capacity [] takers rest) who off (take_does capacity [] (quiet (Stream capacity []) answer.Nothing)) ≡ record { row = after; answer = answer.Done item; sent = sent }
          → stepped (row_of capacity [] takers rest) who off (take_does capacity [] (Waits (Stream capacity []) Takers value.Unit 0)) ≡ record { row = after; answer = answer.Done item; sent = sent }
      by [] gives = let e : answer.Nothing ≡ answer.Done item = ap (λ (step : Stepped). step.answer) gives in absurd (cc)
      by (q ∷ qs) gives = gives

  pub take_found : (row : Row) (capacity : ℕ) (held : List Value) (takers adders : List Queued) (item : Value) (after : Row) (sent : Option Sent) → row_of capacity held takers adders ≡ row
      → Meets knew knows tells row who off serial (call.TakeNonblocking object) (record { row = after; answer = answer.Done item; sent = sent })
      → Meets knew knows tells row who off serial (call.Take object) (record { row = after; answer = answer.Done item; sent = sent })
  take_found row capacity held takers adders item after sent is =
      let P : Row → Type 0 = λ row.
      Meets knew knows tells row who off serial (call.TakeNonblocking object) (record { row = after; answer = answer.Done item; sent = sent })
      → Meets knew knows tells row who off serial (call.Take object) (record { row = after; answer = answer.Done item; sent = sent })
      in
      subst P is (found_go capacity held takers adders item after sent)

  woken_go : (capacity : ℕ) (held : List Value) (takers adders : List Queued) (item : Value) (after : Row) (sent : Option Sent)
      → Meets knew knows tells (row_of capacity held takers adders) who off serial (call.TakeNonblocking object) (record { row = after; answer = answer.Done item; sent = sent }) → held ≡ [] → sent ≡ None → ⊥
  woken_go capacity (x ∷ xs) takers adders item after sent meets none silent = cc
  woken_go capacity [] takers adders item after sent meets none silent = by meets.rest meets.gives
    where
      by : (rest : List Queued)
          → stepped (row_of capacity [] takers rest) who off (take_does capacity [] (quiet (Stream capacity []) answer.Nothing)) ≡ record { row = after; answer = answer.Done item; sent = sent } → ⊥
      by [] gives = let e : answer.Nothing ≡ answer.Done item = ap (λ (step : Stepped). step.answer) gives in cc
      by (q ∷ qs) gives = let e : Some (Resumes q.who (outcome.Ok value.Unit)) ≡ sent = ap (λ (step : Stepped). step.sent) gives in cc

  -- with no item a fiber was woken for it
  pub somebody_woken : (row : Row) (capacity : ℕ) (held : List Value) (takers adders : List Queued) (item : Value) (after : Row) (sent : Option Sent) → row_of capacity held takers adders ≡ row
      → Meets knew knows tells row who off serial (call.TakeNonblocking object) (record { row = after; answer = answer.Done item; sent = sent }) → items row.values ≡ [] → sent ≡ None → ⊥
  somebody_woken row capacity held takers adders item after sent is =
      let P : Row → Type 0 = λ row.
      Meets knew knows tells row who off serial (call.TakeNonblocking object) (record { row = after; answer = answer.Done item; sent = sent }) → items row.values ≡ [] → sent ≡ None → ⊥
      in
      subst P is (woken_go capacity held takers adders item after sent)

  -- where none was
  none_go : (capacity : ℕ) (held : List Value) (takers adders : List Queued) (after : Row) (sent : Option Sent)
      → Meets knew knows tells (row_of capacity held takers adders) who off serial (call.TakeNonblocking object) (record { row = after; answer = answer.Nothing; sent = sent })
      → NoneTaken knows (row_of capacity held takers adders) after sent
  none_go capacity (x ∷ xs) takers adders after sent meets = by meets.rest meets.gives
    where
      by : (rest : List Queued)
          → stepped (row_of capacity (x ∷ xs) takers rest) who off (take_does capacity (x ∷ xs) (quiet (Stream capacity []) answer.Nothing)) ≡ record { row = after; answer = answer.Nothing; sent = sent }
          → NoneTaken knows (row_of capacity (x ∷ xs) takers adders) after sent
      by [] gives = let e : answer.Done x ≡ answer.Nothing = ap (λ (step : Stepped). step.answer) gives in absurd (cc)
      by (q ∷ qs) gives = let e : answer.Done x ≡ answer.Nothing = ap (λ (step : Stepped). step.answer) gives in absurd (cc)
  none_go capacity [] takers adders after sent meets = by meets.rest meets.are_all meets.gives
    where
      by : (rest : List Queued) → adders ≡ meets.dead ++ rest
          → stepped (row_of capacity [] takers rest) who off (take_does capacity [] (quiet (Stream capacity []) answer.Nothing)) ≡ record { row = after; answer = answer.Nothing; sent = sent }
          → NoneTaken knows (row_of capacity [] takers adders) after sent
      by [] all gives = record {
        no_items = refl;
        dead = subst (λ (l : List Queued). All (IsKnown knows) (waiters l)) (sym (append-nil meets.dead) ∙ sym all) meets.skips.known;
        gone = sym (ap (λ (step : Stepped). step.row) gives);
        silent = sym (ap (λ (step : Stepped). step.sent) gives);
      }
      by (q ∷ qs) all gives = let e : answer.Done q.item ≡ answer.Nothing = ap (λ (step : Stepped). step.answer) gives in absurd (cc)

  pub none_taken : (row : Row) (capacity : ℕ) (held : List Value) (takers adders : List Queued) (after : Row) (sent : Option Sent) → row_of capacity held takers adders ≡ row
      → Meets knew knows tells row who off serial (call.TakeNonblocking object) (record { row = after; answer = answer.Nothing; sent = sent })
      → NoneTaken knows row after sent
  none_taken row capacity held takers adders after sent is =
      let P : Row → Type 0 = λ row.
      Meets knew knows tells row who off serial (call.TakeNonblocking object) (record { row = after; answer = answer.Nothing; sent = sent }) → NoneTaken knows row after sent
      in
      subst P is (none_go capacity held takers adders after sent)

  -- and then it waits
  waits_go : (capacity : ℕ) (held : List Value) (takers adders : List Queued) (after final : Row) (given : Answer) (sent : Option Sent)
      → Meets knew knows tells (row_of capacity held takers adders) who off serial (call.TakeNonblocking object) (record { row = after; answer = answer.Nothing; sent = sent })
      → otherwise (row_of capacity [] takers []) who off (Waits (Stream capacity []) Takers value.Unit 0) ≡ record { row = final; answer = given; sent = sent }
      → Meets knew knows tells (row_of capacity held takers adders) who off serial (call.Take object) (record { row = final; answer = given; sent = sent })
  waits_go capacity (x ∷ xs) takers adders after final given sent meets waits = absurd (let e : x ∷ xs ≡ [] = (none_go capacity (x ∷ xs) takers adders after sent meets).no_items in cc)
  waits_go capacity [] takers adders after final given sent meets waits = record { dead = meets.dead; rest = meets.rest; are_all = meets.are_all; skips = meets.skips; alive = meets.alive; keeps = meets.keeps; gives = by meets.rest meets.gives }
    where
      by : (rest : List Queued)
          → stepped (row_of capacity [] takers rest) who off (take_does capacity [] (quiet (Stream capacity []) answer.Nothing)) ≡ record { row = after; answer = answer.Nothing; sent = sent }
          → stepped (row_of capacity [] takers rest) who off (take_does capacity [] (Waits (Stream capacity []) Takers value.Unit 0)) ≡ record { row = final; answer = given; sent = sent }
      by [] gives = waits
      by (q ∷ qs) gives = let e : answer.Done q.item ≡ answer.Nothing = ap (λ (step : Stepped). step.answer) gives in absurd (cc)

  -- the row after, as it is seen where the list of takers has changed
  wait_go : (capacity : ℕ) (held : List Value) (takers adders : List Queued) (after : Row) (sent : Option Sent)
      → Meets knew knows tells (row_of capacity held takers adders) who off serial (call.TakeNonblocking object) (record { row = after; answer = answer.Nothing; sent = sent })
      → (room : ℕ) (kept : List Value) (list now : WaitingList) (behind : List Queued) (given : Answer) → row_of room kept list.waiting behind ≡ after
      → (off ≡ true → (given ≡ answer.Off) × (now ≡ list))
      → (off ≡ false → (given ≡ answer.Waits) × (now ≡ record list { waiting = others who.cell list.waiting ++ record { who = who; item = value.Unit; number = 0 } ∷ [] }))
      → Meets knew knows tells (row_of capacity held takers adders) who off serial (call.Take object) (record { row = row_of room kept now.waiting behind; answer = given; sent = sent })
  wait_go capacity held takers adders after sent meets room kept list now behind given is is_off is_on =
      let none : NoneTaken knows (row_of capacity held takers adders) after sent = none_go capacity held takers adders after sent meets in
      let e : row_of room kept list.waiting behind ≡ row_of capacity held takers [] = is ∙ none.gone in
      let no_items : held ≡ [] = none.no_items in
      let values : Stream capacity [] ≡ Stream room kept = sym (ap (λ (row : Row). row.values) e ∙ ap (λ (l : List Value). Stream capacity l) no_items) in
      let standing : takers ≡ list.waiting = sym (ap (λ (row : Row). row.takers) e) in
      let gone : [] ≡ behind = sym (ap (λ (row : Row). row.adders) e) in
      let silent : None ≡ sent = sym none.silent in
      waits_go capacity held takers adders after (row_of room kept now.waiting behind) given sent meets
      (ap (λ (l : List Queued). otherwise (row_of capacity [] l []) who off (Waits (Stream capacity []) Takers value.Unit 0)) standing
      ∙ waited (Stream capacity []) Takers (record { who = who; item = value.Unit; number = 0 }) off list now given is_off is_on
      ∙ (λ i. record { row = record { values = values i; takers = now.waiting; adders = gone i }; answer = given; sent = silent i }))

  pub take_waits : (row : Row) (capacity : ℕ) (held : List Value) (takers adders : List Queued) (after : Row) (sent : Option Sent) → row_of capacity held takers adders ≡ row
      → Meets knew knows tells row who off serial (call.TakeNonblocking object) (record { row = after; answer = answer.Nothing; sent = sent })
      → (room : ℕ) (kept : List Value) (list now : WaitingList) (behind : List Queued) (given : Answer) → row_of room kept list.waiting behind ≡ after
      → (off ≡ true → (given ≡ answer.Off) × (now ≡ list))
      → (off ≡ false → (given ≡ answer.Waits) × (now ≡ record list { waiting = others who.cell list.waiting ++ record { who = who; item = value.Unit; number = 0 } ∷ [] }))
      → Meets knew knows tells row who off serial (call.Take object) (record { row = row_of room kept now.waiting behind; answer = given; sent = sent })
  take_waits row capacity held takers adders after sent is meets room kept list now behind given seen is_off is_on =
      let P : Row → Type 0 = λ row.
      Meets knew knows tells row who off serial (call.TakeNonblocking object) (record { row = after; answer = answer.Nothing; sent = sent })
      → Meets knew knows tells row who off serial (call.Take object) (record { row = row_of room kept now.waiting behind; answer = given; sent = sent })
      in
      subst P is (λ meets. wait_go capacity held takers adders after sent meets room kept list now behind given seen is_off is_on) meets

pub is_not_off : (off : Bool) (given : Answer) {X : Type 0} → (off ≡ true → (given ≡ answer.Off) × X) → given ≡ answer.Waits → off ≡ false
is_not_off true given is_off waits = let e : given ≡ answer.Off = (is_off refl).0 in cc
is_not_off false given is_off waits = refl

pub is_off : (off : Bool) (given : Answer) {X : Type 0} → (off ≡ false → (given ≡ answer.Waits) × X) → given ≡ answer.Off → off ≡ true
is_off true given is_on answered = refl
is_off false given is_on answered = let e : given ≡ answer.Waits = (is_on refl).0 in cc

pub cells_stay : (off : Bool) (list now : WaitingList) {A B : Type 0} {waiting : List Queued} → (off ≡ true → A × (now ≡ list)) → (off ≡ false → B × (now ≡ record list { waiting = waiting })) → now.cells ≡ list.cells
cells_stay true list now is_off is_on = ap (λ (l : WaitingList). l.cells) (is_off refl).1
cells_stay false list now is_off is_on = ap (λ (l : WaitingList). l.cells) (is_on refl).1
