-- Each move keeps the items: what a stream holds and what it accepts are what is taken and what it then holds. Beside it stands that no taker waits where
-- an item is, which each move keeps too.
use Rattle.std.proofs.Common.{◌≡◌, ℕ, ◌⊎◌, inl, inr, ⊎_elim, Bool, true, false, nat_lt, length, List, [], ◌∷◌, ◌++◌, refl, sym, ap, ◌∙◌, subst, append-nil, append_assoc}
use Rattle.eio_value.specs.declared.call.Call.{Call}
use Rattle.eio_value.specs.declared.call.Call.TheVariants as call
use Rattle.eio_value.specs.declared.message.Waiter.{Waiter}
use Rattle.eio_value.specs.declared.raised.Outcome.TheVariants as outcome
use Rattle.eio_value.specs.declared.value.Value.{Value}
use Rattle.spec_parts.specs.Data.{Stream}
use Rattle.spec_parts.specs.Objects.{called}
use Rattle.spec_parts.specs.Row.{Row, Queued, Stepped, Takers, Adders, Waits, Looks, anybody, quiet, done, stepped, otherwise}
use Rattle.spec_parts.specs.Streams.{stream}
use Rattle.spec_parts.specs.Strikes.{struck}
use Rattle.law_parts.specs.Items.{Move, Calls, Strikes, items, accepted_by, taken_by, Gone, gone, ItemsInOrder}
use Rattle.law_parts.proofs.Choices.{either_way}

-- a stream where nobody waits to take while it holds items
pub record IsStream (row : Row) : Type 0 where
  pub capacity : ℕ
  pub held : List Value
  pub values : row.values ≡ Stream capacity held
  pub one_side : (row.takers ≡ []) ⊎ (held ≡ [])

abbrev row_of : ℕ → List Value → List Queued → List Queued → Row
row_of capacity held takers adders = record { values = Stream capacity held; takers = takers; adders = adders }

abbrev KeepsItems : Row → Call → Stepped → Type 0
KeepsItems row call step = (items row.values ++ accepted_by row call step ≡ taken_by call step ++ items step.row.values) × IsStream step.row

no_takers : (capacity : ℕ) (held : List Value) (adders : List Queued) → IsStream (row_of capacity held [] adders)
no_takers capacity held adders = record { capacity = capacity; held = held; values = refl; one_side = inl refl }

no_items : (capacity : ℕ) (takers adders : List Queued) → IsStream (row_of capacity [] takers adders)
no_items capacity takers adders = record { capacity = capacity; held = []; values = refl; one_side = inr refl }

module _ (who : Waiter) (serial capacity : ℕ) where
  abbrev AllKept : Bool → Call → List Value → List Queued → List Queued → Type 0
  AllKept off call held takers adders = KeepsItems (row_of capacity held takers adders) call (called (row_of capacity held takers adders) who off serial call)

  -- an add that finds no taker and no room
  waits_keeps : (off : Bool) (object : ℕ) (item : Value) (held : List Value) (adders : List Queued)
      → KeepsItems (row_of capacity held [] adders) (call.Add object item) (otherwise (row_of capacity held [] adders) who off (Waits (Stream capacity held) Adders item 0))
  waits_keeps true object item held adders = (append-nil held, no_takers capacity held adders)
  waits_keeps false object item held adders = (append-nil held, record { capacity = capacity; held = held; values = refl; one_side = inl refl })

  add_keeps : (off : Bool) (object : ℕ) (item : Value) (held : List Value) (takers adders : List Queued) → (takers ≡ []) ⊎ (held ≡ []) → AllKept off (call.Add object item) held takers adders
  add_keeps off object item held [] adders side =
      either_way
      (λ b. KeepsItems (row_of capacity held [] adders) (call.Add object item) (stepped (row_of capacity held [] adders) who off
      (Looks Takers anybody (λ taker. record { values = Stream capacity held; answer = done; outcome = outcome.Ok item })
      (elim b [ true ↦ quiet (Stream capacity (held ++ item ∷ [])) done | false ↦ Waits (Stream capacity held) Adders item 0 ]))))
      (nat_lt (length held) capacity)
      (refl, no_takers capacity (held ++ item ∷ []) adders)
      (waits_keeps off object item held adders)
  add_keeps off object item held (taker ∷ takers) adders side =
      let empty : held ≡ [] = ⊎_elim (λ (none : taker ∷ takers ≡ []). absurd (cc)) (λ (none : held ≡ []). none) side in
      (rw empty refl, record { capacity = capacity; held = held; values = refl; one_side = inr empty })

  take_keeps : (off : Bool) (object : ℕ) (held : List Value) (takers adders : List Queued) → (takers ≡ []) ⊎ (held ≡ []) → AllKept off (call.Take object) held takers adders
  take_keeps true object [] takers [] side = (refl, no_items capacity takers [])
  take_keeps false object [] takers [] side = (refl, record { capacity = capacity; held = []; values = refl; one_side = inr refl })
  take_keeps off object [] takers (adder ∷ adders) side = (refl, no_items capacity takers adders)
  take_keeps off object (item ∷ held) takers [] side =
      let empty : takers ≡ [] = ⊎_elim (λ (none : takers ≡ []). none) (λ (none : item ∷ held ≡ []). absurd (cc)) side in
      (append-nil (item ∷ held), record { capacity = capacity; held = held; values = refl; one_side = inl empty })
  take_keeps off object (item ∷ held) takers (adder ∷ adders) side =
      let empty : takers ≡ [] = ⊎_elim (λ (none : takers ≡ []). none) (λ (none : item ∷ held ≡ []). absurd (cc)) side in
      (refl, record { capacity = capacity; held = held ++ adder.item ∷ []; values = refl; one_side = inl empty })

  take_nonblocking_keeps : (off : Bool) (object : ℕ) (held : List Value) (takers adders : List Queued) → (takers ≡ []) ⊎ (held ≡ []) → AllKept off (call.TakeNonblocking object) held takers adders
  take_nonblocking_keeps off object [] takers [] side = (refl, no_items capacity takers [])
  take_nonblocking_keeps off object [] takers (adder ∷ adders) side = (refl, no_items capacity takers adders)
  take_nonblocking_keeps off object (item ∷ held) takers [] side =
      let empty : takers ≡ [] = ⊎_elim (λ (none : takers ≡ []). none) (λ (none : item ∷ held ≡ []). absurd (cc)) side in
      (append-nil (item ∷ held), record { capacity = capacity; held = held; values = refl; one_side = inl empty })
  take_nonblocking_keeps off object (item ∷ held) takers (adder ∷ adders) side =
      let empty : takers ≡ [] = ⊎_elim (λ (none : takers ≡ []). none) (λ (none : item ∷ held ≡ []). absurd (cc)) side in
      (refl, record { capacity = capacity; held = held ++ adder.item ∷ []; values = refl; one_side = inl empty })

  all_kept : (off : Bool) (call : Call) (held : List Value) (takers adders : List Queued) → (takers ≡ []) ⊎ (held ≡ []) → AllKept off call held takers adders
  all_kept off (call.Add object item) held takers adders side = add_keeps off object item held takers adders side
  all_kept off (call.Take object) held takers adders side = take_keeps off object held takers adders side
  all_kept off (call.TakeNonblocking object) held takers adders side = take_nonblocking_keeps off object held takers adders side
  all_kept off other held takers adders side = (append-nil held, record { capacity = capacity; held = held; values = refl; one_side = side })

call_keeps : (row : Row) (who : Waiter) (off : Bool) (serial : ℕ) (call : Call) → IsStream row → KeepsItems row call (called row who off serial call)
call_keeps row who off serial call is =
    let seen : row_of is.capacity is.held row.takers row.adders ≡ row = λ i. record { values = sym is.values i; takers = row.takers; adders = row.adders } in
    subst (λ (r : Row). KeepsItems r call (called r who off serial call)) seen (all_kept who serial is.capacity off call is.held row.takers row.adders is.one_side)

strike_keeps : (row : Row) (who : Waiter) → IsStream row → IsStream (struck row who)
strike_keeps row who is =
    record { capacity = is.capacity; held = is.held; values = is.values; one_side = ⊎_elim (λ (none : row.takers ≡ []). inl (rw none refl)) (λ (none : is.held ≡ []). inr none) is.one_side }

moves_keep : (row : Row) (moves : List Move) → IsStream row → items row.values ++ (gone row moves).accepted ≡ (gone row moves).taken ++ items (gone row moves).row.values
moves_keep row [] is = append-nil (items row.values)
moves_keep row (Strikes who ∷ moves) is = moves_keep (struck row who) moves (strike_keeps row who is)
moves_keep row (Calls who off serial call ∷ moves) is =
    let step : Stepped = called row who off serial call in
    let kept : KeepsItems row call step = call_keeps row who off serial call is in
    let rest : Gone = gone step.row moves in
    sym (append_assoc (items row.values) (accepted_by row call step) rest.accepted)
    ∙ ap (λ (l : List Value). l ++ rest.accepted) kept.0
    ∙ append_assoc (taken_by call step) (items step.row.values) rest.accepted
    ∙ ap (λ (l : List Value). taken_by call step ++ l) (moves_keep step.row moves kept.1)
    ∙ sym (append_assoc (taken_by call step) rest.taken (items rest.row.values))

pub items_in_order : ItemsInOrder
items_in_order capacity moves = moves_keep (stream capacity) moves (no_takers capacity [] [])
