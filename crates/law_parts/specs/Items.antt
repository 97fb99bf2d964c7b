-- The items of a stream: which a call has accepted, and which were taken by it.
-- An item is accepted where its add answers `()`, or where the adder that waits with it is woken. It is taken where a take answers it, or where an add
-- hands it to a taker that waits.
use Rattle.std.specs.Prelude.{◌≡◌, ℕ, Bool, List, [], ◌∷◌, ◌++◌, Option, Some, None}
use Rattle.eio_value.specs.declared.call.Answer.{Answer}
use Rattle.eio_value.specs.declared.call.Answer.TheVariants as answer
use Rattle.eio_value.specs.declared.call.Call.{Call}
use Rattle.eio_value.specs.declared.call.Call.TheVariants as call
use Rattle.eio_value.specs.declared.message.Waiter.{Waiter}
use Rattle.eio_value.specs.declared.value.Value.{Value}
use Rattle.spec_parts.specs.Data.{Data, Stream}
use Rattle.spec_parts.specs.Objects.{called}
use Rattle.eio_value.specs.Sending.{Sent}
use Rattle.spec_parts.specs.Row.{Queued, Row, Stepped}
use Rattle.spec_parts.specs.Streams.{stream}
use Rattle.spec_parts.specs.Strikes.{struck}

-- what happens to a row: a fiber calls, in a context that is off or isn't, or a wait is struck
pub data Move : Type 0 where
  Calls : Waiter → (off : Bool) → (serial : ℕ) → Call → Move
  Strikes : Waiter → Move

-- the items that a stream holds
abbrev pub items : Data → List Value
items (Stream capacity held) = held
items other = []

-- the item of an answer
abbrev pub answered : Answer → List Value
answered (answer.Done value) = value ∷ []
answered other = []

-- these items where the answer is a value
abbrev pub if_done : Answer → List Value → List Value
if_done (answer.Done value) given = given
if_done other given = []

-- these items where a fiber was woken
abbrev pub if_woken : Option Sent → List Value → List Value
if_woken None given = []
if_woken (Some sent) given = given

abbrev pub first_item : List Queued → List Value
first_item [] = []
first_item (queued ∷ others) = queued.item ∷ []

-- the items that a call has accepted; the adder that a take wakes is the first
abbrev pub accepted_by : Row → Call → Stepped → List Value
accepted_by row (call.Add object item) step = if_done step.answer (item ∷ [])
accepted_by row (call.Take object) step = if_woken step.sent (first_item row.adders)
accepted_by row (call.TakeNonblocking object) step = if_woken step.sent (first_item row.adders)
accepted_by row other step = []

-- the items that were taken by a call
abbrev pub taken_by : Call → Stepped → List Value
taken_by (call.Add object item) step = if_woken step.sent (item ∷ [])
taken_by (call.Take object) step = answered step.answer
taken_by (call.TakeNonblocking object) step = answered step.answer
taken_by other step = []

-- what came of moves: all accepted items, all taken ones, both in order, and the row at the end
pub record Gone : Type 0 where
  pub accepted : List Value
  pub taken : List Value
  pub row : Row

abbrev pub gone : Row → List Move → Gone
gone row [] = record { accepted = []; taken = []; row = row }
gone row (Calls who off serial call ∷ moves) =
    let step : Stepped = called row who off serial call in
    let rest : Gone = gone step.row moves in
    record { accepted = accepted_by row call step ++ rest.accepted; taken = taken_by call step ++ rest.taken; row = rest.row }
gone row (Strikes who ∷ moves) = gone (struck row who) moves

abbrev pub ItemsInOrder : Type 0
ItemsInOrder = (capacity : ℕ) (moves : List Move) → (gone (stream capacity) moves).accepted ≡ (gone (stream capacity) moves).taken ++ items (gone (stream capacity) moves).row.values
