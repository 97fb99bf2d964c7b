-- Streams. A stream holds items up to its capacity; an adder that waits stands with its item, a taker that waits gets the next item.
-- No fiber waits to take where an item is, so items leave in the order in which they were accepted.
use Rattle.std.specs.Prelude.{ℕ, true, false, nat_lt, List, [], ◌∷◌, ◌++◌, length}
use Rattle.eio_value.specs.declared.call.Answer.TheVariants as answer
use Rattle.eio_value.specs.declared.call.Call.{Call}
use Rattle.eio_value.specs.declared.call.Call.TheVariants as call
use Rattle.eio_value.specs.declared.raised.Outcome.TheVariants as outcome
use Rattle.eio_value.specs.declared.value.Value.{Value}
use Rattle.eio_value.specs.declared.value.Value.TheVariants as value
use Rattle.spec_parts.specs.Data.{Stream}
use Rattle.spec_parts.specs.Row.{Row, Takers, Adders, Alone, Waits, Does, Ignores, Looks, anybody, quiet, done, int, opening}

-- a taker gets the item; else it is appended where the stream has room; else the adder waits with it
abbrev pub add_does : ℕ → List Value → Value → Does
add_does capacity items item =
    Looks Takers anybody
    (λ taker. record { values = Stream capacity items; answer = done; outcome = outcome.Ok item })
    (elim (nat_lt (length items) capacity) [
      | true ↦ quiet (Stream capacity (items ++ item ∷ [])) done
      | false ↦ Waits (Stream capacity items) Adders item 0
    ])

-- the first item, and then the first adder's item is appended and that adder woken; with no item, the first adder's item, and it is woken;
-- else what is said
abbrev pub take_does : ℕ → List Value → Alone → Does
take_does capacity [] otherwise =
    Looks Adders anybody
    (λ adder. record { values = Stream capacity []; answer = answer.Done adder.item; outcome = outcome.Ok value.Unit })
    otherwise
take_does capacity (item ∷ items) otherwise =
    Looks Adders anybody
    (λ adder. record { values = Stream capacity (items ++ adder.item ∷ []); answer = answer.Done item; outcome = outcome.Ok value.Unit })
    (quiet (Stream capacity items) (answer.Done item))

abbrev pub stream_does : ℕ → List Value → Call → Does
stream_does capacity items (call.Add object item) = add_does capacity items item
stream_does capacity items (call.Take object) = take_does capacity items (Waits (Stream capacity []) Takers value.Unit 0)
stream_does capacity items (call.TakeNonblocking object) = take_does capacity items (quiet (Stream capacity []) answer.Nothing)
stream_does capacity items (call.Length object) = Ignores (quiet (Stream capacity items) (answer.Done (int (length items))))
stream_does capacity items other = Ignores (quiet (Stream capacity items) answer.Nothing)

-- as declared: empty
abbrev pub stream : (capacity : ℕ) → Row
stream capacity = opening (Stream capacity [])
