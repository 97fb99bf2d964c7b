-- What a domain asks from outside for its next move, and what comes.
use Rattle.std.specs.Prelude.{ℕ, Bool, List, Option}
use Rattle.eio_value.specs.declared.call.Answer.{Answer}
use Rattle.eio_value.specs.declared.message.Message.{Message}
use Rattle.eio_value.specs.declared.message.Waiter.{Waiter}
use Rattle.eio_value.specs.declared.mock_call.Extra.{Extra}
use Rattle.eio_value.specs.declared.mock_call.MockCall.{MockCall}
use Rattle.spec_machine.specs.Shared.{Asked}

-- a call on the mocked outside, with the table of texts at that moment and the number of the raise that it may make
pub record MockAsked : Type 0 where
  pub call : MockCall
  pub texts : List (List ℕ)
  pub serial : ℕ

-- what it asks: nothing, since it can't move; nothing, for a move of its own; a call on a shared object; a strike on a wait in such a call; or a call on the
-- mocked outside. A message is asked for by none of these: it is taken where there is no obligation
pub data Asks : Type 0 where
  Idle : Asks
  Own : Asks
  Calls : Asked → Asks
  Strikes : Waiter → Asks
  Mocks : MockAsked → Asks

-- what comes: nothing; the answer of a call, and the message that it has for the domain itself; whether a strike won; what the mocked outside answered,
-- and the table of texts after it; or a message
pub data Label : Type 0 where
  Inner : Label
  Called : Asked → Answer → (mine : Option Message) → Label
  Struck : Waiter → (won : Bool) → Label
  Mocked : MockAsked → Extra → (texts : List (List ℕ)) → Label
  Took : Message → Label
