-- A sequence of calls and strikes on one row, and what comes of it. The serial of a raise is the number of its move, from 0.
use Rattle.std.specs.Prelude.{ℕ, ◌+◌, Bool, true, false, List, [], ◌∷◌, Option, Some, None}
use Rattle.eio_value.specs.declared.call.Answer.{Answer}
use Rattle.eio_value.specs.declared.call.Answer.TheVariants as answer
use Rattle.eio_value.specs.declared.call.Call.{Call}
use Rattle.eio_value.specs.declared.message.Waiter.{Waiter}
use Rattle.eio_value.specs.declared.plain.Plain.{Plain}
use Rattle.eio_value.specs.declared.raised.Outcome.{Outcome}
use Rattle.eio_value.specs.declared.raised.Outcome.TheVariants as outcome
use Rattle.eio_value.specs.declared.value.Value.{Value}
use Rattle.eio_value.specs.declared.value.Value.TheVariants as value
use Rattle.spec_parts.specs.Data.{Data}
use Rattle.spec_parts.specs.Objects.{called}
use Rattle.eio_value.specs.Sending.{Sent, Resumes}
use Rattle.spec_parts.specs.Row.{Row, Queued, Stepped, done, int, raise}
use Rattle.spec_parts.specs.Strikes.{waits_in, struck}

-- a wait of fiber n of the first domain, whose cell has its number
abbrev pub wait : (fiber : ℕ) → (armed : ℕ) → Waiter
wait fiber armed = record { domain = 0; fiber = fiber; cell = fiber; armed = armed }

-- the first wait of fiber n
abbrev pub waiter : (fiber : ℕ) → Waiter
waiter fiber = wait fiber 1

pub data Move : Type 0 where
  Calls : Waiter → (off : Bool) → Call → Move
  Strikes : Waiter → Move

-- fiber n calls
abbrev pub by : ℕ → Call → Move
by fiber call = Calls (waiter fiber) false call

-- fiber n calls in a context that is off
abbrev pub off_by : ℕ → Call → Move
off_by fiber call = Calls (waiter fiber) true call

-- fiber n is struck
abbrev pub strike : ℕ → Move
strike fiber = Strikes (waiter fiber)

-- an answer, and what was sent; or whether a strike came in time
pub data Reply : Type 0 where
  Says : Answer → Reply
  Sends : Answer → Sent → Reply
  Won : Reply
  Lost : Reply

-- the call answers with this value
abbrev pub gives : Value → Reply
gives value = Says (answer.Done value)

abbrev pub fine : Reply
fine = Says done

abbrev pub waits : Reply
waits = Says answer.Waits

abbrev pub is_off : Reply
is_off = Says answer.Off

abbrev pub none : Reply
none = Says answer.Nothing

-- an exception with this serial
abbrev pub raises : ℕ → Plain → Reply
raises serial what = Says (answer.Raised (raise serial what))

-- fiber n goes on with this outcome
abbrev pub fine_and : ℕ → Outcome → Reply
fine_and fiber given = Sends done (Resumes (waiter fiber) given)

abbrev pub gives_and : Value → ℕ → Outcome → Reply
gives_and value fiber given = Sends (answer.Done value) (Resumes (waiter fiber) given)

-- the answer of a wake names the fiber
abbrev pub woke : ℕ → Outcome → Reply
woke fiber given = Sends (answer.Woke (waiter fiber)) (Resumes (waiter fiber) given)

abbrev pub unit : Outcome
unit = outcome.Ok value.Unit

abbrev pub number : ℕ → Outcome
number n = outcome.Ok (int n)

-- a fiber in a list
abbrev pub queued : Waiter → Value → ℕ → Queued
queued who item number = record { who = who; item = item; number = number }

-- fiber n waits, and brings nothing
abbrev pub waiting : ℕ → Queued
waiting fiber = queued (waiter fiber) value.Unit 0

abbrev pub row : Data → List Queued → List Queued → Row
row values takers adders = record { values = values; takers = takers; adders = adders }

pub record Ran : Type 0 where
  pub told : List Reply
  pub row : Row

abbrev pub ran : List Reply → Row → Ran
ran told end = record { told = told; row = end }

abbrev told_of : Answer → Option Sent → Reply
told_of answer None = Says answer
told_of answer (Some sent) = Sends answer sent

abbrev with_told : Reply → Ran → Ran
with_told told rest = record { told = told ∷ rest.told; row = rest.row }

abbrev won_or_lost : Bool → Reply
won_or_lost true = Won
won_or_lost false = Lost

-- the moves on a row, the first of them with this number
abbrev pub run_from : ℕ → Row → List Move → Ran
run_from n before [] = ran [] before
run_from n before (Calls who off call ∷ moves) =
    let step : Stepped = called before who off n call in
    with_told (told_of step.answer step.sent) (run_from (n + 1) step.row moves)
run_from n before (Strikes who ∷ moves) = with_told (won_or_lost (waits_in before who)) (run_from (n + 1) (struck before who) moves)

abbrev pub run : Row → List Move → Ran
run before moves = run_from 0 before moves
