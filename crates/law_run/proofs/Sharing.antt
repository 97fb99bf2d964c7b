-- Calls on shared objects, as the moves of a domain make them: what they bring, what they leave there, and what they send.
use Rattle.std.proofs.Common.{◌≡◌, ℕ, zero, suc, ◌==◌, ◌&&◌, Bool, true, false, List, [], ◌∷◌, ◌++◌, Option, Some, None, refl, sym, true≢false, slice_set}
use Rattle.std.specs.Prelude.{map}
use Rattle.std.specs.List.{All}
use Rattle.std.proofs.lemmas.List.Elements.{All-set, All-append, All-map}
use Rattle.eio_value.specs.declared.call.Answer.{Answer}
use Rattle.eio_value.specs.declared.call.Answer.TheVariants as answer
use Rattle.eio_value.specs.declared.call.Call.{Call}
use Rattle.eio_value.specs.declared.call.Call.TheVariants as call
use Rattle.eio_value.specs.declared.message.Message.{Message}
use Rattle.eio_value.specs.declared.message.Waiter.{Waiter}
use Rattle.eio_value.specs.declared.mock_call.MockCall.{MockCall}
use Rattle.eio_value.specs.declared.mock_call.MockCall.TheVariants as mock
use Rattle.eio_value.specs.declared.plain.Member.{Member}
use Rattle.eio_value.specs.declared.raised.Outcome.{Outcome}
use Rattle.eio_value.specs.declared.value.Value.{Value}
use Rattle.spec_parts.specs.declared.hold.Hold.TheVariants.{Free, Held, Poisoned}
use Rattle.spec_parts.specs.Data.{Data, Stream, Promise, Semaphore, Mutex, Pool, Executor}
use Rattle.spec_parts.specs.Objects.{called}
use Rattle.eio_value.specs.Sending.{Sent, Resumes, Starts}
use Rattle.spec_parts.specs.Row.{Row, Queued, Stepped}
use Rattle.spec_parts.specs.Strikes as strikes
use Rattle.spec_script.specs.Syntax as syntax
use Rattle.spec_script.specs.Syntax.{Block, ObjectCall, ObjectCallWith}
use Rattle.spec_fiber.specs.Asks as ask
use Rattle.spec_fiber.specs.Asks.{Ask}
use Rattle.spec_machine.specs.Asking as asking
use Rattle.spec_machine.specs.Asking.{asks_for, object_call, object_call_with}
use Rattle.spec_machine.specs.Domain.{Role, OfJob, OfBody, OfSwitch, OfGroup, OfWriter, DomainState, fiber_at}
use Rattle.spec_machine.specs.Labels.{Asks, Own}
use Rattle.spec_machine.specs.Shared.{SharedState, Asked, no_object, row_at, receiver_of, message_of, mine_of, posted, after_call, after_strike}
use Rattle.law_run.specs.Exceptions.{InCall}
use Rattle.law_run.proofs.Places.{at_is, AllRaised, AllData, AllMessage, none}
use Rattle.law_run.proofs.Rows.{is_mutex, is_await, is_wake, InBrought, AllSent}
use Rattle.law_run.proofs.Standings.{all_single}
use Rattle.law_run.proofs.Answering.{awaits, resolves, AllMine}

-- ## Kinds of objects

abbrev pub kinds_of : List Row → ℕ → Bool
kinds_of rows object = is_mutex (row_at rows object).values

-- a row of the same kind in the place of one
pub set_kinds : (rows : List Row) (object : ℕ) (row : Row) → is_mutex row.values ≡ kinds_of rows object → (n : ℕ) → kinds_of (slice_set rows object row) n ≡ kinds_of rows n
set_kinds [] object row same n = refl
set_kinds (r ∷ rows) zero row same zero = same
set_kinds (r ∷ rows) zero row same (suc n) = refl
set_kinds (r ∷ rows) (suc object) row same zero = refl
set_kinds (r ∷ rows) (suc object) row same (suc n) = set_kinds rows object row same n

pub struck_kinds : (who : Waiter) (rows : List Row) (n : ℕ) → kinds_of (map (λ row. strikes.struck row who) rows) n ≡ kinds_of rows n
struck_kinds who [] n = refl
struck_kinds who (r ∷ rows) zero = refl
struck_kinds who (r ∷ rows) (suc n) = struck_kinds who rows n

-- ## What fibers ask

abbrev pub is_resolving : Call → Bool
is_resolving (call.Resolve object it) = true
is_resolving (call.TryResolve object it) = true
is_resolving other = false

abbrev pub ResolvesAt : Option ℕ → (object : ℕ) → Call → Type 0
ResolvesAt None object it = Unit {0}
ResolvesAt (Some promise) object it = (promise ≡ object) × (is_resolving it ≡ true)

-- a call on an object that a fiber makes
pub record OnThis (asked : Ask) (object : ℕ) (it : Call) : Type 0 where
  pub same_await : is_await it ≡ awaits asked
  pub no_wake : is_wake it ≡ false
  pub brings : (x : Member) → InBrought x it → InCall x asked
  pub resolving : ResolvesAt (resolves asked) object it

-- a fiber's call asks nothing, an object, or the mocked outside
pub data AskedBy (asked : Ask) (g : ℕ) (l : DomainState) (asks : Asks) : Type 0 where
  AsksNothing : asks ≡ Own → AskedBy asked g l asks
  AsksObject : (object : ℕ) → (it : Call) → asks ≡ asking.calls l g object it → OnThis asked object it → AskedBy asked g l asks
  AsksOutside : (it : MockCall) → asks ≡ asking.mocks l it → AskedBy asked g l asks

object_call_on : (it : ObjectCall) (object : ℕ) → OnThis (ask.OnObject it object) object (object_call it object)
object_call_on syntax.Take object = record { same_await = refl; no_wake = refl; brings = (λ x i. i); resolving = tt }
object_call_on syntax.TakeNonblocking object = record { same_await = refl; no_wake = refl; brings = (λ x i. i); resolving = tt }
object_call_on syntax.Length object = record { same_await = refl; no_wake = refl; brings = (λ x i. i); resolving = tt }
object_call_on syntax.Await object = record { same_await = refl; no_wake = refl; brings = (λ x i. i); resolving = tt }
object_call_on syntax.Acquire object = record { same_await = refl; no_wake = refl; brings = (λ x i. i); resolving = tt }
object_call_on syntax.Release object = record { same_await = refl; no_wake = refl; brings = (λ x i. i); resolving = tt }
object_call_on syntax.Lock object = record { same_await = refl; no_wake = refl; brings = (λ x i. i); resolving = tt }
object_call_on syntax.TryLock object = record { same_await = refl; no_wake = refl; brings = (λ x i. i); resolving = tt }
object_call_on syntax.Unlock object = record { same_await = refl; no_wake = refl; brings = (λ x i. i); resolving = tt }

object_call_with_on : (it : ObjectCallWith) (object : ℕ) (operand : Value) → OnThis (ask.OnObjectWith it object operand) object (object_call_with it object operand)
object_call_with_on syntax.Add object operand = record { same_await = refl; no_wake = refl; brings = (λ x i. i); resolving = tt }
object_call_with_on syntax.Resolve object operand = record { same_await = refl; no_wake = refl; brings = (λ x i. i); resolving = (refl, refl) }
object_call_with_on syntax.TryResolve object operand = record { same_await = refl; no_wake = refl; brings = (λ x i. i); resolving = (refl, refl) }

end_asks : (role : Role) (g : ℕ) (l : DomainState) (it : Outcome) → AskedBy (ask.End it) g l (asking.end_of role l g it)
end_asks (OfJob executor number) g l it = AsksObject executor (call.Done executor number it) refl (record { same_await = refl; no_wake = refl; brings = (λ x i. i); resolving = tt })
end_asks OfBody g l it = AsksNothing refl
end_asks (OfSwitch n daemon) g l it = AsksNothing refl
end_asks (OfGroup n) g l it = AsksNothing refl
end_asks (OfWriter writer) g l it = AsksNothing refl

writer_asks : (full : Bool) (flow : ℕ) (block : Block) (g : ℕ) (l : DomainState) → AskedBy (ask.OpenWriter flow block) g l (elim full [ true ↦ Own | false ↦ asking.mocks l (mock.OpenWriter flow) ])
writer_asks true flow block g l = AsksNothing refl
writer_asks false flow block g l = AsksOutside (mock.OpenWriter flow) refl

pub fiber_asks : (asked : Ask) (g : ℕ) (l : DomainState) → AskedBy asked g l (asks_for asked g l)
fiber_asks (ask.OnObject it object) g l = AsksObject object (object_call it object) refl (object_call_on it object)
fiber_asks (ask.OnObjectWith it object operand) g l = AsksObject object (object_call_with it object operand) refl (object_call_with_on it object operand)
fiber_asks (ask.Use pool) g l = AsksObject pool (call.Use pool) refl (record { same_await = refl; no_wake = refl; brings = (λ x i. i); resolving = tt })
fiber_asks (ask.Submit executor weight given block) g l =
    AsksObject executor (call.Submit (asking.job_of executor weight given block)) refl (record { same_await = refl; no_wake = refl; brings = (λ x i. i); resolving = tt })
fiber_asks (ask.UnlockEnd mutex it) g l = AsksObject mutex (call.Unlock mutex) refl (record { same_await = refl; no_wake = refl; brings = (λ x i. i); resolving = tt })
fiber_asks (ask.PoisonEnd mutex raised) g l = AsksObject mutex (call.Poison mutex) refl (record { same_await = refl; no_wake = refl; brings = (λ x i. absurd i); resolving = tt })
fiber_asks (ask.PutEnd pool resource it) g l = AsksObject pool (call.Put pool resource) refl (record { same_await = refl; no_wake = refl; brings = (λ x i. absurd i); resolving = tt })
fiber_asks (ask.ResolveEnd promise it) g l = AsksObject promise (call.Resolve promise it) refl (record { same_await = refl; no_wake = refl; brings = (λ x i. i); resolving = (refl, refl) })
fiber_asks (ask.End it) g l = end_asks (fiber_at l.fibers g).role g l it
fiber_asks (ask.OpenReader flow limit block) g l = AsksOutside _ refl
fiber_asks (ask.OnReader it reader) g l = AsksOutside _ refl
fiber_asks (ask.TakeBytes reader count) g l = AsksOutside _ refl
fiber_asks (ask.Copy from to) g l = AsksOutside _ refl
fiber_asks (ask.OpenWriter flow block) g l = writer_asks (asking.is_full_for_one l) flow block g l
fiber_asks (ask.PutText writer text) g l = AsksOutside _ refl
fiber_asks (ask.OpenDirectory place path block) g l = AsksOutside _ refl
fiber_asks (ask.OnPath it place path) g l = AsksOutside _ refl
fiber_asks (ask.Save only_new place path content) g l = AsksOutside _ refl
fiber_asks (ask.ShutReader reader it) g l = AsksOutside _ refl
fiber_asks (ask.ShutWriter writer it) g l = AsksOutside _ refl
fiber_asks other g l = AsksNothing refl

-- ## What objects answer

-- only a promise is resolved
pub resolves_no_mutex : (values : Data) (takers adders : List Queued) (who : Waiter) (off : Bool) (serial : ℕ) (it : Call) (given : Value) → is_resolving it ≡ true
    → (called (record { values = values; takers = takers; adders = adders }) who off serial it).answer ≡ answer.Done given → is_mutex values ≡ false
resolves_no_mutex (Mutex state) takers adders who off serial (call.Resolve object result) given resolving done = absurd (cc)
resolves_no_mutex (Mutex state) takers adders who off serial (call.TryResolve object result) given resolving done = absurd (cc)
resolves_no_mutex (Mutex state) takers adders who off serial other given resolving done = absurd (true≢false (sym resolving))
resolves_no_mutex values takers adders who off serial it given resolving done = refl

abbrev pub is_woken : Answer → Bool
is_woken (answer.Woke who) = true
is_woken other = false

-- a wake that wakes nobody sends nothing
pub wakes_or_is_silent : (values : Data) (takers adders : List Queued) (who : Waiter) (off : Bool) (serial object : ℕ)
    → is_woken (called (record { values = values; takers = takers; adders = adders }) who off serial (call.NextWake object)).answer ≡ false
    → (called (record { values = values; takers = takers; adders = adders }) who off serial (call.NextWake object)).sent ≡ None
wakes_or_is_silent (Stream capacity items) takers adders who off serial object silent = refl
wakes_or_is_silent (Promise None) takers adders who off serial object silent = refl
wakes_or_is_silent (Promise (Some kept)) [] adders who off serial object silent = refl
wakes_or_is_silent (Promise (Some kept)) (q ∷ takers) adders who off serial object silent = absurd (true≢false silent)
wakes_or_is_silent (Semaphore count) takers adders who off serial object silent = refl
wakes_or_is_silent (Mutex Free) takers adders who off serial object silent = refl
wakes_or_is_silent (Mutex Held) takers adders who off serial object silent = refl
wakes_or_is_silent (Mutex Poisoned) [] adders who off serial object silent = refl
wakes_or_is_silent (Mutex Poisoned) (q ∷ takers) adders who off serial object silent = absurd (true≢false silent)
wakes_or_is_silent (Pool size made idle) takers adders who off serial object silent = refl
wakes_or_is_silent (Executor work) takers adders who off serial object silent = refl

-- ## What is shared

module _ (P : Member → Type 0) where
  abbrev pub RowIs : Row → Type 0
  RowIs row = AllData P row.values

  abbrev pub Shares : SharedState → Type 0
  Shares shared = All RowIs shared.rows × ((receiver sender : ℕ) → All (AllMessage P) (shared.posts receiver sender))

  pub row_is : (rows : List Row) (object : ℕ) → All RowIs rows → RowIs (row_at rows object)
  row_is rows object all = at_is RowIs rows object no_object all (none P)

  abbrev pub Sends : Option Sent → Type 0
  Sends sent = AllSent P (AllRaised P) P sent

  message_is : (stamp : ℕ) (sent : Sent) → Sends (Some sent) → AllMessage P (message_of stamp sent)
  message_is stamp (Resumes who outcome) all = all
  message_is stamp (Starts start) all = none P

  posted_is : (domain stamp : ℕ) (sent : Option Sent) (posts : ℕ → ℕ → List Message) → Sends sent → ((receiver sender : ℕ) → All (AllMessage P) (posts receiver sender))
      → (receiver sender : ℕ) → All (AllMessage P) (posted domain stamp sent posts receiver sender)
  posted_is domain stamp None posts all before receiver sender = before receiver sender
  posted_is domain stamp (Some sent) posts all before receiver sender = by (receiver_of sent == domain) (receiver == receiver_of sent && sender == domain)
    where
      by : (mine this : Bool) → All (AllMessage P) ((elim mine as (λ _. ℕ → ℕ → List Message) [
        | true ↦ posts
        | false ↦ λ receiver sender. elim (receiver == receiver_of sent && sender == domain) [ true ↦ posts receiver sender ++ message_of stamp sent ∷ [] | false ↦ posts receiver sender ]
      ]) receiver sender)
      by true this = before receiver sender
      by false this = by_this (receiver == receiver_of sent && sender == domain)
        where
          by_this : (this : Bool) → All (AllMessage P) (elim this [ true ↦ posts receiver sender ++ message_of stamp sent ∷ [] | false ↦ posts receiver sender ])
          by_this true = All-append (AllMessage P) (posts receiver sender) (message_of stamp sent ∷ []) (before receiver sender) (all_single (AllMessage P) (message_of stamp sent) (message_is stamp sent all))
          by_this false = before receiver sender

  pub mine_is : (kinds : ℕ → Bool) (s domain stamp : ℕ) (sent : Option Sent) → Sends sent → AllMine P kinds s (mine_of domain stamp sent)
  mine_is kinds s domain stamp None all = tt
  mine_is kinds s domain stamp (Some sent) all = by (receiver_of sent == domain)
    where
      by : (mine : Bool) → AllMine P kinds s (elim mine [ true ↦ Some (message_of stamp sent) | false ↦ None ])
      by true = message_is stamp sent all
      by false = tt

  pub call_shares : (shared : SharedState) (domain stamp : ℕ) (asked : Asked) (step : Stepped) → RowIs step.row → Sends step.sent → Shares shared → Shares (after_call shared domain stamp asked step)
  call_shares shared domain stamp asked step row sent h = (All-set RowIs shared.rows asked.object step.row row h.0, posted_is domain stamp step.sent shared.posts sent h.1)

  pub strike_shares : (shared : SharedState) (who : Waiter) (won : Bool) → Shares shared → Shares (after_strike shared who won)
  strike_shares shared who false h = h
  strike_shares shared who true h = (All-map RowIs (λ row. strikes.struck row who) shared.rows h.0, h.1)

pub strike_kinds : (shared : SharedState) (who : Waiter) (won : Bool) (n : ℕ) → kinds_of (after_strike shared who won).rows n ≡ kinds_of shared.rows n
strike_kinds shared who false n = refl
strike_kinds shared who true n = struck_kinds who shared.rows n
