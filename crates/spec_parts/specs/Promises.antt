-- Promises. A promise is resolved once, with a value or an exception; whoever waits for it is then woken, one fiber a call, in order.
use Rattle.std.specs.Prelude.{ℕ, Option, Some, None}
use Rattle.eio_value.specs.declared.call.Answer.TheVariants as answer
use Rattle.eio_value.specs.declared.call.Call.{Call}
use Rattle.eio_value.specs.declared.call.Call.TheVariants as call
use Rattle.eio_value.specs.declared.plain.Misuse.TheVariants as misuse
use Rattle.eio_value.specs.declared.plain.Plain.TheVariants as plain
use Rattle.eio_value.specs.declared.raised.Outcome.{Outcome}
use Rattle.eio_value.specs.declared.raised.Outcome.TheVariants as outcome
use Rattle.eio_value.specs.declared.value.Value.{Value}
use Rattle.eio_value.specs.declared.value.Value.TheVariants as value
use Rattle.spec_parts.specs.Data.{Promise}
use Rattle.spec_parts.specs.Row.{Row, Takers, Waits, Does, Ignores, Looks, anybody, quiet, done, int, raise, answer_of, opening}

-- sets the outcome, or raises that there is one
abbrev pub resolve_does : Option Outcome → (serial : ℕ) → Outcome → Does
resolve_does None serial given = Ignores (quiet (Promise (Some given)) done)
resolve_does (Some kept) serial given = Ignores (quiet (Promise (Some kept)) (answer.Raised (raise serial (plain.Invalid misuse.Resolved))))

-- sets the outcome and answers 1, or answers 0
abbrev pub try_resolve_does : Option Outcome → Value → Does
try_resolve_does None given = Ignores (quiet (Promise (Some (outcome.Ok given))) (answer.Done (int 1)))
try_resolve_does (Some kept) given = Ignores (quiet (Promise (Some kept)) (answer.Done (int 0)))

-- the outcome, or waits
abbrev pub await_does : Option Outcome → Does
await_does None = Ignores (Waits (Promise None) Takers value.Unit 0)
await_does (Some kept) = Ignores (quiet (Promise (Some kept)) (answer_of kept))

-- the first waiter gets the outcome; none where there is no waiter or no outcome
abbrev pub promise_wake_does : Option Outcome → Does
promise_wake_does None = Ignores (quiet (Promise None) answer.Nothing)
promise_wake_does (Some kept) =
    Looks Takers anybody (λ waiter. record { values = Promise (Some kept); answer = answer.Woke waiter.who; outcome = kept }) (quiet (Promise (Some kept)) answer.Nothing)

abbrev pub promise_does : Option Outcome → (serial : ℕ) → Call → Does
promise_does kept serial (call.Resolve object given) = resolve_does kept serial given
promise_does kept serial (call.TryResolve object given) = try_resolve_does kept given
promise_does kept serial (call.Await object) = await_does kept
promise_does kept serial (call.NextWake object) = promise_wake_does kept
promise_does kept serial other = Ignores (quiet (Promise kept) answer.Nothing)

-- as declared: not resolved
abbrev pub promise : Row
promise = opening (Promise None)
