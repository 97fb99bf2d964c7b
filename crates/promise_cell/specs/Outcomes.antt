-- The outcome that a promise has, and what a call that would set it answers.
use Rattle.std.specs.Prelude.{ℕ, Bool, true, false, Option, None}
use Rattle.eio_value.specs.declared.call.Answer.{Answer}
use Rattle.eio_value.specs.declared.call.Answer.TheVariants as answer
use Rattle.eio_value.specs.declared.plain.Misuse.TheVariants as misuse
use Rattle.eio_value.specs.declared.plain.Plain.TheVariants as plain
use Rattle.eio_value.specs.declared.raised.Outcome.{Outcome}
use Rattle.spec_parts.specs.Data.{Data, Promise}
use Rattle.spec_parts.specs.Row.{done, int, raise}

-- the outcome, once it is resolved
abbrev pub outcome_in : Data → Option Outcome
outcome_in (Promise kept) = kept
outcome_in other = None

-- `resolve` answers whether it has set the outcome
abbrev pub resolve_answer : (has_set : Bool) → (serial : ℕ) → Answer
resolve_answer true serial = done
resolve_answer false serial = answer.Raised (raise serial (plain.Invalid misuse.Resolved))

-- and so does `try_resolve`
abbrev pub try_answer : (has_set : Bool) → Answer
try_answer true = answer.Done (int 1)
try_answer false = answer.Done (int 0)
