-- The row of a shared object, and one step of it, in the one form that all objects have.
-- A row has the object's data and two lists of fibers, oldest first: takers wait to get something, adders wait to give something. Only waiting
-- fibers stand in them, and no cell stands in a row twice.
-- A call ignores who waits, or looks at one of the lists. There it takes the first fiber that it is for, hands it an outcome, and that fiber is woken.
-- Where it looks at nobody, or finds nobody, it answers at once, or it would wait. A call that would wait where the caller's context is off
-- answers `Off` and leaves the row. Else its fiber is entered at the end of a list; an older entry of the fiber's cell is removed first.
use Rattle.std.specs.Prelude.{ℕ, Bool, true, false, ◌==◌, not, List, [], ◌∷◌, ◌++◌, pos, filter, find, Option, Some, None}
use Rattle.eio_value.specs.declared.call.Answer.{Answer}
use Rattle.eio_value.specs.declared.call.Answer.TheVariants as answer
use Rattle.eio_value.specs.declared.message.Job.{Job}
use Rattle.eio_value.specs.declared.message.Waiter.{Waiter}
use Rattle.eio_value.specs.declared.plain.Plain.{Plain}
use Rattle.eio_value.specs.declared.raised.Outcome.{Outcome}
use Rattle.eio_value.specs.declared.raised.Outcome.TheVariants as outcome
use Rattle.eio_value.specs.declared.raised.Raised.{Raised}
use Rattle.eio_value.specs.declared.raised.Raised.TheVariants as raised
use Rattle.eio_value.specs.Sending.{Start, Sent, Resumes, Starts}
use Rattle.eio_value.specs.declared.value.Value.{Value}
use Rattle.eio_value.specs.declared.value.Value.TheVariants as value
use Rattle.spec_parts.specs.Data.{Data}

-- a fiber that waits, the item of an adder, and the number of a submitter's job
pub record Queued : Type 0 where
  pub who : Waiter
  pub item : Value
  pub number : ℕ

pub record Row : Type 0 where
  pub values : Data
  pub takers : List Queued
  pub adders : List Queued

-- one of the two lists: who waits to get something, who waits to give something
pub data Side : Type 0 where
  Takers : Side
  Adders : Side

-- what a call does where it looks at nobody or finds nobody: it answers at once, with the data after, its answer and the job that starts;
-- or it waits, with the data after, its list, its item and the number of its job
pub data Alone : Type 0 where
  Keeps : Data → Answer → Option Start → Alone
  Waits : Data → Side → Value → (number : ℕ) → Alone

-- what a call does with the fiber that it finds: the data after, the answer, and the outcome with which that fiber goes on
pub record Handed : Type 0 where
  pub values : Data
  pub answer : Answer
  pub outcome : Outcome

-- what a call does: it ignores who waits; or it looks in one list for the first fiber that it is for
pub data Does : Type 0 where
  Ignores : Alone → Does
  Looks : Side → (pick : Queued → Bool) → (hand : Queued → Handed) → Alone → Does

-- what came of a call: the row after, the answer, and what was sent
pub record Stepped : Type 0 where
  pub row : Row
  pub answer : Answer
  pub sent : Option Sent

-- Small words that the objects share

-- a call that is for any fiber
abbrev pub anybody : Queued → Bool
anybody queued = true

-- the call answers at once and starts no job
abbrev pub quiet : Data → Answer → Alone
quiet values answer = Keeps values answer None

-- the answer `()`
abbrev pub done : Answer
done = answer.Done value.Unit

-- a number as a value
abbrev pub int : ℕ → Value
int n = value.Int (pos n)

-- a single exception, raised with this serial
abbrev pub raise : (serial : ℕ) → Plain → Raised
raise serial what = raised.One (record { serial = serial; what = what })

-- the answer of a call that has an outcome at once
abbrev pub answer_of : Outcome → Answer
answer_of (outcome.Ok value) = answer.Done value
answer_of (outcome.Err raised) = answer.Raised raised

-- a row where nobody waits
abbrev pub opening : Data → Row
opening values = record { values = values; takers = []; adders = [] }

-- Lists of a row

abbrev pub queue : Side → Row → List Queued
queue Takers row = row.takers
queue Adders row = row.adders

-- the row with this list and these data
abbrev pub with_queue : Side → List Queued → Data → Row → Row
with_queue Takers list values row = record { values = values; takers = list; adders = row.adders }
with_queue Adders list values row = record { values = values; takers = row.takers; adders = list }

-- the row with those waiters alone that pass a test
abbrev pub only_row : (Waiter → Bool) → Row → Row
only_row test row = record { values = row.values; takers = filter (λ queued. test queued.who) row.takers; adders = filter (λ queued. test queued.who) row.adders }

-- the list without the first that passes a test
abbrev pub but_first : {A : Type 0} → (A → Bool) → List A → List A
but_first test [] = []
but_first test (x ∷ xs) = elim (test x) [ true ↦ xs | false ↦ x ∷ but_first test xs ]

-- One step

-- the waiter has another cell
abbrev pub has_other_cell : ℕ → Waiter → Bool
has_other_cell cell who = not (who.cell == cell)

-- a fiber is entered at the end of a list, and an older entry of its cell removed
abbrev pub entered : Row → Data → Side → Queued → Row
entered row values side queued =
    let others : Row = only_row (has_other_cell queued.who.cell) row in
    with_queue side (queue side others ++ queued ∷ []) values others

abbrev pub started : Option Start → Option Sent
started None = None
started (Some start) = Some (Starts start)

-- nobody was looked at, or nobody found
abbrev pub otherwise : Row → Waiter → (off : Bool) → Alone → Stepped
otherwise row who off (Keeps values answer start) = record { row = record row { values = values }; answer = answer; sent = started start }
otherwise row who true (Waits values side item number) = record { row = row; answer = answer.Off; sent = None }
otherwise row who false (Waits values side item number) = record { row = entered row values side (record { who = who; item = item; number = number }); answer = answer.Waits; sent = None }

-- the fiber that was found leaves its list and goes on
abbrev pub found : Row → Side → (Queued → Bool) → (Queued → Handed) → Stepped → Option Queued → Stepped
found row side pick hand other None = other
found row side pick hand other (Some queued) =
    let handed : Handed = hand queued in
    record {
      row = with_queue side (but_first pick (queue side row)) handed.values row;
      answer = handed.answer;
      sent = Some (Resumes queued.who handed.outcome);
    }

-- a call of a fiber on a row
abbrev pub stepped : Row → Waiter → (off : Bool) → Does → Stepped
stepped row who off (Ignores alone) = otherwise row who off alone
stepped row who off (Looks side pick hand alone) = found row side pick hand (otherwise row who off alone) (find pick (queue side row))
