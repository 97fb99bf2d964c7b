-- The history of one shared object: its calls in order, each with the waiters that it found dead.
-- In code a waiter that was struck still stands in its list until a call comes to it. So a call is the step of the row once the waiters that it skipped are taken out; beside
-- each stands the word that was read of its cell, which shows that the wait was decided.
use Rattle.std.specs.Prelude.{◌≡◌, ◌≢◌, ℕ, ◌+◌, ◌*◌, ◌/◌, ◌<◌, ◌≤◌, Bool, true, false, ◌==◌, not, List, [], ◌∷◌, map, Option}
use Rattle.std.specs.List.{list_any}
use Rattle.eio_value.specs.declared.call.Answer.{Answer}
use Rattle.eio_value.specs.declared.message.Message.{Message}
use Rattle.eio_value.specs.declared.message.Waiter.{Waiter}
use Rattle.spec_parts.specs.Objects.{called}
use Rattle.spec_parts.specs.Row.{Row, Stepped, only_row}
use Rattle.spec_parts.specs.Strikes.{same_wait}
use Rattle.spec_machine.specs.Labels.{Label, Inner, Called, Struck, Mocked, Took}
use Rattle.spec_machine.specs.Runs.{Letter, Noted, domain_of, stamp_of, away_of}
use Rattle.spec_machine.specs.Shared.{Asked, mine_of}

-- a call as the object's history has it: by which domain, its stamp, the answer, and what it has sent
pub record Made : Type 0 where
  pub domain : ℕ
  pub stamp : ℕ
  pub asked : Asked
  pub answer : Answer
  pub mine : Option Message
  pub away : Option Letter

-- a waiter that was found dead, and the word of its cell
pub record Skipped : Type 0 where
  pub who : Waiter
  pub word : ℕ

pub record Entry : Type 0 where
  pub made : Made
  pub skipped : List Skipped

abbrev pub skipped_waits : Entry → List Waiter
skipped_waits e = map (λ skipped. skipped.who) e.skipped

-- ## The row

abbrev pub is_among : List Waiter → Waiter → Bool
is_among waits who = list_any (same_wait who) waits

-- a row without these waits
abbrev pub less : List Waiter → Row → Row
less waits row = only_row (λ who. not (is_among waits who)) row

abbrev pub asked_on : Row → Asked → Stepped
asked_on row asked = called row asked.who asked.off asked.serial asked.call

abbrev pub entry_step : Row → Entry → Stepped
entry_step row e = asked_on (less (skipped_waits e) row) e.made.asked

-- the row after these calls, with the dead waiters that no call has come to
abbrev pub row_after : Row → List Entry → Row
row_after row [] = row
row_after row (e ∷ es) = row_after (entry_step row e).row es

-- ## Histories

-- a word shows that a wait is decided, or was: it is another than that of the wait undecided, not older than the wait, and older than the call
abbrev pub ShowsDecided : (stamp : ℕ) → Skipped → Type 0
ShowsDecided stamp it = (it.word ≢ 4 * it.who.armed + 1) × (it.who.armed ≤ it.word / 4) × (it.word / 4 < stamp)

abbrev pub AllShowDecided : (stamp : ℕ) → List Skipped → Type 0
AllShowDecided stamp [] = Unit {0}
AllShowDecided stamp (it ∷ others) = ShowsDecided stamp it × AllShowDecided stamp others

-- what an entry says is what the row's step gives
pub record IsEntry (row : Row) (stamp : ℕ) (e : Entry) : Type 0 where
  pub later : stamp < e.made.stamp
  pub answer : e.made.answer ≡ (entry_step row e).answer
  pub mine : e.made.mine ≡ mine_of e.made.domain e.made.stamp (entry_step row e).sent
  pub away : e.made.away ≡ away_of e.made.domain e.made.stamp (entry_step row e).sent
  pub decided : AllShowDecided e.made.stamp e.skipped

-- a legal history of an object that is this row, behind a line with this stamp
abbrev pub IsObjectHistory : Row → (stamp : ℕ) → List Entry → Type 0
IsObjectHistory row stamp [] = Unit {0}
IsObjectHistory row stamp (e ∷ es) = IsEntry row stamp e × IsObjectHistory (entry_step row e).row e.made.stamp es

-- ## Entries and lines

abbrev pub calls_in : List Entry → List Made
calls_in [] = []
calls_in (e ∷ es) = e.made ∷ calls_in es

-- a line as the history of an object has it, if it is a call on that object
abbrev pub call_on : (object : ℕ) → Noted → Label → List Made → List Made
call_on object x (Called asked answer mine) rest = elim (asked.object == object) [
  | true ↦ record { domain = domain_of x; stamp = stamp_of x; asked = asked; answer = answer; mine = mine; away = x.away } ∷ rest
  | false ↦ rest
]
call_on object x Inner rest = rest
call_on object x (Struck who won) rest = rest
call_on object x (Mocked asked answer texts) rest = rest
call_on object x (Took it) rest = rest

-- the calls on an object among lines
abbrev pub calls_on : (object : ℕ) → List Noted → List Made
calls_on object [] = []
calls_on object (x ∷ xs) = call_on object x x.label (calls_on object xs)

-- those of one domain
abbrev pub calls_of : (domain : ℕ) → List Made → List Made
calls_of d [] = []
calls_of d (m ∷ ms) = elim (m.domain == d) [ true ↦ m ∷ calls_of d ms | false ↦ calls_of d ms ]
