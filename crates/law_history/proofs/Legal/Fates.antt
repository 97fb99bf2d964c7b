-- What is left of a run: the parts behind a place among the merged lines, and what ties them to the state at that place.
-- How each wait is decided is one function that never changes, its fate. In the state a wait stands undecided exactly while a line that is left decides it.
use Rattle.std.specs.Prelude.{◌≡◌, ℕ, ◌<◌, ◌≤◌, Bool, true, false, ◌&&◌, ◌||◌, ◌==◌, List, [], ◌∷◌, ◌++◌, length, Option, Some, None}
use Rattle.eio_value.specs.declared.call.Answer.{Answer}
use Rattle.eio_value.specs.declared.call.Answer.TheVariants as answer
use Rattle.eio_value.specs.declared.message.Message.{Message}
use Rattle.eio_value.specs.declared.message.Waiter.{Waiter}
use Rattle.spec_parts.specs.ResumeWords.{Decision, Woken, Cancelled}
use Rattle.spec_parts.specs.Row.{Row, only_row}
use Rattle.spec_machine.specs.Labels.{Label, Inner, Called, Struck, Mocked, Took}
use Rattle.spec_machine.specs.ObjectHistories.{Entry, calls_in, calls_on, calls_of, IsObjectHistory, skipped_waits}
use Rattle.spec_machine.specs.PartsOfRuns.{Parts, DecidedWait, decided_by, HasStamp, sends, takes, Rises, is_alive}
use Rattle.spec_machine.specs.Runs.{Letter, Noted, domain_of, stamp_of, message_stamp, stamps_below}
use Rattle.spec_machine.specs.Shared.{SharedState, decision_of, row_at, stamp_at}

-- how a wait is decided: with which stamp, and by a line of which domain
pub record Fate : Type 0 where
  pub decision : Decision
  pub stamp : ℕ
  pub maker : ℕ

-- of each wait, by its cell and the stamp with which it was armed
abbrev pub Fates : Type 0
Fates = (cell armed : ℕ) → Option Fate

abbrev pub decision_by : Option Fate → Option Decision
decision_by None = None
decision_by (Some fate) = Some fate.decision

-- ## Lines

-- this is the wait that is decided
abbrev pub is_that : (cell armed : ℕ) → Option DecidedWait → Bool
is_that cell armed None = false
is_that cell armed (Some it) = it.who.cell == cell && it.who.armed == armed

-- one of these lines decides the wait
abbrev pub comes : List Noted → (cell armed : ℕ) → Bool
comes [] cell armed = false
comes (x ∷ xs) cell armed = is_that cell armed (decided_by x.label x.away) || comes xs cell armed

-- a line's decision is the fate of its wait
abbrev pub IsFate : Fates → (stamp domain : ℕ) → Option DecidedWait → Type 0
IsFate fates stamp d None = Unit {0}
IsFate fates stamp d (Some it) = fates it.who.cell it.who.armed ≡ Some (record { decision = it.decision; stamp = stamp; maker = d })

-- a wait is decided so, below this stamp
pub record IsFatedBelow (fates : Fates) (decision : Decision) (stamp : ℕ) (who : Waiter) : Type 0 where
  pub fate : Fate
  pub is : fates who.cell who.armed ≡ Some fate
  pub so : fate.decision ≡ decision
  pub below : fate.stamp < stamp

-- a wait that a call enters is decided after that call
abbrev pub EntersBefore : Fates → (stamp : ℕ) → Waiter → Answer → Type 0
EntersBefore fates stamp who it = it ≡ answer.Waits → (fate : Fate) → fates who.cell who.armed ≡ Some fate → stamp < fate.stamp

abbrev pub IsSound : Fates → (stamp : ℕ) → Label → (away : Option Letter) → Type 0
IsSound fates stamp (Called asked it mine) away = EntersBefore fates stamp asked.who it
IsSound fates stamp (Struck who true) away = away ≡ None
IsSound fates stamp (Struck who false) away = (away ≡ None) × IsFatedBelow fates Woken stamp who
IsSound fates stamp Inner away = away ≡ None
IsSound fates stamp (Mocked asked it texts) away = ⊥
IsSound fates stamp (Took it) away = (away ≡ None) × (message_stamp it < stamp)

pub record IsSoundLine (fates : Fates) (x : Noted) : Type 0 where
  pub fated : IsFate fates (stamp_of x) (domain_of x) (decided_by x.label x.away)
  pub sound : IsSound fates (stamp_of x) x.label x.away
  pub stamp : HasStamp (stamp_of x) x.away
  pub below : stamp_of x < stamps_below

abbrev pub AllSound : Fates → List Noted → Type 0
AllSound fates [] = Unit {0}
AllSound fates (x ∷ xs) = IsSoundLine fates x × AllSound fates xs

-- ## Entries

abbrev pub AllCancelledBelow : Fates → (stamp : ℕ) → List Waiter → Type 0
AllCancelledBelow fates stamp [] = Unit {0}
AllCancelledBelow fates stamp (who ∷ others) = IsFatedBelow fates Cancelled stamp who × AllCancelledBelow fates stamp others

-- each waiter that an entry has skipped is cancelled below the entry's stamp
abbrev pub SkipsDead : Fates → List Entry → Type 0
SkipsDead fates [] = Unit {0}
SkipsDead fates (e ∷ es) = AllCancelledBelow fates e.made.stamp (skipped_waits e) × SkipsDead fates es

-- ## The parts that are left

-- behind the line with the key `last`, in the state `s`, where the objects' histories have come to `whole`; `lines` and `entries` are what is left
pub record PartsLeft (last : ℕ × ℕ) (s : SharedState) (whole : (object : ℕ) → Row) (lines : List Noted) (entries : (object : ℕ) → List Entry) (fates : Fates) (left : (receiver sender : ℕ) → List Message) : Type 0 where
  pub rises : Rises last lines
  pub calls : (object : ℕ) → calls_in (entries object) ≡ calls_on object lines
  pub histories : (object : ℕ) → IsObjectHistory (whole object) (stamp_at s.stamps object) (entries object)
  pub skips : (object : ℕ) → SkipsDead fates (entries object)
  pub sound : AllSound fates lines
  pub posts : (receiver sender : ℕ) → s.posts receiver sender ++ sends sender receiver lines ≡ takes receiver sender lines ++ left receiver sender
  pub none : (object : ℕ) → length s.rows ≤ object → entries object ≡ []
  pub sizes : length s.stamps ≡ length s.rows
  -- an object of the state is its history's row less the cancelled waiters
  pub rows : (object : ℕ) → row_at s.rows object ≡ only_row (is_alive s.decided) (whole object)
  pub stands : (cell armed : ℕ) → decision_of s.decided cell armed ≡ elim (comes lines cell armed) [ true ↦ None | false ↦ decision_by (fates cell armed) ]
  -- what no line that is left decides was decided by then
  pub past : (cell armed : ℕ) (fate : Fate) → fates cell armed ≡ Some fate → comes lines cell armed ≡ false → fate.stamp ≤ last.0

-- the parts of a whole run, with fates in place of marks
pub record AreFated (p : Parts) (fates : Fates) : Type 0 where
  pub calls : (object d : ℕ) → calls_of d (calls_in (p.entries object)) ≡ calls_on object (p.logs d)
  pub histories : (object : ℕ) → IsObjectHistory (row_at p.declared object) 0 (p.entries object)
  pub skips : (object : ℕ) → SkipsDead fates (p.entries object)
  pub sound : (d : ℕ) → AllSound fates (p.logs d)
  -- each fate was made by a line of its maker's log
  pub decided : (cell armed : ℕ) (fate : Fate) → fates cell armed ≡ Some fate → comes (p.logs fate.maker) cell armed ≡ true
  pub none : (object : ℕ) → length p.declared ≤ object → p.entries object ≡ []
  pub posts : (receiver sender : ℕ) → sends sender receiver (p.logs sender) ≡ takes receiver sender (p.logs receiver) ++ p.left receiver sender
