-- The parts of a run: one log a domain, one history an object, one list of marks a cell, and the messages that are left in each post; and how they fit together.
-- All are plain lists. That parts that fit are the parts of a legal run is a law.
use Rattle.std.specs.Prelude.{◌≡◌, ℕ, ◌<◌, ◌≤◌, ◌⊎◌, map, Bool, true, false, ◌&&◌, ◌==◌, List, [], ◌∷◌, ◌++◌, length, Option, Some, None}
use Rattle.eio_value.specs.declared.call.Answer.TheVariants as answer
use Rattle.eio_value.specs.declared.message.Message.{Message}
use Rattle.eio_value.specs.declared.message.Message.TheVariants as message
use Rattle.eio_value.specs.declared.message.Waiter.{Waiter}
use Rattle.spec_parts.specs.ResumeWords.{Decision, Woken, Cancelled, Mark, Arms, Decides, IsHistory}
use Rattle.spec_parts.specs.Row.{Row, only_row}
use Rattle.spec_machine.specs.Labels.{Label, Inner, Called, Struck, Mocked, Took}
use Rattle.spec_machine.specs.ObjectHistories.{Entry, calls_in, calls_on, calls_of, IsObjectHistory, row_after, skipped_waits}
use Rattle.spec_machine.specs.Runs.{Letter, Noted, domain_of, stamp_of, message_stamp, Before, key_of, stamps_below, State, Legal}
use Rattle.spec_machine.specs.Shared.{SharedState, Decided, decision_of, row_at}

-- ## Logs

-- the lines are of this domain, and their stamps rise behind that of the last
abbrev pub IsLog : (domain stamp : ℕ) → List Noted → Type 0
IsLog d stamp [] = Unit {0}
IsLog d stamp (x ∷ xs) = (domain_of x ≡ d) × (stamp < stamp_of x) × (stamp_of x < stamps_below) × IsLog d (stamp_of x) xs

-- a wait that a line enters was armed above the domain's earlier stamps and below the line's own, in a cell of the domain; a strike is on a cell of the domain
abbrev pub OwnWait : (owner : ℕ → ℕ) → (domain last stamp : ℕ) → Label → Type 0
OwnWait owner d last stamp Inner = Unit {0}
OwnWait owner d last stamp (Called asked it mine) = it ≡ answer.Waits → (last < asked.who.armed) × (asked.who.armed < stamp) × (owner asked.who.cell ≡ d)
OwnWait owner d last stamp (Struck who won) = owner who.cell ≡ d
OwnWait owner d last stamp (Mocked asked it texts) = Unit {0}
OwnWait owner d last stamp (Took it) = Unit {0}

abbrev pub OwnWaits : (owner : ℕ → ℕ) → (domain last : ℕ) → List Noted → Type 0
OwnWaits owner d last [] = Unit {0}
OwnWaits owner d last (x ∷ xs) = OwnWait owner d last (stamp_of x) x.label × OwnWaits owner d (stamp_of x) xs

-- ## Decisions

-- the wait that a message resumes, if it resumes one
abbrev pub resumed : Option Message → Option Waiter
resumed None = None
resumed (Some (message.Resume who result stamp)) = Some who
resumed (Some (message.Start job number stamp)) = None

abbrev pub sent_away : Option Letter → Option Message
sent_away None = None
sent_away (Some letter) = Some letter.message

abbrev pub first_of : Option Waiter → Option Waiter → Option Waiter
first_of None b = b
first_of (Some who) b = Some who

-- a wait with its decision
pub record DecidedWait : Type 0 where
  pub who : Waiter
  pub decision : Decision

abbrev pub woken_by : Option Waiter → Option DecidedWait
woken_by None = None
woken_by (Some who) = Some (record { who = who; decision = Woken })

-- the wait that a line decides, and how
abbrev pub decided_by : Label → (away : Option Letter) → Option DecidedWait
decided_by (Called asked it mine) away = woken_by (first_of (resumed mine) (resumed (sent_away away)))
decided_by (Struck who true) away = Some (record { who = who; decision = Cancelled })
decided_by (Struck who false) away = None
decided_by Inner away = None
decided_by (Mocked asked it texts) away = None
decided_by (Took it) away = None

-- ## Cells

abbrev pub IsIn : Mark → List Mark → Type 0
IsIn mark [] = ⊥
IsIn mark (other ∷ others) = (other ≡ mark) ⊎ IsIn mark others

-- a line's decision is a mark of its cell, with the line's stamp and domain
abbrev pub IsMarked : (cells : ℕ → List Mark) → (stamp domain : ℕ) → Option DecidedWait → Type 0
IsMarked cells stamp d None = Unit {0}
IsMarked cells stamp d (Some it) = IsIn (Decides it.decision it.who.armed stamp d) (cells it.who.cell)

-- a wait was decided so by a mark with a stamp below this one
abbrev pub IsMarkedBelow : (cells : ℕ → List Mark) → Decision → (stamp : ℕ) → Waiter → Type 0
IsMarkedBelow cells decision stamp who = (s : ℕ) × (d : ℕ) × (s < stamp) × IsIn (Decides decision who.armed s d) (cells who.cell)

-- what else holds of a line: only calls send; a lost strike came after its wait was woken; a message that was taken was sent before
abbrev pub IsFair : (cells : ℕ → List Mark) → (stamp : ℕ) → Label → (away : Option Letter) → Type 0
IsFair cells stamp (Called asked it mine) away = Unit {0}
IsFair cells stamp (Struck who true) away = away ≡ None
IsFair cells stamp (Struck who false) away = (away ≡ None) × IsMarkedBelow cells Woken stamp who
IsFair cells stamp Inner away = away ≡ None
IsFair cells stamp (Mocked asked it texts) away = ⊥
IsFair cells stamp (Took it) away = (away ≡ None) × (message_stamp it < stamp)

-- what a line has sent has the line's stamp
abbrev pub HasStamp : (stamp : ℕ) → Option Letter → Type 0
HasStamp stamp None = Unit {0}
HasStamp stamp (Some letter) = message_stamp letter.message ≡ stamp

pub record IsFairLine (cells : ℕ → List Mark) (x : Noted) : Type 0 where
  pub marked : IsMarked cells (stamp_of x) (domain_of x) (decided_by x.label x.away)
  pub fair : IsFair cells (stamp_of x) x.label x.away
  pub stamp : HasStamp (stamp_of x) x.away

abbrev pub AllFair : (cells : ℕ → List Mark) → List Noted → Type 0
AllFair cells [] = Unit {0}
AllFair cells (x ∷ xs) = IsFairLine cells x × AllFair cells xs

-- each of these waits was cancelled below this stamp
abbrev pub AllCancelled : (cells : ℕ → List Mark) → (stamp : ℕ) → List Waiter → Type 0
AllCancelled cells stamp [] = Unit {0}
AllCancelled cells stamp (who ∷ others) = IsMarkedBelow cells Cancelled stamp who × AllCancelled cells stamp others

-- each waiter that an entry has skipped was cancelled below the entry's stamp
abbrev pub SkipsCancelled : (cells : ℕ → List Mark) → List Entry → Type 0
SkipsCancelled cells [] = Unit {0}
SkipsCancelled cells (e ∷ es) = AllCancelled cells e.made.stamp (skipped_waits e) × SkipsCancelled cells es

-- one of these lines has this stamp and decides this wait so
abbrev pub IsDecidedBy : List Noted → Decision → (cell armed stamp : ℕ) → Type 0
IsDecidedBy [] decision cell armed stamp = ⊥
IsDecidedBy (x ∷ xs) decision cell armed stamp =
    ((stamp_of x ≡ stamp) × ((who : Waiter) × (decided_by x.label x.away ≡ Some (record { who = who; decision = decision })) × (who.cell ≡ cell) × (who.armed ≡ armed)))
    ⊎ IsDecidedBy xs decision cell armed stamp

-- ## Posts

-- what a domain has sent to a receiver, among its lines
abbrev pub sent_to : (receiver : ℕ) → Option Letter → List Message → List Message
sent_to receiver None rest = rest
sent_to receiver (Some letter) rest = elim (letter.receiver == receiver) [ true ↦ letter.message ∷ rest | false ↦ rest ]

abbrev pub sends : (sender receiver : ℕ) → List Noted → List Message
sends sender receiver [] = []
sends sender receiver (x ∷ xs) = elim (domain_of x == sender) [ true ↦ sent_to receiver x.away (sends sender receiver xs) | false ↦ sends sender receiver xs ]

-- what a domain has taken of a sender, among its lines
abbrev pub taken : Label → List Message → List Message
taken (Took it) rest = it ∷ rest
taken Inner rest = rest
taken (Called asked it mine) rest = rest
taken (Struck who won) rest = rest
taken (Mocked asked it texts) rest = rest

abbrev pub takes : (receiver sender : ℕ) → List Noted → List Message
takes receiver sender [] = []
takes receiver sender (x ∷ xs) = elim (domain_of x == receiver && x.from == sender) [ true ↦ taken x.label (takes receiver sender xs) | false ↦ takes receiver sender xs ]

-- ## The parts

-- all of it: the domain that each cell belongs to, the objects as declared, the logs, histories, marks and messages left
pub record Parts : Type 0 where
  pub owner : ℕ → ℕ
  pub declared : List Row
  pub logs : (domain : ℕ) → List Noted
  pub entries : (object : ℕ) → List Entry
  pub cells : (cell : ℕ) → List Mark
  pub left : (receiver sender : ℕ) → List Message

-- they fit together
pub record Fit (p : Parts) : Type 0 where
  pub logs : (d : ℕ) → IsLog d 0 (p.logs d)
  pub waits : (d : ℕ) → OwnWaits p.owner d 0 (p.logs d)
  -- the calls of a domain's log on an object are just those of the domain in the object's history
  pub calls : (object d : ℕ) → calls_of d (calls_in (p.entries object)) ≡ calls_on object (p.logs d)
  pub histories : (object : ℕ) → IsObjectHistory (row_at p.declared object) 0 (p.entries object)
  pub skips : (object : ℕ) → SkipsCancelled p.cells (p.entries object)
  pub none : (object : ℕ) → length p.declared ≤ object → p.entries object ≡ []
  pub cells : (cell : ℕ) → IsHistory (p.cells cell)
  pub fair : (d : ℕ) → AllFair p.cells (p.logs d)
  -- each decision was made by a line of its maker's log
  pub decisions : (cell : ℕ) (decision : Decision) (armed stamp maker : ℕ) → IsIn (Decides decision armed stamp maker) (p.cells cell) → IsDecidedBy (p.logs maker) decision cell armed stamp
  pub posts : (receiver sender : ℕ) → sends sender receiver (p.logs sender) ≡ takes receiver sender (p.logs receiver) ++ p.left receiver sender

-- ## The run that they are parts of

-- nobody waits in an object as declared
abbrev pub IsDeclared : List Row → Type 0
IsDeclared declared = ((object : ℕ) → (row_at declared object).takers ≡ []) × ((object : ℕ) → (row_at declared object).adders ≡ [])

-- nothing was called, sent or decided
abbrev pub shared_at_first : List Row → SharedState
shared_at_first declared = record { rows = declared; stamps = map (λ row. 0) declared; decided = []; posts = λ receiver sender. [] }

-- the lines of a domain
abbrev pub lines_of : (domain : ℕ) → List Noted → List Noted
lines_of d [] = []
lines_of d (x ∷ xs) = elim (domain_of x == d) [ true ↦ x ∷ lines_of d xs | false ↦ lines_of d xs ]

abbrev pub Rises : (last : ℕ × ℕ) → List Noted → Type 0
Rises last [] = Unit {0}
Rises last (x ∷ xs) = Before last x × Rises (key_of x) xs

-- the lines of all logs in rising order of stamp and domain
pub record IsMerged (logs : (domain : ℕ) → List Noted) (lines : List Noted) : Type 0 where
  pub rises : Rises (0, 0) lines
  pub are : (d : ℕ) → lines_of d lines ≡ logs d

-- the decision of a wait, by the marks of its cell
abbrev pub decision_in : List Mark → (armed : ℕ) → Option Decision
decision_in [] armed = None
decision_in (Arms other maker ∷ marks) armed = decision_in marks armed
decision_in (Decides decision other stamp maker ∷ marks) armed = elim (other == armed) [ true ↦ Some decision | false ↦ decision_in marks armed ]

-- a wait that wasn't cancelled
abbrev pub is_uncancelled : Option Decision → Bool
is_uncancelled None = true
is_uncancelled (Some Woken) = true
is_uncancelled (Some Cancelled) = false

abbrev pub is_alive : List Decided → Waiter → Bool
is_alive decided who = is_uncancelled (decision_of decided who.cell who.armed)

-- the merged lines are a legal run from the opening, which ends where each domain is where its local run ends, each object is the end of its history less the cancelled
-- waiters, each wait is decided as its cell's marks say, and each post holds the messages left
pub record Reaches {L : Type 0} (Steps : L → Noted → L → Type 0) (p : Parts) (first ends : ℕ → L) (lines : List Noted) : Type 0 where
  pub final : State Steps
  pub legal : Legal Steps (0, 0) (record { locals = first; shared = shared_at_first p.declared }) lines final
  pub locals : (d : ℕ) → final.locals d ≡ ends d
  pub rows : (object : ℕ) → row_at final.shared.rows object ≡ only_row (is_alive final.shared.decided) (row_after (row_at p.declared object) (p.entries object))
  pub waits : (cell armed : ℕ) → decision_of final.shared.decided cell armed ≡ decision_in (p.cells cell) armed
  pub posts : (receiver sender : ℕ) → final.shared.posts receiver sender ≡ p.left receiver sender
