-- Parts of a run with one line more, at the end of its domain's log. The line may bring an entry at the end of one object's history, marks at the end of one cell,
-- and a message sent or taken.
-- A run of threads grows so: each line stands behind the last of its domain, whatever the stamps of other domains have come to.
use Rattle.std.specs.Prelude.{◌≡◌, ℕ, ◌<◌, ◌≤◌, ◌==◌, Bool, true, false, List, [], ◌∷◌, ◌++◌, length, Option, Some, None}
use Rattle.eio_value.specs.declared.message.Message.{Message}
use Rattle.spec_parts.specs.ResumeWords.{Decision, Mark, Arms, Decides, Continues}
use Rattle.spec_machine.specs.ObjectHistories.{Made, Entry, calls_in, calls_on, calls_of, IsObjectHistory, row_after}
use Rattle.spec_machine.specs.PartsOfRuns.{OwnWait, IsIn, IsFairLine, SkipsCancelled, IsDecidedBy, sends, takes, Parts, Fit}
use Rattle.spec_machine.specs.Runs.{Noted, domain_of, stamp_of, stamps_below, put}
use Rattle.spec_machine.specs.Shared.{row_at}

-- what a line brings: its object with the entries there, its cell with the marks there, and the messages that are left then
pub record Added : Type 0 where
  pub object : ℕ
  pub entries : List Entry
  pub cell : ℕ
  pub marks : List Mark
  pub left : (receiver sender : ℕ) → List Message

abbrev pub longer : Parts → Noted → Added → Parts
longer p x added = record {
  owner = p.owner;
  declared = p.declared;
  logs = put (domain_of x) (p.logs (domain_of x) ++ x ∷ []) p.logs;
  entries = put added.object (p.entries added.object ++ added.entries) p.entries;
  cells = put added.cell (p.cells added.cell ++ added.marks) p.cells;
  left = added.left;
}

-- ## Where lists have come to

-- the stamp of the last line, entry or mark, or this one where there is none
abbrev pub last_line : (stamp : ℕ) → List Noted → ℕ
last_line stamp [] = stamp
last_line stamp (x ∷ xs) = last_line (stamp_of x) xs

abbrev pub last_entry : (stamp : ℕ) → List Entry → ℕ
last_entry stamp [] = stamp
last_entry stamp (e ∷ es) = last_entry e.made.stamp es

abbrev pub last_mark : (stamp : ℕ) → List Mark → ℕ
last_mark stamp [] = stamp
last_mark stamp (Arms armed maker ∷ marks) = last_mark armed marks
last_mark stamp (Decides decision armed decided maker ∷ marks) = last_mark decided marks

-- the wait that stands open behind marks, if one does
abbrev pub standing_after : Option ℕ → List Mark → Option ℕ
standing_after standing [] = standing
standing_after standing (Arms armed maker ∷ marks) = standing_after (Some armed) marks
standing_after standing (Decides decision armed stamp maker ∷ marks) = standing_after None marks

-- these calls, where the test holds
abbrev pub only_where : Bool → List Made → List Made
only_where true calls = calls
only_where false calls = []

-- ## One line more

-- the line, with what it brings, goes on where the parts have come to
pub record GoesOnFrom (p : Parts) (x : Noted) (added : Added) : Type 0 where
  pub later : last_line 0 (p.logs (domain_of x)) < stamp_of x
  pub below : stamp_of x < stamps_below
  pub waits : OwnWait p.owner (domain_of x) (last_line 0 (p.logs (domain_of x))) (stamp_of x) x.label
  -- it brings entries just where it is a call
  pub calls : (object d : ℕ) → only_where (added.object == object) (calls_of d (calls_in added.entries)) ≡ only_where (domain_of x == d) (calls_on object (x ∷ []))
  pub declared : length p.declared ≤ added.object → added.entries ≡ []
  pub history : IsObjectHistory (row_after (row_at p.declared added.object) (p.entries added.object)) (last_entry 0 (p.entries added.object)) added.entries
  pub skips : SkipsCancelled (longer p x added).cells added.entries
  pub marks : Continues (standing_after None (p.cells added.cell)) (last_mark 0 (p.cells added.cell)) added.marks
  pub fair : IsFairLine (longer p x added).cells x
  -- it makes the decisions that it brings
  pub decisions : (decision : Decision) (armed stamp maker : ℕ) → IsIn (Decides decision armed stamp maker) added.marks → (maker ≡ domain_of x) × IsDecidedBy (x ∷ []) decision added.cell armed stamp
  -- what was left and what it sends is what it takes and what is left then
  pub posts : (receiver sender : ℕ) → p.left receiver sender ++ sends sender receiver (x ∷ []) ≡ takes receiver sender (x ∷ []) ++ added.left receiver sender

abbrev pub PartsExtend : Type 0
PartsExtend = (p : Parts) (x : Noted) (added : Added) → Fit p → GoesOnFrom p x added → Fit (longer p x added)
