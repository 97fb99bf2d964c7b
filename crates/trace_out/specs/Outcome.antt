-- What a command does to its source and its sink, by the status that it answers.
-- Where a source tells the bytes left, or a sink the bytes held, these say which were read and written.
use Rattle.std.specs.Prelude.{◌≡◌, ℕ, ◌≤◌, List, drop, Some, None}
use Rattle.std.specs.declared.option.Option.{Option}
use Rattle.std.specs.Io.KnownBytes.{Keeps, Appends}
use Rattle.trace_out.specs.Causes.{Rose, AppendsFront}
use Rattle.trace_lines.specs.declared.status.Status.{Status}
use Rattle.trace_lines.specs.declared.status.Status.TheVariants as status

-- one byte more than is accepted is read, and no more
abbrev pub most_read : ℕ
most_read = 262145

-- the first n bytes were read, or all where there are fewer
abbrev pub HasRead : ℕ → Option (List ℕ) → Option (List ℕ) → Type 0
HasRead n None new = Unit {0}
HasRead n (Some bytes) None = ⊥
HasRead n (Some bytes) (Some left) = left ≡ drop n bytes

-- some bytes were read
pub record HasReadSome (old new : Option (List ℕ)) : Type 0 where
  pub count : ℕ
  pub within : count ≤ most_read
  pub read : HasRead count old new

-- what was read at this answer: nothing where the words mean nothing; perhaps a front where reading or memory failed; else all
abbrev pub ReadsFor : Status → Option (List ℕ) → Option (List ℕ) → Type 0
ReadsFor status.Usage old new = Keeps old new
ReadsFor status.ReadFault old new = HasReadSome old new
ReadsFor status.NoMemory old new = HasReadSome old new
ReadsFor _ old new = HasRead most_read old new

-- what is due: the text that is to be written, and the status that is to be answered
pub record Due : Type 0 where
  pub text : List ℕ
  pub status : Status

-- the status is the due one, and the whole text was written
pub record IsAnswered (due : Due) (old new : Option (List ℕ)) (result : Status) : Type 0 where
  pub status : due.status ≡ result
  pub text : Appends old new due.text

-- what was written at this answer: the whole text at the status that is due, a front of it where writing or memory failed, and
-- nothing where nothing was read or reading failed
abbrev pub WritesFor : Status → Due → Option (List ℕ) → Option (List ℕ) → Type 0
WritesFor status.Usage due old new = Keeps old new
WritesFor status.ReadFault due old new = Keeps old new
WritesFor status.WriteFault due old new = AppendsFront old new due.text
WritesFor status.NoMemory due old new = AppendsFront old new due.text
WritesFor result due old new = IsAnswered due old new result

-- a fault is answered only where the count of the source, or of the sink, rose
abbrev pub HasItsCause : Status → (source_old source_new sink_old sink_new : ℕ) → Type 0
HasItsCause status.ReadFault source_old source_new sink_old sink_new = Rose source_old source_new
HasItsCause status.WriteFault source_old source_new sink_old sink_new = Rose sink_old sink_new
HasItsCause _ source_old source_new sink_old sink_new = Unit {0}

-- the answer of a command that runs nothing, or runs what always comes to its end, and that checks no history
abbrev pub CanCome : Status → Type 0
CanCome status.Raised = ⊥
CanCome status.Deadlock = ⊥
CanCome status.OutOfSteps = ⊥
CanCome status.Limit = ⊥
CanCome status.NotLegal = ⊥
CanCome _ = Unit {0}
