-- Writers: what is pending, and the moves of the copier.
-- A writer collects what is put; its copier, a fiber of its own, writes all that is pending at once, and waits where nothing is.
-- A copier that waits is woken by what is put and by the end of the writer's block. After an exception what is pending is dropped.
use Rattle.std.specs.Prelude.{ℕ, Bool, true, false, List, [], ◌∷◌, ◌++◌, drop, Option, Some, None}

-- what the copier does: it moves when its turn comes, waits for something to write, or has ended
pub data Copier : Type 0 where
  Moves : Copier
  Rests : Copier
  Ended : Copier

-- what was put and isn't written, whether the block has ended, and the copier
pub record Writer : Type 0 where
  pub pending : List ℕ
  pub closed : Bool
  pub copier : Copier

abbrev pub new_writer : Writer
new_writer = record { pending = []; closed = false; copier = Moves }

-- the first bytes were written
abbrev pub took : (count : ℕ) → List ℕ → List ℕ
took count pending = drop count pending

-- what a call does to a writer, and whether its copier is woken
pub record Pushed : Type 0 where
  pub writer : Writer
  pub wakes : Bool

abbrev pub quiet : Writer → Pushed
quiet writer = record { writer = writer; wakes = false }

-- a copier that waits moves again
abbrev pub woken : Writer → Pushed
woken writer = elim writer.copier [
  | Rests ↦ record { writer = record writer { copier = Moves }; wakes = true }
  | Moves ↦ quiet writer
  | Ended ↦ quiet writer
]

-- bytes are put: none add nothing and wake nobody
abbrev pub added : List ℕ → Writer → Pushed
added [] writer = quiet writer
added (b ∷ bytes) writer = woken (record writer { pending = writer.pending ++ b ∷ bytes })

-- `put`: nothing may be put after the end of the block
abbrev pub put_bytes : List ℕ → Writer → Option Pushed
put_bytes bytes writer = elim writer.closed [ true ↦ None | false ↦ Some (added bytes writer) ]

-- the copier's move: the bytes that it writes, where there are some
pub record Carried : Type 0 where
  pub wrote : Option (List ℕ)
  pub writer : Writer

-- nothing is pending: the copier ends with the block, and waits before
abbrev pub carries_nothing : Writer → Carried
carries_nothing writer = record { wrote = None; writer = record writer { copier = elim writer.closed [ true ↦ Ended | false ↦ Rests ] } }

-- the copier's move: it writes all that is pending
abbrev pub carry : Writer → Carried
carry writer = elim writer.pending [
  | [] ↦ carries_nothing writer
  | b ∷ bytes ↦ record { wrote = Some (b ∷ bytes); writer = record writer { pending = [] } }
]

-- what stays pending at the end of the block
abbrev pub kept_pending : (after_exception : Bool) → List ℕ → List ℕ
kept_pending true pending = []
kept_pending false pending = pending

-- the end of the block, and what `shut` does when it is called first
abbrev pub shut_writer : (after_exception : Bool) → Writer → Pushed
shut_writer after_exception writer = woken (record writer { pending = kept_pending after_exception writer.pending; closed = true })

-- whether `shut` waits: until the copier has ended
abbrev pub shut_waits : Writer → Bool
shut_waits writer = elim writer.copier [ Ended ↦ false | Moves ↦ true | Rests ↦ true ]
