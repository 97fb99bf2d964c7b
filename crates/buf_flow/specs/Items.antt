-- Answers in code as those of the definitions.
use Rattle.std.specs.Prelude.{◌≡◌, List, ℕ}
use Rattle.spec_parts.specs.BytesToCome as model
use Rattle.spec_parts.specs.BytesToCome.{ReaderCall}
use Rattle.spec_parts.specs.Readers.{Reader, item, after_item}
use Rattle.buf_flow.specs.declared.read.Item.{Item}
use Rattle.buf_flow.specs.declared.read.Item.TheVariants.{Bytes, Flag, NeedMore, EndOfFile, BufferLimit, NoMemory}

-- an answer in code stands for this one: the same, or `NoMemory` in place of bytes
abbrev pub StandsFor : (answer : Item) → (item : model.Item) → Type 0
StandsFor (Bytes bytes) item = item ≡ model.Bytes bytes
StandsFor (Flag flag) item = item ≡ model.Flag flag
StandsFor NeedMore item = item ≡ model.NeedMore
StandsFor EndOfFile item = item ≡ model.EndOfFile
StandsFor BufferLimit item = item ≡ model.BufferLimit
StandsFor NoMemory item = (bytes : List ℕ) × (item ≡ model.Bytes bytes)

-- the reader behind an answer to this call: that of the definition; where memory ran out, nothing was given
abbrev pub left_by : (answer : Item) → ReaderCall → Reader → Reader
left_by NoMemory call reader = reader
left_by (Bytes bytes) call reader = after_item call reader
left_by (Flag flag) call reader = after_item call reader
left_by NeedMore call reader = after_item call reader
left_by EndOfFile call reader = after_item call reader
left_by BufferLimit call reader = after_item call reader

-- an answer without bytes leaves the reader as it was
abbrev pub KeepsUnlessBytes : (answer : Item) → (old new : Reader) → Type 0
KeepsUnlessBytes (Bytes bytes) old new = Unit {0}
KeepsUnlessBytes (Flag flag) old new = new ≡ old
KeepsUnlessBytes NeedMore old new = new ≡ old
KeepsUnlessBytes EndOfFile old new = new ≡ old
KeepsUnlessBytes BufferLimit old new = new ≡ old
KeepsUnlessBytes NoMemory old new = new ≡ old

-- a call was answered as the definition answers it by the bytes that were there, with what that leaves
pub record Answers (call : ReaderCall) (answer : Item) (old new : Reader) : Type 0 where
  pub item : StandsFor answer (item call old)
  pub left : new ≡ left_by answer call old
  pub kept : KeepsUnlessBytes answer old new

-- these bytes were given and those are left, or memory ran out and the reader is as it was
abbrev pub GivesOrNoMemory : (answer : Item) → (given left : List ℕ) → (old new : Reader) → Type 0
GivesOrNoMemory (Bytes bytes) given left old new = (bytes ≡ given) × (new ≡ record old { bytes = left })
GivesOrNoMemory NoMemory given left old new = new ≡ old
GivesOrNoMemory (Flag flag) given left old new = ⊥
GivesOrNoMemory NeedMore given left old new = ⊥
GivesOrNoMemory EndOfFile given left old new = ⊥
GivesOrNoMemory BufferLimit given left old new = ⊥
