-- Resume words. Each cell has one word, through which one fiber at a time is woken. Its history is a list of marks, oldest first, with stamps that rise.
-- An arm begins a wait. A decision, woken or cancelled, ends the wait that stands open; so each wait has at most one, before the next arm.
-- Each mark names the domain that made it. The word shows the last mark.
use Rattle.std.specs.Prelude.{◌≡◌, ℕ, ◌+◌, ◌*◌, ◌<◌, List, [], ◌∷◌, Option, Some, None}

-- how a wait was decided
pub data Decision : Type 0 where
  Woken : Decision
  Cancelled : Decision

-- a wait begins with the stamp that names it; or the wait of that name is decided, with a stamp of its own
pub data Mark : Type 0 where
  Arms : (armed : ℕ) → (maker : ℕ) → Mark
  Decides : Decision → (armed : ℕ) → (stamp : ℕ) → (maker : ℕ) → Mark

-- the marks behind one with this stamp, where the wait that is named stands open, or none does
abbrev pub Continues : Option ℕ → (last : ℕ) → List Mark → Type 0
Continues standing last [] = Unit {0}
Continues standing last (Arms armed maker ∷ marks) = (last < armed) × Continues (Some armed) armed marks
Continues None last (Decides decision armed stamp maker ∷ marks) = ⊥
Continues (Some standing) last (Decides decision armed stamp maker ∷ marks) = (armed ≡ standing) × (last < stamp) × Continues None stamp marks

-- the history of a cell
abbrev pub IsHistory : List Mark → Type 0
IsHistory marks = Continues None 0 marks

-- the word that a mark leaves: 4 times its stamp, and 1 where the fiber waits, 2 where it was woken, 3 where it was cancelled
abbrev pub marked_word : Mark → ℕ
marked_word (Arms armed maker) = 4 * armed + 1
marked_word (Decides Woken armed stamp maker) = 4 * stamp + 2
marked_word (Decides Cancelled armed stamp maker) = 4 * stamp + 3

-- the word after these marks, where it was another before
abbrev pub word_after : (word : ℕ) → List Mark → ℕ
word_after word [] = word
word_after word (mark ∷ marks) = word_after (marked_word mark) marks

-- the word of a cell: 0 before its first wait
abbrev pub word_of : List Mark → ℕ
word_of marks = word_after 0 marks
