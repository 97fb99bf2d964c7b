-- Histories of one cell, good and bad, and the words that they leave.
use Rattle.std.proofs.Common.{◌≡◌, List, [], ◌∷◌, refl, arith}
use Rattle.spec_parts.specs.ResumeWords.{Mark, Arms, Decides, Woken, Cancelled, IsHistory, word_of}

-- two waits: one is woken by another domain, the next is cancelled by its own
abbrev two_waits : List Mark
two_waits = Arms 3 0 ∷ Decides Woken 3 7 1 ∷ Arms 8 0 ∷ Decides Cancelled 8 9 0 ∷ []

good_none : IsHistory []
good_none = tt

good_two : IsHistory two_waits
good_two = (omega arith, (refl, omega arith, (omega arith, (refl, omega arith, tt))))

good_open : IsHistory (Arms 1 4 ∷ [])
good_open = (omega arith, tt)

-- a wait has the stamp 1 at least
bad_at_0 : IsHistory (Arms 0 0 ∷ []) → ⊥
bad_at_0 history = omega (arith, history.0)

bad_without_a_wait : IsHistory (Decides Woken 1 2 0 ∷ []) → ⊥
bad_without_a_wait history = history

bad_two_decisions : IsHistory (Arms 1 0 ∷ Decides Woken 1 2 0 ∷ Decides Cancelled 1 3 0 ∷ []) → ⊥
bad_two_decisions history = history.1.2

bad_stamps_fall : IsHistory (Arms 5 0 ∷ Decides Woken 5 5 1 ∷ []) → ⊥
bad_stamps_fall history = omega (arith, history.1.1)

bad_arm_below : IsHistory (Arms 5 0 ∷ Decides Woken 5 8 1 ∷ Arms 7 0 ∷ []) → ⊥
bad_arm_below history = omega (arith, history.1.2.0)

-- a decision is of the wait that stands open, not of an older one
bad_older_wait : IsHistory (Arms 1 0 ∷ Decides Cancelled 1 2 0 ∷ Arms 3 0 ∷ Decides Woken 1 4 1 ∷ []) → ⊥
bad_older_wait history = omega (arith, history.1.2.1.0)

word_before : word_of [] ≡ 0
word_before = refl

word_waiting : word_of (Arms 3 0 ∷ []) ≡ 13
word_waiting = refl

word_woken : word_of (Arms 3 0 ∷ Decides Woken 3 7 1 ∷ []) ≡ 30
word_woken = refl

word_again : word_of (Arms 3 0 ∷ Decides Woken 3 7 1 ∷ Arms 8 0 ∷ []) ≡ 33
word_again = refl

word_cancelled : word_of two_waits ≡ 39
word_cancelled = refl
