-- Worked marks, words and histories, computed by the prover.
use Rattle.std.proofs.Common.{◌≡◌, List, [], ◌∷◌, true, false, refl, inl, inr, arith, Some, None}
use Rattle.spec_parts.specs.ResumeWords as words
use Rattle.resume_cells.specs.declared.view.Deed.TheVariants.{Wake, Cancel}
use Rattle.resume_cells.specs.declared.view.SeatLog.{SeatLog}
use Rattle.resume_cells.specs.declared.cells.Decided.TheVariants.{Won, Lost}
use Rattle.resume_cells.specs.Marks.{Entry, word_of, IsHistory, of_cell, marks_by, AreByOwners}
use Rattle.resume_cells.specs.Known.{waiting, knows, knows_below, last_armed, CanArm, IsLast, SaysWoken}
use Rattle.resume_cells.specs.Histories.{history_of, IsDecidedInTurn}
use Rattle.resume_cells.specs.Laws.{decisions_of}
use Rattle.resume_cells.specs.Outcomes.{outcome_of}
use Rattle.resume_cells.specs.Views.{arm_of, decision_of}

-- Four cells, two for each of two seats. Seat 0 arms cell 1, seat 1 wakes it, seat 0 arms it again and cancels. Meanwhile seat 1 arms cell 2. The newest comes first.
abbrev log : List Entry
log = (0, decision_of Cancel 1 8 9) ∷ (0, arm_of 1 8) ∷ (1, arm_of 2 5) ∷ (1, decision_of Wake 1 3 7) ∷ (0, arm_of 1 3) ∷ []

cell_1 : of_cell 1 log ≡ decision_of Cancel 1 8 9 ∷ arm_of 1 8 ∷ decision_of Wake 1 3 7 ∷ arm_of 1 3 ∷ []
cell_1 = refl

seat_1 : marks_by 1 log ≡ arm_of 2 5 ∷ decision_of Wake 1 3 7 ∷ []
seat_1 = refl

word_1 : word_of (of_cell 1 log) ≡ 39
word_1 = refl

word_2 : word_of (of_cell 2 log) ≡ 21
word_2 = refl

word_3 : word_of (of_cell 3 log) ≡ 0
word_3 = refl

legal_1 : IsHistory (of_cell 1 log)
legal_1 = (inr (inr refl, refl, refl, omega arith), (inl (refl, inl refl, omega arith), (inr (inl refl, refl, refl, omega arith), ((refl, omega arith), tt))))

by_owners : AreByOwners 2 log
by_owners = (λ _. refl, (λ _. refl, (λ _. refl, (λ ne. absurd (ne refl), (λ _. refl, tt)))))

-- the same, the oldest first, as the definition of histories has it
history_1 : history_of 1 log ≡ words.Arms 3 0 ∷ words.Decides words.Woken 3 7 1 ∷ words.Arms 8 0 ∷ words.Decides words.Cancelled 8 9 0 ∷ []
history_1 = refl

history_is_legal : IsDecidedInTurn (history_of 1 log)
history_is_legal = ((omega arith, (refl, omega arith, (omega arith, (refl, omega arith, tt)))), tt)

-- a wait that begins while another stands open is none of this rule
not_in_turn : IsDecidedInTurn (words.Arms 3 0 ∷ words.Arms 4 0 ∷ []) → ⊥
not_in_turn history = history.1

decisions_of_3 : decisions_of 3 (history_of 1 log) ≡ words.Decides words.Woken 3 7 1 ∷ []
decisions_of_3 = refl

decisions_of_4 : decisions_of 4 (history_of 1 log) ≡ []
decisions_of_4 = refl

-- What seat 0 knows before it arms cell 1 again: by a cancellation that was lost it found the word of the wake, 4 * 7 + 2.
abbrev told : SeatLog
told = record { marks = arm_of 1 3 ∷ []; finds = record { cell = 1; word = 30 } ∷ [] }

known : knows told 1 3 ≡ true
known = refl

not_of_later_waits : knows told 1 8 ≡ false
not_of_later_waits = refl

not_of_other_cells : knows told 2 3 ≡ false
not_of_other_cells = refl

not_by_the_arm : knows (record { marks = arm_of 1 3 ∷ []; finds = record { cell = 1; word = waiting 3 } ∷ [] }) 1 3 ≡ false
not_by_the_arm = refl

by_own_mark : knows (record { marks = decision_of Cancel 1 3 4 ∷ arm_of 1 3 ∷ []; finds = [] }) 1 3 ≡ true
by_own_mark = refl

below_8 : knows_below told 1 3 8 ≡ true
below_8 = refl

not_below_7 : knows_below told 1 3 7 ≡ false
not_below_7 = refl

last_is_3 : last_armed 1 told.marks ≡ Some 3
last_is_3 = refl

none_of_cell_0 : last_armed 0 told.marks ≡ None
none_of_cell_0 = refl

can_arm_8 : CanArm told 1 8
can_arm_8 = refl

can_arm_at_first : CanArm told 0 1
can_arm_at_first = omega arith

not_at_0 : CanArm told 0 0 → ⊥
not_at_0 can = omega (arith, can)

last : IsLast told 1 3
last = (refl, refl)

woken : SaysWoken 3 30
woken = (7, omega arith, refl)

won : outcome_of 13 (waiting 3) ≡ Won
won = refl

lost : outcome_of 30 (waiting 3) ≡ Lost 30
lost = refl
