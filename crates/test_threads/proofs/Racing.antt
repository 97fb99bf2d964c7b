-- For tests: cells are armed one by one, and cancelled one by one.
use Rattle.std.proofs.Common.{◌≡◌, ◌≢◌, ℕ, ◌+◌, ◌/◌, ◌<◌, ◌≤◌, Bool, true, false, ◌&&◌, List, [], ◌∷◌, ◌==◌, refl, sym, ap, ◌∙◌, subst, arith, eq-eqb, ne_eqb, Option, Some, None}
use Rattle.std.specs.Prelude.{if◌then◌else◌}
use Rattle.std.specs.List.{list_any}
use Rattle.std.proofs.Math.Nat.{div-eq_of_lt}
use mathlib.Core.Logic.{dite}
use native.Mathlib.Decide.{ℕ_discrete}
use Rattle.resume_cells.specs.declared.view.Deed.TheVariants.{Cancel}
use Rattle.resume_cells.specs.declared.view.Mark.{Mark}
use Rattle.resume_cells.specs.declared.view.SeatLog.{SeatLog}
use Rattle.resume_cells.specs.declared.cells.Decided.{Decided}
use Rattle.resume_cells.specs.declared.cells.Decided.TheVariants.{Won, Lost}
use Rattle.resume_cells.specs.Known.{last_armed, cancels, waiting, knows_below, CanArm}
use Rattle.resume_cells.specs.Outcomes.{IfWon, IfLost}
use Rattle.test_threads.specs.Racing.{AreWaiting}
use Rattle.resume_cells.specs.Seats.{Seated, Owns, with_mark, with_found}
use Rattle.resume_cells.specs.Views.{arm_of, decision_of}
use Rattle.resume_cells.proofs.Cases.{or_false, and_left, and_right}

-- the cells below n are armed, and no others
pub record AreArmed (t : SeatLog) (n : ℕ) : Type 0 where
  pub armed : (cell : ℕ) → cell < n → last_armed cell t.marks ≡ Some 1
  pub free : (cell : ℕ) → n ≤ cell → last_armed cell t.marks ≡ None
  pub kept : (cell : ℕ) → list_any (cancels cell 1) t.marks ≡ false

pub none_armed : (t : SeatLog) → t.marks ≡ [] → AreArmed t 0
none_armed t e = record { armed = λ cell lt. absurd (omega arith); free = λ cell _. ap (last_armed cell) e; kept = λ cell. ap (λ (ms : List Mark). list_any (cancels cell 1) ms) e }

abbrev more : SeatLog → ℕ → SeatLog
more t n = record { marks = arm_of n 1 ∷ t.marks; finds = t.finds }

pub one_more : (t : SeatLog) (n : ℕ) → AreArmed t n → AreArmed (more t n) (n + 1)
one_more t n a = record {
  armed = λ cell lt. dite (ℕ_discrete n cell)
      (λ same. ap (λ (b : Bool). if b && true then Some 1 else last_armed cell t.marks) (eq-eqb n cell same))
      (λ other. ap (λ (b : Bool). if b && true then Some 1 else last_armed cell t.marks) (ne_eqb n cell other) ∙ a.armed cell (omega arith));
  free = λ cell le. ap (λ (b : Bool). if b && true then Some 1 else last_armed cell t.marks) (ne_eqb n cell (λ e. absurd (omega arith))) ∙ a.free cell (omega arith);
  kept = λ cell. or_false (cancels cell 1 (arm_of n 1)) _ (and_right (n == cell) _ refl) (a.kept cell);
}

abbrev Can : SeatLog → ℕ → ℕ → Option ℕ → Type 0
Can t cell stamp last = elim last [ None ↦ 0 < stamp | Some armed ↦ knows_below t cell armed stamp ≡ true ]

pub can_arm : (t : SeatLog) (cell stamp : ℕ) → last_armed cell t.marks ≡ None → 0 < stamp → CanArm t cell stamp
can_arm t cell stamp e some_stamp = subst (Can t cell stamp) (sym e) some_stamp

module _ (waits : ℕ) where
  pub owns : (s : Seated) (cell : ℕ) → s.number ≡ 0 → s.each ≡ waits → cell < waits → Owns s cell
  owns s cell first each lt = ap (λ (n : ℕ). cell / n) each ∙ div-eq_of_lt lt ∙ sym first

  pub are_waiting : (s : Seated) → s.number ≡ 0 → s.each ≡ waits → AreArmed s.told waits → AreWaiting waits s 0
  are_waiting s first each a cell _ lt = (owns s cell first each lt, (a.armed cell lt, a.kept cell))

  cancelled_one : (s : Seated) (n : ℕ) → AreWaiting waits s n → AreWaiting waits (with_mark s (decision_of Cancel n 1 2)) (n + 1)
  cancelled_one s n w cell le lt = let old = w cell (omega arith) lt in (
    old.0,
    (
      ap (λ (b : Bool). if b then Some 2 else last_armed cell s.told.marks) (and_right (n == cell) false refl) ∙ old.1.0,
      or_false (cancels cell 1 (decision_of Cancel n 1 2)) _ (and_left (n == cell) _ (ne_eqb n cell (λ e. absurd (omega arith)))) old.1.1,
    ),
  )

  -- the cells behind the one that was cancelled wait still
  pub waiting_on : (s s' : Seated) (n cell armed : ℕ) (d : Decided) → cell ≡ n → armed ≡ 1 → IfWon d (s' ≡ with_mark s (decision_of Cancel cell armed 2)) → IfLost d (λ word. (s' ≡ with_found s cell word) × (word ≢ waiting armed))
      → AreWaiting waits s n → AreWaiting waits s' (n + 1)
  waiting_on s s' n cell armed Won its one won lost w = subst (λ x. AreWaiting waits x (n + 1)) (sym (won ∙ (λ i. with_mark s (decision_of Cancel (its i) (one i) 2)))) (cancelled_one s n w)
  waiting_on s s' n cell armed (Lost word) its one won lost w = subst (λ x. AreWaiting waits x (n + 1)) (sym lost.0) (λ c le lt. w c (omega arith) lt)

pub same_table : (s s' : Seated) (m : Mark) (cell armed : ℕ) (d : Decided) → IfWon d (s' ≡ with_mark s m) → IfLost d (λ word. (s' ≡ with_found s cell word) × (word ≢ waiting armed)) → s'.table ≡ s.table
same_table s s' m cell armed Won won lost = ap (λ (x : Seated). x.table) won
same_table s s' m cell armed (Lost word) won lost = ap (λ (x : Seated). x.table) lost.0
