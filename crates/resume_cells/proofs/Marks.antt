-- Facts on histories of a cell, and on one more entry of the log.
use Rattle.std.proofs.Common.{◌≡◌, ◌≢◌, ℕ, ◌+◌, ◌*◌, ◌^◌, ◌<◌, ◌≤◌, ◌⊎◌, List, [], ◌∷◌, refl, sym, subst, inl, inr, ⊎_elim, arith}
use Rattle.std.specs.Prelude.{if◌then◌else◌}
use mathlib.Core.Logic.{dite}
use native.Mathlib.Decide.{ℕ_discrete}
use Rattle.resume_cells.specs.declared.view.Deed.{Deed}
use Rattle.resume_cells.specs.declared.view.Deed.TheVariants.{Arm, Wake, Cancel}
use Rattle.resume_cells.specs.declared.view.Mark.{Mark}
use Rattle.resume_cells.specs.declared.view.Found.{Found}
use Rattle.resume_cells.specs.Marks.{code_of, Entry, word, word_bound, word_of, WasWord, Follows, IsHistory, of_cell, marks_by, AllWere}
use Rattle.resume_cells.specs.Views.{decision_of}
use Rattle.resume_cells.proofs.Cases.{eqb_cases, deed_cases}

pub below_stamp : (m p : Mark) (ps : List Mark) → Follows m (p ∷ ps) → p.stamp < m.stamp
below_stamp m p ps f = ⊎_elim (λ a. a.2) (λ d. d.3) f

pub code_small : (d : Deed) → code_of d ≤ 3
code_small Arm = omega arith
code_small Wake = omega arith
code_small Cancel = omega arith

pub code_some : (d : Deed) → 1 ≤ code_of d
code_some Arm = omega arith
code_some Wake = omega arith
code_some Cancel = omega arith

-- words rise with the stamps
pub older : (m : Mark) (ms : List Mark) (n : ℕ) → IsHistory (m ∷ ms) → WasWord n ms → n < 4 * m.stamp
older m [] n h w = let s : 0 < m.stamp = h.0.1 in omega arith
older m (p ∷ ps) n h w = let lt : p.stamp < m.stamp = below_stamp m p ps h.0 in let k = code_small p.deed in
    ⊎_elim (λ (e : n ≡ word p). omega arith) (λ v. let o : n < 4 * p.stamp = older p ps n h.1 v in omega arith) w

-- a word that shows a wait undecided is that of its arm
pub head_is : (h : List Mark) (armed : ℕ) → word_of h ≡ 4 * armed + 1 → (n : Mark) × (ns : List Mark) × (h ≡ n ∷ ns) × (n.deed ≡ Arm) × (n.stamp ≡ armed)
head_is [] armed e = absurd (omega arith)
head_is (n ∷ ns) armed e = ⊎_elim (λ k. let c : code_of n.deed ≡ 1 = k.1 in (n, ns, refl, k.0, omega arith))
    (⊎_elim (λ k. let c : code_of n.deed ≡ 2 = k.1 in absurd (omega arith)) (λ k. let c : code_of n.deed ≡ 3 = k.1 in absurd (omega arith))) (deed_cases n.deed)

pub decision_follows : (deed : Deed) (cell armed stamp : ℕ) → (deed ≡ Wake) ⊎ (deed ≡ Cancel) → armed < stamp → (h : List Mark) → word_of h ≡ 4 * armed + 1
    → Follows (decision_of deed cell armed stamp) h
decision_follows deed cell armed stamp k lt h e = let t = head_is h armed e in let n = t.0 in
    subst (Follows (decision_of deed cell armed stamp)) (sym t.2) (inr (k, t.3, sym t.4, let s : n.stamp ≡ armed = t.4 in omega arith))

pub is_word : (h : List Mark) → WasWord (word_of h) h
is_word [] = refl
is_word (m ∷ ms) = inl refl

-- one more entry
module _ (e : Entry) (log : List Entry) where
  pub here : (cell : ℕ) → e.1.cell ≡ cell → of_cell cell (e ∷ log) ≡ e.1 ∷ of_cell cell log
  here cell same = eqb_cases (λ b. (if b then e.1 ∷ of_cell cell log else of_cell cell log) ≡ e.1 ∷ of_cell cell log) e.1.cell cell (λ _. refl) (λ ne. absurd (ne same))

  pub away : (cell : ℕ) → e.1.cell ≢ cell → of_cell cell (e ∷ log) ≡ of_cell cell log
  away cell other = eqb_cases (λ b. (if b then e.1 ∷ of_cell cell log else of_cell cell log) ≡ of_cell cell log) e.1.cell cell (λ same. absurd (other same)) (λ _. refl)

  pub mine : (by : ℕ) → e.0 ≡ by → marks_by by (e ∷ log) ≡ e.1 ∷ marks_by by log
  mine by same = eqb_cases (λ b. (if b then e.1 ∷ marks_by by log else marks_by by log) ≡ e.1 ∷ marks_by by log) e.0 by (λ _. refl) (λ ne. absurd (ne same))

  pub not_mine : (by : ℕ) → e.0 ≢ by → marks_by by (e ∷ log) ≡ marks_by by log
  not_mine by other = eqb_cases (λ b. (if b then e.1 ∷ marks_by by log else marks_by by log) ≡ marks_by by log) e.0 by (λ same. absurd (other same)) (λ _. refl)

  pub was_longer : (cell n : ℕ) → WasWord n (of_cell cell log) → WasWord n (of_cell cell (e ∷ log))
  was_longer cell n w = eqb_cases (λ b. WasWord n (if b then e.1 ∷ of_cell cell log else of_cell cell log)) e.1.cell cell (λ _. inr w) (λ _. w)

  pub all_longer : (fs : List Found) → AllWere log fs → AllWere (e ∷ log) fs
  all_longer [] a = tt
  all_longer (f ∷ fs) a = (was_longer f.cell f.word a.0, all_longer fs a.1)

  pub history_longer : ((cell : ℕ) → IsHistory (of_cell cell log)) → Follows e.1 (of_cell e.1.cell log) → (cell : ℕ) → IsHistory (of_cell cell (e ∷ log))
  history_longer legal f cell = dite (ℕ_discrete e.1.cell cell)
      (λ same. subst IsHistory (sym (here cell same)) (subst (λ (c : ℕ). Follows e.1 (of_cell c log)) same f, legal cell))
      (λ other. subst IsHistory (sym (away cell other)) (legal cell))

-- the word of a mark whose stamp is early
pub word_is_bounded : (m : Mark) → m.stamp < 2 ^ 60 → word m < word_bound
word_is_bounded m early = (let code = code_small m.deed in omega (arith, code))
