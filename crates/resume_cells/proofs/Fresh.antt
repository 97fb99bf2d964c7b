-- Where a word shows a wait undecided, nobody knows that it was decided.
use Rattle.std.proofs.Common.{◌≡◌, ◌≢◌, ℕ, ◌+◌, ◌*◌, ◌/◌, ◌<◌, ◌⊎◌, Bool, true, false, not, List, [], ◌∷◌, ◌==◌, refl, sym, ap, ◌∙◌, subst, inl, inr, ⊎_elim, arith, eq-eqb, ne_eqb}
use Rattle.std.specs.Prelude.{nat_le, if◌then◌else◌}
use Rattle.std.specs.List.{list_any}
use Rattle.std.proofs.lemmas.Bool.{lt-leb}
use mathlib.Core.Logic.{dite}
use native.Mathlib.Decide.{ℕ_discrete}
use Rattle.resume_cells.specs.declared.view.Deed.TheVariants.{Arm}
use Rattle.resume_cells.specs.declared.view.Mark.{Mark}
use Rattle.resume_cells.specs.declared.view.Found.{Found}
use Rattle.resume_cells.specs.declared.view.SeatLog.{SeatLog}
use Rattle.resume_cells.specs.Marks.{code_of, Entry, word, WasWord, IsHistory, of_cell, marks_by, AllWere}
use Rattle.resume_cells.specs.Known.{tells_decided, is_arm, decides, knows}
use Rattle.resume_cells.proofs.Cases.{or_false, and_right, and_left, bool_cases}
use Rattle.resume_cells.proofs.Marks.{below_stamp, older}

not_told : (cell armed : ℕ) (f : Found) → (f.cell ≡ cell → (f.word ≡ 4 * armed + 1) ⊎ (f.word < 4 * armed)) → tells_decided cell armed f ≡ false
not_told cell armed f h = dite (ℕ_discrete f.cell cell)
    (λ same. and_right (f.cell == cell) _ (⊎_elim
    (λ (e : f.word ≡ 4 * armed + 1). and_right (nat_le armed (f.word / 4)) _ (rw (eq-eqb f.word (4 * armed + 1) e) refl))
    (λ (lt : f.word < 4 * armed). and_left (nat_le armed (f.word / 4)) _ (let d : f.word / 4 < armed = omega arith in lt-leb armed (f.word / 4) d))
    (h same)))
    (λ other. and_left (f.cell == cell) _ (ne_eqb f.cell cell other))

was_cases : (n : Mark) (ns : List Mark) (armed r : ℕ) → IsHistory (n ∷ ns) → n.deed ≡ Arm → n.stamp ≡ armed → WasWord r (n ∷ ns) → (r ≡ 4 * armed + 1) ⊎ (r < 4 * armed)
was_cases n ns armed r h k s w = let c : code_of n.deed ≡ 1 = ap code_of k in
    ⊎_elim (λ (e : r ≡ word n). inl (omega arith)) (λ v. inr (let o : r < 4 * n.stamp = older n ns r h v in omega arith)) w

finds_fresh : (log : List Entry) (cell armed : ℕ) (n : Mark) (ns : List Mark) → of_cell cell log ≡ n ∷ ns → IsHistory (n ∷ ns) → n.deed ≡ Arm → n.stamp ≡ armed
    → (fs : List Found) → AllWere log fs → list_any (tells_decided cell armed) fs ≡ false
finds_fresh log cell armed n ns is h k s [] a = refl
finds_fresh log cell armed n ns is h k s (f ∷ fs) a = or_false (tells_decided cell armed f) _
    (not_told cell armed f (λ same. was_cases n ns armed f.word h k s (subst (WasWord f.word) is (subst (λ (c : ℕ). WasWord f.word (of_cell c log)) same a.0))))
    (finds_fresh log cell armed n ns is h k s fs a.1)

-- no mark of this history decides the wait
abbrev pub Undecided : ℕ → List Mark → Type 0
Undecided armed [] = Unit {0}
Undecided armed (m ∷ ms) = (is_arm m.deed ≡ false → m.armed ≢ armed) × Undecided armed ms

arm_decides_none : (m : Mark) (armed : ℕ) → m.deed ≡ Arm → is_arm m.deed ≡ false → m.armed ≢ armed
arm_decides_none m armed k t = let u : true ≡ false = sym (ap is_arm k) ∙ t in cc

pub too_old : (armed : ℕ) (m : Mark) (ms : List Mark) → IsHistory (m ∷ ms) → m.stamp < armed → Undecided armed (m ∷ ms)
too_old armed m [] h lt = (arm_decides_none m armed h.0.0, tt)
too_old armed m (p ∷ ps) h lt = (
  (λ t e. ⊎_elim (λ a. absurd (arm_decides_none m armed a.0 t e)) (λ d. let a' : m.armed ≡ p.stamp = d.2 in let b : p.stamp < m.stamp = d.3 in absurd (omega arith)) h.0),
  too_old armed p ps h.1 (let b : p.stamp < m.stamp = below_stamp m p ps h.0 in omega arith),
)

undecided : (n : Mark) (ns : List Mark) (armed : ℕ) → IsHistory (n ∷ ns) → n.deed ≡ Arm → n.stamp ≡ armed → Undecided armed (n ∷ ns)
undecided n [] armed h k s = (arm_decides_none n armed k, tt)
undecided n (p ∷ ps) armed h k s = (
  arm_decides_none n armed k,
  too_old armed p ps h.1 (let b : p.stamp < n.stamp = below_stamp n p ps h.0 in omega arith),
)

pub not_decides : (cell armed : ℕ) (m : Mark) → (m.cell ≡ cell → is_arm m.deed ≡ false → m.armed ≢ armed) → decides cell armed m ≡ false
not_decides cell armed m h = dite (ℕ_discrete m.cell cell)
    (λ same. and_right (m.cell == cell) _ (bool_cases _ (is_arm m.deed) (λ t. and_right (m.armed == armed) _ (ap not t)) (λ f. and_left (m.armed == armed) _ (ne_eqb m.armed armed (h same f)))))
    (λ other. and_left (m.cell == cell) _ (ne_eqb m.cell cell other))

marks_fresh : (by cell armed : ℕ) (log : List Entry) → Undecided armed (of_cell cell log) → list_any (decides cell armed) (marks_by by log) ≡ false
marks_fresh by cell armed [] u = refl
marks_fresh by cell armed (e ∷ es) u = dite (ℕ_discrete e.1.cell cell)
    (λ same. let v : Undecided armed (e.1 ∷ of_cell cell es) = subst (λ b. Undecided armed (if b then e.1 ∷ of_cell cell es else of_cell cell es)) (eq-eqb e.1.cell cell same) u in
    choose (λ _ t. v.0 t) (marks_fresh by cell armed es v.1))
    (λ other. let v : Undecided armed (of_cell cell es) = subst (λ b. Undecided armed (if b then e.1 ∷ of_cell cell es else of_cell cell es)) (ne_eqb e.1.cell cell other) u in
    choose (λ same _. absurd (other same)) (marks_fresh by cell armed es v))
  where
    choose : (e.1.cell ≡ cell → is_arm e.1.deed ≡ false → e.1.armed ≢ armed) → list_any (decides cell armed) (marks_by by es) ≡ false
        → list_any (decides cell armed) (if e.0 == by then e.1 ∷ marks_by by es else marks_by by es) ≡ false
    choose n rest = go (e.0 == by)
      where
        go : (b : Bool) → list_any (decides cell armed) (if b then e.1 ∷ marks_by by es else marks_by by es) ≡ false
        go true = or_false (decides cell armed e.1) _ (not_decides cell armed e.1 n) rest
        go false = rest

-- who made these marks and found these words doesn't know the cell's last wait decided, where that is undecided
pub fresh : (log : List Entry) (by : ℕ) (t : SeatLog) (cell armed : ℕ) (n : Mark) (ns : List Mark) → marks_by by log ≡ t.marks → AllWere log t.finds
    → of_cell cell log ≡ n ∷ ns → IsHistory (n ∷ ns) → n.deed ≡ Arm → n.stamp ≡ armed → knows t cell armed ≡ false
fresh log by t cell armed n ns made stood is h k s = or_false (list_any (tells_decided cell armed) t.finds) _
    (finds_fresh log cell armed n ns is h k s t.finds stood)
    (subst (λ (ms : List Mark). list_any (decides cell armed) ms ≡ false) made (marks_fresh by cell armed log (subst (Undecided armed) (sym is) (undecided n ns armed h k s))))
