-- The last wait of a cell, as its owner knows it and as it stands in the log.
use Rattle.std.proofs.Common.{◌≡◌, ◌≢◌, ℕ, ◌+◌, ◌*◌, ◌/◌, ◌<◌, Bool, true, false, ◌&&◌, List, [], ◌∷◌, ◌==◌, refl, sym, ap, ◌∙◌, subst, ⊎_elim, arith, eq-eqb, ne_eqb, Option, Some, None}
use Rattle.std.specs.Prelude.{if◌then◌else◌}
use Rattle.std.specs.List.{list_any}
use mathlib.Core.Logic.{dite}
use native.Mathlib.Decide.{ℕ_discrete}
use Rattle.resume_cells.specs.declared.view.Deed.{Deed}
use Rattle.resume_cells.specs.declared.view.Deed.TheVariants.{Arm, Wake, Cancel}
use Rattle.resume_cells.specs.declared.view.Mark.{Mark}
use Rattle.resume_cells.specs.Marks.{code_of, Entry, word_of, Follows, IsHistory, of_cell, marks_by, AreByOwners}
use Rattle.resume_cells.specs.declared.view.SeatLog.{SeatLog}
use Rattle.resume_cells.specs.Known.{is_arm, is_cancel, cancels, last_armed, IsLast, SaysWoken}
use Rattle.resume_cells.proofs.Cases.{bool_cases, eqb_cases, deed_cases, both_true, and_right, or_left, or_right, some_is, none-ne-some, nil-ne-cons}
use Rattle.resume_cells.proofs.Marks.{here, away, mine}

-- the last arm of a cell's history
abbrev pub last_of : List Mark → Option ℕ
last_of [] = None
last_of (m ∷ ms) = if is_arm m.deed then Some m.stamp else last_of ms

is_arm_if : (d : Deed) → is_arm d ≡ true → d ≡ Arm
is_arm_if Arm t = refl
is_arm_if Wake t = absurd (let x : false ≡ true = t in cc)
is_arm_if Cancel t = absurd (let x : false ≡ true = t in cc)

one_more : (each by cell : ℕ) (e : Entry) (es : List Entry) → AreByOwners each (e ∷ es) → cell / each ≡ by → last_armed cell (marks_by by es) ≡ last_of (of_cell cell es)
    → last_armed cell (marks_by by (e ∷ es)) ≡ last_of (of_cell cell (e ∷ es))
one_more each by cell e es o own rest =
    eqb_cases (λ b. last_armed cell (if e.0 == by then e.1 ∷ marks_by by es else marks_by by es) ≡ last_of (if b then e.1 ∷ of_cell cell es else of_cell cell es)) e.1.cell cell
    here
    (λ other. passed (ap (λ (b : Bool). b && is_arm e.1.deed) (ne_eqb e.1.cell cell other)))
  where
    -- a mark that begins no wait of the cell changes nothing
    passed : (e.1.cell == cell && is_arm e.1.deed) ≡ false → last_armed cell (if e.0 == by then e.1 ∷ marks_by by es else marks_by by es) ≡ last_of (of_cell cell es)
    passed none = go (e.0 == by)
      where
        go : (b : Bool) → last_armed cell (if b then e.1 ∷ marks_by by es else marks_by by es) ≡ last_of (of_cell cell es)
        go true = ap (λ (b : Bool). if b then Some e.1.stamp else last_armed cell (marks_by by es)) none ∙ rest
        go false = rest

    arms : e.1.cell ≡ cell → e.1.deed ≡ Arm → e.0 ≡ by
    arms same k = sym (o.0 (λ w. let x : true ≡ false = sym (ap is_arm k) ∙ ap is_arm w in cc)) ∙ ap (λ (c : ℕ). c / each) same ∙ own

    no_arm : is_arm e.1.deed ≡ false → (e.1.cell == cell && is_arm e.1.deed) ≡ false
    no_arm f = and_right (e.1.cell == cell) _ f

    here : e.1.cell ≡ cell → last_armed cell (if e.0 == by then e.1 ∷ marks_by by es else marks_by by es) ≡ last_of (e.1 ∷ of_cell cell es)
    here same = bool_cases _ (is_arm e.1.deed)
        (λ t. let k = is_arm_if e.1.deed t in
        subst (λ b. last_armed cell (if b then e.1 ∷ marks_by by es else marks_by by es) ≡ last_of (e.1 ∷ of_cell cell es)) (sym (eq-eqb e.0 by (arms same k)))
        (ap (λ (b : Bool). if b then Some e.1.stamp else last_armed cell (marks_by by es)) (both_true (e.1.cell == cell) (is_arm e.1.deed) (eq-eqb e.1.cell cell same) t)
        ∙ sym (ap (λ (b : Bool). if b then Some e.1.stamp else last_of (of_cell cell es)) t)))
        (λ f. passed (no_arm f) ∙ sym (ap (λ (b : Bool). if b then Some e.1.stamp else last_of (of_cell cell es)) f))

-- the owner knows it
pub last_is : (each by cell : ℕ) (log : List Entry) → AreByOwners each log → cell / each ≡ by → last_armed cell (marks_by by log) ≡ last_of (of_cell cell log)
last_is each by cell [] o own = refl
last_is each by cell (e ∷ es) o own = one_more each by cell e es o own (last_is each by cell es o.1 own)

abbrev first_or : Mark → List Mark → Mark
first_or d [] = d
first_or d (m ∷ ms) = m

cancels_it : (cell armed : ℕ) (m : Mark) → m.cell ≡ cell → m.armed ≡ armed → m.deed ≡ Cancel → cancels cell armed m ≡ true
cancels_it cell armed m c a k = both_true (m.cell == cell) _ (eq-eqb m.cell cell c) (both_true (m.armed == armed) _ (eq-eqb m.armed armed a) (ap is_cancel k))

any_later : (q : Mark → Bool) (b : Bool) (m : Mark) (ms : List Mark) → list_any q ms ≡ true → list_any q (if b then m ∷ ms else ms) ≡ true
any_later q true m ms h = or_right (q m) _ h
any_later q false m ms h = h

one_cancel : (each by cell : ℕ) (e : Entry) (es : List Entry) (n : Mark) (ns : List Mark) → AreByOwners each (e ∷ es) → cell / each ≡ by → of_cell cell (e ∷ es) ≡ n ∷ ns → n.deed ≡ Cancel
    → (of_cell cell es ≡ n ∷ ns → list_any (cancels cell n.armed) (marks_by by es) ≡ true) → list_any (cancels cell n.armed) (marks_by by (e ∷ es)) ≡ true
one_cancel each by cell e es n ns o own is k rest = dite (ℕ_discrete e.1.cell cell)
    (λ same. let head : e.1 ≡ n = ap (first_or n) (sym (here e es cell same) ∙ is) in
    let its : e.1.deed ≡ Cancel = ap (λ (m : Mark). m.deed) head ∙ k in
    let made : e.0 ≡ by = sym (o.0 (λ w. let x : true ≡ false = sym (ap is_cancel its) ∙ ap is_cancel w in cc)) ∙ ap (λ (c : ℕ). c / each) same ∙ own in
    subst (λ ms. list_any (cancels cell n.armed) ms ≡ true) (sym (mine e es by made)) (or_left (cancels cell n.armed e.1) _ (cancels_it cell n.armed e.1 same (ap (λ (m : Mark). m.armed) head) its)))
    (λ other. any_later (cancels cell n.armed) (e.0 == by) e.1 (marks_by by es) (rest (sym (away e es cell other) ∙ is)))

-- the owner made each cancellation of the cell
any_cancel : (each by cell : ℕ) (log : List Entry) (n : Mark) (ns : List Mark) → AreByOwners each log → cell / each ≡ by → of_cell cell log ≡ n ∷ ns → n.deed ≡ Cancel
    → list_any (cancels cell n.armed) (marks_by by log) ≡ true
any_cancel each by cell [] n ns o own is k = absurd (nil-ne-cons is)
any_cancel each by cell (e ∷ es) n ns o own is k = one_cancel each by cell e es n ns o own is k (λ i. any_cancel each by cell es n ns o.1 own i k)

woken_by : (each by cell armed : ℕ) (log : List Entry) → AreByOwners each log → cell / each ≡ by → (h : List Mark) → of_cell cell log ≡ h → IsHistory h → last_of h ≡ Some armed
    → list_any (cancels cell armed) (marks_by by log) ≡ false → word_of h ≢ 4 * armed + 1 → SaysWoken armed (word_of h)
woken_by each by cell armed log o own [] is legal last kept ne = absurd (none-ne-some last)
woken_by each by cell armed log o own (n ∷ ns) is legal last kept ne = ⊎_elim
    (λ k. let s : n.stamp ≡ armed = some_is (sym (ap (λ (b : Bool). if b then Some n.stamp else last_of ns) (ap is_arm k.0)) ∙ last) in
    let c : code_of n.deed ≡ 1 = k.1 in absurd (ne (omega arith)))
    (⊎_elim
    (λ k. let d = decided n ns armed legal.0 (λ a. let x : Arm ≡ Wake = sym a ∙ k.0 in cc) (ap is_arm k.0) last in
    let c : code_of n.deed ≡ 2 = k.1 in let lt : armed < n.stamp = d.1 in (n.stamp, lt, omega arith))
    (λ k. let d = decided n ns armed legal.0 (λ a. let x : Arm ≡ Cancel = sym a ∙ k.0 in cc) (ap is_arm k.0) last in
    let t : true ≡ false = sym (any_cancel each by cell log n ns o own is k.0) ∙ subst (λ (a : ℕ). list_any (cancels cell a) (marks_by by log) ≡ false) (sym d.0) kept in cc))
    (deed_cases n.deed)
  where
    decided : (m : Mark) (ms : List Mark) (a : ℕ) → Follows m ms → m.deed ≢ Arm → is_arm m.deed ≡ false → last_of (m ∷ ms) ≡ Some a → (m.armed ≡ a) × (a < m.stamp)
    decided m [] a f no_arm t l = absurd (no_arm f.0)
    decided m (p ∷ ps) a f no_arm t l = ⊎_elim (λ b. absurd (no_arm b.0))
        (λ d. let s : p.stamp ≡ a = some_is (sym (ap (λ (b : Bool). if b then Some p.stamp else last_of ps) (ap is_arm d.1))
        ∙ sym (ap (λ (b : Bool). if b then Some m.stamp else last_of (p ∷ ps)) t) ∙ l) in
        let e : m.armed ≡ p.stamp = d.2 in let lt : p.stamp < m.stamp = d.3 in (e ∙ s, omega arith))
        f

-- a wait that is its cell's last, and that its owner hasn't cancelled, was woken where the cell's word isn't that of its arm
pub woken : (each by cell armed : ℕ) (log : List Entry) (t : SeatLog) → AreByOwners each log → cell / each ≡ by → marks_by by log ≡ t.marks → IsHistory (of_cell cell log)
    → IsLast t cell armed → word_of (of_cell cell log) ≢ 4 * armed + 1 → SaysWoken armed (word_of (of_cell cell log))
woken each by cell armed log t o own made legal last ne = woken_by each by cell armed log o own (of_cell cell log) refl legal
    (sym (last_is each by cell log o own) ∙ ap (last_armed cell) made ∙ last.0)
    (ap (λ (ms : List Mark). list_any (cancels cell armed) ms) made ∙ last.1)
    ne
