-- A seat that knows its cell's last wait decided, below a stamp, may begin a wait with that stamp.
use Rattle.std.proofs.Common.{◌≡◌, ◌≢◌, ℕ, ◌*◌, ◌/◌, ◌<◌, ◌≤◌, ◌⊎◌, Bool, true, false, not, ◌&&◌, List, [], ◌∷◌, ◌==◌, refl, sym, ap, ◌∙◌, subst, inl, inr, ⊎_elim, arith, eq-eqb, Option, Some, None}
use Rattle.std.specs.Prelude.{nat_le, nat_lt, if◌then◌else◌}
use Rattle.std.specs.List.{list_any}
use Rattle.std.proofs.lemmas.Bool.{leb-true, ltb-true}
use mathlib.Core.Logic.{dite}
use native.Mathlib.Decide.{ℕ_discrete}
use Rattle.resume_cells.specs.declared.view.Deed.{Deed}
use Rattle.resume_cells.specs.declared.view.Deed.TheVariants.{Arm, Wake, Cancel}
use Rattle.resume_cells.specs.declared.view.Mark.{Mark}
use Rattle.resume_cells.specs.declared.view.Found.{Found}
use Rattle.resume_cells.specs.declared.view.SeatLog.{SeatLog}
use Rattle.resume_cells.specs.Marks.{code_of, Entry, word, WasWord, Follows, IsHistory, IsDecision, of_cell, marks_by, AreByOwners, AllWere}
use Rattle.resume_cells.specs.Known.{waiting, is_arm, decides, tells_decided, knows, knows_below, last_armed, CanArm}
use Rattle.resume_cells.specs.Views.{arm_of}
use Rattle.resume_cells.proofs.Cases.{or_true, or_left, or_right, or_false, and_true, and_left, equal_if}
use Rattle.resume_cells.proofs.Marks.{here, away, older, below_stamp}
use Rattle.resume_cells.proofs.Fresh.{fresh, Undecided, too_old, not_decides}
use Rattle.resume_cells.proofs.Lasts.{last_of, last_is}

abbrev below : (cell armed stamp : ℕ) → Mark → Bool
below cell armed stamp m = decides cell armed m && nat_lt m.stamp stamp

abbrev told_below : (cell armed stamp : ℕ) → Found → Bool
told_below cell armed stamp f = tells_decided cell armed f && nat_lt (f.word / 4) stamp

less : {A : Type 0} (p q : A → Bool) → ((a : A) → p a ≡ true → q a ≡ true) → (l : List A) → list_any p l ≡ true → list_any q l ≡ true
less p q h [] e = e
less p q h (x ∷ xs) e = ⊎_elim (λ a. or_left (q x) _ (h x a)) (λ b. or_right (q x) _ (less p q h xs b)) (or_true (p x) _ e)

-- what is known below a stamp is known
known : (t : SeatLog) (cell armed stamp : ℕ) → knows_below t cell armed stamp ≡ true → knows t cell armed ≡ true
known t cell armed stamp e = ⊎_elim
    (λ a. or_left (list_any (tells_decided cell armed) t.finds) _ (less (told_below cell armed stamp) (tells_decided cell armed) (λ f b. (and_true (tells_decided cell armed f) _ b).0) t.finds a))
    (λ a. or_right (list_any (tells_decided cell armed) t.finds) _ (less (below cell armed stamp) (decides cell armed) (λ m b. (and_true (decides cell armed m) _ b).0) t.marks a))
    (or_true (list_any (told_below cell armed stamp) t.finds) _ e)

any_drops : (q : Mark → Bool) (b : Bool) (m : Mark) (ms : List Mark) → list_any q (if b then m ∷ ms else ms) ≡ true → (q m ≡ true) ⊎ (list_any q ms ≡ true)
any_drops q true m ms h = or_true (q m) _ h
any_drops q false m ms h = inr h

-- a mark of the cell that a seat made stands in the cell's history
any_there : (q : Mark → Bool) (cell by : ℕ) → ((m : Mark) → q m ≡ true → m.cell ≡ cell) → (log : List Entry) → list_any q (marks_by by log) ≡ true → list_any q (of_cell cell log) ≡ true
any_there q cell by c [] h = h
any_there q cell by c (e ∷ es) h = ⊎_elim
    (λ a. subst (λ ms. list_any q ms ≡ true) (sym (here e es cell (c e.1 a))) (or_left (q e.1) _ a))
    (λ b. let rest = any_there q cell by c es b in dite (ℕ_discrete e.1.cell cell)
    (λ same. subst (λ ms. list_any q ms ≡ true) (sym (here e es cell same)) (or_right (q e.1) _ rest))
    (λ other. subst (λ ms. list_any q ms ≡ true) (sym (away e es cell other)) rest))
    (any_drops q (e.0 == by) e.1 (marks_by by es) h)

none_below : (cell armed stamp : ℕ) (ms : List Mark) → Undecided armed ms → list_any (below cell armed stamp) ms ≡ false
none_below cell armed stamp [] u = refl
none_below cell armed stamp (m ∷ ms) u = or_false (below cell armed stamp m) _ (and_left (decides cell armed m) _ (not_decides cell armed m (λ _. u.0))) (none_below cell armed stamp ms u.1)

older_undecided : (p : Mark) (ps : List Mark) → IsHistory (p ∷ ps) → Undecided p.stamp ps
older_undecided p [] h = tt
older_undecided p (m ∷ ms) h = too_old p.stamp m ms h.1 (below_stamp p m ms h.0)

any_found : (q : Found → Bool) (log : List Entry) (fs : List Found) → AllWere log fs → list_any q fs ≡ true → (f : Found) × (q f ≡ true) × WasWord f.word (of_cell f.cell log)
any_found q log [] a e = absurd (let x : false ≡ true = e in cc)
any_found q log (f ∷ fs) a e = ⊎_elim (λ (h : q f ≡ true). (f, h, a.0)) (λ h. any_found q log fs a.1 h) (or_true (q f) _ e)

-- the decision that is known is that of the history
decided_below : (log : List Entry) (by cell stamp : ℕ) (t : SeatLog) (n p : Mark) (ps : List Mark) → marks_by by log ≡ t.marks → AllWere log t.finds → of_cell cell log ≡ n ∷ p ∷ ps
    → IsHistory (n ∷ p ∷ ps) → p.deed ≡ Arm → knows_below t cell p.stamp stamp ≡ true → n.stamp < stamp
decided_below log by cell stamp t n p ps made stood is h k e = ⊎_elim
    (λ a. let f = any_found (told_below cell p.stamp stamp) log t.finds stood a in
    let told = and_true (tells_decided cell p.stamp f.0) _ f.1 in
    let one = and_true (f.0.cell == cell) _ told.0 in
    let two = and_true (nat_le p.stamp (f.0.word / 4)) _ one.1 in
    let le : p.stamp ≤ f.0.word / 4 = leb-true p.stamp (f.0.word / 4) two.0 in
    let lt : f.0.word / 4 < stamp = ltb-true (f.0.word / 4) stamp told.1 in
    let c : code_of p.deed ≡ 1 = ap code_of k in
    let ne : f.0.word ≢ waiting p.stamp = λ s. let x : false ≡ true = sym (ap not (eq-eqb f.0.word (waiting p.stamp) s)) ∙ two.1 in cc in
    ⊎_elim
    (λ (w : f.0.word ≡ word n). let r = codes n.deed in let r1 = r.0 in let r2 = r.1 in omega arith)
    (λ v. ⊎_elim (λ (w : f.0.word ≡ word p). absurd (ne (omega arith))) (λ u. let o : f.0.word < 4 * p.stamp = older p ps f.0.word h.1 u in absurd (omega arith)) v)
    (subst (WasWord f.0.word) is (subst (λ (x : ℕ). WasWord f.0.word (of_cell x log)) (equal_if f.0.cell cell one.0) f.2)))
    (λ a. let q : Mark → Bool = below cell p.stamp stamp in
    let there = any_there (below cell p.stamp stamp) cell by (λ m b. equal_if m.cell cell (and_true (m.cell == cell) _ (and_true (decides cell p.stamp m) _ b).0).0) log
    (subst (λ ms. list_any (below cell p.stamp stamp) ms ≡ true) (sym made) a) in
    ⊎_elim (λ b. ltb-true n.stamp stamp (and_true (decides cell p.stamp n) _ b).1)
    (λ b. absurd (let x : false ≡ true = sym (or_false (below cell p.stamp stamp p) _
    (and_left (decides cell p.stamp p) _ (not_decides cell p.stamp p (λ _ f. absurd (let y : true ≡ false = sym (ap is_arm k) ∙ f in cc))))
    (none_below cell p.stamp stamp ps (older_undecided p ps h.1))) ∙ b in cc))
    (or_true (below cell p.stamp stamp n) _ (subst (λ ms. list_any (below cell p.stamp stamp) ms ≡ true) is there)))
    (or_true (list_any (told_below cell p.stamp stamp) t.finds) _ e)
  where
    codes : (d : Deed) → (1 ≤ code_of d) × (code_of d ≤ 3)
    codes Arm = (omega arith, omega arith)
    codes Wake = (omega arith, omega arith)
    codes Cancel = (omega arith, omega arith)

abbrev Arms : SeatLog → ℕ → ℕ → Option ℕ → Type 0
Arms t cell stamp last = elim last [ None ↦ 0 < stamp | Some armed ↦ knows_below t cell armed stamp ≡ true ]

arms : (log : List Entry) (by cell stamp : ℕ) (t : SeatLog) → marks_by by log ≡ t.marks → AllWere log t.finds → (h : List Mark) → of_cell cell log ≡ h → IsHistory h
    → Arms t cell stamp (last_of h) → Follows (arm_of cell stamp) h
arms log by cell stamp t made stood [] is h can = (refl, can)
arms log by cell stamp t made stood (n ∷ []) is h can =
    let c : knows_below t cell n.stamp stamp ≡ true = subst (Arms t cell stamp) (ap (λ (b : Bool). if b then Some n.stamp else None) (ap is_arm h.0.0)) can in
    absurd (let x : false ≡ true = sym (fresh log by t cell n.stamp n [] made stood is h h.0.0 refl) ∙ known t cell n.stamp stamp c in cc)
arms log by cell stamp t made stood (n ∷ p ∷ ps) is h can = ⊎_elim
    (λ a. let c : knows_below t cell n.stamp stamp ≡ true = subst (Arms t cell stamp) (ap (λ (b : Bool). if b then Some n.stamp else last_of (p ∷ ps)) (ap is_arm a.0)) can in
    absurd (let x : false ≡ true = sym (fresh log by t cell n.stamp n (p ∷ ps) made stood is h a.0 refl) ∙ known t cell n.stamp stamp c in cc))
    (λ d. let c : knows_below t cell p.stamp stamp ≡ true = subst (Arms t cell stamp)
    (ap (λ (b : Bool). if b then Some n.stamp else last_of (p ∷ ps)) (decision_arms n d.0) ∙ ap (λ (b : Bool). if b then Some p.stamp else last_of ps) (ap is_arm d.1)) can in
    inl (refl, d.0, decided_below log by cell stamp t n p ps made stood is h d.1 c))
    h.0
  where
    decision_arms : (m : Mark) → IsDecision m → is_arm m.deed ≡ false
    decision_arms m d = ⊎_elim (λ w. ap is_arm w) (λ c. ap is_arm c) d

pub arm_follows : (each by cell stamp : ℕ) (log : List Entry) (t : SeatLog) → AreByOwners each log → cell / each ≡ by → marks_by by log ≡ t.marks → AllWere log t.finds
    → IsHistory (of_cell cell log) → CanArm t cell stamp → Follows (arm_of cell stamp) (of_cell cell log)
arm_follows each by cell stamp log t o own made stood legal can = arms log by cell stamp t made stood (of_cell cell log) refl legal
    (subst (Arms t cell stamp) (ap (last_armed cell) (sym made) ∙ last_is each by cell log o own) can)
