-- Once the cells are closed: what the histories say of the seats.
use Rattle.std.proofs.Common.{◌≡◌, ◌≢◌, ℕ, zero, suc, ◌+◌, ◌*◌, ◌/◌, ◌<◌, ◌≤◌, ◌⊎◌, Bool, true, false, not, List, [], ◌∷◌, ◌++◌, ◌==◌, length, refl, sym, ap, ◌∙◌, subst, inl, inr, ⊎_elim, arith, eq-eqb, ne_eqb, ◌-◌}
use Rattle.std.specs.Prelude.{nat_le, Contains, slice_index_or, if◌then◌else◌}
use Rattle.std.proofs.lemmas.Bool.{leb-true}
use Rattle.std.proofs.lemmas.Nat.{div-mul-add}
use Rattle.std.proofs.Math.Nat.{div-mul-le_self, lt-div-mul-add}
use mathlib.Core.Logic.{dite}
use native.Mathlib.Decide.{ℕ_discrete}
use Rattle.spec_parts.specs.ResumeWords as words
use Rattle.spec_parts.specs.ResumeWords.{Arms, Decides, Woken, Cancelled}
use Rattle.resume_cells.specs.declared.view.Deed.{Deed}
use Rattle.resume_cells.specs.declared.view.Deed.TheVariants.{Arm, Wake, Cancel}
use Rattle.resume_cells.specs.declared.view.Mark.{Mark}
use Rattle.resume_cells.specs.declared.view.Found.{Found}
use Rattle.resume_cells.specs.Marks.{Entry, marks_by, IsDecision}
use Rattle.resume_cells.specs.Known.{waiting, is_arm, decides}
use Rattle.resume_cells.specs.Histories.{mark_of, history_of, Stood, AllStood, IsDecidedInTurn, told_by}
use Rattle.resume_cells.specs.Laws.{decisions_of, Begins, OneWinner, FoundIsDecided, RulesAgree, CellsLieTogether}
use Rattle.resume_cells.proofs.Cases.{and_true, equal_if, both_true, bool_cases}
use Rattle.resume_cells.proofs.Marks.{mine, not_mine}
use Rattle.resume_cells.proofs.Agreeing.{to_history, from_history, words_alike}
use Rattle.resume_cells.proofs.Winners.{decided_once, found_stays}

-- a member of a list
module _ {A : Type 0} where
  abbrev In : A → List A → Type 0
  In y [] = ⊥
  In y (x ∷ xs) = (x ≡ y) ⊎ In y xs

  is_in : (xs : List A) (y : A) → Contains xs y → In y xs
  is_in [] y c = absurd (let lt = c.1 in omega arith)
  is_in (x ∷ xs) y c = go c.0 c.1 c.2 (λ d. is_in xs y d)
    where
      go : (k : ℕ) → k < length (x ∷ xs) → slice_index_or (x ∷ xs) k y ≡ y → (Contains xs y → In y xs) → (x ≡ y) ⊎ In y xs
      go zero lt e rest = inl e
      go (suc k) lt e rest = inr (rest (k, omega arith, e))

  contains : (xs : List A) (y : A) → In y xs → Contains xs y
  contains [] y i = absurd i
  contains (x ∷ xs) y i = go i (λ j. contains xs y j)
    where
      go : (x ≡ y) ⊎ In y xs → (In y xs → Contains xs y) → Contains (x ∷ xs) y
      go (inl e) rest = (0, omega arith, e)
      go (inr j) rest = let c = rest j in (suc c.0, (let lt = c.1 in omega arith), c.2)

  in_left : (xs ys : List A) (y : A) → In y xs → In y (xs ++ ys)
  in_left [] ys y i = absurd i
  in_left (x ∷ xs) ys y i = ⊎_elim inl (λ j. inr (in_left xs ys y j)) i

  in_right : (xs ys : List A) (y : A) → In y ys → In y (xs ++ ys)
  in_right [] ys y i = i
  in_right (x ∷ xs) ys y i = inr (in_right xs ys y i)

  in_either : (xs ys : List A) (y : A) → In y (xs ++ ys) → In y xs ⊎ In y ys
  in_either [] ys y i = inr i
  in_either (x ∷ xs) ys y i = ⊎_elim (λ e. inl (inl e)) (λ j. ⊎_elim (λ k. inl (inr k)) inr (in_either xs ys y j)) i

  -- two members of a list of one are one
  one_of : (xs : List A) (a b : A) → length xs ≤ 1 → In a xs → In b xs → a ≡ b
  one_of [] a b le i j = absurd i
  one_of (x ∷ []) a b le i j = ⊎_elim (λ e. ⊎_elim (λ f. sym e ∙ f) (λ n. absurd n) j) (λ n. absurd n) i
  one_of (x ∷ y ∷ ys) a b le i j = absurd (omega arith)

decisions_both : (armed : ℕ) (ms ns : List words.Mark) → decisions_of armed (ms ++ ns) ≡ decisions_of armed ms ++ decisions_of armed ns
decisions_both armed [] ns = refl
decisions_both armed (Arms other maker ∷ ms) ns = decisions_both armed ms ns
decisions_both armed (Decides d other stamp maker ∷ ms) ns = go (other == armed) (decisions_both armed ms ns)
  where
    go : (b : Bool) → decisions_of armed (ms ++ ns) ≡ decisions_of armed ms ++ decisions_of armed ns
        → (if b then Decides d other stamp maker ∷ decisions_of armed (ms ++ ns) else decisions_of armed (ms ++ ns)) ≡ (if b then Decides d other stamp maker ∷ decisions_of armed ms else decisions_of armed ms) ++ decisions_of armed ns
    go true e = ap (λ (l : List words.Mark). Decides d other stamp maker ∷ l) e
    go false e = e

-- in the history of a cell a newer entry comes last, if it is one of that cell
module _ (e : Entry) (es : List Entry) where
  comes_last : (cell : ℕ) → e.1.cell ≡ cell → history_of cell (e ∷ es) ≡ history_of cell es ++ mark_of e ∷ []
  comes_last cell same = ap (λ (b : Bool). if b then history_of cell es ++ mark_of e ∷ [] else history_of cell es) (eq-eqb e.1.cell cell same)

  of_another : (cell : ℕ) → e.1.cell ≢ cell → history_of cell (e ∷ es) ≡ history_of cell es
  of_another cell other = ap (λ (b : Bool). if b then history_of cell es ++ mark_of e ∷ [] else history_of cell es) (ne_eqb e.1.cell cell other)

  -- what lies in each history that goes on with one more mark, or stays
  kept : (P : List words.Mark → Type 0) (cell : ℕ) → ((m : words.Mark) → P (history_of cell es) → P (history_of cell es ++ m ∷ [])) → P (history_of cell es) → P (history_of cell (e ∷ es))
  kept P cell more p = dite (ℕ_discrete e.1.cell cell) (λ same. subst P (sym (comes_last cell same)) (more (mark_of e) p)) (λ other. subst P (sym (of_another cell other)) p)

-- the mark of an entry decides the wait that the entry names
decides_own : (e : Entry) (armed : ℕ) → IsDecision e.1 → e.1.armed ≡ armed → decisions_of armed (mark_of e ∷ []) ≡ mark_of e ∷ []
decides_own e armed d is = by e.1.deed (λ a. ⊎_elim (λ w. let x : true ≡ false = sym (ap is_arm a) ∙ ap is_arm w in cc) (λ c. let x : true ≡ false = sym (ap is_arm a) ∙ ap is_arm c in cc) d)
  where
    same : (e.1.armed == armed) ≡ true
    same = eq-eqb e.1.armed armed is

    by : (deed : Deed) → deed ≢ Arm → decisions_of armed (mark_of (e.0, record e.1 { deed = deed }) ∷ []) ≡ mark_of (e.0, record e.1 { deed = deed }) ∷ []
    by Arm ne = absurd (ne refl)
    by Wake ne = ap (λ (b : Bool). if b then Decides Woken e.1.armed e.1.stamp e.0 ∷ [] else []) same
    by Cancel ne = ap (λ (b : Bool). if b then Decides Cancelled e.1.armed e.1.stamp e.0 ∷ [] else []) same

in_decisions : (by : ℕ) (log : List Entry) (m : Mark) → In m (marks_by by log) → IsDecision m → In (mark_of (by, m)) (decisions_of m.armed (history_of m.cell log))
in_decisions by [] m i d = absurd i
in_decisions by (e ∷ es) m i d = dite (ℕ_discrete e.0 by)
    (λ made. ⊎_elim
    (λ (is : e.1 ≡ m). subst (λ (l : List words.Mark). In (mark_of (by, m)) (decisions_of m.armed l)) (sym (comes_last e es m.cell (ap (λ (x : Mark). x.cell) is)))
    (subst (In (mark_of (by, m))) (sym (decisions_both m.armed (history_of m.cell es) (mark_of e ∷ [])))
    (in_right (decisions_of m.armed (history_of m.cell es)) (decisions_of m.armed (mark_of e ∷ [])) (mark_of (by, m))
    (subst (In (mark_of (by, m))) (sym (decides_own e m.armed (subst IsDecision (sym is) d) (ap (λ (x : Mark). x.armed) is))) (inl (λ j. mark_of (made j, is j)))))))
    (λ later. more (in_decisions by es m later d))
    (subst (In m) (mine e es by made) i))
    (λ other. more (in_decisions by es m (subst (In m) (not_mine e es by other) i) d))
  where
    more : In (mark_of (by, m)) (decisions_of m.armed (history_of m.cell es)) → In (mark_of (by, m)) (decisions_of m.armed (history_of m.cell (e ∷ es)))
    more j = kept e es (λ l. In (mark_of (by, m)) (decisions_of m.armed l)) m.cell
        (λ x k. subst (In (mark_of (by, m))) (sym (decisions_both m.armed (history_of m.cell es) (x ∷ []))) (in_left (decisions_of m.armed (history_of m.cell es)) (decisions_of m.armed (x ∷ [])) (mark_of (by, m)) k)) j

abbrev maker_of : words.Mark → ℕ
maker_of (Arms armed maker) = maker
maker_of (Decides d armed stamp maker) = maker

abbrev stamp_of : words.Mark → ℕ
stamp_of (Arms armed maker) = armed
stamp_of (Decides d armed stamp maker) = stamp

abbrev wakes : words.Mark → Bool
wakes (Arms armed maker) = false
wakes (Decides Woken armed stamp maker) = true
wakes (Decides Cancelled armed stamp maker) = false

-- what a mark of the history says of its entry
says : (e : Entry) (deed : Deed) → (maker_of (mark_of (e.0, record e.1 { deed = deed })) ≡ e.0) × (stamp_of (mark_of (e.0, record e.1 { deed = deed })) ≡ e.1.stamp)
says e Arm = (refl, refl)
says e Wake = (refl, refl)
says e Cancel = (refl, refl)

same_deed : (n k : ℕ) (m p : Mark) → IsDecision m → IsDecision p → mark_of (n, m) ≡ mark_of (k, p) → m.deed ≡ p.deed
same_deed n k m p dm dp e = ⊎_elim
    (λ (a : m.deed ≡ Wake). ⊎_elim (λ (b : p.deed ≡ Wake). a ∙ sym b)
    (λ (b : p.deed ≡ Cancel). absurd (let x : true ≡ false = sym (wakes_if n m a) ∙ ap wakes e ∙ cancels_if k p b in cc)) dp)
    (λ (a : m.deed ≡ Cancel). ⊎_elim (λ (b : p.deed ≡ Wake). absurd (let x : false ≡ true = sym (cancels_if n m a) ∙ ap wakes e ∙ wakes_if k p b in cc))
    (λ (b : p.deed ≡ Cancel). a ∙ sym b) dp)
    dm
  where
    wakes_if : (by : ℕ) (x : Mark) → x.deed ≡ Wake → wakes (mark_of (by, x)) ≡ true
    wakes_if by x a = ap (λ (d : Deed). wakes (mark_of (by, record x { deed = d }))) a

    cancels_if : (by : ℕ) (x : Mark) → x.deed ≡ Cancel → wakes (mark_of (by, x)) ≡ false
    cancels_if by x a = ap (λ (d : Deed). wakes (mark_of (by, record x { deed = d }))) a

pub one_winner : OneWinner
one_winner each shown seats h n k m p in_m in_p dm dp cell armed =
    let first = in_decisions n h.log m (subst (In m) (sym (h.made n)) (is_in (told_by n seats).marks m in_m)) dm in
    let second = in_decisions k h.log p (subst (In p) (sym (h.made k)) (is_in (told_by k seats).marks p in_p)) dp in
    let other = subst (λ (c : ℕ). In (mark_of (k, p)) (decisions_of m.armed (history_of c h.log))) (sym cell) (subst (λ (a : ℕ). In (mark_of (k, p)) (decisions_of a (history_of p.cell h.log))) (sym armed) second) in
    let one = one_of (decisions_of m.armed (history_of m.cell h.log)) (mark_of (n, m)) (mark_of (k, p)) (decided_once (history_of m.cell h.log) (h.legal m.cell).0 m.armed) first other in
    let deed = same_deed n k m p dm dp one in
    let stamp = sym (says (n, m) m.deed).1 ∙ ap stamp_of one ∙ (says (k, p) p.deed).1 in (
      sym (says (n, m) m.deed).0 ∙ ap maker_of one ∙ (says (k, p) p.deed).0,
      λ i. record { cell = cell i; deed = deed i; armed = armed i; stamp = stamp i },
    )

begins_left : (armed : ℕ) (ms ns : List words.Mark) → Begins armed ms → Begins armed (ms ++ ns)
begins_left armed [] ns b = absurd b
begins_left armed (Arms other maker ∷ ms) ns b = ⊎_elim inl (λ c. inr (begins_left armed ms ns c)) b
begins_left armed (Decides d other stamp maker ∷ ms) ns b = begins_left armed ms ns b

begins_right : (armed : ℕ) (ms ns : List words.Mark) → Begins armed ns → Begins armed (ms ++ ns)
begins_right armed [] ns b = b
begins_right armed (Arms other maker ∷ ms) ns b = inr (begins_right armed ms ns b)
begins_right armed (Decides d other stamp maker ∷ ms) ns b = begins_right armed ms ns b

-- a wait that a seat began begins in the history
begins_there : (by : ℕ) (log : List Entry) (m : Mark) → In m (marks_by by log) → m.deed ≡ Arm → Begins m.stamp (history_of m.cell log)
begins_there by [] m i a = absurd i
begins_there by (e ∷ es) m i a = dite (ℕ_discrete e.0 by)
    (λ made. ⊎_elim
    (λ (is : e.1 ≡ m). subst (Begins m.stamp) (sym (comes_last e es m.cell (ap (λ (x : Mark). x.cell) is)))
    (begins_right m.stamp (history_of m.cell es) (mark_of e ∷ []) (subst (λ (x : Mark). Begins m.stamp (mark_of (e.0, x) ∷ [])) (sym is) (subst (λ (d : Deed). Begins m.stamp (mark_of (e.0, record m { deed = d }) ∷ [])) (sym a) (inl refl)))))
    (λ later. more (begins_there by es m later a))
    (subst (In m) (mine e es by made) i))
    (λ other. more (begins_there by es m (subst (In m) (not_mine e es by other) i) a))
  where
    more : Begins m.stamp (history_of m.cell es) → Begins m.stamp (history_of m.cell (e ∷ es))
    more j = kept e es (Begins m.stamp) m.cell (λ x k. begins_left m.stamp (history_of m.cell es) (x ∷ []) k) j

-- a mark that decides the wait, made by this seat with this stamp
abbrev Made : (cell armed by stamp : ℕ) → List Entry → Type 0
Made cell armed by stamp log = (m : Mark) × In m (marks_by by log) × (decides cell armed m ≡ true) × (m.stamp ≡ stamp)

made_now : (e : Entry) (es : List Entry) (cell armed : ℕ) (x : words.Mark) → e.1.cell ≡ cell → In x (decisions_of armed (mark_of e ∷ [])) → Made cell armed (maker_of x) (stamp_of x) (e ∷ es)
made_now e es cell armed x same i = go e.1.deed refl i
  where
    decided : (deed : Deed) → e.1.deed ≡ deed → is_arm deed ≡ false → e.1.armed ≡ armed → decides cell armed e.1 ≡ true
    decided deed k f a = both_true (e.1.cell == cell) _ (eq-eqb e.1.cell cell same) (both_true (e.1.armed == armed) _ (eq-eqb e.1.armed armed a) (ap (λ (d : Deed). not (is_arm d)) k ∙ ap not f))

    found : (deed : Deed) (d : words.Decision) → e.1.deed ≡ deed → is_arm deed ≡ false → In x (if e.1.armed == armed then Decides d e.1.armed e.1.stamp e.0 ∷ [] else []) → Made cell armed (maker_of x) (stamp_of x) (e ∷ es)
    found deed d k f j = bool_cases _ (e.1.armed == armed)
        (λ t. let is : Decides d e.1.armed e.1.stamp e.0 ≡ x = ⊎_elim (λ q. q) (λ n. absurd n) (subst (λ (b : Bool). In x (if b then Decides d e.1.armed e.1.stamp e.0 ∷ [] else [])) t j) in
        (e.1, subst (In e.1) (sym (mine e es (maker_of x) (ap maker_of is))) (inl refl), decided deed k f (equal_if e.1.armed armed t), ap stamp_of is))
        (λ t. absurd (subst (λ (b : Bool). In x (if b then Decides d e.1.armed e.1.stamp e.0 ∷ [] else [])) t j))

    go : (deed : Deed) → e.1.deed ≡ deed → In x (decisions_of armed (mark_of (e.0, record e.1 { deed = deed }) ∷ [])) → Made cell armed (maker_of x) (stamp_of x) (e ∷ es)
    go Arm k j = absurd j
    go Wake k j = found Wake Woken k refl j
    go Cancel k j = found Cancel Cancelled k refl j

-- a decision of the history was made by the seat that it names
made_by : (cell armed : ℕ) (log : List Entry) (x : words.Mark) → In x (decisions_of armed (history_of cell log)) → Made cell armed (maker_of x) (stamp_of x) log
made_by cell armed [] x i = absurd i
made_by cell armed (e ∷ es) x i = dite (ℕ_discrete e.1.cell cell)
    (λ same. ⊎_elim (λ j. earlier (made_by cell armed es x j)) (made_now e es cell armed x same)
    (in_either (decisions_of armed (history_of cell es)) (decisions_of armed (mark_of e ∷ [])) x
    (subst (In x) (decisions_both armed (history_of cell es) (mark_of e ∷ [])) (subst (λ (l : List words.Mark). In x (decisions_of armed l)) (comes_last e es cell same) i))))
    (λ other. earlier (made_by cell armed es x (subst (λ (l : List words.Mark). In x (decisions_of armed l)) (of_another e es cell other) i)))
  where
    earlier : Made cell armed (maker_of x) (stamp_of x) es → Made cell armed (maker_of x) (stamp_of x) (e ∷ es)
    earlier t = (t.0, dite (ℕ_discrete e.0 (maker_of x)) (λ h. subst (In t.0) (sym (mine e es (maker_of x) h)) (inr t.1)) (λ n. subst (In t.0) (sym (not_mine e es (maker_of x) n)) t.1), t.2, t.3)

stood_at : (log : List Entry) (fs : List Found) (f : Found) → AllStood log fs → In f fs → Stood f.word (history_of f.cell log)
stood_at log [] f a i = absurd i
stood_at log (x ∷ xs) f a i = ⊎_elim (λ e. subst (λ (y : Found). Stood y.word (history_of y.cell log)) e a.0) (λ j. stood_at log xs f a.1 j) i

pub found_is_decided : FoundIsDecided
found_is_decided each shown seats h n k f a in_f in_a arm cell told =
    let s = stood_at h.log (told_by n seats).finds f (h.stood n) (is_in (told_by n seats).finds f in_f) in
    let history = history_of f.cell h.log in
    let tests = and_true (f.cell == f.cell) _ told in
    let two = and_true (nat_le a.stamp (f.word / 4)) _ tests.1 in
    let le : a.stamp ≤ f.word / 4 = leb-true a.stamp (f.word / 4) two.0 in
    let ne : f.word ≢ waiting a.stamp = λ e. let x : false ≡ true = sym (ap not (eq-eqb f.word (waiting a.stamp) e)) ∙ two.1 in cc in
    let begun = subst (λ (c : ℕ). Begins a.stamp (history_of c h.log)) cell (begins_there k h.log a (subst (In a) (sym (h.made k)) (is_in (told_by k seats).marks a in_a)) arm) in
    let i = (found_stays s.0 s.1 (subst IsDecidedInTurn s.2 (h.legal f.cell)) a.stamp (subst (λ (w : ℕ). a.stamp ≤ w / 4) (sym s.3) le) (λ e. ne (sym s.3 ∙ e)) (subst (Begins a.stamp) s.2 begun)).0 in
    let x = Decides i.decision a.stamp i.stamp i.maker in
    let there = subst (λ (l : List words.Mark). In x (decisions_of a.stamp l)) (sym s.2)
    (subst (In x) (sym (decisions_both a.stamp s.0 s.1)) (in_left (decisions_of a.stamp s.0) (decisions_of a.stamp s.1) x (subst (In x) (sym i.one) (inl refl)))) in
    let t = made_by f.cell a.stamp h.log x there in record {
      by = i.maker;
      mark = t.0;
      its = contains (told_by i.maker seats).marks t.0 (subst (In t.0) (h.made i.maker) t.1);
      decides = t.2;
      at_most = subst (λ (w : ℕ). t.0.stamp ≤ w / 4) s.3 (subst (λ (y : ℕ). y ≤ words.word_of s.0 / 4) (sym t.3) i.at_most);
    }

pub rules_agree : RulesAgree
rules_agree cell log = ((to_history cell log, from_history cell log), sym (words_alike cell log))

pub cells_lie_together : CellsLieTogether
cells_lie_together each number cell some_each = (
  λ e. subst (λ (n : ℕ). (n * each ≤ cell) × (cell < n * each + each)) e (div-mul-le_self cell each, lt-div-mul-add some_each),
  λ t. let first : ℕ = number * each in let le : first ≤ cell = t.0 in let lt : cell < first + each = t.1 in
      ap (λ (n : ℕ). n / each) (let e : cell ≡ first + (cell - first) = omega arith in e) ∙ div-mul-add number each (cell - first) (omega arith),
)
