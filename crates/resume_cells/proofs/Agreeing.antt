-- The marks of a cell in the log, the newest first, and its history as `spec_parts` defines it, the oldest first, are legal alike and show one word.
use Rattle.std.proofs.Common.{◌≡◌, ℕ, ◌<◌, ◌⊎◌, Bool, true, false, List, [], ◌∷◌, ◌++◌, refl, sym, ap, ◌∙◌, subst, inl, inr, ⊎_elim, Option, Some, None, append_assoc, append-nil, ◌==◌}
use Rattle.std.specs.Prelude.{if◌then◌else◌}
use Rattle.spec_parts.specs.ResumeWords as words
use Rattle.spec_parts.specs.ResumeWords.{Arms, Decides}
use Rattle.resume_cells.specs.declared.view.Deed.{Deed}
use Rattle.resume_cells.specs.declared.view.Deed.TheVariants.{Arm, Wake, Cancel}
use Rattle.resume_cells.specs.declared.view.Mark.{Mark}
use Rattle.resume_cells.specs.declared.view.Found.{Found}
use Rattle.resume_cells.specs.Marks.{Entry, word, word_of, WasWord, Follows, IsHistory, of_cell, AllWere}
use Rattle.resume_cells.specs.Histories.{mark_of, history_of, InTurn, IsDecidedInTurn, Stood, AllStood}

-- after some marks: the wait that stands open, and the last stamp
abbrev pub At : Type 0
At = Option ℕ × ℕ

abbrev pub Fits : At → List words.Mark → Type 0
Fits at marks = words.Continues at.0 at.1 marks × InTurn at.0 marks

abbrev pub after_one : words.Mark → At
after_one (Arms armed maker) = (Some armed, armed)
after_one (Decides decision armed stamp maker) = (None, stamp)

abbrev pub after : At → List words.Mark → At
after at [] = at
after at (m ∷ ms) = after (after_one m) ms

-- one mark behind the others fits where it fits what they leave
behind : (standing : Option ℕ) (last : ℕ) (ms : List words.Mark) (m : words.Mark) → Fits (standing, last) ms → Fits (after (standing, last) ms) (m ∷ []) → Fits (standing, last) (ms ++ m ∷ [])
behind standing last [] m h f = f
behind None last (Arms armed maker ∷ ms) m h f = let t = behind (Some armed) armed ms m (h.0.1, h.1) f in ((h.0.0, t.0), t.1)
behind (Some other) last (Arms armed maker ∷ ms) m h f = absurd h.1
behind None last (Decides decision armed stamp maker ∷ ms) m h f = absurd h.0
behind (Some other) last (Decides decision armed stamp maker ∷ ms) m h f = let t = behind None stamp ms m (h.0.2, h.1) f in ((h.0.0, h.0.1, t.0), t.1)

before : (standing : Option ℕ) (last : ℕ) (ms : List words.Mark) (m : words.Mark) → Fits (standing, last) (ms ++ m ∷ []) → Fits (standing, last) ms × Fits (after (standing, last) ms) (m ∷ [])
before standing last [] m h = ((tt, tt), h)
before None last (Arms armed maker ∷ ms) m h = let t = before (Some armed) armed ms m (h.0.1, h.1) in (((h.0.0, t.0.0), t.0.1), t.1)
before (Some other) last (Arms armed maker ∷ ms) m h = absurd h.1
before None last (Decides decision armed stamp maker ∷ ms) m h = absurd h.0
before (Some other) last (Decides decision armed stamp maker ∷ ms) m h = let t = before None stamp ms m (h.0.2, h.1) in (((h.0.0, h.0.1, t.0.0), t.0.1), t.1)

after_last : (at : At) (ms : List words.Mark) (m : words.Mark) → after at (ms ++ m ∷ []) ≡ after_one m
after_last at [] m = refl
after_last at (x ∷ xs) m = after_last (after_one x) xs m

-- what the newest mark of a cell leaves
abbrev left_by : List Mark → At
left_by [] = (None, 0)
left_by (m ∷ ms) = after_one (mark_of (0, m))

maker_apart : (e : Entry) → after_one (mark_of e) ≡ after_one (mark_of (0, e.1))
maker_apart e = go e.1.deed
  where
    go : (d : Deed) → after_one (mark_of (e.0, record e.1 { deed = d })) ≡ after_one (mark_of (0, record e.1 { deed = d }))
    go Arm = refl
    go Wake = refl
    go Cancel = refl

fits_alike : (by : ℕ) (m : Mark) (ms : List Mark) → Follows m ms → Fits (left_by ms) (mark_of (by, m) ∷ [])
fits_alike by m [] f = subst (λ d. Fits (None, 0) (mark_of (by, record m { deed = d }) ∷ [])) (sym f.0) ((f.1, tt), tt)
fits_alike by m (n ∷ ns) f = ⊎_elim
    (λ a. subst (λ d. Fits (left_by (n ∷ ns)) (mark_of (by, record m { deed = d }) ∷ [])) (sym a.0)
    (⊎_elim (λ w. subst (λ d. Fits (left_by (record n { deed = d } ∷ ns)) (Arms m.stamp by ∷ [])) (sym w) ((a.2, tt), tt))
    (λ c. subst (λ d. Fits (left_by (record n { deed = d } ∷ ns)) (Arms m.stamp by ∷ [])) (sym c) ((a.2, tt), tt))
    a.1))
    (λ d. ⊎_elim
    (λ w. subst (λ x. Fits (left_by (record n { deed = x } ∷ ns)) (mark_of (by, m) ∷ [])) (sym d.1)
    (subst (λ x. Fits (Some n.stamp, n.stamp) (mark_of (by, record m { deed = x }) ∷ [])) (sym w) ((d.2, d.3, tt), tt)))
    (λ c. subst (λ x. Fits (left_by (record n { deed = x } ∷ ns)) (mark_of (by, m) ∷ [])) (sym d.1)
    (subst (λ x. Fits (Some n.stamp, n.stamp) (mark_of (by, record m { deed = x }) ∷ [])) (sym c) ((d.2, d.3, tt), tt)))
    d.0)
    f

-- by what the mark does, and what the one before it does
follows_alike : (by : ℕ) (m : Mark) (ms : List Mark) → Fits (left_by ms) (mark_of (by, m) ∷ []) → Follows m ms
follows_alike by m [] f = go m.deed refl f
  where
    go : (d : Deed) → m.deed ≡ d → Fits (None, 0) (mark_of (by, record m { deed = d }) ∷ []) → (m.deed ≡ Arm) × (0 < m.stamp)
    go Arm e g = (e, g.0.0)
    go Wake e g = absurd g.0
    go Cancel e g = absurd g.0
follows_alike by m (n ∷ ns) f = go m.deed n.deed refl refl f
  where
    go : (d c : Deed) → m.deed ≡ d → n.deed ≡ c → Fits (left_by (record n { deed = c } ∷ ns)) (mark_of (by, record m { deed = d }) ∷ [])
        → ((m.deed ≡ Arm) × ((n.deed ≡ Wake) ⊎ (n.deed ≡ Cancel)) × (n.stamp < m.stamp)) ⊎ (((m.deed ≡ Wake) ⊎ (m.deed ≡ Cancel)) × (n.deed ≡ Arm) × (m.armed ≡ n.stamp) × (n.stamp < m.stamp))
    go Arm Arm e b g = absurd g.1
    go Arm Wake e b g = inl (e, inl b, g.0.0)
    go Arm Cancel e b g = inl (e, inr b, g.0.0)
    go Wake Arm e b g = inr (inl e, b, g.0.0, g.0.1)
    go Wake Wake e b g = absurd g.0
    go Wake Cancel e b g = absurd g.0
    go Cancel Arm e b g = inr (inr e, b, g.0.0, g.0.1)
    go Cancel Wake e b g = absurd g.0
    go Cancel Cancel e b g = absurd g.0

left_is : (cell : ℕ) (log : List Entry) → after (None, 0) (history_of cell log) ≡ left_by (of_cell cell log)
left_is cell [] = refl
left_is cell (e ∷ es) = go (e.1.cell == cell) (left_is cell es)
  where
    go : (b : Bool) → after (None, 0) (history_of cell es) ≡ left_by (of_cell cell es)
        → after (None, 0) (if b then history_of cell es ++ mark_of e ∷ [] else history_of cell es) ≡ left_by (if b then e.1 ∷ of_cell cell es else of_cell cell es)
    go true h = after_last (None, 0) (history_of cell es) (mark_of e) ∙ maker_apart e
    go false h = h

pub to_history : (cell : ℕ) (log : List Entry) → IsHistory (of_cell cell log) → IsDecidedInTurn (history_of cell log)
to_history cell [] h = (tt, tt)
to_history cell (e ∷ es) h = go (e.1.cell == cell) h (to_history cell es)
  where
    go : (b : Bool) → IsHistory (if b then e.1 ∷ of_cell cell es else of_cell cell es) → (IsHistory (of_cell cell es) → IsDecidedInTurn (history_of cell es))
        → IsDecidedInTurn (if b then history_of cell es ++ mark_of e ∷ [] else history_of cell es)
    go true g rest = behind None 0 (history_of cell es) (mark_of e) (rest g.1) (subst (λ (at : At). Fits at (mark_of e ∷ [])) (sym (left_is cell es)) (fits_alike e.0 e.1 (of_cell cell es) g.0))
    go false g rest = rest g

pub from_history : (cell : ℕ) (log : List Entry) → IsDecidedInTurn (history_of cell log) → IsHistory (of_cell cell log)
from_history cell [] h = tt
from_history cell (e ∷ es) h = go (e.1.cell == cell) h (from_history cell es)
  where
    go : (b : Bool) → IsDecidedInTurn (if b then history_of cell es ++ mark_of e ∷ [] else history_of cell es) → (IsDecidedInTurn (history_of cell es) → IsHistory (of_cell cell es))
        → IsHistory (if b then e.1 ∷ of_cell cell es else of_cell cell es)
    go true g rest = let t = before None 0 (history_of cell es) (mark_of e) g in
        (follows_alike e.0 e.1 (of_cell cell es) (subst (λ (at : At). Fits at (mark_of e ∷ [])) (left_is cell es) t.1), rest t.0)
    go false g rest = rest g

last_word : (word : ℕ) (ms : List words.Mark) (m : words.Mark) → words.word_after word (ms ++ m ∷ []) ≡ words.marked_word m
last_word word [] m = refl
last_word word (x ∷ xs) m = last_word (words.marked_word x) xs m

mark_word : (e : Entry) → words.marked_word (mark_of e) ≡ word e.1
mark_word e = go e.1.deed
  where
    go : (d : Deed) → words.marked_word (mark_of (e.0, record e.1 { deed = d })) ≡ word (record e.1 { deed = d })
    go Arm = refl
    go Wake = refl
    go Cancel = refl

pub words_alike : (cell : ℕ) (log : List Entry) → words.word_of (history_of cell log) ≡ word_of (of_cell cell log)
words_alike cell [] = refl
words_alike cell (e ∷ es) = go (e.1.cell == cell) (words_alike cell es)
  where
    go : (b : Bool) → words.word_of (history_of cell es) ≡ word_of (of_cell cell es)
        → words.word_of (if b then history_of cell es ++ mark_of e ∷ [] else history_of cell es) ≡ word_of (if b then e.1 ∷ of_cell cell es else of_cell cell es)
    go true h = last_word 0 (history_of cell es) (mark_of e) ∙ mark_word e
    go false h = h

stood_longer : (n : ℕ) (history : List words.Mark) (m : words.Mark) → Stood n history → Stood n (history ++ m ∷ [])
stood_longer n history m s = (s.0, s.1 ++ m ∷ [], ap (λ (l : List words.Mark). l ++ m ∷ []) s.2 ∙ append_assoc s.0 s.1 (m ∷ []), s.3)

-- a word that stood is that of the history up to then
pub stood_alike : (cell n : ℕ) (log : List Entry) → WasWord n (of_cell cell log) → Stood n (history_of cell log)
stood_alike cell n [] w = ([], [], refl, sym w)
stood_alike cell n (e ∷ es) w = go (e.1.cell == cell) w (stood_alike cell n es)
  where
    go : (b : Bool) → WasWord n (if b then e.1 ∷ of_cell cell es else of_cell cell es) → (WasWord n (of_cell cell es) → Stood n (history_of cell es))
        → Stood n (if b then history_of cell es ++ mark_of e ∷ [] else history_of cell es)
    go true g rest = ⊎_elim
        (λ (s : n ≡ word e.1). (history_of cell es ++ mark_of e ∷ [], [], sym (append-nil (history_of cell es ++ mark_of e ∷ [])), last_word 0 (history_of cell es) (mark_of e) ∙ mark_word e ∙ sym s))
        (λ v. stood_longer n (history_of cell es) (mark_of e) (rest v))
        g
    go false g rest = rest g

pub all_stood : (log : List Entry) (fs : List Found) → AllWere log fs → AllStood log fs
all_stood log [] a = tt
all_stood log (f ∷ fs) a = (stood_alike f.cell f.word log a.0, all_stood log fs a.1)
