-- Parts that fit together do so with one line more. Each fact of lists holds of the longer list, since the new end goes on where the list had come to; and what
-- was marked stays marked.
use Rattle.std.proofs.Common.{◌≡◌, ℕ, ◌<◌, ◌≤◌, ◌⊎◌, inl, inr, ⊎_elim, Bool, true, false, ◌&&◌, ◌==◌, List, [], ◌∷◌, ◌++◌, length, Option, Some, None, refl, sym, ap, ◌∙◌, subst, append-nil, append_assoc, eqb-true, eq-eqb}
use Rattle.eio_value.specs.declared.message.Message.{Message}
use Rattle.eio_value.specs.declared.message.Waiter.{Waiter}
use Rattle.spec_parts.specs.ResumeWords.{Decision, Woken, Cancelled, Mark, Arms, Decides, Continues, IsHistory}
use Rattle.spec_parts.specs.Row.{Row}
use Rattle.spec_machine.specs.Labels.{Label, Inner, Called, Struck, Mocked, Took}
use Rattle.spec_machine.specs.ObjectHistories.{Made, Entry, calls_in, call_on, calls_on, calls_of, entry_step, row_after, IsObjectHistory, skipped_waits}
use Rattle.spec_machine.specs.PartsOfRuns.{IsLog, OwnWait, OwnWaits, DecidedWait, decided_by, IsIn, IsMarked, IsMarkedBelow, IsFair, AllFair, AllCancelled, SkipsCancelled, IsDecidedBy, sent_to, sends, taken, takes, Parts, Fit}
use Rattle.spec_machine.specs.Runs.{Letter, Noted, domain_of, stamp_of, stamps_below}
use Rattle.spec_machine.specs.Shared.{row_at}
use Rattle.law_history.specs.Legal.LongerParts.{Added, longer, last_line, last_entry, last_mark, standing_after, only_where, GoesOnFrom, PartsExtend}
use Rattle.law_history.proofs.Legal.Rows.{by_test}

-- ## Longer lists

log_longer : (d stamp : ℕ) (xs : List Noted) (x : Noted) → IsLog d stamp xs → domain_of x ≡ d → last_line stamp xs < stamp_of x → stamp_of x < stamps_below → IsLog d stamp (xs ++ x ∷ [])
log_longer d stamp [] x l e h b = (e, h, b, tt)
log_longer d stamp (y ∷ ys) x l e h b = (l.0, l.1, l.2, log_longer d (stamp_of y) ys x l.3 e h b)

waits_longer : (owner : ℕ → ℕ) (d stamp : ℕ) (xs : List Noted) (x : Noted) → OwnWaits owner d stamp xs → OwnWait owner d (last_line stamp xs) (stamp_of x) x.label → OwnWaits owner d stamp (xs ++ x ∷ [])
waits_longer owner d stamp [] x o h = (h, tt)
waits_longer owner d stamp (y ∷ ys) x o h = (o.0, waits_longer owner d (stamp_of y) ys x o.1 h)

history_longer : (row : Row) (stamp : ℕ) (es fs : List Entry) → IsObjectHistory row stamp es → IsObjectHistory (row_after row es) (last_entry stamp es) fs → IsObjectHistory row stamp (es ++ fs)
history_longer row stamp [] fs l h = h
history_longer row stamp (k ∷ ks) fs l h = (l.0, history_longer (entry_step row k).row k.made.stamp ks fs l.1 h)

marks_longer : (standing : Option ℕ) (last : ℕ) (ms ns : List Mark) → Continues standing last ms → Continues (standing_after standing ms) (last_mark last ms) ns → Continues standing last (ms ++ ns)
marks_longer standing last [] ns c h = h
marks_longer standing last (Arms armed maker ∷ ms) ns c h = (c.0, marks_longer (Some armed) armed ms ns c.1 h)
marks_longer None last (Decides decision armed stamp maker ∷ ms) ns c h = absurd c
marks_longer (Some n) last (Decides decision armed stamp maker ∷ ms) ns c h = (c.0, c.1, marks_longer None stamp ms ns c.2 h)

calls_in_longer : (es fs : List Entry) → calls_in (es ++ fs) ≡ calls_in es ++ calls_in fs
calls_in_longer [] fs = refl
calls_in_longer (k ∷ ks) fs = ap (λ (l : List Made). k.made ∷ l) (calls_in_longer ks fs)

calls_of_longer : (d : ℕ) (ms ns : List Made) → calls_of d (ms ++ ns) ≡ calls_of d ms ++ calls_of d ns
calls_of_longer d [] ns = refl
calls_of_longer d (m ∷ ms) ns = go (m.domain == d) (calls_of_longer d ms ns)
  where
    with_first : Bool → List Made → List Made
    with_first b l = elim b [ true ↦ m ∷ l | false ↦ l ]

    go : (b : Bool) → calls_of d (ms ++ ns) ≡ calls_of d ms ++ calls_of d ns → with_first b (calls_of d (ms ++ ns)) ≡ with_first b (calls_of d ms) ++ calls_of d ns
    go true h = ap (λ (l : List Made). m ∷ l) h
    go false h = h

call_before : (object : ℕ) (x : Noted) (label : Label) (rest more : List Made) → call_on object x label (rest ++ more) ≡ call_on object x label rest ++ more
call_before object x Inner rest more = refl
call_before object x (Struck who won) rest more = refl
call_before object x (Mocked asked it texts) rest more = refl
call_before object x (Took m) rest more = refl
call_before object x (Called asked it mine) rest more =
    let n : Made = record { domain = domain_of x; stamp = stamp_of x; asked = asked; answer = it; mine = mine; away = x.away } in
    by_test (λ b. elim b [ true ↦ n ∷ (rest ++ more) | false ↦ rest ++ more ] ≡ elim b [ true ↦ n ∷ rest | false ↦ rest ] ++ more) (asked.object == object) (λ e. refl) (λ e. refl)

calls_on_longer : (object : ℕ) (xs ys : List Noted) → calls_on object (xs ++ ys) ≡ calls_on object xs ++ calls_on object ys
calls_on_longer object [] ys = refl
calls_on_longer object (x ∷ xs) ys = ap (call_on object x x.label) (calls_on_longer object xs ys) ∙ call_before object x x.label (calls_on object xs) (calls_on object ys)

sent_before : (receiver : ℕ) (away : Option Letter) (rest more : List Message) → sent_to receiver away (rest ++ more) ≡ sent_to receiver away rest ++ more
sent_before receiver None rest more = refl
sent_before receiver (Some letter) rest more =
    by_test (λ b. elim b [ true ↦ letter.message ∷ (rest ++ more) | false ↦ rest ++ more ] ≡ elim b [ true ↦ letter.message ∷ rest | false ↦ rest ] ++ more) (letter.receiver == receiver) (λ e. refl) (λ e. refl)

sends_longer : (sender receiver : ℕ) (xs ys : List Noted) → sends sender receiver (xs ++ ys) ≡ sends sender receiver xs ++ sends sender receiver ys
sends_longer sender receiver [] ys = refl
sends_longer sender receiver (x ∷ xs) ys = go (domain_of x == sender) (sends_longer sender receiver xs ys)
  where
    its : Bool → List Message → List Message
    its b rest = elim b [ true ↦ sent_to receiver x.away rest | false ↦ rest ]

    go : (b : Bool) → sends sender receiver (xs ++ ys) ≡ sends sender receiver xs ++ sends sender receiver ys
        → its b (sends sender receiver (xs ++ ys)) ≡ its b (sends sender receiver xs) ++ sends sender receiver ys
    go true h = ap (sent_to receiver x.away) h ∙ sent_before receiver x.away (sends sender receiver xs) (sends sender receiver ys)
    go false h = h

taken_before : (label : Label) (rest more : List Message) → taken label (rest ++ more) ≡ taken label rest ++ more
taken_before Inner rest more = refl
taken_before (Called asked it mine) rest more = refl
taken_before (Struck who won) rest more = refl
taken_before (Mocked asked it texts) rest more = refl
taken_before (Took m) rest more = refl

takes_longer : (receiver sender : ℕ) (xs ys : List Noted) → takes receiver sender (xs ++ ys) ≡ takes receiver sender xs ++ takes receiver sender ys
takes_longer receiver sender [] ys = refl
takes_longer receiver sender (x ∷ xs) ys = go (domain_of x == receiver && x.from == sender) (takes_longer receiver sender xs ys)
  where
    its : Bool → List Message → List Message
    its b rest = elim b [ true ↦ taken x.label rest | false ↦ rest ]

    go : (b : Bool) → takes receiver sender (xs ++ ys) ≡ takes receiver sender xs ++ takes receiver sender ys
        → its b (takes receiver sender (xs ++ ys)) ≡ its b (takes receiver sender xs) ++ takes receiver sender ys
    go true h = ap (taken x.label) h ∙ taken_before x.label (takes receiver sender xs) (takes receiver sender ys)
    go false h = h

-- ## Marks that stay

in_front : (m : Mark) (ms ns : List Mark) → IsIn m ms → IsIn m (ms ++ ns)
in_front m [] ns i = absurd i
in_front m (k ∷ ks) ns i = ⊎_elim (λ (e : k ≡ m). inl e) (λ (j : IsIn m ks). inr (in_front m ks ns j)) i

in_either : (m : Mark) (ms ns : List Mark) → IsIn m (ms ++ ns) → IsIn m ms ⊎ IsIn m ns
in_either m [] ns i = inr i
in_either m (k ∷ ks) ns i = ⊎_elim (λ (e : k ≡ m). inl (inl e)) (λ (j : IsIn m (ks ++ ns)). ⊎_elim (λ (h : IsIn m ks). inl (inr h)) (λ (h : IsIn m ns). inr h) (in_either m ks ns j)) i

decided_front : (xs ys : List Noted) (k : Decision) (c a s : ℕ) → IsDecidedBy xs k c a s → IsDecidedBy (xs ++ ys) k c a s
decided_front [] ys k c a s h = absurd h
decided_front (x ∷ xs) ys k c a s h = ⊎_elim
    (λ (t : (stamp_of x ≡ s) × ((who : Waiter) × (decided_by x.label x.away ≡ Some (record { who = who; decision = k })) × (who.cell ≡ c) × (who.armed ≡ a))). inl t)
    (λ (j : IsDecidedBy xs k c a s). inr (decided_front xs ys k c a s j))
    h

decided_back : (xs ys : List Noted) (k : Decision) (c a s : ℕ) → IsDecidedBy ys k c a s → IsDecidedBy (xs ++ ys) k c a s
decided_back [] ys k c a s h = h
decided_back (x ∷ xs) ys k c a s h = inr (decided_back xs ys k c a s h)

abbrev AreKept : (cells more : ℕ → List Mark) → Type 0
AreKept cells more = (cell : ℕ) (m : Mark) → IsIn m (cells cell) → IsIn m (more cell)

module _ (cells more : ℕ → List Mark) (kept : AreKept cells more) where
  marked_below_stays : (k : Decision) (stamp : ℕ) (who : Waiter) → IsMarkedBelow cells k stamp who → IsMarkedBelow more k stamp who
  marked_below_stays k stamp who h = (h.0, h.1, h.2, kept who.cell (Decides k who.armed h.0 h.1) h.3)

  cancelled_stay : (stamp : ℕ) (waits : List Waiter) → AllCancelled cells stamp waits → AllCancelled more stamp waits
  cancelled_stay stamp [] h = tt
  cancelled_stay stamp (who ∷ others) h = (marked_below_stays Cancelled stamp who h.0, cancelled_stay stamp others h.1)

  skips_longer : (es fs : List Entry) → SkipsCancelled cells es → SkipsCancelled more fs → SkipsCancelled more (es ++ fs)
  skips_longer [] fs h k = k
  skips_longer (e ∷ es) fs h k = (cancelled_stay e.made.stamp (skipped_waits e) h.0, skips_longer es fs h.1 k)

  marked_stays : (stamp d : ℕ) (it : Option DecidedWait) → IsMarked cells stamp d it → IsMarked more stamp d it
  marked_stays stamp d None h = tt
  marked_stays stamp d (Some it) h = kept it.who.cell (Decides it.decision it.who.armed stamp d) h

  fair_stays : (stamp : ℕ) (label : Label) (away : Option Letter) → IsFair cells stamp label away → IsFair more stamp label away
  fair_stays stamp Inner away h = h
  fair_stays stamp (Called asked it mine) away h = h
  fair_stays stamp (Struck who true) away h = h
  fair_stays stamp (Struck who false) away h = (h.0, marked_below_stays Woken stamp who h.1)
  fair_stays stamp (Mocked asked it texts) away h = h
  fair_stays stamp (Took m) away h = h

  fair_longer : (xs ys : List Noted) → AllFair cells xs → AllFair more ys → AllFair more (xs ++ ys)
  fair_longer [] ys h k = k
  fair_longer (x ∷ xs) ys h k =
      (record { marked = marked_stays (stamp_of x) (domain_of x) (decided_by x.label x.away) h.0.marked; fair = fair_stays (stamp_of x) x.label x.away h.0.fair; stamp = h.0.stamp }, fair_longer xs ys h.1 k)

-- ## The longer parts

module _ (p : Parts) (x : Noted) (added : Added) (fit : Fit p) (g : GoesOnFrom p x added) where
  abbrev then : Parts
  then = longer p x added

  kept : AreKept p.cells then.cells
  kept cell m i = by_test (λ b. (added.cell == cell) ≡ b → IsIn m (elim b [ true ↦ p.cells added.cell ++ added.marks | false ↦ p.cells cell ])) (added.cell == cell)
      (λ e k. in_front m (p.cells added.cell) added.marks (subst (λ (n : ℕ). IsIn m (p.cells n)) (sym (eqb-true added.cell cell k)) i))
      (λ e k. i)
      refl

  entry_calls : (object d : ℕ) → calls_of d (calls_in (then.entries object)) ≡ calls_of d (calls_in (p.entries object)) ++ only_where (added.object == object) (calls_of d (calls_in added.entries))
  entry_calls object d = by_test
      (λ b. (added.object == object) ≡ b → calls_of d (calls_in (elim b [ true ↦ p.entries added.object ++ added.entries | false ↦ p.entries object ])) ≡ calls_of d (calls_in (p.entries object)) ++ only_where b (calls_of d (calls_in added.entries)))
      (added.object == object)
      (λ e k. ap (calls_of d) (calls_in_longer (p.entries added.object) added.entries) ∙ calls_of_longer d (calls_in (p.entries added.object)) (calls_in added.entries)
      ∙ ap (λ (n : ℕ). calls_of d (calls_in (p.entries n)) ++ calls_of d (calls_in added.entries)) (eqb-true added.object object k))
      (λ e k. sym (append-nil (calls_of d (calls_in (p.entries object)))))
      refl

  line_calls : (object d : ℕ) → calls_on object (then.logs d) ≡ calls_on object (p.logs d) ++ only_where (domain_of x == d) (calls_on object (x ∷ []))
  line_calls object d = by_test
      (λ b. (domain_of x == d) ≡ b → calls_on object (elim b [ true ↦ p.logs (domain_of x) ++ x ∷ [] | false ↦ p.logs d ]) ≡ calls_on object (p.logs d) ++ only_where b (calls_on object (x ∷ [])))
      (domain_of x == d)
      (λ e k. calls_on_longer object (p.logs (domain_of x)) (x ∷ []) ∙ ap (λ (n : ℕ). calls_on object (p.logs n) ++ calls_on object (x ∷ [])) (eqb-true (domain_of x) d k))
      (λ e k. sym (append-nil (calls_on object (p.logs d))))
      refl

  sends_then : (receiver sender : ℕ) → sends sender receiver (then.logs sender) ≡ sends sender receiver (p.logs sender) ++ sends sender receiver (x ∷ [])
  sends_then receiver sender = by_test
      (λ b. (domain_of x == sender) ≡ b → sends sender receiver (elim b [ true ↦ p.logs (domain_of x) ++ x ∷ [] | false ↦ p.logs sender ]) ≡ sends sender receiver (p.logs sender) ++ elim b [ true ↦ sent_to receiver x.away [] | false ↦ [] ])
      (domain_of x == sender)
      (λ e k. sends_longer sender receiver (p.logs (domain_of x)) (x ∷ [])
      ∙ ap (λ (b : Bool). sends sender receiver (p.logs (domain_of x)) ++ elim b [ true ↦ sent_to receiver x.away [] | false ↦ [] ]) k
      ∙ ap (λ (n : ℕ). sends sender receiver (p.logs n) ++ sent_to receiver x.away []) (eqb-true (domain_of x) sender k))
      (λ e k. sym (append-nil (sends sender receiver (p.logs sender))))
      refl

  takes_then : (receiver sender : ℕ) → takes receiver sender (then.logs receiver) ≡ takes receiver sender (p.logs receiver) ++ takes receiver sender (x ∷ [])
  takes_then receiver sender = by_test
      (λ b. (domain_of x == receiver) ≡ b
      → takes receiver sender (elim b [ true ↦ p.logs (domain_of x) ++ x ∷ [] | false ↦ p.logs receiver ]) ≡ takes receiver sender (p.logs receiver) ++ elim (b && x.from == sender) [ true ↦ taken x.label [] | false ↦ [] ])
      (domain_of x == receiver)
      (λ e k. takes_longer receiver sender (p.logs (domain_of x)) (x ∷ [])
      ∙ ap (λ (b : Bool). takes receiver sender (p.logs (domain_of x)) ++ elim (b && x.from == sender) [ true ↦ taken x.label [] | false ↦ [] ]) k
      ∙ ap (λ (n : ℕ). takes receiver sender (p.logs n) ++ elim (true && x.from == sender) [ true ↦ taken x.label [] | false ↦ [] ]) (eqb-true (domain_of x) receiver k))
      (λ e k. sym (append-nil (takes receiver sender (p.logs receiver))))
      refl

  posts_then : (receiver sender : ℕ) → sends sender receiver (then.logs sender) ≡ takes receiver sender (then.logs receiver) ++ added.left receiver sender
  posts_then receiver sender =
      sends_then receiver sender
      ∙ ap (λ (l : List Message). l ++ sends sender receiver (x ∷ [])) (fit.posts receiver sender)
      ∙ append_assoc (takes receiver sender (p.logs receiver)) (p.left receiver sender) (sends sender receiver (x ∷ []))
      ∙ ap (λ (l : List Message). takes receiver sender (p.logs receiver) ++ l) (g.posts receiver sender)
      ∙ sym (append_assoc (takes receiver sender (p.logs receiver)) (takes receiver sender (x ∷ [])) (added.left receiver sender))
      ∙ ap (λ (l : List Message). l ++ added.left receiver sender) (sym (takes_then receiver sender))

  none_then : (object : ℕ) → length p.declared ≤ object → then.entries object ≡ []
  none_then object h = by_test (λ b. (added.object == object) ≡ b → elim b [ true ↦ p.entries added.object ++ added.entries | false ↦ p.entries object ] ≡ []) (added.object == object)
      (λ e k.
      let past : length p.declared ≤ added.object = subst (λ (n : ℕ). length p.declared ≤ n) (sym (eqb-true added.object object k)) h in
      ap (λ (es : List Entry). es ++ added.entries) (fit.none added.object past) ∙ g.declared past)
      (λ e k. fit.none object h)
      refl

  decided_then : (cell : ℕ) (k : Decision) (a s maker : ℕ) → IsIn (Decides k a s maker) (p.cells cell) → IsDecidedBy (then.logs maker) k cell a s
  decided_then cell k a s maker i = by_test (λ b. (domain_of x == maker) ≡ b → IsDecidedBy (elim b [ true ↦ p.logs (domain_of x) ++ x ∷ [] | false ↦ p.logs maker ]) k cell a s) (domain_of x == maker)
      (λ e t. decided_front (p.logs (domain_of x)) (x ∷ []) k cell a s (subst (λ (n : ℕ). IsDecidedBy (p.logs n) k cell a s) (sym (eqb-true (domain_of x) maker t)) (fit.decisions cell k a s maker i)))
      (λ e t. fit.decisions cell k a s maker i)
      refl

  decided_now : (k : Decision) (a s maker : ℕ) → IsIn (Decides k a s maker) added.marks → IsDecidedBy (then.logs maker) k added.cell a s
  decided_now k a s maker i =
      let t : (maker ≡ domain_of x) × IsDecidedBy (x ∷ []) k added.cell a s = g.decisions k a s maker i in
      subst (λ (n : ℕ). IsDecidedBy (then.logs n) k added.cell a s) (sym t.0)
      (subst (λ (b : Bool). IsDecidedBy (elim b [ true ↦ p.logs (domain_of x) ++ x ∷ [] | false ↦ p.logs (domain_of x) ]) k added.cell a s) (sym (eq-eqb (domain_of x) (domain_of x) refl))
      (decided_back (p.logs (domain_of x)) (x ∷ []) k added.cell a s t.1))

  fits : Fit then
  fits = record {
    logs = λ d. by_test (λ b. (domain_of x == d) ≡ b → IsLog d 0 (elim b [ true ↦ p.logs (domain_of x) ++ x ∷ [] | false ↦ p.logs d ])) (domain_of x == d)
        (λ e k. subst (λ (n : ℕ). IsLog n 0 (p.logs (domain_of x) ++ x ∷ [])) (eqb-true (domain_of x) d k) (log_longer (domain_of x) 0 (p.logs (domain_of x)) x (fit.logs (domain_of x)) refl g.later g.below))
        (λ e k. fit.logs d)
        refl;
    waits = λ d. by_test (λ b. (domain_of x == d) ≡ b → OwnWaits p.owner d 0 (elim b [ true ↦ p.logs (domain_of x) ++ x ∷ [] | false ↦ p.logs d ])) (domain_of x == d)
        (λ e k. subst (λ (n : ℕ). OwnWaits p.owner n 0 (p.logs (domain_of x) ++ x ∷ [])) (eqb-true (domain_of x) d k) (waits_longer p.owner (domain_of x) 0 (p.logs (domain_of x)) x (fit.waits (domain_of x)) g.waits))
        (λ e k. fit.waits d)
        refl;
    calls = λ object d. entry_calls object d
        ∙ ap (λ (l : List Made). l ++ only_where (added.object == object) (calls_of d (calls_in added.entries))) (fit.calls object d)
        ∙ ap (λ (l : List Made). calls_on object (p.logs d) ++ l) (g.calls object d) ∙ sym (line_calls object d);
    histories = λ object. by_test (λ b. (added.object == object) ≡ b → IsObjectHistory (row_at p.declared object) 0 (elim b [ true ↦ p.entries added.object ++ added.entries | false ↦ p.entries object ])) (added.object == object)
        (λ e k. subst (λ (n : ℕ). IsObjectHistory (row_at p.declared n) 0 (p.entries added.object ++ added.entries)) (eqb-true added.object object k)
        (history_longer (row_at p.declared added.object) 0 (p.entries added.object) added.entries (fit.histories added.object) g.history))
        (λ e k. fit.histories object)
        refl;
    skips = λ object. by_test (λ b. SkipsCancelled then.cells (elim b [ true ↦ p.entries added.object ++ added.entries | false ↦ p.entries object ])) (added.object == object)
        (λ e. skips_longer p.cells then.cells kept (p.entries added.object) added.entries (fit.skips added.object) g.skips)
        (λ e. subst (SkipsCancelled then.cells) (append-nil (p.entries object)) (skips_longer p.cells then.cells kept (p.entries object) [] (fit.skips object) tt));
    none = none_then;
    cells = λ cell. by_test (λ b. IsHistory (elim b [ true ↦ p.cells added.cell ++ added.marks | false ↦ p.cells cell ])) (added.cell == cell)
        (λ e. marks_longer None 0 (p.cells added.cell) added.marks (fit.cells added.cell) g.marks)
        (λ e. fit.cells cell);
    fair = λ d. by_test (λ b. AllFair then.cells (elim b [ true ↦ p.logs (domain_of x) ++ x ∷ [] | false ↦ p.logs d ])) (domain_of x == d)
        (λ e. fair_longer p.cells then.cells kept (p.logs (domain_of x)) (x ∷ []) (fit.fair (domain_of x)) (g.fair, tt))
        (λ e. subst (AllFair then.cells) (append-nil (p.logs d)) (fair_longer p.cells then.cells kept (p.logs d) [] (fit.fair d) tt));
    decisions = λ cell k a s maker i. by_test
        (λ b. (added.cell == cell) ≡ b → IsIn (Decides k a s maker) (elim b [ true ↦ p.cells added.cell ++ added.marks | false ↦ p.cells cell ]) → IsDecidedBy (then.logs maker) k cell a s)
        (added.cell == cell)
        (λ e t j. subst (λ (n : ℕ). IsDecidedBy (then.logs maker) k n a s) (eqb-true added.cell cell t)
        (⊎_elim (λ (u : IsIn (Decides k a s maker) (p.cells added.cell)). decided_then added.cell k a s maker u) (λ (u : IsIn (Decides k a s maker) added.marks). decided_now k a s maker u) (in_either (Decides k a s maker) (p.cells added.cell) added.marks j)))
        (λ e t j. decided_then cell k a s maker j)
        refl i;
    posts = posts_then;
  }

pub parts_extend : PartsExtend
parts_extend p x added fit g = fits p x added fit g
