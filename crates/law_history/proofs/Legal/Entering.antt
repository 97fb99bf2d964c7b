-- A wait is decided after the call that entered it.
-- A strike that decides it is of the same domain, and comes above the armed stamp. A call that decides it has found it in its object, where an earlier call had
-- entered it; and two lines of a log that enter one wait are one line, since its armed stamp lies between the line's own stamp and all earlier ones of the log.
use Rattle.std.proofs.Common.{◌≡◌, ℕ, ◌<◌, ◌≤◌, inl, inr, ⊎_elim, Bool, true, false, not, List, [], ◌∷◌, Option, Some, None, refl, sym, ap, ◌∙◌, subst, arith}
use Rattle.eio_value.specs.declared.call.Answer.{Answer}
use Rattle.eio_value.specs.declared.call.Answer.TheVariants as answer
use Rattle.eio_value.specs.declared.message.Message.{Message}
use Rattle.eio_value.specs.declared.message.Waiter.{Waiter}
use Rattle.spec_parts.specs.Objects.{does}
use Rattle.spec_parts.specs.ResumeWords.{Decision, Cancelled, Decides}
use Rattle.spec_parts.specs.Row.{Row, Does}
use Rattle.spec_machine.specs.Labels.{Label, Inner, Called, Struck, Mocked, Took}
use Rattle.spec_machine.specs.ObjectHistories.{Made, Entry, calls_in, calls_on, entry_step, less, is_among, skipped_waits, IsObjectHistory}
use Rattle.spec_machine.specs.PartsOfRuns.{IsLog, OwnWait, OwnWaits, DecidedWait, decided_by, woken_by, resumed, sent_away, first_of, IsIn, IsDecidedBy, Parts, Fit, IsDeclared}
use Rattle.spec_machine.specs.Runs.{Letter, Noted, domain_of, stamp_of, away_of}
use Rattle.spec_machine.specs.Shared.{Asked, row_at}
use Rattle.law_history.proofs.Legal.Coming.{woken_in, resumed_is}
use Rattle.law_history.proofs.Legal.Fates.{Fate}
use Rattle.law_history.proofs.Legal.LinesOfCalls.{IsLine, IsCall, made_by, HasLine, line_of_call, call_of_line, call_of_domain, call_of_all}
use Rattle.law_history.proofs.Legal.Marks.{fate_in, decided_above_arm, fate_is_decision}
use Rattle.law_history.proofs.Legal.Waiting.{AllWaiting, waiting_only, waiting_weaker, step_wakes, step_waiting}

-- ## Lines of a log

own_weaker : (owner : ℕ → ℕ) (d l last stamp : ℕ) (label : Label) → l ≤ last → OwnWait owner d last stamp label → OwnWait owner d l stamp label
own_weaker owner d l last stamp Inner le h = tt
own_weaker owner d l last stamp (Called asked it mine) le h =
    λ e. let t : (last < asked.who.armed) × (asked.who.armed < stamp) × (owner asked.who.cell ≡ d) = h e in let k : last < asked.who.armed = t.0 in (omega arith, t.1, t.2)
own_weaker owner d l last stamp (Struck who won) le h = h
own_weaker owner d l last stamp (Mocked asked it texts) le h = tt
own_weaker owner d l last stamp (Took m) le h = tt

abbrev IsOwnLine : (owner : ℕ → ℕ) → (domain last : ℕ) → Noted → Type 0
IsOwnLine owner d last x = (domain_of x ≡ d) × (last < stamp_of x) × OwnWait owner d last (stamp_of x) x.label

own_line : (owner : ℕ → ℕ) (d last : ℕ) (xs : List Noted) (x : Noted) → IsLog d last xs → OwnWaits owner d last xs → IsLine x xs → IsOwnLine owner d last x
own_line owner d last [] x l w i = absurd i
own_line owner d last (y ∷ ys) x l w i = ⊎_elim
    (λ (q : y ≡ x). subst (IsOwnLine owner d last) q (l.0, l.1, w.0))
    (λ (j : IsLine x ys).
    let k : IsOwnLine owner d (stamp_of y) x = own_line owner d (stamp_of y) ys x l.3 w.1 j in
    let a : stamp_of y < stamp_of x = k.1 in
    let b : last < stamp_of y = l.1 in
    (k.0, omega arith, own_weaker owner d last (stamp_of y) (stamp_of x) x.label (omega arith) k.2))
    i

-- a line that enters this wait
record Enters (x : Noted) (who : Waiter) : Type 0 where
  asked : Asked
  mine : Option Message
  label : x.label ≡ Called asked answer.Waits mine
  cell_is : asked.who.cell ≡ who.cell
  armed_is : asked.who.armed ≡ who.armed

entered_own : (owner : ℕ → ℕ) (d last : ℕ) (x : Noted) (who : Waiter) → OwnWait owner d last (stamp_of x) x.label → Enters x who → (last < who.armed) × (who.armed < stamp_of x) × (owner who.cell ≡ d)
entered_own owner d last x who h p =
    let k : OwnWait owner d last (stamp_of x) (Called p.asked answer.Waits p.mine) = subst (OwnWait owner d last (stamp_of x)) p.label h in
    let t : (last < p.asked.who.armed) × (p.asked.who.armed < stamp_of x) × (owner p.asked.who.cell ≡ d) = k refl in
    (rw p.armed_is at t.0, rw p.armed_is at t.1, rw p.cell_is at t.2)

-- two lines of a log that enter one wait have one stamp
entered_once : (owner : ℕ → ℕ) (d last : ℕ) (xs : List Noted) (x z : Noted) (who : Waiter) → IsLog d last xs → OwnWaits owner d last xs → IsLine x xs → IsLine z xs → Enters x who → Enters z who → stamp_of x ≡ stamp_of z
entered_once owner d last [] x z who l o i j p q = absurd i
entered_once owner d last (y ∷ ys) x z who l o i j p q = ⊎_elim
    (λ (a : y ≡ x). ⊎_elim
    (λ (b : y ≡ z). ap (λ (u : Noted). stamp_of u) (sym a ∙ b))
    (λ (b : IsLine z ys).
    let k : IsOwnLine owner d (stamp_of y) z = own_line owner d (stamp_of y) ys z l.3 o.1 b in
    let m : stamp_of y < who.armed = (entered_own owner d (stamp_of y) z who k.2 q).0 in
    let n : IsOwnLine owner d last x = subst (IsOwnLine owner d last) a (l.0, l.1, o.0) in
    let r : who.armed < stamp_of x = (entered_own owner d last x who n.2 p).1 in
    let e : stamp_of y ≡ stamp_of x = ap (λ (u : Noted). stamp_of u) a in
    absurd (omega arith))
    j)
    (λ (a : IsLine x ys). ⊎_elim
    (λ (b : y ≡ z).
    let k : IsOwnLine owner d (stamp_of y) x = own_line owner d (stamp_of y) ys x l.3 o.1 a in
    let m : stamp_of y < who.armed = (entered_own owner d (stamp_of y) x who k.2 p).0 in
    let n : IsOwnLine owner d last z = subst (IsOwnLine owner d last) b (l.0, l.1, o.0) in
    let r : who.armed < stamp_of z = (entered_own owner d last z who n.2 q).1 in
    let e : stamp_of y ≡ stamp_of z = ap (λ (u : Noted). stamp_of u) b in
    absurd (omega arith))
    (λ (b : IsLine z ys). entered_once owner d (stamp_of y) ys x z who l.3 o.1 a b p q)
    j)
    i

-- a line with a stamp above the armed one stands behind the line that enters, unless it is that line
after_entering : (owner : ℕ → ℕ) (d last : ℕ) (xs : List Noted) (x z : Noted) (who : Waiter) → IsLog d last xs → OwnWaits owner d last xs → IsLine x xs → IsLine z xs → Enters x who → who.armed < stamp_of z → (x ≡ z → ⊥)
    → stamp_of x < stamp_of z
after_entering owner d last [] x z who l o i j p q never = absurd i
after_entering owner d last (y ∷ ys) x z who l o i j p q never = ⊎_elim
    (λ (a : y ≡ x). ⊎_elim
    (λ (b : y ≡ z). absurd (never (sym a ∙ b)))
    (λ (b : IsLine z ys).
    let k : IsOwnLine owner d (stamp_of y) z = own_line owner d (stamp_of y) ys z l.3 o.1 b in
    let m : stamp_of y < stamp_of z = k.1 in
    let e : stamp_of y ≡ stamp_of x = ap (λ (u : Noted). stamp_of u) a in
    omega arith)
    j)
    (λ (a : IsLine x ys). ⊎_elim
    (λ (b : y ≡ z).
    let k : IsOwnLine owner d (stamp_of y) x = own_line owner d (stamp_of y) ys x l.3 o.1 a in
    let m : stamp_of y < who.armed = (entered_own owner d (stamp_of y) x who k.2 p).0 in
    let e : stamp_of y ≡ stamp_of z = ap (λ (u : Noted). stamp_of u) b in
    absurd (omega arith))
    (λ (b : IsLine z ys). after_entering owner d (stamp_of y) ys x z who l.3 o.1 a b p q never)
    j)
    i

-- ## The line that makes a decision

record Decider (xs : List Noted) (decision : Decision) (cell armed stamp : ℕ) : Type 0 where
  line : Noted
  among : IsLine line xs
  stamp_is : stamp_of line ≡ stamp
  who : Waiter
  decides : decided_by line.label line.away ≡ Some (record { who = who; decision = decision })
  cell_is : who.cell ≡ cell
  armed_is : who.armed ≡ armed

decider : (xs : List Noted) (decision : Decision) (cell armed stamp : ℕ) → IsDecidedBy xs decision cell armed stamp → Decider xs decision cell armed stamp
decider [] decision cell armed stamp h = absurd h
decider (x ∷ xs) decision cell armed stamp h = ⊎_elim
    (λ (t : (stamp_of x ≡ stamp) × ((who : Waiter) × (decided_by x.label x.away ≡ Some (record { who = who; decision = decision })) × (who.cell ≡ cell) × (who.armed ≡ armed))).
    record { line = x; among = inl refl; stamp_is = t.0; who = t.1.0; decides = t.1.1; cell_is = t.1.2; armed_is = t.1.3 })
    (λ (k : IsDecidedBy xs decision cell armed stamp).
    let d : Decider xs decision cell armed stamp = decider xs decision cell armed stamp k in
    record { line = d.line; among = inr d.among; stamp_is = d.stamp_is; who = d.who; decides = d.decides; cell_is = d.cell_is; armed_is = d.armed_is })
    h

woken_is : (o : Option Waiter) (it : DecidedWait) → woken_by o ≡ Some it → o ≡ Some it.who
woken_is None it e = absurd (cc)
woken_is (Some who) it e = ap Some (ap (λ (p : Option DecidedWait). elim p [ None ↦ who | Some t ↦ t.who ]) e)

none_decides : (it : DecidedWait) → ◌≡◌ {A = Option DecidedWait} None (Some it) → ⊥
none_decides it e = cc

-- ## Entered before woken

module _ (p : Parts) (declared : IsDeclared p.declared) (fit : Fit p) where
  -- the wait was entered by a line not above the stamp
  record Came (stamp : ℕ) (who : Waiter) : Type 0 where
    line : Noted
    among : IsLine line (p.logs (p.owner who.cell))
    enters : Enters line who
    below : stamp_of line ≤ stamp

  came_later : (s t : ℕ) → s ≤ t → (who : Waiter) → Came s who → Came t who
  came_later s t le who c = let b : stamp_of c.line ≤ s = c.below in record { line = c.line; among = c.among; enters = c.enters; below = omega arith }

  came_here : (m : Made) → HasLine (p.logs m.domain) m → m.answer ≡ answer.Waits → Came m.stamp m.asked.who
  came_here m h e =
      let k : Enters h.line m.asked.who = record { asked = m.asked; mine = m.mine; label = h.label ∙ ap (λ (it : Answer). Called m.asked it m.mine) e; cell_is = refl; armed_is = refl } in
      let n : IsOwnLine p.owner m.domain 0 h.line = own_line p.owner m.domain 0 (p.logs m.domain) h.line (fit.logs m.domain) (fit.waits m.domain) h.among in
      let o : p.owner m.asked.who.cell ≡ m.domain = (entered_own p.owner m.domain 0 h.line m.asked.who n.2 k).2 in
      record { line = h.line; among = subst (λ (d : ℕ). IsLine h.line (p.logs d)) (sym o) h.among; enters = k; below = (let q : stamp_of h.line ≡ m.stamp = h.stamp in omega arith) }

  record CameBefore (stamp : ℕ) (who : Waiter) : Type 0 where
    before : ℕ
    came : Came before who
    above : before < stamp

  -- whom a call of a history wakes was entered by an earlier call
  woken_came : (row : Row) (stamp : ℕ) (es : List Entry) → IsObjectHistory row stamp es → AllWaiting (Came stamp) row → ((m : Made) → IsCall m (calls_in es) → HasLine (p.logs m.domain) m)
      → (m : Made) → IsCall m (calls_in es) → (who : Waiter) → first_of (resumed m.mine) (resumed (sent_away m.away)) ≡ Some who → CameBefore m.stamp who
  woken_came row stamp [] l q h m i who e = absurd i
  woken_came row stamp (k ∷ ks) l q h m i who e =
      let stays : Waiter → Bool = λ other. not (is_among (skipped_waits k) other) in
      let shorter : Row = less (skipped_waits k) row in
      let came : AllWaiting (Came stamp) shorter = waiting_only (Came stamp) stays row q in
      let le : stamp ≤ k.made.stamp = (let g : stamp < k.made.stamp = l.0.later in omega arith) in
      let came_then : AllWaiting (Came k.made.stamp) shorter = waiting_weaker (Came stamp) (Came k.made.stamp) (came_later stamp k.made.stamp le) shorter came in
      let what : Does = does shorter.values k.made.asked.serial k.made.asked.call in
      ⊎_elim
      (λ (a : k.made ≡ m).
      let r : woken_in (entry_step row k).sent ≡ Some who =
      sym (resumed_is k.made.domain k.made.stamp (entry_step row k).sent)
      ∙ ap (λ (u : Option Message). first_of (resumed u) (resumed (sent_away (away_of k.made.domain k.made.stamp (entry_step row k).sent)))) (sym l.0.mine)
      ∙ ap (λ (u : Option Letter). first_of (resumed k.made.mine) (resumed (sent_away u))) (sym l.0.away)
      ∙ ap (λ (u : Made). first_of (resumed u.mine) (resumed (sent_away u.away))) a ∙ e
      in
      record { before = stamp; came = step_wakes (Came stamp) shorter k.made.asked.who k.made.asked.off what who came r; above = subst (λ (u : Made). stamp < u.stamp) a l.0.later })
      (λ (j : IsCall m (calls_in ks)).
      woken_came (entry_step row k).row k.made.stamp ks l.1
      (step_waiting (Came k.made.stamp) shorter k.made.asked.who k.made.asked.off what came_then (λ b. came_here k.made (h k.made (inl refl)) (l.0.answer ∙ b)))
      (λ n i. h n (inr i)) m j who e)
      i

  has_line : (object : ℕ) (m : Made) → IsCall m (calls_in (p.entries object)) → HasLine (p.logs m.domain) m
  has_line object m i = line_of_call object (p.logs m.domain) m (subst (IsCall m) (fit.calls object m.domain) (call_of_domain (calls_in (p.entries object)) m i))

  none_waiting : (object : ℕ) → AllWaiting (Came 0) (row_at p.declared object)
  none_waiting object = (rw (declared.0 object) tt, rw (declared.1 object) tt)

  -- ## Decided after it was entered

  module _ (d : ℕ) (x : Noted) (asked : Asked) (mine : Option Message) (i : IsLine x (p.logs d)) (e : x.label ≡ Called asked answer.Waits mine) (f : Fate) (q : fate_in (p.cells asked.who.cell) asked.who.armed ≡ Some f) where
    enters : Enters x asked.who
    enters = record { asked = asked; mine = mine; label = e; cell_is = refl; armed_is = refl }

    own_x : IsOwnLine p.owner d 0 x
    own_x = own_line p.owner d 0 (p.logs d) x (fit.logs d) (fit.waits d) i

    mark : IsIn (Decides f.decision asked.who.armed f.stamp f.maker) (p.cells asked.who.cell)
    mark = fate_is_decision (p.cells asked.who.cell) asked.who.armed f q

    above : asked.who.armed < f.stamp
    above = decided_above_arm None 0 (p.cells asked.who.cell) f.decision asked.who.armed f.stamp f.maker (λ n k. absurd (cc)) (fit.cells asked.who.cell) mark

    of_d : p.owner asked.who.cell ≡ d
    of_d = (entered_own p.owner d 0 x asked.who own_x.2 enters).2

    abbrev DecidesIt : Type 0
    DecidesIt = Decider (p.logs f.maker) f.decision asked.who.cell asked.who.armed f.stamp

    by_label : (label : Label) (y : DecidesIt) → y.line.label ≡ label → stamp_of x < f.stamp
    by_label Inner y l = absurd (none_decides (record { who = y.who; decision = f.decision }) (ap (λ (u : Label). decided_by u y.line.away) (sym l) ∙ y.decides))
    by_label (Took m) y l = absurd (none_decides (record { who = y.who; decision = f.decision }) (ap (λ (u : Label). decided_by u y.line.away) (sym l) ∙ y.decides))
    by_label (Mocked called it texts) y l = absurd (none_decides (record { who = y.who; decision = f.decision }) (ap (λ (u : Label). decided_by u y.line.away) (sym l) ∙ y.decides))
    by_label (Struck who false) y l = absurd (none_decides (record { who = y.who; decision = f.decision }) (ap (λ (u : Label). decided_by u y.line.away) (sym l) ∙ y.decides))
    by_label (Struck who true) y l =
        let its : DecidedWait = record { who = y.who; decision = f.decision } in
        let n : ◌≡◌ {A = Option DecidedWait} (Some (record { who = who; decision = Cancelled })) (Some its) = ap (λ (u : Label). decided_by u y.line.away) (sym l) ∙ y.decides in
        let c : who ≡ y.who = ap (λ (o : Option DecidedWait). elim o [ None ↦ who | Some t ↦ t.who ]) n in
        let g : IsOwnLine p.owner f.maker 0 y.line = own_line p.owner f.maker 0 (p.logs f.maker) y.line (fit.logs f.maker) (fit.waits f.maker) y.among in
        let h : p.owner who.cell ≡ f.maker = subst (OwnWait p.owner f.maker 0 (stamp_of y.line)) l g.2 in
        let b : f.maker ≡ d = sym h ∙ ap (λ (u : Waiter). p.owner u.cell) c ∙ ap p.owner y.cell_is ∙ of_d in
        let s : stamp_of y.line ≡ f.stamp = y.stamp_is in
        let j : IsLine y.line (p.logs d) = subst (λ (k : ℕ). IsLine y.line (p.logs k)) b y.among in
        let up : asked.who.armed < stamp_of y.line = (let u : asked.who.armed < f.stamp = above in omega arith) in
        let r : stamp_of x < stamp_of y.line = after_entering p.owner d 0 (p.logs d) x y.line asked.who (fit.logs d) (fit.waits d) i j enters up
        (λ same. let z : Called asked answer.Waits mine ≡ Struck who true = sym e ∙ ap (λ (u : Noted). u.label) same ∙ l in cc) in
        omega arith
    by_label (Called call it mine') y l =
        let its : DecidedWait = record { who = y.who; decision = f.decision } in
        let n : woken_by (first_of (resumed mine') (resumed (sent_away y.line.away))) ≡ Some its = ap (λ (u : Label). decided_by u y.line.away) (sym l) ∙ y.decides in
        let w : first_of (resumed mine') (resumed (sent_away y.line.away)) ≡ Some y.who = woken_is (first_of (resumed mine') (resumed (sent_away y.line.away))) its n in
        let m : Made = made_by y.line call it mine' in
        let g : IsOwnLine p.owner f.maker 0 y.line = own_line p.owner f.maker 0 (p.logs f.maker) y.line (fit.logs f.maker) (fit.waits f.maker) y.among in
        let in_log : IsCall m (calls_on call.object (p.logs f.maker)) = call_of_line y.line (p.logs f.maker) call it mine' y.among l in
        let in_all : IsCall m (calls_in (p.entries call.object)) = call_of_all f.maker (calls_in (p.entries call.object)) m (subst (IsCall m) (sym (fit.calls call.object f.maker)) in_log) in
        let k : CameBefore (stamp_of y.line) y.who =
        woken_came (row_at p.declared call.object) 0 (p.entries call.object) (fit.histories call.object) (none_waiting call.object) (has_line call.object) m in_all y.who w in
        let o : p.owner y.who.cell ≡ d = ap p.owner y.cell_is ∙ of_d in
        let z : IsLine k.came.line (p.logs d) = subst (λ (c : ℕ). IsLine k.came.line (p.logs c)) o k.came.among in
        let its_entering : Enters k.came.line asked.who =
        record { asked = k.came.enters.asked; mine = k.came.enters.mine; label = k.came.enters.label; cell_is = k.came.enters.cell_is ∙ y.cell_is; armed_is = k.came.enters.armed_is ∙ y.armed_is } in
        let s : stamp_of x ≡ stamp_of k.came.line = entered_once p.owner d 0 (p.logs d) x k.came.line asked.who (fit.logs d) (fit.waits d) i z enters its_entering in
        let t : stamp_of k.came.line ≤ k.before = k.came.below in
        let u : k.before < stamp_of y.line = k.above in
        let v : stamp_of y.line ≡ f.stamp = y.stamp_is in
        omega arith

    pub decided_after_entering : stamp_of x < f.stamp
    decided_after_entering =
        let y : DecidesIt = decider (p.logs f.maker) f.decision asked.who.cell asked.who.armed f.stamp (fit.decisions asked.who.cell f.decision asked.who.armed f.stamp f.maker mark) in
        by_label y.line.label y refl
