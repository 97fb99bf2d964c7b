-- The next line is a move of the shared part, and what is left behind it are parts again.
-- A call takes the same step on the state's row as on its history's: the waiters that only the history still has are cancelled, and a call neither wakes nor enters
-- one that is cancelled.
use Rattle.std.proofs.Common.{◌≡◌, ℕ, ◌+◌, ◌<◌, ◌≤◌, inr, Bool, true, false, ◌&&◌, ◌||◌, not, ◌==◌, List, [], ◌∷◌, ◌++◌, length, map, take, drop, slice_get, nat_lt, Option, Some, None, refl, sym, ap, ◌∙◌, subst, true≢false, arith, eqb-true, eq-eqb, le_refl, ltb-true, ltb-false, length-set}
use Rattle.eio_value.specs.declared.call.Answer.{Answer}
use Rattle.eio_value.specs.declared.call.Answer.TheVariants as answer
use Rattle.eio_value.specs.declared.message.Message.{Message}
use Rattle.eio_value.specs.declared.message.Waiter.{Waiter}
use Rattle.spec_parts.specs.ResumeWords.{Decision, Woken, Cancelled}
use Rattle.eio_value.specs.Sending.{Sent, Resumes, Starts}
use Rattle.spec_parts.specs.Row.{Row, Stepped, only_row}
use Rattle.spec_parts.specs.Strikes.{same_wait}
use Rattle.trace_lines.specs.declared.line.Line.{Line}
use Rattle.spec_machine.specs.Labels.{Label, Inner, Called, Struck, Mocked, Took}
use Rattle.spec_machine.specs.ObjectHistories.{Made, Skipped, Entry, calls_in, calls_on, entry_step, asked_on, less, is_among, row_after, IsObjectHistory, skipped_waits}
use Rattle.spec_machine.specs.PartsOfRuns.{DecidedWait, decided_by, woken_by, resumed, sent_away, first_of, sent_to, sends, taken, takes, is_uncancelled, is_alive}
use Rattle.spec_machine.specs.Runs.{Letter, Noted, domain_of, stamp_of, message_stamp, away_of, SharedMoves, put, key_of}
use Rattle.spec_machine.specs.Shared.{Asked, Decided, SharedState, decision_of, row_at, stamp_at, no_object, mine_of, with_woken, stepped, after_call, strike_wins, after_strike, after_take}
use Rattle.law_parts.specs.Skips.{only_stepped}
use Rattle.law_parts.proofs.Alike.{skips_alike}
use Rattle.law_history.proofs.Legal.Coming.{is_itself, same_fate, not_below_last, Hit, hit, not_come, not_earlier, not_sent_below, sends_none, takes_none, takes_its, takes_others, woken_in, resumed_is, posted_last}
use Rattle.law_history.proofs.Legal.Fates.{Fate, Fates, decision_by, is_that, comes, IsFatedBelow, AllCancelledBelow, SkipsDead, PartsLeft}
use Rattle.law_history.proofs.Legal.Rows.{by_test, both_true, under_set, length_mapped, row_only, row_twice, row_agree, row_joined}

-- ## Decided waits

abbrev pub with_decision : Option DecidedWait → List Decided → List Decided
with_decision None decided = decided
with_decision (Some it) decided = record { cell = it.who.cell; armed = it.who.armed; decision = it.decision } ∷ decided

other_decision : (it : Option DecidedWait) (decided : List Decided) (cell armed : ℕ) → is_that cell armed it ≡ false → decision_of (with_decision it decided) cell armed ≡ decision_of decided cell armed
other_decision None decided cell armed e = refl
other_decision (Some it) decided cell armed e = ap (λ (b : Bool). elim b [ true ↦ Some it.decision | false ↦ decision_of decided cell armed ]) e

its_decision : (it : DecidedWait) (decided : List Decided) (cell armed : ℕ) → is_that cell armed (Some it) ≡ true → decision_of (with_decision (Some it) decided) cell armed ≡ Some it.decision
its_decision it decided cell armed e = ap (λ (b : Bool). elim b [ true ↦ Some it.decision | false ↦ decision_of decided cell armed ]) e

woken_is_decided : (sent : Option Sent) (decided : List Decided) → with_woken sent decided ≡ with_decision (woken_by (woken_in sent)) decided
woken_is_decided None decided = refl
woken_is_decided (Some (Resumes who given)) decided = refl
woken_is_decided (Some (Starts start)) decided = refl

same_parts : (a b : Waiter) → same_wait a b ≡ true → (a.cell ≡ b.cell) × (a.armed ≡ b.armed)
same_parts a b e =
    let t : ((a.cell == b.cell) ≡ true) × ((a.armed == b.armed) ≡ true) = both_true (a.cell == b.cell) (a.armed == b.armed) e in
    (eqb-true _ _ t.0, eqb-true _ _ t.1)

woken_go : (who other : Waiter) (decided : List Decided) → decision_of decided who.cell who.armed ≡ None → (b : Bool) → same_wait who other ≡ b
    → is_alive decided other ≡ is_uncancelled (elim b [ true ↦ Some Woken | false ↦ decision_of decided other.cell other.armed ])
woken_go who other decided n true e =
    let t : (who.cell ≡ other.cell) × (who.armed ≡ other.armed) = same_parts who other e in
    let m : decision_of decided other.cell other.armed ≡ None = rw (← t.0, ← t.1) n in
    ap is_uncancelled m
woken_go who other decided n false e = refl

-- whoever is alive before a wake is so after it
woken_alive : (sent : Option Sent) (decided : List Decided) → ((who : Waiter) → woken_in sent ≡ Some who → decision_of decided who.cell who.armed ≡ None) → (other : Waiter) → is_alive decided other ≡ is_alive (with_woken sent decided) other
woken_alive None decided n other = refl
woken_alive (Some (Starts start)) decided n other = refl
woken_alive (Some (Resumes who given)) decided n other = woken_go who other decided (n who refl) (same_wait who other) refl

struck_go : (found : Option Decision) (b : Bool) → is_uncancelled (elim b [ true ↦ Some Cancelled | false ↦ found ]) ≡ (not b && is_uncancelled found)
struck_go found true = refl
struck_go found false = refl

-- after a won strike those are alive who were and aren't the struck wait
struck_alive : (who other : Waiter) (decided : List Decided)
    → is_alive (record { cell = who.cell; armed = who.armed; decision = Cancelled } ∷ decided) other ≡ (not (same_wait who other) && is_alive decided other)
struck_alive who other decided = struck_go (decision_of decided other.cell other.armed) (same_wait who other)

dead_go : (decided : List Decided) (other who : Waiter) (rest : Bool) → decision_of decided other.cell other.armed ≡ Some Cancelled → is_alive decided who ≡ true → not rest ≡ true
    → (b : Bool) → same_wait who other ≡ b → not (b || rest) ≡ true
dead_go decided other who rest n alive ih true e =
    let t : (who.cell ≡ other.cell) × (who.armed ≡ other.armed) = same_parts who other e in
    let m : decision_of decided who.cell who.armed ≡ Some Cancelled = rw (t.0, t.1) n in
    let k : is_alive decided who ≡ false = ap is_uncancelled m in
    absurd (true≢false (sym alive ∙ k))
dead_go decided other who rest n alive ih false e = ih

no_fate : (o : Option Fate) → ((fate : Fate) → o ≡ Some fate → ⊥) → decision_by o ≡ None
no_fate None never = refl
no_fate (Some fate) never = absurd (never fate refl)

-- ## Entries

-- the first entry of a list, by the first of its calls
record FirstEntry (es : List Entry) (m : Made) (ms : List Made) : Type 0 where
  skipped : List Skipped
  rest : List Entry
  is : es ≡ record { made = m; skipped = skipped } ∷ rest
  others : calls_in rest ≡ ms

first_entry : (es : List Entry) (m : Made) (ms : List Made) → calls_in es ≡ m ∷ ms → FirstEntry es m ms
first_entry [] m ms e = absurd (cc)
first_entry (k ∷ ks) m ms e =
    let q : k.made ≡ m = ap (λ (l : List Made). elim l [ [] ↦ m | j ∷ js ↦ j ]) e in
    record { skipped = k.skipped; rest = ks; is = λ i. record { made = q i; skipped = k.skipped } ∷ ks; others = ap (λ (l : List Made). elim l [ [] ↦ ms | j ∷ js ↦ js ]) e }

-- the first message of a post, and the post without it
first_message : (ps more rest : List Message) (m : Message) → ps ++ more ≡ m ∷ rest → ((ms : List Message) → more ≡ m ∷ ms → ⊥)
    → (slice_get ps 0 ≡ Some m) × ((take 0 ps ++ drop (0 + 1) ps) ++ more ≡ rest)
first_message [] more rest m e never = absurd (never rest e)
first_message (k ∷ ks) more rest m e never =
    (ap (λ (l : List Message). elim l [ [] ↦ Some m | j ∷ js ↦ Some j ]) e, ap (λ (l : List Message). elim l [ [] ↦ rest | j ∷ js ↦ js ]) e)

module _ (fates : Fates) (left : (receiver sender : ℕ) → List Message) where
  -- the shared part after the next line, and the parts behind it
  pub record GoesOn (s : SharedState) (whole : ℕ → Row) (x : Noted) (xs : List Noted) (entries : ℕ → List Entry) : Type 0 where
    pub next : SharedState
    pub whole_then : ℕ → Row
    pub entries_then : ℕ → List Entry
    pub moves : SharedMoves s (domain_of x) (stamp_of x) x.label x.away x.from next
    pub parts : PartsLeft (key_of x) next whole_then xs entries_then fates left
    pub ends : (object : ℕ) → row_after (whole_then object) (entries_then object) ≡ row_after (whole object) (entries object)

  -- ## Any line

  module _ (last : ℕ × ℕ) (s : SharedState) (whole : ℕ → Row) (x : Noted) (xs : List Noted) (entries : ℕ → List Entry) (p : PartsLeft last s whole (x ∷ xs) entries fates left) where
    stands_go : (cell armed : ℕ) (b : Bool) → is_that cell armed (decided_by x.label x.away) ≡ b
        → decision_of (with_decision (decided_by x.label x.away) s.decided) cell armed ≡ elim (comes xs cell armed) [ true ↦ None | false ↦ decision_by (fates cell armed) ]
    stands_go cell armed true h =
        let t : Hit fates (stamp_of x) (domain_of x) cell armed (decided_by x.label x.away) = hit fates (stamp_of x) (domain_of x) cell armed (decided_by x.label x.away) p.sound.0.fated h in
        let f : Fate = record { decision = t.decision; stamp = stamp_of x; maker = domain_of x } in
        let n : comes xs cell armed ≡ false = not_come fates (key_of x) xs cell armed f p.rises.1 p.sound.1 t.fate (inr (refl, le_refl (domain_of x))) in
        let its : DecidedWait = record { who = t.who; decision = t.decision } in
        let k : is_that cell armed (Some its) ≡ true = subst (λ (it : Option DecidedWait). is_that cell armed it ≡ true) t.is h in
        ap (λ (it : Option DecidedWait). decision_of (with_decision it s.decided) cell armed) t.is ∙ its_decision its s.decided cell armed k ∙ (rw (n, t.fate) refl)
    stands_go cell armed false h = other_decision (decided_by x.label x.away) s.decided cell armed h ∙ (p.stands cell armed ∙ (rw h refl))

    stands_next : (cell armed : ℕ) → decision_of (with_decision (decided_by x.label x.away) s.decided) cell armed ≡ elim (comes xs cell armed) [ true ↦ None | false ↦ decision_by (fates cell armed) ]
    stands_next cell armed = stands_go cell armed (is_that cell armed (decided_by x.label x.away)) refl

    past_go : (cell armed : ℕ) (f : Fate) → fates cell armed ≡ Some f → comes xs cell armed ≡ false → (b : Bool) → is_that cell armed (decided_by x.label x.away) ≡ b → f.stamp ≤ stamp_of x
    past_go cell armed f e n true h =
        let t : Hit fates (stamp_of x) (domain_of x) cell armed (decided_by x.label x.away) = hit fates (stamp_of x) (domain_of x) cell armed (decided_by x.label x.away) p.sound.0.fated h in
        let g : Fate = record { decision = t.decision; stamp = stamp_of x; maker = domain_of x } in
        let q : f.stamp ≡ stamp_of x = ap (λ (k : Fate). k.stamp) (same_fate f g (sym e ∙ t.fate)) in
        omega arith
    past_go cell armed f e n false h =
        let a : f.stamp ≤ last.0 = p.past cell armed f e (rw h n) in
        let b : last.0 ≤ stamp_of x = not_below_last last x p.rises.0 in
        omega arith

    past_next : (cell armed : ℕ) (f : Fate) → fates cell armed ≡ Some f → comes xs cell armed ≡ false → f.stamp ≤ (key_of x).0
    past_next cell armed f e n = past_go cell armed f e n (is_that cell armed (decided_by x.label x.away)) refl

    -- what was decided below the line's stamp stands so in the state
    earlier_stands : (decision : Decision) (who : Waiter) → IsFatedBelow fates decision (stamp_of x) who → decision_of s.decided who.cell who.armed ≡ Some decision
    earlier_stands decision who h =
        let n : comes (x ∷ xs) who.cell who.armed ≡ false = not_earlier fates last x xs who.cell who.armed h.fate p.rises p.sound h.is h.below in
        p.stands who.cell who.armed ∙ (rw (n, h.is, h.so) refl)

    -- what the line decides is undecided before it
    undecided : (who : Waiter) (decision : Decision) → decided_by x.label x.away ≡ Some (record { who = who; decision = decision }) → decision_of s.decided who.cell who.armed ≡ None
    undecided who decision e =
        let i : is_that who.cell who.armed (decided_by x.label x.away) ≡ true = rw e (is_itself who.cell who.armed) in
        p.stands who.cell who.armed ∙ (rw i refl)

    -- a line that calls, sends, takes and decides nothing leaves the state, and the parts of the others
    quiet_left : x.away ≡ None → ((rest : List Message) → taken x.label rest ≡ rest) → ((object : ℕ) → calls_on object (x ∷ xs) ≡ calls_on object xs) → decided_by x.label x.away ≡ None
        → PartsLeft (key_of x) s whole xs entries fates left
    quiet_left silent takes_no calls_no decides_no = record {
      rises = p.rises.1;
      calls = λ object. p.calls object ∙ calls_no object;
      histories = p.histories;
      skips = p.skips;
      sound = p.sound.1;
      posts = λ receiver sender. ap (λ (l : List Message). s.posts receiver sender ++ l) (sym (sends_none sender receiver x xs silent)) ∙ p.posts receiver sender
          ∙ ap (λ (l : List Message). l ++ left receiver sender) (takes_none receiver sender x xs takes_no);
      none = p.none;
      sizes = p.sizes;
      rows = p.rows;
      stands = λ cell armed. ap (λ (it : Option DecidedWait). decision_of (with_decision it s.decided) cell armed) (sym decides_no) ∙ stands_next cell armed;
      past = past_next;
    }

  -- ## Each kind of line

  module _ (last : ℕ × ℕ) (s : SharedState) (whole : ℕ → Row) (xs : List Noted) (entries : ℕ → List Entry) (line : Line) (away : Option Letter) (from : ℕ) where
    abbrev noted : Label → Noted
    noted label = record { line = line; label = label; away = away; from = from }

    inner : PartsLeft last s whole (noted Inner ∷ xs) entries fates left → GoesOn s whole (noted Inner) xs entries
    inner p = record {
      next = s;
      whole_then = whole;
      entries_then = entries;
      moves = (p.sound.0.sound, refl);
      parts = quiet_left last s whole (noted Inner) xs entries p p.sound.0.sound (λ rest. refl) (λ object. refl) refl;
      ends = λ object. refl;
    }

    lost : (who : Waiter) → PartsLeft last s whole (noted (Struck who false) ∷ xs) entries fates left → GoesOn s whole (noted (Struck who false)) xs entries
    lost who p =
        let wins_not : false ≡ strike_wins s who =
        sym (ap (λ (o : Option Decision). elim o [ None ↦ true | Some decision ↦ false ]) (earlier_stands last s whole (noted (Struck who false)) xs entries p Woken who p.sound.0.sound.1))
        in
        record {
          next = s;
          whole_then = whole;
          entries_then = entries;
          moves = (p.sound.0.sound.0, wins_not, refl);
          parts = quiet_left last s whole (noted (Struck who false)) xs entries p p.sound.0.sound.0 (λ rest. refl) (λ object. refl) refl;
          ends = λ object. refl;
        }

    won : (who : Waiter) → PartsLeft last s whole (noted (Struck who true) ∷ xs) entries fates left → GoesOn s whole (noted (Struck who true)) xs entries
    won who p =
        let x : Noted = noted (Struck who true) in
        let others : Waiter → Bool = λ other. not (same_wait who other) in
        let wins : true ≡ strike_wins s who =
        sym (ap (λ (o : Option Decision). elim o [ None ↦ true | Some decision ↦ false ]) (undecided last s whole x xs entries p who Cancelled refl))
        in
        let size : length (map (only_row others) s.rows) ≡ length s.rows = length_mapped (only_row others) s.rows in
        record {
          next = after_strike s who true;
          whole_then = whole;
          entries_then = entries;
          moves = (p.sound.0.sound, wins, refl);
          parts = record {
            rises = p.rises.1;
            calls = p.calls;
            histories = p.histories;
            skips = p.skips;
            sound = p.sound.1;
            posts = λ receiver sender. ap (λ (l : List Message). s.posts receiver sender ++ l) (sym (sends_none sender receiver x xs p.sound.0.sound)) ∙ p.posts receiver sender
                ∙ ap (λ (l : List Message). l ++ left receiver sender) (takes_none receiver sender x xs (λ rest. refl));
            none = λ object h. p.none object (rw size at h);
            sizes = p.sizes ∙ sym size;
            rows = λ object. row_only others s.rows object ∙ ap (only_row others) (p.rows object)
                ∙ row_joined (is_alive s.decided) others (is_alive (after_strike s who true).decided) (λ other. struck_alive who other s.decided) (whole object);
            stands = stands_next last s whole x xs entries p;
            past = past_next last s whole x xs entries p;
          };
          ends = λ object. refl;
        }

    took : (m : Message) → PartsLeft last s whole (noted (Took m) ∷ xs) entries fates left → GoesOn s whole (noted (Took m)) xs entries
    took m p =
        let x : Noted = noted (Took m) in
        let never : (r f : ℕ) (ms : List Message) → sends f r xs ≡ m ∷ ms → ⊥ =
        λ r f ms e. let l : stamp_of x ≤ message_stamp m = not_sent_below fates (key_of x) f r xs m ms p.rises.1 p.sound.1 e in let k : message_stamp m < stamp_of x = p.sound.0.sound.1 in omega arith
        in
        let before : (r f : ℕ) → s.posts r f ++ sends f r xs ≡ takes r f (x ∷ xs) ++ left r f =
        λ r f. ap (λ (l : List Message). s.posts r f ++ l) (sym (sends_none f r x xs p.sound.0.sound.0)) ∙ p.posts r f
        in
        let here : s.posts (domain_of x) from ++ sends from (domain_of x) xs ≡ m ∷ (takes (domain_of x) from xs ++ left (domain_of x) from) =
        before (domain_of x) from ∙ ap (λ (l : List Message). l ++ left (domain_of x) from) (takes_its (domain_of x) from x xs (is_itself (domain_of x) from))
        in
        record {
          next = after_take s (domain_of x) from 0;
          whole_then = whole;
          entries_then = entries;
          moves = (0, (first_message (s.posts (domain_of x) from) (sends from (domain_of x) xs) (takes (domain_of x) from xs ++ left (domain_of x) from) m here (never (domain_of x) from)).0, p.sound.0.sound.1, p.sound.0.sound.0, refl);
          parts = record {
            rises = p.rises.1;
            calls = p.calls;
            histories = p.histories;
            skips = p.skips;
            sound = p.sound.1;
            posts = λ r f. by_test (λ b. elim b [ true ↦ take 0 (s.posts r f) ++ drop (0 + 1) (s.posts r f) | false ↦ s.posts r f ] ++ sends f r xs ≡ takes r f xs ++ left r f)
                (domain_of x == r && from == f)
                (λ e. (first_message (s.posts r f) (sends f r xs) (takes r f xs ++ left r f) m (before r f ∙ ap (λ (l : List Message). l ++ left r f) (takes_its r f x xs e)) (never r f)).1)
                (λ e. before r f ∙ ap (λ (l : List Message). l ++ left r f) (takes_others r f x xs e));
            none = p.none;
            sizes = p.sizes;
            rows = p.rows;
            stands = stands_next last s whole x xs entries p;
            past = past_next last s whole x xs entries p;
          };
          ends = λ object. refl;
        }

    module _ (asked : Asked) (it : Answer) (mine : Option Message) (p : PartsLeft last s whole (noted (Called asked it mine) ∷ xs) entries fates left) where
      abbrev x : Noted
      x = noted (Called asked it mine)

      abbrev made : Made
      made = record { domain = domain_of x; stamp = stamp_of x; asked = asked; answer = it; mine = mine; away = away }

      -- nobody who is alive was skipped
      skips_none_alive : (waits : List Waiter) → AllCancelledBelow fates (stamp_of x) waits → (who : Waiter) → is_alive s.decided who ≡ true → not (is_among waits who) ≡ true
      skips_none_alive [] h who alive = refl
      skips_none_alive (other ∷ others) h who alive =
          dead_go s.decided other who (is_among others who) (earlier_stands last s whole x xs entries p Cancelled other h.0) alive (skips_none_alive others h.1 who alive) (same_wait who other) refl

      -- who is entered stands undecided
      enters_alive : it ≡ answer.Waits → is_alive s.decided asked.who ≡ true
      enters_alive waits =
          let b : last.0 ≤ stamp_of x = not_below_last last x p.rises.0 in
          let n : decision_of s.decided asked.who.cell asked.who.armed ≡ None =
          p.stands asked.who.cell asked.who.armed
          ∙ by_test (λ c. elim c [ true ↦ None | false ↦ decision_by (fates asked.who.cell asked.who.armed) ] ≡ None) (comes (x ∷ xs) asked.who.cell asked.who.armed)
          (λ t. refl)
          (λ t. no_fate (fates asked.who.cell asked.who.armed) (λ f q. let l : stamp_of x < f.stamp = p.sound.0.sound waits f q in let k : f.stamp ≤ last.0 = p.past asked.who.cell asked.who.armed f q t in omega arith))
          in
          ap is_uncancelled n

      module _ (skipped : List Skipped) (rest : List Entry) (is : entries asked.object ≡ record { made = made; skipped = skipped } ∷ rest) (others : calls_in rest ≡ calls_on asked.object xs) where
        abbrev entry : Entry
        entry = record { made = made; skipped = skipped }

        abbrev step : Stepped
        step = entry_step (whole asked.object) entry

        history : IsObjectHistory (whole asked.object) (stamp_at s.stamps asked.object) (entry ∷ rest)
        history = subst (IsObjectHistory (whole asked.object) (stamp_at s.stamps asked.object)) is (p.histories asked.object)

        skips : SkipsDead fates (entry ∷ rest)
        skips = subst (SkipsDead fates) is (p.skips asked.object)

        -- what the line decides is what its entry wakes
        decides_woken : decided_by (Called asked it mine) away ≡ woken_by (woken_in step.sent)
        decides_woken = ap woken_by
            (ap (λ (m : Option Message). first_of (resumed m) (resumed (sent_away away))) history.0.mine
            ∙ ap (λ (m : Option Letter). first_of (resumed (mine_of (domain_of x) (stamp_of x) step.sent)) (resumed (sent_away m))) history.0.away
            ∙ resumed_is (domain_of x) (stamp_of x) step.sent)

        woken_undecided : (who : Waiter) → woken_in step.sent ≡ Some who → decision_of s.decided who.cell who.armed ≡ None
        woken_undecided who e = undecided last s whole x xs entries p who Woken (decides_woken ∙ ap woken_by e)

        -- the state's row takes the entry's step
        same_step : stepped s asked ≡ only_stepped (is_alive s.decided) step
        same_step =
            let not_skipped : Waiter → Bool = λ who. not (is_among (skipped_waits entry) who) in
            ap (λ (row : Row). asked_on row asked) (p.rows asked.object ∙ sym (row_twice (is_alive s.decided) not_skipped (skips_none_alive (skipped_waits entry) skips.0) (whole asked.object)))
            ∙ skips_alike (is_alive s.decided) (less (skipped_waits entry) (whole asked.object)) asked.who asked.off asked.serial asked.call (record {
              woken = λ who given e. let n : decision_of s.decided who.cell who.armed ≡ None = woken_undecided who (ap woken_in e) in ap is_uncancelled n;
              entered = λ e. enters_alive (history.0.answer ∙ e);
            })

        exists : asked.object < length s.rows
        exists = by_test (λ b. nat_lt asked.object (length s.rows) ≡ b → asked.object < length s.rows) (nat_lt asked.object (length s.rows))
            (λ e f. ltb-true asked.object (length s.rows) f)
            (λ e f. let n : [] ≡ entry ∷ rest = sym (p.none asked.object (ltb-false asked.object (length s.rows) f)) ∙ is in absurd (cc))
            refl

        abbrev next : SharedState
        next = after_call s (domain_of x) (stamp_of x) asked (stepped s asked)

        same_sent : (stepped s asked).sent ≡ step.sent
        same_sent = ap (λ (u : Stepped). u.sent) same_step

        decided_next : next.decided ≡ with_decision (decided_by (Called asked it mine) away) s.decided
        decided_next = ap (λ (sent : Option Sent). with_woken sent s.decided) same_sent ∙ woken_is_decided step.sent s.decided ∙ ap (λ (u : Option DecidedWait). with_decision u s.decided) (sym decides_woken)

        alive_next : (other : Waiter) → is_alive s.decided other ≡ is_alive next.decided other
        alive_next other = woken_alive step.sent s.decided woken_undecided other ∙ ap (λ (sent : Option Sent). is_alive (with_woken sent s.decided) other) (sym same_sent)

        away_next : away ≡ away_of (domain_of x) (stamp_of x) (stepped s asked).sent
        away_next = history.0.away ∙ ap (away_of (domain_of x) (stamp_of x)) (sym same_sent)

        none_next : (object : ℕ) → length s.rows ≤ object → put asked.object rest entries object ≡ []
        none_next object h = by_test (λ b. (asked.object == object) ≡ b → elim b [ true ↦ rest | false ↦ entries object ] ≡ []) (asked.object == object)
            (λ e f. let k : asked.object ≡ object = eqb-true asked.object object f in absurd (omega (arith, exists))) (λ e f. p.none object h) refl

        posts_next : (receiver sender : ℕ) → next.posts receiver sender ++ sends sender receiver xs ≡ takes receiver sender xs ++ left receiver sender
        posts_next receiver sender =
            posted_last (domain_of x) (stamp_of x) (stepped s asked).sent s.posts receiver sender (sends sender receiver xs)
            ∙ ap (λ (letter : Option Letter). s.posts receiver sender ++ elim (domain_of x == sender) [ true ↦ sent_to receiver letter (sends sender receiver xs) | false ↦ sends sender receiver xs ]) (sym away_next)
            ∙ p.posts receiver sender
            ∙ ap (λ (l : List Message). l ++ left receiver sender) (takes_none receiver sender x xs (λ rest. refl))

        goes : GoesOn s whole x xs entries
        goes = record {
          next = next;
          whole_then = put asked.object step.row whole;
          entries_then = put asked.object rest entries;
          moves = (history.0.answer ∙ ap (λ (u : Stepped). u.answer) (sym same_step), history.0.mine ∙ ap (mine_of (domain_of x) (stamp_of x)) (sym same_sent), away_next, history.0.later, exists, refl);
          parts = record {
            rises = p.rises.1;
            calls = λ object. by_test (λ b. calls_in (elim b [ true ↦ rest | false ↦ entries object ]) ≡ calls_on object xs) (asked.object == object)
                (λ e. subst (λ (k : ℕ). calls_in rest ≡ calls_on k xs) (eqb-true asked.object object e) others)
                (λ e. p.calls object ∙ ap (λ (b : Bool). elim b [ true ↦ made ∷ calls_on object xs | false ↦ calls_on object xs ]) e);
            histories = λ object. rw (under_set 0 s.stamps asked.object object (stamp_of x) (rw p.sizes exists))
                (by_test (λ b. IsObjectHistory (elim b [ true ↦ step.row | false ↦ whole object ]) (elim b [ true ↦ stamp_of x | false ↦ stamp_at s.stamps object ]) (elim b [ true ↦ rest | false ↦ entries object ])) (asked.object == object)
                (λ e. history.1)
                (λ e. p.histories object));
            skips = λ object. by_test (λ b. SkipsDead fates (elim b [ true ↦ rest | false ↦ entries object ])) (asked.object == object) (λ e. skips.1) (λ e. p.skips object);
            sound = p.sound.1;
            posts = posts_next;
            none = λ object h. none_next object (rw length-set at h);
            sizes = simp length-set p.sizes;
            rows = λ object. under_set no_object s.rows asked.object object (stepped s asked).row exists
                ∙ by_test (λ b. elim b [ true ↦ (stepped s asked).row | false ↦ row_at s.rows object ] ≡ only_row (is_alive next.decided) (elim b [ true ↦ step.row | false ↦ whole object ])) (asked.object == object)
                (λ e. ap (λ (u : Stepped). u.row) same_step ∙ row_agree (is_alive s.decided) (is_alive next.decided) alive_next step.row)
                (λ e. p.rows object ∙ row_agree (is_alive s.decided) (is_alive next.decided) alive_next (whole object));
            stands = λ cell armed. ap (λ (u : List Decided). decision_of u cell armed) decided_next ∙ stands_next last s whole x xs entries p cell armed;
            past = past_next last s whole x xs entries p;
          };
          ends = λ object. by_test (λ b. row_after (elim b [ true ↦ step.row | false ↦ whole object ]) (elim b [ true ↦ rest | false ↦ entries object ]) ≡ row_after (whole object) (entries object)) (asked.object == object)
              (λ e. subst (λ (k : ℕ). row_after step.row rest ≡ row_after (whole k) (entries k)) (eqb-true asked.object object e) (sym (ap (row_after (whole asked.object)) is)))
              (λ e. refl);
        }

      called : GoesOn s whole x xs entries
      called =
          let first : calls_in (entries asked.object) ≡ made ∷ calls_on asked.object xs =
          p.calls asked.object ∙ ap (λ (b : Bool). elim b [ true ↦ made ∷ calls_on asked.object xs | false ↦ calls_on asked.object xs ]) (eq-eqb asked.object asked.object refl)
          in
          let h : FirstEntry (entries asked.object) made (calls_on asked.object xs) = first_entry (entries asked.object) made (calls_on asked.object xs) first in
          goes h.skipped h.rest h.is h.others

    by_label : (label : Label) → PartsLeft last s whole (noted label ∷ xs) entries fates left → GoesOn s whole (noted label) xs entries
    by_label Inner p = inner p
    by_label (Called asked it mine) p = called asked it mine p
    by_label (Struck who true) p = won who p
    by_label (Struck who false) p = lost who p
    by_label (Mocked asked it texts) p = absurd p.sound.0.sound
    by_label (Took m) p = took m p

  -- the next line moves the shared part, and the parts behind it are parts of what is left
  pub goes_on : (last : ℕ × ℕ) (s : SharedState) (whole : ℕ → Row) (x : Noted) (xs : List Noted) (entries : ℕ → List Entry) → PartsLeft last s whole (x ∷ xs) entries fates left → GoesOn s whole x xs entries
  goes_on last s whole x xs entries p = by_label last s whole xs entries x.line x.away x.from x.label p
