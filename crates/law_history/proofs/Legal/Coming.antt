-- Which decisions and messages are still to come, among lines that rise.
use Rattle.std.proofs.Common.{◌≡◌, ℕ, ◌<◌, ◌≤◌, ◌⊎◌, inl, inr, ⊎_elim, Bool, true, false, ◌&&◌, ◌||◌, ◌==◌, List, [], ◌∷◌, ◌++◌, Option, Some, None, refl, sym, ap, ◌∙◌, true≢false, arith, eqb-true, eq-eqb, append_assoc}
use Rattle.eio_value.specs.declared.message.Message.{Message}
use Rattle.eio_value.specs.declared.message.Waiter.{Waiter}
use Rattle.eio_value.specs.declared.raised.Outcome.{Outcome}
use Rattle.spec_parts.specs.ResumeWords.{Decision}
use Rattle.eio_value.specs.Sending.{Start, Sent, Resumes, Starts}
use Rattle.spec_machine.specs.PartsOfRuns.{DecidedWait, decided_by, resumed, sent_away, first_of, HasStamp, sent_to, sends, taken, takes, Rises}
use Rattle.spec_machine.specs.Runs.{Letter, Noted, domain_of, stamp_of, message_stamp, away_of, Before, key_of}
use Rattle.spec_machine.specs.Shared.{message_of, receiver_of, mine_of, posted}
use Rattle.law_history.proofs.Legal.Fates.{Fate, Fates, is_that, comes, IsFate, AllSound}
use Rattle.law_history.proofs.Legal.Rows.{by_test, both_true}

pub is_itself : (a b : ℕ) → (a == a && b == b) ≡ true
is_itself a b = rw (eq-eqb a a refl, eq-eqb b b refl) refl

pub same_fate : (f g : Fate) → Some f ≡ Some g → f ≡ g
same_fate f g e = ap (λ (o : Option Fate). elim o [ None ↦ f | Some h ↦ h ]) e

pub not_below_last : (last : ℕ × ℕ) (x : Noted) → Before last x → last.0 ≤ stamp_of x
not_below_last last x before = ⊎_elim (λ (h : last.0 < stamp_of x). omega arith) (λ (h : (last.0 ≡ stamp_of x) × (last.1 < domain_of x)). omega (arith, h.0)) before

-- ## Decisions

-- a fate isn't after the line with this key
abbrev pub IsNotAfter : Fate → (last : ℕ × ℕ) → Type 0
IsNotAfter f last = (f.stamp < last.0) ⊎ ((f.stamp ≡ last.0) × (f.maker ≤ last.1))

-- it is before this line
abbrev IsBefore : Fate → Noted → Type 0
IsBefore f x = (f.stamp < stamp_of x) ⊎ ((f.stamp ≡ stamp_of x) × (f.maker < domain_of x))

before_next : (f : Fate) (last : ℕ × ℕ) (x : Noted) → IsNotAfter f last → Before last x → IsBefore f x
before_next f last x n b = ⊎_elim
    (λ (h : f.stamp < last.0). let l : last.0 ≤ stamp_of x = not_below_last last x b in inl (omega arith))
    (λ (h : (f.stamp ≡ last.0) × (f.maker ≤ last.1)). ⊎_elim
    (λ (k : last.0 < stamp_of x). let e : f.stamp ≡ last.0 = h.0 in inl (omega arith))
    (λ (k : (last.0 ≡ stamp_of x) × (last.1 < domain_of x)). let a : f.maker ≤ last.1 = h.1 in let b : last.1 < domain_of x = k.1 in inr (h.0 ∙ k.0, omega arith))
    b)
    n

not_its_own : (f : Fate) (x : Noted) → IsBefore f x → f.stamp ≡ stamp_of x → f.maker ≡ domain_of x → ⊥
not_its_own f x before s d = ⊎_elim (λ (h : f.stamp < stamp_of x). omega arith) (λ (h : (f.stamp ≡ stamp_of x) × (f.maker < domain_of x)). let k : f.maker < domain_of x = h.1 in omega arith) before

not_after_next : (f : Fate) (x : Noted) → IsBefore f x → IsNotAfter f (key_of x)
not_after_next f x before = ⊎_elim (λ (h : f.stamp < stamp_of x). inl h) (λ (h : (f.stamp ≡ stamp_of x) × (f.maker < domain_of x)). let k : f.maker < domain_of x = h.1 in inr (h.0, omega arith)) before

module _ (fates : Fates) where
  -- the decision of a line, where it is of this wait
  pub record Hit (stamp maker cell armed : ℕ) (it : Option DecidedWait) : Type 0 where
    pub who : Waiter
    pub decision : Decision
    pub is : it ≡ Some (record { who = who; decision = decision })
    pub cell_is : who.cell ≡ cell
    pub armed_is : who.armed ≡ armed
    pub fate : fates cell armed ≡ Some (record { decision = decision; stamp = stamp; maker = maker })

  pub hit : (stamp maker cell armed : ℕ) (it : Option DecidedWait) → IsFate fates stamp maker it → is_that cell armed it ≡ true → Hit stamp maker cell armed it
  hit stamp maker cell armed None fated e = absurd (true≢false (sym e))
  hit stamp maker cell armed (Some it) fated e =
      let t : ((it.who.cell == cell) ≡ true) × ((it.who.armed == armed) ≡ true) = both_true (it.who.cell == cell) (it.who.armed == armed) e in
      let c : it.who.cell ≡ cell = eqb-true _ _ t.0 in
      let a : it.who.armed ≡ armed = eqb-true _ _ t.1 in
      record { who = it.who; decision = it.decision; is = refl; cell_is = c; armed_is = a; fate = rw (← c, ← a) fated }

  come_go : (x : Noted) (xs : List Noted) (cell armed : ℕ) (f : Fate) → IsFate fates (stamp_of x) (domain_of x) (decided_by x.label x.away) → fates cell armed ≡ Some f
      → (f.stamp ≡ stamp_of x → f.maker ≡ domain_of x → ⊥) → comes xs cell armed ≡ false → (b : Bool) → is_that cell armed (decided_by x.label x.away) ≡ b → (b || comes xs cell armed) ≡ false
  come_go x xs cell armed f fated e never ih true h =
      let t : Hit (stamp_of x) (domain_of x) cell armed (decided_by x.label x.away) = hit (stamp_of x) (domain_of x) cell armed (decided_by x.label x.away) fated h in
      let g : Fate = record { decision = t.decision; stamp = stamp_of x; maker = domain_of x } in
      let q : f ≡ g = same_fate f g (sym e ∙ t.fate) in
      absurd (never (ap (λ (k : Fate). k.stamp) q) (ap (λ (k : Fate). k.maker) q))
  come_go x xs cell armed f fated e never ih false h = ih

  -- a decision that isn't after the last line doesn't come
  pub not_come : (last : ℕ × ℕ) (xs : List Noted) (cell armed : ℕ) (f : Fate) → Rises last xs → AllSound fates xs → fates cell armed ≡ Some f → IsNotAfter f last → comes xs cell armed ≡ false
  not_come last [] cell armed f rises sound e n = refl
  not_come last (x ∷ xs) cell armed f rises sound e n =
      let l : IsBefore f x = before_next f last x n rises.0 in
      come_go x xs cell armed f sound.0.fated e (not_its_own f x l) (not_come (key_of x) xs cell armed f rises.1 sound.1 e (not_after_next f x l)) (is_that cell armed (decided_by x.label x.away)) refl

  -- nor does one with a stamp below that of the next line
  pub not_earlier : (last : ℕ × ℕ) (x : Noted) (xs : List Noted) (cell armed : ℕ) (f : Fate) → Rises last (x ∷ xs) → AllSound fates (x ∷ xs) → fates cell armed ≡ Some f → f.stamp < stamp_of x → comes (x ∷ xs) cell armed ≡ false
  not_earlier last x xs cell armed f rises sound e l =
      come_go x xs cell armed f sound.0.fated e (not_its_own f x (inl l)) (not_come (key_of x) xs cell armed f rises.1 sound.1 e (inl l)) (is_that cell armed (decided_by x.label x.away)) refl

  -- ## Messages

  late_go : (last : ℕ × ℕ) (receiver : ℕ) (away : Option Letter) (stamp : ℕ) (rest : List Message) (m : Message) (ms : List Message) → HasStamp stamp away → last.0 ≤ stamp
      → (rest ≡ m ∷ ms → last.0 ≤ message_stamp m) → sent_to receiver away rest ≡ m ∷ ms → last.0 ≤ message_stamp m
  late_go last receiver None stamp rest m ms has l ih e = ih e
  late_go last receiver (Some letter) stamp rest m ms has l ih e = go (letter.receiver == receiver) e
    where
      go : (b : Bool) → elim b [ true ↦ letter.message ∷ rest | false ↦ rest ] ≡ m ∷ ms → last.0 ≤ message_stamp m
      go true e = let q : letter.message ≡ m = ap (λ (l : List Message). elim l [ [] ↦ letter.message | k ∷ ks ↦ k ]) e in let s : message_stamp letter.message ≡ message_stamp m = ap message_stamp q in omega arith
      go false e = ih e

  -- the messages that are still to be sent have stamps not below the last line's
  pub not_sent_below : (last : ℕ × ℕ) (sender receiver : ℕ) (xs : List Noted) (m : Message) (ms : List Message) → Rises last xs → AllSound fates xs → sends sender receiver xs ≡ m ∷ ms → last.0 ≤ message_stamp m
  not_sent_below last sender receiver [] m ms rises sound e = absurd (cc)
  not_sent_below last sender receiver (x ∷ xs) m ms rises sound e =
      go (domain_of x == sender) (λ q. let l : stamp_of x ≤ message_stamp m = not_sent_below (key_of x) sender receiver xs m ms rises.1 sound.1 q in let k : last.0 ≤ stamp_of x = not_below_last last x rises.0 in omega arith) e
    where
      go : (b : Bool) → (sends sender receiver xs ≡ m ∷ ms → last.0 ≤ message_stamp m)
          → elim b [ true ↦ sent_to receiver x.away (sends sender receiver xs) | false ↦ sends sender receiver xs ] ≡ m ∷ ms → last.0 ≤ message_stamp m
      go true ih e = late_go last receiver x.away (stamp_of x) (sends sender receiver xs) m ms sound.0.stamp (not_below_last last x rises.0) ih e
      go false ih e = ih e

pub same_both : {A : Type 0} (it : A) (b : Bool) → elim b [ true ↦ it | false ↦ it ] ≡ it
same_both it true = refl
same_both it false = refl

-- a line that sends nothing to another domain
pub sends_none : (sender receiver : ℕ) (x : Noted) (xs : List Noted) → x.away ≡ None → sends sender receiver (x ∷ xs) ≡ sends sender receiver xs
sends_none sender receiver x xs e = ap (λ (away : Option Letter). elim (domain_of x == sender) [ true ↦ sent_to receiver away (sends sender receiver xs) | false ↦ sends sender receiver xs ]) e ∙ same_both (sends sender receiver xs) (domain_of x == sender)

-- a line that takes nothing
pub takes_none : (receiver sender : ℕ) (x : Noted) (xs : List Noted) → ((rest : List Message) → taken x.label rest ≡ rest) → takes receiver sender (x ∷ xs) ≡ takes receiver sender xs
takes_none receiver sender x xs none =
    ap (λ (all : List Message). elim (domain_of x == receiver && x.from == sender) [ true ↦ all | false ↦ takes receiver sender xs ]) (none (takes receiver sender xs))
    ∙ same_both (takes receiver sender xs) (domain_of x == receiver && x.from == sender)

-- a line that takes of this sender to this receiver, and any other line
pub takes_its : (receiver sender : ℕ) (x : Noted) (xs : List Noted) → (domain_of x == receiver && x.from == sender) ≡ true → takes receiver sender (x ∷ xs) ≡ taken x.label (takes receiver sender xs)
takes_its receiver sender x xs e = ap (λ (b : Bool). elim b [ true ↦ taken x.label (takes receiver sender xs) | false ↦ takes receiver sender xs ]) e

pub takes_others : (receiver sender : ℕ) (x : Noted) (xs : List Noted) → (domain_of x == receiver && x.from == sender) ≡ false → takes receiver sender (x ∷ xs) ≡ takes receiver sender xs
takes_others receiver sender x xs e = ap (λ (b : Bool). elim b [ true ↦ taken x.label (takes receiver sender xs) | false ↦ takes receiver sender xs ]) e

same_test : (a b : ℕ) → (a == b) ≡ (b == a)
same_test a b = by_test (λ t. t ≡ (b == a)) (a == b)
    (λ e. sym (eq-eqb b a (sym (eqb-true a b e))))
    (λ e. by_test (λ t. false ≡ t) (b == a) (λ f. absurd (true≢false (sym (eq-eqb a b (sym (eqb-true b a f))) ∙ e))) (λ f. refl))

-- whom a call resumes stands in one of its two messages
resumed_go : (d stamp : ℕ) (who : Waiter) (given : Outcome) (b : Bool)
    → first_of (resumed (elim b [ true ↦ Some (message_of stamp (Resumes who given)) | false ↦ None ]))
    (resumed (sent_away (elim b [ true ↦ None | false ↦ Some (record { receiver = who.domain; message = message_of stamp (Resumes who given) }) ]))) ≡ Some who
resumed_go d stamp who given true = refl
resumed_go d stamp who given false = refl

started_go : (d stamp : ℕ) (start : Start) (b : Bool)
    → first_of (resumed (elim b [ true ↦ Some (message_of stamp (Starts start)) | false ↦ None ]))
    (resumed (sent_away (elim b [ true ↦ None | false ↦ Some (record { receiver = start.domain; message = message_of stamp (Starts start) }) ]))) ≡ None
started_go d stamp start true = refl
started_go d stamp start false = refl

-- the wait that a call wakes
abbrev pub woken_in : Option Sent → Option Waiter
woken_in None = None
woken_in (Some (Resumes who given)) = Some who
woken_in (Some (Starts start)) = None

pub resumed_is : (d stamp : ℕ) (sent : Option Sent) → first_of (resumed (mine_of d stamp sent)) (resumed (sent_away (away_of d stamp sent))) ≡ woken_in sent
resumed_is d stamp None = refl
resumed_is d stamp (Some (Resumes who given)) = resumed_go d stamp who given (who.domain == d)
resumed_is d stamp (Some (Starts start)) = started_go d stamp start (start.domain == d)

-- what a call sends stands last in its post
post_go : (m : Message) (ps rest : List Message) (a b c d : Bool) → a ≡ c → b ≡ d
    → elim (a && b) [ true ↦ ps ++ m ∷ [] | false ↦ ps ] ++ rest ≡ ps ++ elim d [ true ↦ elim c [ true ↦ m ∷ rest | false ↦ rest ] | false ↦ rest ]
post_go m ps rest a b true true e f = rw (e, f) (append_assoc ps (m ∷ []) rest)
post_go m ps rest a b true false e f = rw (e, f) refl
post_go m ps rest a b false true e f = rw e refl
post_go m ps rest a b false false e f = rw e refl

abbrev in_post : Bool → (d : ℕ) → (receiver : ℕ) → Message → ((receiver sender : ℕ) → List Message) → (receiver sender : ℕ) → List Message
in_post own d receiver message posts =
    elim own [ true ↦ posts | false ↦ λ r s. elim (r == receiver && s == d) [ true ↦ posts r s ++ message ∷ [] | false ↦ posts r s ] ]

pub posted_last : (d stamp : ℕ) (sent : Option Sent) (posts : (receiver sender : ℕ) → List Message) (receiver sender : ℕ) (rest : List Message)
    → posted d stamp sent posts receiver sender ++ rest ≡ posts receiver sender ++ elim (d == sender) [ true ↦ sent_to receiver (away_of d stamp sent) rest | false ↦ rest ]
posted_last d stamp None posts receiver sender rest = ap (λ (l : List Message). posts receiver sender ++ l) (sym (same_both rest (d == sender)))
posted_last d stamp (Some sent) posts receiver sender rest = go (receiver_of sent == d)
  where
    go : (own : Bool) → in_post own d (receiver_of sent) (message_of stamp sent) posts receiver sender ++ rest
        ≡ posts receiver sender ++ elim (d == sender) [
          | true ↦ sent_to receiver (elim own [ true ↦ None | false ↦ Some (record { receiver = receiver_of sent; message = message_of stamp sent }) ]) rest
          | false ↦ rest
        ]
    go true = ap (λ (l : List Message). posts receiver sender ++ l) (sym (same_both rest (d == sender)))
    go false = post_go (message_of stamp sent) (posts receiver sender) rest (receiver == receiver_of sent) (sender == d) (receiver_of sent == receiver) (d == sender) (same_test receiver (receiver_of sent)) (same_test sender d)
