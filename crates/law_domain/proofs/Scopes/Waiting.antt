-- Who waits for the objects that domains share: whoever stands in a list of an object, or is to be resumed by a message, is parked in that wait, and there is one such
-- place for each fiber. Calls, strikes and taken messages keep that.
use Rattle.std.proofs.Common.{◌≡◌, ℕ, zero, suc, ◌+◌, ◌≤◌, ◌==◌, ◌&&◌, Bool, true, false, List, [], ◌∷◌, ◌++◌, Option, Some, None, refl, sym, ap, ◌∙◌, subst, arith, slice_set, slice_get, eq-eqb}
use Rattle.std.specs.Prelude.{take, drop}
use Rattle.std.proofs.lemmas.Bool.{both_ways, eqb-true}
use Rattle.eio_value.specs.declared.message.Message.{Message}
use Rattle.eio_value.specs.declared.message.Message.TheVariants as message
use Rattle.eio_value.specs.declared.message.Waiter.{Waiter}
use Rattle.eio_value.specs.declared.raised.Outcome.{Outcome}
use Rattle.eio_value.specs.declared.value.Value.{Value}
use Rattle.eio_value.specs.Sending.{Sent, Start, Resumes, Starts}
use Rattle.spec_parts.specs.ResumeWords.{Decision, Woken}
use Rattle.spec_parts.specs.Row.{Row, Queued, Stepped}
use Rattle.spec_machine.specs.Domain.{OnObject, Parked, DomainState}
use Rattle.spec_machine.specs.Runs.{put}
use Rattle.spec_machine.specs.Shared.{SharedState, Decided, Asked, row_at, decision_of, message_of, receiver_of, posted, with_woken, after_call, strike_wins, after_strike, after_take}
use Rattle.law_domain.proofs.Scopes.Counts.{times, Compared, Same, Other, compared, one}
use Rattle.law_domain.proofs.Scopes.Scopes.{view, standing_at}
use Rattle.law_domain.proofs.Scopes.Objects.{Every, every_weaker, every_append, RowOf, Key, in_row, in_rows, Fewer, WakesNobody, set_all, at_all, set_count, rows_stay, rows_weaker, struck_rows, struck_all, struck_count, struck_none, the_wait}

-- ## Words

-- a number that tells the fibers of one domain apart; no fiber of another has one of these
pub key_of : (domain : ℕ) → Key
key_of d who = elim (who.domain == d) [ true ↦ suc who.fiber | false ↦ 0 ]

pub key_is : (d g : ℕ) (who : Waiter) → key_of d who ≡ suc g → (who.domain ≡ d) × (who.fiber ≡ g)
unfolding key_of
key_is d g who = by (who.domain == d) refl
  where
    by : (b : Bool) → (who.domain == d) ≡ b → elim b as (λ _. ℕ) [ true ↦ suc who.fiber | false ↦ 0 ] ≡ suc g → (who.domain ≡ d) × (who.fiber ≡ g)
    by true is e = (eqb-true who.domain d is, omega (arith, e))
    by false is e = absurd (omega (arith, e))

pub key_at : (who : Waiter) → key_of who.domain who ≡ suc who.fiber
unfolding key_of
key_at who = ap (λ (b : Bool). elim b as (λ _. ℕ) [ true ↦ suc who.fiber | false ↦ 0 ]) (eq-eqb who.domain who.domain refl)

-- the fibers that these messages resume
abbrev pub resumed : List Message → List ℕ
resumed [] = []
resumed (message.Resume who result stamp ∷ others) = who.fiber ∷ resumed others
resumed (message.Start job number stamp ∷ others) = resumed others

-- the wait was woken or cancelled
abbrev pub IsDecided : List Decided → Waiter → Type 0
IsDecided decided who = decision_of decided who.cell who.armed ≡ None → ⊥

abbrev pub Locals : Type 0
Locals = ℕ → DomainState

abbrev pub StoodIn : Locals → Queued → Type 0
StoodIn locals q = standing_at (view (locals q.who.domain)) q.who.fiber ≡ Parked (OnObject q.who)

abbrev pub SentIn : Locals → List Decided → (domain : ℕ) → Message → Type 0
SentIn locals decided d (message.Resume who result stamp) = (standing_at (view (locals d)) who.fiber ≡ Parked (OnObject who)) × IsDecided decided who
SentIn locals decided d (message.Start job number stamp) = Unit {0}

-- whoever stands in a list of an object, or is to be resumed by a message, is parked in that wait; and there is one such place for each fiber
pub record Waits (locals : Locals) (s : SharedState) : Type 0 where
  pub stand : Every (RowOf (StoodIn locals)) s.rows
  pub sent : (d e : ℕ) → Every (SentIn locals s.decided d) (s.posts d e)
  pub once : (d g e : ℕ) → in_rows (key_of d) (suc g) s.rows + times g (resumed (s.posts d e)) ≤ 1
  pub apart : (d g e f : ℕ) → (e ≡ f → ⊥) → times g (resumed (s.posts d e)) + times g (resumed (s.posts d f)) ≤ 1

-- ## Domains change

pub data PutAt (d : ℕ) (k : DomainState) (locals : Locals) (e : ℕ) : Type 0 where
  Put : d ≡ e → put d k locals e ≡ k → PutAt d k locals e
  Remains : (d ≡ e → ⊥) → put d k locals e ≡ locals e → PutAt d k locals e

pub put_at : (d : ℕ) (k : DomainState) (locals : Locals) (e : ℕ) → PutAt d k locals e
put_at d k locals e = by (d == e) refl
  where
    chosen : Bool → DomainState
    chosen b = elim b as (λ _. DomainState) [ true ↦ k | false ↦ locals e ]

    by : (b : Bool) → (d == e) ≡ b → PutAt d k locals e
    by true is = Put (eqb-true d e is) (ap (λ (b : Bool). elim b as (λ _. DomainState) [ true ↦ k | false ↦ locals e ]) is)
    by false is = Remains (λ same. both_ways (d == e) is (eq-eqb d e same)) (ap (λ (b : Bool). elim b as (λ _. DomainState) [ true ↦ k | false ↦ locals e ]) is)

-- each wait for an object goes on, but that of one fiber
abbrev pub Stay : (d g : ℕ) → Locals → Locals → Type 0
Stay d g first second = (e x : ℕ) (who : Waiter) → ((e ≡ d) × (x ≡ g) → ⊥) → standing_at (view (first e)) x ≡ Parked (OnObject who) → standing_at (view (second e)) x ≡ Parked (OnObject who)

abbrev pub StayAll : Locals → Locals → Type 0
StayAll first second = (e x : ℕ) (who : Waiter) → standing_at (view (first e)) x ≡ Parked (OnObject who) → standing_at (view (second e)) x ≡ Parked (OnObject who)

sent_weaker : (first second : Locals) (decided : List Decided) (d : ℕ) → StayAll first second → (m : Message) → SentIn first decided d m → SentIn second decided d m
sent_weaker first second decided d stay (message.Resume who result stamp) it = (stay d who.fiber who it.0, it.1)
sent_weaker first second decided d stay (message.Start job number stamp) it = tt

pub waits_on : (first second : Locals) (s : SharedState) → StayAll first second → Waits first s → Waits second s
waits_on first second s stay w = record {
  stand = rows_weaker (StoodIn first) (StoodIn second) (λ q is. stay q.who.domain q.who.fiber q.who is) s.rows w.stand;
  sent = (λ d e. every_weaker (SentIn first s.decided d) (SentIn second s.decided d) (sent_weaker first second s.decided d stay) (s.posts d e) (w.sent d e));
  once = w.once;
  apart = w.apart;
}

posts_stay : (first second : Locals) (decided : List Decided) (d g e : ℕ) → Stay d g first second → (list : List Message) → (e ≡ d → times g (resumed list) ≡ 0) → Every (SentIn first decided e) list → Every (SentIn second decided e) list
posts_stay first second decided d g e stay [] none h = tt
posts_stay first second decided d g e stay (message.Start job number stamp ∷ others) none h = (tt, posts_stay first second decided d g e stay others none h.1)
posts_stay first second decided d g e stay (message.Resume who result stamp ∷ others) none h =
    ((stay e who.fiber who (λ same. another same (compared g who.fiber)) h.0.0, h.0.1), posts_stay first second decided d g e stay others (λ same. omega (arith, none same)) h.1)
  where
    another : (e ≡ d) × (who.fiber ≡ g) → Compared g who.fiber → ⊥
    another same (Same is is_one) = let n : one g who.fiber + times g (resumed others) ≡ 0 = none same.0 in omega (arith, n, is_one)
    another same (Other differs zero_) = differs (sym same.1)

-- a fiber that stands nowhere any more goes on
pub waits_freed : (d g : ℕ) (first second : Locals) (s : SharedState) → Stay d g first second → in_rows (key_of d) (suc g) s.rows ≡ 0 → ((e : ℕ) → times g (resumed (s.posts d e)) ≡ 0) → Waits first s → Waits second s
waits_freed d g first second s stay none no_message w = record {
  stand = rows_stay (StoodIn first) (key_of d) (suc g) (StoodIn second) (λ q differs is. stay q.who.domain q.who.fiber q.who (λ same. differs (key_same q.who same)) is) s.rows none w.stand;
  sent = (λ e f. posts_stay first second s.decided d g e stay (s.posts e f) (λ same. subst (λ (x : ℕ). times g (resumed (s.posts x f)) ≡ 0) (sym same) (no_message f)) (w.sent e f));
  once = w.once;
  apart = w.apart;
}
  where
    key_same : (who : Waiter) → (who.domain ≡ d) × (who.fiber ≡ g) → key_of d who ≡ suc g
    key_same who same = subst (λ (x : ℕ). key_of x who ≡ suc g) same.0 (key_at who ∙ ap suc same.1)

-- ## Waits that are decided

more_decided : (latest : Decided) (decided : List Decided) (who : Waiter) → IsDecided decided who → IsDecided (latest ∷ decided) who
more_decided latest decided who is = by (latest.cell == who.cell && latest.armed == who.armed)
  where
    by : (b : Bool) → elim b as (λ _. Option Decision) [ true ↦ Some latest.decision | false ↦ decision_of decided who.cell who.armed ] ≡ None → ⊥
    by true none = cc
    by false none = is none

and_true : (a b : Bool) → a ≡ true → b ≡ true → (a && b) ≡ true
and_true a b p q = ap (λ (x : Bool). x && b) p ∙ q

woken_decided : (decided : List Decided) (who : Waiter) (how : Decision) → IsDecided (record { cell = who.cell; armed = who.armed; decision = how } ∷ decided) who
woken_decided decided who how none = let e : Some how ≡ None = sym (ap (λ (b : Bool). elim b as (λ _. Option Decision) [ true ↦ Some how | false ↦ decision_of decided who.cell who.armed ]) same) ∙ none in absurd (cc)
  where
    same : (who.cell == who.cell && who.armed == who.armed) ≡ true
    same = and_true (who.cell == who.cell) (who.armed == who.armed) (eq-eqb who.cell who.cell refl) (eq-eqb who.armed who.armed refl)

sent_decided : (locals : Locals) (latest : Decided) (decided : List Decided) (d : ℕ) (m : Message) → SentIn locals decided d m → SentIn locals (latest ∷ decided) d m
sent_decided locals latest decided d (message.Resume who result stamp) it = (it.0, more_decided latest decided who it.1)
sent_decided locals latest decided d (message.Start job number stamp) it = tt

all_decided : (locals : Locals) (latest : Decided) (decided : List Decided) (d : ℕ) (list : List Message) → Every (SentIn locals decided d) list → Every (SentIn locals (latest ∷ decided) d) list
all_decided locals latest decided d list h = every_weaker (SentIn locals decided d) (SentIn locals (latest ∷ decided) d) (sent_decided locals latest decided d) list h

-- ## Messages that are sent

resumed_append : (g : ℕ) (xs : List Message) (who : Waiter) (result : Outcome) (stamp : ℕ) → times g (resumed (xs ++ message.Resume who result stamp ∷ [])) ≡ times g (resumed xs) + one g who.fiber
resumed_append g [] who result stamp = omega arith
resumed_append g (message.Resume other it at ∷ xs) who result stamp = let rest : times g (resumed (xs ++ message.Resume who result stamp ∷ [])) ≡ times g (resumed xs) + one g who.fiber = resumed_append g xs who result stamp in omega (arith, rest)
resumed_append g (message.Start job number at ∷ xs) who result stamp = resumed_append g xs who result stamp

started_append : (g : ℕ) (xs : List Message) (start : Start) (stamp : ℕ) → times g (resumed (xs ++ message_of stamp (Starts start) ∷ [])) ≡ times g (resumed xs)
started_append g [] start stamp = refl
started_append g (message.Resume other it at ∷ xs) start stamp = ap (λ n. one g other.fiber + n) (started_append g xs start stamp)
started_append g (message.Start job number at ∷ xs) start stamp = started_append g xs start stamp

-- what stands in a post after a message to another domain was sent
pub data PostedAt (d stamp : ℕ) (sent : Sent) (posts : (receiver sender : ℕ) → List Message) (r f : ℕ) : Type 0 where
  Posts : (receiver_of sent ≡ d → ⊥) → r ≡ receiver_of sent → f ≡ d → posted d stamp (Some sent) posts r f ≡ posts r f ++ message_of stamp sent ∷ [] → PostedAt d stamp sent posts r f
  Stands : posted d stamp (Some sent) posts r f ≡ posts r f → PostedAt d stamp sent posts r f

pub posted_at : (d stamp : ℕ) (sent : Sent) (posts : (receiver sender : ℕ) → List Message) (r f : ℕ) → PostedAt d stamp sent posts r f
posted_at d stamp sent posts r f = by (receiver_of sent == d) refl
  where
    parts : (a b : Bool) → (a && b) ≡ true → (a ≡ true) × (b ≡ true)
    parts true true is = (refl, refl)
    parts true false is = absurd (cc)
    parts false b is = absurd (cc)

    inner : (b : Bool) → (r == receiver_of sent && f == d) ≡ b → (receiver_of sent == d) ≡ false → PostedAt d stamp sent posts r f
    inner true is other =
        let parts_of = parts (r == receiver_of sent) (f == d) is in
        Posts (λ same. both_ways (receiver_of sent == d) other (eq-eqb (receiver_of sent) d same)) (eqb-true r (receiver_of sent) parts_of.0) (eqb-true f d parts_of.1)
        (ap (λ (b : Bool). (elim b as (λ _. (receiver sender : ℕ) → List Message) [ true ↦ posts | false ↦ λ receiver sender. elim (receiver == receiver_of sent && sender == d) [ true ↦ posts receiver sender ++ message_of stamp sent ∷ [] | false ↦ posts receiver sender ] ]) r f) other
        ∙ ap (λ (b : Bool). elim b as (λ _. List Message) [ true ↦ posts r f ++ message_of stamp sent ∷ [] | false ↦ posts r f ]) is)
    inner false is other =
        Stands (ap (λ (b : Bool). (elim b as (λ _. (receiver sender : ℕ) → List Message) [ true ↦ posts | false ↦ λ receiver sender. elim (receiver == receiver_of sent && sender == d) [ true ↦ posts receiver sender ++ message_of stamp sent ∷ [] | false ↦ posts receiver sender ] ]) r f) other
        ∙ ap (λ (b : Bool). elim b as (λ _. List Message) [ true ↦ posts r f ++ message_of stamp sent ∷ [] | false ↦ posts r f ]) is)

    by : (b : Bool) → (receiver_of sent == d) ≡ b → PostedAt d stamp sent posts r f
    by true is = Stands (ap (λ (b : Bool). (elim b as (λ _. (receiver sender : ℕ) → List Message) [ true ↦ posts | false ↦ λ receiver sender. elim (receiver == receiver_of sent && sender == d) [ true ↦ posts receiver sender ++ message_of stamp sent ∷ [] | false ↦ posts receiver sender ] ]) r f) is)
    by false is = inner (r == receiver_of sent && f == d) refl is

-- ## What a call leaves

module _ (locals : Locals) (s : SharedState) (w : Waits locals s) (d stamp : ℕ) (asked : Asked) where
  abbrev row : Row
  row = row_at s.rows asked.object

  -- nobody is woken
  pub quiet_waits : (came : Stepped) → Fewer row came.row → WakesNobody came.sent → Waits locals (after_call s d stamp asked came)
  quiet_waits came fewer nobody = by came.sent nobody
    where
      stand : Every (RowOf (StoodIn locals)) (slice_set s.rows asked.object came.row)
      stand = set_all (StoodIn locals) s.rows asked.object came.row w.stand (fewer.all (StoodIn locals) (at_all (StoodIn locals) s.rows asked.object w.stand))

      less : (key : Key) (g : ℕ) → in_rows key g (slice_set s.rows asked.object came.row) ≤ in_rows key g s.rows
      less key g = omega (arith, set_count key g s.rows asked.object came.row, fewer.count key g)

      by : (sent : Option Sent) → WakesNobody sent → Waits locals (record { rows = slice_set s.rows asked.object came.row; stamps = slice_set s.stamps asked.object stamp; decided = with_woken sent s.decided; posts = posted d stamp sent s.posts })
      by None it = record { stand = stand; sent = w.sent; once = (λ e g f. omega (arith, w.once e g f, less (key_of e) (suc g))); apart = w.apart }
      by (Some (Resumes who result)) it = absurd it
      by (Some (Starts start)) it = record {
        stand = stand;
        sent = (λ e f. sent_by e f (posted_at d stamp (Starts start) s.posts e f));
        once = (λ e g f. let n : times g (resumed (posted d stamp (Some (Starts start)) s.posts e f)) ≡ times g (resumed (s.posts e f)) = count_by e g f (posted_at d stamp (Starts start) s.posts e f) in omega (arith, w.once e g f, less (key_of e) (suc g), n));
        apart = (λ e g f h differs. omega (arith, w.apart e g f h differs, count_by e g f (posted_at d stamp (Starts start) s.posts e f), count_by e g h (posted_at d stamp (Starts start) s.posts e h)));
      }
        where
          sent_by : (e f : ℕ) → PostedAt d stamp (Starts start) s.posts e f → Every (SentIn locals s.decided e) (posted d stamp (Some (Starts start)) s.posts e f)
          sent_by e f (Stands is) = subst (Every (SentIn locals s.decided e)) (sym is) (w.sent e f)
          sent_by e f (Posts other r q is) = subst (Every (SentIn locals s.decided e)) (sym is) (every_append (SentIn locals s.decided e) (s.posts e f) (message_of stamp (Starts start) ∷ []) (w.sent e f) (tt, tt))

          count_by : (e g f : ℕ) → PostedAt d stamp (Starts start) s.posts e f → times g (resumed (posted d stamp (Some (Starts start)) s.posts e f)) ≡ times g (resumed (s.posts e f))
          count_by e g f (Stands is) = ap (λ (list : List Message). times g (resumed list)) is
          count_by e g f (Posts other r q is) = ap (λ (list : List Message). times g (resumed list)) is ∙ started_append g (s.posts e f) start stamp

  -- the caller waits
  pub entered_waits : (came : Stepped) → came.sent ≡ None
      → ((P : Queued → Type 0) → ((item : Value) (number : ℕ) → P (record { who = asked.who; item = item; number = number })) → RowOf P row → RowOf P came.row)
      → ((key : Key) (g : ℕ) → in_row key g came.row ≤ in_row key g row + one g (key asked.who))
      → standing_at (view (locals asked.who.domain)) asked.who.fiber ≡ Parked (OnObject asked.who)
      → in_rows (key_of asked.who.domain) (suc asked.who.fiber) s.rows ≡ 0 → ((e : ℕ) → times asked.who.fiber (resumed (s.posts asked.who.domain e)) ≡ 0)
      → Waits locals (after_call s d stamp asked came)
  entered_waits came sent all count is none no_message =
      subst (λ (o : Option Sent). Waits locals (record { rows = slice_set s.rows asked.object came.row; stamps = slice_set s.stamps asked.object stamp; decided = with_woken o s.decided; posts = posted d stamp o s.posts })) (sym sent)
      (record {
        stand = set_all (StoodIn locals) s.rows asked.object came.row w.stand (all (StoodIn locals) (λ item number. is) (at_all (StoodIn locals) s.rows asked.object w.stand));
        sent = w.sent;
        once = (λ e g f. once_by e g f (compared (suc g) (key_of e asked.who)));
        apart = w.apart;
      })
    where
      once_by : (e g f : ℕ) → Compared (suc g) (key_of e asked.who) → in_rows (key_of e) (suc g) (slice_set s.rows asked.object came.row) + times g (resumed (s.posts e f)) ≤ 1
      once_by e g f (Other differs zero_) = omega (arith, w.once e g f, set_count (key_of e) (suc g) s.rows asked.object came.row, count (key_of e) (suc g), zero_)
      once_by e g f (Same same is_one) =
          let it = key_is e g asked.who (sym same) in
          let none_g : in_rows (key_of e) (suc g) s.rows ≡ 0 = subst (λ (x : ℕ). in_rows (key_of x) (suc g) s.rows ≡ 0) it.0 (subst (λ (x : ℕ). in_rows (key_of asked.who.domain) (suc x) s.rows ≡ 0) it.1 none) in
          let no_g : times g (resumed (s.posts e f)) ≡ 0 = subst (λ (x : ℕ). times g (resumed (s.posts x f)) ≡ 0) it.0 (subst (λ (x : ℕ). times x (resumed (s.posts asked.who.domain f)) ≡ 0) it.1 (no_message f)) in
          omega (arith, none_g, no_g, set_count (key_of e) (suc g) s.rows asked.object came.row, count (key_of e) (suc g), is_one)

  -- someone is woken
  module _ (came : Stepped) (q : Queued) (result : Outcome) (sent_is : came.sent ≡ Some (Resumes q.who result)) (stood : StoodIn locals q) (fewer : Fewer row came.row)
      (less : (key : Key) → in_row key (key q.who) came.row + 1 ≤ in_row key (key q.who) row) where
    less_there : in_rows (key_of q.who.domain) (suc q.who.fiber) (slice_set s.rows asked.object came.row) + 1 ≤ in_rows (key_of q.who.domain) (suc q.who.fiber) s.rows
    less_there =
        let own : in_row (key_of q.who.domain) (suc q.who.fiber) came.row + 1 ≤ in_row (key_of q.who.domain) (suc q.who.fiber) row =
        subst (λ (k : ℕ). in_row (key_of q.who.domain) k came.row + 1 ≤ in_row (key_of q.who.domain) k row) (key_at q.who) (less (key_of q.who.domain)) in
        omega (arith, own, set_count (key_of q.who.domain) (suc q.who.fiber) s.rows asked.object came.row)

    pub woken_gone : in_rows (key_of q.who.domain) (suc q.who.fiber) (slice_set s.rows asked.object came.row) ≡ 0
    woken_gone = omega (arith, less_there, w.once q.who.domain q.who.fiber 0)

    pub woken_unsent : (e : ℕ) → times q.who.fiber (resumed (s.posts q.who.domain e)) ≡ 0
    woken_unsent e = omega (arith, less_there, w.once q.who.domain q.who.fiber e)

    abbrev wake : Sent
    wake = Resumes q.who result

    abbrev decided_now : List Decided
    decided_now = record { cell = q.who.cell; armed = q.who.armed; decision = Woken } ∷ s.decided

    sent_by : (e f : ℕ) → PostedAt d stamp wake s.posts e f → Every (SentIn locals decided_now e) (posted d stamp (Some wake) s.posts e f)
    sent_by e f (Stands is) = subst (Every (SentIn locals decided_now e)) (sym is) (all_decided locals _ s.decided e (s.posts e f) (w.sent e f))
    sent_by e f (Posts other r from is) =
        subst (Every (SentIn locals decided_now e)) (sym is)
        (every_append (SentIn locals decided_now e) (s.posts e f) (message_of stamp wake ∷ []) (all_decided locals _ s.decided e (s.posts e f) (w.sent e f))
        ((subst (λ (x : ℕ). standing_at (view (locals x)) q.who.fiber ≡ Parked (OnObject q.who)) (sym r) stood, woken_decided s.decided q.who Woken), tt))

    -- how often a fiber is to be resumed then
    data Counted (e g f : ℕ) : Type 0 where
      AsBefore : times g (resumed (posted d stamp (Some wake) s.posts e f)) ≡ times g (resumed (s.posts e f)) → Counted e g f
      ItsOwn : e ≡ q.who.domain → g ≡ q.who.fiber → f ≡ d → times g (resumed (posted d stamp (Some wake) s.posts e f)) ≡ 1 → Counted e g f

    counted_at : (e g f : ℕ) → Counted e g f
    counted_at e g f = by (posted_at d stamp wake s.posts e f)
      where
        own : e ≡ q.who.domain → f ≡ d → times g (resumed (posted d stamp (Some wake) s.posts e f)) ≡ times g (resumed (s.posts e f)) + one g q.who.fiber → Compared g q.who.fiber → Counted e g f
        own r from is (Other differs zero_) = AsBefore (omega (arith, is, zero_))
        own r from is (Same same is_one) =
            let unsent : times g (resumed (s.posts e f)) ≡ 0 = subst (λ (x : ℕ). times g (resumed (s.posts x f)) ≡ 0) (sym r) (subst (λ (x : ℕ). times x (resumed (s.posts q.who.domain f)) ≡ 0) (sym same) (woken_unsent f)) in
            ItsOwn r same from (omega (arith, is, is_one, unsent))

        by : PostedAt d stamp wake s.posts e f → Counted e g f
        by (Stands is) = AsBefore (ap (λ (list : List Message). times g (resumed list)) is)
        by (Posts other r from is) = own r from (ap (λ (list : List Message). times g (resumed list)) is ∙ resumed_append g (s.posts e f) q.who result stamp) (compared g q.who.fiber)

    once_by : (e g f : ℕ) → Counted e g f → in_rows (key_of e) (suc g) (slice_set s.rows asked.object came.row) + times g (resumed (posted d stamp (Some wake) s.posts e f)) ≤ 1
    once_by e g f (AsBefore is) = omega (arith, is, w.once e g f, set_count (key_of e) (suc g) s.rows asked.object came.row, fewer.count (key_of e) (suc g))
    once_by e g f (ItsOwn r same from is) =
        let gone : in_rows (key_of e) (suc g) (slice_set s.rows asked.object came.row) ≡ 0 =
        subst (λ (x : ℕ). in_rows (key_of x) (suc g) (slice_set s.rows asked.object came.row) ≡ 0) (sym r) (subst (λ (x : ℕ). in_rows (key_of q.who.domain) (suc x) (slice_set s.rows asked.object came.row) ≡ 0) (sym same) woken_gone) in
        omega (arith, gone, is)

    unsent_at : (e g f : ℕ) → e ≡ q.who.domain → g ≡ q.who.fiber → times g (resumed (s.posts e f)) ≡ 0
    unsent_at e g f r same = subst (λ (x : ℕ). times g (resumed (s.posts x f)) ≡ 0) (sym r) (subst (λ (x : ℕ). times x (resumed (s.posts q.who.domain f)) ≡ 0) (sym same) (woken_unsent f))

    apart_by : (e g f h : ℕ) → (f ≡ h → ⊥) → Counted e g f → Counted e g h → times g (resumed (posted d stamp (Some wake) s.posts e f)) + times g (resumed (posted d stamp (Some wake) s.posts e h)) ≤ 1
    apart_by e g f h differs (AsBefore is) (AsBefore other) = omega (arith, is, other, w.apart e g f h differs)
    apart_by e g f h differs (AsBefore is) (ItsOwn r same from other) = omega (arith, is, other, unsent_at e g f r same)
    apart_by e g f h differs (ItsOwn r same from is) (AsBefore other) = omega (arith, is, other, unsent_at e g h r same)
    apart_by e g f h differs (ItsOwn r same from is) (ItsOwn r' same' from' other) = absurd (differs (from ∙ sym from'))

    pub woken_waits : Waits locals (after_call s d stamp asked came)
    woken_waits =
        subst (λ (o : Option Sent). Waits locals (record { rows = slice_set s.rows asked.object came.row; stamps = slice_set s.stamps asked.object stamp; decided = with_woken o s.decided; posts = posted d stamp o s.posts })) (sym sent_is)
        (record {
          stand = set_all (StoodIn locals) s.rows asked.object came.row w.stand (fewer.all (StoodIn locals) (at_all (StoodIn locals) s.rows asked.object w.stand));
          sent = (λ e f. sent_by e f (posted_at d stamp wake s.posts e f));
          once = (λ e g f. once_by e g f (counted_at e g f));
          apart = (λ e g f h differs. apart_by e g f h differs (counted_at e g f) (counted_at e g h));
        })

-- ## Strikes

wins_none : (s : SharedState) (who : Waiter) → strike_wins s who ≡ true → decision_of s.decided who.cell who.armed ≡ None
wins_none s who won = by (decision_of s.decided who.cell who.armed) won
  where
    by : (found : Option Decision) → elim found as (λ _. Bool) [ None ↦ true | Some decision ↦ false ] ≡ true → found ≡ None
    by None is = refl
    by (Some decision) is = absurd (cc)

-- a fiber whose wait isn't decided isn't to be resumed by a message
unsent_list : (locals : Locals) (decided : List Decided) (d g : ℕ) (who : Waiter) → standing_at (view (locals d)) g ≡ Parked (OnObject who) → decision_of decided who.cell who.armed ≡ None → (list : List Message) → Every (SentIn locals decided d) list
    → times g (resumed list) ≡ 0
unsent_list locals decided d g who is none [] h = refl
unsent_list locals decided d g who is none (message.Start job number stamp ∷ others) h = unsent_list locals decided d g who is none others h.1
unsent_list locals decided d g who is none (message.Resume other result stamp ∷ others) h = by (compared g other.fiber) (unsent_list locals decided d g who is none others h.1)
  where
    by : Compared g other.fiber → times g (resumed others) ≡ 0 → one g other.fiber + times g (resumed others) ≡ 0
    by (Other differs zero_) rest = omega (arith, zero_, rest)
    by (Same same is_one) rest =
        let equal : who ≡ other = the_wait who other (sym is ∙ subst (λ (x : ℕ). standing_at (view (locals d)) x ≡ Parked (OnObject other)) (sym same) h.0.0) in
        absurd (h.0.1 (subst (λ (w : Waiter). decision_of decided w.cell w.armed ≡ None) equal none))

pub record StruckThen (locals : Locals) (s : SharedState) (who : Waiter) (d g : ℕ) : Type 0 where
  pub waits : Waits locals (after_strike s who true)
  pub gone : in_rows (key_of d) (suc g) (struck_rows who s.rows) ≡ 0
  pub unsent : (e : ℕ) → times g (resumed (s.posts d e)) ≡ 0

pub struck_then : (locals : Locals) (s : SharedState) (who : Waiter) (d g : ℕ) → Waits locals s → standing_at (view (locals d)) g ≡ Parked (OnObject who) → strike_wins s who ≡ true → StruckThen locals s who d g
struck_then locals s who d g w is won = record {
  waits = record {
    stand = struck_all (StoodIn locals) who s.rows w.stand;
    sent = (λ e f. all_decided locals _ s.decided e (s.posts e f) (w.sent e f));
    once = (λ e x f. omega (arith, w.once e x f, struck_count (key_of e) (suc x) who s.rows));
    apart = w.apart;
  };
  gone = struck_none (StoodIn locals) (key_of d) (suc g) who one_wait s.rows w.stand;
  unsent = (λ e. unsent_list locals s.decided d g who is (wins_none s who won) (s.posts d e) (w.sent d e));
}
  where
    one_wait : (q : Queued) → key_of d q.who ≡ suc g → StoodIn locals q → who ≡ q.who
    one_wait q same stood =
        let it = key_is d g q.who same in
        the_wait who q.who (sym is ∙ subst (λ (x : ℕ). standing_at (view (locals d)) x ≡ Parked (OnObject q.who)) it.1 (subst (λ (e : ℕ). standing_at (view (locals e)) q.who.fiber ≡ Parked (OnObject q.who)) it.0 stood))

-- ## Messages that are taken

record TakenFrom (xs left : List Message) (m : Message) : Type 1 where
  all : (P : Message → Type 0) → Every P xs → P m × Every P left
  count : (g : ℕ) → times g (resumed left) + times g (resumed (m ∷ [])) ≡ times g (resumed xs)

abbrev left_by : ℕ → List Message → List Message
left_by place xs = take place xs ++ drop (place + 1) xs

taken_from : (xs : List Message) (place : ℕ) (m : Message) → slice_get xs place ≡ Some m → TakenFrom xs (left_by place xs) m
taken_from [] place m is = absurd (cc)
taken_from (x ∷ xs) zero m is =
    let same : x ≡ m = same_some x m is in
    record { all = (λ P h. (subst P same h.0, h.1)); count = (λ g. subst (λ (y : Message). times g (resumed xs) + times g (resumed (y ∷ [])) ≡ times g (resumed (x ∷ xs))) same (by x g)) }
  where
    same_some : (a b : Message) → Some a ≡ Some b → a ≡ b
    same_some a b e = cc

    by : (x : Message) (g : ℕ) → times g (resumed xs) + times g (resumed (x ∷ [])) ≡ times g (resumed (x ∷ xs))
    by (message.Resume who result stamp) g = omega arith
    by (message.Start job number stamp) g = omega arith
taken_from (x ∷ xs) (suc place) m is =
    let rest : TakenFrom xs (left_by place xs) m = taken_from xs place m is in
    subst (λ (n : ℕ). TakenFrom (x ∷ xs) (x ∷ (take place xs ++ drop n (x ∷ xs))) m) (let e : suc (place + 1) ≡ suc place + 1 = omega arith in e)
    (record { all = (λ P h. let it = rest.all P h.1 in (it.0, (h.0, it.1))); count = (λ g. by x g (rest.count g)) })
  where
    by : (x : Message) (g : ℕ) → times g (resumed (left_by place xs)) + times g (resumed (m ∷ [])) ≡ times g (resumed xs) → times g (resumed (x ∷ left_by place xs)) + times g (resumed (m ∷ [])) ≡ times g (resumed (x ∷ xs))
    by (message.Resume who result stamp) g e = omega (arith, e)
    by (message.Start job number stamp) g e = e

-- what stands in a post after one was taken
data TookAt (s : SharedState) (d from place e f : ℕ) : Type 0 where
  TookHere : e ≡ d → f ≡ from → (after_take s d from place).posts e f ≡ left_by place (s.posts e f) → TookAt s d from place e f
  TookElse : ((e ≡ d) × (f ≡ from) → ⊥) → (after_take s d from place).posts e f ≡ s.posts e f → TookAt s d from place e f

took_at : (s : SharedState) (d from place e f : ℕ) → TookAt s d from place e f
took_at s d from place e f = by (d == e && from == f) refl
  where
    parts : (a b : Bool) → (a && b) ≡ true → (a ≡ true) × (b ≡ true)
    parts true true is = (refl, refl)
    parts true false is = absurd (cc)
    parts false b is = absurd (cc)

    by : (b : Bool) → (d == e && from == f) ≡ b → TookAt s d from place e f
    by true is =
        let parts_of = parts (d == e) (from == f) is in
        TookHere (sym (eqb-true d e parts_of.0)) (sym (eqb-true from f parts_of.1)) (ap (λ (b : Bool). elim b as (λ _. List Message) [ true ↦ left_by place (s.posts e f) | false ↦ s.posts e f ]) is)
    by false is =
        TookElse (λ same. both_ways (d == e && from == f) is (and_true (d == e) (from == f) (eq-eqb d e (sym same.0)) (eq-eqb from f (sym same.1))))
        (ap (λ (b : Bool). elim b as (λ _. List Message) [ true ↦ left_by place (s.posts e f) | false ↦ s.posts e f ]) is)

module _ (locals : Locals) (s : SharedState) (w : Waits locals s) (d from place : ℕ) (m : Message) (is : slice_get (s.posts d from) place ≡ Some m) where
  abbrev afterwards : SharedState
  afterwards = after_take s d from place

  one_taken : TakenFrom (s.posts d from) (left_by place (s.posts d from)) m
  one_taken = taken_from (s.posts d from) place m is

  pub it_is_sent : SentIn locals s.decided d m
  it_is_sent = (one_taken.all (SentIn locals s.decided d) (w.sent d from)).0

  -- what is left there is as much less
  left_there : (e g f : ℕ) → e ≡ d → f ≡ from → times g (resumed (left_by place (s.posts e f))) + times g (resumed (m ∷ [])) ≡ times g (resumed (s.posts e f))
  left_there e g f r q =
      subst (λ (x : ℕ). times g (resumed (left_by place (s.posts x f))) + times g (resumed (m ∷ [])) ≡ times g (resumed (s.posts x f))) (sym r)
      (subst (λ (y : ℕ). times g (resumed (left_by place (s.posts d y))) + times g (resumed (m ∷ [])) ≡ times g (resumed (s.posts d y))) (sym q) (one_taken.count g))

  less_then : (e g f : ℕ) → times g (resumed (afterwards.posts e f)) ≤ times g (resumed (s.posts e f))
  less_then e g f = by (took_at s d from place e f)
    where
      by : TookAt s d from place e f → times g (resumed (afterwards.posts e f)) ≤ times g (resumed (s.posts e f))
      by (TookElse differs same) = let e : times g (resumed (afterwards.posts e f)) ≡ times g (resumed (s.posts e f)) = ap (λ (list : List Message). times g (resumed list)) same in omega (arith, e)
      by (TookHere r q same) = let x : times g (resumed (afterwards.posts e f)) ≡ times g (resumed (left_by place (s.posts e f))) = ap (λ (list : List Message). times g (resumed list)) same in omega (arith, x, left_there e g f r q)

  pub took_waits : Waits locals afterwards
  took_waits = record {
    stand = w.stand;
    sent = (λ e f. by e f (took_at s d from place e f));
    once = (λ e g f. omega (arith, w.once e g f, less_then e g f));
    apart = (λ e g f h differs. omega (arith, w.apart e g f h differs, less_then e g f, less_then e g h));
  }
    where
      by : (e f : ℕ) → TookAt s d from place e f → Every (SentIn locals s.decided e) (afterwards.posts e f)
      by e f (TookElse differs same) = subst (Every (SentIn locals s.decided e)) (sym same) (w.sent e f)
      by e f (TookHere r q same) =
          subst (Every (SentIn locals s.decided e)) (sym same)
          (subst (λ (x : ℕ). Every (SentIn locals s.decided x) (left_by place (s.posts x f))) (sym r)
          (subst (λ (y : ℕ). Every (SentIn locals s.decided d) (left_by place (s.posts d y))) (sym q) (one_taken.all (SentIn locals s.decided d) (w.sent d from)).1))

  -- of a fiber that it resumes nothing is left
  module _ (g : ℕ) (its : times g (resumed (m ∷ [])) ≡ 1) where
    pub took_gone : in_rows (key_of d) (suc g) s.rows ≡ 0
    took_gone = omega (arith, w.once d g from, one_taken.count g, its)

    pub took_unsent : (e : ℕ) → times g (resumed (afterwards.posts d e)) ≡ 0
    took_unsent e = by (took_at s d from place d e)
      where
        by : TookAt s d from place d e → times g (resumed (afterwards.posts d e)) ≡ 0
        by (TookElse differs is) = omega (arith, w.apart d g e from (λ same. differs (refl, same)), one_taken.count g, its, less_then d g e)
        by (TookHere r q is) =
            let x : times g (resumed (afterwards.posts d e)) ≡ times g (resumed (left_by place (s.posts d e))) = ap (λ (list : List Message). times g (resumed list)) is in
            omega (arith, x, left_there d g e r q, its, w.once d g e)
