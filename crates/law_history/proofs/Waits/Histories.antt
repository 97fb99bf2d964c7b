-- A mocked run beside the states of several domains, of which number 0 is the run's and no other moves.
use Rattle.std.proofs.Common.{◌≡◌, ℕ, zero, suc, ◌+◌, ◌<◌, ◌≤◌, inl, Bool, true, false, true≢false, eqb-true, eq-eqb, ne_eqb, ◌==◌, ◌&&◌, ◌||◌, not, List, [], ◌∷◌, ◌++◌, length, map, take, drop, slice_get, slice_set, Option, Some, None, refl, sym, ap, ◌∙◌, subst, arith, length-set, le_refl}
use Rattle.std.specs.Prelude.{is_some, is_none}
use Rattle.eio_value.specs.declared.message.Message.{Message}
use Rattle.eio_value.specs.declared.raised.Outcome.{Outcome}
use Rattle.eio_value.specs.Sending.{Sent}
use Rattle.spec_script.specs.Opening.{opening_texts}
use Rattle.spec_script.specs.Scripts.{Script}
use Rattle.spec_script.specs.Syntax.{Block}
use Rattle.trace_lines.specs.declared.line.Line.{Line}
use Rattle.spec_machine.specs.declared.Ending.{Ending}
use Rattle.spec_machine.specs.declared.Ending.TheVariants as ending
use Rattle.spec_machine.specs.Domain.{DomainState, nothing_made}
use Rattle.spec_machine.specs.GroupMoves.{numbers_from}
use Rattle.spec_machine.specs.Histories as histories
use Rattle.spec_machine.specs.Histories.{domain_at_first, state_at_first, domains_in, domains_of, ending_of, is_empty, has_post, Domains}
use Rattle.spec_machine.specs.Labels.{Label, Inner, Called, Struck, Mocked, Took}
use Rattle.spec_machine.specs.Mock as mocked
use Rattle.spec_machine.specs.Mock.{Mock, Moved, opening, opening_domain, first_body, has_any, move, moves}
use Rattle.spec_machine.specs.Moves.{asks, after, line_of}
use Rattle.spec_machine.specs.Runs.{Letter, Noted, domain_of, stamp_of, stamps_below, DomainMoves, SharedMoves, State, Legal, put}
use Rattle.spec_machine.specs.Shared.{SharedState, stamp_at, stepped, posted, receiver_of, message_of}
use Rattle.spec_machine.specs.Trace.{body_end, ending_by, ending_in, last_after, run}
use Rattle.law_history.proofs.Legal.Rows.{by_test, length_mapped, under_same}
use Rattle.law_run.proofs.Beginnings.{from}
use Rattle.law_run.proofs.Moves.{moves_where_something_is_left}
use Rattle.law_history.specs.Waits.Mocked.{IsShared, NoneIsLater, IsMove, AllShared, MockRunsAreLegal}
use Rattle.law_history.proofs.Waits.Mocked.{mock_moves_are_moves}
use Rattle.law_history.proofs.Waits.Numbers.{IsntMocked, keeps_number}

-- ## What a line leaves as it was

isnt_mocked : (s : SharedState) (d stamp : ℕ) (label : Label) (away : Option Letter) (from : ℕ) (t : SharedState) → SharedMoves s d stamp label away from t → IsntMocked label
isnt_mocked s d stamp Inner away from t moves = tt
isnt_mocked s d stamp (Called asked given mine) away from t moves = tt
isnt_mocked s d stamp (Struck who won) away from t moves = tt
isnt_mocked s d stamp (Mocked asked given texts) away from t moves = absurd moves
isnt_mocked s d stamp (Took it) away from t moves = tt

-- the number of rows

rows_stay : (s : SharedState) (d stamp : ℕ) (label : Label) (away : Option Letter) (from : ℕ) (t : SharedState) → SharedMoves s d stamp label away from t → length t.rows ≡ length s.rows
rows_stay s d stamp Inner away from t moves = ap (λ (u : SharedState). length u.rows) moves.1
rows_stay s d stamp (Called asked given mine) away from t moves = ap (λ (u : SharedState). length u.rows) moves.5 ∙ length-set s.rows asked.object (stepped s asked).row
rows_stay s d stamp (Struck who true) away from t moves = ap (λ (u : SharedState). length u.rows) moves.2 ∙ length_mapped _ s.rows
rows_stay s d stamp (Struck who false) away from t moves = ap (λ (u : SharedState). length u.rows) moves.2
rows_stay s d stamp (Mocked asked given texts) away from t moves = absurd moves
rows_stay s d stamp (Took it) away from t moves = ap (λ (u : SharedState). length u.rows) moves.4

-- stamps of objects

set_at_most : (stamps : List ℕ) (n stamp : ℕ) → ((object : ℕ) → stamp_at stamps object ≤ stamp) → (object : ℕ) → stamp_at (slice_set stamps n stamp) object ≤ stamp
set_at_most [] n stamp most object = most object
set_at_most (first ∷ others) zero stamp most zero = le_refl stamp
set_at_most (first ∷ others) zero stamp most (suc object) = most (suc object)
set_at_most (first ∷ others) (suc n) stamp most zero = most zero
set_at_most (first ∷ others) (suc n) stamp most (suc object) = set_at_most others n stamp (λ k. most (suc k)) object

-- no object's last line is later than this
abbrev AtMost : SharedState → (stamp : ℕ) → Type 0
AtMost s stamp = (object : ℕ) → stamp_at s.stamps object ≤ stamp

at_most : (s : SharedState) (d stamp : ℕ) (label : Label) (away : Option Letter) (from : ℕ) (t : SharedState) → SharedMoves s d stamp label away from t → AtMost s stamp → AtMost t stamp
at_most s d stamp Inner away from t moves most = subst (λ (u : SharedState). AtMost u stamp) (sym moves.1) most
at_most s d stamp (Called asked given mine) away from t moves most = subst (λ (u : SharedState). AtMost u stamp) (sym moves.5) (set_at_most s.stamps asked.object stamp most)
at_most s d stamp (Struck who true) away from t moves most = subst (λ (u : SharedState). AtMost u stamp) (sym moves.2) most
at_most s d stamp (Struck who false) away from t moves most = subst (λ (u : SharedState). AtMost u stamp) (sym moves.2) most
at_most s d stamp (Mocked asked given texts) away from t moves most = absurd moves
at_most s d stamp (Took it) away from t moves most = subst (λ (u : SharedState). AtMost u stamp) (sym moves.4) most

-- a domain has no post of its own

own_post : (d stamp : ℕ) (sent : Option Sent) (posts : ℕ → ℕ → List Message) → posts d d ≡ [] → posted d stamp sent posts d d ≡ []
own_post d stamp None posts none = none
own_post d stamp (Some sent) posts none = by_test
    (λ b. (elim b as (λ _. ℕ → ℕ → List Message) [
      | true ↦ posts
      | false ↦ λ receiver sender. elim (receiver == receiver_of sent && sender == d) [
        | true ↦ posts receiver sender ++ message_of stamp sent ∷ []
        | false ↦ posts receiver sender
      ]
    ]) d d ≡ [])
    (receiver_of sent == d)
    (λ e. none)
    (λ other. by_test (λ b. elim (b && d == d) [ true ↦ posts d d ++ message_of stamp sent ∷ [] | false ↦ posts d d ] ≡ []) (d == receiver_of sent)
    (λ e. absurd (differs (receiver_of sent) d other e))
    (λ e. none))
  where
    differs : (a b : ℕ) → (a == b) ≡ false → (b == a) ≡ true → ⊥
    differs a b other e = true≢false (sym (eq-eqb a b (sym (eqb-true b a e))) ∙ other)

drop_none : (place : ℕ) → drop {A = Message} place [] ≡ []
drop_none zero = refl
drop_none (suc place) = refl

take_none : (place : ℕ) → take {A = Message} place [] ≡ []
take_none zero = refl
take_none (suc place) = refl

taken_post : (place : ℕ) (messages : List Message) → messages ≡ [] → take place messages ++ drop (place + 1) messages ≡ []
taken_post place messages none =
    ap (λ (l : List Message). take place l ++ drop (place + 1) l) none
    ∙ ap (λ (l : List Message). l ++ drop (place + 1) []) (take_none place)
    ∙ drop_none (place + 1)

no_post : (s : SharedState) (d stamp : ℕ) (label : Label) (away : Option Letter) (from : ℕ) (t : SharedState) → SharedMoves s d stamp label away from t → s.posts d d ≡ [] → t.posts d d ≡ []
no_post s d stamp Inner away from t moves none = ap (λ (u : SharedState). u.posts d d) moves.1 ∙ none
no_post s d stamp (Called asked given mine) away from t moves none = ap (λ (u : SharedState). u.posts d d) moves.5 ∙ own_post d stamp (stepped s asked).sent s.posts none
no_post s d stamp (Struck who true) away from t moves none = ap (λ (u : SharedState). u.posts d d) moves.2 ∙ none
no_post s d stamp (Struck who false) away from t moves none = ap (λ (u : SharedState). u.posts d d) moves.2 ∙ none
no_post s d stamp (Mocked asked given texts) away from t moves none = absurd moves
no_post s d stamp (Took it) away from t moves none =
    ap (λ (u : SharedState). u.posts d d) moves.4
    ∙ by_test (λ b. elim b [ true ↦ take moves.0 (s.posts d d) ++ drop (moves.0 + 1) (s.posts d d) | false ↦ s.posts d d ] ≡ []) (d == d && from == d)
    (λ e. taken_post moves.0 (s.posts d d) none)
    (λ e. none)

-- ## The run

module _ (script : Script) where
  -- where a mocked run stands, and where the domains of a history stand behind this line
  record Beside (m : Mock) (last : ℕ × ℕ) (s : State (DomainMoves script)) : Type 0 where
    number : m.local.number ≡ 0
    rows : length m.shared.rows ≡ length script.declarations
    none_later : NoneIsLater m
    no_post_of_own : m.shared.posts 0 0 ≡ []
    local : s.locals 0 ≡ m.local
    shared : s.shared ≡ m.shared
    last_stamp : last.0 ≡ m.local.stamp

  -- the lines of these moves lead on from there, to where the run then stands
  record LeadsOn (m : Mock) (last : ℕ × ℕ) (s : State (DomainMoves script)) (made : List Moved) : Type 0 where
    lines : List Noted
    final : State (DomainMoves script)
    end : ℕ × ℕ
    legal : Legal (DomainMoves script) last s lines final
    same : map (λ x. x.line) lines ≡ map (λ moved. moved.line) made
    beside : Beside (last_after m made) end final
    others : (d : ℕ) → 0 < d → final.locals d ≡ s.locals d

  told_number : (l k : DomainState) (x : Noted) → DomainMoves script l x k → domain_of x ≡ l.number
  unfolding line_of
  told_number l k x moves = ap (λ (line : Line). line.domain) moves.told

  told_stamp : (l k : DomainState) (x : Noted) → DomainMoves script l x k → k.stamp ≡ stamp_of x
  unfolding after
  told_stamp l k x moves = ap (λ (l : DomainState). l.stamp) moves.next

  others_stay : (d : ℕ) (it : DomainState) (locals : ℕ → DomainState) → 0 < d → put 0 it locals d ≡ locals d
  others_stay d it locals above = ap (λ (b : Bool). elim b [ true ↦ it | false ↦ locals d ]) (ne_eqb 0 d (λ e. omega (arith, e, above)))

  -- one move more in front
  in_front : (m : Mock) (moved : Moved) (others : List Moved) (last : ℕ × ℕ) (s : State (DomainMoves script)) (n : ℕ) → m.local.stamp + suc n < stamps_below → Beside m last s → IsMove script m moved
      → ((next : ℕ × ℕ) (u : State (DomainMoves script)) → moved.next.local.stamp + n < stamps_below → Beside moved.next next u → LeadsOn moved.next next u others)
      → LeadsOn m last s (moved ∷ others)
  in_front m moved others last s n below beside is rest =
      let x : Noted = is.noted in
      let domain : domain_of x ≡ 0 = told_number m.local moved.next.local x is.local ∙ beside.number in
      let stamp : moved.next.local.stamp ≡ stamp_of x = told_stamp m.local moved.next.local x is.local in
      let moves : SharedMoves m.shared 0 (stamp_of x) x.label x.away x.from moved.next.shared =
      subst (λ (d : ℕ). SharedMoves m.shared d (stamp_of x) x.label x.away x.from moved.next.shared) domain is.shared in
      let u : State (DomainMoves script) = record { locals = put 0 moved.next.local s.locals; shared = moved.next.shared } in
      let earlier : AtMost m.shared (stamp_of x) = λ object. (let before = beside.none_later object in let at = is.stamp in omega (arith, before, at)) in
      let beside_then : Beside moved.next (stamp_of x, domain_of x) u =
      record {
        number = ap (λ (l : DomainState). l.number) is.local.next
            ∙ keeps_number script m.local (stamp_of x) x.label (isnt_mocked m.shared 0 (stamp_of x) x.label x.away x.from moved.next.shared moves) ∙ beside.number;
        rows = rows_stay m.shared 0 (stamp_of x) x.label x.away x.from moved.next.shared moves ∙ beside.rows;
        none_later = subst (AtMost moved.next.shared) (sym stamp) (at_most m.shared 0 (stamp_of x) x.label x.away x.from moved.next.shared moves earlier);
        no_post_of_own = no_post m.shared 0 (stamp_of x) x.label x.away x.from moved.next.shared moves beside.no_post_of_own;
        local = refl;
        shared = refl;
        last_stamp = sym stamp;
      }
      in
      let left : LeadsOn moved.next (stamp_of x, domain_of x) u others =
      rest (stamp_of x, domain_of x) u (let at = is.stamp in omega (arith, below, stamp, at)) beside_then in
      record {
        lines = x ∷ left.lines;
        final = left.final;
        end = left.end;
        legal = (
          u,
          inl (let at = is.stamp in let from = beside.last_stamp in omega (arith, at, from)),
          (let at = is.stamp in omega (arith, below, at)),
          record {
            next = moved.next.local;
            steps = subst (λ (l : DomainState). DomainMoves script l x moved.next.local) (sym (ap s.locals domain ∙ beside.local)) is.local;
            locals = ap (λ (d : ℕ). put d moved.next.local s.locals) (sym domain);
            shared = subst (λ (t : SharedState). SharedMoves t (domain_of x) (stamp_of x) x.label x.away x.from moved.next.shared) (sym beside.shared) is.shared;
          },
          left.legal,
        );
        same = λ i. is.line i ∷ left.same i;
        beside = left.beside;
        others = λ d above. left.others d above ∙ others_stay d moved.next.local s.locals above;
      }

  none_made : (m : Mock) (last : ℕ × ℕ) (s : State (DomainMoves script)) → Beside m last s → LeadsOn m last s []
  none_made m last s beside = record { lines = []; final = s; end = last; legal = refl; same = refl; beside = beside; others = λ d above. refl }

  moves_lead : (n : ℕ) (m : Mock) (last : ℕ × ℕ) (s : State (DomainMoves script)) → m.local.stamp + n < stamps_below → Beside m last s → AllShared (length script.declarations) m (moves script n m)
      → LeadsOn m last s (moves script n m)
  unfolding moves
  moves_lead zero m last s below beside all = none_made m last s beside
  moves_lead (suc n) m last s below beside all = by (move script m) refl (moves_lead n) all
    where
      by : (first : Option Moved) → move script m ≡ first
          → ((next : Mock) (key : ℕ × ℕ) (u : State (DomainMoves script)) → next.local.stamp + n < stamps_below → Beside next key u → AllShared (length script.declarations) next (moves script n next) → LeadsOn next key u (moves script n next))
          → AllShared (length script.declarations) m (from script n first) → LeadsOn m last s (from script n first)
      by None is lead all = none_made m last s beside
      by (Some moved) is lead all =
          in_front m moved (moves script n moved.next) last s n below beside
          (mock_moves_are_moves script m moved is (subst (λ (objects : ℕ). IsShared objects (asks m.local)) (sym beside.rows) all.0) beside.none_later)
          (λ key u under stands. lead moved.next key u under stands all.1)

  -- ## The opening

  first_opens : (bodies : List Block) (texts : List (List ℕ)) → length bodies ≡ 1
      → elim (slice_get bodies 0) [ Some body ↦ opening_domain 0 texts body | None ↦ nothing_made 0 texts ] ≡ opening_domain 0 texts (first_body bodies)
  first_opens [] texts one = absurd (omega (arith, one))
  first_opens (body ∷ bodies) texts one = refl

  opens_beside : length script.bodies ≡ 1 → Beside (opening script) (0, 0) (state_at_first script)
  opens_beside one = record {
    number = refl;
    rows = length_mapped _ script.declarations;
    none_later = λ object. (let first : stamp_at (opening script).shared.stamps object ≡ 0 = under_same 0 script.declarations object in omega (arith, first));
    no_post_of_own = refl;
    local = first_opens script.bodies (opening_texts script) one;
    shared = refl;
    last_stamp = refl;
  }

-- ## The ending

isnt_empty : {A : Type 0} (xs : List A) → not (is_empty xs) ≡ has_any xs
isnt_empty [] = refl
isnt_empty (x ∷ xs) = refl

-- where no message is left for a domain and no timer stands, both say alike whether it can move
can_alike : (l : DomainState) (post : Bool) → post ≡ false → l.timers.standing ≡ []
    → (not l.halted && (not (is_empty l.duties) || not (is_empty l.ready) || post)) ≡ mocked.can_move l
can_alike l post none untimed = rw (isnt_empty l.duties, isnt_empty l.ready, none, untimed) refl

ends_alike : (halted can : Bool) (first : Option Moved) (end : Option Outcome) → is_some first ≡ can
    → elim (halted || false) as (λ _. Ending) [
      | true ↦ ending.Limit
      | false ↦ elim (can || false) [ true ↦ ending.OutOfSteps | false ↦ elim (is_none end || false) [ true ↦ ending.Deadlock | false ↦ ending_by end ] ]
    ]
    ≡ elim halted as (λ _. Ending) [ true ↦ ending.Limit | false ↦ elim first [ Some moved ↦ ending.OutOfSteps | None ↦ ending_by end ] ]
ends_alike true can first end is = refl
ends_alike false true (Some moved) end is = refl
ends_alike false true None end is = absurd (true≢false (sym is))
ends_alike false false (Some moved) end is = absurd (true≢false is)
ends_alike false false None None is = refl
ends_alike false false None (Some end) is = refl

module _ (script : Script) (one : length script.bodies ≡ 1) (m : Mock) (number : m.local.number ≡ 0) (none : m.shared.posts 0 0 ≡ []) (untimed : m.local.timers.standing ≡ []) where
  no_message : has_post m.shared m.local.number (domains_of script) ≡ false
  no_message =
      ap (λ (d : ℕ). has_post m.shared d (domains_of script)) number
      ∙ ap (λ (count : ℕ). has_post m.shared 0 (numbers_from 0 count)) one
      ∙ ap (λ (l : List Message). not (is_empty l) || false) none

  endings_agree : ending_of script (record { locals = m.local ∷ []; shared = m.shared }) ≡ ending_in script m
  endings_agree =
      ends_alike m.local.halted (histories.can_move script m.local m.shared m.local.number) (move script m) (body_end m.local)
      (moves_where_something_is_left script m ∙ sym (can_alike m.local (has_post m.shared m.local.number (domains_of script)) no_message untimed))

main_alone : (script : Script) (s : State (DomainMoves script)) (m : Mock) → length script.bodies ≡ 1 → s.locals 0 ≡ m.local → s.shared ≡ m.shared
    → domains_in script s ≡ record { locals = m.local ∷ []; shared = m.shared }
main_alone script s m one local shared =
    ap (λ (count : ℕ). let it : Domains = record { locals = map s.locals (numbers_from 0 count); shared = s.shared } in it) one
    ∙ (λ i. record { locals = local i ∷ []; shared = shared i })

pub mock_runs_are_legal : MockRunsAreLegal
unfolding run
mock_runs_are_legal script n below one all =
    let made : List Moved = moves script n (opening script) in
    let led : LeadsOn script (opening script) (0, 0) (state_at_first script) made = moves_lead script n (opening script) (0, 0) (state_at_first script) (omega (arith, below)) (opens_beside script one) all in
    let last : Mock = last_after (opening script) made in
    record {
      lines = led.lines;
      final = led.final;
      legal = led.legal;
      same = led.same;
      local = led.beside.local;
      shared = led.beside.shared;
      others = led.others;
      ending = λ untimed. ap (ending_of script) (main_alone script led.final last one led.beside.local led.beside.shared)
          ∙ endings_agree script one last led.beside.number led.beside.no_post_of_own untimed;
    }
