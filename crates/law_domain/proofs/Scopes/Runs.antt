-- Runs of one domain: its scopes are sound where it opens, and stay so. So nothing is left of a switch that has finished.
use Rattle.std.proofs.Common.{◌≡◌, ℕ, zero, suc, ◌+◌, ◌≤◌, ◌<◌, Bool, true, false, List, [], ◌∷◌, Option, Some, None, refl, sym, ap, ◌∙◌, subst, arith, slice_get}
use Rattle.eio_value.specs.declared.message.Message.{Message}
use Rattle.eio_value.specs.declared.message.Message.TheVariants as message
use Rattle.eio_value.specs.declared.message.Waiter.{Waiter}
use Rattle.spec_parts.specs.Switches.{switch_at}
use Rattle.spec_script.specs.Scripts.{Script}
use Rattle.spec_script.specs.Syntax.{Block}
use Rattle.spec_script.specs.Opening.{opening_texts}
use Rattle.trace_lines.specs.declared.line.Did.{Did}
use Rattle.trace_lines.specs.declared.line.Did.TheVariants as did
use Rattle.trace_lines.specs.declared.line.Line.{Line}
use Rattle.trace_lines.specs.declared.line.Said2.{Said2}
use Rattle.trace_lines.specs.declared.line.Said2.TheVariants as said
use Rattle.spec_machine.specs.Asking.{asks_by, asks_owed, strike_on}
use Rattle.spec_machine.specs.Domain.{OfSwitch, OnObject, Asleep, ForCancel, ForOthers, Resting, Standing, Ready, Parked, Ended, Owed, Strike, Wake, Start, DomainState, nothing_made, fiber_at, has_ended}
use Rattle.spec_machine.specs.Histories.{domain_at_first}
use Rattle.spec_machine.specs.Labels.{Strikes, Label, Inner, Called, Struck, Mocked, Took}
use Rattle.spec_machine.specs.Mock.{opening_domain}
use Rattle.spec_machine.specs.Moves.{asks, after, line_of, called_move, stepped_by}
use Rattle.spec_machine.specs.Preparing as doing
use Rattle.spec_machine.specs.Preparing.{Doing, Prepared, at_once, prepared}
use Rattle.spec_machine.specs.Runs.{Noted, Fits, LocalRun}
use Rattle.spec_machine.specs.Steps.{Step}
use Rattle.law_domain.specs.Scopes.Finished.{IsResult, Answers, NoneIsLeft, WaitsOnObject, ResumesWaiting, message_in, Moves, LeavesNothing}
use Rattle.law_domain.proofs.Scopes.Counts.{times, Compared, Same, Other, compared, one}
use Rattle.law_domain.proofs.Scopes.Scopes.{Closes, ClosesStanding, IsReady, View, view, attached_to, is_over, Sound, IsFinished, Tracked, OnSwitch, IsOver, Goes}
use Rattle.law_domain.proofs.Scopes.Calls.{closed_in, Ends, after_does}
use Rattle.law_domain.proofs.Scopes.Moves.{hand_of, view_of, Prepares, prepares, Keeps, kept, StrikesWaiting, DoingStrikes, received_keeps, takes_keeps, own_ends, called_ends, struck_keeps, mocked_ends}

-- ## One move

-- a strike is made outside only on a fiber that waits for an object
pub strikes_waiting : (what : Doing) (l : DomainState) (who : Waiter) → asks_by (at_once what l) ≡ Strikes who → DoingStrikes l what
strikes_waiting (doing.Owes duty) l who is = owed_by duty.owed is
  where
    waits : (standing : Standing) → strike_on standing ≡ Strikes who → WaitsOnObject standing
    waits (Parked (OnObject other)) is = (other, refl)
    waits (Parked Asleep) is = absurd (cc)
    waits (Parked ForCancel) is = absurd (cc)
    waits (Parked (ForOthers call)) is = absurd (cc)
    waits (Parked Resting) is = absurd (cc)
    waits (Ready next) is = absurd (cc)
    waits (Ended it) is = absurd (cc)

    owed_by : (owed : Owed) → asks_owed (record { maker = duty.maker; owed = owed }) l ≡ Strikes who → StrikesWaiting l owed
    owed_by (Strike g) is = waits (fiber_at l.fibers g).standing is
    owed_by (Wake object poisoned) is = tt
    owed_by (Start executor) is = tt
strikes_waiting what l who is = tt

-- who waited for an object waits still after a call
pub resumes_later : (l : DomainState) (step : Step) (mine : Option Message) → Ends (view l) step → ResumesWaiting l mine → ResumesWaiting step.state mine
resumes_later l step None it waits = tt
resumes_later l step (Some (message.Resume who result stamp)) it waits = (waits.0, it.goes.waits who.fiber waits.0 waits.1)
resumes_later l step (Some (message.Start job number stamp)) it waits = tt

pub keeps_after : (hand : List ℕ) (v w : View) (step : Step) → Goes v hand w → (Sound hand w → Keeps w step) → Keeps v step
keeps_after hand v w step first second =
    let rest : Keeps w step = second first.sound in
    record { sound = rest.sound; finished = (λ n it. rest.finished n (first.finished n it)); closes = rest.closes }

pub step_keeps : (script : Script) (l : DomainState) (label : Label) → Sound [] (view l) → Fits l label → ResumesWaiting l (message_in label) → Keeps (view l) (stepped_by script (prepared l) label l)
unfolding asks
step_keeps script l Inner h fits waits =
    let first : Prepares (view l) (prepared l) = prepares l h in
    kept (view l) _ (after_does (hand_of (prepared l).doing) (view l) (view_of (prepared l)) _ first.goes (own_ends script (prepared l).doing (prepared l).state first.call))
step_keeps script l (Called asked given mine) h fits waits =
    let first : Prepares (view l) (prepared l) = prepares l h in
    let step : Step = called_move (prepared l) asked given in
    let it : Ends (view l) step = after_does (hand_of (prepared l).doing) (view l) (view_of (prepared l)) step first.goes (called_ends (prepared l).doing (prepared l).state asked given) in
    received_keeps script (view l) mine step (resumes_later l step mine it waits) it
step_keeps script l (Struck who won) h fits waits =
    let first : Prepares (view l) (prepared l) = prepares l h in
    keeps_after (hand_of (prepared l).doing) (view l) (view_of (prepared l)) _ first.goes
    (struck_keeps (prepared l).doing (prepared l).state won (strikes_waiting (prepared l).doing (prepared l).state who fits))
step_keeps script l (Mocked call given texts) h fits waits =
    let first : Prepares (view l) (prepared l) = prepares l h in
    kept (view l) _ (after_does (hand_of (prepared l).doing) (view l) (view_of (prepared l)) _ first.goes
    (λ k. mocked_ends (prepared l).doing (prepared l).state given texts call fits first.call k))
step_keeps script l (Took it) h fits waits = takes_keeps script it l waits h

-- what is known of a domain after a move
pub record Moved (l : DomainState) (line : Line) (k : DomainState) : Type 0 where
  pub sound : Sound [] (view k)
  pub finished : (n : Tracked) → IsOver l.switches l.groups n → IsOver k.switches k.groups n
  pub closes : (n : ℕ) → closed_in line.did line.reply ≡ Some n → IsFinished k.switches n

pub moved : (script : Script) (l : DomainState) (x : Noted) (k : DomainState) → Moves script l x k → Sound [] (view l) → Moved l x.line k
unfolding after line_of
moved script l x k it h =
    let next : Keeps (view l) (stepped_by script (prepared l) x.label l) = step_keeps script l x.label h it.moves.fits it.waited in
    subst (λ (m : DomainState). Moved l x.line m) (sym it.moves.next)
    (record { sound = next.sound; finished = next.finished; closes = (λ n is. next.closes n (sym (ap (λ (line : Line). closed_in line.did line.reply) it.moves.told) ∙ is)) })

-- ## What a finished switch leaves

pub none_is_left : (n : ℕ) (l : DomainState) → Sound [] (view l) → IsFinished l.switches n → NoneIsLeft n l
none_is_left n l h it g daemon role = by (has_ended (fiber_at l.fibers g)) refl
  where
    none : (daemon : Bool) → times g (attached_to daemon (switch_at l.switches n)) ≡ 0
    none true = ap (times g) (h.emptied n it.finished).1
    none false = ap (times g) (h.emptied n it.finished).0

    by : (over : Bool) → has_ended (fiber_at l.fibers g) ≡ over → over ≡ true
    by true is = refl
    by false is = absurd (omega (arith, none daemon, h.attached n g daemon role is))

closed_by : (n : ℕ) (reply : Said2) → IsResult reply → closed_in (did.Close n) reply ≡ Some n
closed_by n (said.Done it) result = refl
closed_by n (said.Raised raised) result = refl
closed_by n reply result = absurd result

pub answers_closed : (n : ℕ) (line : Line) → Answers n line → closed_in line.did line.reply ≡ Some n
answers_closed n line it = ap (λ (what : Did). closed_in what line.reply) it.call ∙ closed_by n line.reply it.result

-- ## Where a domain opens

at_most_one : (x y : ℕ) → one x y ≤ 1
at_most_one x y = by (compared x y)
  where
    by : Compared x y → one x y ≤ 1
    by (Same same is_one) = omega (arith, is_one)
    by (Other differs none) = omega (arith, none)

pub opening_sound : (number : ℕ) (texts : List (List ℕ)) (body : Block) → Sound [] (view (opening_domain number texts body))
opening_sound number texts body = record {
  once = (λ x. omega (arith, at_most_one x 0));
  ready = (λ x some. ready_by x some (compared x 0));
  slept = (λ x. omega arith);
  asleep = (λ x some. absurd (omega (arith, some)));
  attached = attached_by;
  emptied = (λ n finished. (refl, refl));
  marks = marks_by;
  calls = calls_by;
  gathered = record { counted = (λ n some. absurd (omega (arith, some))); fresh = (λ n past. refl) };
}
  where
    ready_by : (x : ℕ) → 0 < times x [] + times x (0 ∷ []) → Compared x 0 → IsReady (fiber_at (opening_domain number texts body).fibers x).standing
    ready_by x some (Same same is_one) = subst (λ (n : ℕ). IsReady (fiber_at (opening_domain number texts body).fibers n).standing) (sym same) tt
    ready_by x some (Other differs none) = absurd (omega (arith, some, none))

    attached_by : (n x : ℕ) (daemon : Bool) → (fiber_at (opening_domain number texts body).fibers x).role ≡ OfSwitch n daemon → is_over (fiber_at (opening_domain number texts body).fibers x).standing ≡ false
        → 0 < times x (attached_to daemon (switch_at [] n))
    attached_by n zero daemon role lives = absurd (cc)
    attached_by n (suc x) daemon role lives = absurd (cc)

    marks_by : (x : ℕ) → Closes 0 (fiber_at (opening_domain number texts body).fibers x).work
    marks_by zero = tt
    marks_by (suc x) = tt

    calls_by : (x : ℕ) → ClosesStanding 0 0 (fiber_at (opening_domain number texts body).fibers x).standing
    calls_by zero = tt
    calls_by (suc x) = tt

nothing_sound : (number : ℕ) (texts : List (List ℕ)) → Sound [] (view (nothing_made number texts))
nothing_sound number texts = record {
  once = (λ x. omega arith);
  ready = (λ x some. absurd (omega (arith, some)));
  slept = (λ x. omega arith);
  asleep = (λ x some. absurd (omega (arith, some)));
  attached = (λ n x daemon role lives. absurd (cc));
  emptied = (λ n finished. (refl, refl));
  marks = (λ x. tt);
  calls = (λ x. tt);
  gathered = record { counted = (λ n some. absurd (omega (arith, some))); fresh = (λ n past. refl) };
}

pub first_sound : (script : Script) (d : ℕ) → Sound [] (view (domain_at_first script d))
first_sound script d = by (slice_get script.bodies d)
  where
    by : (body : Option Block) → Sound [] (view (elim body as (λ _. DomainState) [ Some body ↦ opening_domain d (opening_texts script) body | None ↦ nothing_made d (opening_texts script) ]))
    by (Some body) = opening_sound d (opening_texts script) body
    by None = nothing_sound d (opening_texts script)

-- ## Runs

pub run_keeps : (script : Script) (xs : List Noted) (l k : DomainState) → LocalRun (Moves script) l xs k → Sound [] (view l) → Sound [] (view k) × ((n : Tracked) → IsOver l.switches l.groups n → IsOver k.switches k.groups n)
run_keeps script [] l k same h = (subst (λ (m : DomainState). Sound [] (view m)) same h, λ n it. subst (λ (m : DomainState). IsOver m.switches m.groups n) same it)
run_keeps script (x ∷ xs) l k it h =
    let first : Moved l x.line it.0 = moved script l x it.0 it.1 h in
    let rest = run_keeps script xs it.0 k it.2 first.sound in
    (rest.0, λ n old. rest.1 n (first.finished n old))

pub leaves_nothing : LeavesNothing
leaves_nothing script d n xs ys x l k m before it answers after =
    let h : Sound [] (view l) = (run_keeps script xs (domain_at_first script d) l before (first_sound script d)).0 in
    let next : Moved l x.line k = moved script l x k it h in
    let rest = run_keeps script ys k m after next.sound in
    none_is_left n m rest.0 (rest.1 (OnSwitch n) (next.closes n (answers_closed n x.line answers)))
