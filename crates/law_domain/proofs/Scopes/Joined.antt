-- A group whose `join` was answered is over, and nothing is left of it then.
use Rattle.std.proofs.Common.{◌≡◌, ℕ, zero, suc, ◌+◌, ◌<◌, ◌==◌, Bool, true, false, List, [], ◌∷◌, length, Option, Some, None, refl, sym, ap, ◌∙◌, subst, arith}
use Rattle.std.proofs.lemmas.Bool.{eqb-true}
use Rattle.eio_value.specs.declared.message.Message.{Message}
use Rattle.eio_value.specs.declared.message.Message.TheVariants as message
use Rattle.eio_value.specs.declared.raised.Outcome.{Outcome}
use Rattle.eio_value.specs.declared.value.Value.TheVariants as value
use Rattle.spec_parts.specs.Groups as groups
use Rattle.spec_parts.specs.Groups.{Group, Joined, group_at, never_gathered}
use Rattle.spec_script.specs.Scripts.{Script}
use Rattle.spec_fiber.specs.Asks as ask
use Rattle.spec_fiber.specs.Asks.{Ask}
use Rattle.trace_lines.specs.declared.line.Did.TheVariants as did
use Rattle.trace_lines.specs.declared.line.Line.{Line}
use Rattle.trace_lines.specs.declared.line.Said2.TheVariants as said
use Rattle.spec_machine.specs.Asking.{asks_by, is_full_for_one}
use Rattle.spec_machine.specs.Domain.{OfGroup, Standing, Ready, Parked, Ended, DomainState, fiber_at, has_ended}
use Rattle.spec_machine.specs.EndMoves as on_ends
use Rattle.spec_machine.specs.GroupMoves as on_groups
use Rattle.spec_machine.specs.Histories.{domain_at_first, state_at_first}
use Rattle.spec_machine.specs.Labels.{Asks, Own, Label, Inner, Called, Struck, Mocked, Took}
use Rattle.spec_machine.specs.Mock.{Mock, Moved, Came, opening, comes, moved_by, move_by, move, moves}
use Rattle.spec_machine.specs.Moves.{asks, after, line_of, own_call, own_move, stepped_by}
use Rattle.spec_machine.specs.Preparing as doing
use Rattle.spec_machine.specs.Preparing.{Doing, at_once, prepared}
use Rattle.spec_machine.specs.Runs.{Noted, Fits, domain_of}
use Rattle.spec_machine.specs.Runs.{key_of as key_of_line}
use Rattle.spec_machine.specs.Steps as steps
use Rattle.spec_machine.specs.Steps.{Step}
use Rattle.spec_machine.specs.Trace.{last_after, run}
use Rattle.law_domain.specs.Scopes.Finished.{IsResult, Moves}
use Rattle.law_domain.specs.Scopes.Joined.{JoinAnswers, NoBranchIsLeft, GroupsLeaveNothing, GroupsLeaveNothingInRuns, GroupsLeaveNothingInHistories}
use Rattle.law_domain.proofs.Scopes.Counts.{one_self}
use Rattle.law_domain.proofs.Scopes.Gathered.{live_in, live_as, lives, at_most, owed_own, JoinsOwn, owed_inside, IsJoined}
use Rattle.law_domain.proofs.Scopes.Scopes.{view, owing_view, Sound, OnGroup, set_same}
use Rattle.law_domain.proofs.Scopes.Standings.{group_length}
use Rattle.law_domain.proofs.Scopes.Calls.{own_ended_leads, join_left}
use Rattle.law_domain.proofs.Scopes.Moves.{hand_of, view_by, ClosesDoing, prepares}
use Rattle.law_domain.proofs.Scopes.Runs.{moved, first_sound, run_keeps}
use Rattle.law_domain.proofs.Scopes.Mocked.{the_move, later_over, opening_fine}
use Rattle.law_domain.proofs.Scopes.Histories.{all_on, legal_move, over_stays, first_all, MovesOn, AllSound}

-- ## The call

joined_groups : (call : Ask) (c : ℕ) (step : groups.JoinStep) (g : ℕ) (l : DomainState) → (on_groups.joined_by call c step g l).state.groups ≡ l.groups
joined_groups call c groups.Wait g l = refl
joined_groups call c (groups.Give it) g l = refl
joined_groups call c (groups.Raise raised) g l = refl

-- `join` gives no result while a branch is left
joins_over : (n : ℕ) (own : Option Outcome) (g : ℕ) (l : DomainState) → Sound (g ∷ []) (owing_view (owed_own n own) l) → JoinsOwn (length l.groups) n own → IsResult (on_groups.joins (ask.Join n own) n own g l).reply
    → IsJoined (on_groups.joins (ask.Join n own) n own g l).state.groups n
joins_over n own g l h made result =
    subst (λ (gs : List Group). IsJoined gs n) (sym (joined_groups (ask.Join n own) joined.group.context joined.step g later))
    (record {
      gathered = omega (arith, inside, group_length t.groups n joined.group);
      over = ap (λ (it : Group). it.left) (set_same never_gathered t.groups n joined.group inside) ∙ (join_left g old ∙ over_by (old.left == 0) refl);
    })
  where
    t : DomainState
    t = on_groups.own_ended n own g l

    old : Group
    old = group_at t.groups n

    joined : Joined
    joined = groups.join g old

    later : DomainState
    later = record t { groups = groups.with_group n joined.group t.groups }

    inside : n < length t.groups
    inside = (let first : n < length l.groups = owed_inside l.fibers l.groups n own made h.gathered in omega (arith, first, (own_ended_leads n own g (g ∷ []) l h).gathers))

    over_by : (b : Bool) → (old.left == 0) ≡ b → old.left ≡ 0
    over_by true is = eqb-true old.left 0 is
    over_by false is =
        let waits : joined.step ≡ groups.Wait = ap (λ (b : Bool). (elim b as (λ _. Joined) [ false ↦ record { step = groups.Wait; group = record old { joiner = Some g } } | true ↦ record { step = groups.result_of old; group = old } ]).step) is in
        absurd (subst (λ (step : groups.JoinStep). IsResult (on_groups.joined_by (ask.Join n own) joined.group.context step g later).reply) waits result)

-- ## The move

-- where the next call is `join`, nothing is asked outside
asks_own : (what : Doing) (g n : ℕ) (own : Option Outcome) (l : DomainState) → what ≡ doing.Calls g (ask.Join n own) → asks_by (at_once what l) ≡ Own
asks_own what g n own l is = subst (λ (d : Doing). asks_by (at_once d l) ≡ Own) (sym is) refl

own_over : (script : Script) (l : DomainState) (g n : ℕ) (own : Option Outcome) → Sound [] (view l) → (prepared l).doing ≡ doing.Calls g (ask.Join n own) → IsResult (own_move script (prepared l)).reply
    → IsJoined (own_move script (prepared l)).state.groups n
unfolding own_call
own_over script l g n own h is result =
    subst (λ (d : Doing). IsJoined (own_move script (at_once d m)).state.groups n) (sym is)
    (joins_over n own g m (subst (λ (d : Doing). Sound (hand_of d) (view_by d m)) is (prepares l h).goes.sound) (subst (ClosesDoing (length m.switches) (length m.groups)) is (prepares l h).call).1
    (subst (λ (d : Doing). IsResult (own_move script (at_once d m)).reply) is result))
  where
    m : DomainState
    m = (prepared l).state

takes_no_join : (script : Script) (it : Message) (l : DomainState) (c : ℕ) → (on_ends.takes script it l).did ≡ did.Join c → ⊥
takes_no_join script (message.Resume who result stamp) l c is = cc
takes_no_join script (message.Start job number stamp) l c is = by (is_full_for_one l) is
  where
    by : (b : Bool) → (elim b as (λ _. Step) [
      | true ↦ steps.halts (length l.fibers) l
      | false ↦ steps.told (length l.fibers) (did.GotJob job.executor number) (said.Done value.Unit) (on_ends.received script (message.Start job number stamp) l)
    ]).did ≡ did.Join c → ⊥
    by true e = cc
    by false e = cc

step_over : (script : Script) (l : DomainState) (label : Label) (g n c : ℕ) (own : Option Outcome) → Sound [] (view l) → Fits l label → (prepared l).doing ≡ doing.Calls g (ask.Join n own)
    → (stepped_by script (prepared l) label l).did ≡ did.Join c → IsResult (stepped_by script (prepared l) label l).reply → IsJoined (stepped_by script (prepared l) label l).state.groups n
unfolding asks
step_over script l Inner g n c own h fits is told result = own_over script l g n own h is result
step_over script l (Called asked given mine) g n c own h fits is told result = absurd (let e = sym (asks_own (prepared l).doing g n own (prepared l).state is) ∙ fits in cc)
step_over script l (Struck who won) g n c own h fits is told result = absurd (let e = sym (asks_own (prepared l).doing g n own (prepared l).state is) ∙ fits in cc)
step_over script l (Mocked call given texts) g n c own h fits is told result = absurd (let e = sym (asks_own (prepared l).doing g n own (prepared l).state is) ∙ fits in cc)
step_over script l (Took it) g n c own h fits is told result = absurd (takes_no_join script it l c told)

pub joined : (script : Script) (n : ℕ) (l : DomainState) (x : Noted) (k : DomainState) → Moves script l x k → Sound [] (view l) → JoinAnswers n l x.line → IsJoined k.groups n
unfolding after line_of
joined script n l x k it h answers =
    let step : Step = stepped_by script (prepared l) x.label l in
    subst (λ (m : DomainState). IsJoined m.groups n) (sym it.moves.next)
    (step_over script l x.label x.line.fiber n answers.context answers.own h it.moves.fits answers.call (sym (ap (λ (line : Line). line.did) it.moves.told) ∙ answers.told)
    (subst IsResult (ap (λ (line : Line). line.reply) it.moves.told) answers.result))

-- ## What such a group leaves

pub no_branch_is_left : (n : ℕ) (l : DomainState) → Sound [] (view l) → IsJoined l.groups n → NoBranchIsLeft n l
no_branch_is_left n l h it g role = by (fiber_at l.fibers g).standing refl
  where
    none : (count : ℕ) → lives n l.fibers ≡ count → count ≡ 0
    none zero is = refl
    none (suc count) is = absurd (omega (arith, h.gathered.counted n (omega (arith, is)), it.over, is))

    -- a fiber of the group that lives would be counted
    counts : (standing : Standing) → (fiber_at l.fibers g).standing ≡ standing → live_as n (OfGroup n) standing ≡ 0
    counts standing is =
        let here : live_in n (fiber_at l.fibers g) ≡ live_as n (OfGroup n) standing = ap (λ r. live_as n r (fiber_at l.fibers g).standing) role ∙ ap (live_as n (OfGroup n)) is in
        omega (arith, here, at_most (live_in n) l.fibers g refl, none _ refl)

    by : (standing : Standing) → (fiber_at l.fibers g).standing ≡ standing → has_ended (fiber_at l.fibers g) ≡ true
    by (Ended result) is = ap (λ (s : Standing). elim s as (λ _. Bool) [ Ended it ↦ true | Ready next ↦ false | Parked wait ↦ false ]) is
    by (Ready next) is = absurd (omega (arith, counts (Ready next) is, one_self n))
    by (Parked wait) is = absurd (omega (arith, counts (Parked wait) is, one_self n))

-- ## Runs of a domain

pub groups_leave_nothing : GroupsLeaveNothing
groups_leave_nothing script d n xs ys x l k m before it answers later =
    let h : Sound [] (view l) = (run_keeps script xs (domain_at_first script d) l before (first_sound script d)).0 in
    let rest = run_keeps script ys k m later (moved script l x k it h).sound in
    no_branch_is_left n m rest.0 (rest.1 (OnGroup n) (joined script n l x k it h answers))

-- ## Runs on one mocked domain

move_joined : (script : Script) (n : ℕ) (m : Mock) (moved : Moved) → Sound [] (view m.local) → move script m ≡ Some moved → JoinAnswers n m.local moved.line → IsJoined moved.next.local.groups n
unfolding move
move_joined script n m moved h is answers = by m.local.halted is
  where
    inner : Came
    inner = record { label = Inner; shared = m.shared; world = m.world }

    from : (y : Moved) → moved_by m (m.local.stamp + 1) (prepared m.local).raises inner (own_move script (prepared m.local)) ≡ y → IsResult y.line.reply → IsJoined y.next.local.groups n
    from y same = subst (λ (z : Moved). IsResult z.line.reply → IsJoined z.next.local.groups n) same (own_over script m.local moved.line.fiber n answers.own h answers.call)

    by_asks : (it : Asks) → it ≡ Own
        → elim (comes m (m.local.stamp + 1) it) as (λ _. Option Moved) [ None ↦ None | Some came ↦ Some (moved_by m (m.local.stamp + 1) (prepared m.local).raises came (stepped_by script (prepared m.local) came.label m.local)) ] ≡ Some moved
        → IsJoined moved.next.local.groups n
    by_asks Own own e = from moved (the_move _ moved e) answers.result
    by_asks other own e = absurd (cc)

    by : (halted : Bool) → elim halted as (λ _. Option Moved) [ true ↦ None | false ↦ move_by script m (prepared m.local) ] ≡ Some moved → IsJoined moved.next.local.groups n
    by true e = absurd (cc)
    by false e = by_asks (asks_by (prepared m.local)) (asks_own (prepared m.local).doing moved.line.fiber n answers.own (prepared m.local).state answers.call) e

pub groups_leave_nothing_in_runs : GroupsLeaveNothingInRuns
unfolding run
groups_leave_nothing_in_runs script n later group moved is answers =
    let before : Mock = last_after (opening script) (moves script n (opening script)) in
    let last : Mock = last_after (opening script) (moves script (n + 1 + later) (opening script)) in
    let at_end = later_over script n later (OnGroup group) (opening script) (opening_fine script) moved is (λ fine. move_joined script group before moved fine.sound is answers) in
    no_branch_is_left group last.local at_end.0 at_end.1

-- ## Histories

pub groups_leave_nothing_in_histories : GroupsLeaveNothingInHistories
groups_leave_nothing_in_histories script before later x n s t u it last answers rest =
    let d = domain_of x in
    let all : AllSound s.locals s.shared = all_on script (0, 0) (state_at_first script) before s it (first_all script) in
    let next : MovesOn script s.locals x t.locals t.shared = legal_move script s t x all last in
    let at_end = over_stays script (OnGroup n) d (key_of_line x) t later u next.all rest (joined script n (s.locals d) x (t.locals d) next.moves (all.sound d) answers) in
    no_branch_is_left n (u.locals d) at_end.0 at_end.1
