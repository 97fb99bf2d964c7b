-- Each call of a fiber keeps the scopes of its domain sound, and tells that a switch has closed only where it has finished.
use Rattle.std.proofs.Common.{◌≡◌, ℕ, ◌+◌, ◌-◌, ◌≤◌, ◌<◌, ◌&&◌, Bool, true, false, List, [], ◌∷◌, ◌++◌, length, Option, Some, None, refl, sym, ap, ◌∙◌, subst, arith, slice_set}
use Rattle.std.specs.Prelude.{ℤ, pos, ◌+ℤ◌, ◌==◌, int_lt, take}
use Rattle.std.specs.Option.{unwrap_or}
use Rattle.std.proofs.lemmas.Bool.{both_ways, or_parts}
use Rattle.std.proofs.lemmas.List.{length-append, length-take}
use Rattle.eio_value.specs.declared.plain.Plain.{Plain}
use Rattle.eio_value.specs.declared.plain.Plain.TheVariants.{Failure, NotFirst}
use Rattle.eio_value.specs.declared.raised.Outcome.{Outcome}
use Rattle.eio_value.specs.declared.raised.Outcome.TheVariants as outcome
use Rattle.eio_value.specs.declared.raised.Raised.{Raised}
use Rattle.eio_value.specs.declared.raised.Raised.TheVariants.{One, Cancelled, Many}
use Rattle.eio_value.specs.declared.value.Value.{Value}
use Rattle.eio_value.specs.declared.value.Value.TheVariants as value
use Rattle.eio_value.specs.declared.value.TextId.{TextId}
use Rattle.eio_value.specs.Exceptions.{reason}
use Rattle.spec_parts.specs.Contexts as contexts
use Rattle.spec_parts.specs.Contexts.{Context}
use Rattle.spec_parts.specs.Groups as groups
use Rattle.spec_parts.specs.Groups.{Group, BranchEnded, Joined}
use Rattle.spec_parts.specs.Switches as switches
use Rattle.spec_parts.specs.Switches.{Switch, Handler, Closed, CloseStep, Detached, switch_at, never_opened}
use Rattle.spec_script.specs.Limits.{is_within}
use Rattle.spec_script.specs.Scripts.{Script}
use Rattle.spec_script.specs.Syntax as syntax
use Rattle.spec_script.specs.Syntax.{Block, Forking}
use Rattle.spec_fiber.specs.Asks as ask
use Rattle.spec_fiber.specs.Asks.{Ask, again}
use Rattle.spec_fiber.specs.Numbered.{number_of, block_numbered}
use Rattle.spec_fiber.specs.Replies.{Position, begun, entered, handled, other_branches}
use Rattle.spec_fiber.specs.Work.{Work}
use Rattle.trace_lines.specs.declared.line.Did.{Did}
use Rattle.trace_lines.specs.declared.line.Did.TheVariants as did
use Rattle.trace_lines.specs.declared.line.Said2.{Said2}
use Rattle.trace_lines.specs.declared.line.Said2.TheVariants as said
use Rattle.spec_machine.specs.ClockMoves as on_clock
use Rattle.spec_machine.specs.ContextMoves as on_contexts
use Rattle.spec_machine.specs.Domain.{Role, OfBody, OfJob, OfSwitch, OfGroup, OfWriter, Next, GoesOn, LooksUp, FindsOff, CallsAgain, Wait, OnObject, Asleep, ForCancel, ForOthers, Resting, Standing, Ready, Parked, Ended, Fiber, DomainState, fiber_at, never_made, off_for, is_full_by, made, ended, to_head, to_back, stands, placed, moved_to}
use Rattle.spec_machine.specs.EndMoves as on_ends
use Rattle.spec_machine.specs.GroupMoves as on_groups
use Rattle.spec_machine.specs.Moves.{own_call}
use Rattle.spec_machine.specs.Steps as steps
use Rattle.spec_machine.specs.Steps.{Step}
use Rattle.spec_machine.specs.SwitchMoves as on_switches
use Rattle.law_domain.proofs.Scopes.Counts.{times, times_append, Compared, Same, Other, compared, one, one_self}
use Rattle.law_domain.proofs.Scopes.Gathered.{live_in, joining, lives, owns, total_more, owed_by, owed_own, owed_call, JoinsOwn, JoinsMade, owed_inside, uncredited, owing, owing_here, owing_elsewhere}
use Rattle.law_domain.proofs.Scopes.Scopes.{Closes, ClosesCall, ClosesNext, ClosesWait, ClosesStanding, View, view, owing_view, attached_to, is_over, IsEmptied, Sound, IsFinished, Goes, Leads, stays, both, SetAt, Here, There, set_at, set_same, set_length, set_keeps, added_last, within}
use Rattle.law_domain.proofs.Scopes.Standings.{holds, listed, head, back, wakes, parks, sleeps, ends, ends_over, places, makes, makes_other, changes, opens, group_length, regroups, gathers}
use Rattle.law_domain.proofs.Scopes.Changes.{Nowhere, fail_alike, on_release_alike, is_result, close_alike, close_finishes, detach_alike, attached_switch, with_fiber_more, with_fiber_new, with_fiber_finished}

-- ## Lines

-- the switch whose `close` was answered by this
abbrev pub closed_in : Did → Said2 → Option ℕ
closed_in (did.Close n) (said.Done it) = Some n
closed_in (did.Close n) (said.Raised it) = Some n
closed_in it reply = None

-- what a step leaves; nothing is in hand any more
pub record Ends (v : View) (step : Step) : Type 0 where
  pub goes : Goes v [] (view step.state)
  pub closes : (n : ℕ) → closed_in step.did step.reply ≡ Some n → IsFinished step.state.switches n

-- a call of this fiber, which is in hand
abbrev pub Does : (g : ℕ) → View → Step → Type 0
Does g v step = Sound (g ∷ []) v → Ends v step

-- a step that tells of no closed switch
pub quiet : (v : View) (step : Step) → closed_in step.did step.reply ≡ None → Goes v [] (view step.state) → Ends v step
quiet v step none goes = record { goes = goes; closes = λ n is. absurd (never n (sym none ∙ is)) }
  where
    never : (n : ℕ) → None ≡ Some n → ⊥
    never n e = cc

-- nothing is in hand any more
pub dropped : (hand : List ℕ) (v : View) → Leads hand v [] v
dropped hand v = holds hand [] v (λ x. omega arith)

-- ## Cases

pub if_does : (b : Bool) (g : ℕ) (v : View) (first second : Step) → Does g v first → Does g v second → Does g v (elim b as (λ _. Step) [ true ↦ first | false ↦ second ])
if_does true g v first second a b = a
if_does false g v first second a b = b

pub if_off_does : (off : Option Plain) (g : ℕ) (v : View) (first : Plain → Step) (second : Step) → ((why : Plain) → Does g v (first why)) → Does g v second
    → Does g v (elim off as (λ _. Step) [ Some why ↦ first why | None ↦ second ])
if_off_does None g v first second a b = b
if_off_does (Some why) g v first second a b = a why

pub halts_does : (g : ℕ) (l : DomainState) → Does g (view l) (steps.halts g l)
halts_does g l h = quiet _ _ refl (dropped (g ∷ []) (view l) h)

-- in a new context, or not at all
pub in_new_does : (made : contexts.Made) (g : ℕ) (l : DomainState) (then : ℕ → DomainState → Step) → ((c : ℕ) → Does g (view l) (then c (record l { contexts = made.contexts }))) → Does g (view l) (steps.in_new made g l then)
in_new_does made g l then does = by made.number
  where
    by : (number : Option ℕ) → Does g (view l) (elim number as (λ _. Step) [ None ↦ steps.halts g l | Some context ↦ then context (record l { contexts = made.contexts }) ])
    by None = halts_does g l
    by (Some context) = does context

-- ## Answers

-- the fiber goes on at the head
pub told_head : (it : Did) (reply : Said2) (next : Next) (g : ℕ) (l : DomainState) → closed_in it reply ≡ None → ClosesNext (length l.switches) (length l.groups) next → Does g (view l) (steps.told g it reply (to_head next g l))
told_head it reply next g l none call h = quiet _ _ none (head next g [] (view l) call h)

pub told_back : (it : Did) (reply : Said2) (next : Next) (g : ℕ) (l : DomainState) → closed_in it reply ≡ None → ClosesNext (length l.switches) (length l.groups) next → Does g (view l) (steps.told g it reply (to_back next g l))
told_back it reply next g l none call h = quiet _ _ none (back next g [] (view l) call h)

pub told_parked : (it : Did) (reply : Said2) (wait : Wait) (g : ℕ) (l : DomainState) → closed_in it reply ≡ None → (wait ≡ Asleep → ⊥) → ClosesWait (length l.switches) (length l.groups) wait
    → Does g (view l) (steps.told g it reply (stands (Parked wait) g l))
told_parked it reply wait g l none awake call h = quiet _ _ none (parks wait g [] (view l) awake call h)

-- it raises something, which takes a new number
pub raises_does : (it : Did) (what : Plain) (g : ℕ) (l : DomainState) → ((reply : Said2) → closed_in it reply ≡ None) → Does g (view l) (steps.raises it what g l)
raises_does it what g l none h = quiet (view l) (steps.raises it what g l) (none _) (head (GoesOn (outcome.Err (One (steps.member what l)))) g [] (view l) tt h)

pub raises_cancelled_does : (it : Did) (why : Plain) (g : ℕ) (l : DomainState) → ((reply : Said2) → closed_in it reply ≡ None) → Does g (view l) (steps.raises_cancelled it why g l)
raises_cancelled_does it why g l none h = quiet (view l) (steps.raises_cancelled it why g l) (none _) (head (GoesOn (outcome.Err (Cancelled (steps.member why l)))) g [] (view l) tt h)

pub others_awake : (call : Ask) → ForOthers call ≡ Asleep → ⊥
others_awake call e = cc

pub cancel_awake : ForCancel ≡ Asleep → ⊥
cancel_awake e = cc

-- it goes into a block, in this context; a mark of a group there was owed before
pub enters_does : (it : Did) (reply : Said2) (c : ℕ) (position : Position) (g : ℕ) (hand debts : List ℕ) (l : DomainState) → Closes (length l.switches) position.work
    → ((n : ℕ) → joining n position.work ≤ joining n (fiber_at l.fibers g).work + times n debts)
    → Leads (g ∷ hand) (owing_view debts l) hand (view (steps.enters it reply position g (moved_to c g l)).state)
enters_does it reply c position g hand debts l work joins h =
    let m : DomainState = moved_to c g l in
    let same : (n : ℕ) → joining n (fiber_at m.fibers g).work ≡ joining n (fiber_at l.fibers g).work =
    λ n. set_keeps (λ (k : Fiber). joining n k.work ≡ joining n (fiber_at l.fibers g).work) never_made l.fibers g g (record (fiber_at l.fibers g) { context = c }) (λ old. refl) refl in
    both (places (record (fiber_at l.fibers g) { context = c }) g (g ∷ hand) (owing_view debts l) debts refl refl (h.marks g) (λ n. omega arith) h)
    (λ k. both (places (record (fiber_at m.fibers g) { work = position.work; variables = position.variables }) g (g ∷ hand) (owing_view debts m) [] refl refl work (λ n. omega (arith, joins n, same n)) k)
    (λ i. head (GoesOn (outcome.Ok value.Unit)) g hand (view (placed position g m)) tt i))

-- the work behind a call that goes into a block; only a switch puts a mark of its own there
pub entered_closes : (bound : ℕ) (call : Ask) (number : ℕ) (work : List Work) (variables : List Value) → ((block : Block) → call ≡ ask.Switch block → number < bound) → Closes bound work → Closes bound (entered call number work variables).work
entered_closes bound (ask.Sub block) number work variables new h = h
entered_closes bound (ask.Protect block) number work variables new h = h
entered_closes bound (ask.Switch block) number work variables new h = (new block refl, h)
entered_closes bound (ask.OnRelease switch block) number work variables new h = h
entered_closes bound (ask.Branches group blocks) number work variables new h = h
entered_closes bound (ask.OpenReader flow limit block) number work variables new h = h
entered_closes bound (ask.OpenWriter flow block) number work variables new h = h
entered_closes bound (ask.OpenDirectory place path block) number work variables new h = h
entered_closes bound call number work variables new h = h

-- and only branches one of a group
pub entered_joins : (n : ℕ) (call : Ask) (number : ℕ) (work : List Work) (variables : List Value) → ((group : syntax.Group) (blocks : List Block) → call ≡ ask.Branches group blocks → ⊥) → joining n (entered call number work variables).work ≤ joining n work
entered_joins n (ask.Sub block) number work variables isnt = omega arith
entered_joins n (ask.Protect block) number work variables isnt = omega arith
entered_joins n (ask.Switch block) number work variables isnt = omega arith
entered_joins n (ask.OnRelease switch block) number work variables isnt = omega arith
entered_joins n (ask.Branches group blocks) number work variables isnt = absurd (isnt group blocks refl)
entered_joins n (ask.OpenReader flow limit block) number work variables isnt = omega arith
entered_joins n (ask.OpenWriter flow block) number work variables isnt = omega arith
entered_joins n (ask.OpenDirectory place path block) number work variables isnt = omega arith
entered_joins n call number work variables isnt = omega arith

-- ## Contexts

pub moved_leads : (c g : ℕ) (hand : List ℕ) (l : DomainState) → Leads hand (view l) hand (view (moved_to c g l))
moved_leads c g hand l h = places (record (fiber_at l.fibers g) { context = c }) g hand (view l) [] refl refl (h.marks g) (λ n. omega arith) h

left_does : (c : ℕ) (late : Bool) (it : Outcome) (g : ℕ) (l : DomainState) → Does g (view l) (on_contexts.left_with c late it g l)
left_does c true (outcome.Ok it) g l = raises_does _ _ g l (λ reply. refl)
left_does c false (outcome.Ok it) g l = told_head _ _ _ g l refl tt
left_does c true (outcome.Err raised) g l = told_head _ _ _ g l refl tt
left_does c false (outcome.Err raised) g l = told_head _ _ _ g l refl tt

-- behind a part of a move
pub after_does : (hand : List ℕ) (v : View) (w : View) (step : Step) → Goes v hand w → (Sound hand w → Ends w step) → Ends v step
after_does hand v w step first second =
    let rest : Ends w step = second first.sound in record { goes = both first (λ s. rest.goes); closes = rest.closes }

leave_does : (c : ℕ) (late : Bool) (it : Outcome) (g : ℕ) (l : DomainState) → Does g (view l) (on_contexts.leave c late it g l)
leave_does c late it g l h =
    let m : DomainState = record l { contexts = contexts.end c l.contexts } in
    after_does (g ∷ []) (view l) _ _ (moved_leads (unwrap_or (contexts.context_at l.contexts c).parent 0) g (g ∷ []) m h) (left_does c late it g (on_contexts.leaves c g l))

-- ## Switches

pub fails_leads : (maker n : ℕ) (what : Raised) (hand : List ℕ) (l : DomainState) → Leads hand (view l) hand (view (on_switches.fails maker n what l))
fails_leads maker n what hand l = by (switches.fail what (switch_at l.switches n)) refl
  where
    by : (changed : Option Switch) → switches.fail what (switch_at l.switches n) ≡ changed
        → Leads hand (view l) hand (view (elim changed as (λ _. DomainState) [ None ↦ l | Some switch ↦ steps.cancels maker switch.context (reason what) (on_switches.with_switch_at n switch l) ]))
    by None is = stays hand (view l)
    by (Some switch) is = changes Nowhere n switch hand (view l) (fail_alike what (switch_at l.switches n) switch is) (λ x gone. absurd gone)

pub fails_fibers : (maker n : ℕ) (what : Raised) (l : DomainState) → (on_switches.fails maker n what l).fibers ≡ l.fibers
fails_fibers maker n what l = by (switches.fail what (switch_at l.switches n))
  where
    by : (changed : Option Switch) → (elim changed as (λ _. DomainState) [ None ↦ l | Some switch ↦ steps.cancels maker switch.context (reason what) (on_switches.with_switch_at n switch l) ]).fibers ≡ l.fibers
    by None = refl
    by (Some switch) = refl

woken_leads : (x : ℕ) (hand : List ℕ) (l : DomainState) → Leads hand (view l) hand (view (on_switches.woken x l))
woken_leads x hand l h = by (fiber_at l.fibers x).standing refl
  where
    by : (standing : Standing) → (fiber_at l.fibers x).standing ≡ standing → Goes (view l) hand (view (elim standing as (λ _. DomainState) [
      | Parked wait ↦ elim wait [ ForOthers call ↦ to_back (CallsAgain call) x l | OnObject who ↦ l | Asleep ↦ l | ForCancel ↦ l | Resting ↦ l ]
      | Ready next ↦ l
      | Ended it ↦ l
    ]))
    by (Parked (ForOthers call)) is =
        wakes (CallsAgain call) x hand (view l) (ForOthers call) is (others_awake call) (λ who e. (cc)) (subst (ClosesStanding (length l.switches) (length l.groups)) is (h.calls x)) h
    by (Parked (OnObject who)) is = stays hand (view l) h
    by (Parked Asleep) is = stays hand (view l) h
    by (Parked ForCancel) is = stays hand (view l) h
    by (Parked Resting) is = stays hand (view l) h
    by (Ready next) is = stays hand (view l) h
    by (Ended it) is = stays hand (view l) h

pub woken_if_leads : (who : Option ℕ) (hand : List ℕ) (l : DomainState) → Leads hand (view l) hand (view (on_switches.woken_if who l))
woken_if_leads None hand l = stays hand (view l)
woken_if_leads (Some x) hand l = woken_leads x hand l

given_up_leads : (maker n : ℕ) (daemon : Bool) (result : Outcome) (hand : List ℕ) (l : DomainState) → Leads hand (view l) hand (view (on_switches.given_up maker n daemon result l))
given_up_leads maker n daemon (outcome.Ok it) hand l = stays hand (view l)
given_up_leads maker n true (outcome.Err (Cancelled why)) hand l = stays hand (view l)
given_up_leads maker n false (outcome.Err (Cancelled why)) hand l = fails_leads maker n (Cancelled why) hand l
given_up_leads maker n true (outcome.Err (One why)) hand l = fails_leads maker n (One why) hand l
given_up_leads maker n false (outcome.Err (One why)) hand l = fails_leads maker n (One why) hand l
given_up_leads maker n true (outcome.Err (Many several)) hand l = fails_leads maker n (Many several) hand l
given_up_leads maker n false (outcome.Err (Many several)) hand l = fails_leads maker n (Many several) hand l

pub given_up_fibers : (maker n : ℕ) (daemon : Bool) (result : Outcome) (l : DomainState) → (on_switches.given_up maker n daemon result l).fibers ≡ l.fibers
given_up_fibers maker n daemon (outcome.Ok it) l = refl
given_up_fibers maker n true (outcome.Err (Cancelled why)) l = refl
given_up_fibers maker n false (outcome.Err (Cancelled why)) l = fails_fibers maker n (Cancelled why) l
given_up_fibers maker n true (outcome.Err (One why)) l = fails_fibers maker n (One why) l
given_up_fibers maker n false (outcome.Err (One why)) l = fails_fibers maker n (One why) l
given_up_fibers maker n true (outcome.Err (Many several)) l = fails_fibers maker n (Many several) l
given_up_fibers maker n false (outcome.Err (Many several)) l = fails_fibers maker n (Many several) l

-- a fiber that has ended leaves its switch
detached_leads : (n : ℕ) (daemon : Bool) (result : Outcome) (g : ℕ) (hand : List ℕ) (l : DomainState) → is_over (fiber_at l.fibers g).standing ≡ true → Leads hand (view l) hand (view (on_switches.detached n daemon result g l))
detached_leads n daemon result g hand l over h =
    let t : DomainState = on_switches.given_up g n daemon result l in
    let left : Detached = switches.detach g (switch_at t.switches n) in
    let still : is_over (fiber_at t.fibers g).standing ≡ true = ap (λ (fibers : List Fiber). is_over (fiber_at fibers g).standing) (given_up_fibers g n daemon result l) ∙ over in
    both (given_up_leads g n daemon result hand l h)
    (λ k. both (changes (λ x. x ≡ g) n left.switch hand (view t) (detach_alike g (switch_at t.switches n)) (λ x gone. subst (λ (y : ℕ). is_over (fiber_at t.fibers y).standing ≡ true) (sym gone) still) k)
    (λ i. woken_if_leads left.woken hand (on_switches.with_switch_at n left.switch t) i))

switch_does : (block : Block) (g : ℕ) (l : DomainState) → Does g (view l) (on_switches.switch (ask.Switch block) g l)
switch_does block g l =
    let n = length l.switches in
    if_off_does (off_for l g) g (view l) _ _ (λ why. raises_cancelled_does did.Switch why g l (λ reply. refl))
    (in_new_does (on_contexts.sub_of l g) g l (λ c m. on_contexts.enters_context did.Switch (said.Done (value.Switch n)) c (on_contexts.before_block (ask.Switch block) n g m) g (on_switches.opens c m)) (λ c h. (
    let m : DomainState = on_switches.opens c (record l { contexts = (on_contexts.sub_of l g).contexts }) in
    quiet _ _ refl (both (opens c (g ∷ []) (view l) h)
    (λ k. enters_does did.Switch (said.Done (value.Switch n)) c (on_contexts.before_block (ask.Switch block) n g l) g [] [] m
    (entered_closes (length m.switches) (ask.Switch block) n (fiber_at l.fibers g).work (fiber_at l.fibers g).variables (λ b same. omega (arith, length-append l.switches (switches.opened c ∷ []))) (k.marks g)) (λ n. omega arith) k)))))

forked_closes : (bound : ℕ) (forking : Forking) (block : Block) (variables : List Value) → Closes bound (on_switches.forked forking block variables).work
forked_closes bound syntax.Plain block variables = tt
forked_closes bound syntax.Daemon block variables = tt
forked_closes bound (syntax.Promising promise) block variables = tt

forked_unmarked : (n : ℕ) (forking : Forking) (block : Block) (variables : List Value) → joining n (on_switches.forked forking block variables).work ≡ 0
forked_unmarked n syntax.Plain block variables = refl
forked_unmarked n syntax.Daemon block variables = refl
forked_unmarked n (syntax.Promising promise) block variables = refl

fork_quiet : (forking : Forking) (n : ℕ) (reply : Said2) → closed_in (on_switches.did_fork forking n) reply ≡ None
fork_quiet syntax.Plain n reply = refl
fork_quiet syntax.Daemon n reply = refl
fork_quiet (syntax.Promising promise) n reply = refl

the_switch : (a b : ℕ) (c d : Bool) → OfSwitch a c ≡ OfSwitch b d → (a ≡ b) × (c ≡ d)
the_switch a b c d e = (cc, cc)

-- a new fiber on a switch that takes it
makes_does : (forking : Forking) (n : ℕ) (block : Block) (g : ℕ) (l : DomainState) → switches.refuses_fibers (switch_at l.switches n) ≡ false → Does g (view l) (on_switches.makes forking n block g l)
makes_does forking n block g l takes h =
    let u : DomainState = on_switches.with_switch_at n t (made s.context (OfSwitch n daemon) (on_switches.forked forking block (fiber_at l.fibers g).variables) l) in
    let first : Goes (view l) (new ∷ g ∷ []) (view u) =
    makes _ (g ∷ []) (new ∷ g ∷ []) (view l) (slice_set l.switches n t) [] (λ x. refl) tt (forked_closes (length l.switches) forking block (fiber_at l.fibers g).variables) tt (set_length l.switches n t)
    (λ k. emptied_by k (set_at never_opened l.switches n k t)) (λ k. finished_by k (set_at never_opened l.switches n k t)) (λ k x other. attached_by k x other (set_at never_opened l.switches n k t)) new_by
    (uncredited _ l.fibers l.groups [] (λ m. refl) (λ m. forked_unmarked m forking block (fiber_at l.fibers g).variables)) h in
    let nothing : Next = GoesOn (outcome.Ok value.Unit) in
    quiet _ _ (fork_quiet forking n _)
    (both first (λ k. both (holds (new ∷ g ∷ []) (g ∷ new ∷ []) (view u) (λ x. omega arith) k)
    (λ i. both (head nothing g (new ∷ []) (view u) tt i) (λ j. head nothing new [] (view (to_head nothing g u)) tt j))))
  where
    new : ℕ
    new = length l.fibers

    daemon : Bool
    daemon = on_switches.is_daemon forking

    s : Switch
    s = switch_at l.switches n

    t : Switch
    t = (switches.attach new daemon s).switch

    is : t ≡ switches.with_fiber new daemon s
    is = attached_switch new daemon s takes

    is_open : s.finished ≡ false
    is_open = (or_parts _ _ takes).0

    emptied_by : (k : ℕ) → SetAt never_opened l.switches n k t → IsEmptied (switch_at l.switches k) → IsEmptied (switch_at (slice_set l.switches n t) k)
    emptied_by k (There same) old = subst IsEmptied (sym same) old
    emptied_by k (Here at same) old =
        subst IsEmptied (sym (same ∙ is)) (λ finished. absurd (both_ways s.finished is_open (sym (with_fiber_finished new daemon s) ∙ finished)))

    finished_by : (k : ℕ) → SetAt never_opened l.switches n k t → (switch_at l.switches k).finished ≡ true → (switch_at (slice_set l.switches n t) k).finished ≡ true
    finished_by k (There same) old = ap (λ (it : Switch). it.finished) same ∙ old
    finished_by k (Here at same) old = absurd (both_ways s.finished is_open (subst (λ (m : ℕ). (switch_at l.switches m).finished ≡ true) at old))

    attached_by : (k x : ℕ) (other : Bool) → SetAt never_opened l.switches n k t → 0 < times x (attached_to other (switch_at l.switches k)) → 0 < times x (attached_to other (switch_at (slice_set l.switches n t) k))
    attached_by k x other (There same) old = subst (λ (it : Switch). 0 < times x (attached_to other it)) (sym same) old
    attached_by k x other (Here at same) old =
        subst (λ (it : Switch). 0 < times x (attached_to other it)) (sym (same ∙ is)) (with_fiber_more new x daemon other s (subst (λ (m : ℕ). 0 < times x (attached_to other (switch_at l.switches m))) at old))

    exists : n < length l.switches
    exists = within (λ (it : Switch). it.finished ≡ false) never_opened l.switches n (λ e. (cc)) is_open

    new_by : (k : ℕ) (other : Bool) → OfSwitch n daemon ≡ OfSwitch k other → 0 < times new (attached_to other (switch_at (slice_set l.switches n t) k))
    new_by k other same =
        let parts = the_switch n k daemon other same in
        subst (λ (m : ℕ). 0 < times new (attached_to other (switch_at (slice_set l.switches n t) m))) parts.0
        (subst (λ (it : Switch). 0 < times new (attached_to other it)) (sym (set_same never_opened l.switches n t exists ∙ is))
        (subst (λ (d : Bool). 0 < times new (attached_to d (switches.with_fiber new daemon s))) parts.1 (with_fiber_new new daemon s)))

fork_does : (forking : Forking) (n : ℕ) (block : Block) (g : ℕ) (l : DomainState) → Does g (view l) (on_switches.fork forking n block g l)
fork_does forking n block g l = by (switches.refuses_forks l.contexts (switch_at l.switches n)) refl
  where
    by : (refused : Bool) → switches.refuses_forks l.contexts (switch_at l.switches n) ≡ refused
        → Does g (view l) (elim refused as (λ _. Step) [
          | true ↦ record (steps.does (on_switches.did_fork forking n) g l) { reply = said.Nothing }
          | false ↦ elim (is_full_by 1 l.fibers) [ true ↦ steps.halts g l | false ↦ on_switches.makes forking n block g l ]
        ])
    by true is = told_head _ _ _ g l (fork_quiet forking n _) tt
    by false is = if_does (is_full_by 1 l.fibers) g (view l) _ _ (halts_does g l) (makes_does forking n block g l (or_parts _ _ is).1)

fail_does : (n : ℕ) (text : TextId) (g : ℕ) (l : DomainState) → Does g (view l) (on_switches.fail n text g l)
fail_does n text g l =
    (let x = steps.member (Failure text) l in
    if_does (switch_at l.switches n).finished g (view l) _ _ (raises_does _ _ g l (λ reply. refl))
    (λ h. quiet _ _ refl (both (fails_leads g n (One x) (g ∷ []) (steps.counted l) h) (λ k. head (GoesOn (outcome.Ok value.Unit)) g [] (view (on_switches.fails g n (One x) (steps.counted l))) tt k))))

release_does : (n : ℕ) (block : Block) (g : ℕ) (l : DomainState) → Does g (view l) (on_switches.release (ask.OnRelease n block) n block g l)
release_does n block g l = by (switches.on_release handler (switch_at l.switches n)) refl
  where
    handler : Handler
    handler = record { block = number_of block; values = (fiber_at l.fibers g).variables }

    by : (changed : Option Switch) → switches.on_release handler (switch_at l.switches n) ≡ changed
        → Does g (view l) (elim changed as (λ _. Step) [
          | Some switch ↦ steps.does (did.OnRelease n) g (on_switches.with_switch_at n switch l)
          | None ↦ steps.in_new (on_contexts.protected_of l g) g l (λ c m. on_contexts.enters_context (did.OnRelease n) said.Handler c (on_contexts.before_block (ask.OnRelease n block) c g m) g m)
        ])
    by (Some switch) is =
        λ h. after_does (g ∷ []) (view l) _ _ (changes Nowhere n switch (g ∷ []) (view l) (on_release_alike handler (switch_at l.switches n) switch is) (λ x gone. absurd gone) h)
        (told_head _ _ _ g (on_switches.with_switch_at n switch l) refl tt)
    by None is =
        in_new_does (on_contexts.protected_of l g) g l (λ c m. on_contexts.enters_context (did.OnRelease n) said.Handler c (on_contexts.before_block (ask.OnRelease n block) c g m) g m)
        (λ c h. quiet _ _ refl (enters_does (did.OnRelease n) said.Handler c (on_contexts.before_block (ask.OnRelease n block) c g l) g [] []
        (record l { contexts = (on_contexts.protected_of l g).contexts }) (h.marks g) (λ k. omega arith) h))

the_number : (a b : ℕ) → Some a ≡ Some b → a ≡ b
the_number a b e = cc

-- the switch has finished, and this is what it comes to
returns_does : (n c : ℕ) (result : Outcome) (g : ℕ) (l : DomainState) → n < length l.switches → (switch_at l.switches n).finished ≡ true → Does g (view l) (on_switches.returns n c result g l)
returns_does n c result g l opened finished h =
    let m : DomainState = on_contexts.leaves c g l in
    let first : Goes (view l) (g ∷ []) (view m) = moved_leads (unwrap_or (contexts.context_at l.contexts c).parent 0) g (g ∷ []) (record l { contexts = contexts.end c l.contexts }) h in
    record { goes = both first (λ k. head (GoesOn result) g [] (view m) tt k); closes = λ k is. subst (IsFinished l.switches) (by result k is) (record { opened = opened; finished = finished }) }
  where
    by : (result : Outcome) (k : ℕ) → closed_in (did.Close n) (steps.reply_of result) ≡ Some k → n ≡ k
    by (outcome.Ok it) k is = the_number n k is
    by (outcome.Err raised) k is = the_number n k is

-- what `close` found to do, on a switch that was opened
closed_does : (script : Script) (n c : ℕ) (came : Option Raised) (kept : Value) (step : CloseStep) (g : ℕ) (l : DomainState) → n < length l.switches → (is_result step ≡ true → (switch_at l.switches n).finished ≡ true)
    → Does g (view l) (on_switches.closed_by script (ask.Close n came kept) n c kept step g l)
closed_does script n c came kept switches.Wait g l opened finished = told_parked _ _ (ForOthers (ask.Close n None kept)) g l refl (others_awake _) (opened, tt)
closed_does script n c came kept switches.CancelDaemons g l opened finished = told_parked _ _ (ForOthers (ask.Close n None kept)) g _ refl (others_awake _) (opened, tt)
closed_does script n c came kept (switches.RunHandler handler) g l opened finished =
    in_new_does (on_contexts.protected_of l g) g l (λ number m. (
    let fiber : Fiber = fiber_at m.fibers g in
    on_contexts.enters_context (did.Close n) said.Handler number (handled (ask.Close n came kept) number (block_numbered script handler.block) handler.values fiber.work fiber.variables) g m)) (λ number h. (
    let fiber : Fiber = fiber_at l.fibers g in
    quiet _ _ refl (enters_does (did.Close n) said.Handler number (handled (ask.Close n came kept) number (block_numbered script handler.block) handler.values fiber.work fiber.variables) g [] []
    (record l { contexts = (on_contexts.protected_of l g).contexts }) (opened, h.marks g) (λ n. omega arith) h)))
closed_does script n c came kept switches.Return g l opened finished = returns_does n c (outcome.Ok kept) g l opened (finished refl)
closed_does script n c came kept (switches.Raise errors) g l opened finished = returns_does n c (outcome.Err errors) g l opened (finished refl)

fails_with_leads : (maker n : ℕ) (came : Option Raised) (hand : List ℕ) (l : DomainState) → Leads hand (view l) hand (view (on_switches.fails_with maker n came l))
fails_with_leads maker n None hand l = stays hand (view l)
fails_with_leads maker n (Some what) hand l = fails_leads maker n what hand l

close_does : (script : Script) (n : ℕ) (came : Option Raised) (kept : Value) (g : ℕ) (l : DomainState) → n < length l.switches → Does g (view l) (on_switches.close script (ask.Close n came kept) n came kept g l)
close_does script n came kept g l opened =
    let t : DomainState = on_switches.fails_with g n came l in
    let s : Switch = switch_at t.switches n in
    let closed : Closed = switches.close_step g s in
    if_does (switches.runs_handler (switch_at l.switches n) && contexts.is_full l.contexts) g (view l) _ _ (halts_does g l)
    (λ h. (
    let first = fails_with_leads g n came (g ∷ []) l h in
    let still : n < length t.switches = omega (arith, opened, first.made) in
    after_does (g ∷ []) (view l) _ _ (both first (changes Nowhere n closed.switch (g ∷ []) (view t) (close_alike g s) (λ x gone. absurd gone)))
    (closed_does script n closed.switch.context came kept closed.step g (on_switches.with_switch_at n closed.switch t) (omega (arith, still, set_length t.switches n closed.switch))
    (λ is. ap (λ (it : Switch). it.finished) (set_same never_opened t.switches n closed.switch still) ∙ close_finishes g s is))))

-- ## Groups

branch_quiet : (kind : syntax.Group) (c : ℕ) (reply : Said2) → closed_in (on_groups.did_branch kind c) reply ≡ None
branch_quiet syntax.Both c reply = refl
branch_quiet syntax.All c reply = refl
branch_quiet syntax.First c reply = refl
branch_quiet syntax.Any c reply = refl

of_group : (a n : ℕ) (daemon : Bool) → OfGroup a ≡ OfSwitch n daemon → ⊥
of_group a n daemon e = cc

abbrev numbers : (first : ℕ) → List Block → List ℕ
numbers first blocks = on_groups.numbers_from first (length blocks)

-- each of these fibers was owed to the group before
branched_leads : (c n : ℕ) (variables : List Value) (blocks : List Block) (hand debts : List ℕ) (l : DomainState)
    → (0 < length blocks → lives n l.fibers + owns n l.fibers + times n (owing n (length blocks) debts) ≤ (groups.group_at l.groups n).left)
    → Leads hand (owing_view (owing n (length blocks) debts) l) (numbers (length l.fibers) blocks ++ hand) (owing_view debts (on_groups.branched c n variables blocks l))
unfolding on_groups.branched
branched_leads c n variables [] hand debts l room h = stays hand (owing_view debts l) h
branched_leads c n variables (block ∷ blocks) hand debts l room h =
    let m : DomainState = made c (OfGroup n) (begun block variables) l in
    let new : ℕ = length l.fibers in
    let owed : List ℕ = owing n (length blocks) debts in
    let more : length m.fibers ≡ new + 1 = length-append l.fibers _ in
    let all : (x : ℕ) → times x (numbers (new + 1) blocks ++ new ∷ hand) ≡ times x (numbers (new + 1) blocks) + (one x new + times x hand) = λ x. times_append x (numbers (new + 1) blocks) (new ∷ hand) in
    let wanted : (x : ℕ) → times x (numbers (new + 1) blocks ++ hand) ≡ times x (numbers (new + 1) blocks) + times x hand = λ x. times_append x (numbers (new + 1) blocks) hand in
    let lives_more : lives n m.fibers ≡ lives n l.fibers + one n n = total_more (live_in n) l.fibers _ in
    let owns_more : owns n m.fibers ≡ owns n l.fibers + 0 = total_more (λ (f : Fiber). joining n f.work) l.fibers _ in
    let full : lives n l.fibers + owns n l.fibers + (one n n + times n owed) ≤ (groups.group_at l.groups n).left = room (omega arith) in
    both (makes_other _ hand (owing_view (n ∷ owed) l) owed tt tt tt (of_group n) (record {
      credit = (λ k. omega arith);
      room = (λ k some. room_by k some full (compared k n));
      unmarked = (λ k. refl);
    }) h)
    (λ k. both (subst (λ (first : ℕ). Leads (new ∷ hand) (owing_view owed m) (numbers first blocks ++ new ∷ hand) (owing_view debts (on_groups.branched c n variables blocks m))) more
    (branched_leads c n variables blocks (new ∷ hand) debts m (λ some. omega (arith, full, lives_more, owns_more))) k)
    (λ i. holds (numbers (new + 1) blocks ++ new ∷ hand) (new ∷ (numbers (new + 1) blocks ++ hand)) (owing_view debts (on_groups.branched c n variables blocks m)) (λ x. omega (arith, all x, wanted x)) i))
  where
    room_by : (k : ℕ) → 0 < one k n → lives n l.fibers + owns n l.fibers + (one n n + times n (owing n (length blocks) debts)) ≤ (groups.group_at l.groups n).left → Compared k n
        → lives k l.fibers + owns k l.fibers + (one k n + times k (owing n (length blocks) debts)) ≤ (groups.group_at l.groups k).left
    room_by k some full (Other differs none) = absurd (omega (arith, some, none))
    room_by k some full (Same same is_one) =
        subst (λ (x : ℕ). lives x l.fibers + owns x l.fibers + (one x n + times x (owing n (length blocks) debts)) ≤ (groups.group_at l.groups x).left) (sym same) full

take_most : (k : ℕ) (blocks : List Block) → length (take k blocks) ≤ k
take_most k blocks = omega (arith, length-take k blocks)

branches_does : (kind : syntax.Group) (blocks : List Block) (g : ℕ) (l : DomainState) → Does g (view l) (on_groups.branches (ask.Branches kind blocks) kind blocks g l)
branches_does kind blocks g l =
    if_off_does (off_for l g) g (view l) _ _ (λ why. raises_cancelled_does _ why g l (branch_quiet kind (on_contexts.context_of l g)))
    (if_does (is_full_by (length blocks - 1) l.fibers) g (view l) _ _ (halts_does g l)
    (in_new_does (on_contexts.sub_of l g) g l (λ c m. on_groups.branches_in (ask.Branches kind blocks) kind blocks c g m) (λ c h. (
    let n : ℕ = length l.groups in
    let others : List Block = other_branches blocks in
    let new : List ℕ = numbers (length l.fibers) others in
    let group : Group = groups.gathered (on_groups.kind_of kind) c (length blocks) in
    let u : DomainState = record l { contexts = (on_contexts.sub_of l g).contexts; groups = l.groups ++ group ∷ [] } in
    let t : DomainState = on_groups.branched c n (fiber_at l.fibers g).variables others u in
    let all : (x : ℕ) → times x (new ++ g ∷ []) ≡ times x new + (one x g + 0) = λ x. times_append x new (g ∷ []) in
    let position : Position = on_contexts.before_block (ask.Branches kind blocks) n g t in
    let step : Step = on_contexts.enters_context (on_groups.did_branch kind c) (on_groups.first_of l.number (length l.fibers) (length others)) c position g t in
    let none : (x : ℕ) → times x (new ++ []) ≡ times x new + 0 = λ x. times_append x new [] in
    let owed : List ℕ = owing n (length others) (n ∷ []) in
    let elsewhere : (m : ℕ) → (m ≡ n → ⊥) → times m owed ≤ 0 = λ m differs. elsewhere_by m n (length others) differs (compared m n) in
    let left : (groups.group_at u.groups n).left ≡ length blocks = ap (λ (it : Group). it.left) (added_last groups.never_gathered l.groups group) in
    let fresh : lives n l.fibers + owns n l.fibers + 0 ≡ 0 = h.gathered.fresh n (omega arith) in
    let room : 0 < length others → lives n u.fibers + owns n u.fibers + times n owed ≤ (groups.group_at u.groups n).left =
    λ some. omega (arith, left, fresh, owing_here n (length others) (n ∷ []), one_self n, some, take_most (length blocks - 1) blocks) in
    quiet _ _ (branch_quiet kind c (on_groups.first_of l.number (length l.fibers) (length others)))
    (both (gathers group (g ∷ []) (view l) owed elsewhere h)
    (λ b. both (branched_leads c n (fiber_at l.fibers g).variables others (g ∷ []) (n ∷ []) u room b)
    (λ k. both (holds (new ++ g ∷ []) (g ∷ new) (owing_view (n ∷ []) t) (λ x. omega (arith, all x)) k)
    (λ i. both (enters_does (on_groups.did_branch kind c) (on_groups.first_of l.number (length l.fibers) (length others)) c position g new (n ∷ []) t (i.marks g) (λ m. omega arith) i)
    (λ j. both (holds new (new ++ []) (view step.state) (λ x. omega (arith, none x)) j) (λ f. listed new [] (view step.state) f))))))))))
  where
    elsewhere_by : (m n count : ℕ) → (m ≡ n → ⊥) → Compared m n → times m (owing n count (n ∷ [])) ≤ 0
    elsewhere_by m n count differs (Same same is_one) = absurd (differs same)
    elsewhere_by m n count differs (Other other none) = omega (arith, none, owing_elsewhere m n count (n ∷ []) none)

cancels_if_leads : (maker c : ℕ) (why : Option Plain) (hand : List ℕ) (l : DomainState) → Leads hand (view l) hand (view (on_groups.cancels_if maker c why l))
cancels_if_leads maker c None hand l = stays hand (view l)
cancels_if_leads maker c (Some why) hand l = stays hand (view l)

outcome_left : (result : Outcome) (group : Group) → (groups.outcome_in result group).group.left ≡ group.left
outcome_left (outcome.Err raised) group = refl
outcome_left (outcome.Ok it) group = by (groups.keeps_a_value group.kind) group.kept
  where
    by : (b : Bool) (kept : Option Value) → (elim b as (λ _. BranchEnded) [
      | true ↦ elim kept as (λ _. BranchEnded) [
        | None ↦ record { group = record group { kept = Some it }; cancels = Some NotFirst; woken = None }
        | Some first ↦ record { group = group; cancels = None; woken = None }
      ]
      | false ↦ record { group = group; cancels = None; woken = None }
    ]).group.left ≡ group.left
    by true None = refl
    by true (Some first) = refl
    by false kept = refl

wake_left : (ended : BranchEnded) → (groups.wake_joiner ended).group.left ≡ ended.group.left
wake_left ended = by (ended.group.left == 0)
  where
    by : (b : Bool) → (elim b as (λ _. BranchEnded) [
      | true ↦ (let group : Group = record (ended.group) { joiner = None } in record { group = group; cancels = ended.cancels; woken = ended.group.joiner })
      | false ↦ ended
    ]).group.left ≡ ended.group.left
    by true = refl
    by false = refl

pub branch_left : (result : Outcome) (group : Group) → (groups.branch_ends result group).group.left ≡ group.left - 1
branch_left result group = wake_left (groups.outcome_in result (record group { left = group.left - 1 })) ∙ outcome_left result (record group { left = group.left - 1 })

-- the end that was owed is counted
pub branch_ended_leads : (n : ℕ) (result : Outcome) (g : ℕ) (hand : List ℕ) (l : DomainState) → Leads hand (owing_view (n ∷ []) l) hand (view (on_groups.branch_ended n result g l))
branch_ended_leads n result g hand l h =
    let old : Group = groups.group_at l.groups n in
    let it : BranchEnded = groups.branch_ends result old in
    let t : DomainState = record l { groups = groups.with_group n it.group l.groups } in
    let fewer : it.group.left ≡ old.left - 1 = branch_left result old in
    both (regroups n it.group hand (owing_view (n ∷ []) l) [] (λ m. omega arith) (omega (arith, fewer, one_self n)) (omega (arith, fewer)) h)
    (λ k. both (cancels_if_leads g it.group.context it.cancels hand t k) (woken_if_leads it.woken hand (on_groups.cancels_if g it.group.context it.cancels t)))

pub own_ended_leads : (n : ℕ) (own : Option Outcome) (g : ℕ) (hand : List ℕ) (l : DomainState) → Leads hand (owing_view (owed_own n own) l) hand (view (on_groups.own_ended n own g l))
own_ended_leads n None g hand l = stays hand (view l)
own_ended_leads n (Some result) g hand l = branch_ended_leads n result g hand l

joined_does : (n : ℕ) (own : Option Outcome) (c : ℕ) (step : groups.JoinStep) (g : ℕ) (l : DomainState) → n < length l.groups → Does g (view l) (on_groups.joined_by (ask.Join n own) c step g l)
joined_does n own c groups.Wait g l made = told_parked _ _ (ForOthers (ask.Join n None)) g l refl (others_awake _) (tt, made)
joined_does n own c (groups.Give it) g l made =
    λ h. after_does (g ∷ []) (view l) _ _ (moved_leads (unwrap_or (contexts.context_at l.contexts c).parent 0) g (g ∷ []) (record l { contexts = contexts.end c l.contexts }) h) (told_head _ _ _ g (on_contexts.leaves c g l) refl tt)
joined_does n own c (groups.Raise raised) g l made =
    λ h. after_does (g ∷ []) (view l) _ _ (moved_leads (unwrap_or (contexts.context_at l.contexts c).parent 0) g (g ∷ []) (record l { contexts = contexts.end c l.contexts }) h) (told_head _ _ _ g (on_contexts.leaves c g l) refl tt)

pub join_left : (g : ℕ) (group : Group) → (groups.join g group).group.left ≡ group.left
join_left g group = by (group.left == 0)
  where
    by : (b : Bool) → (elim b as (λ _. Joined) [
      | false ↦ record { step = groups.Wait; group = record group { joiner = Some g } }
      | true ↦ record { step = groups.result_of group; group = group }
    ]).group.left ≡ group.left
    by false = refl
    by true = refl

joins_does : (n : ℕ) (own : Option Outcome) (g : ℕ) (l : DomainState) → JoinsOwn (length l.groups) n own → Does g (owing_view (owed_own n own) l) (on_groups.joins (ask.Join n own) n own g l)
joins_does n own g l made h =
    let t : DomainState = on_groups.own_ended n own g l in
    let old : Group = groups.group_at t.groups n in
    let joined : Joined = groups.join g old in
    let inside : n < length l.groups = owed_inside l.fibers l.groups n own made h.gathered in
    let first = own_ended_leads n own g (g ∷ []) l h in
    let same : joined.group.left ≡ old.left = join_left g old in
    after_does (g ∷ []) (owing_view (owed_own n own) l) _ _
    (both first (regroups n joined.group (g ∷ []) (view t) [] (λ m. omega arith) (omega (arith, same)) (omega (arith, same))))
    (joined_does n own joined.group.context joined.step g (record t { groups = groups.with_group n joined.group t.groups }) (omega (arith, inside, first.gathers, group_length t.groups n joined.group)))

-- ## Ends

after_end_leads : (role : Role) (result : Outcome) (g : ℕ) (hand : List ℕ) (l : DomainState) → is_over (fiber_at l.fibers g).standing ≡ true → Leads hand (owing_view (owed_by role []) l) hand (view (on_ends.after_end role result g l))
after_end_leads OfBody result g hand l over = stays hand (view l)
after_end_leads (OfJob executor number) result g hand l over = stays hand (view l)
after_end_leads (OfSwitch n daemon) result g hand l over = detached_leads n daemon result g hand l over
after_end_leads (OfGroup n) result g hand l over = branch_ended_leads n result g hand l
after_end_leads (OfWriter writer) result g hand l over = stays hand (view l)

pub ends_leads : (result : Outcome) (g : ℕ) (hand : List ℕ) (l : DomainState) → Leads (g ∷ hand) (view l) hand (view (on_ends.ends result g l))
ends_leads result g hand l h = both (ends result g hand (view l) h) (after_end_leads (fiber_at l.fibers g).role result g hand (ended result g l) (ends_over result g hand (view l) h))

-- ## The clock

sleep_does : (time : ℤ) (g : ℕ) (l : DomainState) → Does g (view l) (on_clock.sleep time g l)
sleep_does time g l =
    if_does (int_lt time (pos 1)) g (view l) _ _ (told_back _ _ LooksUp g l refl tt)
    (if_does (is_within (l.now +ℤ time)) g (view l) _ _
    (if_off_does (off_for l g) g (view l) _ _ (λ why. told_back _ _ FindsOff g l refl tt) (λ h. quiet _ _ refl (sleeps (record { due = l.now +ℤ time; number = l.timers.made; fiber = g }) [] (view l) h)))
    (raises_does _ _ g l (λ reply. refl)))

-- ## A fiber's own call

end_quiet : (it : Outcome) → closed_in did.End (steps.reply_of it) ≡ None
end_quiet (outcome.Ok it) = refl
end_quiet (outcome.Err raised) = refl

pub own_call_does : (script : Script) (call : Ask) (g : ℕ) (l : DomainState) → ClosesCall (length l.switches) call → JoinsMade (length l.groups) call → Does g (owing_view (owed_call call) l) (own_call script call g l)
unfolding own_call
own_call_does script (ask.Trace values) g l call made = told_head _ _ _ g l refl tt
own_call_does script ask.Yield g l call made = told_back _ _ LooksUp g l refl tt
own_call_does script ask.Check g l call made = if_off_does (off_for l g) g (view l) _ _ (λ why. raises_cancelled_does _ why g l (λ reply. refl)) (told_head _ _ _ g l refl tt)
own_call_does script ask.AwaitCancel g l call made = if_off_does (off_for l g) g (view l) _ _ (λ why. told_back _ _ FindsOff g l refl tt) (told_parked _ _ ForCancel g l refl cancel_awake tt)
own_call_does script ask.Turn g l call made = told_head _ _ _ g l refl tt
own_call_does script (ask.Sub block) g l call made =
    if_off_does (off_for l g) g (view l) _ _ (λ why. raises_cancelled_does did.Sub why g l (λ reply. refl))
    (in_new_does (on_contexts.sub_of l g) g l (λ c m. on_contexts.enters_context did.Sub (said.Done (value.Ctx c)) c (on_contexts.before_block (ask.Sub block) c g m) g m) (λ c h. quiet _ _ refl (enters_does did.Sub (said.Done (value.Ctx c)) c (on_contexts.before_block (ask.Sub block) c g l) g [] []
    (record l { contexts = (on_contexts.sub_of l g).contexts }) (h.marks g) (λ n. omega arith) h)))
own_call_does script (ask.Protect block) g l call made =
    in_new_does (on_contexts.protected_of l g) g l (λ c m. on_contexts.enters_context did.Protect (said.Done (value.Ctx c)) c (on_contexts.before_block (ask.Protect block) c g m) g m)
    (λ c h. quiet _ _ refl (enters_does did.Protect (said.Done (value.Ctx c)) c (on_contexts.before_block (ask.Protect block) c g l) g [] []
    (record l { contexts = (on_contexts.protected_of l g).contexts }) (h.marks g) (λ n. omega arith) h))
own_call_does script (ask.Cancel context text) g l call made = if_does (contexts.is_live l.contexts context) g (view l) _ _ (told_head _ _ _ g _ refl tt) (raises_does _ _ g l (λ reply. refl))
own_call_does script (ask.Switch block) g l call made = switch_does block g l
own_call_does script (ask.Fork forking n block) g l call made = fork_does forking n block g l
own_call_does script (ask.Fail n text) g l call made = fail_does n text g l
own_call_does script (ask.OnRelease n block) g l call made = release_does n block g l
own_call_does script (ask.Branches kind blocks) g l call made = branches_does kind blocks g l
own_call_does script (ask.Sleep time) g l call made = sleep_does time g l
own_call_does script ask.Now g l call made = told_head _ _ _ g l refl tt
own_call_does script (ask.Leave context late it) g l call made = leave_does context late it g l
own_call_does script (ask.Close n came kept) g l call made = close_does script n came kept g l call
own_call_does script (ask.Join n own) g l call made = joins_does n own g l made
own_call_does script (ask.End it) g l call made = λ h. quiet _ _ (end_quiet it) (ends_leads it g [] l h)
own_call_does script call g l closes made = halts_does g l
