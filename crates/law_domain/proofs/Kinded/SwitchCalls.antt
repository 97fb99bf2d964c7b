-- Calls on switches, and the end of a fiber, after which all variables hold what they are to hold.
use Rattle.std.proofs.Common.{◌≡◌, ℕ, zero, suc, ◌-◌, Bool, true, false, ◌&&◌, List, [], ◌∷◌, ◌++◌, length, Option, Some, None, refl, sym, subst, arith}
use Rattle.std.specs.Prelude.{All, slice_get}
use Rattle.std.proofs.lemmas.List.Elements.{All-append, All-take}
use Rattle.std.proofs.lemmas.Option.{none-some, same_Some}
use Rattle.eio_value.specs.declared.plain.Plain.{Plain}
use Rattle.eio_value.specs.declared.plain.Plain.TheVariants.{Exit, Failure, Invalid}
use Rattle.eio_value.specs.declared.plain.Misuse.TheVariants.{SwitchFinished}
use Rattle.eio_value.specs.declared.raised.Outcome.{Outcome}
use Rattle.eio_value.specs.declared.raised.Outcome.TheVariants as outcome
use Rattle.eio_value.specs.declared.raised.Raised.{Raised}
use Rattle.eio_value.specs.declared.raised.Raised.TheVariants as raised
use Rattle.eio_value.specs.declared.value.TextId.{TextId}
use Rattle.eio_value.specs.declared.value.Value.{Value}
use Rattle.eio_value.specs.declared.value.Value.TheVariants as value
use Rattle.spec_parts.specs.Contexts as contexts
use Rattle.spec_parts.specs.Contexts.{end, is_full}
use Rattle.spec_parts.specs.Groups.{BranchEnded, group_at, with_group, branch_ends}
use Rattle.spec_parts.specs.Switches as switches
use Rattle.spec_parts.specs.Switches.{Switch, Handler, Attached, Closed, Closer, Nobody, ForFibers, ForDaemons, switch_at, never_opened, refuses_forks, refuses_fibers, attach, detach, wake_closer, woken_by, without, runs_handler, due_batch, fresh_beside, all_but_last, last_handler, release}
use Rattle.spec_script.specs.Scripts.{Script}
use Rattle.spec_script.specs.Syntax as syntax
use Rattle.spec_script.specs.Syntax.{Block, Forking}
use Rattle.spec_fiber.specs.Asks as ask
use Rattle.spec_fiber.specs.Asks.{Ask}
use Rattle.spec_fiber.specs.Numbered.{number_of, block_numbered}
use Rattle.spec_fiber.specs.Replies.{begun, handled}
use Rattle.trace_lines.specs.declared.line.Did.TheVariants as did
use Rattle.trace_lines.specs.declared.line.Said2.TheVariants as said
use Rattle.spec_machine.specs.Domain.{Role, OfBody, OfSwitch, OfGroup, GoesOn, CallsAgain, OnObject, Asleep, ForCancel, ForOthers, Resting, Standing, Ready, Parked, Ended, Fiber, DomainState, fiber_at, next_cell, is_full_by, ended, stands, to_back, to_head}
use Rattle.spec_machine.specs.ContextMoves.{before_block, enters_context, leaves}
use Rattle.spec_machine.specs.EndMoves.{after_end, ends_context}
use Rattle.spec_machine.specs.GroupMoves.{branch_ended, cancels_if}
use Rattle.spec_machine.specs.Moves.{own_call}
use Rattle.spec_machine.specs.Steps.{Step, counted, member, does, raises, new_raise, halts, in_new, cancels}
use Rattle.spec_machine.specs.SwitchMoves.{did_fork, is_daemon, forked, makes, fails, fails_with, given_up, woken, woken_if, with_switch_at, closed_by, closes}
use Rattle.law_fiber.specs.Kinded.Kinds.{Facts, HasKindsAt}
use Rattle.law_fiber.proofs.Kinded.Between.{kinds_stay_between}
use Rattle.law_fiber.proofs.Kinded.Statements.{both_parts}
use Rattle.law_domain.specs.Sound.SoundStates.{IsBuiltRole}
use Rattle.law_domain.proofs.Sound.ByNumber as numbers
use Rattle.law_domain.proofs.Sound.Lists.{all_front, all_none}
use Rattle.law_domain.proofs.Sound.Midst.{Untouched}
use Rattle.law_domain.proofs.Sound.Untouching.{untouched_fails_with}
use Rattle.law_domain.specs.Kinded.KindedStates.{CallsWithKinds, IsKinded, IsKindedHandler, handlers_of, made_facts, names_made, position_of}
use Rattle.law_domain.proofs.Kinded.Calls.{CallKinded, by_room, calls_in_context, cancels_kinded, context_count, context_kinded, fails_kinded, fails_with_kinded, into_kinded, leaves_kinded, made_by, still, switch_kinded, with_context}
use Rattle.law_domain.proofs.Kinded.Changing.{handler_more, kinded_placed, kinded_pushed, kinded_same, kinded_set, nothing_kinded}

-- ## Forking

abbrev attached_by : (refused : Bool) → (new : ℕ) → (daemon : Bool) → Switch → Attached
attached_by refused new daemon s = elim refused [
  | true ↦ record { taken = false; switch = s }
  | false ↦ record { taken = true; switch = switches.with_fiber new daemon s }
]

attach_handlers : (new : ℕ) (daemon : Bool) (s : Switch) → handlers_of (attach new daemon s).switch ≡ handlers_of s
attach_handlers new daemon s = by_refused (refuses_fibers s) daemon where
  by_refused : (refused daemon : Bool) → handlers_of (attached_by refused new daemon s).switch ≡ handlers_of s
  by_refused true daemon = refl
  by_refused false true = refl
  by_refused false false = refl

module _ (script : Script) (g : ℕ) (l : DomainState) (kinded : IsKinded script l) (n : ℕ) (block : Block) (forking : Forking)
    (begins : HasKindsAt (made_facts script (length l.switches) (length l.contexts)) (forked forking block (fiber_at l.fibers g).variables)) where
  abbrev known : Facts
  known = made_facts script (length l.switches) (length l.contexts)

  abbrev newest : Fiber
  newest = record {
    context = (switch_at l.switches n).context;
    role = OfSwitch n (is_daemon forking);
    cell = next_cell l.cells;
    work = (forked forking block (fiber_at l.fibers g).variables).work;
    variables = (forked forking block (fiber_at l.fibers g).variables).variables;
    standing = Ready (GoesOn (outcome.Ok value.Unit));
  }

  abbrev pushed : DomainState
  pushed = record l { fibers = l.fibers ++ newest ∷ [] }

  pushed_kinded : IsKinded script pushed
  pushed_kinded = kinded_pushed script l.fibers l.switches (length l.contexts) kinded newest begins

  abbrev changed : Switch
  changed = (attach (length l.fibers) (is_daemon forking) (switch_at l.switches n)).switch

  made_kinded : IsKinded script (with_switch_at n changed pushed)
  made_kinded = switch_kinded script pushed pushed_kinded n changed
      (subst (λ hs. All (IsKindedHandler script known) hs) (sym (attach_handlers (length l.fibers) (is_daemon forking) (switch_at l.switches n))) (kinded.handlers n))

  makes_kinded : IsKinded script (makes forking n block g l).state
  makes_kinded = (
      let u : DomainState = with_switch_at n changed pushed in
      let v : DomainState = stands (Ready (GoesOn (outcome.Ok value.Unit))) g u in
      still script v (still script u made_kinded g (Ready (GoesOn (outcome.Ok value.Unit)))) (length l.fibers) (Ready (GoesOn (outcome.Ok value.Unit))))

  by_full : (full : Bool) → IsKinded script (elim full as (λ _. Step) [ true ↦ halts g l | false ↦ makes forking n block g l ]).state
  by_full true = kinded
  by_full false = makes_kinded

  by_refusal : (refused : Bool) → IsKinded script (elim refused as (λ _. Step) [
    | true ↦ record (does (did_fork forking n) g l) { reply = said.Nothing }
    | false ↦ elim (is_full_by 1 l.fibers) as (λ _. Step) [ true ↦ halts g l | false ↦ makes forking n block g l ]
  ]).state
  by_refusal true = still script l kinded g _
  by_refusal false = by_full (is_full_by 1 l.fibers)

-- a fork begins with its maker's variables
begins_forked : (script : Script) (g : ℕ) (l : DomainState) (forking : Forking) (n : ℕ) (body : Block)
    → CallsWithKinds (made_facts script (length l.switches) (length l.contexts)) (ask.Fork forking n body) (position_of (fiber_at l.fibers g))
    → HasKindsAt (made_facts script (length l.switches) (length l.contexts)) (begun body (fiber_at l.fibers g).variables)
begins_forked script g l forking n body calls =
    kinds_stay_between.forks script (names_made (length l.switches) (length l.contexts)) calls.slots forking n body (fiber_at l.fibers g).variables calls.names calls.variables

pub fork_kinded : (n : ℕ) (body : Block) → CallKinded (ask.Fork syntax.Plain n body)
unfolding own_call
fork_kinded n body script forms g l kinded calls =
    by_refusal script g l kinded n body syntax.Plain (begins_forked script g l syntax.Plain n body calls) (refuses_forks l.contexts (switch_at l.switches n))

pub fork_daemon_kinded : (n : ℕ) (body : Block) → CallKinded (ask.Fork syntax.Daemon n body)
unfolding own_call
fork_daemon_kinded n body script forms g l kinded calls =
    by_refusal script g l kinded n body syntax.Daemon (begins_forked script g l syntax.Daemon n body calls) (refuses_forks l.contexts (switch_at l.switches n))

-- ## Failing

pub fail_kinded : (n : ℕ) (text : TextId) → CallKinded (ask.Fail n text)
unfolding own_call
fail_kinded n text script forms g l kinded calls = by_finished (switch_at l.switches n).finished where
  by_finished : (finished : Bool) → IsKinded script (elim finished as (λ _. Step) [
    | true ↦ raises (did.Fail n text) (Invalid SwitchFinished) g l
    | false ↦ new_raise (Failure text) l (λ x m. does (did.Fail n text) g (fails g n (raised.One x) m))
  ]).state
  by_finished true = still script l kinded g _
  by_finished false =
      still script (fails g n (raised.One (member (Failure text) l)) (counted l)) (fails_kinded script (counted l) kinded g n (raised.One (member (Failure text) l))) g _

-- ## Handlers

abbrev registering : Handler → Switch → Switch
registering handler s = record s { fresh = s.fresh ++ handler ∷ [] }

with_one : (P : Handler → Type 0) (handler : Handler) (s : Switch) → P handler → All P (handlers_of s) → All P (handlers_of (registering handler s))
with_one P handler s is all = (
    let parts = both_parts P s.batch s.fresh all in
    All-append P s.batch (s.fresh ++ handler ∷ []) parts.0 (All-append P s.fresh (handler ∷ []) parts.1 (all_front P handler [] is (all_none P))))

pub on_release_kinded : (n : ℕ) (block : Block) → CallKinded (ask.OnRelease n block)
unfolding own_call
on_release_kinded n block script forms g l kinded calls =
    by_finished (record { block = number_of block; values = (fiber_at l.fibers g).variables })
    (record {
      slots = calls.slots;
      variables = calls.variables;
      fits = (kinds_stay_between.numbers script (names_made (length l.switches) (length l.contexts)) calls.slots block calls.names.1).1;
    })
    (switch_at l.switches n).finished where
      by_finished : (handler : Handler) → IsKindedHandler script (made_facts script (length l.switches) (length l.contexts)) handler → (finished : Bool)
          → IsKinded script (elim (elim finished as (λ _. Option Switch) [ true ↦ None | false ↦ Some (registering handler (switch_at l.switches n)) ]) as (λ _. Step) [
            | Some switch ↦ does (did.OnRelease n) g (with_switch_at n switch l)
            | None ↦ in_new (made_by script g l kinded true (is_full l.contexts)) g l
                (λ c m. enters_context (did.OnRelease n) said.Handler c (before_block (ask.OnRelease n block) c g m) g m)
          ]).state
      by_finished handler is true =
          by_room script g l kinded true (λ c m. enters_context (did.OnRelease n) said.Handler c (before_block (ask.OnRelease n block) c g m) g m)
          (into_kinded script g l kinded true (ask.OnRelease n block) (length l.contexts) calls tt (did.OnRelease n) said.Handler) (is_full l.contexts)
      by_finished handler is false =
          still script (with_switch_at n (registering handler (switch_at l.switches n)) l)
          (switch_kinded script l kinded n (registering handler (switch_at l.switches n))
          (with_one (IsKindedHandler script (made_facts script (length l.switches) (length l.contexts))) handler (switch_at l.switches n) is (kinded.handlers n))) g _

-- ## Closing

all_got : {X : Type 0} (P : X → Type 0) (xs : List X) → All P xs → (n : ℕ) (x : X) → slice_get xs n ≡ Some x → P x
all_got P [] all n x is = absurd (none-some _ is)
all_got P (y ∷ xs) all zero x is = subst P (same_Some _ _ is) (all 0 y (omega arith))
all_got P (y ∷ xs) all (suc n) x is = all_got P xs (λ k d below. all (suc k) d (omega (arith, below))) n x is

abbrev due_of : (batch fresh : List Handler) → List Handler
due_of batch fresh = elim batch [ [] ↦ fresh | handler ∷ handlers ↦ handler ∷ handlers ]

abbrev beside_of : (batch fresh : List Handler) → List Handler
beside_of batch fresh = elim batch [ [] ↦ [] | handler ∷ handlers ↦ fresh ]

due_all : (P : Handler → Type 0) (batch fresh : List Handler) → All P batch → All P fresh → All P (due_of batch fresh)
due_all P [] fresh these those = those
due_all P (handler ∷ handlers) fresh these those = these

beside_all : (P : Handler → Type 0) (batch fresh : List Handler) → All P fresh → All P (beside_of batch fresh)
beside_all P [] fresh those = all_none P
beside_all P (handler ∷ handlers) fresh those = those

module _ (script : Script) (g : ℕ) (t : DomainState) (kinded : IsKinded script t) (n : ℕ) (came : Option Raised) (kept : Value)
    (calls : CallsWithKinds (made_facts script (length t.switches) (length t.contexts)) (ask.Close n came kept) (position_of (fiber_at t.fibers g))) where
  abbrev s : Switch
  s = switch_at t.switches n

  abbrev Such : Handler → Type 0
  Such = IsKindedHandler script (made_facts script (length t.switches) (length t.contexts))

  abbrev IsClosed : Closed → Type 0
  IsClosed c = IsKinded script (closed_by script (ask.Close n came kept) n c.switch.context kept c.step g (with_switch_at n c.switch t)).state

  parts : All Such s.batch × All Such s.fresh
  parts = both_parts Such s.batch s.fresh (kinded.handlers n)

  for_fibers : IsClosed (record { step = switches.Wait; switch = record s { closer = ForFibers g } })
  for_fibers = still script (with_switch_at n (record s { closer = ForFibers g }) t) (switch_kinded script t kinded n (record s { closer = ForFibers g }) (kinded.handlers n)) g _

  for_daemons : IsClosed (record { step = switches.CancelDaemons; switch = record s { closer = ForDaemons g } })
  for_daemons = (
      let u : DomainState = with_switch_at n (record s { closer = ForDaemons g }) t in
      still script (cancels g s.context Exit u) (cancels_kinded script u (switch_kinded script t kinded n (record s { closer = ForDaemons g }) (kinded.handlers n)) g s.context Exit) g _)

  comes_to : (result : Outcome) → IsKinded script (to_head (GoesOn result) g (leaves s.context g (with_switch_at n (record s { closer = Nobody; finished = true }) t)))
  comes_to result = (
      let u : DomainState = with_switch_at n (record s { closer = Nobody; finished = true }) t in
      still script (leaves s.context g u) (leaves_kinded script u (switch_kinded script t kinded n (record s { closer = Nobody; finished = true }) (kinded.handlers n)) s.context g) g (Ready (GoesOn result)))

  returns_by : (errors : Option Raised)
      → IsClosed (record { step = elim errors [ Some raised ↦ switches.Raise raised | None ↦ switches.Return ]; switch = record s { closer = Nobody; finished = true } })
  returns_by (Some raised) = comes_to (outcome.Err raised)
  returns_by None = comes_to (outcome.Ok kept)

  -- a handler runs with the variables that it was registered with
  module _ (handler : Handler) (such : Such handler) (batch fresh : List Handler) (all : All Such (batch ++ fresh)) where
    abbrev running : DomainState
    running = with_switch_at n (record s { batch = batch; fresh = fresh; running = true; closer = Nobody }) t

    running_kinded : IsKinded script running
    running_kinded = switch_kinded script t kinded n (record s { batch = batch; fresh = fresh; running = true; closer = Nobody }) all

    same_count : length running.switches ≡ length t.switches
    same_count = numbers.set_keeps_length never_opened t.switches n _

    abbrev new_context : DomainState
    new_context = with_context script g running running_kinded true

    calls_there : CallsWithKinds (made_facts script (length running.switches) (length running.contexts)) (ask.Close n came kept) (position_of (fiber_at running.fibers g))
    calls_there = subst (λ (many : ℕ). CallsWithKinds (made_facts script many (length t.contexts)) (ask.Close n came kept) (position_of (fiber_at t.fibers g))) (sym same_count) calls

    such_there : IsKindedHandler script (made_facts script (length running.switches) (length running.contexts)) handler
    such_there = subst (λ (many : ℕ). IsKindedHandler script (made_facts script many (length t.contexts)) handler) (sym same_count) such

    before_it : HasKindsAt (made_facts script (length new_context.switches) (length new_context.contexts))
        (handled (ask.Close n came kept) (length running.contexts) (block_numbered script handler.block) handler.values (fiber_at running.fibers g).work (fiber_at running.fibers g).variables)
    before_it = (
        let count = context_count script g running running_kinded true in
        let has = calls_in_context script g running running_kinded true (ask.Close n came kept) (position_of (fiber_at running.fibers g)) calls_there in
        let own = handler_more script (length running.switches) (length running.contexts) (length new_context.switches) (length new_context.contexts) (omega arith) (omega (arith, count)) handler such_there in
        kinds_stay_between.handles script (names_made (length new_context.switches) (length new_context.contexts)) has.slots own.slots n came kept (length running.contexts)
        (block_numbered script handler.block) handler.values (fiber_at running.fibers g).work (fiber_at running.fibers g).variables own.fits own.variables has.variables has.work)

    runs_one : IsClosed (record { step = switches.RunHandler handler; switch = record s { batch = batch; fresh = fresh; running = true; closer = Nobody } })
    runs_one =
        by_room script g running running_kinded true
        (λ c m. (
        let fiber : Fiber = fiber_at m.fibers g in
        enters_context (did.Close n) said.Handler c (handled (ask.Close n came kept) c (block_numbered script handler.block) handler.values fiber.work fiber.variables) g m))
        (kinded_placed script running.fibers running.switches (length new_context.contexts) (context_kinded script g running running_kinded true) g (length running.contexts)
        (handled (ask.Close n came kept) (length running.contexts) (block_numbered script handler.block) handler.values (fiber_at running.fibers g).work (fiber_at running.fibers g).variables)
        (Ready (GoesOn (outcome.Ok value.Unit))) before_it)
        (is_full running.contexts)

  released_by : (last : Option Handler) → last_handler (due_batch s) ≡ last → IsClosed (release last s)
  released_by None is = returns_by s.errors
  released_by (Some handler) is = (
      let due : All Such (due_batch s) = due_all Such s.batch s.fresh parts.0 parts.1 in
      runs_one handler (all_got Such (due_batch s) due (length (due_batch s) - 1) handler is) (all_but_last (due_batch s)) (fresh_beside s)
      (All-append Such (all_but_last (due_batch s)) (fresh_beside s) (All-take Such (length (due_batch s) - 1) (due_batch s) due) (beside_all Such s.batch s.fresh parts.1)))

  abbrev step_daemons : List ℕ → Closed
  step_daemons daemons = elim daemons [
    | d ∷ ds ↦ record { step = switches.CancelDaemons; switch = record s { closer = ForDaemons g } }
    | [] ↦ release (last_handler (due_batch s)) s
  ]

  abbrev step_fibers : List ℕ → Closed
  step_fibers fibers = elim fibers [ f ∷ fs ↦ record { step = switches.Wait; switch = record s { closer = ForFibers g } } | [] ↦ step_daemons s.daemons ]

  by_daemons : (daemons : List ℕ) → IsClosed (step_daemons daemons)
  by_daemons (d ∷ ds) = for_daemons
  by_daemons [] = released_by (last_handler (due_batch s)) refl

  by_fibers : (fibers : List ℕ) → IsClosed (step_fibers fibers)
  by_fibers (f ∷ fs) = for_fibers
  by_fibers [] = by_daemons s.daemons

-- what was given to a switch changes no fiber
abbrev HasCalls : Script → DomainState → Ask → ℕ → Type 0
HasCalls script l call g = CallsWithKinds (made_facts script (length l.switches) (length l.contexts)) call (position_of (fiber_at l.fibers g))

calls_after : (script : Script) (l t : DomainState) (call : Ask) (g : ℕ) → Untouched l t → HasCalls script l call g → HasCalls script t call g
calls_after script l t call g same calls =
    subst (λ fs. CallsWithKinds (made_facts script (length t.switches) (length t.contexts)) call (position_of (fiber_at fs g))) (sym same.fibers)
    (subst (λ (many : ℕ). CallsWithKinds (made_facts script many (length t.contexts)) call (position_of (fiber_at l.fibers g))) (sym same.switches_made)
    (subst (λ (many : ℕ). CallsWithKinds (made_facts script (length l.switches) many) call (position_of (fiber_at l.fibers g))) (sym same.contexts_made) calls))

pub close_kinded : (n : ℕ) (came : Option Raised) (kept : Value) → CallKinded (ask.Close n came kept)
unfolding own_call
close_kinded n came kept script forms g l kinded calls = by_handler (runs_handler (switch_at l.switches n) && is_full l.contexts) where
  by_handler : (full : Bool) → IsKinded script (elim full as (λ _. Step) [
    | true ↦ halts g l
    | false ↦ closes script (ask.Close n came kept) n came kept g l
  ]).state
  by_handler true = kinded
  by_handler false =
      by_fibers script g (fails_with g n came l) (fails_with_kinded script l kinded g n came) n came kept
      (calls_after script l (fails_with g n came l) (ask.Close n came kept) g (untouched_fails_with g n came l) calls) (switch_at (fails_with g n came l).switches n).fibers

-- ## The end of a fiber

abbrev woken_so : Standing → ℕ → DomainState → DomainState
woken_so standing g l = elim standing [
  | Parked wait ↦ elim wait [ ForOthers call ↦ to_back (CallsAgain call) g l | OnObject who ↦ l | Asleep ↦ l | ForCancel ↦ l | Resting ↦ l ]
  | Ready next ↦ l
  | Ended it ↦ l
]

woken_kinded : (script : Script) (l : DomainState) → IsKinded script l → (g : ℕ) → IsKinded script (woken g l)
woken_kinded script l kinded g = by_standing (fiber_at l.fibers g).standing where
  by_standing : (standing : Standing) → IsKinded script (woken_so standing g l)
  by_standing (Parked (ForOthers call)) = still script l kinded g _
  by_standing standing = kinded

pub woken_if_kinded : (script : Script) (l : DomainState) → IsKinded script l → (found : Option ℕ) → IsKinded script (woken_if found l)
woken_if_kinded script l kinded None = kinded
woken_if_kinded script l kinded (Some g) = woken_kinded script l kinded g

given_up_kinded : (script : Script) (l : DomainState) → IsKinded script l → (maker n : ℕ) (daemon : Bool) (result : Outcome) → IsKinded script (given_up maker n daemon result l)
given_up_kinded script l kinded maker n daemon (outcome.Ok it) = kinded
given_up_kinded script l kinded maker n true (outcome.Err (raised.Cancelled why)) = kinded
given_up_kinded script l kinded maker n true (outcome.Err (raised.One why)) = fails_kinded script l kinded maker n (raised.One why)
given_up_kinded script l kinded maker n true (outcome.Err (raised.Many why)) = fails_kinded script l kinded maker n (raised.Many why)
given_up_kinded script l kinded maker n false (outcome.Err what) = fails_kinded script l kinded maker n what

woken_handlers : (left : List ℕ) (closer : ℕ) (s : Switch) → handlers_of (woken_by left closer s).switch ≡ handlers_of s
woken_handlers [] closer s = refl
woken_handlers (f ∷ fs) closer s = refl

closer_handlers : (closer : Closer) (s : Switch) → handlers_of (wake_closer closer s).switch ≡ handlers_of s
closer_handlers Nobody s = refl
closer_handlers (ForFibers closer) s = woken_handlers s.fibers closer s
closer_handlers (ForDaemons closer) s = woken_handlers s.daemons closer s

detach_handlers : (g : ℕ) (s : Switch) → handlers_of (detach g s).switch ≡ handlers_of s
detach_handlers g s = closer_handlers s.closer (record s { fibers = without g s.fibers; daemons = without g s.daemons })

cancels_if_kinded : (script : Script) (l : DomainState) → IsKinded script l → (maker c : ℕ) (why : Option Plain) → IsKinded script (cancels_if maker c why l)
cancels_if_kinded script l kinded maker c None = kinded
cancels_if_kinded script l kinded maker c (Some why) = cancels_kinded script l kinded maker c why

-- groups name nothing that variables hold
pub branch_ended_kinded : (script : Script) (l : DomainState) → IsKinded script l → (n : ℕ) (result : Outcome) (g : ℕ) → IsKinded script (branch_ended n result g l)
branch_ended_kinded script l kinded n result g = (
    let it : BranchEnded = branch_ends result (group_at l.groups n) in
    let regrouped : DomainState = record l { groups = with_group n it.group l.groups } in
    woken_if_kinded script (cancels_if g it.group.context it.cancels regrouped) (cancels_if_kinded script regrouped kinded g it.group.context it.cancels) it.woken)

module _ (script : Script) (g : ℕ) (l : DomainState) (kinded : IsKinded script l) (result : Outcome) where
  abbrev over : DomainState
  over = ended result g l

  over_kinded : IsKinded script over
  over_kinded = kinded_set script l.fibers l.switches (length l.contexts) kinded g (record (fiber_at l.fibers g) { work = []; variables = []; standing = Ended result })
      (nothing_kinded (made_facts script (length l.switches) (length l.contexts)))

  root_kinded : (c : ℕ) → IsKinded script (ends_context c over)
  root_kinded c = kinded_same script over.fibers over.switches (length over.contexts) (length (end c over.contexts)) (numbers.set_keeps_length contexts.never_made over.contexts c _) over_kinded

  switch_left : (n : ℕ) (daemon : Bool) → IsKinded script (after_end (OfSwitch n daemon) result g over)
  switch_left n daemon = (
      let given : DomainState = given_up g n daemon result over in
      let given_kinded : IsKinded script given = given_up_kinded script over over_kinded g n daemon result in
      let changed : Switch = (detach g (switch_at given.switches n)).switch in
      woken_if_kinded script (with_switch_at n changed given)
      (switch_kinded script given given_kinded n changed
      (subst (λ hs. All (IsKindedHandler script (made_facts script (length given.switches) (length given.contexts))) hs) (sym (detach_handlers g (switch_at given.switches n))) (given_kinded.handlers n)))
      (detach g (switch_at given.switches n)).woken)

  by_role : (role : Role) → IsBuiltRole g role → IsKinded script (after_end role result g over)
  by_role OfBody may = root_kinded _
  by_role (OfSwitch n daemon) may = switch_left n daemon
  by_role (OfGroup n) may = branch_ended_kinded script over over_kinded n result g
  by_role role may = absurd may

pub end_kinded : (script : Script) (g : ℕ) (l : DomainState) → IsKinded script l → IsBuiltRole g (fiber_at l.fibers g).role → (result : Outcome)
    → IsKinded script (own_call script (ask.End result) g l).state
unfolding own_call
end_kinded script g l kinded may result = by_role script g l kinded result (fiber_at l.fibers g).role may
