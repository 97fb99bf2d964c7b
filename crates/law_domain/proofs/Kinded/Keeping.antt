-- Each move keeps what variables hold.
use Rattle.std.proofs.Common.{◌≡◌, ◌<◌, ℕ, List, [], ◌∷◌, length, Option, Some, None, refl, ap, ◌∙◌, sym, subst, arith}
use Rattle.std.specs.List.{Contains}
use Rattle.std.specs.Option.{unwrap_or}
use Rattle.eio_value.specs.declared.plain.Plain.{Plain as PlainException}
use Rattle.eio_value.specs.declared.plain.Plain.TheVariants.{Exit}
use Rattle.eio_value.specs.declared.plain.Member.{Member}
use Rattle.eio_value.specs.declared.raised.Outcome.{Outcome}
use Rattle.eio_value.specs.declared.raised.Outcome.TheVariants as outcome
use Rattle.eio_value.specs.declared.raised.Raised.TheVariants.{Cancelled}
use Rattle.eio_value.specs.declared.value.Value.TheVariants as value
use Rattle.spec_script.specs.Scripts.{Script}
use Rattle.spec_script.specs.Syntax as syntax
use Rattle.spec_fiber.specs.Asks as ask
use Rattle.spec_fiber.specs.Asks.{Ask}
use Rattle.spec_fiber.specs.Replies.{passed}
use Rattle.spec_fiber.specs.Work as work
use Rattle.spec_fiber.specs.Work.{Carry}
use Rattle.spec_machine.specs.Domain.{Next, GoesOn, LooksUp, FindsOff, CallsAgain, ForCancel, Asleep, Standing, Ready, Parked, Duty, Owed, Strike, Wake, Start, Fiber, DomainState, fiber_at, off_for}
use Rattle.spec_machine.specs.DutyMoves.{own_strike}
use Rattle.spec_machine.specs.Labels.{Own, Inner}
use Rattle.spec_machine.specs.Moves.{asks, after, own_call, own_move, counted_as}
use Rattle.spec_machine.specs.Preparing.{Prepared, next_call, next_of, carry_of, prepared}
use Rattle.spec_machine.specs.Runs.{Fits}
use Rattle.spec_machine.specs.Steps.{Step, halts}
use Rattle.law_fiber.specs.Kinded.Kinds.{HasKindsOfSettled}
use Rattle.law_fiber.proofs.Kinded.Settling.{kinds_stay}
use Rattle.law_domain.specs.Sound.BuiltForms.{HasBuiltForms, IsBuiltCall}
use Rattle.law_domain.specs.Sound.SoundStates.{IsBuiltNext, IsBuiltRole, IsBuiltStanding, IsSoundState}
use Rattle.law_domain.proofs.Sound.Changes.{OnlyAt}
use Rattle.law_domain.proofs.Sound.Counting.{lives_below}
use Rattle.law_domain.proofs.Sound.Keeping.{rests}
use Rattle.law_domain.proofs.Sound.Lists.{contains_first}
use Rattle.law_domain.proofs.Sound.Midst.{at_call, caller_only}
use Rattle.law_domain.proofs.Sound.Preparing.{PreparesCall, by_duties, prepares_call}
use Rattle.law_domain.specs.Kinded.KindedStates.{CallsWithKinds, IsKinded, made_facts, names_made, position_of}
use Rattle.law_domain.specs.Kinded.Laws.{CallsKinded, KeepsKinded}
use Rattle.law_domain.proofs.Kinded.Calls.{trace_kinded, turn_kinded, yield_kinded, check_kinded, await_kinded, cancel_kinded, protect_kinded, sub_kinded, switch_call_kinded, leave_kinded, still}
use Rattle.law_domain.proofs.Kinded.Changing.{kinded_set}
use Rattle.law_domain.proofs.Kinded.GroupCalls.{branches_kinded, join_kinded}
use Rattle.law_domain.proofs.Kinded.SwitchCalls.{fork_kinded, fork_daemon_kinded, fail_kinded, on_release_kinded, close_kinded, end_kinded}

-- ## The call

module _ (script : Script) (l : DomainState) (kinded : IsKinded script l) (g : ℕ) where
  settled_by : (came : Outcome) (texts : List (List ℕ)) (serial : ℕ) (raises : List Member)
      → HasKindsOfSettled (made_facts script (length l.switches) (length l.contexts))
      (passed came (fiber_at l.fibers g).work (record { variables = (fiber_at l.fibers g).variables; texts = texts; serial = serial; raises = raises }))
  settled_by came texts serial raises = (
      let has = kinded.position g in
      kinds_stay script (names_made (length l.switches) (length l.contexts)) came (fiber_at l.fibers g).work
      (record { variables = (fiber_at l.fibers g).variables; texts = texts; serial = serial; raises = raises }) has.slots has.variables has.work)

  pub calls_by : (next : Next) (why : Option PlainException) → IsBuiltNext next
      → HasKindsOfSettled (made_facts script (length l.switches) (length l.contexts)) (next_call next why (fiber_at l.fibers g) (carry_of (fiber_at l.fibers g) l))
  calls_by (GoesOn it) why may = settled_by it l.texts l.serial []
  calls_by LooksUp (Some why) may = settled_by (outcome.Err (Cancelled (work.member why (carry_of (fiber_at l.fibers g) l)))) _ _ _
  calls_by LooksUp None may = settled_by (outcome.Ok value.Unit) l.texts l.serial []
  calls_by FindsOff why may = settled_by (outcome.Err (Cancelled (work.member (unwrap_or why Exit) (carry_of (fiber_at l.fibers g) l)))) _ _ _
  calls_by (CallsAgain (ask.Close n None kept)) why may = (
      let has = kinded.position g in
      record { slots = has.slots; variables = has.variables; work = has.work; call = tt })
  calls_by (CallsAgain (ask.Join n None)) why may = (
      let has = kinded.position g in
      record { slots = has.slots; variables = has.variables; work = has.work; call = tt })
  calls_by (CallsAgain call) why may = absurd may

pub calls_kinded : CallsKinded
calls_kinded script l g others sound kinded is = (
    let ready : (next : Next) × ((fiber_at l.fibers g).standing ≡ Ready next) = sound.ready g (subst (λ xs. Contains xs g) (sym is) (contains_first g others)) in
    subst (λ (s : Standing). HasKindsOfSettled (made_facts script (length l.switches) (length l.contexts)) (next_call (next_of s) (off_for l g) (fiber_at l.fibers g) (carry_of (fiber_at l.fibers g) l)))
    (sym ready.1) (calls_by script l kinded g ready.0 (off_for l g) (subst IsBuiltStanding ready.1 (sound.fibers g).stand)))

call_kinded : (call : Ask) (script : Script) → HasBuiltForms script → (g : ℕ) (l : DomainState) → IsKinded script l
    → CallsWithKinds (made_facts script (length l.switches) (length l.contexts)) call (position_of (fiber_at l.fibers g)) → IsBuiltCall call
    → IsBuiltRole g (fiber_at l.fibers g).role → g < length l.fibers → IsKinded script (own_call script call g l).state
call_kinded (ask.Trace values) script forms g l kinded calls built role below = trace_kinded values script forms g l kinded calls
call_kinded ask.Yield script forms g l kinded calls built role below = yield_kinded script forms g l kinded calls
call_kinded ask.Check script forms g l kinded calls built role below = check_kinded script forms g l kinded calls
call_kinded ask.AwaitCancel script forms g l kinded calls built role below = await_kinded script forms g l kinded calls
call_kinded ask.Turn script forms g l kinded calls built role below = turn_kinded script forms g l kinded calls
call_kinded (ask.Sub body) script forms g l kinded calls built role below = sub_kinded body script forms g l kinded calls
call_kinded (ask.Protect body) script forms g l kinded calls built role below = protect_kinded body script forms g l kinded calls
call_kinded (ask.Cancel c text) script forms g l kinded calls built role below = cancel_kinded c text script forms g l kinded calls
call_kinded (ask.Switch body) script forms g l kinded calls built role below = switch_call_kinded body script forms g l kinded calls
call_kinded (ask.Fork syntax.Plain n body) script forms g l kinded calls built role below = fork_kinded n body script forms g l kinded calls
call_kinded (ask.Fork syntax.Daemon n body) script forms g l kinded calls built role below = fork_daemon_kinded n body script forms g l kinded calls
call_kinded (ask.Fail n text) script forms g l kinded calls built role below = fail_kinded n text script forms g l kinded calls
call_kinded (ask.OnRelease n handler) script forms g l kinded calls built role below = on_release_kinded n handler script forms g l kinded calls
call_kinded (ask.Branches kind blocks) script forms g l kinded calls built role below = branches_kinded kind blocks script g l kinded below calls
call_kinded (ask.Join n own) script forms g l kinded calls built role below = join_kinded n own script forms g l kinded calls
call_kinded (ask.Leave c late it) script forms g l kinded calls built role below = leave_kinded c late it script forms g l kinded calls
call_kinded (ask.Close n came kept) script forms g l kinded calls built role below = close_kinded n came kept script forms g l kinded calls
call_kinded (ask.End it) script forms g l kinded calls built role below = end_kinded script g l kinded role it
call_kinded call script forms g l kinded calls built role below = absurd built

-- ## The move

module _ (script : Script) (forms : HasBuiltForms script) (l : DomainState) (sound : IsSoundState l) (kinded : IsKinded script l) (stamp : ℕ) where
  module _ (g : ℕ) (others : List ℕ) (is : l.ready ≡ g ∷ others) (it : PreparesCall l g others) where
    abbrev called : DomainState
    called = at_call l g others it.settled

    has : HasKindsOfSettled (made_facts script (length l.switches) (length l.contexts)) it.settled
    has = subst (λ s. HasKindsOfSettled (made_facts script (length l.switches) (length l.contexts)) s) (sym it.settles) (calls_by script l kinded g it.next (off_for l g) it.may)

    called_kinded : IsKinded script called
    called_kinded = kinded_set script l.fibers l.switches (length l.contexts) kinded g (record (fiber_at l.fibers g) { work = it.settled.behind; variables = it.settled.carry.variables })
        (record { slots = has.slots; variables = has.variables; work = has.work })

    only : OnlyAt g l.fibers called.fibers (record (fiber_at l.fibers g) { work = it.settled.behind; variables = it.settled.carry.variables })
    only = caller_only l sound g others is it.settled it.calls.position

    calls_there : CallsWithKinds (made_facts script (length l.switches) (length l.contexts)) it.settled.call (position_of (fiber_at called.fibers g))
    calls_there = subst (λ (f : Fiber). CallsWithKinds (made_facts script (length l.switches) (length l.contexts)) it.settled.call (position_of f)) (sym only.there)
        (record { slots = has.slots; variables = has.variables; work = has.work; names = has.call })

    after_call : IsKinded script (after script l stamp Inner)
    unfolding after
    after_call = subst (λ (p : Prepared). IsKinded script (counted_as stamp (own_move script p))) (sym it.prepares)
        (call_kinded it.settled.call script forms g called called_kinded calls_there it.calls.built
        (subst (λ (f : Fiber). IsBuiltRole g f.role) (sym only.there) ((sound.fibers g).role it.lives))
        (let made = only.made in let low = lives_below l.fibers g it.lives in omega (arith, made, low)))

  module _ (duty : Duty) (others : List Duty) (is : l.duties ≡ duty ∷ others) where
    abbrev spent : DomainState
    spent = record l { duties = others }

    struck : (g : ℕ) (standing : Standing) → IsKinded script (own_strike duty g standing spent).state
    struck g (Parked Asleep) = still script l kinded g _
    struck g (Parked ForCancel) = still script l kinded g _
    struck g standing = kinded

    abbrev by_owed : Owed → Step
    by_owed owed = elim owed [
      | Strike g ↦ own_strike duty g (fiber_at l.fibers g).standing spent
      | Wake object poisoned ↦ halts duty.maker spent
      | Start executor ↦ halts duty.maker spent
    ]

    owed_kinded : (owed : Owed) → IsKinded script (by_owed owed).state
    owed_kinded (Strike g) = struck g (fiber_at l.fibers g).standing
    owed_kinded (Wake object poisoned) = kinded
    owed_kinded (Start executor) = kinded

    after_duty : IsKinded script (after script l stamp Inner)
    unfolding after prepared
    after_duty = subst (λ (p : Prepared). IsKinded script (counted_as stamp (own_move script p))) (sym (ap (by_duties l) is)) (owed_kinded duty.owed)

  by_ready_list : (numbers : List ℕ) → l.ready ≡ numbers → l.duties ≡ [] → asks l ≡ Own → IsKinded script (after script l stamp Inner)
  by_ready_list [] is none own = absurd (rests script forms l sound stamp none is own)
  by_ready_list (g ∷ others) is none own = after_call g others is (prepares_call l sound g others none is)

  by_duty_list : (duties : List Duty) → l.duties ≡ duties → asks l ≡ Own → IsKinded script (after script l stamp Inner)
  by_duty_list [] is own = by_ready_list l.ready refl is own
  by_duty_list (duty ∷ others) is own = after_duty duty others is

pub keeps_kinded : KeepsKinded
keeps_kinded script l k x forms sound kinded inner moves = (
    let next : k ≡ after script l x.line.stamp Inner = moves.next ∙ ap (after script l x.line.stamp) inner in
    subst (IsKinded script) (sym next) (by_duty_list script forms l sound kinded x.line.stamp l.duties refl (subst (λ label. Fits l label) inner moves.fits)))
