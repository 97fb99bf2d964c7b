-- Each move of a domain that isn't halted keeps it sound, unless it halts it.
use Rattle.std.proofs.Common.{◌≡◌, ℕ, Bool, true, false, List, [], ◌∷◌, ◌++◌, refl, ap, ◌∙◌, sym, subst, true≢false, arith}
use Rattle.std.specs.Prelude.{All}
use Rattle.spec_script.specs.Scripts.{Script}
use Rattle.spec_script.specs.Syntax as syntax
use Rattle.spec_fiber.specs.Asks as ask
use Rattle.spec_fiber.specs.Asks.{Ask}
use Rattle.spec_machine.specs.Domain.{ForCancel, Asleep, Standing, Parked, Duty, Owed, Strike, Wake, Start, Fiber, DomainState, fiber_at}
use Rattle.spec_machine.specs.Asking.{asks_by}
use Rattle.spec_machine.specs.DutyMoves.{own_duty, own_strike}
use Rattle.spec_machine.specs.Labels.{Asks, Idle, Own, Calls, Strikes, Mocks, Inner}
use Rattle.spec_machine.specs.Moves.{asks, after, own_call, own_move, counted_as}
use Rattle.spec_machine.specs.Preparing as doing
use Rattle.spec_machine.specs.Preparing.{Prepared, Rests, Owes, at_once, next_call, called_by, carry_of, moves_of, moves, next_of, prepared_ready, prepared_timers, prepared}
use Rattle.spec_machine.specs.Runs.{Fits}
use Rattle.spec_machine.specs.Steps.{Step, counted, halts}
use Rattle.law_domain.specs.Sound.BuiltForms.{HasBuiltForms, IsBuiltCall}
use Rattle.law_domain.specs.Sound.Laws.{KeepsSound}
use Rattle.law_domain.specs.Sound.Scopes.{Entered, called_scope, is_end, scopes_in, scopes_of}
use Rattle.law_domain.specs.Sound.SoundStates.{IsBuiltStanding, IsSoundState, IsSoundWith, IsStrike}
use Rattle.law_domain.proofs.Sound.Calling.{IsSoundUnless, trace_kept, turn_kept, yield_kept, check_kept, await_kept, cancel_kept, sub_kept, protect_kept, switch_kept}
use Rattle.law_domain.proofs.Sound.Ends.{end_kept}
use Rattle.law_domain.proofs.Sound.Forks.{fork_kept, fork_daemon_kept, fail_kept, on_release_kept}
use Rattle.law_domain.proofs.Sound.GroupCalls.{branches_kept}
use Rattle.law_domain.proofs.Sound.Joins.{join_kept}
use Rattle.law_domain.proofs.Sound.Leaves.{leave_kept, close_kept}
use Rattle.law_domain.proofs.Sound.Lists.{all_rest}
use Rattle.law_domain.proofs.Sound.Midst.{IsMid, Untouched, at_call, caller_only, in_the_midst, lined, one_more_line, untouched_sound}
use Rattle.law_domain.proofs.Sound.Preparing.{PreparesCall, by_duties, by_ready, prepares_call}
use Rattle.law_domain.proofs.Sound.Untouching.{untouched_counted}
use Rattle.law_domain.proofs.Sound.Waking.{StillSound, parked_back}

-- each call that is built keeps soundness
call_kept : (call : Ask) (script : Script) → HasBuiltForms script → (g : ℕ) (held : ℕ → List Entered) (l : DomainState) → IsMid g held l.lines l
    → held g ≡ called_scope call ++ scopes_in (fiber_at l.fibers g).work → IsBuiltCall call → (is_end call ≡ true → (fiber_at l.fibers g).work ≡ [])
    → (stamp : ℕ) → IsSoundUnless (one_more_line (own_call script call g l).state stamp)
call_kept (ask.Trace values) script forms g held l mid sees built bare stamp = trace_kept values script forms g held l mid sees built stamp
call_kept ask.Yield script forms g held l mid sees built bare stamp = yield_kept script forms g held l mid sees built stamp
call_kept ask.Check script forms g held l mid sees built bare stamp = check_kept script forms g held l mid sees built stamp
call_kept ask.AwaitCancel script forms g held l mid sees built bare stamp = await_kept script forms g held l mid sees built stamp
call_kept ask.Turn script forms g held l mid sees built bare stamp = turn_kept script forms g held l mid sees built stamp
call_kept (ask.Sub body) script forms g held l mid sees built bare stamp = sub_kept body script forms g held l mid sees built stamp
call_kept (ask.Protect body) script forms g held l mid sees built bare stamp = protect_kept body script forms g held l mid sees built stamp
call_kept (ask.Cancel c text) script forms g held l mid sees built bare stamp = cancel_kept c text script forms g held l mid sees built stamp
call_kept (ask.Switch body) script forms g held l mid sees built bare stamp = switch_kept body script forms g held l mid sees built stamp
call_kept (ask.Fork syntax.Plain n body) script forms g held l mid sees built bare stamp = fork_kept n body script forms g held l mid sees built stamp
call_kept (ask.Fork syntax.Daemon n body) script forms g held l mid sees built bare stamp = fork_daemon_kept n body script forms g held l mid sees built stamp
call_kept (ask.Fail n text) script forms g held l mid sees built bare stamp = fail_kept n text script forms g held l mid sees built stamp
call_kept (ask.OnRelease n handler) script forms g held l mid sees built bare stamp = on_release_kept n handler script forms g held l mid sees built stamp
call_kept (ask.Branches kind blocks) script forms g held l mid sees built bare stamp = branches_kept kind blocks script forms g held l mid sees built stamp
call_kept (ask.Join n own) script forms g held l mid sees built bare stamp = join_kept n own script forms g held l mid sees built stamp
call_kept (ask.Leave c late it) script forms g held l mid sees built bare stamp = leave_kept c late it script forms g held l mid sees built stamp
call_kept (ask.Close n came kept) script forms g held l mid sees built bare stamp = close_kept n came kept script forms g held l mid sees built stamp
call_kept (ask.End it) script forms g held l mid sees built bare stamp = end_kept script g held l mid (sees ∙ ap scopes_in (bare refl)) it stamp
call_kept call script forms g held l mid sees built bare stamp = absurd built

abbrev is_own : Asks → Bool
is_own it = elim it [ Idle ↦ false | Own ↦ true | Calls asked ↦ false | Strikes who ↦ false | Mocks asked ↦ false ]

module _ (script : Script) (forms : HasBuiltForms script) (l : DomainState) (sound : IsSoundState l) (stamp : ℕ) where
  -- nobody is ready: it makes no move
  pub rests : l.duties ≡ [] → l.ready ≡ [] → asks l ≡ Own → ⊥
  unfolding asks prepared
  rests none nobody own = (
      let there : prepared l ≡ at_once Rests l =
      ap (by_duties l) none ∙ (ap (by_ready l) nobody ∙ ap (λ ts. elim ts as (λ _. Prepared) [ [] ↦ at_once Rests l | timer ∷ rest ↦ at_once doing.Ticks l ]) sound.sleeps) in
      true≢false (sym (ap is_own own) ∙ ap (λ it. is_own (asks_by it)) there))

  -- the head of the ready list calls
  module _ (g : ℕ) (others : List ℕ) (is : l.ready ≡ g ∷ others) (it : PreparesCall l g others) where
    abbrev called : DomainState
    called = at_call l g others it.settled

    called_sound : IsSoundUnless (one_more_line (own_call script it.settled.call g called).state stamp)
    called_sound =
        call_kept it.settled.call script forms g (scopes_of l) called (in_the_midst l sound g others is it.settled it.calls.position)
        (it.calls.sees ∙ ap (λ (f : Fiber). called_scope it.settled.call ++ scopes_in f.work) (sym (caller_only l sound g others is it.settled it.calls.position).there))
        it.calls.built
        (λ e. ap (λ (f : Fiber). f.work) (caller_only l sound g others is it.settled it.calls.position).there ∙ it.calls.bare e) stamp

    after_call : IsSoundUnless (after script l stamp Inner)
    unfolding after
    after_call = subst (λ (p : Prepared). IsSoundUnless (counted_as stamp (own_move script p))) (sym it.prepares) called_sound

  -- ## What is owed

  module _ (duty : Duty) (others : List Duty) (is : l.duties ≡ duty ∷ others) where
    abbrev spent : DomainState
    spent = record l { duties = others }

    spent_same : Untouched l spent
    spent_same = record {
      fibers = refl;
      ready = refl;
      owes = λ owes. all_rest IsStrike duty others (subst (λ ds. All IsStrike ds) is owes);
      sleeps = refl;
      contexts_made = refl;
      parents = λ c. refl;
      live = λ c. refl;
      switches_made = refl;
      contexts = λ n. refl;
      finished = λ n. refl;
      lists = λ n daemon. refl;
      groups = refl;
      lines = refl;
    }

    spent_sound : IsSoundWith (scopes_of l) l.lines spent
    spent_sound = untouched_sound (scopes_of l) l.lines l spent sound spent_same

    counted_sound : StillSound l.lines l.lines (counted spent)
    counted_sound = record { sound = untouched_sound (scopes_of l) l.lines spent (counted spent) spent_sound (untouched_counted spent); told_by = refl }

    lost : IsSoundUnless (one_more_line spent stamp)
    lost runs = lined l.lines spent stamp (omega arith) spent_sound

    struck : (g : ℕ) (standing : Standing) → (fiber_at l.fibers g).standing ≡ standing → IsBuiltStanding standing
        → IsSoundUnless (one_more_line (own_strike duty g standing spent).state stamp)
    struck g (Parked ForCancel) stands may = λ runs.
        lined l.lines _ stamp (omega arith) (parked_back l.lines l.lines (counted spent) counted_sound g ForCancel _ stands refl tt).sound
    struck g (Parked Asleep) stands may = absurd may
    struck g standing stands may = lost

    owed_strike : IsStrike duty
    owed_strike = subst (λ ds. All IsStrike ds) is sound.owes 0 duty (omega arith)

    abbrev by_owed : Owed → Step
    by_owed owed = elim owed [
      | Strike g ↦ own_strike duty g (fiber_at l.fibers g).standing spent
      | Wake object poisoned ↦ halts duty.maker spent
      | Start executor ↦ halts duty.maker spent
    ]

    duty_sound : IsSoundUnless (one_more_line (own_duty duty spent).state stamp)
    duty_sound = subst (λ (owed : Owed). IsSoundUnless (one_more_line (by_owed owed).state stamp)) (sym owed_strike.1)
        (struck owed_strike.0 (fiber_at l.fibers owed_strike.0).standing refl (sound.fibers owed_strike.0).stand)

    after_duty : IsSoundUnless (after script l stamp Inner)
    unfolding after prepared
    after_duty = subst (λ (p : Prepared). IsSoundUnless (counted_as stamp (own_move script p))) (sym (ap (by_duties l) is)) duty_sound

  by_ready_list : (numbers : List ℕ) → l.ready ≡ numbers → l.duties ≡ [] → asks l ≡ Own → IsSoundUnless (after script l stamp Inner)
  by_ready_list [] is none own = absurd (rests none is own)
  by_ready_list (g ∷ others) is none own = after_call g others is (prepares_call l sound g others none is)

  by_duty_list : (duties : List Duty) → l.duties ≡ duties → asks l ≡ Own → IsSoundUnless (after script l stamp Inner)
  by_duty_list [] is own = by_ready_list l.ready refl is own
  by_duty_list (duty ∷ others) is own = after_duty duty others is

pub keeps_sound : KeepsSound
keeps_sound script l k x forms sound inner moves runs = (
    let next : k ≡ after script l x.line.stamp Inner = moves.next ∙ ap (after script l x.line.stamp) inner in
    subst IsSoundState (sym next)
    (by_duty_list script forms l sound x.line.stamp l.duties refl (subst (λ label. Fits l label) inner moves.fits) (ap (λ (m : DomainState). m.halted) (sym next) ∙ runs)))
