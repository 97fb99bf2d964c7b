-- What a domain does next is nothing only where nothing is left; and whatever it asks for then comes.
use Rattle.std.proofs.Common.{◌≡◌, ℕ, zero, suc, ◌<◌, Bool, true, false, List, [], ◌∷◌, length, Option, Some, None, refl, sym, ap, ◌∙◌, arith}
use Rattle.std.specs.Prelude.{is_some, ◌||◌, ◌&&◌, not, ◌+◌}
use Rattle.spec_script.specs.Scripts.{Script}
use Rattle.spec_fiber.specs.Asks as ask
use Rattle.spec_fiber.specs.Asks.{Ask}
use Rattle.eio_value.specs.declared.raised.Outcome.{Outcome}
use Rattle.spec_machine.specs.Asking.{asks_for, asks_owed, asks_by, strike_on, end_of, is_full_for_one}
use Rattle.spec_machine.specs.Domain.{Role, OfJob, OfWriter, Standing, Parked, OnObject, Duty, Owed, Strike, Wake, Start, Fiber, Next, DomainState, fiber_at}
use Rattle.spec_machine.specs.Labels.{Asks, Idle, Own}
use Rattle.spec_machine.specs.Mock.{Mock, Moved, opening, comes, move, move_by, moved_by, moves, can_move, has_any}
use Rattle.spec_machine.specs.Preparing as doing
use Rattle.spec_machine.specs.Preparing.{Doing, Prepared, at_once, prepared, prepared_ready, prepared_timers, moves_of, next_of}
use Rattle.spec_machine.specs.Moves.{stepped_by}
use Rattle.spec_parts.specs.Timers.{Timer}
use Rattle.spec_machine.specs.Trace.{last_after, run}
use Rattle.law_run.specs.Moves.{MovesWhereSomethingIsLeft, ShortRunsAreOver}
use Rattle.law_run.proofs.Beginnings.{from}

abbrev isnt_idle : Asks → Bool
isnt_idle Idle = false
isnt_idle other = true

what_is_asked_comes : (script : Script) (m : Mock) (it : Prepared) → is_some (move_by script m it) ≡ isnt_idle (asks_by it)
what_is_asked_comes script m it = by (asks_by it)
  where
    by : (asks : Asks) → is_some (elim (comes m (m.local.stamp + 1) asks) [ None ↦ None | Some came ↦ Some (moved_by m (m.local.stamp + 1) it.raises came (stepped_by script it came.label m.local)) ]) ≡ isnt_idle asks
    by Idle = refl
    by other = refl

-- ## What is asked for

abbrev isnt_rest : Doing → Bool
isnt_rest doing.Rests = false
isnt_rest other = true

strikes_ask : (standing : Standing) → isnt_idle (strike_on standing) ≡ true
strikes_ask (Parked (OnObject who)) = refl
strikes_ask standing = refl

-- one of two asks, each of which is something
either_asks : (b : Bool) (asks : Asks) → isnt_idle asks ≡ true → isnt_idle (elim b [ true ↦ Own | false ↦ asks ]) ≡ true
either_asks true asks is = refl
either_asks false asks is = is

duties_ask : (owed : Owed) (maker : ℕ) (l : DomainState) → isnt_idle (asks_owed (record { maker = maker; owed = owed }) l) ≡ true
duties_ask (Strike g) maker l = strikes_ask (fiber_at l.fibers g).standing
duties_ask (Wake object poisoned) maker l = refl
duties_ask (Start executor) maker l = either_asks (is_full_for_one l) _ refl

ends_ask : (role : Role) (l : DomainState) (g : ℕ) (it : Outcome) → isnt_idle (end_of role l g it) ≡ true
ends_ask (OfJob executor number) l g it = refl
ends_ask role l g it = refl

calls_ask : (call : Ask) (g : ℕ) (l : DomainState) → isnt_idle (asks_for call g l) ≡ true
calls_ask (ask.End it) g l = ends_ask (fiber_at l.fibers g).role l g it
calls_ask (ask.OpenWriter flow block) g l = either_asks (is_full_for_one l) _ refl
calls_ask call g l = refl

-- a domain that does something next asks for something, if only for its own move
all_but_rest_ask : (doing : Doing) (l : DomainState) → isnt_idle (asks_by (at_once doing l)) ≡ isnt_rest doing
all_but_rest_ask doing.Rests l = refl
all_but_rest_ask (doing.Owes duty) l = duties_ask duty.owed duty.maker l
all_but_rest_ask (doing.Calls g call) l = calls_ask call g l
all_but_rest_ask (doing.Carries g writer) l = refl
all_but_rest_ask doing.Ticks l = refl

-- ## What is done next

fibers_do : (role : Role) (g : ℕ) (fiber : Fiber) (next : Next) (l : DomainState) → isnt_rest (moves_of role g fiber next l).doing ≡ true
fibers_do (OfWriter writer) g fiber next l = refl
fibers_do role g fiber next l = refl

abbrev pub by_timers : DomainState → List Timer → Prepared
by_timers l standing = elim standing [ [] ↦ at_once doing.Rests l | timer ∷ others ↦ at_once doing.Ticks l ]

abbrev pub by_ready : DomainState → List ℕ → Prepared
by_ready l ready = elim ready [ [] ↦ prepared_timers l | g ∷ others ↦ doing.moves g (fiber_at l.fibers g) (record l { ready = others }) ]

abbrev pub by_duties : DomainState → List Duty → Prepared
by_duties l duties = elim duties [ [] ↦ prepared_ready l | duty ∷ others ↦ at_once (doing.Owes duty) (record l { duties = others }) ]

timers_do : (l : DomainState) (standing : List Timer) → isnt_rest (by_timers l standing).doing ≡ has_any standing
timers_do l [] = refl
timers_do l (timer ∷ others) = refl

ready_do : (l : DomainState) (ready : List ℕ) → isnt_rest (by_ready l ready).doing ≡ (has_any ready || has_any l.timers.standing)
ready_do l [] = timers_do l l.timers.standing
ready_do l (g ∷ others) = fibers_do (fiber_at l.fibers g).role g (fiber_at l.fibers g) (next_of (fiber_at l.fibers g).standing) (record l { ready = others })

duties_do : (l : DomainState) (duties : List Duty) → isnt_rest (by_duties l duties).doing ≡ (has_any duties || has_any l.ready || has_any l.timers.standing)
duties_do l [] = ready_do l l.ready
duties_do l (duty ∷ others) = refl

does_something : (l : DomainState) → isnt_rest (prepared l).doing ≡ (has_any l.duties || has_any l.ready || has_any l.timers.standing)
unfolding prepared
does_something l = duties_do l l.duties

-- ## Moves

pub moves_where_something_is_left : MovesWhereSomethingIsLeft
unfolding move
moves_where_something_is_left script m = by m.local.halted
  where
    by : (halted : Bool) → is_some (elim halted [ true ↦ None | false ↦ move_by script m (prepared m.local) ]) ≡ (not halted && (has_any m.local.duties || has_any m.local.ready || has_any m.local.timers.standing))
    by true = refl
    by false =
        what_is_asked_comes script m (prepared m.local)
        ∙ all_but_rest_ask (prepared m.local).doing (prepared m.local).state
        ∙ does_something m.local

short_from : (script : Script) (n : ℕ) (m : Mock) → length (moves script n m) < n → can_move (last_after m (moves script n m)).local ≡ false
unfolding moves
short_from script zero m short = absurd (omega (arith, short))
short_from script (suc n) m short = by (move script m) refl short (short_from script n)
  where
    by : (first : Option Moved) → move script m ≡ first → length (from script n first) < suc n
        → ((next : Mock) → length (moves script n next) < n → can_move (last_after next (moves script n next)).local ≡ false)
        → can_move (last_after m (from script n first)).local ≡ false
    by None none short rest = sym (moves_where_something_is_left script m) ∙ ap is_some none
    by (Some moved) is short rest = rest moved.next (omega (arith, short))

pub short_runs_are_over : ShortRunsAreOver
unfolding run
short_runs_are_over script n short = short_from script n (opening script) short
