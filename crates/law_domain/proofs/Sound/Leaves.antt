-- Calls at the ends of scopes: `leave` goes out of a context; `close` waits, runs a handler, or goes out of its switch.
use Rattle.std.proofs.Common.{◌≡◌, inl, inr, ℕ, Bool, true, false, ◌&&◌, List, [], ◌∷◌, length, Option, Some, None, refl, ap, ◌∙◌, sym, subst, arith}
use Rattle.eio_value.specs.declared.plain.Plain.TheVariants.{Exit, Invalid}
use Rattle.eio_value.specs.declared.plain.Misuse.TheVariants.{SwitchFinished}
use Rattle.eio_value.specs.declared.raised.Outcome.{Outcome}
use Rattle.eio_value.specs.declared.raised.Outcome.TheVariants as outcome
use Rattle.eio_value.specs.declared.raised.Raised.{Raised}
use Rattle.eio_value.specs.declared.value.Value.{Value}
use Rattle.spec_parts.specs.Contexts.{is_full}
use Rattle.spec_parts.specs.Switches as switches
use Rattle.spec_parts.specs.Switches.{Switch, Handler, Closed, Nobody, ForFibers, ForDaemons, switch_at, runs_handler, due_batch, fresh_beside, all_but_last, last_handler, release}
use Rattle.spec_script.specs.Scripts.{Script}
use Rattle.spec_fiber.specs.Asks as ask
use Rattle.spec_fiber.specs.Asks.{Ask, again}
use Rattle.spec_fiber.specs.Numbered.{block_numbered}
use Rattle.spec_fiber.specs.Replies.{handled}
use Rattle.trace_lines.specs.declared.line.Did.TheVariants as did
use Rattle.trace_lines.specs.declared.line.Said2.TheVariants as said
use Rattle.spec_machine.specs.Domain.{GoesOn, ForOthers, Parked, Fiber, DomainState, fiber_at, stands, to_head}
use Rattle.spec_machine.specs.ContextMoves.{enters_context, leaves}
use Rattle.spec_machine.specs.Moves.{own_call}
use Rattle.spec_machine.specs.Steps.{Step, halts, cancels}
use Rattle.spec_machine.specs.SwitchMoves.{closed_by, closes, fails_with, with_switch_at}
use Rattle.law_domain.specs.Sound.BuiltForms.{HasBuiltForms}
use Rattle.law_domain.specs.Sound.Scopes.{Entered, InContext, InSwitch, scopes_in}
use Rattle.law_domain.specs.Sound.SoundStates.{attached_to}
use Rattle.law_domain.proofs.Sound.BuiltSettle.{items_built}
use Rattle.law_domain.proofs.Sound.Calling.{CallKept, IsSoundUnless, by_room, goes_on, goes_raising, halting, into_context}
use Rattle.law_domain.proofs.Sound.Changes.{set_once}
use Rattle.law_domain.proofs.Sound.Counting.{lives_below}
use Rattle.law_domain.proofs.Sound.Leaving.{LeavesOne, mid_leaves}
use Rattle.law_domain.proofs.Sound.Midst.{IsMid, Untouched, untouched_after, ends_waiting, mid_lives, mid_untouched, one_more_line}
use Rattle.law_domain.proofs.Sound.Numbered.{numbered_built}
use Rattle.law_domain.proofs.Sound.Scoping.{with_held, held_here, context_no_switch, context_no_group, switch_no_group}
use Rattle.law_domain.proofs.Sound.Untouching.{SameSwitch, untouched_cancels, untouched_fails_with, untouched_switch}

-- ## Leave

module _ (g : ℕ) (held : ℕ → List Entered) (l : DomainState) (mid : IsMid g held l.lines l) (c : ℕ)
    (sees : held g ≡ InContext c ∷ scopes_in (fiber_at l.fibers g).work) where
  abbrev left : DomainState
  left = leaves c g l

  abbrev behind : List Entered
  behind = scopes_in (fiber_at l.fibers g).work

  leaves_it : LeavesOne g (InContext c) l left
  leaves_it = record {
    fibers = set_once g l.fibers _ (lives_below l.fibers g (mid_lives g held l.lines l mid));
    contexts = refl;
    switches = inl (refl, context_no_switch c);
    nobody = λ n own h e role lives. context_no_group c n own e;
    groups = refl;
    ready = refl;
    duties = refl;
    timers = refl;
  }

  left_mid : IsMid g (with_held g behind held) l.lines left
  left_mid = mid_leaves g held l.lines l left (InContext c) behind mid sees leaves_it

  left_sees : with_held g behind held g ≡ scopes_in (fiber_at left.fibers g).work
  left_sees = held_here g behind held ∙ ap (λ (f : Fiber). scopes_in f.work) (sym leaves_it.fibers.there)

pub leave_kept : (c : ℕ) (late : Bool) (it : Outcome) → CallKept (ask.Leave c late it)
unfolding own_call
leave_kept c true (outcome.Ok it) script forms g held l mid sees built stamp =
    goes_raising g _ (leaves c g l) (left_mid g held l mid c sees) (left_sees g held l mid c sees) stamp (did.Leave c) (Invalid SwitchFinished)
leave_kept c false (outcome.Ok it) script forms g held l mid sees built stamp =
    goes_on g _ (leaves c g l) (left_mid g held l mid c sees) (left_sees g held l mid c sees) stamp (outcome.Ok it)
leave_kept c true (outcome.Err raised) script forms g held l mid sees built stamp =
    goes_on g _ (leaves c g l) (left_mid g held l mid c sees) (left_sees g held l mid c sees) stamp (outcome.Err raised)
leave_kept c false (outcome.Err raised) script forms g held l mid sees built stamp =
    goes_on g _ (leaves c g l) (left_mid g held l mid c sees) (left_sees g held l mid c sees) stamp (outcome.Err raised)

-- ## Close

-- the lists of a switch of which only this was changed
lists_same : (s : Switch) (closer : switches.Closer) (daemon : Bool) → attached_to daemon (record s { closer = closer }) ≡ attached_to daemon s
lists_same s closer true = refl
lists_same s closer false = refl

same_but_closer : (s : Switch) (closer : switches.Closer) → SameSwitch s (record s { closer = closer })
same_but_closer s closer = record { context = refl; finished = refl; lists = lists_same s closer }

same_but_handlers : (s : Switch) (batch fresh : List Handler) → SameSwitch s (record s { batch = batch; fresh = fresh; running = true; closer = Nobody })
same_but_handlers s batch fresh = record { context = refl; finished = refl; lists = lists } where
  lists : (daemon : Bool) → attached_to daemon (record s { batch = batch; fresh = fresh; running = true; closer = Nobody }) ≡ attached_to daemon s
  lists true = refl
  lists false = refl

module _ (script : Script) (forms : HasBuiltForms script) (g : ℕ) (held : ℕ → List Entered) (l t : DomainState) (mid : IsMid g held l.lines l) (same : Untouched l t)
    (n : ℕ) (came : Option Raised) (kept : Value) (sees : held g ≡ InSwitch n ∷ scopes_in (fiber_at l.fibers g).work) (stamp : ℕ) where
  abbrev s : Switch
  s = switch_at t.switches n

  abbrev call : Ask
  call = ask.Close n came kept

  -- what comes of what is found to do
  abbrev IsClosed : Closed → Type 0
  IsClosed c = IsSoundUnless (one_more_line (closed_by script (ask.Close n came kept) n c.switch.context kept c.step g (with_switch_at n c.switch t)).state stamp)

  seen_after : (u : DomainState) → Untouched t u → held g ≡ InSwitch n ∷ scopes_in (fiber_at u.fibers g).work
  seen_after u then = sees ∙ ap (λ fs. InSwitch n ∷ scopes_in (fiber_at fs g).work) (sym (then.fibers ∙ same.fibers))

  mid_after : (u : DomainState) → Untouched t u → IsMid g held l.lines u
  mid_after u then = mid_untouched g held l.lines l u mid (untouched_after l t u same then)

  -- it waits
  waits_there : (u : DomainState) → Untouched t u → IsSoundUnless (one_more_line (stands (Parked (ForOthers (ask.Close n None kept))) g u) stamp)
  waits_there u then runs = (
      let lines : u.lines ≡ l.lines = then.lines ∙ same.lines in
      ends_waiting g held l.lines u (mid_after u then) stamp (omega (arith, lines)) (ForOthers (ask.Close n None kept)) tt (seen_after u then))

  for_fibers : IsClosed (record { step = switches.Wait; switch = record s { closer = ForFibers g } })
  for_fibers = waits_there (with_switch_at n (record s { closer = ForFibers g }) t) (untouched_switch n _ t (same_but_closer s (ForFibers g)))

  for_daemons : IsClosed (record { step = switches.CancelDaemons; switch = record s { closer = ForDaemons g } })
  for_daemons = (
      let u : DomainState = with_switch_at n (record s { closer = ForDaemons g }) t in
      waits_there (cancels g s.context Exit u)
      (untouched_after t u (cancels g s.context Exit u) (untouched_switch n _ t (same_but_closer s (ForDaemons g))) (untouched_cancels g s.context Exit u)))

  -- a handler runs
  module _ (handler : Handler) (batch fresh : List Handler) where
    abbrev running : DomainState
    running = with_switch_at n (record s { batch = batch; fresh = fresh; running = true; closer = Nobody }) t

    same_running : Untouched t running
    same_running = untouched_switch n _ t (same_but_handlers s batch fresh)

    mid_running : IsMid g held running.lines running
    mid_running = subst (λ (lines : ℕ). IsMid g held lines running) (sym (same_running.lines ∙ same.lines)) (mid_after running same_running)

    runs_one : IsClosed (record { step = switches.RunHandler handler; switch = record s { batch = batch; fresh = fresh; running = true; closer = Nobody } })
    runs_one =
        by_room g held running mid_running stamp true
        (λ c m. (
        let fiber : Fiber = fiber_at m.fibers g in
        enters_context (did.Close n) said.Handler c (handled (ask.Close n came kept) c (block_numbered script handler.block) handler.values fiber.work fiber.variables) g m))
        (into_context g held running mid_running stamp true
        (handled (ask.Close n came kept) (length running.contexts) (block_numbered script handler.block) handler.values (fiber_at running.fibers g).work (fiber_at running.fibers g).variables) (
          items_built (block_numbered script handler.block) (numbered_built script forms handler.block),
          (tt, (tt, (tt, (mid_running.sound.fibers g).position (mid_lives g held running.lines running mid_running)))),
        )
        (ap (λ xs. InContext (length running.contexts) ∷ xs) (sym (seen_after running same_running))))
        (is_full running.contexts)

  -- it goes out
  module _ (nobody : (daemon : Bool) → attached_to daemon s ≡ []) where
    abbrev finished : DomainState
    finished = with_switch_at n (record s { closer = Nobody; finished = true }) t

    abbrev gone : DomainState
    gone = leaves s.context g finished

    mid_before : IsMid g held t.lines t
    mid_before = subst (λ (lines : ℕ). IsMid g held lines t) (sym same.lines) (mid_untouched g held l.lines l t mid same)

    sees_before : held g ≡ InSwitch n ∷ scopes_in (fiber_at t.fibers g).work
    sees_before = sees ∙ ap (λ fs. InSwitch n ∷ scopes_in (fiber_at fs g).work) (sym same.fibers)

    lists_finished : (daemon : Bool) → attached_to daemon (record s { closer = Nobody; finished = true }) ≡ attached_to daemon s
    lists_finished true = refl
    lists_finished false = refl

    goes_out_of : LeavesOne g (InSwitch n) t gone
    goes_out_of = record {
      fibers = set_once g t.fibers _ (lives_below t.fibers g (mid_lives g held t.lines t mid_before));
      contexts = refl;
      switches = inr (
        n,
        refl,
        record {
          changed = record s { closer = Nobody; finished = true };
          switches = refl;
          context = refl;
          lists = lists_finished;
          finished = refl;
          nobody = nobody;
        },
      );
      nobody = λ m own h e role lives. switch_no_group n m own e;
      groups = refl;
      ready = refl;
      duties = refl;
      timers = refl;
    }

    abbrev outside : List Entered
    outside = scopes_in (fiber_at t.fibers g).work

    comes_to : (result : Outcome) → IsSoundUnless (one_more_line (to_head (GoesOn result) g gone) stamp)
    comes_to result =
        goes_on g (with_held g outside held) gone (mid_leaves g held t.lines t gone (InSwitch n) outside mid_before sees_before goes_out_of)
        (held_here g outside held ∙ ap (λ (f : Fiber). scopes_in f.work) (sym goes_out_of.fibers.there)) stamp result

    returns_by : (errors : Option Raised)
        → IsClosed (record { step = elim errors [ Some raised ↦ switches.Raise raised | None ↦ switches.Return ]; switch = record s { closer = Nobody; finished = true } })
    returns_by (Some raised) = comes_to (outcome.Err raised)
    returns_by None = comes_to (outcome.Ok kept)

    released_by : (last : Option Handler) → IsClosed (release last s)
    released_by None = returns_by s.errors
    released_by (Some handler) = runs_one handler (all_but_last (due_batch s)) (fresh_beside s)

  abbrev step_daemons : List ℕ → Closed
  step_daemons daemons = elim daemons [
    | d ∷ ds ↦ record { step = switches.CancelDaemons; switch = record s { closer = ForDaemons g } }
    | [] ↦ release (last_handler (due_batch s)) s
  ]

  abbrev step_fibers : List ℕ → Closed
  step_fibers fibers = elim fibers [ f ∷ fs ↦ record { step = switches.Wait; switch = record s { closer = ForFibers g } } | [] ↦ step_daemons s.daemons ]

  by_daemons : s.fibers ≡ [] → (daemons : List ℕ) → s.daemons ≡ daemons → IsClosed (step_daemons daemons)
  by_daemons none (d ∷ ds) are = for_daemons
  by_daemons none [] are = released_by nobody (last_handler (due_batch s)) where
    nobody : (daemon : Bool) → attached_to daemon s ≡ []
    nobody true = are
    nobody false = none

  by_fibers : (fibers : List ℕ) → s.fibers ≡ fibers → IsClosed (step_fibers fibers)
  by_fibers (f ∷ fs) are = for_fibers
  by_fibers [] are = by_daemons are s.daemons refl

pub close_kept : (n : ℕ) (came : Option Raised) (kept : Value) → CallKept (ask.Close n came kept)
unfolding own_call
close_kept n came kept script forms g held l mid sees built stamp = by_full (runs_handler (switch_at l.switches n) && is_full l.contexts) where
  by_full : (full : Bool) → IsSoundUnless (one_more_line (elim full as (λ _. Step) [
    | true ↦ halts g l
    | false ↦ closes script (ask.Close n came kept) n came kept g l
  ]).state stamp)
  by_full true = halting g l stamp
  by_full false = by_fibers script forms g held l (fails_with g n came l) mid (untouched_fails_with g n came l) n came kept sees stamp (switch_at (fails_with g n came l).switches n).fibers refl
