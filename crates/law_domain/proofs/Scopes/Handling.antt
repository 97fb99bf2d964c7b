-- Behind a line that goes into a handler, the fiber closes the switch again only once it has left the handler's context.
use Rattle.std.proofs.Common.{◌≡◌, ℕ, zero, suc, ◌+◌, ◌<◌, ◌==◌, ◌⊎◌, inl, inr, Bool, true, false, List, [], ◌∷◌, length, Option, Some, None, refl, sym, ap, ◌∙◌, subst, arith, eq-eqb}
use Rattle.std.proofs.lemmas.Bool.{eqb-true, both_ways}
use Rattle.spec_parts.specs.Switches as switches
use Rattle.spec_parts.specs.Switches.{Switch, Handler, switch_at}
use Rattle.spec_parts.specs.Row.{Stepped}
use Rattle.spec_script.specs.Scripts.{Script}
use Rattle.spec_fiber.specs.Work.{Restore, Closing}
use Rattle.trace_lines.specs.declared.line.Did.{Did}
use Rattle.trace_lines.specs.declared.line.Did.TheVariants as did
use Rattle.trace_lines.specs.declared.line.Line.{Line}
use Rattle.trace_lines.specs.declared.line.Said2.{Said2}
use Rattle.spec_machine.specs.Asking.{asks_by}
use Rattle.spec_machine.specs.Domain.{Fiber, DomainState, fiber_at}
use Rattle.spec_machine.specs.Histories.{domain_at_first, state_at_first}
use Rattle.spec_machine.specs.Labels.{Asks, Idle, Own, Calls, Strikes, Mocks, Inner, Called, Struck, Mocked}
use Rattle.spec_machine.specs.Mock.{Mock, Moved, Came, opening, comes, moved_by, move_by, move, moves}
use Rattle.spec_machine.specs.Moves.{asks, after, line_of, line_by, counted_as, stepped_by}
use Rattle.spec_machine.specs.Outside.{OutsideStep, outside}
use Rattle.spec_machine.specs.Preparing.{prepared}
use Rattle.spec_machine.specs.Runs.{Noted, Fits, domain_of, LocalRun, DomainMoves, State, Legal}
use Rattle.spec_machine.specs.Runs.{key_of as key_of_line, Moves as MovesAll}
use Rattle.spec_machine.specs.Shared.{stepped, mine_of, after_call, strike_wins, after_strike}
use Rattle.spec_machine.specs.Steps.{Step}
use Rattle.spec_machine.specs.Trace.{last_after, run}
use Rattle.law_domain.specs.Scopes.Finished.{Moves}
use Rattle.law_domain.specs.Scopes.Handling.{AnyOf, EntersHandler, ClosesAgain, LeavesContext, LeavesIn, context_after, HandlersEnd, HandlersEndInRuns, HandlersEndInHistories}
use Rattle.law_domain.specs.Scopes.Released.{Seen, Telling, RunsHandler, TellsElse, told_of, handler_asked}
use Rattle.law_domain.proofs.Scopes.Scopes.{view, Sound, IsOpened, set_length}
use Rattle.law_domain.proofs.Scopes.Turns.{Turns, Quietly, Opens, Registers, HandsOut, Finishes, Halts}
use Rattle.law_domain.proofs.Scopes.Runs.{moved, first_sound, run_keeps}
use Rattle.law_domain.proofs.Scopes.Mocked.{the_move, Fine, Going, move_goes, moves_from, last_fine, opening_fine}
use Rattle.law_domain.proofs.Scopes.Released.{Turned, turned, move_turned, prepared_same}
use Rattle.law_domain.proofs.Scopes.Histories.{all_on, legal_move, first_all, MovesOn, AllSound}
use Rattle.law_domain.proofs.Scopes.Veiling.{closing, stood, Veiled}
use Rattle.law_domain.proofs.Scopes.Veils.{V, Goes, ItLeaves, ItPasses, closed_of, step_goes}

-- ## A line that goes into a handler

-- behind it the fiber is veiled, and the switch is one that was opened
record Starts (n : ℕ) (line : Line) (k : DomainState) : Type 0 where
  veiled : V n (context_after line k) line.fiber k.fibers
  opened : n < length k.switches

starts : (script : Script) (n : ℕ) (seen : Seen) → Turned script n seen → EntersHandler n seen.line → seen.after.halted ≡ false → Starts n seen.line seen.after
starts script n seen it enters running = by it.turns
  where
    told : told_of n it.step.did it.step.reply ≡ RunsHandler
    told =
        ap (λ (did : Did). told_of n did it.step.reply) (sym it.did ∙ enters.call)
        ∙ (ap (λ (reply : Said2). told_of n (did.Close n) reply) (sym it.reply ∙ enters.handler) ∙ ap (λ (b : Bool). elim b as (λ _. Telling) [ true ↦ RunsHandler | false ↦ TellsElse ]) (eq-eqb n n refl))

    other : told_of n it.step.did it.step.reply ≡ TellsElse → ⊥
    other is = let e : ◌≡◌ {A = Telling} TellsElse RunsHandler = sym is ∙ told in cc

    by : Turns n script (handler_asked (prepared seen.before).doing (prepared seen.before).state) seen.before.switches it.step → Starts n seen.line seen.after
    by (Quietly q) = absurd (other q.told)
    by (Opens is none c next) = absurd (other is)
    by (Registers is none handler from inside takes next) = absurd (let e = sym is ∙ told in cc)
    by (Finishes is m closed mid quiet g result next) = absurd (other is)
    by (Halts none halts) = absurd (both_ways seen.after.halted running (it.halted ∙ halts))
    by (HandsOut is none mid quiet g handler inside handed next at) = record {
      veiled = subst (λ (f : Fiber). Veiled n f.context f) (sym fiber) (record { work = work; call = ap (stood n there.context) at.ready });
      opened = omega (arith, inside, set_length mid n (switches.close_step g (switch_at mid n)).switch, ap (λ (s : List Switch). length s) (it.switches ∙ next));
    }
      where
        there : Fiber
        there = fiber_at it.step.state.fibers it.step.fiber

        fiber : fiber_at seen.after.fibers seen.line.fiber ≡ there
        fiber = ap (λ (g : ℕ). fiber_at seen.after.fibers g) it.fiber ∙ ap (λ (fibers : List Fiber). fiber_at fibers it.step.fiber) it.fibers

        work : closing n there.context there.work ≡ 0
        work = ap (closing n there.context) at.work ∙ ap (λ (b : Bool). elim b as (λ _. ℕ) [ true ↦ 0 | false ↦ closing n there.context (Restore at.own ∷ Closing n at.kept ∷ at.others) ]) (eq-eqb at.context there.context (sym at.inside))

-- ## A move

-- the fiber leaves the context with this line; or it is veiled still, and the line isn't one by which it closes the switch
data Went (n c g : ℕ) (line : Line) (k : DomainState) : Type 0 where
  Left : LeavesContext g c line → Went n c g line k
  Still : V n c g k.fibers → (ClosesAgain n g line → ⊥) → Went n c g line k

went_by : (n c g : ℕ) (step : Step) (number stamp : ℕ) → Goes n c g step → Went n c g (line_by number stamp step) (counted_as stamp step)
went_by n c g step number stamp (ItLeaves it) = Left (record { call = it.left; caller = it.fiber })
went_by n c g step number stamp (ItPasses it) = Still it.veils (λ again. it.told (ap closed_of again.call) again.caller)

opened_then : (n : ℕ) (l : DomainState) → n < length l.switches → n < length (prepared l).state.switches
opened_then n l opened = subst (λ (s : List Switch). n < length s) (sym (prepared_same l).0) opened

went : (script : Script) (n c g : ℕ) (l : DomainState) (x : Noted) (k : DomainState) → DomainMoves script l x k → n < length l.switches → V n c g l.fibers → Went n c g x.line k
unfolding after line_of
went script n c g l x k it opened v =
    subst (λ (line : Line). Went n c g line k) (sym it.told)
    (subst (Went n c g (line_of script l x.line.stamp x.label)) (sym it.next) (went_by n c g (stepped_by script (prepared l) x.label l) l.number x.line.stamp (step_goes n c g script l x.label (opened_then n l opened) it.fits v)))

-- ## Runs of a domain

running_then : (script : Script) (lines : List Noted) (k m : DomainState) (y : Noted) (e : DomainState) → LocalRun (Moves script) k lines m → Moves script m y e → k.halted ≡ false
running_then script [] k m y e same last = ap (λ (l : DomainState). l.halted) same ∙ last.moves.runs
running_then script (z ∷ lines) k m y e it last = it.1.moves.runs

left_between : (script : Script) (n c g : ℕ) (lines : List Noted) (k m : DomainState) (y : Noted) (e : DomainState) → Sound [] (view k) → n < length k.switches → V n c g k.fibers → LocalRun (Moves script) k lines m → Moves script m y e → ClosesAgain n g y.line
    → AnyOf (λ z. LeavesContext g c z.line) lines
left_between script n c g [] k m y e h opened v same last again = by (went script n c g m y e last.moves (subst (λ (l : DomainState). n < length l.switches) same opened) (subst (λ (l : DomainState). V n c g l.fibers) same v))
  where
    by : Went n c g y.line e → ⊥
    by (Left it) = let both : did.Leave c ≡ did.Close n = sym it.call ∙ again.call in cc
    by (Still there never) = never again
left_between script n c g (z ∷ lines) k m y e h opened v it last again = by (went script n c g k z it.0 it.1.moves opened v) (left_between script n c g lines it.0 m y e)
  where
    by : Went n c g z.line it.0 → (Sound [] (view it.0) → n < length it.0.switches → V n c g it.0.fibers → LocalRun (Moves script) it.0 lines m → Moves script m y e → ClosesAgain n g y.line → AnyOf (λ z. LeavesContext g c z.line) lines)
        → LeavesContext g c z.line ⊎ AnyOf (λ z. LeavesContext g c z.line) lines
    by (Left here) rest = inl here
    by (Still there never) rest = (let next = moved script k z it.0 it.1 h in inr (rest next.sound (next.finished (IsOpened n) opened) there it.2 last again))

pub handlers_end : HandlersEnd
handlers_end script d n before between x y l k m e first it enters run last again =
    let h : Sound [] (view l) = (run_keeps script before (domain_at_first script d) l first (first_sound script d)).0 in
    let start : Starts n x.line k = starts script n (record { before = l; line = x.line; after = k }) (turned script n l x k it h) enters (running_then script between k m y e run last) in
    left_between script n (context_after x.line k) x.line.fiber between k m y e (moved script l x k it h).sound start.opened start.veiled run last again

-- ## Runs on one mocked domain

mock_went : (script : Script) (n c g : ℕ) (m : Mock) (moved : Moved) → n < length m.local.switches → V n c g m.local.fibers → move script m ≡ Some moved → Went n c g moved.line moved.next.local
unfolding move asks
mock_went script n c g m moved opened v is = by m.local.halted is
  where
    stamp : ℕ
    stamp = m.local.stamp + 1

    goes : (came : Came) → Fits m.local came.label → (y : Moved) → moved_by m stamp (prepared m.local).raises came (stepped_by script (prepared m.local) came.label m.local) ≡ y → Went n c g y.line y.next.local
    goes came fits y same =
        subst (λ (z : Moved). Went n c g z.line z.next.local) same
        (went_by n c g (stepped_by script (prepared m.local) came.label m.local) m.local.number stamp (step_goes n c g script m.local came.label (opened_then n m.local opened) fits v))

    by_asks : (it : Asks) → asks_by (prepared m.local) ≡ it
        → elim (comes m stamp it) as (λ _. Option Moved) [ None ↦ None | Some came ↦ Some (moved_by m stamp (prepared m.local).raises came (stepped_by script (prepared m.local) came.label m.local)) ] ≡ Some moved
        → Went n c g moved.line moved.next.local
    by_asks Idle asked e = absurd (cc)
    by_asks Own asked e = goes (record { label = Inner; shared = m.shared; world = m.world }) asked moved (the_move _ moved e)
    by_asks (Calls call) asked e =
        let step : Stepped = stepped m.shared call in
        goes (record { label = Called call step.answer (mine_of m.local.number stamp step.sent); shared = after_call m.shared m.local.number stamp call step; world = m.world }) asked moved (the_move _ moved e)
    by_asks (Strikes who) asked e =
        let won = strike_wins m.shared who in goes (record { label = Struck who won; shared = after_strike m.shared who won; world = m.world }) asked moved (the_move _ moved e)
    by_asks (Mocks call) asked e =
        let it : OutsideStep = outside m.world call.texts call.serial call.call in goes (record { label = Mocked call it.answer it.texts; shared = m.shared; world = it.world }) asked moved (the_move _ moved e)

    by : (halted : Bool) → elim halted as (λ _. Option Moved) [ true ↦ None | false ↦ move_by script m (prepared m.local) ] ≡ Some moved → Went n c g moved.line moved.next.local
    by true e = absurd (cc)
    by false e = by_asks (asks_by (prepared m.local)) refl e

mock_running : (script : Script) (m : Mock) (moved : Moved) → move script m ≡ Some moved → m.local.halted ≡ false
unfolding move
mock_running script m moved is = by m.local.halted is
  where
    by : (halted : Bool) → elim halted as (λ _. Option Moved) [ true ↦ None | false ↦ move_by script m (prepared m.local) ] ≡ Some moved → halted ≡ false
    by true e = absurd (cc)
    by false e = refl

-- after a move come the others
behind_it : (script : Script) (n later : ℕ) (m : Mock) (moved : Moved) → move script (last_after m (moves script n m)) ≡ Some moved → last_after m (moves script (n + 1 + later) m) ≡ last_after moved.next (moves script later moved.next)
unfolding moves
behind_it script zero later m moved is =
    subst (λ (k : ℕ). last_after m (moves script k m) ≡ last_after moved.next (moves script later moved.next)) (let e : suc later ≡ 0 + 1 + later = omega arith in e)
    (ap (λ (first : Option Moved). last_after m (moves_from script later first)) is)
behind_it script (suc n) later m moved is =
    subst (λ (k : ℕ). last_after m (moves script k m) ≡ last_after moved.next (moves script later moved.next)) (let e : suc (n + 1 + later) ≡ suc n + 1 + later = omega arith in e) (by (move script m) refl is (λ next. behind_it script n later next))
  where
    by : (first : Option Moved) → move script m ≡ first → move script (last_after m (moves_from script n first)) ≡ Some moved
        → ((next : Mock) → (moved : Moved) → move script (last_after next (moves script n next)) ≡ Some moved → last_after next (moves script (n + 1 + later) next) ≡ last_after moved.next (moves script later moved.next))
        → last_after m (moves_from script (n + 1 + later) first) ≡ last_after moved.next (moves script later moved.next)
    by None none e rest = absurd (let both : ◌≡◌ {A = Option Moved} None (Some moved) = sym none ∙ e in cc)
    by (Some made) first e rest = rest made.next moved e

mock_left : (script : Script) (n c g later : ℕ) (m : Mock) (last : Moved) → Fine m.local m.shared → n < length m.local.switches → V n c g m.local.fibers → move script (last_after m (moves script later m)) ≡ Some last → ClosesAgain n g last.line
    → AnyOf (λ z. LeavesContext g c z.line) (moves script later m)
unfolding moves
mock_left script n c g zero m last fine opened v is again = by (mock_went script n c g m last opened v is)
  where
    by : Went n c g last.line last.next.local → ⊥
    by (Left it) = let both : did.Leave c ≡ did.Close n = sym it.call ∙ again.call in cc
    by (Still there never) = never again
mock_left script n c g (suc later) m last fine opened v is again = by (move script m) refl is (λ next. mock_left script n c g later next last)
  where
    by : (first : Option Moved) → move script m ≡ first → move script (last_after m (moves_from script later first)) ≡ Some last
        → ((next : Mock) → Fine next.local next.shared → n < length next.local.switches → V n c g next.local.fibers → move script (last_after next (moves script later next)) ≡ Some last → ClosesAgain n g last.line → AnyOf (λ z. LeavesContext g c z.line) (moves script later next))
        → AnyOf (λ z. LeavesContext g c z.line) (moves_from script later first)
    by None none e rest = absurd (let both : ◌≡◌ {A = Option Moved} None (Some last) = sym none ∙ e in cc)
    by (Some made) first e rest = made_by (mock_went script n c g m made opened v first)
      where
        next : Going m.local made.line made.next
        next = move_goes script m made fine first

        made_by : Went n c g made.line made.next.local → LeavesContext g c made.line ⊎ AnyOf (λ z. LeavesContext g c z.line) (moves script later made.next)
        made_by (Left here) = inl here
        made_by (Still there never) = inr (rest made.next next.fine (next.finished (IsOpened n) opened) there e again)

running_behind : (script : Script) (later : ℕ) (m : Mock) (last : Moved) → move script (last_after m (moves script later m)) ≡ Some last → m.local.halted ≡ false
unfolding moves
running_behind script zero m last is = mock_running script m last is
running_behind script (suc later) m last is = by (move script m) refl is
  where
    by : (first : Option Moved) → move script m ≡ first → move script (last_after m (moves_from script later first)) ≡ Some last → m.local.halted ≡ false
    by None none e = mock_running script m last e
    by (Some made) first e = mock_running script m made first

pub handlers_end_in_runs : HandlersEndInRuns
unfolding run
handlers_end_in_runs script n later switch moved last is enters at again =
    let m : Mock = last_after (opening script) (moves script n (opening script)) in
    let fine : Fine m.local m.shared = last_fine script n (opening script) (opening_fine script) in
    let here : move script (last_after moved.next (moves script later moved.next)) ≡ Some last = subst (λ (k : Mock). move script k ≡ Some last) (behind_it script n later (opening script) moved is) at in
    let start : Starts switch moved.line moved.next.local =
    starts script switch (record { before = m.local; line = moved.line; after = moved.next.local }) (move_turned script switch m moved fine.sound is) enters (running_behind script later moved.next last here) in
    mock_left script switch (context_after moved.line moved.next.local) moved.line.fiber later moved.next last (move_goes script m moved fine is).fine start.opened start.veiled here again

-- ## Histories

history_left : (script : Script) (n c g d : ℕ) (last : ℕ × ℕ) (t : State (DomainMoves script)) (lines : List Noted) (u w : State (DomainMoves script)) (y : Noted) → AllSound t.locals t.shared → n < length (t.locals d).switches → V n c g (t.locals d).fibers
    → Legal (DomainMoves script) last t lines u → MovesAll (DomainMoves script) u y w → domain_of y ≡ d → ClosesAgain n g y.line → AnyOf (LeavesIn d g c) lines
history_left script n c g d last t [] u w y all opened v same it home again =
    by (went script n c g (u.locals (domain_of y)) y it.next it.steps (subst (λ (k : DomainState). n < length k.switches) here opened) (subst (λ (k : DomainState). V n c g k.fibers) here v))
  where
    here : t.locals d ≡ u.locals (domain_of y)
    here = ap (λ (s : State (DomainMoves script)). s.locals d) same ∙ ap u.locals (sym home)

    by : Went n c g y.line it.next → ⊥
    by (Left left) = let both : did.Leave c ≡ did.Close n = sym left.call ∙ again.call in cc
    by (Still there never) = never again
history_left script n c g d last t (z ∷ lines) u w y all opened v it end home again = by (domain_of z == d) refl (history_left script n c g d (key_of_line z) it.0 lines u w y)
  where
    next : MovesOn script t.locals z it.0.locals it.0.shared
    next = legal_move script t it.0 z all it.3

    by : (b : Bool) → (domain_of z == d) ≡ b
        → (AllSound it.0.locals it.0.shared → n < length (it.0.locals d).switches → V n c g (it.0.locals d).fibers → Legal (DomainMoves script) (key_of_line z) it.0 lines u → MovesAll (DomainMoves script) u y w → domain_of y ≡ d → ClosesAgain n g y.line → AnyOf (LeavesIn d g c) lines)
        → LeavesIn d g c z ⊎ AnyOf (LeavesIn d g c) lines
    by false is rest =
        let stays : it.0.locals d ≡ t.locals d = next.others d (λ same. both_ways (domain_of z == d) is (eq-eqb (domain_of z) d same)) in
        inr (rest next.all (subst (λ (k : DomainState). n < length k.switches) (sym stays) opened) (subst (λ (k : DomainState). V n c g k.fibers) (sym stays) v) it.4 end home again)
    by true is rest =
        let same : domain_of z ≡ d = eqb-true (domain_of z) d is in
        here same (went script n c g (t.locals (domain_of z)) z (it.0.locals (domain_of z)) next.moves.moves (subst (λ (e : ℕ). n < length (t.locals e).switches) (sym same) opened) (subst (λ (e : ℕ). V n c g (t.locals e).fibers) (sym same) v))
      where
        here : domain_of z ≡ d → Went n c g z.line (it.0.locals (domain_of z)) → LeavesIn d g c z ⊎ AnyOf (LeavesIn d g c) lines
        here same (Left left) = inl (record { home = same; left = left })
        here same (Still there never) =
            let then = moved script (t.locals (domain_of z)) z (it.0.locals (domain_of z)) next.moves (all.sound (domain_of z)) in
            inr (rest next.all (subst (λ (e : ℕ). n < length (it.0.locals e).switches) same (then.finished (IsOpened n) (subst (λ (e : ℕ). n < length (t.locals e).switches) (sym same) opened)))
            (subst (λ (e : ℕ). V n c g (it.0.locals e).fibers) same there) it.4 end home again)

-- whoever moves later wasn't halted before
running_on : (script : Script) (d : ℕ) (last : ℕ × ℕ) (t : State (DomainMoves script)) (lines : List Noted) (u w : State (DomainMoves script)) (y : Noted) → AllSound t.locals t.shared → Legal (DomainMoves script) last t lines u → MovesAll (DomainMoves script) u y w → domain_of y ≡ d
    → (t.locals d).halted ≡ false
running_on script d last t [] u w y all same it home = ap (λ (s : State (DomainMoves script)). (s.locals d).halted) same ∙ (ap (λ (e : ℕ). (u.locals e).halted) (sym home) ∙ it.steps.runs)
running_on script d last t (z ∷ lines) u w y all it end home = by (domain_of z == d) refl (running_on script d (key_of_line z) it.0 lines u w y next.all it.4 end home)
  where
    next : MovesOn script t.locals z it.0.locals it.0.shared
    next = legal_move script t it.0 z all it.3

    by : (b : Bool) → (domain_of z == d) ≡ b → (it.0.locals d).halted ≡ false → (t.locals d).halted ≡ false
    by true is rest = ap (λ (e : ℕ). (t.locals e).halted) (sym (eqb-true (domain_of z) d is)) ∙ next.moves.moves.runs
    by false is rest = ap (λ (k : DomainState). k.halted) (sym (next.others d (λ same. both_ways (domain_of z == d) is (eq-eqb (domain_of z) d same)))) ∙ rest

pub handlers_end_in_histories : HandlersEndInHistories
handlers_end_in_histories script before between x y n s t u w first it enters run last home again =
    let d = domain_of x in
    let all : AllSound s.locals s.shared = all_on script (0, 0) (state_at_first script) before s first (first_all script) in
    let next : MovesOn script s.locals x t.locals t.shared = legal_move script s t x all it in
    let start : Starts n x.line (t.locals d) =
    starts script n (record { before = s.locals d; line = x.line; after = t.locals d }) (turned script n (s.locals d) x (t.locals d) next.moves (all.sound d)) enters (running_on script d (key_of_line x) t between u w y next.all run last home) in
    history_left script n (context_after x.line (t.locals d)) x.line.fiber d (key_of_line x) t between u w y next.all start.opened start.veiled run last home again
