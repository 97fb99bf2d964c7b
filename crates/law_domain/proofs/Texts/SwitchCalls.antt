-- Calls on switches, and the ends of their fibers.
use Rattle.std.proofs.Common.{ℕ, Bool, true, false, ◌&&◌, List, length, Option, Some, None, IfSome}
use Rattle.eio_value.specs.Exceptions.{reason}
use Rattle.eio_value.specs.declared.plain.Misuse.TheVariants.{SwitchFinished}
use Rattle.eio_value.specs.declared.plain.Plain.TheVariants.{Failure, Invalid, Exit}
use Rattle.eio_value.specs.declared.raised.Outcome.{Outcome}
use Rattle.eio_value.specs.declared.raised.Outcome.TheVariants as outcome
use Rattle.eio_value.specs.declared.raised.Raised.{Raised}
use Rattle.eio_value.specs.declared.raised.Raised.TheVariants as raised
use Rattle.eio_value.specs.declared.value.TextId.{TextId}
use Rattle.eio_value.specs.declared.value.Value.{Value}
use Rattle.eio_value.specs.declared.value.Value.TheVariants as value
use Rattle.spec_parts.specs.Contexts.{is_full}
use Rattle.spec_parts.specs.Switches as switches
use Rattle.spec_parts.specs.Switches.{Switch, Handler, CloseStep, opened, switch_at, refuses_forks, attach, detach, on_release, close_step, runs_handler}
use Rattle.spec_script.specs.Scripts.{Script}
use Rattle.spec_script.specs.Syntax as syntax
use Rattle.spec_script.specs.Syntax.{Block, Forking}
use Rattle.spec_fiber.specs.Asks as ask
use Rattle.spec_fiber.specs.Asks.{Ask, again}
use Rattle.spec_fiber.specs.Numbered.{number_of, block_numbered}
use Rattle.spec_fiber.specs.Replies.{handled}
use Rattle.trace_lines.specs.declared.line.Did.TheVariants as did
use Rattle.trace_lines.specs.declared.line.Said2.TheVariants as said
use Rattle.spec_machine.specs.Domain.{GoesOn, CallsAgain, OnObject, Asleep, ForCancel, ForOthers, Resting, Standing, Ready, Parked, Ended, OfSwitch, DomainState, fiber_at, made, to_head, to_back, is_full_by}
use Rattle.spec_machine.specs.Steps.{member, counted, new_raise, does, raises, halts, in_new, cancels}
use Rattle.spec_machine.specs.ContextMoves.{context_of, sub_of, protected_of, before_block, enters_context, leaves}
use Rattle.spec_machine.specs.SwitchMoves.{with_switch_at, opens, switch, did_fork, is_daemon, forked, makes, fork, fails, fail, woken, woken_if, given_up, detached, release, runs, returns, closed_by, fails_with, closes, close}
use Rattle.law_fiber.specs.Texts.Texts.{IsWrittenBlock, IsHeldValue, AreHeldValues, IsHeldRaised, IsHeldOutcome, IsTextedCall, written_in, known_in}
use Rattle.law_fiber.specs.Texts.Laws.{HasItsTexts}
use Rattle.law_domain.specs.Texts.Domains.{IsTextedStanding, IsTextedPosition, IsTextedHandler, IsTextedSwitch, IsTexted, IsTextedDid}
use Rattle.law_fiber.proofs.Texts.Blocks.{numbered_written}
use Rattle.law_domain.proofs.Texts.Parts.{with_switch_texted, and_switch_texted}
use Rattle.law_fiber.proofs.Texts.Passing.{exit_known, failure_known, reason_held}
use Rattle.law_domain.proofs.Texts.Positions.{begun_texted, promising_texted, handled_texted}
use Rattle.law_domain.proofs.Texts.SwitchRows.{attached_texted, detached_texted, failed_texted, registered_texted, IsTextedClose, close_texted}
use Rattle.law_domain.proofs.Texts.Steps.{IsTextedStep, head_texted, back_texted, made_texted, leaves_texted, answers_texted, does_texted, refuses_texted, waits_texted, halts_texted, unless_off_texted, cancels_texted, in_new_texted, enters_context_texted}
use Rattle.law_domain.proofs.Texts.ContextCalls.{before_texted}

module _ (script : Script) where
  -- ## Opening

  pub switch_texted : (l : DomainState) → IsTexted script l → (g : ℕ) (call : Ask) → IsTextedCall (written_in script) (known_in script) call
      → IsTextedStep script (switch call g l)
  switch_texted l is g call asked =
      let n = length l.switches in
      unless_off_texted script l is did.Switch g
      (λ _. in_new (sub_of l g) g l (λ c m. enters_context did.Switch (said.Done (value.Switch n)) c (before_block call n g m) g (opens c m))) tt
      (in_new_texted script l is (Some (context_of l g)) false g
      (λ c m. enters_context did.Switch (said.Done (value.Switch n)) c (before_block call n g m) g (opens c m))
      (λ c m so.
      enters_context_texted script did.Switch (said.Done (value.Switch n)) c (before_block call n g m) g (opens c m)
      (and_switch_texted script so (opened c) (tt, tt, tt)) tt tt (before_texted script call n g m so asked)))

  -- ## Fibers

  did_fork_texted : (forking : Forking) (n : ℕ) → IsTextedDid script (did_fork forking n)
  did_fork_texted syntax.Plain n = tt
  did_fork_texted syntax.Daemon n = tt
  did_fork_texted (syntax.Promising promise) n = tt

  forked_texted : (forking : Forking) (block : Block) (variables : List Value) → IsWrittenBlock (written_in script) block
      → AreHeldValues (known_in script) variables → IsTextedPosition script (forked forking block variables)
  forked_texted syntax.Plain block variables is are = begun_texted script block variables is are
  forked_texted syntax.Daemon block variables is are = begun_texted script block variables is are
  forked_texted (syntax.Promising promise) block variables is are = promising_texted script promise block variables is are

  module _ (l : DomainState) (is : IsTexted script l) where
    makes_texted : (forking : Forking) (n : ℕ) (block : Block) (g : ℕ) → IsWrittenBlock (written_in script) block
        → IsTextedStep script (makes forking n block g l)
    makes_texted forking n block g written =
        let new = length l.fibers in
        let s : Switch = switch_at l.switches n in
        let position = forked forking block (fiber_at l.fibers g).variables in
        let t : DomainState = made s.context (OfSwitch n (is_daemon forking)) position l in
        let t_is : IsTexted script t =
        made_texted script l is s.context (OfSwitch n (is_daemon forking)) position
        (forked_texted forking block (fiber_at l.fibers g).variables written (is.each_fiber g).place.values) in
        let u : DomainState = with_switch_at n (attach new (is_daemon forking) s).switch t in
        let u_is : IsTexted script u =
        with_switch_texted script t_is n (attach new (is_daemon forking) s).switch (attached_texted script new (is_daemon forking) s (is.each_switch n)) in
        let v : DomainState = to_head (GoesOn (outcome.Ok value.Unit)) g u in
        let v_is : IsTexted script v = head_texted script u u_is (GoesOn (outcome.Ok value.Unit)) g tt in
        record { state = head_texted script v v_is (GoesOn (outcome.Ok value.Unit)) new tt; call = did_fork_texted forking n; answer = tt }

    pub fork_texted : (forking : Forking) (n : ℕ) (block : Block) (g : ℕ) → IsWrittenBlock (written_in script) block
        → IsTextedStep script (fork forking n block g l)
    fork_texted forking n block g written = by (refuses_forks l.contexts (switch_at l.switches n)) (is_full_by 1 l.fibers)
      where
        by : (refuses full : Bool) → IsTextedStep script (elim refuses [
          | true ↦ record (does (did_fork forking n) g l) { reply = said.Nothing }
          | false ↦ elim full [ true ↦ halts g l | false ↦ makes forking n block g l ]
        ])
        by true full =
            let step = does_texted script l is (did_fork forking n) g (did_fork_texted forking n) in
            record { state = step.state; call = step.call; answer = tt }
        by false true = halts_texted script l is g
        by false false = makes_texted forking n block g written

    -- ## Errors

    pub fails_texted : (maker n : ℕ) (what : Raised) → IsHeldRaised (known_in script) what → IsTexted script (fails maker n what l)
    fails_texted maker n what held =
        by (switches.fail what (switch_at l.switches n)) (failed_texted script what (switch_at l.switches n) held (is.each_switch n))
      where
        by : (found : Option Switch) → IfSome found (IsTextedSwitch script)
            → IsTexted script (elim found [ None ↦ l | Some s ↦ cancels maker s.context (reason what) (with_switch_at n s l) ])
        by None so = is
        by (Some s) so =
            cancels_texted script (with_switch_at n s l) (with_switch_texted script is n s so) maker s.context (reason what)
            (reason_held (known_in script) (exit_known script) what held)

    -- ## Ends of fibers

    woken_texted : (g : ℕ) → IsTexted script (woken g l)
    woken_texted g = by (fiber_at l.fibers g).standing (is.each_fiber g).stands
      where
        by : (standing : Standing) → IsTextedStanding script standing → IsTexted script (elim standing [
          | Parked wait ↦ elim wait [ ForOthers call ↦ to_back (CallsAgain call) g l | OnObject who ↦ l | Asleep ↦ l | ForCancel ↦ l | Resting ↦ l ]
          | Ready next ↦ l
          | Ended it ↦ l
        ])
        by (Parked (ForOthers call)) so = back_texted script l is (CallsAgain call) g so
        by (Parked (OnObject who)) so = is
        by (Parked Asleep) so = is
        by (Parked ForCancel) so = is
        by (Parked Resting) so = is
        by (Ready next) so = is
        by (Ended it) so = is

    pub woken_if_texted : (found : Option ℕ) → IsTexted script (woken_if found l)
    woken_if_texted None = is
    woken_if_texted (Some g) = woken_texted g

    given_up_texted : (maker n : ℕ) (daemon : Bool) (it : Outcome) → IsHeldOutcome (known_in script) it → IsTexted script (given_up maker n daemon it l)
    given_up_texted maker n true (outcome.Ok it) held = is
    given_up_texted maker n false (outcome.Ok it) held = is
    given_up_texted maker n true (outcome.Err (raised.Cancelled why)) held = is
    given_up_texted maker n true (outcome.Err (raised.One why)) held = fails_texted maker n (raised.One why) held
    given_up_texted maker n true (outcome.Err (raised.Many all)) held = fails_texted maker n (raised.Many all) held
    given_up_texted maker n false (outcome.Err what) held = fails_texted maker n what held

    -- ## Release handlers

    pub release_texted : (call : Ask) (n : ℕ) (block : Block) (g : ℕ) → IsTextedCall (written_in script) (known_in script) call
        → IsTextedStep script (release call n block g l)
    release_texted call n block g asked =
        by (on_release handler (switch_at l.switches n))
        (registered_texted script handler (switch_at l.switches n) (is.each_fiber g).place.values (is.each_switch n))
      where
        handler : Handler
        handler = record { block = number_of block; values = (fiber_at l.fibers g).variables }

        by : (found : Option Switch) → IfSome found (IsTextedSwitch script) → IsTextedStep script (elim found [
          | Some s ↦ does (did.OnRelease n) g (with_switch_at n s l)
          | None ↦ in_new (protected_of l g) g l (λ c m. enters_context (did.OnRelease n) said.Handler c (before_block call c g m) g m)
        ])
        by (Some s) so = does_texted script (with_switch_at n s l) (with_switch_texted script is n s so) (did.OnRelease n) g tt
        by None so =
            in_new_texted script l is (Some (context_of l g)) true g
            (λ c m. enters_context (did.OnRelease n) said.Handler c (before_block call c g m) g m)
            (λ c m m_is.
            enters_context_texted script (did.OnRelease n) said.Handler c (before_block call c g m) g m m_is tt tt (before_texted script call c g m m_is asked))

    pub returns_texted : (n c : ℕ) (result : Outcome) (g : ℕ) → IsHeldOutcome (known_in script) result → IsTextedStep script (returns n c result g l)
    returns_texted n c result g held = answers_texted script (leaves c g l) (leaves_texted script l is c g) (did.Close n) result g tt held

  pub fail_texted : (l : DomainState) → IsTexted script l → (n : ℕ) (text : TextId) (g : ℕ) → (written_in script).failure text
      → IsTextedStep script (fail n text g l)
  fail_texted l is n text g listed = by (switch_at l.switches n).finished
    where
      by : (finished : Bool) → IsTextedStep script (elim finished [
        | true ↦ raises (did.Fail n text) (Invalid SwitchFinished) g l
        | false ↦ new_raise (Failure text) l (λ x m. does (did.Fail n text) g (fails g n (raised.One x) m))
      ])
      by true = refuses_texted script l is (did.Fail n text) SwitchFinished g listed
      by false =
          let after = fails g n (raised.One (member (Failure text) l)) (counted l) in
          let step =
          does_texted script after (fails_texted (counted l) is g n (raised.One (member (Failure text) l)) (failure_known script text listed))
          (did.Fail n text) g listed in
          record { state = step.state; call = step.call; answer = step.answer }

  pub ended_texted : (l : DomainState) → IsTexted script l → (n : ℕ) (daemon : Bool) (it : Outcome) (g : ℕ) → IsHeldOutcome (known_in script) it
      → IsTexted script (detached n daemon it g l)
  ended_texted l is n daemon it g held =
      let t : DomainState = given_up g n daemon it l in
      let t_is : IsTexted script t = given_up_texted l is g n daemon it held in
      let left = detach g (switch_at t.switches n) in
      woken_if_texted (with_switch_at n left.switch t)
      (with_switch_texted script t_is n left.switch (detached_texted script g (switch_at t.switches n) (t_is.each_switch n))) left.woken

  -- ## Closing

  module _ (has : HasItsTexts script) where
    runs_texted : (l : DomainState) → IsTexted script l → (n : ℕ) (came : Option Raised) (kept : Value) (handler : Handler) (g : ℕ)
        → IsHeldValue (known_in script) kept → IsTextedHandler script handler → IsTextedStep script (runs script (ask.Close n came kept) n handler g l)
    runs_texted l is n came kept handler g held own =
        in_new_texted script l is (Some (context_of l g)) true g
        (λ c m.
        enters_context (did.Close n) said.Handler c
        (handled (ask.Close n came kept) c (block_numbered script handler.block) handler.values (fiber_at m.fibers g).work (fiber_at m.fibers g).variables) g m)
        (λ c m m_is.
        let place = (m_is.each_fiber g).place in
        enters_context_texted script (did.Close n) said.Handler c
        (handled (ask.Close n came kept) c (block_numbered script handler.block) handler.values (fiber_at m.fibers g).work (fiber_at m.fibers g).variables)
        g m m_is tt tt
        (handled_texted script (fiber_at m.fibers g).work (fiber_at m.fibers g).variables place.behind place.values n came kept c
        (block_numbered script handler.block) handler.values held (numbered_written script has handler.block) own))

    closed_texted : (l : DomainState) → IsTexted script l → (n c : ℕ) (came : Option Raised) (kept : Value) (step : CloseStep) (g : ℕ)
        → IsHeldValue (known_in script) kept → IsTextedClose script step
        → IsTextedStep script (closed_by script (ask.Close n came kept) n c kept step g l)
    closed_texted l is n c came kept switches.Wait g held found = waits_texted script l is (did.Close n) (ForOthers (ask.Close n None kept)) g tt (tt, held)
    closed_texted l is n c came kept switches.CancelDaemons g held found =
        waits_texted script (cancels g c Exit l) (cancels_texted script l is g c Exit (exit_known script)) (did.Close n)
        (ForOthers (ask.Close n None kept)) g tt (tt, held)
    closed_texted l is n c came kept (switches.RunHandler handler) g held found = runs_texted l is n came kept handler g held found
    closed_texted l is n c came kept switches.Return g held found = returns_texted l is n c (outcome.Ok kept) g held
    closed_texted l is n c came kept (switches.Raise all) g held found = returns_texted l is n c (outcome.Err all) g found

    fails_with_texted : (l : DomainState) → IsTexted script l → (maker n : ℕ) (came : Option Raised) → IfSome came (IsHeldRaised (known_in script))
        → IsTexted script (fails_with maker n came l)
    fails_with_texted l is maker n None held = is
    fails_with_texted l is maker n (Some what) held = fails_texted l is maker n what held

    closes_texted : (l : DomainState) → IsTexted script l → (n : ℕ) (came : Option Raised) (kept : Value) (g : ℕ)
        → IfSome came (IsHeldRaised (known_in script)) → IsHeldValue (known_in script) kept
        → IsTextedStep script (closes script (ask.Close n came kept) n came kept g l)
    closes_texted l is n came kept g failed held =
        let t : DomainState = fails_with g n came l in
        let t_is : IsTexted script t = fails_with_texted l is g n came failed in
        let closed = close_step g (switch_at t.switches n) in
        let so = close_texted script g (switch_at t.switches n) (t_is.each_switch n) in
        closed_texted (with_switch_at n closed.switch t) (with_switch_texted script t_is n closed.switch so.left) n closed.switch.context came kept closed.step
        g held so.found

    pub close_call_texted : (l : DomainState) → IsTexted script l → (n : ℕ) (came : Option Raised) (kept : Value) (g : ℕ)
        → IfSome came (IsHeldRaised (known_in script)) → IsHeldValue (known_in script) kept
        → IsTextedStep script (close script (ask.Close n came kept) n came kept g l)
    close_call_texted l is n came kept g failed held = by (runs_handler (switch_at l.switches n) && is_full l.contexts)
      where
        by : (full : Bool) → IsTextedStep script (elim full [
          | true ↦ halts g l
          | false ↦ closes script (ask.Close n came kept) n came kept g l
        ])
        by true = halts_texted script l is g
        by false = closes_texted l is n came kept g failed held
