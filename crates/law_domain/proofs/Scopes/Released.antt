-- The calls on one switch over a whole run: which handlers they register, in which batches they begin, and which they hand out. That is what the lines tell.
use Rattle.std.proofs.Common.{◌≡◌, ℕ, zero, suc, ◌+◌, ◌≤◌, ◌<◌, ◌==◌, Bool, true, false, List, [], ◌∷◌, ◌++◌, length, Option, Some, None, refl, sym, ap, ◌∙◌, subst, arith, slice_set, slice_get, append_assoc, eq-eqb}
use Rattle.std.proofs.lemmas.Bool.{both_ways, eqb-true}
use Rattle.std.proofs.lemmas.List.{append-nil, length-append}
use Rattle.spec_parts.specs.Switches as switches
use Rattle.spec_parts.specs.Switches.{Switch, Handler, CloseStep, switch_at, never_opened, opened}
use Rattle.spec_script.specs.Opening.{opening_texts}
use Rattle.spec_script.specs.Scripts.{Script}
use Rattle.spec_script.specs.Syntax.{Block}
use Rattle.law_parts.specs.SwitchCalls.{SwitchCall, Register, Close, after_call, after, brought, registered_by, handed_out, run_by, beginning, begun_by}
use Rattle.law_parts.specs.SwitchLaws.{HaveRunOnce}
use Rattle.law_parts.proofs.SwitchLaws.{handlers_run_once}
use Rattle.trace_lines.specs.declared.line.Did.{Did}
use Rattle.trace_lines.specs.declared.line.Line.{Line}
use Rattle.trace_lines.specs.declared.line.Said2.{Said2}
use Rattle.spec_machine.specs.Asking.{asks_by}
use Rattle.spec_machine.specs.Domain.{Role, OfWriter, Next, Fiber, Duty, DomainState, nothing_made, fiber_at, never_made}
use Rattle.spec_machine.specs.Histories.{domain_at_first}
use Rattle.spec_machine.specs.Labels.{Label, Inner, Called, Struck, Mocked, Took}
use Rattle.spec_machine.specs.Mock.{Mock, Moved, Came, comes, moved_by, move_by, opening, opening_domain, move, moves}
use Rattle.spec_machine.specs.Moves.{after as after_move, line_of, stepped_by}
use Rattle.spec_machine.specs.Preparing as doing
use Rattle.spec_machine.specs.Preparing.{Doing, Prepared, at_once, prepared, prepared_ready, prepared_timers, moves_of, next_of}
use Rattle.spec_machine.specs.Runs.{Noted, LocalRun}
use Rattle.spec_machine.specs.Steps.{Step}
use Rattle.spec_machine.specs.Trace.{last_after, run}
use Rattle.spec_parts.specs.Timers.{Timer}
use Rattle.law_domain.specs.Scopes.Finished.{Moves}
use Rattle.law_domain.specs.Scopes.Released.{Seen, seen_in, seen_of, Telling, AcceptsHandler, RunsHandler, TellsElse, told_of, telling, handler_asked, accepted_by, accepted, next_batch, batch_by, batches, StandsBefore, RunsFirst, HaveRun, Released, ReleasesOnce, ReleasesOnceInRuns}
use Rattle.law_domain.proofs.Scopes.Scopes.{view, is_over, Sound, AddedAt, Last, Before, added_at, added_last, set_same, set_length, within}
use Rattle.law_domain.proofs.Scopes.Standings.{let_go, Loose}
use Rattle.law_domain.proofs.Scopes.Calls.{closed_in}
use Rattle.law_domain.proofs.Scopes.Changes.{is_result, close_finishes}
use Rattle.law_domain.proofs.Scopes.Moves.{hand_of, forgotten, prepares}
use Rattle.law_domain.proofs.Scopes.Runs.{moved, answers_closed, first_sound, run_keeps}
use Rattle.law_domain.proofs.Scopes.Mocked.{the_move, Fine, move_goes, moves_from, opening_fine, last_fine}
use Rattle.law_domain.proofs.Scopes.Rows.{after_append, brought_append, Quiet, two_calls, hands, close_call}
use Rattle.law_domain.proofs.Scopes.Turns.{called_quiet, struck_quiet, mocked_quiet, takes_quiet, Turns, Quietly, Opens, Registers, HandsOut, Finishes, Halts, IsInside, own_turns}

-- ## What is known of a switch after some moves

-- it isn't opened; or it is what came of these calls, which brought these handlers and batches
data Known (n : ℕ) (s : List Switch) (registered : List Handler) (begun : List (List Handler)) (ran : List Handler) : Type 0 where
  Unopened : length s ≤ n → registered ≡ [] → begun ≡ [] → ran ≡ [] → Known n s registered begun ran
  IsOpen : n < length s → (context : ℕ) → (calls : List SwitchCall) → switch_at s n ≡ after calls (opened context)
      → registered ≡ brought registered_by calls (opened context) → begun ≡ brought begun_by calls (opened context) → ran ≡ brought run_by calls (opened context) → Known n s registered begun ran

-- further calls, with what they bring
more_calls : (n : ℕ) (s t : List Switch) (registered : List Handler) (begun : List (List Handler)) (ran : List Handler) (calls : List SwitchCall) (r : List Handler) (b : List (List Handler)) (h : List Handler)
    → n < length s → n < length t → switch_at t n ≡ after calls (switch_at s n) → brought registered_by calls (switch_at s n) ≡ r → brought begun_by calls (switch_at s n) ≡ b → brought run_by calls (switch_at s n) ≡ h
    → Known n s registered begun ran → Known n t (registered ++ r) (begun ++ b) (ran ++ h)
more_calls n s t registered begun ran calls r b h inside inside_t is rs bs hs (Unopened past rs_old bs_old hs_old) = absurd (omega (arith, past, inside))
more_calls n s t registered begun ran calls r b h inside inside_t is rs bs hs (IsOpen is_opened context old is_old rs_old bs_old hs_old) =
    IsOpen inside_t context (old ++ calls) (is ∙ (ap (after calls) is_old ∙ sym (after_append old calls (opened context)))) (by registered_by registered r rs_old rs) (by begun_by begun b bs_old bs) (by run_by ran h hs_old hs)
  where
    by : {X : Type 0} (f : SwitchCall → Switch → List X) (xs ys : List X) → xs ≡ brought f old (opened context) → brought f calls (switch_at s n) ≡ ys → xs ++ ys ≡ brought f (old ++ calls) (opened context)
    by f xs ys first second =
        ap (λ zs. zs ++ ys) first
        ∙ (ap (λ zs. brought f old (opened context) ++ zs) (sym second ∙ ap (brought f calls) is_old) ∙ sym (brought_append f old calls (opened context)))

quiet_known : (n : ℕ) (s t : List Switch) (registered : List Handler) (begun : List (List Handler)) (ran : List Handler) → Quiet n s t → Known n s registered begun ran → Known n t (registered ++ []) (begun ++ []) (ran ++ [])
quiet_known n s t registered begun ran q (Unopened past rs bs hs) = Unopened (omega (arith, past, q.size)) (append-nil registered ∙ rs) (append-nil begun ∙ bs) (append-nil ran ∙ hs)
quiet_known n s t registered begun ran q (IsOpen inside context old is rs bs hs) =
    more_calls n s t registered begun ran q.calls [] [] [] inside (omega (arith, inside, q.size)) q.is q.registered q.begun q.run (IsOpen inside context old is rs bs hs)

opens_known : (n : ℕ) (s : List Switch) (c : ℕ) (registered : List Handler) (begun : List (List Handler)) (ran : List Handler) → Known n s registered begun ran → Known n (s ++ opened c ∷ []) (registered ++ []) (begun ++ []) (ran ++ [])
opens_known n s c registered begun ran (IsOpen inside context old is rs bs hs) =
    IsOpen (omega (arith, inside, length-append s (opened c ∷ []))) context old (by (added_at never_opened s n (opened c))) (append-nil registered ∙ rs) (append-nil begun ∙ bs) (append-nil ran ∙ hs)
  where
    by : AddedAt never_opened s n (opened c) → switch_at (s ++ opened c ∷ []) n ≡ after old (opened context)
    by (Last same e) = absurd (omega (arith, inside, same))
    by (Before e) = e ∙ is
opens_known n s c registered begun ran (Unopened past rs bs hs) = by (added_at never_opened s n (opened c))
  where
    by : AddedAt never_opened s n (opened c) → Known n (s ++ opened c ∷ []) (registered ++ []) (begun ++ []) (ran ++ [])
    by (Last same e) = IsOpen (omega (arith, same, length-append s (opened c ∷ []))) c [] e (append-nil registered ∙ rs) (append-nil begun ∙ bs) (append-nil ran ∙ hs)
    by (Before e) = further (n == length s) refl
      where
        further : (b : Bool) → (n == length s) ≡ b → Known n (s ++ opened c ∷ []) (registered ++ []) (begun ++ []) (ran ++ [])
        further true is =
            let same : n ≡ length s = eqb-true n (length s) is in
            IsOpen (omega (arith, same, length-append s (opened c ∷ []))) c [] (subst (λ (k : ℕ). switch_at (s ++ opened c ∷ []) k ≡ opened c) (sym same) (added_last never_opened s (opened c))) (append-nil registered ∙ rs) (append-nil begun ∙ bs) (append-nil ran ∙ hs)
        further false is =
            let differs : n ≡ length s → ⊥ = λ same. both_ways (n == length s) is (eq-eqb n (length s) same) in
            Unopened (omega (arith, past, differs, length-append s (opened c ∷ []))) (append-nil registered ∙ rs) (append-nil begun ∙ bs) (append-nil ran ∙ hs)

-- ## One move

-- a line with the step that it tells of
pub record Turned (script : Script) (n : ℕ) (seen : Seen) : Type 0 where
  pub step : Step
  pub turns : Turns n script (handler_asked (prepared seen.before).doing (prepared seen.before).state) seen.before.switches step
  pub did : seen.line.did ≡ step.did
  pub reply : seen.line.reply ≡ step.reply
  pub fiber : seen.line.fiber ≡ step.fiber
  pub switches : seen.after.switches ≡ step.state.switches
  pub fibers : seen.after.fibers ≡ step.state.fibers
  pub halted : seen.after.halted ≡ step.state.halted
  pub running : seen.before.halted ≡ false

-- what a line adds to what is known
record Adds (script : Script) (n : ℕ) (seen : Seen) (registered : List Handler) (begun : List (List Handler)) (ran : List Handler) : Type 1 where
  r : List Handler
  b : List (List Handler)
  h : List Handler
  accepts : accepted_by n seen ≡ r
  begins : batch_by n seen ≡ b
  runs : (later : List Handler → Type 0) (others : List Handler) → later others → RunsFirst (telling n seen) (λ handler. StandsBefore script n seen.line.fiber handler seen.after) later (h ++ others)
  known : Known n seen.after.switches (registered ++ r) (begun ++ b) (ran ++ h)

abbrev batch_of : List Handler → List Handler → List (List Handler)
batch_of batch fresh = elim batch [ [] ↦ fresh ∷ [] | handler ∷ handlers ↦ [] ]

module _ (script : Script) (n : ℕ) (seen : Seen) (it : Turned script n seen) where
  told_is : (what : Telling) → told_of n it.step.did it.step.reply ≡ what → telling n seen ≡ what
  told_is what told = ap (λ (reply : Said2). told_of n seen.line.did reply) it.reply ∙ (ap (λ (did : Did). told_of n did it.step.reply) it.did ∙ told)

  abbrev by_telling : {X : Type 0} → X → X → X → Telling → X
  by_telling a b c AcceptsHandler = a
  by_telling a b c RunsHandler = b
  by_telling a b c TellsElse = c

  abbrev asked : List Handler
  asked = handler_asked (prepared seen.before).doing (prepared seen.before).state

  abbrev stands : Handler → Type 0
  stands handler = StandsBefore script n seen.line.fiber handler seen.after

  accepted_is : (what : Telling) → telling n seen ≡ what → accepted_by n seen ≡ by_telling asked [] [] what
  accepted_is what told = ap (λ (t : Telling). elim t as (λ _. List Handler) [ AcceptsHandler ↦ asked | RunsHandler ↦ [] | TellsElse ↦ [] ]) told ∙ by what
    where
      by : (what : Telling) → elim what as (λ _. List Handler) [ AcceptsHandler ↦ asked | RunsHandler ↦ [] | TellsElse ↦ [] ] ≡ by_telling asked [] [] what
      by AcceptsHandler = refl
      by RunsHandler = refl
      by TellsElse = refl

  batch_is : (what : Telling) → telling n seen ≡ what → batch_by n seen ≡ by_telling [] (next_batch (switch_at seen.before.switches n)) [] what
  batch_is what told = ap (λ (t : Telling). elim t as (λ _. List (List Handler)) [ AcceptsHandler ↦ [] | RunsHandler ↦ next_batch (switch_at seen.before.switches n) | TellsElse ↦ [] ]) told ∙ by what
    where
      by : (what : Telling) → elim what as (λ _. List (List Handler)) [ AcceptsHandler ↦ [] | RunsHandler ↦ next_batch (switch_at seen.before.switches n) | TellsElse ↦ [] ] ≡ by_telling [] (next_batch (switch_at seen.before.switches n)) [] what
      by AcceptsHandler = refl
      by RunsHandler = refl
      by TellsElse = refl

  module _ (registered : List Handler) (begun : List (List Handler)) (ran : List Handler) (known : Known n seen.before.switches registered begun ran) where
    -- nothing is told
    else_adds : telling n seen ≡ TellsElse → Known n it.step.state.switches (registered ++ []) (begun ++ []) (ran ++ []) → Adds script n seen registered begun ran
    else_adds told next = record {
      r = [];
      b = [];
      h = [];
      accepts = accepted_is TellsElse told;
      begins = batch_is TellsElse told;
      runs = (λ later others it. subst (λ (t : Telling). RunsFirst t stands later others) (sym told) it);
      known = subst (λ (s : List Switch). Known n s (registered ++ []) (begun ++ []) (ran ++ [])) (sym it.switches) next;
    }

    registers_adds : (handler : Handler) → telling n seen ≡ AcceptsHandler → asked ≡ handler ∷ [] → n < length seen.before.switches → registered_by (Register handler) (switch_at seen.before.switches n) ≡ handler ∷ []
        → it.step.state.switches ≡ slice_set seen.before.switches n (after_call (Register handler) (switch_at seen.before.switches n)) → Adds script n seen registered begun ran
    registers_adds handler told is inside takes next =
        let s : List Switch = seen.before.switches in
        let t : List Switch = slice_set s n (after_call (Register handler) (switch_at s n)) in
        record {
          r = handler ∷ [];
          b = [];
          h = [];
          accepts = accepted_is AcceptsHandler told ∙ is;
          begins = batch_is AcceptsHandler told;
          runs = (λ later others it. subst (λ (t : Telling). RunsFirst t stands later others) (sym told) it);
          known = subst (λ (u : List Switch). Known n u (registered ++ handler ∷ []) (begun ++ []) (ran ++ [])) (sym (it.switches ∙ next))
              (more_calls n s t registered begun ran (Register handler ∷ []) (handler ∷ []) [] [] inside (omega (arith, inside, set_length s n (after_call (Register handler) (switch_at s n))))
              (set_same never_opened s n (after_call (Register handler) (switch_at s n)) inside) (ap (λ hs. hs ++ []) takes) refl refl known);
        }

    hands_adds : (mid : List Switch) → telling n seen ≡ RunsHandler → Quiet n seen.before.switches mid → (g : ℕ) (handler : Handler) → n < length mid → (switches.close_step g (switch_at mid n)).step ≡ switches.RunHandler handler
        → it.step.state.switches ≡ slice_set mid n (switches.close_step g (switch_at mid n)).switch → stands handler → Adds script n seen registered begun ran
    hands_adds mid told quiet g handler inside handed next standing =
        let s : List Switch = seen.before.switches in
        let row : Switch = switch_at mid n in
        let t : List Switch = slice_set mid n (switches.close_step g row).switch in
        let first : Known n mid (registered ++ []) (begun ++ []) (ran ++ []) = quiet_known n s mid registered begun ran quiet known in
        let inside_t : n < length t = omega (arith, inside, set_length mid n (switches.close_step g row).switch) in
        let begins_so : begun_by (Close g) row ≡ next_batch (switch_at s n) =
        ap (λ (step : CloseStep). beginning step row) handed ∙ (ap (λ (batch : List Handler). batch_of batch row.fresh) quiet.batch ∙ ap (batch_of (switch_at s n).batch) quiet.fresh) in
        let more : Known n t ((registered ++ []) ++ []) ((begun ++ []) ++ next_batch (switch_at s n)) ((ran ++ []) ++ handler ∷ []) =
        more_calls n mid t (registered ++ []) (begun ++ []) (ran ++ []) (Close g ∷ []) [] (next_batch (switch_at s n)) (handler ∷ []) inside inside_t (set_same never_opened mid n (switches.close_step g row).switch inside) refl
        (append-nil (begun_by (Close g) row) ∙ begins_so) (append-nil (run_by (Close g) row) ∙ ap handed_out handed) first in
        record {
          r = [];
          b = next_batch (switch_at s n);
          h = handler ∷ [];
          accepts = accepted_is RunsHandler told;
          begins = batch_is RunsHandler told;
          runs = (λ later others rest. subst (λ (t : Telling). RunsFirst t stands later (handler ∷ others)) (sym told) (handler, others, refl, standing, rest));
          known = subst (λ (u : List Switch). Known n u (registered ++ []) (begun ++ next_batch (switch_at s n)) (ran ++ handler ∷ [])) (sym (it.switches ∙ next))
              (subst (λ (rs : List Handler). Known n t rs (begun ++ next_batch (switch_at s n)) (ran ++ handler ∷ [])) (append-nil (registered ++ []))
              (subst (λ (bs : List (List Handler)). Known n t ((registered ++ []) ++ []) (bs ++ next_batch (switch_at s n)) (ran ++ handler ∷ [])) (append-nil begun)
              (subst (λ (hs : List Handler). Known n t ((registered ++ []) ++ []) ((begun ++ []) ++ next_batch (switch_at s n)) (hs ++ handler ∷ [])) (append-nil ran) more)));
        }

    stands_after : (handler : Handler) → StandsBefore script n it.step.fiber handler it.step.state → stands handler
    stands_after handler at =
        let fiber : fiber_at seen.after.fibers seen.line.fiber ≡ fiber_at it.step.state.fibers it.step.fiber = ap (λ (g : ℕ). fiber_at seen.after.fibers g) it.fiber ∙ ap (λ (fibers : List Fiber). fiber_at fibers it.step.fiber) it.fibers in
        record { context = at.context; own = at.own; kept = at.kept; others = at.others; work = ap (λ (f : Fiber). f.work) fiber ∙ at.work; variables = ap (λ (f : Fiber). f.variables) fiber ∙ at.variables; inside = ap (λ (f : Fiber). f.context) fiber ∙ at.inside; ready = ap (λ (f : Fiber). f.standing) fiber ∙ at.ready }

    -- a step of `close` with a result hands nothing out
    result_hands : (step : CloseStep) → is_result step ≡ true → hands step ≡ None
    result_hands switches.Wait is = refl
    result_hands switches.CancelDaemons is = refl
    result_hands (switches.RunHandler handler) is = absurd (cc)
    result_hands switches.Return is = refl
    result_hands (switches.Raise errors) is = refl

    adds : (seen.after.halted ≡ true → ⊥) → Adds script n seen registered begun ran
    adds running = by it.turns
      where
        by : Turns n script asked seen.before.switches it.step → Adds script n seen registered begun ran
        by (Quietly q) = else_adds (told_is TellsElse q.told) (quiet_known n seen.before.switches it.step.state.switches registered begun ran q.quiet known)
        by (Opens told closed c next) =
            else_adds (told_is TellsElse told) (subst (λ (s : List Switch). Known n s (registered ++ []) (begun ++ []) (ran ++ [])) (sym next) (opens_known n seen.before.switches c registered begun ran known))
        by (Registers told closed handler is inside takes next) = registers_adds handler (told_is AcceptsHandler told) is inside takes next
        by (HandsOut told closed mid quiet g handler inside handed next at) = hands_adds mid (told_is RunsHandler told) quiet g handler inside handed next (stands_after handler at)
        by (Finishes told m closed mid quiet g result next) =
            else_adds (told_is TellsElse told)
            (subst (λ (s : List Switch). Known n s (registered ++ []) (begun ++ []) (ran ++ [])) (sym next)
            (quiet_known n seen.before.switches _ registered begun ran (two_calls n _ _ _ quiet (close_call n m g mid (result_hands (switches.close_step g (switch_at mid m)).step result))) known))
        by (Halts closed halts) = absurd (running (it.halted ∙ halts))

-- ## Runs

-- each line is that of a move, and each move begins where the one before has ended
abbrev pub Linked : (script : Script) → (n : ℕ) → DomainState → List Seen → DomainState → Type 0
Linked script n l [] k = l ≡ k
Linked script n l (seen ∷ run) k = (seen.before ≡ l) × Turned script n seen × Linked script n seen.after run k

-- whoever makes a move isn't halted
goes_on : (script : Script) (n : ℕ) (l : DomainState) (run : List Seen) (k : DomainState) → Linked script n l run k → k.halted ≡ false → l.halted ≡ true → ⊥
goes_on script n l [] k same running halts = let e : l.halted ≡ k.halted = ap (λ (m : DomainState). m.halted) same in both_ways l.halted (e ∙ running) halts
goes_on script n l (seen ∷ run) k it running halts = let e : seen.before.halted ≡ l.halted = ap (λ (m : DomainState). m.halted) it.0 in both_ways l.halted (sym e ∙ it.1.running) halts

record Sums (script : Script) (n : ℕ) (run : List Seen) (k : DomainState) (registered : List Handler) (begun : List (List Handler)) (ran : List Handler) : Type 0 where
  h : List Handler
  have_run : HaveRun script n run h
  known : Known n k.switches (registered ++ accepted n run) (begun ++ batches n run) (ran ++ h)

sums : (script : Script) (n : ℕ) (l : DomainState) (run : List Seen) (k : DomainState) → Linked script n l run k → k.halted ≡ false → (registered : List Handler) (begun : List (List Handler)) (ran : List Handler)
    → Known n l.switches registered begun ran → Sums script n run k registered begun ran
sums script n l [] k same running registered begun ran known = record {
  h = [];
  have_run = refl;
  known =
      subst (λ (m : DomainState). Known n m.switches (registered ++ []) (begun ++ []) (ran ++ [])) same
      (subst (λ (hs : List Handler). Known n l.switches (registered ++ []) (begun ++ []) hs) (sym (append-nil ran))
      (subst (λ (bs : List (List Handler)). Known n l.switches (registered ++ []) bs ran) (sym (append-nil begun))
      (subst (λ (rs : List Handler). Known n l.switches rs begun ran) (sym (append-nil registered)) known)));
}
sums script n l (seen ∷ run) k it running registered begun ran known =
    let here : Known n seen.before.switches registered begun ran = subst (λ (m : DomainState). Known n m.switches registered begun ran) (sym it.0) known in
    let add : Adds script n seen registered begun ran = adds script n seen it.1 registered begun ran here (goes_on script n seen.after run k it.2 running) in
    let rest : Sums script n run k (registered ++ add.r) (begun ++ add.b) (ran ++ add.h) = sums script n seen.after run k it.2 running (registered ++ add.r) (begun ++ add.b) (ran ++ add.h) add.known in
    record {
      h = add.h ++ rest.h;
      have_run = add.runs (HaveRun script n run) rest.h rest.have_run;
      known =
          subst (λ (rs : List Handler). Known n k.switches rs (begun ++ batches n (seen ∷ run)) (ran ++ (add.h ++ rest.h))) (append_assoc registered add.r (accepted n run) ∙ ap (λ xs. registered ++ (xs ++ accepted n run)) (sym add.accepts))
          (subst (λ (bs : List (List Handler)). Known n k.switches ((registered ++ add.r) ++ accepted n run) bs (ran ++ (add.h ++ rest.h))) (append_assoc begun add.b (batches n run) ∙ ap (λ xs. begun ++ (xs ++ batches n run)) (sym add.begins))
          (subst (λ (hs : List Handler). Known n k.switches ((registered ++ add.r) ++ accepted n run) ((begun ++ add.b) ++ batches n run) hs) (append_assoc ran add.h rest.h) rest.known));
    }

-- ## The line that tells of the end

none_at_all : HaveRunOnce [] [] []
none_at_all = handlers_run_once (Close 0 ∷ []) 0 refl

result_begins : (step : CloseStep) (s : Switch) → is_result step ≡ true → beginning step s ≡ []
result_begins switches.Wait s is = refl
result_begins switches.CancelDaemons s is = refl
result_begins (switches.RunHandler handler) s is = absurd (cc)
result_begins switches.Return s is = refl
result_begins (switches.Raise errors) s is = refl

result_hands_none : (step : CloseStep) → is_result step ≡ true → handed_out step ≡ []
result_hands_none switches.Wait is = refl
result_hands_none switches.CancelDaemons is = refl
result_hands_none (switches.RunHandler handler) is = absurd (cc)
result_hands_none switches.Return is = refl
result_hands_none (switches.Raise errors) is = refl

finished_once : (n : ℕ) (s : List Switch) (registered : List Handler) (begun : List (List Handler)) (ran : List Handler) (g : ℕ) → is_result (switches.close_step g (switch_at s n)).step ≡ true → Known n s registered begun ran
    → HaveRunOnce registered begun ran
finished_once n s registered begun ran g result (Unopened past rs bs hs) =
    subst (λ (xs : List Handler). HaveRunOnce xs begun ran) (sym rs) (subst (λ (xs : List (List Handler)). HaveRunOnce [] xs ran) (sym bs) (subst (λ (xs : List Handler). HaveRunOnce [] [] xs) (sym hs) none_at_all))
finished_once n s registered begun ran g result (IsOpen inside context calls is rs bs hs) =
    let row : Switch = after calls (opened context) in
    let here : is_result (switches.close_step g row).step ≡ true = subst (λ (t : Switch). is_result (switches.close_step g t).step ≡ true) is result in
    let all : List SwitchCall = calls ++ Close g ∷ [] in
    let finished : (after all (opened context)).finished ≡ true = ap (λ (t : Switch). t.finished) (after_append calls (Close g ∷ []) (opened context)) ∙ close_finishes g row here in
    let once : HaveRunOnce (brought registered_by all (opened context)) (brought begun_by all (opened context)) (brought run_by all (opened context)) = handlers_run_once all context finished in
    subst (λ (xs : List Handler). HaveRunOnce xs begun ran) (by registered_by registered rs refl)
    (subst (λ (xs : List (List Handler)). HaveRunOnce (brought registered_by all (opened context)) xs ran) (by begun_by begun bs (result_begins (switches.close_step g row).step row here))
    (subst (λ (xs : List Handler). HaveRunOnce (brought registered_by all (opened context)) (brought begun_by all (opened context)) xs) (by run_by ran hs (result_hands_none (switches.close_step g row).step here)) once))
  where
    by : {X : Type 0} (f : SwitchCall → Switch → List X) (xs : List X) → xs ≡ brought f calls (opened context) → f (Close g) (after calls (opened context)) ≡ [] → brought f (calls ++ Close g ∷ []) (opened context) ≡ xs
    by f xs old none =
        brought_append f calls (Close g ∷ []) (opened context) ∙ (ap (λ ys. brought f calls (opened context) ++ (ys ++ [])) none ∙ (append-nil (brought f calls (opened context)) ∙ sym old))

-- the last move closes the switch
last_once : (script : Script) (n : ℕ) (seen : Seen) (registered : List Handler) (begun : List (List Handler)) (ran : List Handler) → Turned script n seen → closed_in seen.line.did seen.line.reply ≡ Some n
    → Known n seen.before.switches registered begun ran → HaveRunOnce registered begun ran
last_once script n seen registered begun ran it closed known = by it.turns
  where
    closes : closed_in it.step.did it.step.reply ≡ Some n
    closes = sym (ap (λ (did : Did). closed_in did it.step.reply) it.did) ∙ (sym (ap (λ (reply : Said2). closed_in seen.line.did reply) it.reply) ∙ closed)

    never : closed_in it.step.did it.step.reply ≡ None → ⊥
    never none = let e : ◌≡◌ {A = Option ℕ} None (Some n) = sym none ∙ closes in cc

    the_number : (a b : ℕ) → Some a ≡ Some b → a ≡ b
    the_number a b e = cc

    by : Turns n script (handler_asked (prepared seen.before).doing (prepared seen.before).state) seen.before.switches it.step → HaveRunOnce registered begun ran
    by (Quietly q) = absurd (never q.closed)
    by (Opens told none c next) = absurd (never none)
    by (Registers told none handler is inside takes next) = absurd (never none)
    by (HandsOut told none mid quiet g handler inside handed next at) = absurd (never none)
    by (Halts none halts) = absurd (never none)
    by (Finishes told m closed_m mid quiet g result next) =
        let same : m ≡ n = the_number m n (sym closed_m ∙ closes) in
        let once : HaveRunOnce (registered ++ []) (begun ++ []) (ran ++ []) =
        finished_once n mid (registered ++ []) (begun ++ []) (ran ++ []) g (subst (λ (k : ℕ). is_result (switches.close_step g (switch_at mid k)).step ≡ true) same result)
        (quiet_known n seen.before.switches mid registered begun ran quiet known) in
        subst (λ (xs : List Handler). HaveRunOnce xs begun ran) (append-nil registered)
        (subst (λ (xs : List (List Handler)). HaveRunOnce (registered ++ []) xs ran) (append-nil begun) (subst (λ (xs : List Handler). HaveRunOnce (registered ++ []) (begun ++ []) xs) (append-nil ran) once))

pub released : (script : Script) (n : ℕ) (l : DomainState) (run : List Seen) (last : Seen) → l.switches ≡ [] → Linked script n l run last.before → Turned script n last → closed_in last.line.did last.line.reply ≡ Some n → Released script n run
released script n l run last none linked it closed =
    let unopened : Known n l.switches [] [] [] = Unopened (omega (arith, ap (λ (s : List Switch). length s) none)) refl refl refl in
    let all : Sums script n run last.before [] [] [] = sums script n l run last.before linked it.running [] [] [] unopened in
    record { handlers = all.h; ran = all.have_run; once = last_once script n last (accepted n run) (batches n run) all.h it closed all.known }

-- ## What moves are

-- up to its call a move keeps the switches and the number of its domain
abbrev AsBefore : Prepared → DomainState → Type 0
AsBefore it l = (it.state.switches ≡ l.switches) × (it.state.number ≡ l.number)

moves_same : (role : Role) (g : ℕ) (fiber : Fiber) (next : Next) (l : DomainState) → AsBefore (moves_of role g fiber next l) l
moves_same (OfWriter writer) g fiber next l = (refl, refl)
moves_same role g fiber next l = (refl, refl)

pub prepared_same : (l : DomainState) → AsBefore (prepared l) l
unfolding prepared
prepared_same l = duties_by l.duties
  where
    timers_by : (standing : List Timer) → AsBefore (elim standing as (λ _. Prepared) [ [] ↦ at_once doing.Rests l | timer ∷ others ↦ at_once doing.Ticks l ]) l
    timers_by [] = (refl, refl)
    timers_by (timer ∷ others) = (refl, refl)

    ready_by : (ready : List ℕ) → AsBefore (elim ready as (λ _. Prepared) [ [] ↦ prepared_timers l | g ∷ others ↦ doing.moves g (fiber_at l.fibers g) (record l { ready = others }) ]) l
    ready_by [] = timers_by l.timers.standing
    ready_by (g ∷ others) = moves_same (fiber_at l.fibers g).role g (fiber_at l.fibers g) (next_of (fiber_at l.fibers g).standing) (record l { ready = others })

    duties_by : (duties : List Duty) → AsBefore (elim duties as (λ _. Prepared) [ [] ↦ prepared_ready l | duty ∷ others ↦ at_once (doing.Owes duty) (record l { duties = others }) ]) l
    duties_by [] = ready_by l.ready
    duties_by (duty ∷ others) = (refl, refl)

inside_by : (n : ℕ) (what : Doing) (l : DomainState) → Sound (hand_of what) (view l) → IsInside n what l
inside_by n (doing.Calls g call) l h =
    let loose : Loose [] (view l) g = (let_go g [] (view l) h).1 in within (λ (f : Fiber). is_over f.standing ≡ false) never_made l.fibers g (λ e. (cc)) loose.lives
inside_by n doing.Rests l h = tt
inside_by n (doing.Owes duty) l h = tt
inside_by n (doing.Carries g writer) l h = tt
inside_by n doing.Ticks l h = tt

turns_by : (script : Script) (n : ℕ) (l : DomainState) (label : Label) → Sound [] (view l) → Turns n script (handler_asked (prepared l).doing (prepared l).state) l.switches (stepped_by script (prepared l) label l)
turns_by script n l label h = by label
  where
    asked_here : List Handler
    asked_here = handler_asked (prepared l).doing (prepared l).state

    at_first : (step : Step) → Turns n script asked_here (prepared l).state.switches step → Turns n script asked_here l.switches step
    at_first step it = subst (λ (s : List Switch). Turns n script asked_here s step) (prepared_same l).0 it

    by : (label : Label) → Turns n script asked_here l.switches (stepped_by script (prepared l) label l)
    by Inner = at_first _ (own_turns n script (prepared l).doing (prepared l).state (inside_by n (prepared l).doing (prepared l).state (forgotten (prepared l).doing (prepared l).state (prepares l h).goes.sound).sound))
    by (Called asked given mine) = at_first _ (Quietly (called_quiet n script (prepared l).doing (prepared l).state asked given mine))
    by (Struck who won) = at_first _ (Quietly (struck_quiet n (prepared l).doing (prepared l).state won))
    by (Mocked call given texts) = at_first _ (Quietly (mocked_quiet n (prepared l).doing given (prepared l).state (record ((prepared l).state) { texts = texts })))
    by (Took message) = Quietly (takes_quiet n script message l)

-- ## Runs of a domain

pub turned : (script : Script) (n : ℕ) (l : DomainState) (x : Noted) (k : DomainState) → Moves script l x k → Sound [] (view l) → Turned script n (record { before = l; line = x.line; after = k })
unfolding after_move line_of
turned script n l x k it h =
    let step : Step = stepped_by script (prepared l) x.label l in
    let stamp = x.line.stamp in
    record {
      step = step;
      turns = turns_by script n l x.label h;
      did = ap (λ (line : Line). line.did) it.moves.told;
      reply = ap (λ (line : Line). line.reply) it.moves.told;
      fiber = ap (λ (line : Line). line.fiber) it.moves.told;
      switches = ap (λ (m : DomainState). m.switches) it.moves.next;
      fibers = ap (λ (m : DomainState). m.fibers) it.moves.next;
      halted = ap (λ (m : DomainState). m.halted) it.moves.next;
      running = it.moves.runs;
    }

linked : (script : Script) (n : ℕ) (l : DomainState) (lines : List Noted) (k : DomainState) (it : LocalRun (Moves script) l lines k) → Sound [] (view l) → Linked script n l (seen_in script l lines k it) k
linked script n l [] k it h = it
linked script n l (x ∷ lines) k it h = (refl, turned script n l x it.0 it.1 h, linked script n it.0 lines k it.2 (moved script l x it.0 it.1 h).sound)

pub first_empty : (script : Script) (d : ℕ) → (domain_at_first script d).switches ≡ []
first_empty script d = by (slice_get script.bodies d)
  where
    by : (body : Option Block) → (elim body as (λ _. DomainState) [ Some body ↦ opening_domain d (opening_texts script) body | None ↦ nothing_made d (opening_texts script) ]).switches ≡ []
    by (Some body) = refl
    by None = refl

pub releases_once : ReleasesOnce
releases_once script d n before x l k it last answers =
    let first : DomainState = domain_at_first script d in
    let h : Sound [] (view l) = (run_keeps script before first l it (first_sound script d)).0 in
    released script n first (seen_in script first before l it) (record { before = l; line = x.line; after = k }) (first_empty script d) (linked script n first before l it (first_sound script d)) (turned script n l x k last h) (answers_closed n x.line answers)

-- ## Runs on one mocked domain

module _ (script : Script) (n : ℕ) (m : Mock) (moved : Moved) (h : Sound [] (view m.local)) (running : m.local.halted ≡ false) where
  abbrev seen_here : Moved → Seen
  seen_here made = record { before = m.local; line = made.line; after = made.next.local }

  came_turned : (outside : Came) → moved_by m (m.local.stamp + 1) (prepared m.local).raises outside (stepped_by script (prepared m.local) outside.label m.local) ≡ moved → Turned script n (seen_here moved)
  came_turned outside is = subst (λ (made : Moved). Turned script n (seen_here made)) is (record {
    step = stepped_by script (prepared m.local) outside.label m.local;
    turns = turns_by script n m.local outside.label h;
    did = refl;
    reply = refl;
    fiber = refl;
    switches = refl;
    fibers = refl;
    halted = refl;
    running = running;
  })

  some_turned : (found : Option Came)
      → elim found as (λ _. Option Moved) [ None ↦ None | Some outside ↦ Some (moved_by m (m.local.stamp + 1) (prepared m.local).raises outside (stepped_by script (prepared m.local) outside.label m.local)) ] ≡ Some moved
      → Turned script n (seen_here moved)
  some_turned None is = absurd (cc)
  some_turned (Some outside) is = came_turned outside (the_move _ moved is)

pub move_turned : (script : Script) (n : ℕ) (m : Mock) (moved : Moved) → Sound [] (view m.local) → move script m ≡ Some moved → Turned script n (record { before = m.local; line = moved.line; after = moved.next.local })
unfolding move
move_turned script n m moved h is = by m.local.halted refl is
  where
    by : (halted : Bool) → m.local.halted ≡ halted → elim halted as (λ _. Option Moved) [ true ↦ None | false ↦ move_by script m (prepared m.local) ] ≡ Some moved
        → Turned script n (record { before = m.local; line = moved.line; after = moved.next.local })
    by true running is = absurd (cc)
    by false running is = some_turned script n m moved h running (comes m (m.local.stamp + 1) (asks_by (prepared m.local))) is

mock_linked : (script : Script) (n k : ℕ) (m : Mock) → Fine m.local m.shared → Linked script n m.local (seen_of m (moves script k m)) (last_after m (moves script k m)).local
unfolding moves
mock_linked script n zero m fine = refl
mock_linked script n (suc k) m fine = by (move script m) refl (mock_linked script n k)
  where
    by : (first : Option Moved) → move script m ≡ first
        → ((next : Mock) → Fine next.local next.shared → Linked script n next.local (seen_of next (moves script k next)) (last_after next (moves script k next)).local)
        → Linked script n m.local (seen_of m (moves_from script k first)) (last_after m (moves_from script k first)).local
    by None none rest = refl
    by (Some made) is rest = (refl, move_turned script n m made fine.sound is, rest made.next (move_goes script m made fine is).fine)

pub releases_once_in_runs : ReleasesOnceInRuns
unfolding run
releases_once_in_runs script n switch moved is answers =
    let first : Mock = opening script in
    let last : Mock = last_after first (moves script n first) in
    released script switch first.local (seen_of first (moves script n first)) (record { before = last.local; line = moved.line; after = moved.next.local }) refl
    (mock_linked script switch n first (opening_fine script)) (move_turned script switch last moved (last_fine script n first (opening_fine script)).sound is) (answers_closed switch moved.line answers)
