-- How a move changes one switch, as a list of calls on it.
use Rattle.std.proofs.Common.{◌≡◌, ℕ, Bool, true, false, List, [], ◌∷◌, ◌++◌, length, Option, Some, None, refl, sym, ap, ◌∙◌, subst, slice_set, append_assoc}
use Rattle.std.specs.Prelude.{unwrap_or}
use Rattle.eio_value.specs.declared.raised.Raised.{Raised}
use Rattle.spec_parts.specs.Switches as switches
use Rattle.spec_parts.specs.Switches.{Switch, Handler, Closer, Nobody, ForFibers, ForDaemons, Attached, CloseStep, Closed, switch_at, never_opened, opened}
use Rattle.law_parts.specs.SwitchCalls.{SwitchCall, Attach, Detach, Fail, Close, after_call, after, brought, registered_by, handed_out, run_by, beginning, begun_by}
use Rattle.law_domain.proofs.Scopes.Scopes.{SetAt, Here, There, set_at, set_length}

-- ## Lists of calls

pub after_append : (cs ds : List SwitchCall) (s : Switch) → after (cs ++ ds) s ≡ after ds (after cs s)
after_append [] ds s = refl
after_append (c ∷ cs) ds s = after_append cs ds (after_call c s)

pub brought_append : {X : Type 0} (f : SwitchCall → Switch → List X) (cs ds : List SwitchCall) (s : Switch) → brought f (cs ++ ds) s ≡ brought f cs s ++ brought f ds (after cs s)
brought_append f [] ds s = refl
brought_append f (c ∷ cs) ds s = ap (λ more. f c s ++ more) (brought_append f cs ds (after_call c s)) ∙ sym (append_assoc (f c s) (brought f cs (after_call c s)) (brought f ds (after cs (after_call c s))))

-- ## Calls that neither register a handler nor hand one out

pub record Quiet (n : ℕ) (s t : List Switch) : Type 0 where
  pub calls : List SwitchCall
  pub is : switch_at t n ≡ after calls (switch_at s n)
  pub registered : brought registered_by calls (switch_at s n) ≡ []
  pub begun : brought begun_by calls (switch_at s n) ≡ []
  pub run : brought run_by calls (switch_at s n) ≡ []
  pub batch : (switch_at t n).batch ≡ (switch_at s n).batch
  pub fresh : (switch_at t n).fresh ≡ (switch_at s n).fresh
  pub size : length t ≡ length s

pub no_calls : (n : ℕ) (s : List Switch) → Quiet n s s
no_calls n s = record { calls = []; is = refl; registered = refl; begun = refl; run = refl; batch = refl; fresh = refl; size = refl }

pub same_calls : (n : ℕ) (s t : List Switch) → t ≡ s → Quiet n s t
same_calls n s t same = subst (Quiet n s) (sym same) (no_calls n s)

pub two_calls : (n : ℕ) (s t u : List Switch) → Quiet n s t → Quiet n t u → Quiet n s u
two_calls n s t u first second = record {
  calls = first.calls ++ second.calls;
  is = second.is ∙ (ap (after second.calls) first.is ∙ sym (after_append first.calls second.calls (switch_at s n)));
  registered = none_of registered_by first.registered second.registered;
  begun = none_of begun_by first.begun second.begun;
  run = none_of run_by first.run second.run;
  batch = second.batch ∙ first.batch;
  fresh = second.fresh ∙ first.fresh;
  size = second.size ∙ first.size;
}
  where
    none_of : {X : Type 0} (f : SwitchCall → Switch → List X) → brought f first.calls (switch_at s n) ≡ [] → brought f second.calls (switch_at t n) ≡ [] → brought f (first.calls ++ second.calls) (switch_at s n) ≡ []
    none_of f none also =
        brought_append f first.calls second.calls (switch_at s n)
        ∙ (ap (λ more. more ++ brought f second.calls (after first.calls (switch_at s n))) none ∙ (ap (brought f second.calls) (sym first.is) ∙ also))

-- one call on a switch that is quiet there
pub record QuietCall (call : SwitchCall) (s : Switch) : Type 0 where
  pub registered : registered_by call s ≡ []
  pub begun : begun_by call s ≡ []
  pub run : run_by call s ≡ []
  pub batch : (after_call call s).batch ≡ s.batch
  pub fresh : (after_call call s).fresh ≡ s.fresh

pub one_call : (n m : ℕ) (s : List Switch) (call : SwitchCall) → QuietCall call (switch_at s m) → Quiet n s (slice_set s m (after_call call (switch_at s m)))
one_call n m s call it = by (set_at never_opened s m n (after_call call (switch_at s m)))
  where
    none : {X : Type 0} (xs : List X) → xs ≡ [] → xs ++ [] ≡ []
    none xs e = ap (λ ys. ys ++ []) e

    by : SetAt never_opened s m n (after_call call (switch_at s m)) → Quiet n s (slice_set s m (after_call call (switch_at s m)))
    by (There is) = record { calls = []; is = is; registered = refl; begun = refl; run = refl; batch = ap (λ (t : Switch). t.batch) is; fresh = ap (λ (t : Switch). t.fresh) is; size = set_length s m (after_call call (switch_at s m)) }
    by (Here same is) =
        let at : switch_at s n ≡ switch_at s m = ap (switch_at s) same in
        record {
          calls = call ∷ [];
          is = is ∙ ap (after_call call) (sym at);
          registered = subst (λ (t : Switch). registered_by call t ++ [] ≡ []) (sym at) (none _ it.registered);
          begun = subst (λ (t : Switch). begun_by call t ++ [] ≡ []) (sym at) (none _ it.begun);
          run = subst (λ (t : Switch). run_by call t ++ [] ≡ []) (sym at) (none _ it.run);
          batch = ap (λ (t : Switch). t.batch) is ∙ (it.batch ∙ ap (λ (t : Switch). t.batch) (sym at));
          fresh = ap (λ (t : Switch). t.fresh) is ∙ (it.fresh ∙ ap (λ (t : Switch). t.fresh) (sym at));
          size = set_length s m (after_call call (switch_at s m));
        }

-- ## Each call

attach_is : (new : ℕ) (daemon : Bool) (s : Switch) → QuietCall (Attach new daemon) s
attach_is new daemon s = record { registered = refl; begun = refl; run = refl; batch = batch_by (switches.refuses_fibers s) daemon; fresh = fresh_by (switches.refuses_fibers s) daemon }
  where
    batch_by : (b d : Bool) → (elim b as (λ _. Attached) [ true ↦ record { taken = false; switch = s } | false ↦ record { taken = true; switch = switches.with_fiber new d s } ]).switch.batch ≡ s.batch
    batch_by true d = refl
    batch_by false true = refl
    batch_by false false = refl

    fresh_by : (b d : Bool) → (elim b as (λ _. Attached) [ true ↦ record { taken = false; switch = s } | false ↦ record { taken = true; switch = switches.with_fiber new d s } ]).switch.fresh ≡ s.fresh
    fresh_by true d = refl
    fresh_by false true = refl
    fresh_by false false = refl

pub attach_call : (n m new : ℕ) (daemon : Bool) (s : List Switch) → Quiet n s (slice_set s m (switches.attach new daemon (switch_at s m)).switch)
attach_call n m new daemon s = one_call n m s (Attach new daemon) (attach_is new daemon (switch_at s m))

woken_parts : (left : List ℕ) (closer : ℕ) (t : Switch) → ((switches.woken_by left closer t).switch.batch ≡ t.batch) × ((switches.woken_by left closer t).switch.fresh ≡ t.fresh)
woken_parts [] closer t = (refl, refl)
woken_parts (f ∷ fs) closer t = (refl, refl)

wake_parts : (closer : Closer) (t : Switch) → ((switches.wake_closer closer t).switch.batch ≡ t.batch) × ((switches.wake_closer closer t).switch.fresh ≡ t.fresh)
wake_parts Nobody t = (refl, refl)
wake_parts (ForFibers closer) t = woken_parts t.fibers closer t
wake_parts (ForDaemons closer) t = woken_parts t.daemons closer t

detach_is : (g : ℕ) (s : Switch) → QuietCall (Detach g) s
detach_is g s =
    let parts = wake_parts s.closer (record s { fibers = switches.without g s.fibers; daemons = switches.without g s.daemons }) in
    record { registered = refl; begun = refl; run = refl; batch = parts.0; fresh = parts.1 }

pub detach_call : (n m g : ℕ) (s : List Switch) → Quiet n s (slice_set s m (switches.detach g (switch_at s m)).switch)
detach_call n m g s = one_call n m s (Detach g) (detach_is g (switch_at s m))

fail_is : (what : Raised) (s : Switch) → QuietCall (Fail what) s
fail_is what s = record { registered = refl; begun = refl; run = refl; batch = batch_by s.finished; fresh = fresh_by s.finished }
  where
    batch_by : (b : Bool) → (after_call (Fail what) (record s { finished = b })).batch ≡ s.batch
    batch_by true = refl
    batch_by false = refl

    fresh_by : (b : Bool) → (after_call (Fail what) (record s { finished = b })).fresh ≡ s.fresh
    fresh_by true = refl
    fresh_by false = refl

-- a switch that took an exception
pub fail_call : (n m : ℕ) (what : Raised) (s : List Switch) (t : Switch) → switches.fail what (switch_at s m) ≡ Some t → Quiet n s (slice_set s m t)
fail_call n m what s t is =
    subst (λ (u : Switch). Quiet n s (slice_set s m u)) (ap (λ (o : Option Switch). unwrap_or o (switch_at s m)) is) (one_call n m s (Fail what) (fail_is what (switch_at s m)))

-- ## Closing

-- the handler that a step of `close` hands out
abbrev pub hands : CloseStep → Option Handler
hands switches.Wait = None
hands switches.CancelDaemons = None
hands (switches.RunHandler handler) = Some handler
hands switches.Return = None
hands (switches.Raise errors) = None

none_handed : (step : CloseStep) → hands step ≡ None → handed_out step ≡ []
none_handed switches.Wait none = refl
none_handed switches.CancelDaemons none = refl
none_handed (switches.RunHandler handler) none = absurd (cc)
none_handed switches.Return none = refl
none_handed (switches.Raise errors) none = refl

none_begun : (step : CloseStep) (s : Switch) → hands step ≡ None → beginning step s ≡ []
none_begun switches.Wait s none = refl
none_begun switches.CancelDaemons s none = refl
none_begun (switches.RunHandler handler) s none = absurd (cc)
none_begun switches.Return s none = refl
none_begun (switches.Raise errors) s none = refl

release_parts : (found : Option Handler) (s : Switch) → hands (switches.release found s).step ≡ None → ((switches.release found s).switch.batch ≡ s.batch) × ((switches.release found s).switch.fresh ≡ s.fresh)
release_parts None s none = (refl, refl)
release_parts (Some handler) s none = absurd (cc)

close_parts : (g : ℕ) (s : Switch) → hands (switches.close_step g s).step ≡ None → ((switches.close_step g s).switch.batch ≡ s.batch) × ((switches.close_step g s).switch.fresh ≡ s.fresh)
close_parts g s = by s.fibers s.daemons
  where
    by : (fibers daemons : List ℕ) → let t : Switch = record s { fibers = fibers; daemons = daemons } in hands (switches.close_step g t).step ≡ None → ((switches.close_step g t).switch.batch ≡ t.batch) × ((switches.close_step g t).switch.fresh ≡ t.fresh)
    by (f ∷ fs) daemons = λ none. (refl, refl)
    by [] (d ∷ ds) = λ none. (refl, refl)
    by [] [] = (let t : Switch = record s { fibers = []; daemons = [] } in release_parts (switches.last_handler (switches.due_batch t)) t)

pub close_call : (n m g : ℕ) (s : List Switch) → hands (switches.close_step g (switch_at s m)).step ≡ None → Quiet n s (slice_set s m (switches.close_step g (switch_at s m)).switch)
close_call n m g s none =
    let step = (switches.close_step g (switch_at s m)).step in
    let parts = close_parts g (switch_at s m) none in
    one_call n m s (Close g) (record { registered = refl; begun = none_begun step (switch_at s m) none; run = none_handed step none; batch = parts.0; fresh = parts.1 })
