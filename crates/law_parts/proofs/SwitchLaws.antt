-- One switch under any list of calls. Each call moves handlers from fresh to the batch to those that have run, and what holds
-- of the three before a call holds after it; that is summed up over the list.
use Rattle.std.specs.Prelude.{◌≡◌, ℕ, ◌+◌, ◌-◌, ◌<◌, Bool, true, false, List, [], ◌∷◌, ◌++◌, length, reverse, Option, Some, None, refl}
use Rattle.std.specs.List.{flat_map}
use Rattle.std.specs.List.Sorted.{IsPermutation}
use Rattle.std.proofs.Common.{ap, sym, subst, ◌∙◌, append_assoc, arith}
use Rattle.std.proofs.lemmas.Bool.{false≢true}
use Rattle.std.proofs.lemmas.List.{append-nil, reverse-append, take_all, take_more}
use Rattle.std.proofs.lemmas.List.Sorted.{IsPermutation-reverse, IsPermutation-append}
use Rattle.std.proofs.lemmas.Option.{slice_get-get_or}
use Rattle.std.proofs.Math.ListN.{get_or}
use Rattle.std.proofs.lemmas.Grind.{flat_map-append}
use Rattle.eio_value.specs.declared.raised.Raised.{Raised}
use Rattle.spec_parts.specs.Switches.{Handler, Closer, Nobody, ForFibers, ForDaemons, Switch, Attached, opened, refuses_fibers, with_fiber, attach, woken_by, wake_closer, without, detach, last_handler, all_but_last, release, close_step, runs_handler}
use Rattle.law_parts.specs.SwitchCalls.{SwitchCall, Attach, Detach, Fail, Register, Close, after_call, after, brought, registered_by, handed_out, run_by, beginning, begun_by}
use Rattle.law_parts.specs.SwitchLaws.{is_handler, FinishedIsEmpty, HandlersRunByBatches, HandlersRunOnce, NextIsTold}

-- Which parts a call leaves

-- whoever is woken, only the closer changes
woken_by-keeps : (left : List ℕ) (closer : ℕ) (s : Switch) → (woken_by left closer s).switch ≡ record s { closer = (woken_by left closer s).switch.closer }
woken_by-keeps [] closer s = refl
woken_by-keeps (f ∷ fs) closer s = refl

wake_closer-keeps : (closer : Closer) (s : Switch) → (wake_closer closer s).switch ≡ record s { closer = (wake_closer closer s).switch.closer }
wake_closer-keeps Nobody s = refl
wake_closer-keeps (ForFibers closer) s = woken_by-keeps s.fibers closer s
wake_closer-keeps (ForDaemons closer) s = woken_by-keeps s.daemons closer s

detach-keeps : (fiber : ℕ) (s : Switch) → (detach fiber s).switch ≡ record s { fibers = without fiber s.fibers; daemons = without fiber s.daemons; closer = (detach fiber s).switch.closer }
detach-keeps fiber s = wake_closer-keeps s.closer (record s { fibers = without fiber s.fibers; daemons = without fiber s.daemons })

-- the last of some handlers, and the others before it
pub record Parted (handlers : List Handler) : Type 0 where
  pub last : Handler
  pub is : last_handler handlers ≡ Some last
  pub parts : handlers ≡ all_but_last handlers ++ last ∷ []

parted : (h : Handler) (hs : List Handler) → Parted (h ∷ hs)
parted h hs =
    let n : ℕ = length (h ∷ hs) - 1 in
    let within : n < length (h ∷ hs) = omega arith in
    let whole : n + 1 ≡ length (h ∷ hs) = omega arith in
    record {
      last = get_or (h ∷ hs) n h;
      is = slice_get-get_or (h ∷ hs) n h within;
      parts = sym (take_all (n + 1) (h ∷ hs) (omega arith)) ∙ take_more (h ∷ hs) n h within;
    }

-- Handlers

-- what a call registers, begins and hands out is what moves from place to place
pub record Moves (s : Switch) (registered : List Handler) (begun : List (List Handler)) (run : List Handler) (next : Switch) : Type 0 where
  pub fresh : s.fresh ++ registered ≡ flat_map (λ handlers. handlers) begun ++ next.fresh
  pub batch : reverse s.batch ++ flat_map reverse begun ≡ run ++ reverse next.batch

-- nothing moves
still : (s next : Switch) → next.fresh ≡ s.fresh → next.batch ≡ s.batch → Moves s [] [] [] next
still s next fresh batch = record { fresh = append-nil s.fresh ∙ sym fresh; batch = append-nil (reverse s.batch) ∙ sym (ap reverse batch) }

attach-moves : (fiber : ℕ) (daemon : Bool) (s : Switch) → Moves s [] [] [] (attach fiber daemon s).switch
attach-moves fiber daemon s = by (refuses_fibers s) daemon
  where
    by : (b d : Bool) → Moves s [] [] [] (elim b as (λ (v : Bool). Attached) [ true ↦ record { taken = false; switch = s } | false ↦ record { taken = true; switch = with_fiber fiber d s } ]).switch
    by true d = still s _ refl refl
    by false true = still s _ refl refl
    by false false = still s _ refl refl

register-moves : (handler : Handler) (s : Switch) → Moves s (registered_by (Register handler) s) [] [] (after_call (Register handler) s)
register-moves handler s = by s.finished
  where
    by : (b : Bool) → let t : Switch = record s { finished = b } in Moves t (registered_by (Register handler) t) [] [] (after_call (Register handler) t)
    by true = still (record s { finished = true }) _ refl refl
    by false = record { fresh = refl; batch = append-nil (reverse s.batch) }

fail-moves : (raised : Raised) (s : Switch) → Moves s [] [] [] (after_call (Fail raised) s)
fail-moves raised s = by s.finished
  where
    by : (b : Bool) → let t : Switch = record s { finished = b } in Moves t [] [] [] (after_call (Fail raised) t)
    by true = still (record s { finished = true }) _ refl refl
    by false = still (record s { finished = false }) _ refl refl

abbrev CloseMoves : ℕ → Switch → Type 0
CloseMoves closer s = Moves s [] (beginning (close_step closer s).step s) (handed_out (close_step closer s).step) (close_step closer s).switch

abbrev with_parts : Switch → (fibers daemons : List ℕ) → (batch fresh : List Handler) → Option Raised → Switch
with_parts s fibers daemons batch fresh errors = record s { fibers = fibers; daemons = daemons; batch = batch; fresh = fresh; errors = errors }

-- those that are run come off the end
taken_off : (handlers : List Handler) (p : Parted handlers) → reverse handlers ≡ p.last ∷ reverse (all_but_last handlers)
taken_off handlers p = ap reverse p.parts ∙ reverse-append (all_but_last handlers) (p.last ∷ [])

close-moves : (closer : ℕ) (s : Switch) → CloseMoves closer s
close-moves closer s = by s.fibers s.daemons s.batch s.fresh s.errors
  where
    by : (fibers daemons : List ℕ) (batch fresh : List Handler) (errors : Option Raised) → CloseMoves closer (with_parts s fibers daemons batch fresh errors)
    by (f ∷ fs) ds batch fresh errors = still (with_parts s (f ∷ fs) ds batch fresh errors) _ refl refl
    by [] (d ∷ ds) batch fresh errors = still (with_parts s [] (d ∷ ds) batch fresh errors) _ refl refl
    by [] [] (h ∷ hs) fresh errors =
        let t : Switch = with_parts s [] [] (h ∷ hs) fresh errors in
        let p : Parted (h ∷ hs) = parted h hs in
        subst (λ (o : Option Handler). Moves t [] (beginning (release o t).step t) (handed_out (release o t).step) (release o t).switch) (sym p.is)
        (record { fresh = append-nil fresh; batch = append-nil (reverse (h ∷ hs)) ∙ taken_off (h ∷ hs) p })
    by [] [] [] (g ∷ gs) errors =
        let t : Switch = with_parts s [] [] [] (g ∷ gs) errors in
        let p : Parted (g ∷ gs) = parted g gs in
        subst (λ (o : Option Handler). Moves t [] (beginning (release o t).step t) (handed_out (release o t).step) (release o t).switch) (sym p.is)
        (record { fresh = sym (append-nil ((g ∷ gs) ++ [])); batch = append-nil (reverse (g ∷ gs)) ∙ taken_off (g ∷ gs) p })
    by [] [] [] [] (Some errors) = still (with_parts s [] [] [] [] (Some errors)) _ refl refl
    by [] [] [] [] None = still (with_parts s [] [] [] [] None) _ refl refl

call-moves : (call : SwitchCall) (s : Switch) → Moves s (registered_by call s) (begun_by call s) (run_by call s) (after_call call s)
call-moves (Attach fiber daemon) s = attach-moves fiber daemon s
call-moves (Detach fiber) s = still s _ (ap (λ (t : Switch). t.fresh) (detach-keeps fiber s)) (ap (λ (t : Switch). t.batch) (detach-keeps fiber s))
call-moves (Fail raised) s = fail-moves raised s
call-moves (Register handler) s = register-moves handler s
call-moves (Close closer) s = close-moves closer s

-- two moves, one behind the other
joined : {s mid next : Switch} {registered registered' : List Handler} {begun begun' : List (List Handler)} {run run' : List Handler} → Moves s registered begun run mid → Moves mid registered' begun' run' next → Moves s (registered ++ registered') (begun ++ begun') (run ++ run') next
joined {s} {mid} {next} {registered} {registered'} {begun} {begun'} {run} {run'} m n = record {
  fresh =
      sym (append_assoc s.fresh registered registered')
      ∙ (ap (λ hs. hs ++ registered') m.fresh
      ∙ (append_assoc (flat_map (λ handlers. handlers) begun) mid.fresh registered'
      ∙ (ap (λ hs. flat_map (λ handlers. handlers) begun ++ hs) n.fresh
      ∙ (sym (append_assoc (flat_map (λ handlers. handlers) begun) (flat_map (λ handlers. handlers) begun') next.fresh)
      ∙ ap (λ hs. hs ++ next.fresh) (sym (flat_map-append (λ handlers. handlers) begun begun'))))));
  batch =
      ap (λ hs. reverse s.batch ++ hs) (flat_map-append reverse begun begun')
      ∙ (sym (append_assoc (reverse s.batch) (flat_map reverse begun) (flat_map reverse begun'))
      ∙ (ap (λ hs. hs ++ flat_map reverse begun') m.batch
      ∙ (append_assoc run (reverse mid.batch) (flat_map reverse begun')
      ∙ (ap (λ hs. run ++ hs) n.batch
      ∙ sym (append_assoc run run' (reverse next.batch))))));
}

calls-move : (calls : List SwitchCall) (s : Switch) → Moves s (brought registered_by calls s) (brought begun_by calls s) (brought run_by calls s) (after calls s)
calls-move [] s = still s s refl refl
calls-move (call ∷ calls) s = joined (call-moves call s) (calls-move calls (after_call call s))

pub handlers_run_by_batches : HandlersRunByBatches
handlers_run_by_batches calls context =
    let m = calls-move calls (opened context) in
    record { parts = m.fresh; order = m.batch }

-- Finished switches

-- nothing is attached, and no handler is left
pub record IsEmpty (s : Switch) : Type 0 where
  pub fibers : s.fibers ≡ []
  pub daemons : s.daemons ≡ []
  pub batch : s.batch ≡ []
  pub fresh : s.fresh ≡ []

abbrev EmptyOnceFinished : Switch → Type 0
EmptyOnceFinished s = s.finished ≡ true → IsEmpty s

abbrev told : Switch → (finished running : Bool) → Switch
told s finished running = record s { finished = finished; running = running }

attach-finished : (fiber : ℕ) (daemon : Bool) (s : Switch) → EmptyOnceFinished s → EmptyOnceFinished (attach fiber daemon s).switch
attach-finished fiber daemon s empty = by s.finished s.running daemon empty
  where
    by : (b r d : Bool) → EmptyOnceFinished (told s b r) → EmptyOnceFinished (attach fiber d (told s b r)).switch
    by true r d e = e
    by false true d e = e
    by false false true e = λ finished. absurd (false≢true finished)
    by false false false e = λ finished. absurd (false≢true finished)

detach-finished : (fiber : ℕ) (s : Switch) → EmptyOnceFinished s → EmptyOnceFinished (detach fiber s).switch
detach-finished fiber s empty = subst EmptyOnceFinished (sym (detach-keeps fiber s)) (λ finished. left (empty finished))
  where
    left : IsEmpty s → IsEmpty (record s { fibers = without fiber s.fibers; daemons = without fiber s.daemons; closer = (detach fiber s).switch.closer })
    left e = record { fibers = ap (without fiber) e.fibers; daemons = ap (without fiber) e.daemons; batch = e.batch; fresh = e.fresh }

fail-finished : (raised : Raised) (s : Switch) → EmptyOnceFinished s → EmptyOnceFinished (after_call (Fail raised) s)
fail-finished raised s empty = by s.finished empty
  where
    by : (b : Bool) → EmptyOnceFinished (record s { finished = b }) → EmptyOnceFinished (after_call (Fail raised) (record s { finished = b }))
    by true e = e
    by false e = λ finished. absurd (false≢true finished)

register-finished : (handler : Handler) (s : Switch) → EmptyOnceFinished s → EmptyOnceFinished (after_call (Register handler) s)
register-finished handler s empty = by s.finished empty
  where
    by : (b : Bool) → EmptyOnceFinished (record s { finished = b }) → EmptyOnceFinished (after_call (Register handler) (record s { finished = b }))
    by true e = e
    by false e = λ finished. absurd (false≢true finished)

-- a finished switch has nothing left, so `close` leaves it empty; one that `close` finishes has nothing left either
close-finished : (closer : ℕ) (s : Switch) → EmptyOnceFinished s → EmptyOnceFinished (close_step closer s).switch
close-finished closer s empty = by s.fibers s.daemons s.batch s.fresh s.errors empty
  where
    by : (fibers daemons : List ℕ) (batch fresh : List Handler) (errors : Option Raised) → EmptyOnceFinished (with_parts s fibers daemons batch fresh errors) → EmptyOnceFinished (close_step closer (with_parts s fibers daemons batch fresh errors)).switch
    by (f ∷ fs) ds batch fresh errors e = λ finished. let old = e finished in record { fibers = old.fibers; daemons = old.daemons; batch = old.batch; fresh = old.fresh }
    by [] (d ∷ ds) batch fresh errors e = λ finished. let old = e finished in record { fibers = old.fibers; daemons = old.daemons; batch = old.batch; fresh = old.fresh }
    by [] [] (h ∷ hs) fresh errors e =
        let t : Switch = with_parts s [] [] (h ∷ hs) fresh errors in
        subst (λ (o : Option Handler). EmptyOnceFinished (release o t).switch) (sym (parted h hs).is)
        (λ finished. let old : (h ∷ hs) ≡ [] = (e finished).batch in absurd (cc))
    by [] [] [] (g ∷ gs) errors e =
        let t : Switch = with_parts s [] [] [] (g ∷ gs) errors in
        subst (λ (o : Option Handler). EmptyOnceFinished (release o t).switch) (sym (parted g gs).is)
        (λ finished. let old : (g ∷ gs) ≡ [] = (e finished).fresh in absurd (cc))
    by [] [] [] [] errors e = λ finished. record { fibers = refl; daemons = refl; batch = refl; fresh = refl }

call-finished : (call : SwitchCall) (s : Switch) → EmptyOnceFinished s → EmptyOnceFinished (after_call call s)
call-finished (Attach fiber daemon) s = attach-finished fiber daemon s
call-finished (Detach fiber) s = detach-finished fiber s
call-finished (Fail raised) s = fail-finished raised s
call-finished (Register handler) s = register-finished handler s
call-finished (Close closer) s = close-finished closer s

calls-finished : (calls : List SwitchCall) (s : Switch) → EmptyOnceFinished s → EmptyOnceFinished (after calls s)
calls-finished [] s empty = empty
calls-finished (call ∷ calls) s empty = calls-finished calls (after_call call s) (call-finished call s empty)

opened-finished : (calls : List SwitchCall) (context : ℕ) → EmptyOnceFinished (after calls (opened context))
opened-finished calls context = calls-finished calls (opened context) (λ finished. absurd (false≢true finished))

pub finished_is_empty : FinishedIsEmpty
finished_is_empty calls context finished = let e = opened-finished calls context finished in (e.fibers, e.daemons)

reversed-once : (batches : List (List Handler)) → IsPermutation (flat_map (λ handlers. handlers) batches) (flat_map reverse batches)
reversed-once [] = IsPermutation-reverse []
reversed-once (b ∷ bs) = IsPermutation-append b (reverse b) (flat_map (λ handlers. handlers) bs) (flat_map reverse bs) (IsPermutation-reverse b) (reversed-once bs)

pub handlers_run_once : HandlersRunOnce
handlers_run_once calls context finished =
    let begun = brought begun_by calls (opened context) in
    let m = calls-move calls (opened context) in
    let e = opened-finished calls context finished in
    let registered = m.fresh ∙ (ap (λ hs. flat_map (λ handlers. handlers) begun ++ hs) e.fresh ∙ append-nil (flat_map (λ handlers. handlers) begun)) in
    let run = sym (append-nil (brought run_by calls (opened context))) ∙ (ap (λ hs. brought run_by calls (opened context) ++ reverse hs) (sym e.batch) ∙ sym m.batch) in
    record {
      parts = registered;
      order = run;
      once = subst (λ (hs : List Handler). IsPermutation hs (brought run_by calls (opened context))) (sym registered) (subst (λ (hs : List Handler). IsPermutation (flat_map (λ handlers. handlers) begun) hs) (sym run) (reversed-once begun));
    }

-- Whether a handler is next

pub next_is_told : NextIsTold
next_is_told closer s = by s.fibers s.daemons s.batch s.fresh s.errors
  where
    by : (fibers daemons : List ℕ) (batch fresh : List Handler) (errors : Option Raised) → runs_handler (with_parts s fibers daemons batch fresh errors) ≡ is_handler (close_step closer (with_parts s fibers daemons batch fresh errors)).step
    by (f ∷ fs) ds batch fresh errors = refl
    by [] (d ∷ ds) batch fresh errors = refl
    by [] [] (h ∷ hs) fresh errors =
        let t : Switch = with_parts s [] [] (h ∷ hs) fresh errors in
        ap (λ (o : Option Handler). is_handler (release o t).step) (sym (parted h hs).is)
    by [] [] [] (g ∷ gs) errors =
        let t : Switch = with_parts s [] [] [] (g ∷ gs) errors in
        ap (λ (o : Option Handler). is_handler (release o t).step) (sym (parted g gs).is)
    by [] [] [] [] (Some errors) = refl
    by [] [] [] [] None = refl
