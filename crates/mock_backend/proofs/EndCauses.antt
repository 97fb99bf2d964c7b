-- Why a run ends as it does: its ending by the state that it has come to, and its status by its bytes.
use Rattle.std.proofs.Common.{◌≡◌, ◌≢◌, ℕ, Bool, true, false, List, [], ◌∷◌, Option, Some, None, IfSome, Result, Ok, Err, inl, inr, refl, ap, sym, ◌∙◌}
use Rattle.std.specs.Prelude.{is_some, not, ◌&&◌, ◌||◌, ◌↔◌}
use Rattle.std.proofs.lemmas.Bool.{false≢true}
use Rattle.eio_value.specs.declared.raised.Outcome.{Outcome}
use Rattle.eio_value.specs.declared.raised.Outcome.TheVariants as outcome
use Rattle.eio_value.specs.declared.raised.Raised.{Raised}
use Rattle.spec_parts.specs.Timers.{Timer}
use Rattle.spec_script.specs.Inputs.{mocked_script}
use Rattle.spec_script.specs.Refusals.{Refusal}
use Rattle.spec_script.specs.Scripts.{Script}
use Rattle.trace_lines.specs.declared.status.Status.{Status}
use Rattle.trace_lines.specs.declared.status.Status.TheVariants as status
use Rattle.trace_out.specs.Input.{ReadsInput}
use Rattle.spec_machine.specs.declared.Ending.{Ending}
use Rattle.spec_machine.specs.declared.Ending.TheVariants as ending
use Rattle.spec_machine.specs.Answers.{Answer, ended, ran, ran_if}
use Rattle.spec_machine.specs.Domain.{Duty, DomainState}
use Rattle.spec_machine.specs.Mock.{Mock, Moved, move, can_move, has_any}
use Rattle.spec_machine.specs.Trace.{body_end, ending_by, ending_in, run}
use Rattle.law_run.proofs.Moves.{moves_where_something_is_left}
use Rattle.mock_backend.specs.Causes.{IsAtRest, EndsRaised, IsStuck, RunsTo, IsFault, ComesExactlyOf}
use Rattle.mock_backend.specs.Due.{answer_to}
use Rattle.mock_backend.specs.Today.{built_today}
use Rattle.mock_backend.proofs.Answered.{answer_is, ran_ending, same_answer}
use Rattle.mock_backend.proofs.Endings.{still_is}

-- ## At rest

nothing_left : (halted : Bool) (duties : List Duty) (ready : List ℕ) (timers : List Timer) → halted ≡ false
    → (not halted && (has_any duties || has_any ready || has_any timers)) ≡ false → (duties ≡ []) × (ready ≡ []) × (timers ≡ [])
nothing_left true duties ready timers going still = absurd (false≢true (sym going))
nothing_left false [] [] [] going still = (refl, refl, refl)
nothing_left false (duty ∷ duties) ready timers going still = absurd (false≢true (sym still))
nothing_left false [] (g ∷ ready) timers going still = absurd (false≢true (sym still))
nothing_left false [] [] (timer ∷ timers) going still = absurd (false≢true (sym still))

rests : (l : DomainState) → l.halted ≡ false → can_move l ≡ false → IsAtRest l
rests l going still =
    let none = nothing_left l.halted l.duties l.ready l.timers.standing going still in
    record { unhalted = going; nothing_owed = none.0; nobody_ready = none.1; no_timer = none.2 }

still_at_rest : (l : DomainState) → IsAtRest l → can_move l ≡ false
still_at_rest l rests =
    ap (λ halted. not halted && (has_any l.duties || has_any l.ready || has_any l.timers.standing)) rests.unhalted
    ∙ (ap (λ duties. has_any duties || has_any l.ready || has_any l.timers.standing) rests.nothing_owed
    ∙ (ap (λ ready. has_any ready || has_any l.timers.standing) rests.nobody_ready ∙ ap has_any rests.no_timer))

-- ## The ending of a state

-- an ending that main's end decides
abbrev ends_by : (halted : Bool) → Option Moved → Option Outcome → Ending
ends_by halted first came = elim halted [ true ↦ ending.Limit | false ↦ elim first [ Some moved ↦ ending.OutOfSteps | None ↦ ending_by came ] ]

raised_by : (halted : Bool) (first : Option Moved) (came : Option Outcome) → ends_by halted first came ≡ ending.Raised
    → (halted ≡ false) × (is_some first ≡ false) × ((raised : Raised) × (came ≡ Some (outcome.Err raised)))
raised_by true first came e = absurd (cc)
raised_by false (Some moved) came e = absurd (cc)
raised_by false None None e = absurd (cc)
raised_by false None (Some (outcome.Ok it)) e = absurd (cc)
raised_by false None (Some (outcome.Err raised)) e = (refl, refl, (raised, refl))

stuck_by : (halted : Bool) (first : Option Moved) (came : Option Outcome) → ends_by halted first came ≡ ending.Deadlock → (halted ≡ false) × (is_some first ≡ false) × (came ≡ None)
stuck_by true first came e = absurd (cc)
stuck_by false (Some moved) came e = absurd (cc)
stuck_by false None None e = (refl, refl, refl)
stuck_by false None (Some (outcome.Ok it)) e = absurd (cc)
stuck_by false None (Some (outcome.Err raised)) e = absurd (cc)

module _ (script : Script) (m : Mock) where
  no_more : is_some (move script m) ≡ false → can_move m.local ≡ false
  no_more none = sym (moves_where_something_is_left script m) ∙ none

  pub ends_raised : ending_in script m ≡ ending.Raised → EndsRaised m.local
  ends_raised e =
      let found = raised_by m.local.halted (move script m) (body_end m.local) e in
      record { rests = rests m.local found.0 (no_more found.1); raised = found.2.0; main = found.2.1 }

  pub is_stuck : ending_in script m ≡ ending.Deadlock → IsStuck m.local
  is_stuck e =
      let found = stuck_by m.local.halted (move script m) (body_end m.local) e in
      record { rests = rests m.local found.0 (no_more found.1); main = found.2 }

  raised_ending : EndsRaised m.local → ending_in script m ≡ ending.Raised
  raised_ending it = sym (still_is script m (Some (outcome.Err it.raised)) it.rests.unhalted (still_at_rest m.local it.rests) it.main)

  stuck_ending : IsStuck m.local → ending_in script m ≡ ending.Deadlock
  stuck_ending it = sym (still_is script m None it.rests.unhalted (still_at_rest m.local it.rests) it.main)

  pub raised_exactly : (e : Ending) → e ≡ ending_in script m → (e ≡ ending.Raised) ↔ EndsRaised m.local
  raised_exactly e is = (λ same. ends_raised (sym is ∙ same), λ it. is ∙ raised_ending it)

  pub stuck_exactly : (e : Ending) → e ≡ ending_in script m → (e ≡ ending.Deadlock) ↔ IsStuck m.local
  stuck_exactly e is = (λ same. is_stuck (sym is ∙ same), λ it. is ∙ stuck_ending it)

-- ## The status of an input

ending_of : Status → Ending
ending_of status.Raised = ending.Raised
ending_of status.Refused = ending.Refused
ending_of status.Deadlock = ending.Deadlock
ending_of status.OutOfSteps = ending.OutOfSteps
ending_of status.Limit = ending.Limit
ending_of status.NotLegal = ending.NotLegal
ending_of other = ending.Ok

ended_of : (e : Ending) → ending_of (ended e) ≡ e
unfolding ending_of
ended_of ending.Ok = refl
ended_of ending.Raised = refl
ended_of ending.Refused = refl
ended_of ending.Deadlock = refl
ended_of ending.OutOfSteps = refl
ended_of ending.Limit = refl
ended_of ending.NotLegal = refl

same_ending : (e f : Ending) → ended e ≡ ended f → e ≡ f
same_ending e f same = sym (ended_of e) ∙ (ap ending_of same ∙ ended_of f)

-- an ending that exactly the runs have that come to such a state
module _ (State : DomainState → Type 0) (end : Ending) (exactly : (script : Script) (m : Mock) (e : Ending) → e ≡ ending_in script m → (e ≡ end) ↔ State m.local)
    (runs : ending.Refused ≢ end) where
  comes_to : (n : ℕ) (read : Result Script Refusal) → (ran_if n read).ending ≡ end → (script : Script) × (read ≡ Ok script) × State (run script n).last.local
  comes_to n (Ok script) e = (script, refl, (exactly script (run script n).last (ran script n).ending (ran_ending script n)).0 e)
  comes_to n (Err refusal) e = absurd (runs e)

  answer_ends : (n : ℕ) (bytes : List ℕ) → RunsTo State n bytes → (answer_to n bytes).ending ≡ end
  answer_ends n bytes it =
      ap (λ (a : Answer). a.ending) (answer_is n bytes ∙ ap (ran_if n) it.1)
      ∙ (exactly it.0 (run it.0 n).last (ran it.0 n).ending (ran_ending it.0 n)).1 it.2

  pub comes_exactly : (left rest : Option (List ℕ)) (n : ℕ) (input : List ℕ) (e : Ending) → ReadsInput left rest input → e ≡ (answer_to n input).ending
      → IfSome left (λ bytes. ComesExactlyOf (RunsTo State n bytes) (ended end) (ended e))
  comes_exactly None rest n input e reads is = tt
  comes_exactly (Some bytes) rest n input e reads is =
      let whole : e ≡ (answer_to n bytes).ending = is ∙ sym (ap (λ (a : Answer). a.ending) (same_answer n bytes input rest reads)) in
      record {
        only = λ same. comes_to n (mocked_script built_today bytes) (sym (ap (λ (a : Answer). a.ending) (answer_is n bytes)) ∙ (sym whole ∙ same_ending e end same));
        always = λ it. inl (ap ended (whole ∙ answer_ends n bytes it));
      }

refused_raised : ending.Refused ≢ ending.Raised
refused_raised same = cc

refused_stuck : ending.Refused ≢ ending.Deadlock
refused_stuck same = cc

pub raised_comes : (left rest : Option (List ℕ)) (n : ℕ) (input : List ℕ) (e : Ending) → ReadsInput left rest input → e ≡ (answer_to n input).ending
    → IfSome left (λ bytes. ComesExactlyOf (RunsTo EndsRaised n bytes) status.Raised (ended e))
raised_comes left rest n input e reads is = comes_exactly EndsRaised ending.Raised raised_exactly refused_raised left rest n input e reads is

pub stuck_comes : (left rest : Option (List ℕ)) (n : ℕ) (input : List ℕ) (e : Ending) → ReadsInput left rest input → e ≡ (answer_to n input).ending
    → IfSome left (λ bytes. ComesExactlyOf (RunsTo IsStuck n bytes) status.Deadlock (ended e))
stuck_comes left rest n input e reads is = comes_exactly IsStuck ending.Deadlock stuck_exactly refused_stuck left rest n input e reads is

-- a fault comes of other causes
pub fault_comes : (Cause : List ℕ → Type 0) (expected result : Status) (left : Option (List ℕ)) → IsFault result → result ≢ expected → IfSome left (λ bytes. ComesExactlyOf (Cause bytes) expected result)
fault_comes Cause expected result None fault differs = tt
fault_comes Cause expected result (Some bytes) fault differs = record { only = λ same. absurd (differs same); always = λ it. inr fault }
