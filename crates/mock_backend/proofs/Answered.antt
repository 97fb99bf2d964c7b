-- From a run in code to what is due to the whole input.
use Rattle.std.proofs.Common.{◌≡◌, ◌≢◌, ℕ, List, [], ◌++◌, Some, None, IfSome, Result, Ok, Err, refl, ap, sym, subst, ◌∙◌}
use Rattle.std.specs.Prelude.{IfOk, Bool, true, false}
use Rattle.std.specs.declared.option.Option.{Option}
use Rattle.std.specs.Io.KnownBytes.{Appends}
use Rattle.eio_value.specs.declared.raised.Outcome.{Outcome}
use Rattle.eio_value.specs.declared.raised.Outcome.TheVariants as outcome
use Rattle.spec_script.specs.Inputs.{mocked_script}
use Rattle.spec_script.specs.Refusals.{Refusal}
use Rattle.spec_script.specs.Scripts.{Script}
use Rattle.mock_backend.specs.Today.{built_today}
use Rattle.trace_out.specs.Causes.{AppendsFront}
use Rattle.trace_out.specs.Input.{ReadsInput}
use Rattle.trace_out.specs.Passing.{PassesOn}
use Rattle.trace_out.specs.Outcome.{Due, HasRead, ReadsFor, WritesFor}
use Rattle.trace_lines.specs.declared.status.Status.TheVariants as status
use Rattle.trace_out.proofs.Appended.{front_longer}
use Rattle.trace_out.proofs.Passed.{all_passed, front_passed}
use Rattle.spec_machine.specs.declared.Ending.{Ending}
use Rattle.spec_machine.specs.declared.Ending.TheVariants as ending
use Rattle.spec_machine.specs.Answers.{Answer, ended, ran, ran_if, mocked}
use Rattle.spec_machine.specs.Mock.{Mock, Moved, move}
use Rattle.spec_machine.specs.Trace.{body_end, ending_by, run, trace, ending_in, last_line}
use Rattle.script_input.specs.declared.refusal.Refusal.{Refusal as Refused}
use Rattle.script_input.specs.Refusals.{IsRefusedAs, line_of}
use Rattle.mock_backend.specs.declared.fault.RunFault.{RunFault}
use Rattle.mock_backend.specs.Due.{answer_to, due}
use Rattle.mock_backend.specs.Faults.{WritesText}
use Rattle.mock_backend.proofs.Inputs.{line_is, mocked_front}

-- ## Of a script

pub ran_ending : (script : Script) (n : ℕ) → (ran script n).ending ≡ ending_in script (run script n).last
unfolding ran
ran_ending script n = refl

-- the text is the trace and the line behind it
pub ran_text : (script : Script) (n : ℕ) → (ran script n).text ≡ trace script (run script n).moves ++ last_line (ending_in script (run script n).last) (run script n).last
unfolding ran
ran_text script n = refl

-- a front of the trace is a front of the text; so is the trace with a front of the line behind it
pub front_of_trace : (old now : Option (List ℕ)) (script : Script) (n : ℕ) → AppendsFront old now (trace script (run script n).moves) → AppendsFront old now (ran script n).text
front_of_trace old now script n front = subst (AppendsFront old now) (sym (ran_text script n)) (front_longer old now _ _ front)

-- the line behind the trace, put behind what is held back, completes the text, or a front of it
pub text_with_line : (old mid now : Option (List ℕ)) (pending : List ℕ) (script : Script) (n : ℕ) (result : Result Ending RunFault) → PassesOn old mid [] (trace script (run script n).moves) pending
    → WritesText mid now (pending ++ last_line (ending_in script (run script n).last) (run script n).last) result → WritesText old now (ran script n).text result
text_with_line old mid now pending script n (Ok e) traced writes = subst (Appends old now) (sym (ran_text script n)) (all_passed old mid now [] _ pending _ traced writes)
text_with_line old mid now pending script n (Err it) traced writes = subst (AppendsFront old now) (sym (ran_text script n)) (front_passed old mid now [] _ pending _ traced writes)

-- ## Of an input

pub answer_is : (n : ℕ) (bytes : List ℕ) → answer_to n bytes ≡ ran_if n (mocked_script built_today bytes)
unfolding mocked
answer_is n bytes = refl

answer_runs : (n : ℕ) (bytes : List ℕ) (script : Script) → mocked_script built_today bytes ≡ Ok script → answer_to n bytes ≡ ran script n
answer_runs n bytes script is = answer_is n bytes ∙ ap (ran_if n) is

-- a script that was run is the answer to its input
pub script_answered : (n : ℕ) (bytes : List ℕ) (script : Script) (result : Result Ending RunFault) → mocked_script built_today bytes ≡ Ok script → IfOk result (λ e. e ≡ (ran script n).ending) → IfOk result (λ e. e ≡ (answer_to n bytes).ending)
script_answered n bytes script result is ends = subst (λ (a : Answer). IfOk result (λ e. e ≡ a.ending)) (sym (answer_runs n bytes script is)) ends

pub script_written : (old now : Option (List ℕ)) (n : ℕ) (bytes : List ℕ) (script : Script) (result : Result Ending RunFault) → mocked_script built_today bytes ≡ Ok script → WritesText old now (ran script n).text result → WritesText old now (answer_to n bytes).text result
script_written old now n bytes script result is writes = subst (λ (a : Answer). WritesText old now a.text result) (sym (answer_runs n bytes script is)) writes

-- and so is a refusal
refusal_answer : (n : ℕ) (bytes : List ℕ) (refusal : Refused) → IsRefusedAs refusal (mocked_script built_today bytes) → answer_to n bytes ≡ record { text = line_of refusal; ending = ending.Refused }
refusal_answer n bytes refusal refused =
    let made : List ℕ → Answer = λ text. record { text = text; ending = ending.Refused } in
    answer_is n bytes ∙ (ap (ran_if n) refused.refused ∙ ap made (line_is refused.why ∙ ap line_of (sym refused.same)))

pub refusal_answered : (n : ℕ) (bytes : List ℕ) (refusal : Refused) (result : Result Ending RunFault) → IsRefusedAs refusal (mocked_script built_today bytes) → IfOk result (λ e. e ≡ ending.Refused) → IfOk result (λ e. e ≡ (answer_to n bytes).ending)
refusal_answered n bytes refusal result refused ends = subst (λ (a : Answer). IfOk result (λ e. e ≡ a.ending)) (sym (refusal_answer n bytes refusal refused)) ends

pub refusal_written : (old now : Option (List ℕ)) (n : ℕ) (bytes : List ℕ) (refusal : Refused) (result : Result Ending RunFault) → IsRefusedAs refusal (mocked_script built_today bytes) → WritesText old now (line_of refusal) result → WritesText old now (answer_to n bytes).text result
refusal_written old now n bytes refusal result refused writes = subst (λ (a : Answer). WritesText old now a.text result) (sym (refusal_answer n bytes refusal refused)) writes

-- ## Of what was read

-- what was read decides the answer to the whole input
pub same_answer : (n : ℕ) (bytes input : List ℕ) (new : Option (List ℕ)) → ReadsInput (Some bytes) new input → answer_to n bytes ≡ answer_to n input
same_answer n bytes input None reads = absurd reads.taken
same_answer n bytes input (Some rest) reads =
    ap (answer_to n) reads.taken ∙ (answer_is n (input ++ rest) ∙ (ap (ran_if n) (mocked_front input rest reads.whole) ∙ sym (answer_is n input)))

-- an ending's status was read for to the end
pub reads_ended : (e : Ending) (old new : Option (List ℕ)) → HasRead 262145 old new → ReadsFor (ended e) old new
reads_ended ending.Ok old new h = h
reads_ended ending.Raised old new h = h
reads_ended ending.Refused old new h = h
reads_ended ending.Deadlock old new h = h
reads_ended ending.OutOfSteps old new h = h
reads_ended ending.Limit old new h = h
reads_ended ending.NotLegal old new h = h

writes_ended : (e : Ending) (due : Due) (old new : Option (List ℕ)) → due.status ≡ ended e → Appends old new due.text → WritesFor (ended e) due old new
writes_ended ending.Ok due old new h a = record { status = h; text = a }
writes_ended ending.Raised due old new h a = record { status = h; text = a }
writes_ended ending.Refused due old new h a = record { status = h; text = a }
writes_ended ending.Deadlock due old new h a = record { status = h; text = a }
writes_ended ending.OutOfSteps due old new h a = record { status = h; text = a }
writes_ended ending.Limit due old new h a = record { status = h; text = a }
writes_ended ending.NotLegal due old new h a = record { status = h; text = a }

-- the answer to what was read is written whole
pub writes_whole : (left rest : Option (List ℕ)) (n : ℕ) (input : List ℕ) (e : Ending) (old new : Option (List ℕ)) → ReadsInput left rest input → e ≡ (answer_to n input).ending → Appends old new (answer_to n input).text
    → IfSome left (λ bytes. WritesFor (ended e) (due (answer_to n bytes)) old new)
writes_whole None rest n input e old new reads ends a = tt
writes_whole (Some bytes) rest n input e old new reads ends a =
    let same = same_answer n bytes input rest reads in
    writes_ended e (due (answer_to n bytes)) old new (ap (λ (b : Answer). ended b.ending) same ∙ ap ended (sym ends)) (subst (λ (b : Answer). Appends old new b.text) (sym same) a)

-- a front of it
pub front_of_answer : (left rest : Option (List ℕ)) (n : ℕ) (input : List ℕ) (old new : Option (List ℕ)) → ReadsInput left rest input → AppendsFront old new (answer_to n input).text
    → IfSome left (λ bytes. AppendsFront old new (answer_to n bytes).text)
front_of_answer None rest n input old new reads a = tt
front_of_answer (Some bytes) rest n input old new reads a =
    subst (λ (b : Answer). AppendsFront old new b.text) (sym (same_answer n bytes input rest reads)) a

pub status_asked : (e : Ending) → ended e ≢ status.Usage
status_asked ending.Ok same = cc
status_asked ending.Raised same = cc
status_asked ending.Refused same = cc
status_asked ending.Deadlock same = cc
status_asked ending.OutOfSteps same = cc
status_asked ending.Limit same = cc
status_asked ending.NotLegal same = cc

-- ## No run is NotLegal

came_unchecked : (came : Option Outcome) → ending_by came ≢ ending.NotLegal
came_unchecked None same = cc
came_unchecked (Some (outcome.Ok it)) same = cc
came_unchecked (Some (outcome.Err raised)) same = cc

ends_unchecked : (halted : Bool) (first : Option Moved) (came : Option Outcome)
    → elim halted as (λ _. Ending) [ true ↦ ending.Limit | false ↦ elim first [ Some moved ↦ ending.OutOfSteps | None ↦ ending_by came ] ] ≢ ending.NotLegal
ends_unchecked true first came same = cc
ends_unchecked false (Some moved) came same = cc
ends_unchecked false None came same = came_unchecked came same

ran_unchecked : (n : ℕ) (read : Result Script Refusal) → (ran_if n read).ending ≢ ending.NotLegal
ran_unchecked n (Ok script) same =
    let last : Mock = (run script n).last in
    ends_unchecked last.local.halted (move script last) (body_end last.local) (sym (ran_ending script n) ∙ same)
ran_unchecked n (Err refusal) same = cc

ended_unchecked : (e : Ending) → e ≢ ending.NotLegal → ended e ≢ status.NotLegal
ended_unchecked ending.Ok differs same = cc
ended_unchecked ending.Raised differs same = cc
ended_unchecked ending.Refused differs same = cc
ended_unchecked ending.Deadlock differs same = cc
ended_unchecked ending.OutOfSteps differs same = cc
ended_unchecked ending.Limit differs same = cc
ended_unchecked ending.NotLegal differs same = differs refl

pub status_unchecked : (n : ℕ) (bytes : List ℕ) (e : Ending) → e ≡ (answer_to n bytes).ending → ended e ≢ status.NotLegal
status_unchecked n bytes e is =
    ended_unchecked e (λ same. ran_unchecked n (mocked_script built_today bytes) (sym (ap (λ (a : Answer). a.ending) (answer_is n bytes)) ∙ (sym is ∙ same)))
