-- From what was read and answered to what is due to the whole input.
use Rattle.std.proofs.Common.{◌≡◌, ℕ, List, Bool, true, false, Some, None, IfSome, refl, ap, sym, subst, ◌∙◌}
use Rattle.std.specs.Prelude.{Option}
use Rattle.std.specs.Io.KnownBytes.{Appends}
use Rattle.trace_out.specs.Causes.{AppendsFront}
use Rattle.trace_out.specs.Input.{ReadsInput}
use Rattle.trace_out.specs.Outcome.{Due, HasRead, ReadsFor, WritesFor}
use Rattle.trace_lines.specs.declared.status.Status.{Status}
use Rattle.trace_out.proofs.Consumed.{has_read_through}
use Rattle.script_input.specs.declared.inspection.Inspection.{Inspection}
use Rattle.script_input.specs.declared.inspection.Answer.{Answer}
use Rattle.script_input.specs.Inspections.{inspected, due, due_of, status_by}
use Rattle.script_input.proofs.Fronts.{same_answer}

read_by : (refused : Bool) (old new : Option (List ℕ)) → HasRead 262145 old new → ReadsFor (status_by refused) old new
read_by true old new h = h
read_by false old new h = h

-- at a status that is due all was read
pub reads_due : (it : Inspection) (input : List ℕ) (answer : Answer) (old new : Option (List ℕ)) → ReadsInput old new input → due_of answer ≡ due (inspected it input) → ReadsFor answer.status old new
reads_due it input answer old new reads is =
    subst (λ (s : Status). ReadsFor s old new) (sym (ap (λ (d : Due). d.status) is))
    (read_by (inspected it input).is_refused old new (has_read_through old new input reads))

written_by : (text : List ℕ) (refused : Bool) (old new : Option (List ℕ)) → Appends old new text → WritesFor (status_by refused) (record { text = text; status = status_by refused }) old new
written_by text true old new a = record { status = refl; text = a }
written_by text false old new a = record { status = refl; text = a }

-- what is due to the bytes that were read is due to the whole input
pub writes_due : (left rest : Option (List ℕ)) (it : Inspection) (input : List ℕ) (answer : Answer) (old new : Option (List ℕ)) → ReadsInput left rest input → due_of answer ≡ due (inspected it input) → Appends old new answer.text.items → IfSome left (λ bytes. WritesFor answer.status (due (inspected it bytes)) old new)
writes_due None rest it input answer old new reads is a = tt
writes_due (Some bytes) rest it input answer old new reads is a =
    let same : due_of answer ≡ due (inspected it bytes) = is ∙ sym (ap due (same_answer it bytes input rest reads)) in
    subst (λ (s : Status). WritesFor s (due (inspected it bytes)) old new) (sym (ap (λ (d : Due). d.status) same))
    (written_by (inspected it bytes).text (inspected it bytes).is_refused old new
    (subst (Appends old new) (ap (λ (d : Due). d.text) same) a))

-- a front of it
pub front_due : (left rest : Option (List ℕ)) (it : Inspection) (input : List ℕ) (answer : Answer) (old new : Option (List ℕ)) → ReadsInput left rest input → due_of answer ≡ due (inspected it input) → AppendsFront old new answer.text.items → IfSome left (λ bytes. AppendsFront old new (due (inspected it bytes)).text)
front_due None rest it input answer old new reads is a = tt
front_due (Some bytes) rest it input answer old new reads is a =
    let same : due_of answer ≡ due (inspected it bytes) = is ∙ sym (ap due (same_answer it bytes input rest reads)) in
    subst (AppendsFront old new) (ap (λ (d : Due). d.text) same) a
