-- What is due, by the command that the words mean; and what was written and can come, from what a command's own crate says.
use Rattle.std.proofs.Common.{◌≡◌, ◌≢◌, ℕ, List, Some, None, IfSome, refl, ap, sym, subst, ◌∙◌}
use Rattle.std.specs.Prelude.{Option}
use Rattle.trace_out.specs.Outcome.{CanCome, Due, WritesFor}
use Rattle.trace_lines.specs.declared.status.Status.{Status}
use Rattle.trace_lines.specs.declared.status.Status.TheVariants as status
use Rattle.spec_script.specs.declared.Command.{Command}
use Rattle.spec_script.specs.declared.Command.TheVariants as command
use Rattle.spec_script.specs.Features.{Built}
use Rattle.spec_script.specs.Inputs.{answered, checked_for}
use Rattle.spec_script.specs.Words.{meaning}
use Rattle.script_input.specs.declared.inspection.Inspection.TheVariants as inspection
use Rattle.script_input.specs.Inspections.{inspected}
use Rattle.script_input.specs.Inspections as inspections
use Rattle.spec_machine.specs.Answers.{mocked}
use Rattle.spec_machine.specs.Domain.{DomainState}
use Rattle.mock_backend.specs.Causes.{ComesExactlyOf, RunsTo}
use Rattle.mock_backend.specs.Due.{due}
use Rattle.eio_run.specs.Answers.{CanComeOf, MockRunsTo, due_by, due_to, Writes}

due_for : Built → Option Command → List ℕ → Option Due
due_for built meant bytes = due_by built (elim meant [ None ↦ None | Some command ↦ checked_for command bytes ]) meant bytes

due_is : (built : Built) (words : List (List ℕ)) (bytes : List ℕ) → due_to built words bytes ≡ due_for built (meaning built words) bytes
unfolding due_to answered due_for
due_is built words bytes = refl

-- a command writes what is due to it
writes_by : (built : Built) (words : List (List ℕ)) (owed : List ℕ → Due) (result : Status) (left old new : Option (List ℕ)) → ((bytes : List ℕ) → due_to built words bytes ≡ Some (owed bytes)) → IfSome left (λ bytes. WritesFor result (owed bytes) old new) → IfSome left (λ bytes. Writes result (due_to built words bytes) old new)
writes_by built words owed result None old new is writes = tt
writes_by built words owed result (Some bytes) old new is writes = subst (λ (o : Option Due). Writes result o old new) (sym (is bytes)) writes

pub mock_writes : (built : Built) (words : List (List ℕ)) (meant : Option Command) (steps : ℕ) (result : Status) (left old new : Option (List ℕ)) → meant ≡ meaning built words → meant ≡ Some (command.Mock steps) → IfSome left (λ bytes. WritesFor result (due (mocked built steps bytes)) old new) → IfSome left (λ bytes. Writes result (due_to built words bytes) old new)
unfolding due_for
mock_writes built words meant steps result left old new means is writes =
    writes_by built words (λ bytes. due (mocked built steps bytes)) result left old new
    (λ bytes. due_is built words bytes ∙ ap (λ o. due_for built o bytes) (sym means ∙ is)) writes

pub check_writes : (built : Built) (words : List (List ℕ)) (meant : Option Command) (result : Status) (left old new : Option (List ℕ)) → meant ≡ meaning built words → meant ≡ Some command.Check → IfSome left (λ bytes. WritesFor result (inspections.due (inspected inspection.Check bytes)) old new) → IfSome left (λ bytes. Writes result (due_to built words bytes) old new)
unfolding due_for
check_writes built words meant result left old new means is writes =
    writes_by built words (λ bytes. inspections.due (inspected inspection.Check bytes)) result left old new
    (λ bytes. due_is built words bytes ∙ ap (λ o. due_for built o bytes) (sym means ∙ is)) writes

pub print_writes : (built : Built) (words : List (List ℕ)) (meant : Option Command) (result : Status) (left old new : Option (List ℕ)) → meant ≡ meaning built words → meant ≡ Some command.Print → IfSome left (λ bytes. WritesFor result (inspections.due (inspected inspection.Print bytes)) old new) → IfSome left (λ bytes. Writes result (due_to built words bytes) old new)
unfolding due_for
print_writes built words meant result left old new means is writes =
    writes_by built words (λ bytes. inspections.due (inspected inspection.Print bytes)) result left old new
    (λ bytes. due_is built words bytes ∙ ap (λ o. due_for built o bytes) (sym means ∙ is)) writes

-- ## What can come

pub mock_comes : (built : Built) (words : List (List ℕ)) (meant : Option Command) (steps : ℕ) (result : Status) → meant ≡ meaning built words → meant ≡ Some (command.Mock steps) → result ≢ status.NotLegal → CanComeOf (meaning built words) result
mock_comes built words meant steps result means is unchecked = subst (λ (o : Option Command). CanComeOf o result) (sym (sym means ∙ is)) unchecked

pub check_comes : (built : Built) (words : List (List ℕ)) (meant : Option Command) (result : Status) → meant ≡ meaning built words → meant ≡ Some command.Check → CanCome result → CanComeOf (meaning built words) result
check_comes built words meant result means is comes = subst (λ (o : Option Command). CanComeOf o result) (sym (sym means ∙ is)) comes

pub print_comes : (built : Built) (words : List (List ℕ)) (meant : Option Command) (result : Status) → meant ≡ meaning built words → meant ≡ Some command.Print → CanCome result → CanComeOf (meaning built words) result
print_comes built words meant result means is comes = subst (λ (o : Option Command). CanComeOf o result) (sym (sym means ∙ is)) comes

-- ## Why it comes

module _ (State : DomainState → Type 0) (built : Built) (words : List (List ℕ)) (meant : Option Command) (means : meant ≡ meaning built words) (expected result : Status) where
  pub mock_has_cause : (steps : ℕ) (left : Option (List ℕ)) → meant ≡ Some (command.Mock steps) → IfSome left (λ bytes. ComesExactlyOf (RunsTo State steps bytes) expected result)
      → IfSome left (λ bytes. ComesExactlyOf (MockRunsTo State (meaning built words) bytes) expected result)
  mock_has_cause steps left is causes =
      subst (λ (o : Option Command). IfSome left (λ bytes. ComesExactlyOf (MockRunsTo State o bytes) expected result)) (sym (sym means ∙ is)) causes

  -- no other command runs anything
  pub other_has_none : (left : Option (List ℕ)) (other : Option Command) → meant ≡ other → ((bytes : List ℕ) → MockRunsTo State other bytes → ⊥) → (result ≡ expected → ⊥)
      → IfSome left (λ bytes. ComesExactlyOf (MockRunsTo State (meaning built words) bytes) expected result)
  other_has_none left other is runs differs =
      subst (λ (o : Option Command). IfSome left (λ bytes. ComesExactlyOf (MockRunsTo State o bytes) expected result)) (sym (sym means ∙ is)) (by left)
    where
      by : (left : Option (List ℕ)) → IfSome left (λ bytes. ComesExactlyOf (MockRunsTo State other bytes) expected result)
      by None = tt
      by (Some bytes) = record { only = λ same. absurd (differs same); always = λ run. absurd (runs bytes run) }

pub no_raise : (result : Status) → CanCome result → result ≡ status.Raised → ⊥
no_raise result comes same = subst CanCome same comes

pub no_deadlock : (result : Status) → CanCome result → result ≡ status.Deadlock → ⊥
no_deadlock result comes same = subst CanCome same comes
