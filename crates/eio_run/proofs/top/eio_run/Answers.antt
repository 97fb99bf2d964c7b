use Rattle.std.proofs.Common.{Some, None, ap, ◌∙◌}
use Rattle.trace_lines.specs.declared.status.Status.TheVariants as status
use Rattle.spec_script.specs.declared.Command.TheVariants as command
use Rattle.mock_backend.specs.Causes.{EndsRaised, IsStuck}
use Rattle.eio_run.proofs.Due.{check_comes, check_writes, mock_comes, mock_has_cause, mock_writes, no_deadlock, no_raise, other_has_none, print_comes, print_writes}
use Rattle.eio_run.proofs.top.eio_run.Goals as goal

pub returns-in-Some-Mock-clause-text : goal.returns-in-Some-Mock-clause-text
returns-in-Some-Mock-clause-text g c = mock_writes _ _ _ c.in-Some-Mock.steps _ _ _ _ c.command_of.ensures.means (c.in-Some-Mock.is ∙ ap Some c.in-Some-Mock.field-0-is) c.mock_run.ensures.text

pub returns-in-Some-Check-clause-text : goal.returns-in-Some-Check-clause-text
returns-in-Some-Check-clause-text g c = check_writes _ _ _ _ _ _ _ c.command_of.ensures.means (c.in-Some-Check.is ∙ ap Some c.in-Some-Check.field-0-is) c.inspect_run.ensures.text

pub returns-in-Some-Print-clause-text : goal.returns-in-Some-Print-clause-text
returns-in-Some-Print-clause-text g c = print_writes _ _ _ _ _ _ _ c.command_of.ensures.means (c.in-Some-Print.is ∙ ap Some c.in-Some-Print.field-0-is) c.inspect_run-in-Some-Print.ensures.text

pub returns-in-Some-Mock-clause-over : goal.returns-in-Some-Mock-clause-over
returns-in-Some-Mock-clause-over g c = mock_comes _ _ _ c.in-Some-Mock.steps _ c.command_of.ensures.means (c.in-Some-Mock.is ∙ ap Some c.in-Some-Mock.field-0-is) c.mock_run.ensures.unchecked

pub returns-in-Some-Check-clause-over : goal.returns-in-Some-Check-clause-over
returns-in-Some-Check-clause-over g c = check_comes _ _ _ _ c.command_of.ensures.means (c.in-Some-Check.is ∙ ap Some c.in-Some-Check.field-0-is) c.inspect_run.ensures.over

pub returns-in-Some-Print-clause-over : goal.returns-in-Some-Print-clause-over
returns-in-Some-Print-clause-over g c = print_comes _ _ _ _ c.command_of.ensures.means (c.in-Some-Print.is ∙ ap Some c.in-Some-Print.field-0-is) c.inspect_run-in-Some-Print.ensures.over

pub returns-in-None-clause-raised : goal.returns-in-None-clause-raised
returns-in-None-clause-raised g c = other_has_none EndsRaised _ _ _ c.command_of.ensures.means status.Raised status.Usage _ None c.in-None.is (λ bytes never. never) (no_raise status.Usage tt)

pub returns-in-Some-Mock-clause-raised : goal.returns-in-Some-Mock-clause-raised
returns-in-Some-Mock-clause-raised g c =
    mock_has_cause EndsRaised _ _ _ c.command_of.ensures.means status.Raised c.mock_run.result c.in-Some-Mock.steps _ (c.in-Some-Mock.is ∙ ap Some c.in-Some-Mock.field-0-is) c.mock_run.ensures.raised

pub returns-in-Some-Check-clause-raised : goal.returns-in-Some-Check-clause-raised
returns-in-Some-Check-clause-raised g c =
    other_has_none EndsRaised _ _ _ c.command_of.ensures.means status.Raised c.inspect_run.result _ (Some command.Check) (c.in-Some-Check.is ∙ ap Some c.in-Some-Check.field-0-is) (λ bytes never. never)
    (no_raise _ c.inspect_run.ensures.over)

pub returns-in-Some-Print-clause-raised : goal.returns-in-Some-Print-clause-raised
returns-in-Some-Print-clause-raised g c =
    other_has_none EndsRaised _ _ _ c.command_of.ensures.means status.Raised c.inspect_run-in-Some-Print.result _ (Some command.Print) (c.in-Some-Print.is ∙ ap Some c.in-Some-Print.field-0-is) (λ bytes never. never)
    (no_raise _ c.inspect_run-in-Some-Print.ensures.over)

pub returns-in-None-clause-deadlock : goal.returns-in-None-clause-deadlock
returns-in-None-clause-deadlock g c = other_has_none IsStuck _ _ _ c.command_of.ensures.means status.Deadlock status.Usage _ None c.in-None.is (λ bytes never. never) (no_deadlock status.Usage tt)

pub returns-in-Some-Mock-clause-deadlock : goal.returns-in-Some-Mock-clause-deadlock
returns-in-Some-Mock-clause-deadlock g c =
    mock_has_cause IsStuck _ _ _ c.command_of.ensures.means status.Deadlock c.mock_run.result c.in-Some-Mock.steps _ (c.in-Some-Mock.is ∙ ap Some c.in-Some-Mock.field-0-is) c.mock_run.ensures.deadlock

pub returns-in-Some-Check-clause-deadlock : goal.returns-in-Some-Check-clause-deadlock
returns-in-Some-Check-clause-deadlock g c =
    other_has_none IsStuck _ _ _ c.command_of.ensures.means status.Deadlock c.inspect_run.result _ (Some command.Check) (c.in-Some-Check.is ∙ ap Some c.in-Some-Check.field-0-is) (λ bytes never. never)
    (no_deadlock _ c.inspect_run.ensures.over)

pub returns-in-Some-Print-clause-deadlock : goal.returns-in-Some-Print-clause-deadlock
returns-in-Some-Print-clause-deadlock g c =
    other_has_none IsStuck _ _ _ c.command_of.ensures.means status.Deadlock c.inspect_run-in-Some-Print.result _ (Some command.Print) (c.in-Some-Print.is ∙ ap Some c.in-Some-Print.field-0-is) (λ bytes never. never)
    (no_deadlock _ c.inspect_run-in-Some-Print.ensures.over)
