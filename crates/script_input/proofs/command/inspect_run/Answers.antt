use Rattle.std.proofs.Common.{ap, subst, ◌∙◌}
use Rattle.std.specs.Io.KnownBytes.{Appends}
use Rattle.trace_out.specs.Causes.{AppendsFront}
use Rattle.trace_out.proofs.Consumed.{has_read_through}
use Rattle.script_input.specs.Inspections.{inspected, due}
use Rattle.script_input.proofs.Running.{front_due, reads_due, writes_due}
use Rattle.script_input.proofs.command.inspect_run.Goals as goal

pub returns-in-Ok-write_all-clause-read : goal.returns-in-Ok-write_all-clause-read
returns-in-Ok-write_all-clause-read g c =
    reads_due c.args.inspection c.in-Ok.input.items c.in-Ok-answer_to.answer _ _ c.in-Ok.ensures.input
    (c.in-Ok-answer_to.ensures ∙ ap (λ bytes. due (inspected c.args.inspection bytes)) c.deref.ensures.value)

pub returns-in-Ok-write_all-clause-text : goal.returns-in-Ok-write_all-clause-text
returns-in-Ok-write_all-clause-text g c =
    writes_due _ _ c.args.inspection c.in-Ok.input.items c.in-Ok-answer_to.answer _ _ c.in-Ok.ensures.input
    (c.in-Ok-answer_to.ensures ∙ ap (λ bytes. due (inspected c.args.inspection bytes)) c.deref.ensures.value)
    (subst (Appends _ _) c.deref-2.ensures.value c.in-Ok-write_all.ensures.ok)

pub returns-clause-read : goal.returns-clause-read
returns-clause-read g c = has_read_through _ _ _ c.in-Ok.ensures.input

pub returns-clause-text : goal.returns-clause-text
returns-clause-text g c =
    front_due _ _ c.args.inspection c.in-Ok.input.items c.in-Ok-answer_to.answer _ _ c.in-Ok.ensures.input
    (c.in-Ok-answer_to.ensures ∙ ap (λ bytes. due (inspected c.args.inspection bytes)) c.deref.ensures.value)
    (subst (AppendsFront _ _) c.deref-2.ensures.value c.in-Err-WriteFault.ensures.err)
