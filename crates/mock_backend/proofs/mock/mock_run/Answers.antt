use Rattle.std.proofs.Common.{◌∙◌, ap, subst}
use Rattle.std.specs.Io.KnownBytes.{Appends}
use Rattle.trace_out.specs.Causes.{AppendsFront}
use Rattle.trace_out.proofs.Consumed.{has_read_through}
use Rattle.mock_backend.specs.Due.{answer_to}
use Rattle.mock_backend.proofs.Answered.{front_of_answer, reads_ended, status_asked, status_unchecked, writes_whole}
use Rattle.mock_backend.proofs.EndCauses.{raised_comes, stuck_comes}
use Rattle.mock_backend.proofs.mock.mock_run.Goals as goal

pub returns-in-Ok-respond-clause-read : goal.returns-in-Ok-respond-clause-read
returns-in-Ok-respond-clause-read g c = rw c.to_status.ensures (reads_ended _ _ _ (has_read_through _ _ _ c.in-Ok.ensures.input))

pub returns-in-Ok-respond-clause-text : goal.returns-in-Ok-respond-clause-text
returns-in-Ok-respond-clause-text g c =
    let same = c.deref.ensures.value in
    rw c.to_status.ensures
    (writes_whole _ _ _ _ _ _ _ c.in-Ok.ensures.input
    (c.in-Ok-respond.ensures.ending ∙ ap (λ bytes. (answer_to c.args.steps bytes).ending) same)
    (subst (λ bytes. Appends (g.K.Sink.held c.args.sink.now) (g.K.Sink.held c.respond.new.sink) (answer_to c.args.steps bytes).text) same c.in-Ok-respond.ensures.text))

pub returns-in-Ok-respond-clause-asked : goal.returns-in-Ok-respond-clause-asked
returns-in-Ok-respond-clause-asked g c = rw c.to_status.ensures (status_asked _)

pub returns-in-Ok-respond-clause-unchecked : goal.returns-in-Ok-respond-clause-unchecked
returns-in-Ok-respond-clause-unchecked g c = rw c.to_status.ensures (status_unchecked c.args.steps _ _ c.in-Ok-respond.ensures.ending)

pub returns-in-Ok-respond-clause-raised : goal.returns-in-Ok-respond-clause-raised
returns-in-Ok-respond-clause-raised g c =
    rw c.to_status.ensures
    (raised_comes _ _ _ _ _ c.in-Ok.ensures.input (c.in-Ok-respond.ensures.ending ∙ ap (λ bytes. (answer_to c.args.steps bytes).ending) c.deref.ensures.value))

pub returns-in-Ok-respond-clause-deadlock : goal.returns-in-Ok-respond-clause-deadlock
returns-in-Ok-respond-clause-deadlock g c =
    rw c.to_status.ensures
    (stuck_comes _ _ _ _ _ c.in-Ok.ensures.input (c.in-Ok-respond.ensures.ending ∙ ap (λ bytes. (answer_to c.args.steps bytes).ending) c.deref.ensures.value))

pub returns-in-Err-WriteFault-clause-read : goal.returns-in-Err-WriteFault-clause-read
returns-in-Err-WriteFault-clause-read g c = has_read_through _ _ _ c.in-Ok.ensures.input

pub returns-in-Err-WriteFault-clause-text : goal.returns-in-Err-WriteFault-clause-text
returns-in-Err-WriteFault-clause-text g c =
    front_of_answer _ _ _ _ _ _ c.in-Ok.ensures.input
    (subst (λ bytes. AppendsFront (g.K.Sink.held c.args.sink.now) (g.K.Sink.held c.respond.new.sink) (answer_to c.args.steps bytes).text) c.deref.ensures.value c.in-Err-WriteFault.ensures.text)

pub returns-clause-text : goal.returns-clause-text
returns-clause-text g c =
    front_of_answer _ _ _ _ _ _ c.in-Ok.ensures.input
    (subst (λ bytes. AppendsFront (g.K.Sink.held c.args.sink.now) (g.K.Sink.held c.respond.new.sink) (answer_to c.args.steps bytes).text) c.deref.ensures.value c.in-Err-NoMemory-respond.ensures.text)
