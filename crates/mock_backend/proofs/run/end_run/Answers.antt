use Rattle.std.proofs.Common.{ℕ, List, ◌++◌, subst, ◌∙◌}
use Rattle.std.specs.Io.KnownBytes.{Appends}
use Rattle.trace_out.specs.Causes.{AppendsFront}
use Rattle.trace_out.proofs.Passed.{all_flushed, front_flushed}
use Rattle.mock_backend.proofs.BodyTexts.{line_is, raised_has}
use Rattle.mock_backend.proofs.Running.{writes_failed}
use Rattle.mock_backend.proofs.run.end_run.Goals as goal

pub last_line-requires : goal.last_line-requires
last_line-requires g c = record { texts = raised_has c.args.texts.now c.args.domain.now c.requires.come c.ending_of-ending.result c.body_end.result c.ending_of-ending.ensures c.body_end.ensures }

pub returns-in_err-put-clause-text : goal.returns-in_err-put-clause-text
returns-in_err-put-clause-text g c = λ script m stands.
    let line = line_is c.args.texts.now c.args.domain.now c.requires.come c.ending_of-ending.result c.body_end.result c.last_line.new.line.items c.ending_of-ending.ensures c.body_end.ensures c.in_ok-last_line.ensures script m stands in
    writes_failed _ _ _ _ c.from_residual-in_err-put.ensures.0
    (subst (λ (bs : List ℕ). AppendsFront (g.K.Sink.held c.args.sink.now) (g.K.Sink.held c.put.new.sink) (c.args.out.now ++ bs)) (c.deref.ensures.value ∙ line) c.in_err-put.ensures.err)

pub returns-in_err-flush-clause-text : goal.returns-in_err-flush-clause-text
returns-in_err-flush-clause-text g c = λ script m stands.
    let line = line_is c.args.texts.now c.args.domain.now c.requires.come c.ending_of-ending.result c.body_end.result c.last_line.new.line.items c.ending_of-ending.ensures c.body_end.ensures c.in_ok-last_line.ensures script m stands in
    writes_failed _ _ _ _ c.from_residual-in_err-flush.ensures.0
    (subst (λ (bs : List ℕ). AppendsFront (g.K.Sink.held c.args.sink.now) (g.K.Sink.held c.flush.new.sink) (c.args.out.now ++ bs)) (c.deref.ensures.value ∙ line)
    (front_flushed _ _ _ _ _ _ c.in_ok-put.ensures.ok c.in_err-flush.ensures.err))

pub returns-clause-ending : goal.returns-clause-ending
returns-clause-ending g c = λ script m stands. c.ending_of-ending.ensures script c.args.texts.now m stands

pub returns-clause-text : goal.returns-clause-text
returns-clause-text g c = λ script m stands.
    let line = line_is c.args.texts.now c.args.domain.now c.requires.come c.ending_of-ending.result c.body_end.result c.last_line.new.line.items c.ending_of-ending.ensures c.body_end.ensures c.in_ok-last_line.ensures script m stands in
    subst (λ (bs : List ℕ). Appends (g.K.Sink.held c.args.sink.now) (g.K.Sink.held c.flush.new.sink) (c.args.out.now ++ bs)) (c.deref.ensures.value ∙ line)
    (all_flushed _ _ _ _ _ _ c.in_ok-put.ensures.ok c.in_ok-flush.ensures.ok)
