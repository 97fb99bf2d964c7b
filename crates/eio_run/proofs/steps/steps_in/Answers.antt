use Rattle.std.proofs.Common.{sym, lit<}
use Rattle.spec_script.specs.Limits.{most_steps}
use Rattle.eio_run.proofs.Numbers.{first_false, first_true, large_number, other_number, refused_number, small_number, some_number}
use Rattle.eio_run.proofs.steps.steps_in.Goals as goal

pub returns-then-lacks_first_digit-clause-value : goal.returns-then-lacks_first_digit-clause-value
returns-then-lacks_first_digit-clause-value c =
    sym (other_number most_steps c.args.text.now (first_false _ _ _ c.as_bytes.ensures.value c.lacks_first_digit.ensures c.if-lacks_first_digit.true))

pub returns-in-Err-clause-value : goal.returns-in-Err-clause-value
returns-in-Err-clause-value c =
    sym (refused_number most_steps c.args.text.now _ _ (lit< tt) (first_true _ _ _ c.as_bytes.ensures.value c.lacks_first_digit.ensures c.if-lacks_first_digit.false) c.parse.ensures.value.0 c.in-Err.is)

pub returns-then-steps-le-MOST_STEPS-clause-value : goal.returns-then-steps-le-MOST_STEPS-clause-value
returns-then-steps-le-MOST_STEPS-clause-value c =
    sym (small_number most_steps c.args.text.now _ _ (first_true _ _ _ c.as_bytes.ensures.value c.lacks_first_digit.ensures c.if-lacks_first_digit.false) c.parse.ensures.value.0 c.in-Ok.is c.if-steps-le-MOST_STEPS.true)

pub returns-then-steps-le-MOST_STEPS-clause-within : goal.returns-then-steps-le-MOST_STEPS-clause-within
returns-then-steps-le-MOST_STEPS-clause-within c =
    (some_number c.args.text.now _ _ (first_true _ _ _ c.as_bytes.ensures.value c.lacks_first_digit.ensures c.if-lacks_first_digit.false) c.parse.ensures.value.0 c.in-Ok.is, c.if-steps-le-MOST_STEPS.true)

pub returns-else-steps-le-MOST_STEPS-clause-value : goal.returns-else-steps-le-MOST_STEPS-clause-value
returns-else-steps-le-MOST_STEPS-clause-value c =
    sym (large_number most_steps c.args.text.now _ _ (first_true _ _ _ c.as_bytes.ensures.value c.lacks_first_digit.ensures c.if-lacks_first_digit.false) c.parse.ensures.value.0 c.in-Ok.is c.if-steps-le-MOST_STEPS.false)
