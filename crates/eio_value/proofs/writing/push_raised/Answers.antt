use Rattle.std.proofs.Common.{ap}
use Rattle.std.proofs.lemmas.Result.{on_ok_weaker}
use Rattle.eio_value.specs.Exceptions.{raised_text}
use Rattle.eio_value.proofs.Fronts.{both_appended}
use Rattle.eio_value.proofs.writing.push_raised.Goals as goal

pub returns-in_ok-push_bytes-in-Cancelled-clause-ok : goal.returns-in_ok-push_bytes-in-Cancelled-clause-ok
returns-in_ok-push_bytes-in-Cancelled-clause-ok c =
    on_ok_weaker c.push_plain-in-Cancelled.result
    (both_appended _ _ _ _ _ _ c.in_ok-push_bytes-in-Cancelled.ensures.ok (ap (raised_text c.args.texts.now) c.in-Cancelled.is))
    c.push_plain-in-Cancelled.ensures.ok
