use Rattle.std.specs.String.{string_bytes}
use Rattle.std.proofs.Common.{map}
use Rattle.eio_run.proofs.Parsing.{app_is, fails, passes, text_is}
use Rattle.eio_run.proofs.steps.text_in.Goals as goal

pub returns-in-Ok-try_get_matches_from : goal.returns-in-Ok-try_get_matches_from
returns-in-Ok-try_get_matches_from c =
    let app = app_is _ _ _ c.behind_command.ensures c.steps_option.ensures.rule (c.in-Ok.ensures.shape c.steps_option.ensures.local) in
    (passes _ (map string_bytes c.args.rest.now) app c.in-Ok-try_get_matches_from.ensures.kinds, text_is _ (map string_bytes c.args.rest.now) _ _ app c.in-Ok-try_get_matches_from.ensures.matches c.get_str.ensures)

pub returns-in-Err : goal.returns-in-Err
returns-in-Err c =
    let app = app_is _ _ _ c.behind_command.ensures c.steps_option.ensures.rule (c.in-Ok.ensures.shape c.steps_option.ensures.local) in
    fails _ (map string_bytes c.args.rest.now) c.in-Err.error _ app c.in-Err.ensures.kinds c.kind.ensures
