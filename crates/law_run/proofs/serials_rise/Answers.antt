use Rattle.law_run.proofs.Serials.{raises_are_counted, serials_rise_by_raises, serials_rise, raises_are_numbered, lines_tell_numbered, numbers_are_not_reused, raises_are_apart}
use Rattle.law_run.proofs.serials_rise.Goals as goal

pub returns-clause-counted : goal.returns-clause-counted
returns-clause-counted c = raises_are_counted

pub returns-clause-exactly : goal.returns-clause-exactly
returns-clause-exactly c = serials_rise_by_raises

pub returns-clause-rise : goal.returns-clause-rise
returns-clause-rise c = serials_rise

pub returns-clause-numbered : goal.returns-clause-numbered
returns-clause-numbered c = raises_are_numbered

pub returns-clause-apart : goal.returns-clause-apart
returns-clause-apart c = raises_are_apart

pub returns-clause-told : goal.returns-clause-told
returns-clause-told c = lines_tell_numbered

pub returns-clause-once : goal.returns-clause-once
returns-clause-once c = numbers_are_not_reused
