use Rattle.law_run.proofs.Moves.{moves_where_something_is_left, short_runs_are_over}
use Rattle.law_run.proofs.moves_where_something_is_left.Goals as goal

pub returns-clause-exactly : goal.returns-clause-exactly
returns-clause-exactly c = moves_where_something_is_left

pub returns-clause-stops : goal.returns-clause-stops
returns-clause-stops c = short_runs_are_over
