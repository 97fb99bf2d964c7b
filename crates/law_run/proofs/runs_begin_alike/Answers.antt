use Rattle.law_run.proofs.Beginnings.{moves_begin_alike, states_begin_alike, traces_begin_alike}
use Rattle.law_run.proofs.runs_begin_alike.Goals as goal

pub returns-clause-moves : goal.returns-clause-moves
returns-clause-moves c = moves_begin_alike

pub returns-clause-states : goal.returns-clause-states
returns-clause-states c = states_begin_alike

pub returns-clause-traces : goal.returns-clause-traces
returns-clause-traces c = traces_begin_alike
