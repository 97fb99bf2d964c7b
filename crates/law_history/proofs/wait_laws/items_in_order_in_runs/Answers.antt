use Rattle.law_history.proofs.Waits.Items.{objects_are_played, calls_are_played, items_in_order_in_runs}
use Rattle.law_history.proofs.wait_laws.items_in_order_in_runs.Goals as goal

pub returns-clause-objects : goal.returns-clause-objects
returns-clause-objects c = objects_are_played

pub returns-clause-calls : goal.returns-clause-calls
returns-clause-calls c = calls_are_played

pub returns-clause-items : goal.returns-clause-items
returns-clause-items c = items_in_order_in_runs
