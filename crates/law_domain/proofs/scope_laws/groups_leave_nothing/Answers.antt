use Rattle.law_domain.proofs.Scopes.Joined.{groups_leave_nothing, groups_leave_nothing_in_histories, groups_leave_nothing_in_runs}
use Rattle.law_domain.proofs.scope_laws.groups_leave_nothing.Goals as goal

pub returns-clause-in_domains : goal.returns-clause-in_domains
returns-clause-in_domains c = groups_leave_nothing

pub returns-clause-in_runs : goal.returns-clause-in_runs
returns-clause-in_runs c = groups_leave_nothing_in_runs

pub returns-clause-in_histories : goal.returns-clause-in_histories
returns-clause-in_histories c = groups_leave_nothing_in_histories
