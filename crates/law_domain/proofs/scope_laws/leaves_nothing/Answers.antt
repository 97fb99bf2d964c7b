use Rattle.law_domain.proofs.Scopes.Histories.{leaves_nothing_in_histories}
use Rattle.law_domain.proofs.Scopes.Mocked.{leaves_nothing_in_runs}
use Rattle.law_domain.proofs.Scopes.Runs.{leaves_nothing}
use Rattle.law_domain.proofs.scope_laws.leaves_nothing.Goals as goal

pub returns-clause-in_domains : goal.returns-clause-in_domains
returns-clause-in_domains c = leaves_nothing

pub returns-clause-in_runs : goal.returns-clause-in_runs
returns-clause-in_runs c = leaves_nothing_in_runs

pub returns-clause-in_histories : goal.returns-clause-in_histories
returns-clause-in_histories c = leaves_nothing_in_histories
