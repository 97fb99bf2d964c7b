use Rattle.law_domain.proofs.Scopes.Histories.{releases_once_in_histories}
use Rattle.law_domain.proofs.Scopes.Released.{releases_once, releases_once_in_runs}
use Rattle.law_domain.proofs.scope_laws.releases_once.Goals as goal

pub returns-clause-in_domains : goal.returns-clause-in_domains
returns-clause-in_domains c = releases_once

pub returns-clause-in_runs : goal.returns-clause-in_runs
returns-clause-in_runs c = releases_once_in_runs

pub returns-clause-in_histories : goal.returns-clause-in_histories
returns-clause-in_histories c = releases_once_in_histories
