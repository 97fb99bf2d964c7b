use Rattle.law_domain.proofs.Scopes.Handling.{handlers_end, handlers_end_in_histories, handlers_end_in_runs}
use Rattle.law_domain.proofs.scope_laws.handlers_end.Goals as goal

pub returns-clause-in_domains : goal.returns-clause-in_domains
returns-clause-in_domains c = handlers_end

pub returns-clause-in_runs : goal.returns-clause-in_runs
returns-clause-in_runs c = handlers_end_in_runs

pub returns-clause-in_histories : goal.returns-clause-in_histories
returns-clause-in_histories c = handlers_end_in_histories
