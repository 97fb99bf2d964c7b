use Rattle.law_script.proofs.Scripts.Commands.{domains_are_shared}
use Rattle.law_script.proofs.Scripts.SharedScripts.{shared_scripts}
use Rattle.law_script.proofs.script_laws.shared_scripts_have_no_mocked_form.Goals as goal

pub returns-clause-trees : goal.returns-clause-trees
returns-clause-trees c = shared_scripts

pub returns-clause-domains : goal.returns-clause-domains
returns-clause-domains c = domains_are_shared
