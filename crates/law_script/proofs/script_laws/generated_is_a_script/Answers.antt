use Rattle.law_script.proofs.Scripts.Generated.{generated_is_read}
use Rattle.law_script.proofs.script_laws.generated_is_a_script.Goals as goal

pub returns : goal.returns
returns c = generated_is_read
