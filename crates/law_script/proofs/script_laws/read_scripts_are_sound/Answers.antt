use Rattle.law_script.proofs.Scripts.Commands.{mocked_is_sound}
use Rattle.law_script.proofs.Scripts.Scripts.{input_is_sound, script_is_sound}
use Rattle.law_script.proofs.script_laws.read_scripts_are_sound.Goals as goal

pub returns-clause-trees : goal.returns-clause-trees
returns-clause-trees c = λ tree script numbers e. script_is_sound tree numbers script e

pub returns-clause-inputs : goal.returns-clause-inputs
returns-clause-inputs c = input_is_sound

pub returns-clause-mocked : goal.returns-clause-mocked
returns-clause-mocked c = mocked_is_sound
