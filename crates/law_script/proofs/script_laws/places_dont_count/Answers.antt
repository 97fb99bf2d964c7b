use Rattle.law_script.proofs.Scripts.BareScripts.{places_dont_count}
use Rattle.law_script.proofs.script_laws.places_dont_count.Goals as goal

pub returns : goal.returns
returns c = places_dont_count
