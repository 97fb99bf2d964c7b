use Rattle.law_fiber.proofs.Texts.ReadScripts.{read_scripts_have_texts}
use Rattle.law_fiber.proofs.text_laws.read_scripts_have_texts.Goals as goal

pub returns : goal.returns
returns c = read_scripts_have_texts
