use Rattle.std.proofs.Common.{subst}
use Rattle.script_code.specs.ScriptInside.{view_of}
use Rattle.script_code.specs.Texted.{HasDeclaredTexts}
use Rattle.script_code.proofs.TextsRead.{script_has_texts}
use Rattle.script_code.proofs.script.Script.names.Goals as goal

pub returns-clause-texts : goal.returns-clause-texts
returns-clause-texts c = subst HasDeclaredTexts c.self.view_is (script_has_texts c.self.inside.tree (view_of c.self.inside) c.self.invariant.read).declared
