use Rattle.std.proofs.Common.{subst}
use Rattle.law_script.specs.Scripts.Soundness.{IsSound}
use Rattle.law_script.proofs.Scripts.Scripts.{script_is_sound}
use Rattle.script_code.specs.Numbered.{HasNumbers}
use Rattle.script_code.specs.ScriptInside.{view_of}
use Rattle.script_code.proofs.Fitting.{tree_fits}
use Rattle.script_code.proofs.ScriptNumbers.{script_has_numbers}
use Rattle.script_code.proofs.script.Script.is_sound.Goals as goal

pub returns-clause-sound : goal.returns-clause-sound
returns-clause-sound c =
    subst IsSound c.self.view_is
    (script_is_sound c.self.inside.tree (tree_fits c.self.inside.tree c.numbers_fit.ensures) (view_of c.self.inside) c.self.invariant.read)

pub returns-clause-numbers : goal.returns-clause-numbers
returns-clause-numbers c = subst HasNumbers c.self.view_is (script_has_numbers c.self.inside.tree (view_of c.self.inside) c.self.invariant.read)
