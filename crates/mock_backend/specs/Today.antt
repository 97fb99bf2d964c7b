-- What is built today. The program's theorem speaks of these; rows and comparisons take everything as built.
use Rattle.std.specs.Prelude.{[], ◌∷◌}
use Rattle.spec_script.specs.Features.{Built}
use Rattle.spec_script.specs.declared.Feature.TheVariants.{FirstForms, Reading, Steps, Exceptions, Switches, Groups}

abbrev pub built_today : Built
built_today = FirstForms ∷ Reading ∷ Steps ∷ Exceptions ∷ Switches ∷ Groups ∷ []
