-- Laws of scripts of which no form is refused as unbuilt: they have the forms of what is built alone. Each is said of the trees that stand for such
-- scripts, and of the inputs that `mock` runs.
use Rattle.std.specs.Prelude.{◌≡◌, ℕ, List, [], ◌∷◌, None, Ok}
use Rattle.law_domain.specs.Sound.BuiltForms.{HasBuiltForms}
use Rattle.spec_script.specs.declared.Feature.TheVariants.{FirstForms, Reading, Steps, Exceptions, Switches, Groups}
use Rattle.spec_script.specs.Features.{Built}
use Rattle.spec_script.specs.Inputs.{mocked_script}
use Rattle.spec_script.specs.RefusedForms.{unbuilt}
use Rattle.spec_script.specs.Scripts.{Script, script_of}
use Rattle.spec_script.specs.Trees.{Tree}
use Rattle.law_domain.specs.Forms.FeatureForms.{HasFormsOf}

-- so is each script in which nothing is unbuilt, where this is built
abbrev pub WhereBuilt : Built → (Script → Type 0) → Type 0
WhereBuilt built Holds = (tree : Tree) (script : Script) → script_of tree ≡ Ok script → unbuilt built script ≡ None → Holds script

-- so is each script that `mock` runs, where this is built
abbrev pub WhereMocked : Built → (Script → Type 0) → Type 0
WhereMocked built Holds = (bytes : List ℕ) (script : Script) → mocked_script built bytes ≡ Ok script → Holds script

-- ## Any list

abbrev pub BuiltFeaturesAlone : Type 0
BuiltFeaturesAlone = (built : Built) → WhereBuilt built (HasFormsOf built)

abbrev pub MockedFeaturesAlone : Type 0
MockedFeaturesAlone = (built : Built) → WhereMocked built (HasFormsOf built)

-- ## What is built today

-- up to `both`, `first`, `all` and `any`
abbrev pub with_groups : Built
with_groups = FirstForms ∷ Reading ∷ Steps ∷ Exceptions ∷ Switches ∷ Groups ∷ []

abbrev pub DeclaresNothing : Script → Type 0
DeclaresNothing script = script.declarations ≡ []

abbrev pub HasBuiltFormsAlone : Script → Type 0
HasBuiltFormsAlone script = HasBuiltForms script × DeclaresNothing script

abbrev pub GroupFormsAlone : Type 0
GroupFormsAlone = WhereBuilt with_groups HasBuiltFormsAlone

abbrev pub MockedGroupFormsAlone : Type 0
MockedGroupFormsAlone = WhereMocked with_groups HasBuiltFormsAlone
