-- Which groups of forms and commands are built. Definitions take them as a list, so that rows can be worked with all of
-- them, and a program's theorem speaks of those that it has.
use Rattle.std.specs.Prelude.{ℕ, Bool, ◌==◌, List, [], ◌∷◌}
use Rattle.std.specs.List.{list_any}
use Rattle.spec_script.specs.declared.Feature.{Feature}
use Rattle.spec_script.specs.declared.Feature.TheVariants as feature

abbrev pub Built : Type 0
Built = List Feature

-- a number for each, by which they are told apart
abbrev pub feature_number : Feature → ℕ
feature_number feature.FirstForms = 0
feature_number feature.Reading = 1
feature_number feature.Steps = 2
feature_number feature.Exceptions = 3
feature_number feature.Switches = 4
feature_number feature.Groups = 5
feature_number feature.StreamsAndPromises = 6
feature_number feature.Resources = 7
feature_number feature.Flows = 8
feature_number feature.Paths = 9
feature_number feature.Domains = 10
feature_number feature.Executors = 11
feature_number feature.Histories = 12
feature_number feature.Lists = 13
feature_number feature.Folders = 14
feature_number feature.Versions = 15

-- whether a feature is among those that are built
abbrev pub is_built : Built → Feature → Bool
is_built built wanted = list_any (λ one. feature_number one == feature_number wanted) built

-- all of them
abbrev pub all_built : Built
all_built =
    feature.FirstForms
    ∷ feature.Reading
    ∷ feature.Steps
    ∷ feature.Exceptions
    ∷ feature.Switches
    ∷ feature.Groups
    ∷ feature.StreamsAndPromises
    ∷ feature.Resources
    ∷ feature.Flows
    ∷ feature.Paths
    ∷ feature.Domains
    ∷ feature.Executors
    ∷ feature.Histories
    ∷ feature.Lists
    ∷ feature.Folders
    ∷ feature.Versions
    ∷ []
