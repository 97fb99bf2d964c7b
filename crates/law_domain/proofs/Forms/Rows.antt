-- Worked scripts: what today's list refuses, and what the judgements make of what it doesn't.
use Rattle.std.proofs.Common.{◌≡◌, ℕ, List, [], ◌∷◌, Option, Some, None, Result, Ok, Err, refl}
use Rattle.std.specs.List.{AllByRecursion as Each}
use Rattle.std.specs.Prelude.{codes}
use Rattle.law_domain.specs.Sound.BuiltForms.{IsBuilt, IsBuiltBlock, AreBuiltBranches, AreBuilt}
use Rattle.spec_script.specs.Captures.{captured_behind}
use Rattle.spec_script.specs.Declarations.{workers, declaration, declarations_behind}
use Rattle.spec_script.specs.declared.Feature.TheVariants.{Exceptions, Groups, Resources}
use Rattle.spec_script.specs.Entries.{entries}
use Rattle.spec_script.specs.Expressions.{item, traced}
use Rattle.spec_script.specs.Features.{Built}
use Rattle.spec_script.specs.FlowSteps.{steps}
use Rattle.spec_script.specs.Forms.{form_of}
use Rattle.spec_script.specs.Limits.{limits_of}
use Rattle.spec_script.specs.Inputs.{input_script}
use Rattle.spec_script.specs.Reading.{past_gap, text_items, run_tree, trees_by, tree_at, reading}
use Rattle.spec_script.specs.RefusedForms.{unbuilt}
use Rattle.spec_script.specs.Refusals.{Refusal, input_tree}
use Rattle.spec_script.specs.Scopes.{bring, used, directory_of}
use Rattle.spec_script.specs.Scripts.{Script, domains, script_of}
use Rattle.spec_script.specs.Statements.{statements}
use Rattle.spec_script.specs.Syntax.{Statement, Trace, Switch, Branches, Both, All, NoExpressions, Block, Begins, Done, Then, NoBlocks}
use Rattle.law_domain.specs.Forms.FeatureForms.{IsOf, IsBlockOf, AreBranchesOf, AreOf}
use Rattle.law_domain.specs.Forms.Laws.{with_groups}

-- the script of an input
unfoldable script : List ℕ → Result Script Refusal
unfolding past_gap text_items run_tree trees_by tree_at reading input_tree bring used directory_of form_of item traced captured_behind statements steps entries workers declaration declarations_behind limits_of domains script_of input_script
script bytes = input_script bytes

-- its first form that isn't built
unfoldable first_unbuilt : Built → List ℕ → Option ℕ
unfolding script
first_unbuilt built bytes = elim (script bytes) [ Ok it ↦ unbuilt built it | Err e ↦ None ]

unfoldable bodies : List ℕ → List Block
unfolding script
bodies bytes = elim (script bytes) [ Ok it ↦ it.bodies | Err e ↦ [] ]

-- ## Scripts

-- exceptions and cancellation
abbrev cancelled : List ℕ
cancelled = codes "(eio 1 (main (let x (sub c (cancel c \"a\"))) (try ((raise \"b\")) e ((trace (unit) e))) (switch s (fork s (check)))))"

cancelled_is_built : first_unbuilt with_groups cancelled ≡ None
unfolding first_unbuilt
cancelled_is_built = refl

cancelled_has_these_forms : Each IsBuiltBlock (bodies cancelled)
unfolding bodies IsBuilt IsBuiltBlock AreBuiltBranches AreBuilt
cancelled_has_these_forms = (((tt, tt), (((tt, tt), (tt, tt)), (((tt, tt), tt), tt))), tt)

-- whole switches
abbrev released : List ℕ
released = codes "(eio 1 (main (switch s (fork-daemon s) (on-release s (yield)) (fail s \"a\"))))"

released_is_built : first_unbuilt with_groups released ≡ None
unfolding first_unbuilt
released_is_built = refl

released_has_these_forms : Each IsBuiltBlock (bodies released)
unfolding bodies IsBuilt IsBuiltBlock AreBuiltBranches AreBuilt
released_has_these_forms = (((tt, ((tt, tt), (tt, tt))), tt), tt)

-- groups
abbrev grouped : List ℕ
grouped = codes "(eio 1 (main (both ((yield)) ()) (all) (any)))"

grouped_is_built : first_unbuilt with_groups grouped ≡ None
unfolding first_unbuilt
grouped_is_built = refl

grouped_has_these_forms : Each IsBuiltBlock (bodies grouped)
unfolding bodies IsBuilt IsBuiltBlock AreBuiltBranches AreBuilt
grouped_has_these_forms = (((tt, ((tt, tt), (tt, tt))), ((tt, tt), ((tt, tt), tt))), tt)

no_streams : first_unbuilt with_groups (codes "(eio 1 (stream s 1) (main (take s)))") ≡ Some 7
unfolding first_unbuilt
no_streams = refl

-- a form on nothing that is declared
no_clock : first_unbuilt with_groups (codes "(eio 1 (main (let x (now))))") ≡ Some 20
unfolding first_unbuilt
no_clock = refl

-- ## Judgements

abbrev in_switch : Statement → Block
in_switch it = Begins 0 (Then (Switch (Begins 1 (Then it Done))) Done)

all_of_nothing : IsBuiltBlock (in_switch (Branches All NoBlocks))
unfolding IsBuilt IsBuiltBlock AreBuiltBranches AreBuilt
all_of_nothing = (((tt, tt), tt), tt)

both_of_nothing : IsBuiltBlock (in_switch (Branches Both NoBlocks)) → ⊥
unfolding IsBuilt IsBuiltBlock AreBuiltBranches AreBuilt
both_of_nothing is = is.0.0.0

-- a `trace` of nothing comes with exceptions; what stands around a form has to be built too
traced_nothing : IsBlockOf (Exceptions ∷ []) (Begins 0 (Then (Trace NoExpressions) Done))
unfolding IsOf IsBlockOf AreBranchesOf AreOf
traced_nothing = (tt, tt)

switches_are_first : IsBlockOf (Exceptions ∷ Groups ∷ Resources ∷ []) (in_switch (Trace NoExpressions)) → ⊥
unfolding IsOf IsBlockOf AreBranchesOf AreOf
switches_are_first is = is.0
