-- Worked rows: which scopes the fibers of small scripts are in after so many moves, by the definitions alone. A row that is false fails the check.
use Rattle.std.proofs.Common.{◌≡◌, ℕ, true, false, List, [], ◌∷◌, map, refl}
use Rattle.std.specs.Prelude.{codes, Ok, Err}
use Prim.Native.String.{String}
use Rattle.spec_parts.specs.Contexts.{way_within}
use Rattle.spec_script.specs.Captures.{captured_behind}
use Rattle.spec_script.specs.Declarations.{workers, declaration, declarations_behind}
use Rattle.spec_script.specs.Entries.{entries}
use Rattle.spec_script.specs.Expressions.{item, traced}
use Rattle.spec_script.specs.Features.{all_built}
use Rattle.spec_script.specs.FlowSteps.{steps}
use Rattle.spec_script.specs.Forms.{form_of}
use Rattle.spec_script.specs.Limits.{limits_of}
use Rattle.spec_script.specs.Inputs.{input_script, mocked_script}
use Rattle.spec_script.specs.Reading.{past_gap, text_items, run_tree, trees_by, tree_at, reading}
use Rattle.spec_script.specs.Refusals.{input_tree}
use Rattle.spec_script.specs.Scopes.{bring, used, directory_of}
use Rattle.spec_script.specs.Scripts.{domains, script_of}
use Rattle.spec_script.specs.Statements.{statements}
use Rattle.spec_fiber.specs.Evaluation.{value_of, values_of}
use Rattle.spec_fiber.specs.Numbered.{block_numbered, blocks_from}
use Rattle.spec_fiber.specs.Settling as settling
use Rattle.spec_fiber.specs.Silent as silent
use Rattle.spec_machine.specs.GroupMoves.{branched}
use Rattle.spec_machine.specs.Mock.{move, moves}
use Rattle.spec_machine.specs.Moves.{own_call}
use Rattle.spec_machine.specs.Preparing.{prepared}
use Rattle.spec_machine.specs.Steps.{waiting_from}
use Rattle.spec_machine.specs.Trace.{run}
use Rattle.law_domain.specs.Sound.Scopes.{Entered, InContext, InSwitch, InGroup, scopes}

unfoldable scopes_after : (moves : ℕ) → (script : String) → List (List Entered)
unfolding past_gap text_items run_tree trees_by tree_at reading input_tree bring used directory_of form_of item traced captured_behind statements steps entries workers declaration declarations_behind limits_of domains script_of input_script mocked_script way_within value_of values_of block_numbered blocks_from silent.statements settling.answered branched own_call prepared waiting_from move moves run
scopes_after n script = elim (mocked_script all_built (codes script)) [
  | Ok it ↦ map scopes (run it n).last.local.fibers
  | Err refusal ↦ []
]

-- ## A switch with a fork

a_switch_is_entered : scopes_after 1 "(eio 1 (main (switch s (fork s (yield)))))" ≡ (InSwitch 0 ∷ []) ∷ []
unfolding scopes_after
a_switch_is_entered = refl

a_fork_is_in_none : scopes_after 2 "(eio 1 (main (switch s (fork s (yield)))))" ≡ (InSwitch 0 ∷ []) ∷ [] ∷ []
unfolding scopes_after
a_fork_is_in_none = refl

-- its mark is off the work, but it waits in `close`
who_closes_is_inside : scopes_after 4 "(eio 1 (main (switch s (fork s (yield)))))" ≡ (InSwitch 0 ∷ []) ∷ [] ∷ []
unfolding scopes_after
who_closes_is_inside = refl

who_has_closed_is_outside : scopes_after 6 "(eio 1 (main (switch s (fork s (yield)))))" ≡ [] ∷ [] ∷ []
unfolding scopes_after
who_has_closed_is_outside = refl

-- ## Blocks of contexts

contexts_lie_in_one_another : scopes_after 2 "(eio 1 (main (sub c (protect (yield)))))" ≡ (InContext 2 ∷ InContext 1 ∷ []) ∷ []
unfolding scopes_after
contexts_lie_in_one_another = refl

an_exception_leaves_them_one_by_one : scopes_after 3 "(eio 1 (main (sub c (protect (raise \"x\")))))" ≡ (InContext 1 ∷ []) ∷ []
unfolding scopes_after
an_exception_leaves_them_one_by_one = refl

-- ## Handlers

a_handler_runs_inside_its_switch : scopes_after 3 "(eio 1 (main (switch s (on-release s (trace 1)))))" ≡ (InContext 2 ∷ InSwitch 0 ∷ []) ∷ []
unfolding scopes_after
a_handler_runs_inside_its_switch = refl

-- ## Groups

branches_are_in_none : scopes_after 1 "(eio 1 (main (both ((yield)) ((check)))))" ≡ (InGroup 0 true ∷ []) ∷ [] ∷ []
unfolding scopes_after
branches_are_in_none = refl

who_joins_has_ended_its_own : scopes_after 4 "(eio 1 (main (both ((yield)) ((check)))))" ≡ (InGroup 0 false ∷ []) ∷ [] ∷ []
unfolding scopes_after
who_joins_has_ended_its_own = refl
