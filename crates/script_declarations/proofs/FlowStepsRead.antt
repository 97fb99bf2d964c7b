-- The steps of a flow, one by one as the code reads them.
use Rattle.std.proofs.Common.{◌≡◌, List, [], ◌∷◌, ◌++◌, true, false, Result, Ok, ap, ◌∙◌, append-nil}
use Rattle.eio_value.specs.declared.flow_step.FlowStep.{FlowStep}
use Rattle.spec_script.specs.Faults as model
use Rattle.spec_script.specs.Reads.{Made, ◌>>>◌, gives}
use Rattle.spec_script.specs.FlowSteps.{step, steps}
use Rattle.spec_script.specs.Trees.{Tree, Trees, And}
use Rattle.script_tree.specs.Pieces.{Piece}
use Rattle.script_draft.specs.Ahead.{ahead, rest_of, has_tree, tree_ahead, IsPast}
use Rattle.script_forms.specs.Faults.{Fails}
use Rattle.script_forms.specs.declared.fault.ScriptFault.{ScriptFault}
use Rattle.script_declarations.proofs.DeclarationsRead.{one_before}
use Rattle.script_draft.proofs.Steps.{fails_first}
use Rattle.script_draft.proofs.Counts.{next_here, next_passed, has_none}

refused_at : (list : List FlowStep) (tree : Tree) (row : Trees) (made : Made) (f : ScriptFault) → Fails f (step tree made) → Fails f ((steps (And tree row) >>> λ others. gives (list ++ others)) made)
unfolding steps
refused_at list tree row made f fails = fails_first f (steps (And tree row) made) _ (fails_first f (step tree made) _ fails)

-- the step that comes next was refused
pub step_refused : (list : List FlowStep) (whole : Result (List FlowStep × Made) model.ScriptFault) (ps : List Piece) (made : Made) (f : ScriptFault) → has_tree ps ≡ true → Fails f (step (tree_ahead ps) made) → whole ≡ (steps (ahead ps) >>> λ others. gives (list ++ others)) made → Fails f whole
step_refused list whole ps made f some fails e = rw (e, next_here ps some) (refused_at list (tree_ahead ps) (rest_of (ahead ps)) made f fails)

taken_at : (list : List FlowStep) (tree : Tree) (row : Trees) (made then : Made) (it : FlowStep) → step tree made ≡ Ok (it, then) → (steps (And tree row) >>> λ others. gives (list ++ others)) made ≡ (steps row >>> λ others. gives ((list ++ it ∷ []) ++ others)) then
unfolding steps
taken_at list tree row made then it read = rw read (one_before list it (steps row then))

-- it was read
pub step_taken : (list : List FlowStep) (whole : Result (List FlowStep × Made) model.ScriptFault) (ps new : List Piece) (made then : Made) (it : FlowStep) → has_tree ps ≡ true → IsPast ps new → step (tree_ahead ps) made ≡ Ok (it, then) → whole ≡ (steps (ahead ps) >>> λ others. gives (list ++ others)) made → whole ≡ (steps (ahead new) >>> λ others. gives ((list ++ it ∷ []) ++ others)) then
step_taken list whole ps new made then it some past read e =
    e ∙ ap (λ row. (steps row >>> λ others. gives (list ++ others)) made) (next_passed ps new some past) ∙ taken_at list (tree_ahead ps) (ahead new) made then it read

-- none comes
pub steps_end : (list : List FlowStep) (whole : Result (List FlowStep × Made) model.ScriptFault) (ps : List Piece) (made : Made) → has_tree ps ≡ false → whole ≡ (steps (ahead ps) >>> λ others. gives (list ++ others)) made → whole ≡ Ok (list, made)
unfolding steps
steps_end list whole ps made none e = e ∙ ap (λ row. (steps row >>> λ others. gives (list ++ others)) made) (has_none ps none) ∙ ap (λ all. gives all made) (append-nil list)
