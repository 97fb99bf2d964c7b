use Rattle.std.proofs.Common.{◌≡◌, ◌++◌, length}
use Rattle.spec_script.specs.Reads.{gives, ◌>>>◌}
use Rattle.spec_script.specs.FlowSteps.{steps}
use Rattle.script_draft.specs.Ahead.{ahead, IsWithin}
use Rattle.script_draft.specs.Drafts.{made_of}
use Rattle.script_declarations.proofs.flow_steps.flow_steps.Given as goal

abbrev pub invariant-loop-steps : goal.invariant-loop-steps
invariant-loop-steps l = record {
  within : IsWithin l.initial.cursor l.cursor;
  nodes : l.draft.nodes ≡ l.initial.draft.nodes;
  rest : steps (ahead l.initial.cursor) (made_of l.initial.draft) ≡ (steps (ahead l.cursor) >>> λ others. gives (l.steps.items ++ others)) (made_of l.draft);
}

abbrev pub decreases-loop-steps : goal.decreases-loop-steps
decreases-loop-steps l = length l.cursor
