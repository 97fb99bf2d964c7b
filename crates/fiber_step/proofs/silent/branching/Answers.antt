use Rattle.std.proofs.Common.{◌≡◌, ◌∙◌, ap, length, refl, sym, subst}
use Rattle.std.proofs.lemmas.Bool.{eqb-true, eqb-false}
use Rattle.fiber_step.proofs.BranchSteps.{unbranched_step, branches_step}
use Rattle.fiber_step.proofs.Parts.{begins_within}
use Rattle.fiber_step.proofs.StepKinds.{group_only}
use Rattle.fiber_step.proofs.Steps.{knows_node}
use Rattle.fiber_step.proofs.silent.branching.Goals.{then-is_empty, else-is_empty}
use Rattle.fiber_step.proofs.silent.branching.Goals as goal

pub node-requires : goal.node-requires
node-requires c = begins_within _ _ c.requires.statement

pub unreachable-requires : goal.unreachable-requires
unreachable-requires c =
    group_only _ (c.requires.kind _ c.node.ensures.node) c.in_default.not-Branches

pub returns : goal.returns
returns c variables =
    let knows = knows_node _ _ _ _ c.requires.statement c.node.ensures.node c.node.ensures.stands c.node.ensures.text in
    elim c.if-is_empty.branch [
      | then-is_empty w ↦
          let none : length c.as_slice.result.now ≡ 0 = eqb-true (length c.as_slice.result.now) 0 (sym c.is_empty.ensures ∙ w.if-is_empty.true) in
          unbranched_step _ _ _ _ _ _ _ _ _ _ knows c.in-Branches.is (ap length (sym c.as_slice.ensures) ∙ none) (w.step-is ∙ w.without_branches-step.ensures) refl
      | else-is_empty w ↦
          let some : length c.as_slice.result.now ≡ 0 → ⊥ = eqb-false (length c.as_slice.result.now) 0 (sym c.is_empty.ensures ∙ w.if-is_empty.false) in
          branches_step _ _ _ _ _ _ _ _ _ _ knows c.node.ensures.node c.in-Branches.is (subst (λ these. length these ≡ 0 → ⊥) c.as_slice.ensures some) w.step-is refl
    ]
