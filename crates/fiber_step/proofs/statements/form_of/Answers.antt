use Rattle.std.proofs.Common.{◌∙◌, sym, arith}
use Rattle.fiber_step.proofs.Parts.{begins_within}
use Rattle.fiber_step.proofs.Stated.{no_let, one_more_let, same_node}
use Rattle.fiber_step.proofs.statements.form_of.Goals as goal

pub lets-init : goal.lets-init
lets-init c = no_let _ _ c.requires

pub node-requires : goal.node-requires
node-requires c = begins_within _ _ c.lets.invariant.begins

pub overflow_add-form : goal.overflow_add-form
overflow_add-form c = let within = begins_within _ _ c.lets.invariant.begins in let few = c.node.ensures.few in record { fits = omega arith }

pub lets-preserved : goal.lets-preserved
lets-preserved c = one_more_let _ _ _ _ c.lets.invariant c.node.ensures.node c.node.ensures.stands c.in-LetForm.is

pub lets-smaller : goal.lets-smaller
lets-smaller c = let within = begins_within _ _ c.lets.invariant.begins in omega arith

pub returns : goal.returns
returns c = record { behind = c.lets.invariant; last = λ at. c.in_default.not-LetForm (same_node _ _ (sym c.node.ensures.node ∙ at)) }
