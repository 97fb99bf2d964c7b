-- What the end of a branch brings and what `join` finds, in code and in the definition.
use Rattle.std.specs.Prelude.{ℕ, Option}
use Rattle.eio_value.specs.declared.plain.Plain.{Plain}
use Rattle.group_core.specs.declared.answers.JoinStep.{JoinStep}
use Rattle.group_core.specs.declared.answers.JoinStep.TheVariants.{Wait, Give, Raise}
use Rattle.spec_parts.specs.Groups as model

-- this group after something that ends in it, with the reason by which its context is cancelled and the fiber that is woken
abbrev pub ended_with : model.Group → (cancels : Option Plain) → (woken : Option ℕ) → model.BranchEnded
ended_with group cancels woken = record { group = group; cancels = cancels; woken = woken }

-- what `join` finds
abbrev pub step_of : JoinStep → model.JoinStep
step_of Wait = model.Wait
step_of (Give value) = model.Give value
step_of (Raise raised) = model.Raise raised
