-- The steps of declared flows: `(data TEXT)` with a text that isn't empty, `(fault TEXT)`, `(pause)`.
use Rattle.std.specs.Prelude.{ℕ, if◌then◌else◌, List, [], ◌∷◌, Option, Some, None, codes}
use Rattle.std.specs.Str.{bytes_eq}
use Rattle.eio_value.specs.declared.flow_step.FlowStep.{FlowStep}
use Rattle.eio_value.specs.declared.flow_step.FlowStep.TheVariants.{Data, Fault, Pause}
use Rattle.spec_script.specs.Trees.{Tree, Word, Text, Branch, Trees, Nil, And, place_of}
use Rattle.spec_script.specs.Faults.{Shape}
use Rattle.spec_script.specs.Reads.{Reads, ◌>>>◌, gives, refuses, one_step, interned, text_of}

pub data StepHead : Type 0 where
  DataHead : StepHead
  FaultHead : StepHead
  PauseHead : StepHead

abbrev pub step_head : List ℕ → Option StepHead
step_head word =
    if bytes_eq word (codes "data") then Some DataHead
    else
    (if bytes_eq word (codes "fault") then Some FaultHead
    else (if bytes_eq word (codes "pause") then Some PauseHead else None))

-- the text of a `data`, which stands in the table too
abbrev pub data_of : Tree → Reads (List ℕ)
data_of (Text at (b ∷ bytes)) = interned (b ∷ bytes) >>> λ _. gives (b ∷ bytes)
data_of tree = refuses (Shape (place_of tree))

abbrev pub step_by : (at : ℕ) → Option StepHead → Trees → Reads FlowStep
step_by at (Some DataHead) (And text Nil) = one_step at >>> λ _. data_of text >>> λ bytes. gives (Data bytes)
step_by at (Some FaultHead) (And text Nil) = one_step at >>> λ _. text_of text >>> λ id. gives (Fault id)
step_by at (Some PauseHead) Nil = one_step at >>> λ _. gives Pause
step_by at head items = refuses (Shape at)

abbrev pub step : Tree → Reads FlowStep
step (Branch at (And (Word place word) items)) = step_by at (step_head word) items
step tree = refuses (Shape (place_of tree))

unfoldable pub steps : Trees → Reads (List FlowStep)
steps Nil = gives []
steps (And tree row) = step tree >>> λ first. steps row >>> λ others. gives (first ∷ others)
