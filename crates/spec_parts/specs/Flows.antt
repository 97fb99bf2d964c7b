-- Scripted flows: what a read gives, and what a copy does.
-- A flow is the list of its steps to come: bytes, a fault or a pause. A read spends the next step. Past the last step it is
-- the end, however often it is read.
use Rattle.std.specs.Prelude.{ℕ, List, [], ◌∷◌, Option, Some, None}
use Rattle.eio_value.specs.declared.flow_step.FlowStep.{FlowStep}
use Rattle.eio_value.specs.declared.flow_step.FlowStep.TheVariants.{Data, Fault, Pause}
use Rattle.eio_value.specs.declared.value.TextId.{TextId}

-- what a read gives: the next step, or nothing at the end
abbrev pub next_step : List FlowStep → Option FlowStep
next_step [] = None
next_step (step ∷ steps) = Some step

-- the steps that a read leaves
abbrev pub behind_next : List FlowStep → List FlowStep
behind_next [] = []
behind_next (step ∷ steps) = steps

-- what one move of `copy` does: it writes the bytes of one step to the other flow and goes on, gives way at a pause,
-- raises a fault, or is done at the end
pub data Copying : Type 0 where
  Copies : (bytes : List ℕ) → Copying
  CopyGivesWay : Copying
  CopyFails : (text : TextId) → Copying
  CopyDone : Copying

-- a move of `copy` by what it reads
abbrev pub copying : Option FlowStep → Copying
copying (Some (Data bytes)) = Copies bytes
copying (Some Pause) = CopyGivesWay
copying (Some (Fault text)) = CopyFails text
copying None = CopyDone
