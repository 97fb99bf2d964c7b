-- What becomes of the frames of one fiber, all others being as they were.
use Rattle.std.specs.Prelude.{◌≡◌, ℕ, List, Option, Some}
use Rattle.eio_value.specs.declared.raised.Outcome.{Outcome}
use Rattle.eio_value.specs.declared.value.Value.{Value}
use Rattle.script_code.specs.Standing.{block_at}
use Rattle.script_forms.specs.declared.node.Node.{Node}
use Rattle.spec_fiber.specs.Replies.{entered, handled}
use Rattle.fiber_step.specs.declared.ask.Ask.{Ask}
use Rattle.fiber_step.specs.Framing.{KeptFrames, position_of}
use Rattle.fiber_step.specs.Placing.{ArePlaced}
use Rattle.fiber_step.specs.Settling.{SettlesTo}
use Rattle.fiber_step.specs.Standing.{ask_of}
use Rattle.fiber_step.specs.Stepping.{HasBodiesOf}
use Rattle.fiber_step.specs.Throwing.{shared_by, IsGrown}
use Rattle.domain_core.specs.Keeping.{KeptFiber, kept_at, changed_at}

-- what the items of the fiber of this number name stands at the nodes
abbrev pub IsPlacedAt : List Node → (number : ℕ) → List (Option KeptFiber) → Type 0
IsPlacedAt nodes number fibers = (fiber : KeptFiber) → kept_at fibers number ≡ Some fiber → ArePlaced nodes fiber.frames.items

-- the fiber of this number has other frames
pub record Reframes (number : ℕ) (old new : List (Option KeptFiber)) : Type 0 where
  pub fiber : KeptFiber
  pub there : kept_at old number ≡ Some fiber
  pub frames : KeptFrames
  pub is : new ≡ changed_at number (λ it. record it { frames = frames }) old

-- it stands before the block of its call
pub record Enters (nodes : List Node) (call : Ask) (made number : ℕ) (old new : List (Option KeptFiber)) : Type 0 where
  pub reframes : Reframes number old new
  pub position : position_of nodes reframes.frames ≡ entered (ask_of nodes call) made (position_of nodes reframes.fiber.frames).work reframes.fiber.frames.variables
  pub placed : ArePlaced nodes reframes.frames.items

-- it stands before a handler of the switch that its call closes
pub record Handles (nodes : List Node) (call : Ask) (context handler : ℕ) (registered : List Value) (number : ℕ) (old new : List (Option KeptFiber)) : Type 0 where
  pub reframes : Reframes number old new
  pub position : position_of nodes reframes.frames
      ≡ handled (ask_of nodes call) context (block_at nodes handler) registered (position_of nodes reframes.fiber.frames).work reframes.fiber.frames.variables
  pub placed : ArePlaced nodes reframes.frames.items

-- it has come to its next call
pub record Settles
    (nodes : List Node) (came : Outcome) (number : ℕ) (old : List (Option KeptFiber)) (old_texts : List (List ℕ)) (old_serial : ℕ)
    (call : Ask) (new : List (Option KeptFiber)) (new_texts : List (List ℕ)) (new_serial : ℕ) : Type 0 where
  pub reframes : Reframes number old new
  pub settles : SettlesTo nodes came reframes.fiber.frames (shared_by old_texts old_serial) call reframes.frames (shared_by new_texts new_serial)
  pub placed : ArePlaced nodes reframes.frames.items
  pub bodies : HasBodiesOf nodes call
  pub grown : IsGrown old_texts new_texts
