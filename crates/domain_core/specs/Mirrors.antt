-- What is kept of a domain, as the domain of the definitions that it stands for, under the nodes of its script.
-- The definitions keep fibers and contexts that have ended; what is kept stands for every domain that differs in those alone, or in
-- what no built form uses: resume words, the clock and timers.
use Rattle.std.specs.Prelude.{◌≡◌, ℕ, List, length, true, false, Option, Some, None}
use Rattle.script_forms.specs.declared.node.Node.{Node}
use Rattle.fiber_step.specs.Framing.{position_of}
use Rattle.fiber_step.specs.Placing.{ArePlaced}
use Rattle.spec_machine.specs.Domain as model
use Rattle.spec_machine.specs.Domain.{DomainState, fiber_at, has_ended}
use Rattle.spec_machine.specs.Trace.{body_end}
use Rattle.domain_strikes.specs.Waiting.InStep.{AreContexts}
use Rattle.domain_strikes.specs.Waiting.WhoWaits.{contexts_of}
use Rattle.domain_core.specs.Keeping.{KeptFiber, KeptDomain, kept_at}

-- ## Fibers

-- a fiber that hasn't ended. Nothing is said of its resume word, which no form that is built uses
pub record IsFiber (nodes : List Node) (g : ℕ) (kept : KeptFiber) (fiber : model.Fiber) : Type 0 where
  pub number : kept.number ≡ g
  pub context : fiber.context ≡ kept.context
  pub role : fiber.role ≡ kept.role
  pub standing : fiber.standing ≡ kept.standing
  pub lives : has_ended fiber ≡ false
  pub work : fiber.work ≡ (position_of nodes kept.frames).work
  pub variables : fiber.variables ≡ (position_of nodes kept.frames).variables
  -- what its items name stands at the nodes
  pub placed : ArePlaced nodes kept.frames.items

abbrev pub IsKept : List Node → (number : ℕ) → Option KeptFiber → model.Fiber → Type 0
IsKept nodes number None fiber = has_ended fiber ≡ true
IsKept nodes number (Some kept) fiber = IsFiber nodes number kept fiber

-- ## The domain

-- what is kept stands for this domain, with this table of texts
pub record Mirrors (nodes : List Node) (table : List (List ℕ)) (kept : KeptDomain) (l : DomainState) : Type 0 where
  pub number : l.number ≡ kept.number
  pub count : length l.fibers ≡ length kept.fibers
  pub fibers : (g : ℕ) → IsKept nodes g (kept_at kept.fibers g) (fiber_at l.fibers g)
  pub came : body_end l ≡ kept.came
  pub ready : l.ready ≡ kept.ready
  pub duties : l.duties ≡ kept.owed
  -- with who waits in them; of those that have ended nothing is kept
  pub contexts : AreContexts kept.contexts (contexts_of l)
  pub switches : l.switches ≡ kept.switches
  pub groups : l.groups ≡ kept.groups
  pub texts : l.texts ≡ table
  pub serial : l.serial ≡ kept.serial
  pub stamp : l.stamp ≡ kept.stamp
  pub lines : l.lines ≡ kept.lines
  pub halted : l.halted ≡ kept.halted
