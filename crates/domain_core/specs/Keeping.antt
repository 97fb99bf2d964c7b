-- What is kept of a domain. Of a fiber or a context that has ended nothing is kept but that it was made, and what the body came to.
use Rattle.std.specs.Prelude.{ℕ, Bool, List, slice_get, slice_set, Option, None}
use Rattle.std.specs.Option.{option_map, unwrap_or}
use Rattle.eio_value.specs.declared.raised.Outcome.{Outcome}
use Rattle.eio_value.specs.declared.raised.Outcome.TheVariants as outcome
use Rattle.spec_parts.specs.ContextCalls.{Contexts}
use Rattle.spec_parts.specs.Groups.{Group}
use Rattle.spec_parts.specs.Switches.{Switch}
use Rattle.eio_value.specs.declared.value.Value.TheVariants.{Unit}
use Rattle.fiber_step.specs.Framing.{KeptFrames}
use Rattle.spec_machine.specs.Domain.{Duty, Role, Standing, Ready, GoesOn}

-- a fiber that hasn't ended
pub record KeptFiber : Type 0 where
  pub number : ℕ
  pub context : ℕ
  pub role : Role
  pub standing : Standing
  pub frames : KeptFrames

pub record KeptDomain : Type 0 where
  pub number : ℕ
  -- by their numbers
  pub fibers : List (Option KeptFiber)
  -- what the body came to
  pub came : Option Outcome
  pub ready : List ℕ
  -- the strikes that are owed, the one that is made next first
  pub owed : List Duty
  pub contexts : Contexts
  pub switches : List Switch
  pub groups : List Group
  pub serial : ℕ
  pub stamp : ℕ
  pub lines : ℕ
  -- the most lines that it may make
  pub budget : ℕ
  pub halted : Bool
  pub mocked : Bool

-- none where that fiber has ended or was never made
abbrev pub kept_at : {X : Type 0} → List (Option X) → (number : ℕ) → Option X
kept_at fibers number = unwrap_or (slice_get fibers number) None

-- a new fiber, which is ready to run its frames
abbrev pub new_fiber : (number context : ℕ) → Role → KeptFrames → KeptFiber
new_fiber number context role frames = record { number = number; context = context; role = role; standing = Ready (GoesOn (outcome.Ok Unit)); frames = frames }

-- something of a fiber is changed
abbrev pub changed_at : {X : Type 0} → (number : ℕ) → (X → X) → List (Option X) → List (Option X)
changed_at number change fibers = slice_set fibers number (option_map change (kept_at fibers number))
