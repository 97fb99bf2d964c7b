-- How the fiber that stands first in the ready list moves: its next call, and what is there once that was made.
use Rattle.std.specs.Prelude.{◌≡◌, ◌≢◌, ℕ, ◌<◌, Bool, false, List, ◌∷◌, ◌++◌, length, Some}
use Rattle.cancel_tree.specs.Waits.{waits}
use Rattle.eio_value.specs.declared.plain.Member.{Member}
use Rattle.eio_value.specs.declared.raised.Outcome.{Outcome}
use Rattle.fiber_step.specs.declared.ask.Ask.{Ask}
use Rattle.fiber_step.specs.declared.ask.Ask.TheVariants as ask
use Rattle.fiber_step.specs.Standing.{ask_of}
use Rattle.fiber_step.specs.Stepping.{HasBodiesOf}
use Rattle.script_forms.specs.Flat.{nodes_of}
use Rattle.spec_script.specs.Scripts.{Script}
use Rattle.spec_fiber.specs.Asks.{Ask as Called}
use Rattle.spec_fiber.specs.Replies.{passed}
use Rattle.spec_fiber.specs.Work.{Carry}
use Rattle.law_domain.specs.Texts.Domains.{IsTexted}
use Rattle.law_fiber.specs.Texts.Texts.{IsHeldOutcome, known_in}
use Rattle.spec_machine.specs.Domain.{CallsAgain, Fiber, Next, Ready, DomainState, fiber_at, off_for}
use Rattle.spec_machine.specs.Labels.{Own}
use Rattle.spec_machine.specs.Moves.{asks, own_move}
use Rattle.spec_machine.specs.Preparing.{Calls, next_call, next_of, prepared}
use Rattle.domain_core.specs.declared.told.Told.{Told}
use Rattle.domain_core.specs.Answering.{HoldsOf, Tells, forking_by}
use Rattle.domain_core.specs.Conditions.{CanCall, HandlersBegin, KeptMayClose, MayEnd, MayEndContext, KeptMayJoin}
use Rattle.domain_core.specs.Keeping.{KeptDomain, KeptFiber, kept_at}
use Rattle.domain_core.specs.Mirrors.{Mirrors}
use Rattle.domain_core.specs.Stepping.{IsPlacedAt}

-- what was kept before this fiber left the ready list
abbrev pub with_head : (fiber : ℕ) → KeptDomain → KeptDomain
with_head g kept = record kept { ready = g ∷ kept.ready }

-- the domain makes this call next, up to which its fiber has run its silent statements
pub record ComesTo (script : Script) (texts : List (List ℕ)) (l : DomainState) (g : ℕ) (call : Ask) (kept : KeptDomain) : Type 0 where
  pub calls : (prepared l).doing ≡ Calls g (ask_of (nodes_of script) call)
  pub mirrors : Mirrors (nodes_of script) texts kept (prepared l).state

-- the domain moves on its own: this is what its line tells, and what is there then, but for its counts
pub record MovesOwn (script : Script) (table : List (List ℕ)) (l : DomainState) (told : Told) (kept : KeptDomain) : Type 0 where
  pub own : asks l ≡ Own
  pub texts : (prepared l).state.texts ≡ l.texts
  pub tells : Tells (own_move script (prepared l)) told
  pub becomes : Mirrors (nodes_of script) table kept (own_move script (prepared l)).state

-- ## What comes to a fiber

-- the fiber is about to move, and doesn't make its call again
pub record IsReady (kept : KeptDomain) (g : ℕ) : Type 0 where
  pub fiber : KeptFiber
  pub there : kept_at kept.fibers g ≡ Some fiber
  pub next : Next
  pub stands : fiber.standing ≡ Ready next
  pub new : (call : Called) → next ≢ CallsAgain call

-- its next call is the one to which it comes by this, after a raise of its own where it finds its context off
pub record GoesOnWith (g : ℕ) (came : Outcome) (old new : KeptDomain) : Type 0 where
  pub made : List Member
  pub settles : HoldsOf old (λ l. (fiber : Fiber) (c : Carry) → c.serial ≡ l.serial
      → next_call (next_of (fiber_at l.fibers g).standing) (off_for l g) fiber c
      ≡ passed came fiber.work (record c { serial = new.serial; raises = c.raises ++ made }))
  -- it is known where all that stands in the domain is
  pub known : HoldsOf old (λ l. (script : Script) → IsTexted script l → IsHeldOutcome (known_in script) came)

-- ## Calls

-- a call on a context, a switch or a group
abbrev pub IsOfScope : Ask → Type 0
IsOfScope (ask.Trace operands) = ⊥
IsOfScope ask.Yield = ⊥
IsOfScope ask.Check = ⊥
IsOfScope ask.AwaitCancel = ⊥
IsOfScope ask.Turn = ⊥
IsOfScope (ask.End it) = ⊥
IsOfScope call = Unit {0}

-- what is asked for each call of a fiber
abbrev pub IsMetBy : Script → (fiber : ℕ) → Ask → KeptDomain → Type 0
IsMetBy script g (ask.Trace operands) kept = Unit {0}
IsMetBy script g ask.Yield kept = Unit {0}
IsMetBy script g ask.Check kept = Unit {0}
IsMetBy script g ask.AwaitCancel kept = (waits g kept.contexts.waiting ≡ false) × (length kept.contexts.waiting < 1024)
IsMetBy script g ask.Turn kept = Unit {0}
IsMetBy script g (ask.Sub body) kept = Unit {0}
IsMetBy script g (ask.Protect body) kept = Unit {0}
IsMetBy script g (ask.Cancel context text) kept = Unit {0}
IsMetBy script g (ask.Switch body) kept = Unit {0}
IsMetBy script g (ask.Fork forking switch body) kept = (daemon : Bool) × (forking ≡ forking_by daemon) × (switch < length kept.switches)
IsMetBy script g (ask.Fail switch text) kept = switch < length kept.switches
IsMetBy script g (ask.OnRelease switch handler) kept = switch < length kept.switches
IsMetBy script g (ask.Branches group form) kept = Unit {0}
IsMetBy script g (ask.Leave context late it) kept = MayEndContext kept context
IsMetBy script g (ask.Close switch failed it) kept = KeptMayClose kept switch × HandlersBegin script kept switch
IsMetBy script g (ask.Join group own) kept = KeptMayJoin kept group own
IsMetBy script g (ask.End it) kept = MayEnd kept g
IsMetBy script g call kept = ⊥

-- what a fiber may rely on at this call, and hands on to it
pub record MayAnswer (script : Script) (g : ℕ) (call : Ask) (kept : KeptDomain) : Type 0 where
  pub can : CanCall kept g
  pub placed : IsPlacedAt (nodes_of script) g kept.fibers
  pub bodies : HasBodiesOf (nodes_of script) call
  pub met : IsMetBy script g call kept
