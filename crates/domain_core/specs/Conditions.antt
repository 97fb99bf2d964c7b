-- What the methods of a domain ask, in the words of what is kept.
use Rattle.std.specs.Prelude.{◌≡◌, ◌≢◌, ℕ, ◌+◌, ◌-◌, ◌^◌, ◌<◌, ◌≤◌, ◌⊎◌, Bool, true, false, is_some, List, [], length, count_by, Option, Some}
use Rattle.std.specs.List.{Contains}
use Rattle.fiber_step.specs.Numbering.Beginnings.{BeginsBlock}
use Rattle.cancel_tree.specs.Endings.{HasNoLiveChild}
use Rattle.cancel_tree.specs.Waits.{waits, waits_in}
use Rattle.law_domain.specs.Kinded.KindedStates.{handlers_of}
use Rattle.law_domain.specs.Sound.SoundStates.{attached_to, own_branches}
use Rattle.eio_value.specs.declared.raised.Outcome.{Outcome}
use Rattle.eio_value.specs.declared.raised.Raised.{Raised}
use Rattle.spec_machine.specs.Domain.{Role, OfBody, OfSwitch, OfGroup, ForCancel, ForOthers, Standing, Ready, Parked, Ended}
use Rattle.spec_machine.specs.Steps.{can_be_cancelled}
use Rattle.spec_parts.specs.Contexts.{is_live}
use Rattle.spec_parts.specs.Groups.{group_at}
use Rattle.spec_parts.specs.Switches.{Handler, switch_at}
use Rattle.script_forms.specs.declared.node.Node.{Node}
use Rattle.spec_script.specs.Scripts.{Script}
use Rattle.spec_fiber.specs.Asks.{Ask}
use Rattle.switch_core.specs.Attaching.{IsAttached}
use Rattle.domain_core.specs.Answering.{SameFibers}
use Rattle.domain_core.specs.Keeping.{KeptFiber, KeptDomain, kept_at}
use Rattle.domain_core.specs.Stepping.{IsPlacedAt}

-- ## Fibers

-- it is parked, in a wait that a cancellation ends
abbrev pub waits_so : Standing → Bool
waits_so standing = elim standing [ Parked wait ↦ can_be_cancelled wait | Ready next ↦ false | Ended it ↦ false ]

-- the fiber hasn't ended, and no cancellation ends a wait of it: as a fiber that calls, and one that waits for others
pub record IsAwake (kept : KeptDomain) (g : ℕ) : Type 0 where
  pub fiber : KeptFiber
  pub there : kept_at kept.fibers g ≡ Some fiber
  pub awake : waits_so fiber.standing ≡ false

-- the fiber runs in a live context
abbrev pub RunsInLive : KeptDomain → (fiber : ℕ) → Type 0
RunsInLive kept g = (fiber : KeptFiber) → kept_at kept.fibers g ≡ Some fiber → is_live kept.contexts.made fiber.context ≡ true

-- the fiber waits for others
abbrev pub IsParked : KeptDomain → (fiber : ℕ) → Type 0
IsParked kept g = (fiber : KeptFiber) × (call : Ask) × (kept_at kept.fibers g ≡ Some fiber) × (fiber.standing ≡ Parked (ForOthers call))

-- beside the fiber that calls there is room in the ready list for one that waits for others
abbrev pub HasRoomForParked : KeptDomain → Type 0
HasRoomForParked kept = (g : ℕ) → IsParked kept g → length kept.ready + 1 < 1024

-- ## Contexts

-- the context of each switch that hasn't finished is live
abbrev pub HasLiveContexts : KeptDomain → Type 0
HasLiveContexts kept = (n : ℕ) → n < length kept.switches → (switch_at kept.switches n).finished ≡ false
    → is_live kept.contexts.made (switch_at kept.switches n).context ≡ true

-- the context may end
pub record MayEndContext (kept : KeptDomain) (context : ℕ) : Type 0 where
  pub live : is_live kept.contexts.made context ≡ true
  pub childless : HasNoLiveChild kept.contexts.made context
  pub idle : waits_in context kept.contexts.waiting ≡ false

-- ## Switches

-- no switch has this fiber
abbrev pub IsAttachedToNone : KeptDomain → (fiber : ℕ) → Type 0
IsAttachedToNone kept g = (n : ℕ) → ¬ IsAttached g (switch_at kept.switches n)

-- a switch that a fiber may close: its context may end once nobody is attached
pub record KeptMayClose (kept : KeptDomain) (switch : ℕ) : Type 0 where
  pub opened : switch < length kept.switches
  pub unfinished : (switch_at kept.switches switch).finished ≡ false
  pub ends : ((daemon : Bool) → attached_to daemon (switch_at kept.switches switch) ≡ []) → MayEndContext kept (switch_at kept.switches switch).context

-- a block of the script begins at the node of each handler of the switch that is still to run
abbrev pub HandlersBegin : Script → KeptDomain → (switch : ℕ) → Type 0
HandlersBegin script kept n = (handler : Handler) → Contains (handlers_of (switch_at kept.switches n)) handler → BeginsBlock script handler.block

-- what a failure leaves: no fiber stands otherwise, what may end may still end, and of each switch nothing but its errors has changed
pub record LeavesScopes (old new : KeptDomain) : Type 0 where
  pub fibers : SameFibers old new
  pub contexts : length new.contexts.made ≡ length old.contexts.made
  pub live : (c : ℕ) → is_live new.contexts.made c ≡ is_live old.contexts.made c
  pub ends : (c : ℕ) → MayEndContext old c → MayEndContext new c
  pub opened : length new.switches ≡ length old.switches
  pub switches : (n : ℕ) → (errors : Option Raised) × (switch_at new.switches n ≡ record (switch_at old.switches n) { errors = errors })
  pub groups : new.groups ≡ old.groups

-- ## Ends

-- the end of a fiber: that of the body ends its context, that of another one takes it off its switch or its group. The body is the first fiber
abbrev pub MayEndAs : KeptDomain → (fiber context : ℕ) → Role → Type 0
MayEndAs kept g context OfBody = (g ≡ 0) × MayEndContext kept context
MayEndAs kept g context (OfSwitch switch daemon) = (switch < length kept.switches) × IsAttached g (switch_at kept.switches switch) × (g ≢ 0)
MayEndAs kept g context (OfGroup group) = (group < length kept.groups) × (g ≢ 0)
MayEndAs kept g context role = ⊥

abbrev pub MayEnd : KeptDomain → (fiber : ℕ) → Type 0
MayEnd kept g = (fiber : KeptFiber) → kept_at kept.fibers g ≡ Some fiber → MayEndAs kept g fiber.context fiber.role

-- ## Groups

-- what the end of a branch leaves: who is woken stands last in the ready list, what may end may still end, and each group has its context
pub record LeavesGroups (old new : KeptDomain) : Type 0 where
  pub awake : (g : ℕ) → IsAwake old g → IsAwake new g
  pub ready : (new.ready ≡ old.ready) ⊎ ((g : ℕ) × IsParked old g × (length new.ready ≡ length old.ready + 1))
  pub ends : (c : ℕ) → MayEndContext old c → MayEndContext new c
  pub made : length new.groups ≡ length old.groups
  pub contexts : (n : ℕ) → (group_at new.groups n).context ≡ (group_at old.groups n).context

-- a group that a fiber may join, whose own branch is about to end if one came: the group's context may end once no other branch is left
pub record KeptMayJoin (kept : KeptDomain) (group : ℕ) (own : Option Outcome) : Type 0 where
  pub made : group < length kept.groups
  pub some_left : own_branches (is_some own) ≤ (group_at kept.groups group).left
  pub ends : (group_at kept.groups group).left ≡ own_branches (is_some own) → MayEndContext kept (group_at kept.groups group).context

-- ## Calls

-- what holds at the time of each call of a fiber, whichever call it is: the fiber has left the ready list, and the domain owes no strike
pub record CanCall (kept : KeptDomain) (g : ℕ) : Type 0 where
  pub awake : IsAwake kept g
  pub live : RunsInLive kept g
  pub owes : kept.owed ≡ []
  pub room : length kept.ready + 1 ≤ count_by is_some kept.fibers
  pub most : count_by is_some kept.fibers ≤ 1024
  pub parked : HasRoomForParked kept
  pub contexts : HasLiveContexts kept
  pub apart : IsAttachedToNone kept (length kept.fibers)
  pub few_contexts : length kept.contexts.made < 2 ^ 32 - 1
  pub few_switches : length kept.switches < 2 ^ 32 - 1
  pub few_groups : length kept.groups < 2 ^ 32 - 1
  pub few_fibers : length kept.fibers < 2 ^ 32 - 1025

-- what a fiber needs that goes into a block in a new context. A failure that is given to a switch before that leaves it all of this
pub record CanEnter (nodes : List Node) (kept : KeptDomain) (g : ℕ) : Type 0 where
  pub awake : IsAwake kept g
  pub live : RunsInLive kept g
  pub room : length kept.ready < 1024
  pub placed : IsPlacedAt nodes g kept.fibers
  pub few : length kept.contexts.made < 2 ^ 32 - 1

-- ## Strikes

-- the fiber waits for nothing but that it is cancelled
abbrev pub AwaitsCancel : KeptDomain → (fiber : ℕ) → Type 0
AwaitsCancel kept g = (fiber : KeptFiber) × (kept_at kept.fibers g ≡ Some fiber) × (fiber.standing ≡ Parked ForCancel)

-- what a strike asks of a fiber that waits so
pub record MayStrike (kept : KeptDomain) (g : ℕ) : Type 0 where
  pub room : AwaitsCancel kept g → length kept.ready < 1024
  pub live : AwaitsCancel kept g → RunsInLive kept g
  pub waits : AwaitsCancel kept g → waits g kept.contexts.waiting ≡ true
