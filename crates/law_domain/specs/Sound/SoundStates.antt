-- What a domain is between two moves, as far as scripts of the forms that are built lead. It is a law of the definitions that each move keeps this
-- (`moves_keep_sound`); code may call contexts, switches and groups by what follows from it (`moves_may_call`). A domain that is halted moves no more, and nothing is asked of it.
--
-- Its parts: how each fiber stands and what it has to do; the ready list; who is attached to which switch; and the scopes, each of which has a context of its own,
-- is entered by one fiber at one place, and lies in the one around it. Which scopes each fiber is in is given beside the domain: in the midst of a move it
-- isn't yet to be seen of the fiber that moves.
use Rattle.std.specs.Prelude.{◌≡◌, ◌≢◌, ℕ, ◌+◌, ◌<◌, ◌≤◌, ◌⊎◌, Bool, true, false, ◌&&◌, ◌==◌, not, cond, List, [], All, length, count_by, None}
use Rattle.std.specs.List.{AllPairs, Contains}
use Rattle.eio_value.specs.declared.value.Value.{Value}
use Rattle.spec_parts.specs.Contexts.{context_at, is_live}
use Rattle.spec_parts.specs.Groups.{group_at}
use Rattle.spec_parts.specs.Switches.{Switch, switch_at}
use Rattle.spec_fiber.specs.Asks as ask
use Rattle.spec_fiber.specs.Asks.{Ask}
use Rattle.spec_fiber.specs.Work.{Work}
use Rattle.spec_machine.specs.Domain.{Role, OfBody, OfJob, OfSwitch, OfGroup, OfWriter, Next, GoesOn, LooksUp, FindsOff, CallsAgain, Wait, ForCancel, ForOthers, Standing, Ready, Parked, Ended, Duty, Strike, Fiber, DomainState, fiber_at, has_ended, live_fibers, most_fibers}
use Rattle.law_domain.specs.Sound.BuiltForms.{AreBuiltWork}
use Rattle.law_domain.specs.Sound.Scopes.{Entered, InSwitch, InGroup, Nests, ScopeAt, IsEntered, base_of, context_in, scopes_of}

-- ## Fibers

-- an end that is called again, which brings nothing
abbrev pub IsAgain : Ask → Type 0
IsAgain (ask.Close switch None kept) = Unit {0}
IsAgain (ask.Join group None) = Unit {0}
IsAgain call = ⊥

-- nobody waits for an object or for the clock
abbrev pub IsBuiltNext : Next → Type 0
IsBuiltNext (GoesOn it) = Unit {0}
IsBuiltNext LooksUp = Unit {0}
IsBuiltNext FindsOff = Unit {0}
IsBuiltNext (CallsAgain call) = IsAgain call

abbrev pub IsBuiltWait : Wait → Type 0
IsBuiltWait ForCancel = Unit {0}
IsBuiltWait (ForOthers call) = IsAgain call
IsBuiltWait wait = ⊥

abbrev pub IsBuiltStanding : Standing → Type 0
IsBuiltStanding (Ready next) = IsBuiltNext next
IsBuiltStanding (Parked wait) = IsBuiltWait wait
IsBuiltStanding (Ended it) = Unit {0}

-- fiber 0 is the body; every other one was forked onto a switch, or is a branch of a group
abbrev pub IsBuiltRole : (fiber : ℕ) → Role → Type 0
IsBuiltRole g OfBody = g ≡ 0
IsBuiltRole g (OfSwitch switch daemon) = 0 < g
IsBuiltRole g (OfGroup group) = 0 < g
IsBuiltRole g role = ⊥

-- where a fiber stands in its work, with what variables, where so many switches and contexts were made
abbrev pub IsSoundPosition : (switches contexts : ℕ) → List Work → List Value → Type 0
IsSoundPosition switches contexts work variables = AreBuiltWork work

pub record IsSoundFiber (l : DomainState) (g : ℕ) (fiber : Fiber) : Type 0 where
  pub stand : IsBuiltStanding fiber.standing
  pub role : has_ended fiber ≡ false → IsBuiltRole g fiber.role
  pub position : has_ended fiber ≡ false → IsSoundPosition (length l.switches) (length l.contexts) fiber.work fiber.variables

-- ## Who is attached

abbrev pub attached_to : (daemon : Bool) → Switch → List ℕ
attached_to true switch = switch.daemons
attached_to false switch = switch.fibers

-- who was forked onto a switch and lives is attached to it, and nobody else; to one that is finished nobody is
pub record HasAttached (l : DomainState) : Type 0 where
  pub attached : (n : ℕ) (daemon : Bool) (g : ℕ) → Contains (attached_to daemon (switch_at l.switches n)) g
      → ((fiber_at l.fibers g).role ≡ OfSwitch n daemon) × (has_ended (fiber_at l.fibers g) ≡ false)
  pub attaches : (n : ℕ) (daemon : Bool) (g : ℕ) → (fiber_at l.fibers g).role ≡ OfSwitch n daemon → has_ended (fiber_at l.fibers g) ≡ false
      → Contains (attached_to daemon (switch_at l.switches n)) g
  pub emptied : (n : ℕ) (daemon : Bool) → (switch_at l.switches n).finished ≡ true → attached_to daemon (switch_at l.switches n) ≡ []

-- ## Scopes

abbrev pub is_of_group : (group : ℕ) → Role → Bool
is_of_group n role = elim role [ OfBody ↦ false | OfJob executor number ↦ false | OfSwitch switch daemon ↦ false | OfGroup group ↦ group == n | OfWriter writer ↦ false ]

-- the branches of a group that haven't ended, the caller's own aside
abbrev pub branches_of : (group : ℕ) → List Fiber → ℕ
branches_of n fibers = count_by (λ fiber. not (has_ended fiber) && is_of_group n fiber.role) fibers

abbrev pub own_branches : (own : Bool) → ℕ
own_branches own = cond own 1 0

pub record IsScoped (held : ℕ → List Entered) (l : DomainState) : Type 0 where
  pub nests : (g : ℕ) → has_ended (fiber_at l.fibers g) ≡ false → Nests l (base_of l (fiber_at l.fibers g).role) (held g) (fiber_at l.fibers g).context
  pub entered : (scope : Entered) (g i : ℕ) → ScopeAt held l scope g i → IsEntered l scope
  -- each has a context of its own, and is at one place alone
  pub once : (one other : Entered) (g h i j : ℕ) → ScopeAt held l one g i → ScopeAt held l other h j → context_in l one ≡ context_in l other → (g ≡ h) × (i ≡ j)
  -- a switch that isn't finished is entered, and so is a group of which a branch runs
  pub opened : (n : ℕ) → (switch_at l.switches n).finished ≡ false → (g : ℕ) × (i : ℕ) × ScopeAt held l (InSwitch n) g i
  pub gathered : (n g : ℕ) → (fiber_at l.fibers g).role ≡ OfGroup n → has_ended (fiber_at l.fibers g) ≡ false
      → (own : Bool) × (h : ℕ) × (i : ℕ) × ScopeAt held l (InGroup n own) h i
  pub left : (n : ℕ) (own : Bool) (g i : ℕ) → ScopeAt held l (InGroup n own) g i → (group_at l.groups n).left ≡ branches_of n l.fibers + own_branches own
  -- beside the contexts of scopes only that of the body is live, while the body is
  pub owned : (c : ℕ) → is_live l.contexts c ≡ true → (c ≡ 0) ⊎ ((scope : Entered) × (g : ℕ) × (i : ℕ) × ScopeAt held l scope g i × (context_in l scope ≡ c))
  pub root : (context_at l.contexts 0).parent ≡ None
  pub body : is_live l.contexts 0 ≡ true → has_ended (fiber_at l.fibers 0) ≡ false
  pub rooted : has_ended (fiber_at l.fibers 0) ≡ false → is_live l.contexts 0 ≡ true

-- ## The domain

abbrev pub IsStrike : Duty → Type 0
IsStrike duty = (g : ℕ) × (duty.owed ≡ Strike g)

-- as many of each as there may be after so many lines
pub record IsCounted (lines : ℕ) (l : DomainState) : Type 0 where
  pub live : live_fibers l.fibers ≤ most_fibers
  pub fibers_made : length l.fibers ≤ lines + live_fibers l.fibers
  pub some_context : 0 < length l.contexts
  pub contexts_made : length l.contexts ≤ lines + 1
  pub switches_made : length l.switches ≤ lines
  pub groups_made : length l.groups ≤ lines

-- by what scopes each fiber has
pub record IsSoundWith (held : ℕ → List Entered) (lines : ℕ) (l : DomainState) : Type 0 where
  -- nothing but strikes is owed, and nobody sleeps
  pub owes : All IsStrike l.duties
  pub sleeps : l.timers.standing ≡ []
  pub fibers : (g : ℕ) → IsSoundFiber l g (fiber_at l.fibers g)
  -- who stands in the ready list is ready, and stands there once
  pub distinct : AllPairs (λ g h. g ≢ h) l.ready
  pub ready : (g : ℕ) → Contains l.ready g → (next : Next) × ((fiber_at l.fibers g).standing ≡ Ready next)
  pub attaching : HasAttached l
  pub scoped : IsScoped held l
  pub counted : IsCounted lines l

abbrev pub IsSoundState : DomainState → Type 0
IsSoundState l = IsSoundWith (scopes_of l) l.lines l
