-- What is so of a sound domain when a fiber calls, by which code may make the call: where the fiber stands, that what it names was made, and that nothing is left of
-- what ends with the call.
use Rattle.std.specs.Prelude.{◌≡◌, ◌≢◌, ℕ, ◌+◌, ◌<◌, ◌≤◌, Bool, true, false, is_some, List, [], ◌∷◌, length, Some}
use Rattle.std.specs.List.{Contains}
use Rattle.spec_parts.specs.Contexts.{context_at, is_live}
use Rattle.spec_parts.specs.Groups.{group_at}
use Rattle.spec_parts.specs.Switches.{switch_at}
use Rattle.spec_fiber.specs.Asks as ask
use Rattle.spec_fiber.specs.Asks.{Ask}
use Rattle.spec_fiber.specs.Settling.{Settled}
use Rattle.spec_machine.specs.Domain.{Role, OfBody, OfSwitch, OfGroup, Next, Ready, DomainState, fiber_at, has_ended, live_fibers, most_fibers, off_for}
use Rattle.spec_machine.specs.Preparing.{next_call, called_by, carry_of, prepared}
use Rattle.law_domain.specs.Sound.BuiltForms.{AreBuiltWork, IsBuiltCall}
use Rattle.law_domain.specs.Sound.Scopes.{Entered, InContext, InSwitch, InGroup, ScopeAt, IsEntered, context_in, scopes_of}
use Rattle.law_domain.specs.Sound.SoundStates.{IsBuiltNext, IsSoundState, attached_to, own_branches}

-- ## The ends of scopes

-- the fiber is in this scope, innermost, and runs in its context
pub record AtEnd (l : DomainState) (g : ℕ) (scope : Entered) : Type 0 where
  pub innermost : ScopeAt (scopes_of l) l scope g 0
  pub entered : IsEntered l scope
  pub runs : (fiber_at l.fibers g).context ≡ context_in l scope

-- no live context lies in this one, and no other fiber runs there
pub record IsAlone (l : DomainState) (g c : ℕ) : Type 0 where
  pub childless : (x : ℕ) → is_live l.contexts x ≡ true → (context_at l.contexts x).parent ≢ Some c
  pub idle : (h : ℕ) → has_ended (fiber_at l.fibers h) ≡ false → (fiber_at l.fibers h).context ≡ c → h ≡ g

pub record MayClose (l : DomainState) (g n : ℕ) : Type 0 where
  pub at_end : AtEnd l g (InSwitch n)
  pub made : n < length l.switches
  pub unfinished : (switch_at l.switches n).finished ≡ false
  pub live : is_live l.contexts (switch_at l.switches n).context ≡ true
  -- once nobody is attached
  pub alone : ((daemon : Bool) → attached_to daemon (switch_at l.switches n) ≡ []) → IsAlone l g (switch_at l.switches n).context

pub record MayLeave (l : DomainState) (g c : ℕ) : Type 0 where
  pub at_end : AtEnd l g (InContext c)
  pub live : is_live l.contexts c ≡ true
  pub alone : IsAlone l g c

pub record MayJoin (l : DomainState) (g n : ℕ) (own : Bool) : Type 0 where
  pub at_end : AtEnd l g (InGroup n own)
  pub made : n < length l.groups
  pub live : is_live l.contexts (group_at l.groups n).context ≡ true
  -- the own branch is one of those that are left, as long as it hasn't ended
  pub some_left : own_branches own ≤ (group_at l.groups n).left
  -- once no other one is
  pub alone : (group_at l.groups n).left ≡ own_branches own → IsAlone l g (group_at l.groups n).context

-- ## The end of a fiber

abbrev pub EndsAs : DomainState → (g : ℕ) → Role → Type 0
EndsAs l g OfBody = (g ≡ 0) × ((fiber_at l.fibers g).context ≡ 0) × IsAlone l g 0
EndsAs l g (OfSwitch n daemon) =
    (0 < g)
    × (n < length l.switches)
    × ((switch_at l.switches n).finished ≡ false)
    × Contains (attached_to daemon (switch_at l.switches n)) g
    × ((fiber_at l.fibers g).context ≡ (switch_at l.switches n).context)
EndsAs l g (OfGroup n) =
    (0 < g) × (n < length l.groups) × (1 ≤ (group_at l.groups n).left) × ((fiber_at l.fibers g).context ≡ (group_at l.groups n).context)
EndsAs l g role = ⊥

-- ## All calls

abbrev pub IsMet : DomainState → (g : ℕ) → Ask → Type 0
IsMet l g (ask.Leave c late it) = MayLeave l g c
IsMet l g (ask.Close n came kept) = MayClose l g n
IsMet l g (ask.Join n own) = MayJoin l g n (is_some own)
IsMet l g (ask.End it) = (scopes_of l g ≡ []) × EndsAs l g (fiber_at l.fibers g).role
IsMet l g call = Unit {0}

-- the call of the head of the ready list: what it is, and what is so then
pub record Calls (l : DomainState) (g : ℕ) (others : List ℕ) : Type 0 where
  pub next : Next
  pub stands : (fiber_at l.fibers g).standing ≡ Ready next
  pub may : IsBuiltNext next
  pub settled : Settled
  pub settles : settled ≡ next_call next (off_for l g) (fiber_at l.fibers g) (carry_of (fiber_at l.fibers g) l)
  pub prepares : prepared l ≡ called_by g (fiber_at l.fibers g) settled (record l { ready = others })
  pub built : IsBuiltCall settled.call
  pub work : AreBuiltWork settled.behind
  pub lives : has_ended (fiber_at l.fibers g) ≡ false
  pub made : g < length l.fibers
  pub live : is_live l.contexts (fiber_at l.fibers g).context ≡ true
  pub met : IsMet l g settled.call
  -- there is room for it in the ready list, and for one more that lives
  pub room : length others < most_fibers
  pub among_live : length others + 1 ≤ live_fibers l.fibers

-- so it is where nothing is owed
abbrev pub MovesMayCall : Type 0
MovesMayCall = (l : DomainState) (g : ℕ) (others : List ℕ) → IsSoundState l → l.duties ≡ [] → l.ready ≡ g ∷ others → Calls l g others

-- a switch that isn't finished runs in a live context, and nobody is attached who wasn't made
pub record HasSoundSwitches (l : DomainState) : Type 0 where
  pub live : (n : ℕ) → (switch_at l.switches n).finished ≡ false → is_live l.contexts (switch_at l.switches n).context ≡ true
  pub made : (n : ℕ) → (switch_at l.switches n).finished ≡ false → n < length l.switches
  pub nobody_new : (n : ℕ) (daemon : Bool) → Contains (attached_to daemon (switch_at l.switches n)) (length l.fibers) → ⊥

abbrev pub SwitchesAreSound : Type 0
SwitchesAreSound = (l : DomainState) → IsSoundState l → HasSoundSwitches l
