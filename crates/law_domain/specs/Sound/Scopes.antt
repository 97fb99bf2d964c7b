-- What a fiber has gone into and not left: contexts, switches and groups, which lie in one another.
-- The end of each is a mark in the fiber's work, in order, the innermost first; and while the fiber stands at such an end, whose mark is off the work, it is
-- what the fiber calls. Each of them has a context, in which the fiber runs that is inside; the context above it is that of the scope around it or, around the
-- outermost, the one in which the fiber began. That silent statements leave all scopes as they are is the law `scopes_settle`.
use Rattle.std.specs.Prelude.{◌≡◌, ◌<◌, ℕ, Bool, true, false, is_some, List, [], ◌∷◌, ◌++◌, slice_get, Some}
use Rattle.spec_parts.specs.Contexts.{context_at, is_live}
use Rattle.spec_parts.specs.Groups.{group_at}
use Rattle.spec_parts.specs.Switches.{switch_at}
use Rattle.spec_fiber.specs.Asks as ask
use Rattle.spec_fiber.specs.Asks.{Ask}
use Rattle.spec_fiber.specs.Work.{Work, Leave, Close, Closing, Join}
use Rattle.spec_machine.specs.Domain.{Role, OfSwitch, OfGroup, CallsAgain, ForOthers, Standing, Ready, Parked, Fiber, DomainState, fiber_at, has_ended}

-- a group is told with whether the fiber's own branch of it still runs
pub data Entered : Type 0 where
  InContext : (context : ℕ) → Entered
  InSwitch : (switch : ℕ) → Entered
  InGroup : (group : ℕ) → (own : Bool) → Entered

-- ## The scopes of a fiber

-- of its work. While a handler runs, its context lies in the switch that closes
abbrev pub scopes_in : List Work → List Entered
scopes_in [] = []
scopes_in (Leave context late keep ∷ items) = InContext context ∷ scopes_in items
scopes_in (Close switch keep ∷ items) = InSwitch switch ∷ scopes_in items
scopes_in (Closing switch kept ∷ items) = InSwitch switch ∷ scopes_in items
scopes_in (Join group keep ∷ items) = InGroup group true ∷ scopes_in items
scopes_in (item ∷ items) = scopes_in items

-- the scope at whose end a call is made
abbrev pub called_scope : Ask → List Entered
called_scope (ask.Leave context late it) = InContext context ∷ []
called_scope (ask.Close switch came kept) = InSwitch switch ∷ []
called_scope (ask.Join group own) = InGroup group (is_some own) ∷ []
called_scope call = []

-- whether it is made at the end of the fiber
abbrev pub is_end : Ask → Bool
is_end (ask.End it) = true
is_end call = false

-- the one at whose end a fiber stands, if it waits for that or is to call again
abbrev pub scope_held : Standing → List Entered
scope_held (Ready (CallsAgain call)) = called_scope call
scope_held (Parked (ForOthers call)) = called_scope call
scope_held standing = []

-- all of them, the innermost first
abbrev pub scopes : Fiber → List Entered
scopes fiber = scope_held fiber.standing ++ scopes_in fiber.work

abbrev pub scopes_of : DomainState → (fiber : ℕ) → List Entered
scopes_of l g = scopes (fiber_at l.fibers g)

-- ## Their contexts

abbrev pub context_in : DomainState → Entered → ℕ
context_in l (InContext context) = context
context_in l (InSwitch switch) = (switch_at l.switches switch).context
context_in l (InGroup group own) = (group_at l.groups group).context

-- the context that a fiber of this role began in
abbrev pub base_of : DomainState → Role → ℕ
base_of l (OfSwitch switch daemon) = (switch_at l.switches switch).context
base_of l (OfGroup group) = (group_at l.groups group).context
base_of l role = 0

-- these scopes lie in one another, from this context up to that in which the fiber began
abbrev pub Nests : DomainState → (base : ℕ) → List Entered → (context : ℕ) → Type 0
Nests l base [] context = context ≡ base
Nests l base (scope ∷ others) context = (context_in l scope ≡ context) × (parent : ℕ) × ((context_at l.contexts context).parent ≡ Some parent) × Nests l base others parent

-- ## Where a scope is

-- a fiber that lives has this scope at this place, by what scopes each fiber has
pub record ScopeAt (held : ℕ → List Entered) (l : DomainState) (scope : Entered) (g place : ℕ) : Type 0 where
  pub lives : has_ended (fiber_at l.fibers g) ≡ false
  pub there : slice_get (held g) place ≡ Some scope

-- this switch isn't finished
abbrev pub IsUnfinished : DomainState → Entered → Type 0
IsUnfinished l (InSwitch switch) = (switch_at l.switches switch).finished ≡ false
IsUnfinished l scope = Unit {0}

-- what holds of a scope that a fiber is in: its context is live, and isn't that of the body
pub record IsEntered (l : DomainState) (scope : Entered) : Type 0 where
  pub low : 0 < context_in l scope
  pub live : is_live l.contexts (context_in l scope) ≡ true
  pub unfinished : IsUnfinished l scope
