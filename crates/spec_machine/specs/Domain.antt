-- What one domain is: its fibers and how each stands, its ready list and obligations, its contexts, switches and groups, and its clock.
-- Fibers, contexts, switches and groups are lists in which each stands at the place of its number; no number is used again. A fiber is parked from the
-- answer `waits` until its domain moves it on.
use Rattle.std.specs.Prelude.{ℕ, ◌+◌, ◌*◌, ◌^◌, Bool, true, false, not, nat_lt, List, [], ◌∷◌, ◌++◌, count_by, slice_get, slice_set, ℤ, pos, Option}
use Rattle.std.specs.Option.{unwrap_or}
use Rattle.eio_value.specs.declared.message.Waiter.{Waiter}
use Rattle.eio_value.specs.declared.plain.Plain.{Plain}
use Rattle.eio_value.specs.declared.raised.Outcome.{Outcome}
use Rattle.eio_value.specs.declared.raised.Outcome.TheVariants as outcome
use Rattle.eio_value.specs.declared.value.Value.{Value}
use Rattle.eio_value.specs.declared.value.Value.TheVariants as value
use Rattle.spec_parts.specs.Contexts.{Context, off}
use Rattle.spec_parts.specs.Groups.{Group}
use Rattle.spec_parts.specs.Switches.{Switch}
use Rattle.spec_parts.specs.Timers.{Timers, no_timers}
use Rattle.spec_fiber.specs.Asks.{Ask}
use Rattle.spec_fiber.specs.Replies.{Position}
use Rattle.spec_fiber.specs.Work.{Work}

-- ## Fibers

-- what a fiber was made for, which says what its end does: a body; a job; a fiber of a switch; a branch of a group; the copier of a writer
pub data Role : Type 0 where
  OfBody : Role
  OfJob : (executor number : ℕ) → Role
  OfSwitch : (switch : ℕ) → (daemon : Bool) → Role
  OfGroup : (group : ℕ) → Role
  OfWriter : (writer : ℕ) → Role

-- how a fiber goes on with its next move: with what its call came to; after a `yield`, by looking whether it was cancelled; after a call that would have
-- waited in a context that is off, by raising so; or by making this call again
pub data Next : Type 0 where
  GoesOn : Outcome → Next
  LooksUp : Next
  FindsOff : Next
  CallsAgain : Ask → Next

-- what a parked fiber waits in: a call on a shared object, which may have woken it; the clock; `await-cancel`; `close`, `join` or `shut`, which it calls again
-- once the fibers that it waits for have ended; or, as a copier, for something to write
pub data Wait : Type 0 where
  OnObject : Waiter → Wait
  Asleep : Wait
  ForCancel : Wait
  ForOthers : (call : Ask) → Wait
  Resting : Wait

pub data Standing : Type 0 where
  Ready : Next → Standing
  Parked : Wait → Standing
  Ended : Outcome → Standing

-- the context that it runs in, what it was made for, the resume word that its waits have, what it has still to do, its variables, and how it stands
pub record Fiber : Type 0 where
  pub context : ℕ
  pub role : Role
  pub cell : ℕ
  pub work : List Work
  pub variables : List Value
  pub standing : Standing

-- ## Obligations

-- what a domain owes: a strike on a fiber; to wake who waits for a promise or, with a new `Poisoned` for each, for a mutex; to start the jobs of an executor
pub data Owed : Type 0 where
  Strike : (fiber : ℕ) → Owed
  Wake : (object : ℕ) → (poisoned : Bool) → Owed
  Start : (executor : ℕ) → Owed

-- with the fiber whose call made it
pub record Duty : Type 0 where
  pub maker : ℕ
  pub owed : Owed

-- ## Resume words

-- those of a domain are numbered from 0 by the domain itself; each fiber has one from its making to its end. How many were ever had, and those that were given
-- back, the last one first
pub record Cells : Type 0 where
  pub had : ℕ
  pub back : List ℕ

-- ## The domain

pub record DomainState : Type 0 where
  pub number : ℕ
  pub fibers : List Fiber
  pub ready : List ℕ
  pub duties : List Duty
  pub contexts : List Context
  pub switches : List Switch
  pub groups : List Group
  pub cells : Cells
  pub texts : List (List ℕ)
  pub now : ℤ
  pub timers : Timers
  -- the number that the next raise has
  pub serial : ℕ
  -- of the last line, and how many lines there are
  pub stamp : ℕ
  pub lines : ℕ
  -- a limit was met
  pub halted : Bool

-- a domain of which nothing is made yet. No two domains give one number to raises: each has a series of its own
abbrev pub nothing_made : (number : ℕ) → (texts : List (List ℕ)) → DomainState
nothing_made number texts = record {
  number = number;
  fibers = [];
  ready = [];
  duties = [];
  contexts = [];
  switches = [];
  groups = [];
  cells = record { had = 0; back = [] };
  texts = texts;
  now = pos 0;
  timers = no_timers;
  serial = number * 2 ^ 56;
  stamp = 0;
  lines = 0;
  halted = false;
}

-- ## Fibers of a domain

-- what stands under a number that no fiber has: one that has ended
abbrev pub never_made : Fiber
never_made = record { context = 0; role = OfBody; cell = 0; work = []; variables = []; standing = Ended (outcome.Ok value.Unit) }

abbrev pub fiber_at : List Fiber → ℕ → Fiber
fiber_at fibers g = unwrap_or (slice_get fibers g) never_made

abbrev pub with_fiber : ℕ → Fiber → DomainState → DomainState
with_fiber g fiber l = record l { fibers = slice_set l.fibers g fiber }

abbrev pub has_ended : Fiber → Bool
has_ended fiber = elim fiber.standing [ Ended it ↦ true | Ready next ↦ false | Parked wait ↦ false ]

-- the reason by which a fiber's context is off
abbrev pub off_for : DomainState → (fiber : ℕ) → Option Plain
off_for l g = off l.contexts (fiber_at l.fibers g).context

-- how a fiber stands from now on
abbrev pub stands : Standing → ℕ → DomainState → DomainState
stands standing g l = with_fiber g (record (fiber_at l.fibers g) { standing = standing }) l

-- it stands first in the ready list
abbrev pub to_head : Next → ℕ → DomainState → DomainState
to_head next g l = let t : DomainState = stands (Ready next) g l in record t { ready = g ∷ t.ready }

-- it stands last in the ready list
abbrev pub to_back : Next → ℕ → DomainState → DomainState
to_back next g l = let t : DomainState = stands (Ready next) g l in record t { ready = t.ready ++ g ∷ [] }

-- it stands in another place of its work, with these variables
abbrev pub placed : Position → ℕ → DomainState → DomainState
placed position g l = with_fiber g (record (fiber_at l.fibers g) { work = position.work; variables = position.variables }) l

-- it runs in another context
abbrev pub moved_to : (context : ℕ) → ℕ → DomainState → DomainState
moved_to context g l = with_fiber g (record (fiber_at l.fibers g) { context = context }) l

-- ## Making and ending

abbrev pub most_fibers : ℕ
most_fibers = 1024

abbrev pub live_fibers : List Fiber → ℕ
live_fibers fibers = count_by (λ fiber. not (has_ended fiber)) fibers

-- whether so many more would be too many
abbrev pub is_full_by : (more : ℕ) → List Fiber → Bool
is_full_by more fibers = nat_lt most_fibers (live_fibers fibers + more)

abbrev pub next_cell : Cells → ℕ
next_cell cells = elim cells.back [ [] ↦ cells.had | cell ∷ others ↦ cell ]

abbrev pub behind_next_cell : Cells → Cells
behind_next_cell cells = elim cells.back [ [] ↦ record cells { had = cells.had + 1 } | cell ∷ others ↦ record cells { back = others } ]

-- a new fiber, whose number is the next; it stands in no list yet
abbrev pub made : (context : ℕ) → Role → Position → DomainState → DomainState
made context role position l =
    let fiber : Fiber = record {
      context = context;
      role = role;
      cell = next_cell l.cells;
      work = position.work;
      variables = position.variables;
      standing = Ready (GoesOn (outcome.Ok value.Unit));
    } in
    record l { fibers = l.fibers ++ fiber ∷ []; cells = behind_next_cell l.cells }

-- a fiber has ended with this; its resume word is free again
abbrev pub ended : Outcome → ℕ → DomainState → DomainState
ended result g l =
    let fiber : Fiber = fiber_at l.fibers g in
    let t : DomainState = with_fiber g (record fiber { work = []; variables = []; standing = Ended result }) l in
    record t { cells = record (l.cells) { back = fiber.cell ∷ l.cells.back } }

-- ## Waits on shared objects

abbrev pub cells_of_each : ℕ
cells_of_each = 1024

-- the wait that a fiber's next call on an object would have: it is named by the stamp with which it would be armed
abbrev pub wait_of : DomainState → (fiber : ℕ) → Waiter
wait_of l g = record { domain = l.number; fiber = g; cell = cells_of_each * l.number + (fiber_at l.fibers g).cell; armed = l.stamp + 1 }
