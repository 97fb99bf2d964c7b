-- How a move begins: what the domain does next. That is its first obligation; else the next call of the head of its ready list, up to which that fiber runs its
-- silent statements; else, where a timer stands, a jump of the clock.
use Rattle.std.specs.Prelude.{ℕ, List, [], ◌∷◌, Option, Some, None}
use Rattle.std.specs.Option.{unwrap_or}
use Rattle.eio_value.specs.declared.plain.Member.{Member}
use Rattle.eio_value.specs.declared.plain.Plain.{Plain}
use Rattle.eio_value.specs.declared.plain.Plain.TheVariants.{Exit}
use Rattle.eio_value.specs.declared.raised.Outcome.TheVariants as outcome
use Rattle.eio_value.specs.declared.raised.Raised.TheVariants.{Cancelled}
use Rattle.eio_value.specs.declared.value.Value.TheVariants as value
use Rattle.spec_fiber.specs.Asks.{Ask}
use Rattle.spec_fiber.specs.Replies.{passed}
use Rattle.spec_fiber.specs.Settling.{Settled, thrown}
use Rattle.spec_fiber.specs.Work.{Carry, new_raise}
use Rattle.spec_machine.specs.Domain.{Role, OfWriter, Next, GoesOn, LooksUp, FindsOff, CallsAgain, Standing, Ready, Parked, Ended, Fiber, Duty, DomainState, fiber_at, with_fiber, off_for}

-- what the domain does next: nothing; what it owes; a call of a fiber; a move of a writer's copier; or a jump of the clock
pub data Doing : Type 0 where
  Rests : Doing
  Owes : Duty → Doing
  Calls : (fiber : ℕ) → Ask → Doing
  Carries : (fiber writer : ℕ) → Doing
  Ticks : Doing

-- and the domain then: the obligation or the fiber is out of its list, and the fiber's silent statements are done; with the raises that these made, in order
pub record Prepared : Type 0 where
  pub doing : Doing
  pub state : DomainState
  pub raises : List Member

-- where no silent statements are run
abbrev pub at_once : Doing → DomainState → Prepared
at_once doing l = record { doing = doing; state = l; raises = [] }

-- ## The call of a fiber

-- a cancellation that a fiber finds by itself: a new raise for this reason
abbrev pub found_off : Plain → Fiber → Carry → Settled
found_off why fiber c = new_raise why c (λ x d. thrown fiber.work (Cancelled x) d)

-- the fiber's next call, by how it goes on and by the reason for which its context is off
abbrev pub next_call : Next → (off : Option Plain) → Fiber → Carry → Settled
next_call (GoesOn it) off fiber c = passed it fiber.work c
next_call LooksUp (Some why) fiber c = found_off why fiber c
next_call LooksUp None fiber c = passed (outcome.Ok value.Unit) fiber.work c
next_call FindsOff off fiber c = found_off (unwrap_or off Exit) fiber c
next_call (CallsAgain call) off fiber c = record { call = call; behind = fiber.work; carry = c }

-- the fiber stands behind its call, with what its silent statements have changed
abbrev pub called_by : ℕ → Fiber → Settled → DomainState → Prepared
called_by g fiber settled l =
    let t : DomainState = with_fiber g (record fiber { work = settled.behind; variables = settled.carry.variables }) l in
    record { doing = Calls g settled.call; state = record t { texts = settled.carry.texts; serial = settled.carry.serial }; raises = settled.carry.raises }

abbrev pub carry_of : Fiber → DomainState → Carry
carry_of fiber l = record { variables = fiber.variables; texts = l.texts; serial = l.serial; raises = [] }

-- a copier has no statements
abbrev pub moves_of : Role → ℕ → Fiber → Next → DomainState → Prepared
moves_of (OfWriter writer) g fiber next l = at_once (Carries g writer) l
moves_of role g fiber next l = called_by g fiber (next_call next (off_for l g) fiber (carry_of fiber l)) l

-- only fibers that are ready stand in the ready list, so that the other cases never come
abbrev pub next_of : Standing → Next
next_of (Ready next) = next
next_of (Parked wait) = GoesOn (outcome.Ok value.Unit)
next_of (Ended it) = GoesOn it

abbrev pub moves : ℕ → Fiber → DomainState → Prepared
moves g fiber l = moves_of fiber.role g fiber (next_of fiber.standing) l

-- ## The move

abbrev pub prepared_timers : DomainState → Prepared
prepared_timers l = elim l.timers.standing [ [] ↦ at_once Rests l | timer ∷ others ↦ at_once Ticks l ]

abbrev pub prepared_ready : DomainState → Prepared
prepared_ready l = elim l.ready [ [] ↦ prepared_timers l | g ∷ others ↦ moves g (fiber_at l.fibers g) (record l { ready = others }) ]

-- what the domain does next, a message aside
unfoldable pub prepared : DomainState → Prepared
prepared l = elim l.duties [ [] ↦ prepared_ready l | duty ∷ others ↦ at_once (Owes duty) (record l { duties = others }) ]
