-- What comes of a move: the domain after it, and what its line tells. And the answers that calls share: a fiber that calls goes on at the head of the ready list,
-- goes to its back, waits, or goes into a block; or a limit is met, which halts the domain.
use Rattle.std.specs.Prelude.{ℕ, ◌+◌, Bool, true, false, List, [], ◌∷◌, ◌++◌, map, Option, Some, None}
use Rattle.eio_value.specs.declared.plain.Member.{Member}
use Rattle.eio_value.specs.declared.plain.Plain.{Plain}
use Rattle.eio_value.specs.declared.raised.Outcome.{Outcome}
use Rattle.eio_value.specs.declared.raised.Outcome.TheVariants as outcome
use Rattle.eio_value.specs.declared.raised.Raised.{Raised}
use Rattle.eio_value.specs.declared.raised.Raised.TheVariants.{One, Cancelled}
use Rattle.eio_value.specs.declared.value.Value.{Value}
use Rattle.eio_value.specs.declared.value.Value.TheVariants as value
use Rattle.eio_value.specs.Joining.{members_of}
use Rattle.spec_parts.specs.Contexts.{Waiting, Made, cancel, to_be_struck}
use Rattle.spec_fiber.specs.Replies.{Position}
use Rattle.trace_lines.specs.declared.line.Did.{Did}
use Rattle.trace_lines.specs.declared.line.Did.TheVariants as did
use Rattle.trace_lines.specs.declared.line.Said2.{Said2}
use Rattle.trace_lines.specs.declared.line.Said2.TheVariants as said
use Rattle.spec_machine.specs.Domain.{GoesOn, LooksUp, FindsOff, Wait, ForOthers, Resting, Ready, Parked, Ended, Fiber, Duty, Strike, DomainState, stands, to_head, to_back, placed, off_for}

-- the domain, and of its line the fiber, the call and the reply; and the raises that were made, in order
pub record Step : Type 0 where
  pub state : DomainState
  pub fiber : ℕ
  pub did : Did
  pub reply : Said2
  pub raises : List Member

abbrev pub told : (fiber : ℕ) → Did → Said2 → DomainState → Step
told g it reply l = record { state = l; fiber = g; did = it; reply = reply; raises = [] }

-- ## Raises

abbrev pub member : Plain → DomainState → Member
member what l = record { serial = l.serial; what = what }

abbrev pub counted : DomainState → DomainState
counted l = record l { serial = l.serial + 1 }

-- with these raises before its own
abbrev pub with_raises : List Member → Step → Step
with_raises new step = record step { raises = new ++ step.raises }

-- a new raise of this exception: it takes the next number of the domain's series, and is listed
abbrev pub new_raise : Plain → DomainState → (Member → DomainState → Step) → Step
new_raise what l then = with_raises (member what l ∷ []) (then (member what l) (counted l))

-- ## Answers

-- the reply that tells what something came to
abbrev pub reply_of : Outcome → Said2
reply_of (outcome.Ok it) = said.Done it
reply_of (outcome.Err raised) = said.Raised raised

-- the fiber goes on at the head with this, which is also the reply
abbrev pub answers : Did → Outcome → (fiber : ℕ) → DomainState → Step
answers it result g l = told g it (reply_of result) (to_head (GoesOn result) g l)

abbrev pub gives : Did → Value → (fiber : ℕ) → DomainState → Step
gives it given g l = answers it (outcome.Ok given) g l

-- a call that gives nothing
abbrev pub does : Did → (fiber : ℕ) → DomainState → Step
does it g l = gives it value.Unit g l

-- the fiber raises what was raised before
abbrev pub raises_again : Did → Raised → (fiber : ℕ) → DomainState → Step
raises_again it raised g l = answers it (outcome.Err raised) g l

-- the fiber raises this anew
abbrev pub raises : Did → Plain → (fiber : ℕ) → DomainState → Step
raises it what g l = new_raise what l (λ x m. raises_again it (One x) g m)

abbrev pub raises_cancelled : Did → (reason : Plain) → (fiber : ℕ) → DomainState → Step
raises_cancelled it why g l = new_raise why l (λ x m. raises_again it (Cancelled x) g m)

-- the fiber raises what its call raised outside, by the number that the call was given
abbrev pub raises_given : Did → Raised → (fiber : ℕ) → DomainState → Step
raises_given it raised g l = with_raises (members_of raised) (raises_again it raised g (counted l))

-- the fiber goes to the back, and on moving again looks whether it was cancelled
abbrev pub yields : Did → (fiber : ℕ) → DomainState → Step
yields it g l = told g it said.Back (to_back LooksUp g l)

abbrev pub waits : Did → Wait → (fiber : ℕ) → DomainState → Step
waits it wait g l = told g it said.Waits (stands (Parked wait) g l)

-- it would wait, but its context is off: it goes to the back and raises that when it moves again
abbrev pub goes_off : Did → (fiber : ℕ) → DomainState → Step
goes_off it g l = told g it said.Off (to_back FindsOff g l)

-- a wait on no object
abbrev pub waits_unless_off : Did → Wait → (fiber : ℕ) → DomainState → Step
waits_unless_off it wait g l = elim (off_for l g) [ Some why ↦ goes_off it g l | None ↦ waits it wait g l ]

-- the fiber goes into a block
abbrev pub enters : Did → Said2 → Position → (fiber : ℕ) → DomainState → Step
enters it reply position g l = told g it reply (to_head (GoesOn (outcome.Ok value.Unit)) g (placed position g l))

-- ## Limits

-- the move in the place of a call that would pass a limit
abbrev pub halts : (fiber : ℕ) → DomainState → Step
halts g l = told g did.Limit (said.Done value.Unit) (record l { halted = true })

-- in a new context, or a limit is met
abbrev pub in_new : Made → (fiber : ℕ) → DomainState → ((context : ℕ) → DomainState → Step) → Step
in_new made g l then = elim made.number [ None ↦ halts g l | Some context ↦ then context (record l { contexts = made.contexts }) ]

-- a call that is refused in a context that is off
abbrev pub unless_off : Did → (fiber : ℕ) → DomainState → ((ignored : Value) → Step) → Step
unless_off it g l then = elim (off_for l g) [ Some why ↦ raises_cancelled it why g l | None ↦ then value.Unit ]

-- ## Cancelling

-- whether a cancellation ends a wait: all but those for other fibers, and a copier's
abbrev pub can_be_cancelled : Wait → Bool
can_be_cancelled (ForOthers call) = false
can_be_cancelled Resting = false
can_be_cancelled wait = true

abbrev pub waiting_one : (fiber : ℕ) → Fiber → Option Waiting
waiting_one g fiber = elim fiber.standing [
  | Parked wait ↦ elim (can_be_cancelled wait) [ true ↦ Some (record { fiber = g; context = fiber.context }) | false ↦ None ]
  | Ready next ↦ None
  | Ended it ↦ None
]

abbrev pub with_waiting : Option Waiting → List Waiting → List Waiting
with_waiting None others = others
with_waiting (Some one) others = one ∷ others

-- the fibers that are parked in a wait that can be cancelled, in order of their numbers, the first of which is given
unfoldable pub waiting_from : (fiber : ℕ) → List Fiber → List Waiting
waiting_from g [] = []
waiting_from g (fiber ∷ fibers) = with_waiting (waiting_one g fiber) (waiting_from (g + 1) fibers)

abbrev pub strike_by : (maker fiber : ℕ) → Duty
strike_by maker g = record { maker = maker; owed = Strike g }

-- a context is cancelled. Where that takes effect, the domain owes one strike for each waiting fiber that it reaches
abbrev pub cancels : (maker context : ℕ) → (reason : Plain) → DomainState → DomainState
cancels maker context why l = record l {
  contexts = cancel context why l.contexts;
  duties = l.duties ++ map (strike_by maker) (to_be_struck l.contexts (waiting_from 0 l.fibers) context);
}
