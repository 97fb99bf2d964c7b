-- What comes of a move: the domain after it and its line, where the answers that calls share are texted.
use Rattle.std.proofs.Common.{ℕ, Bool, Option, Some, None}
use Rattle.eio_value.specs.declared.plain.Misuse.{Misuse}
use Rattle.eio_value.specs.declared.plain.Plain.{Plain}
use Rattle.eio_value.specs.declared.plain.Plain.TheVariants.{Invalid}
use Rattle.eio_value.specs.declared.raised.Outcome.{Outcome}
use Rattle.eio_value.specs.declared.raised.Outcome.TheVariants as outcome
use Rattle.eio_value.specs.declared.raised.Raised.TheVariants.{One, Cancelled}
use Rattle.eio_value.specs.declared.value.Value.{Value}
use Rattle.eio_value.specs.declared.value.Value.TheVariants as value
use Rattle.spec_parts.specs.Contexts.{new_context, make}
use Rattle.spec_script.specs.Scripts.{Script}
use Rattle.spec_fiber.specs.Replies.{Position}
use Rattle.trace_lines.specs.declared.line.Did.{Did}
use Rattle.trace_lines.specs.declared.line.Said2.{Said2}
use Rattle.spec_machine.specs.Domain.{Role, Next, GoesOn, LooksUp, FindsOff, Wait, Standing, Ready, Parked, DomainState, fiber_at, off_for, stands, to_head, to_back, placed, moved_to, made, ended}
use Rattle.spec_machine.specs.Steps.{Step, told, member, reply_of, answers, does, raises, raises_cancelled, yields, waits, goes_off, waits_unless_off, enters, halts, in_new, unless_off, cancels}
use Rattle.spec_machine.specs.ContextMoves.{leaves, enters_context}
use Rattle.law_fiber.specs.Texts.Texts.{IsHeldOutcome, known_in}
use Rattle.law_domain.specs.Texts.Domains.{IsTextedNext, IsTextedWait, IsTextedStanding, IsTextedPosition, IsKnownReason, IsTexted, IsTextedDid, IsTextedReply}
use Rattle.law_domain.proofs.Texts.Parts.{with_fiber_texted, and_fiber_texted, ended_texted, cancel_texted, make_texted, off_known}
use Rattle.law_fiber.proofs.Texts.Passing.{invalid_known}

-- the domain, and what the line shows
pub record IsTextedStep (script : Script) (step : Step) : Type 0 where
  pub state : IsTexted script step.state
  pub call : IsTextedDid script step.did
  pub answer : IsTextedReply script step.reply

module _ (script : Script) where
  pub reply_texted : (it : Outcome) → IsHeldOutcome (known_in script) it → IsTextedReply script (reply_of it)
  reply_texted (outcome.Ok it) is = is
  reply_texted (outcome.Err raised) is = is

  module _ (l : DomainState) (is : IsTexted script l) where
    -- ## Fibers

    pub stands_texted : (standing : Standing) (g : ℕ) → IsTextedStanding script standing → IsTexted script (stands standing g l)
    stands_texted standing g so =
        with_fiber_texted script is g (record (fiber_at l.fibers g) { standing = standing }) (record { place = (is.each_fiber g).place; stands = so })

    pub head_texted : (next : Next) (g : ℕ) → IsTextedNext script next → IsTexted script (to_head next g l)
    head_texted next g so = stands_texted (Ready next) g so

    pub back_texted : (next : Next) (g : ℕ) → IsTextedNext script next → IsTexted script (to_back next g l)
    back_texted next g so = stands_texted (Ready next) g so

    pub placed_texted : (position : Position) (g : ℕ) → IsTextedPosition script position → IsTexted script (placed position g l)
    placed_texted position g so =
        with_fiber_texted script is g (record (fiber_at l.fibers g) { work = position.work; variables = position.variables })
        (record { place = record { behind = so.behind; values = so.values }; stands = (is.each_fiber g).stands })

    pub moved_texted : (context g : ℕ) → IsTexted script (moved_to context g l)
    moved_texted context g =
        with_fiber_texted script is g (record (fiber_at l.fibers g) { context = context })
        (record { place = (is.each_fiber g).place; stands = (is.each_fiber g).stands })

    pub made_texted : (context : ℕ) (role : Role) (position : Position) → IsTextedPosition script position → IsTexted script (made context role position l)
    made_texted context role position so =
        and_fiber_texted script is _ (record { place = record { behind = so.behind; values = so.values }; stands = tt })

    pub end_texted : (result : Outcome) (g : ℕ) → IsHeldOutcome (known_in script) result → IsTexted script (ended result g l)
    end_texted result g so = with_fiber_texted script is g _ (record { place = record { behind = tt; values = tt }; stands = so })

    pub leaves_texted : (context g : ℕ) → IsTexted script (leaves context g l)
    leaves_texted context g =
        let one = ended_texted script is context in
        with_fiber_texted script one g _ (record { place = (is.each_fiber g).place; stands = (is.each_fiber g).stands })

    -- ## Answers

    pub answers_texted : (it : Did) (result : Outcome) (g : ℕ) → IsTextedDid script it → IsHeldOutcome (known_in script) result
        → IsTextedStep script (answers it result g l)
    answers_texted it result g told so = record { state = head_texted (GoesOn result) g so; call = told; answer = reply_texted result so }

    pub does_texted : (it : Did) (g : ℕ) → IsTextedDid script it → IsTextedStep script (does it g l)
    does_texted it g told = answers_texted it (outcome.Ok value.Unit) g told tt

    pub raises_texted : (it : Did) (what : Plain) (g : ℕ) → IsTextedDid script it → (known_in script).exception what → IsTextedStep script (raises it what g l)
    raises_texted it what g told known =
        record { state = head_texted (GoesOn (outcome.Err (One (member what l)))) g known; call = told; answer = known }

    pub refuses_texted : (it : Did) (why : Misuse) (g : ℕ) → IsTextedDid script it → IsTextedStep script (raises it (Invalid why) g l)
    refuses_texted it why g told = raises_texted it (Invalid why) g told (invalid_known script why)

    pub cancelled_texted : (it : Did) (why : Plain) (g : ℕ) → IsTextedDid script it → (known_in script).exception why
        → IsTextedStep script (raises_cancelled it why g l)
    cancelled_texted it why g told known =
        record { state = head_texted (GoesOn (outcome.Err (Cancelled (member why l)))) g known; call = told; answer = known }

    pub yields_texted : (it : Did) (g : ℕ) → IsTextedDid script it → IsTextedStep script (yields it g l)
    yields_texted it g told = record { state = back_texted LooksUp g tt; call = told; answer = tt }

    pub waits_texted : (it : Did) (wait : Wait) (g : ℕ) → IsTextedDid script it → IsTextedWait script wait → IsTextedStep script (waits it wait g l)
    waits_texted it wait g told so = record { state = stands_texted (Parked wait) g so; call = told; answer = tt }

    pub goes_off_texted : (it : Did) (g : ℕ) → IsTextedDid script it → IsTextedStep script (goes_off it g l)
    goes_off_texted it g told = record { state = back_texted FindsOff g tt; call = told; answer = tt }

    pub halts_texted : (g : ℕ) → IsTextedStep script (halts g l)
    halts_texted g = record { state = is; call = tt; answer = tt }

    -- by whether the fiber's context is off
    pub off_texted : (g : ℕ) → IsKnownReason script (off_for l g)
    off_texted g = off_known script is (fiber_at l.fibers g).context

    pub unless_off_texted : (it : Did) (g : ℕ) (next : (ignored : Value) → Step) → IsTextedDid script it → IsTextedStep script (next value.Unit)
        → IsTextedStep script (unless_off it g l next)
    unless_off_texted it g next told so = by (off_for l g) (off_texted g)
      where
        by : (found : Option Plain) → IsKnownReason script found
            → IsTextedStep script (elim found [ Some why ↦ raises_cancelled it why g l | None ↦ next value.Unit ])
        by (Some why) known = cancelled_texted it why g told known
        by None known = so

    pub waits_unless_off_texted : (it : Did) (wait : Wait) (g : ℕ) → IsTextedDid script it → IsTextedWait script wait
        → IsTextedStep script (waits_unless_off it wait g l)
    waits_unless_off_texted it wait g told so = by (off_for l g)
      where
        by : (found : Option Plain) → IsTextedStep script (elim found [ Some why ↦ goes_off it g l | None ↦ waits it wait g l ])
        by (Some why) = goes_off_texted it g told
        by None = waits_texted it wait g told so

    -- ## Contexts

    pub cancels_texted : (maker context : ℕ) (why : Plain) → (known_in script).exception why → IsTexted script (cancels maker context why l)
    cancels_texted maker context why known = cancel_texted script is context why known

    -- into a new context, or a limit is met
    pub in_new_texted : (parent : Option ℕ) (protected : Bool) (g : ℕ) (next : (context : ℕ) → DomainState → Step)
        → ((context : ℕ) (m : DomainState) → IsTexted script m → IsTextedStep script (next context m))
        → IsTextedStep script (in_new (make (new_context parent protected) l.contexts) g l next)
    in_new_texted parent protected g next nexts = by (make (new_context parent protected) l.contexts).number
      where
        by : (number : Option ℕ) → IsTextedStep script (elim number [
          | None ↦ halts g l
          | Some context ↦ next context (record l { contexts = (make (new_context parent protected) l.contexts).contexts })
        ])
        by None = halts_texted g
        by (Some context) =
            nexts context (record l { contexts = (make (new_context parent protected) l.contexts).contexts })
            (make_texted script is (new_context parent protected) tt)

  pub enters_texted : (it : Did) (reply : Said2) (position : Position) (g : ℕ) (l : DomainState) → IsTexted script l → IsTextedDid script it
      → IsTextedReply script reply → IsTextedPosition script position → IsTextedStep script (enters it reply position g l)
  enters_texted it reply position g l is told answered so = record {
    state = head_texted (placed position g l) (placed_texted l is position g so) (GoesOn (outcome.Ok value.Unit)) g tt;
    call = told;
    answer = answered;
  }

  pub enters_context_texted : (it : Did) (reply : Said2) (context : ℕ) (position : Position) (g : ℕ) (l : DomainState) → IsTexted script l
      → IsTextedDid script it → IsTextedReply script reply → IsTextedPosition script position
      → IsTextedStep script (enters_context it reply context position g l)
  enters_context_texted it reply context position g l is told answered so =
      enters_texted it reply position g (moved_to context g l) (moved_texted l is context g) told answered so
