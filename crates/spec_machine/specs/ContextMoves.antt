-- Calls on contexts.
-- `sub` and `protect` make a context below the caller's, in which the block runs; its end is `leave`. `sub` is refused in a context that is off, `protect` isn't.
use Rattle.std.specs.Prelude.{ℕ, Bool, true, false, Some, None}
use Rattle.std.specs.Option.{unwrap_or}
use Rattle.eio_value.specs.declared.plain.Misuse.TheVariants.{SwitchFinished, ContextFinished}
use Rattle.eio_value.specs.declared.plain.Plain.TheVariants.{Failure, Invalid}
use Rattle.eio_value.specs.declared.raised.Outcome.{Outcome}
use Rattle.eio_value.specs.declared.raised.Outcome.TheVariants as outcome
use Rattle.eio_value.specs.declared.value.TextId.{TextId}
use Rattle.eio_value.specs.declared.value.Value.TheVariants as value
use Rattle.spec_parts.specs.Contexts.{Made, sub, protect, end, context_at, is_live}
use Rattle.spec_fiber.specs.Asks.{Ask}
use Rattle.spec_fiber.specs.Replies.{Position, entered}
use Rattle.trace_lines.specs.declared.line.Did.{Did}
use Rattle.trace_lines.specs.declared.line.Did.TheVariants as did
use Rattle.trace_lines.specs.declared.line.Said2.{Said2}
use Rattle.trace_lines.specs.declared.line.Said2.TheVariants as said
use Rattle.spec_machine.specs.Domain.{Fiber, DomainState, fiber_at, moved_to, off_for}
use Rattle.spec_machine.specs.Steps.{Step, does, raises, raises_again, raises_cancelled, answers, enters, in_new, unless_off, cancels}

abbrev pub context_of : DomainState → (fiber : ℕ) → ℕ
context_of l g = (fiber_at l.fibers g).context

-- a new context below that of a fiber
abbrev pub sub_of : DomainState → (fiber : ℕ) → Made
sub_of l g = sub (context_of l g) l.contexts

-- the same, where no cancellation comes down to it
abbrev pub protected_of : DomainState → (fiber : ℕ) → Made
protected_of l g = protect (context_of l g) l.contexts

-- ## Going into a block, and its end

-- where a fiber stands before the block of its call, which was answered with this number
abbrev pub before_block : Ask → (number : ℕ) → (fiber : ℕ) → DomainState → Position
before_block call number g l = (let fiber : Fiber = fiber_at l.fibers g in entered call number fiber.work fiber.variables)

-- into a block that runs in this context
abbrev pub enters_context : Did → Said2 → (context : ℕ) → Position → (fiber : ℕ) → DomainState → Step
enters_context it reply context position g l = enters it reply position g (moved_to context g l)

-- the context has ended, and the fiber runs again in the one above it
abbrev pub leaves : (context : ℕ) → (fiber : ℕ) → DomainState → DomainState
leaves context g l = moved_to (unwrap_or (context_at l.contexts context).parent 0) g (record l { contexts = end context l.contexts })

-- ## The calls

abbrev pub subs : Ask → (fiber : ℕ) → DomainState → Step
subs call g l = unless_off did.Sub g l (λ _. in_new (sub_of l g) g l (λ c m. enters_context did.Sub (said.Done (value.Ctx c)) c (before_block call c g m) g m))

abbrev pub protects : Ask → (fiber : ℕ) → DomainState → Step
protects call g l = in_new (protected_of l g) g l (λ c m. enters_context did.Protect (said.Done (value.Ctx c)) c (before_block call c g m) g m)

-- what came to the end of the block passes on, but for the value of a handler of a switch that had finished
abbrev pub left_with : (context : ℕ) → (late : Bool) → Outcome → (fiber : ℕ) → DomainState → Step
left_with c true (outcome.Ok it) g l = raises (did.Leave c) (Invalid SwitchFinished) g l
left_with c late (outcome.Ok it) g l = record (answers (did.Leave c) (outcome.Ok it) g l) { reply = said.Done value.Unit }
left_with c late (outcome.Err raised) g l = raises_again (did.Leave c) raised g l

abbrev pub leave : (context : ℕ) → (late : Bool) → Outcome → (fiber : ℕ) → DomainState → Step
leave c late it g l = left_with c late it g (leaves c g l)

-- a context that has ended can't be cancelled any more
abbrev pub cancel : (context : ℕ) → TextId → (fiber : ℕ) → DomainState → Step
cancel c text g l = elim (is_live l.contexts c) [
  | true ↦ does (did.Cancel c text) g (cancels g c (Failure text) l)
  | false ↦ raises (did.Cancel c text) (Invalid ContextFinished) g l
]

abbrev pub check : (fiber : ℕ) → DomainState → Step
check g l = elim (off_for l g) [ Some why ↦ raises_cancelled did.Check why g l | None ↦ does did.Check g l ]
