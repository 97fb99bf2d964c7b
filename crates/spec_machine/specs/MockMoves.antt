-- How a fiber goes on by what the mocked outside answered: flows, readers, writers and directories.
-- A writer has a copier: a fiber of its own in a protected context, made with the writer, first in the ready list. Whoever puts something wakes a copier that rests;
-- `shut` wakes it too, and waits until it has ended.
use Rattle.std.specs.Prelude.{ℕ, ◌==◌, Bool, true, false, ◌&&◌, List, [], ◌∷◌, length, position, Option, Some, None}
use Rattle.eio_value.specs.declared.mock_call.Extra.{Extra}
use Rattle.eio_value.specs.declared.mock_call.Extra.TheVariants as extra
use Rattle.eio_value.specs.declared.mock_call.Said.{Said}
use Rattle.eio_value.specs.declared.mock_call.Said.TheVariants.{Nothing}
use Rattle.eio_value.specs.declared.raised.Outcome.TheVariants as outcome
use Rattle.eio_value.specs.declared.value.Value.{Value}
use Rattle.eio_value.specs.declared.value.Value.TheVariants as value
use Rattle.eio_value.specs.Table.{text_at}
use Rattle.spec_fiber.specs.Asks as ask
use Rattle.spec_fiber.specs.Asks.{Ask, again, passing}
use Rattle.spec_fiber.specs.Evaluation.{number_in}
use Rattle.trace_lines.specs.declared.line.Did.TheVariants as did
use Rattle.trace_lines.specs.declared.line.Said2.TheVariants as said
use Rattle.spec_machine.specs.Domain.{Role, OfWriter, GoesOn, CallsAgain, ForOthers, Resting, Standing, Parked, Fiber, DomainState, made, stands, to_head, to_back}
use Rattle.spec_machine.specs.Steps.{Step, told, answers, raises_given, enters, in_new}
use Rattle.spec_machine.specs.ContextMoves.{protected_of, before_block}
use Rattle.spec_machine.specs.SwitchMoves.{woken_if}
use Rattle.spec_machine.specs.EndMoves.{ends}

-- ## Copiers

abbrev pub is_copier_of : (writer : ℕ) → Role → Bool
is_copier_of writer (OfWriter other) = writer == other
is_copier_of writer role = false

abbrev pub is_resting : Standing → Bool
is_resting (Parked Resting) = true
is_resting standing = false

-- the copier of this writer that has nothing to write
abbrev pub resting_copier : (writer : ℕ) → List Fiber → Option ℕ
resting_copier writer fibers = position (λ fiber. is_copier_of writer fiber.role && is_resting fiber.standing) fibers

-- it moves again
abbrev pub wakes_copier : (writer : ℕ) → DomainState → DomainState
wakes_copier writer l = elim (resting_copier writer l.fibers) [ None ↦ l | Some g ↦ to_back (GoesOn (outcome.Ok value.Unit)) g l ]

abbrev pub shuts : (writer : ℕ) → Ask → Bool
shuts writer (ask.ShutWriter other it) = writer == other
shuts writer call = false

abbrev pub waits_to_shut : (writer : ℕ) → Standing → Bool
waits_to_shut writer (Parked (ForOthers call)) = shuts writer call
waits_to_shut writer standing = false

-- the fiber that waits in `shut` of this writer
abbrev pub shutter : (writer : ℕ) → List Fiber → Option ℕ
shutter writer fibers = position (λ fiber. waits_to_shut writer fiber.standing) fibers

-- a copier's move: it goes on, rests, or has ended
abbrev pub carried_by : (writer : ℕ) → Extra → (fiber : ℕ) → DomainState → Step
carried_by writer (extra.More it) g l = told g (did.Mock it) (said.Done value.Unit) (to_head (GoesOn (outcome.Ok value.Unit)) g l)
carried_by writer (extra.Done given it) g l =
    told g (did.Mock it) (said.Done value.Unit) (let t : DomainState = ends (outcome.Ok value.Unit) g l in woken_if (shutter writer t.fibers) t)
carried_by writer other g l = told g (did.Mock Nothing) said.Waits (stands (Parked Resting) g l)

-- ## Calls of fibers

-- the fiber goes into the block of its call
abbrev pub goes_into : Ask → (number : ℕ) → Said → (fiber : ℕ) → DomainState → Step
goes_into call number it g l = enters (did.Mock it) (said.Done value.Unit) (before_block call number g l) g l

-- with a writer its copier is made, which stands first
abbrev pub opens_writer : Ask → (number : ℕ) → Said → (fiber : ℕ) → DomainState → Step
opens_writer call number it g l = in_new (protected_of l g) g l (λ c m. (
    let new = length m.fibers in
    let t : DomainState = made c (OfWriter number) (record { work = []; variables = [] }) m in
    let step : Step = goes_into call number it g t in
    record step { state = to_head (GoesOn (outcome.Ok value.Unit)) new step.state }))

-- bytes that were put wake a copier
abbrev pub wakes_by_bytes : (writer : ℕ) → List ℕ → DomainState → DomainState
wakes_by_bytes writer [] l = l
wakes_by_bytes writer (b ∷ bytes) l = wakes_copier writer l

-- an answer with a value
abbrev pub done_by : Ask → Value → Said → (fiber : ℕ) → DomainState → Step
done_by (ask.OpenReader flow limit block) given it g l = goes_into (ask.OpenReader flow limit block) (number_in given) it g l
done_by (ask.OpenDirectory place path block) given it g l = goes_into (ask.OpenDirectory place path block) (number_in given) it g l
done_by (ask.OpenWriter flow block) given it g l = opens_writer (ask.OpenWriter flow block) (number_in given) it g l
done_by (ask.PutText writer text) given it g l = answers (did.Mock it) (outcome.Ok given) g (wakes_by_bytes writer (text_at l.texts text) l)
done_by call given it g l = elim (passing call) [
  | Some result ↦ told g (did.Mock it) (said.Done given) (to_head (GoesOn result) g l)
  | None ↦ answers (did.Mock it) (outcome.Ok given) g l
]

-- only `shut` of a writer waits
abbrev pub waits_by : Ask → (fiber : ℕ) → DomainState → Step
waits_by (ask.ShutWriter writer result) g l = told g (did.Mock Nothing) said.Waits (stands (Parked (ForOthers (ask.ShutWriter writer result))) g (wakes_copier writer l))
waits_by call g l = told g (did.Mock Nothing) said.Waits (stands (Parked (ForOthers call)) g l)

-- a fiber's call on the mocked outside was answered: a call that goes on is made again, at the head or, after a pause, at the back
abbrev pub mock_answered : Ask → Extra → (fiber : ℕ) → DomainState → Step
mock_answered call (extra.Done given it) g l = done_by call given it g l
mock_answered call (extra.More it) g l = told g (did.Mock it) (said.Done value.Unit) (to_head (CallsAgain call) g l)
mock_answered call extra.Back g l = told g (did.Mock Nothing) said.Back (to_back (CallsAgain call) g l)
mock_answered call extra.Waits g l = waits_by call g l
mock_answered call (extra.Raised raised it) g l = raises_given (did.Mock it) raised g l
