-- How a domain moves: what it asks from outside, and how it goes on by what came. Both are total functions of the domain, so that all that is free in a move is what
-- comes from outside, and when.
use Rattle.std.specs.Prelude.{ℕ, ◌+◌, ◌++◌, Bool, List, Option}
use Rattle.eio_value.specs.declared.call.Answer.{Answer}
use Rattle.eio_value.specs.declared.message.Message.{Message}
use Rattle.eio_value.specs.declared.mock_call.Extra.{Extra}
use Rattle.eio_value.specs.declared.plain.Member.{Member}
use Rattle.eio_value.specs.declared.value.Value.TheVariants as value
use Rattle.spec_script.specs.Scripts.{Script}
use Rattle.spec_fiber.specs.Asks as ask
use Rattle.spec_fiber.specs.Asks.{Ask}
use Rattle.trace_lines.specs.declared.line.Did.TheVariants as did
use Rattle.trace_lines.specs.declared.line.Line.{Line}
use Rattle.trace_lines.specs.declared.line.Said2.TheVariants as said
use Rattle.spec_machine.specs.Domain.{ForCancel, DomainState}
use Rattle.spec_machine.specs.Shared.{Asked}
use Rattle.spec_machine.specs.Labels.{Asks, Label, Inner, Called, Struck, Mocked, Took}
use Rattle.spec_machine.specs.Preparing as doing
use Rattle.spec_machine.specs.Preparing.{Prepared, prepared}
use Rattle.spec_machine.specs.Asking.{asks_by}
use Rattle.spec_machine.specs.Steps.{Step, told, does, yields, waits_unless_off, halts}
use Rattle.spec_machine.specs.ContextMoves.{subs, protects, leave, cancel, check}
use Rattle.spec_machine.specs.SwitchMoves.{switch, fork, fail, release, close}
use Rattle.spec_machine.specs.GroupMoves.{branches, joins}
use Rattle.spec_machine.specs.EndMoves.{end_told, takes, received_if}
use Rattle.spec_machine.specs.ObjectMoves.{object_answered}
use Rattle.spec_machine.specs.MockMoves.{carried_by, mock_answered}
use Rattle.spec_machine.specs.ClockMoves.{did_mock, sleep, now, tick}
use Rattle.spec_machine.specs.DutyMoves.{own_duty, duty_struck, duty_answered}

-- what a domain asks from outside for its next move
unfoldable pub asks : DomainState → Asks
asks l = asks_by (prepared l)

-- ## The domain's own calls

-- a fiber's call for which nothing came from outside. A writer for whose copier there is no room meets the limit; no other call that asks outside comes to this
unfoldable pub own_call : Script → Ask → (fiber : ℕ) → DomainState → Step
own_call script (ask.Trace values) g l = does (did.Trace values) g l
own_call script ask.Yield g l = yields did.Yield g l
own_call script ask.Check g l = check g l
own_call script ask.AwaitCancel g l = waits_unless_off did.AwaitCancel ForCancel g l
own_call script ask.Turn g l = does did.Turn g l
own_call script (ask.Sub block) g l = subs (ask.Sub block) g l
own_call script (ask.Protect block) g l = protects (ask.Protect block) g l
own_call script (ask.Cancel context text) g l = cancel context text g l
own_call script (ask.Switch block) g l = switch (ask.Switch block) g l
own_call script (ask.Fork forking n block) g l = fork forking n block g l
own_call script (ask.Fail n text) g l = fail n text g l
own_call script (ask.OnRelease n block) g l = release (ask.OnRelease n block) n block g l
own_call script (ask.Branches kind blocks) g l = branches (ask.Branches kind blocks) kind blocks g l
own_call script (ask.Sleep time) g l = sleep time g l
own_call script ask.Now g l = now g l
own_call script (ask.Leave context late it) g l = leave context late it g l
own_call script (ask.Close n came kept) g l = close script (ask.Close n came kept) n came kept g l
own_call script (ask.Join n own) g l = joins (ask.Join n own) n own g l
own_call script (ask.End it) g l = end_told it g l
own_call script call g l = halts g l

-- ## Moves

-- what comes where something else was asked for leaves the domain as it was
abbrev pub unmoved : DomainState → Step
unmoved l = told 0 did_mock (said.Done value.Unit) l

abbrev pub own_move : Script → Prepared → Step
own_move script it = elim it.doing [
  | doing.Rests ↦ unmoved it.state
  | doing.Owes duty ↦ own_duty duty it.state
  | doing.Calls g call ↦ own_call script call g it.state
  | doing.Carries g writer ↦ unmoved it.state
  | doing.Ticks ↦ tick it.state
]

abbrev pub called_move : Prepared → Asked → Answer → Step
called_move it asked answer = elim it.doing [
  | doing.Rests ↦ unmoved it.state
  | doing.Owes duty ↦ duty_answered duty answer it.state
  | doing.Calls g call ↦ object_answered call asked answer g it.state
  | doing.Carries g writer ↦ unmoved it.state
  | doing.Ticks ↦ unmoved it.state
]

-- the message for the domain itself is taken in the same move
abbrev pub with_message : Script → Option Message → Step → Step
with_message script mine step = record step { state = received_if script mine step.state }

abbrev pub struck_move : Prepared → (won : Bool) → Step
struck_move it won = elim it.doing [
  | doing.Rests ↦ unmoved it.state
  | doing.Owes duty ↦ duty_struck duty won it.state
  | doing.Calls g call ↦ unmoved it.state
  | doing.Carries g writer ↦ unmoved it.state
  | doing.Ticks ↦ unmoved it.state
]

abbrev pub mocked_by : Prepared → Extra → DomainState → Step
mocked_by it answer l = elim it.doing [
  | doing.Rests ↦ unmoved l
  | doing.Owes duty ↦ unmoved l
  | doing.Calls g call ↦ mock_answered call answer g l
  | doing.Carries g writer ↦ carried_by writer answer g l
  | doing.Ticks ↦ unmoved l
]

abbrev pub mocked_move : Prepared → Extra → (texts : List (List ℕ)) → Step
mocked_move it answer texts = mocked_by it answer (record (it.state) { texts = texts })

-- what comes of a move that was prepared, by what came. A message has nothing to do with what was prepared
abbrev pub stepped_by : Script → Prepared → Label → DomainState → Step
stepped_by script it Inner l = own_move script it
stepped_by script it (Called asked answer mine) l = with_message script mine (called_move it asked answer)
stepped_by script it (Struck who won) l = struck_move it won
stepped_by script it (Mocked call answer texts) l = mocked_move it answer texts
stepped_by script it (Took message) l = takes script message l

-- the raises of a move, in order: those of the silent statements that were run for it, and then its own. A message is taken before any are run
abbrev pub raises_by : (silent : List Member) → Label → Step → List Member
raises_by silent (Took message) step = step.raises
raises_by silent label step = silent ++ step.raises

-- the move has this stamp, and is one line more
abbrev pub counted_as : (stamp : ℕ) → Step → DomainState
counted_as stamp step = (let l : DomainState = step.state in record l { stamp = stamp; lines = l.lines + 1 })

abbrev pub line_by : (domain stamp : ℕ) → Step → Line
line_by domain stamp step = record { stamp = stamp; domain = domain; fiber = step.fiber; did = step.did; reply = step.reply }

-- what a domain is after a move by a label, whose line has this stamp
unfoldable pub after : Script → DomainState → (stamp : ℕ) → Label → DomainState
after script l stamp label = counted_as stamp (stepped_by script (prepared l) label l)

-- the line of that move
unfoldable pub line_of : Script → DomainState → (stamp : ℕ) → Label → Line
line_of script l stamp label = line_by l.number stamp (stepped_by script (prepared l) label l)

-- and its raises: also those that are caught before it ends, each with its number
unfoldable pub raises_of : Script → DomainState → Label → List Member
raises_of script l label = raises_by (prepared l).raises label (stepped_by script (prepared l) label l)
