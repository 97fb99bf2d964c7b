-- How a fiber begins, and how it goes on once its call was answered.
-- A fiber goes on with a value or an exception: those that its call was answered with, or those that came to an end that was answered `()`. A call that has a
-- block goes into it: then the fiber stands before the block, with the block's end mark behind. Its silent statements run with its next call.
use Rattle.std.specs.Prelude.{ℕ, true, false, List, [], ◌∷◌, ◌++◌, ◌-◌, length, take, pos, None}
use Rattle.std.specs.Option.{unwrap_or}
use Rattle.std.specs.List.{last_or}
use Rattle.eio_value.specs.declared.value.Value.{Value}
use Rattle.eio_value.specs.declared.value.Value.TheVariants as value
use Rattle.eio_value.specs.declared.raised.Outcome.{Outcome}
use Rattle.eio_value.specs.declared.raised.Outcome.TheVariants as outcome
use Rattle.spec_script.specs.Syntax.{Block, Begins, Done}
use Rattle.spec_fiber.specs.Asks.{Ask}
use Rattle.spec_fiber.specs.Asks as ask
use Rattle.spec_fiber.specs.Work.{Work, Run, Cut, Restore, Leave, Close, Closing, Join, ShutReader, ShutWriter, Resolve, Carry}
use Rattle.spec_fiber.specs.Silent.{items_of}
use Rattle.spec_fiber.specs.Settling.{Settled, answered, thrown}

-- the next call of work that goes on with this
abbrev pub passed : Outcome → List Work → Carry → Settled
passed (outcome.Ok it) work c = answered work it c
passed (outcome.Err raised) work c = thrown work raised c

-- ## Where a fiber stands

pub record Position : Type 0 where
  pub work : List Work
  pub variables : List Value

-- a new fiber with this block: a body, a job, a branch, or what is forked. Its end is `End`
abbrev pub begun : Block → List Value → Position
begun block variables = record { work = Run (items_of block) ∷ []; variables = variables }

-- the same where its end first resolves this promise
abbrev pub begun_promising : (promise : ℕ) → Block → List Value → Position
begun_promising promise block variables = record { work = Run (items_of block) ∷ Resolve promise ∷ []; variables = variables }

-- ## Blocks of calls

-- the block that the caller runs of its branches; there is at least one
abbrev pub own_branch : List Block → Block
own_branch branches = unwrap_or (last_or None branches) (Begins 0 Done)

-- the blocks that new fibers run
abbrev pub other_branches : List Block → List Block
other_branches branches = take (length branches - 1) branches

-- before a block, with this mark at its end
abbrev pub into : Block → Work → List Work → List Value → Position
into block mark work variables = record { work = Run (items_of block) ∷ mark ∷ work; variables = variables }

-- the same with a name in the next slot
abbrev pub into_with : Value → Block → Work → List Work → List Value → Position
into_with it block mark work variables = into block mark work (variables ++ it ∷ [])

-- before the block of a call that was answered with this number: of the new context, switch, group, reader, writer or directory. For a handler of a
-- switch that had finished it is the number of its context. No other call has a block to go into
abbrev pub entered : Ask → (number : ℕ) → List Work → List Value → Position
entered (ask.Sub block) number work variables = into_with (value.Ctx number) block (Leave number false (length variables)) work variables
entered (ask.Protect block) number work variables = into block (Leave number false (length variables)) work variables
entered (ask.Switch block) number work variables = into_with (value.Switch number) block (Close number (length variables)) work variables
entered (ask.OnRelease switch block) number work variables = into block (Leave number true (length variables)) work variables
entered (ask.Branches group blocks) number work variables = into (own_branch blocks) (Join number (length variables)) work variables
entered (ask.OpenReader flow limit block) number work variables = into_with (value.Int (pos number)) block (ShutReader number (length variables)) work variables
entered (ask.OpenWriter flow block) number work variables = into_with (value.Int (pos number)) block (ShutWriter number (length variables)) work variables
entered (ask.OpenDirectory place path block) number work variables = into_with (value.Int (pos number)) block (Cut (length variables)) work variables
entered call number work variables = record { work = work; variables = variables }

-- before a handler of the switch that this call closes, in a context of this number, with the variables that it was registered with
abbrev pub handled : Ask → (context : ℕ) → Block → List Value → List Work → List Value → Position
handled (ask.Close switch failed kept) context handler registered work variables =
    into handler (Leave context false (length registered)) (Restore variables ∷ Closing switch kept ∷ work) registered
handled call context handler registered work variables = record { work = work; variables = variables }
