-- What any call on an object in code gives, and what is asked of a job that is submitted.
use Rattle.std.specs.Prelude.{ℕ, ◌<◌, ◌-◌, ◌^◌, Bool, true, false}
use Rattle.eio_value.specs.declared.call.Call.{Call}
use Rattle.eio_value.specs.declared.call.Call.TheVariants as call
use Rattle.eio_value.specs.declared.message.Waiter.{Waiter}
use Rattle.eio_value.specs.Waking.{Test}
use Rattle.executor_pool.specs.Finishing.{MeetsOne}
use Rattle.executor_pool.specs.Working.{submitted}
use Rattle.spec_parts.specs.Data.{Data}
use Rattle.spec_parts.specs.Row.{Row, Stepped}
use Rattle.wait_list.specs.Meeting.{Meets}

-- whether a call is for one fiber alone, whoever else waits
abbrev pub is_for_one : Call → Bool
is_for_one (call.Done object number given) = true
is_for_one other = false

-- the operands behind the first are those of `Meets`
abbrev pub MeetsBy : (one : Bool) → Test → Test → (tells : Bool) → Row → Waiter → (off : Bool) → (serial : ℕ) → Call → Stepped → Type 0
MeetsBy true knew knows tells row who off serial call after = MeetsOne knew knows tells row who off serial call after
MeetsBy false knew knows tells row who off serial call after = Meets knew knows tells row who off serial call after

-- the end of a job asks the one fiber that it is for; any other call asks those of a list in order
abbrev pub MeetsCall : Test → Test → (tells : Bool) → Row → Waiter → (off : Bool) → (serial : ℕ) → Call → Stepped → Type 0
MeetsCall knew knows tells row who off serial call after = MeetsBy (is_for_one call) knew knows tells row who off serial call after

-- a job takes some part of a worker
abbrev pub IsWeighty : Call → Type 0
IsWeighty (call.Submit job) = 0 < job.weight
IsWeighty other = Unit {0}

-- a job that is submitted can be numbered
abbrev pub IsCountable : Call → Data → Type 0
IsCountable (call.Submit job) values = submitted values < 2 ^ 64 - 1
IsCountable other values = Unit {0}
