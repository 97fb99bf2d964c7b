-- What was read of an input.
use Rattle.std.specs.Prelude.{ℕ, ◌<◌, ◌≤◌, List, length, Result, Ok, Err}
use Rattle.std.specs.declared.option.Option.{Option}
use Rattle.std.specs.Io.KnownBytes.{Consumes, IsAtEnd}
use Rattle.trace_out.specs.Causes.{Rose}
use Rattle.trace_out.specs.Outcome.{most_read}
use Rattle.trace_out.specs.declared.input.InputError.{InputError}
use Rattle.trace_out.specs.declared.input.InputError.TheVariants as error

-- all the input, or its first 262,145 bytes
pub record ReadsInput (old new : Option (List ℕ)) (bytes : List ℕ) : Type 0 where
  pub taken : Consumes old new bytes
  pub most : length bytes ≤ most_read
  pub whole : length bytes < most_read → IsAtEnd new

-- a fault has its cause in the source's count
abbrev pub FailsByCause : {T : Type 0} → ℕ → ℕ → Result T InputError → Type 0
FailsByCause old new (Ok x) = Unit {0}
FailsByCause old new (Err error.Fault) = Rose old new
FailsByCause old new (Err error.NoMemory) = Unit {0}
