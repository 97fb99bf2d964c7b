-- The command of `clap` that reads the words behind the first: no option (that of `mock` is added in Steps), and neither help nor version.
use Rattle.std.specs.Prelude.{◌≡◌, ◌⊎◌, true, codes, [], Option, Some, None}
use Rattle.clap.specs.Words.{App, new_app, Kinds, IsAmong}
use Rattle.clap.specs.Simple.{on_top}
use Rattle.clap.specs.declared.error.kind.ErrorKind.{ErrorKind}
use Rattle.clap.specs.declared.error.kind.ErrorKind.TheVariants as kind

abbrev pub behind_app : App
behind_app = on_top (λ s. record s { no_binary_name = true; disable_help_flag = true; disable_version_flag = true }) (new_app (codes "eio-run"))

-- a read ends without a refusal only where there is no fault; and a refusal is for want of memory, or for a fault
abbrev pub EndsBy : Kinds → Option ErrorKind → Type 0
EndsBy faults None = faults ≡ []
EndsBy faults (Some refusal) = (refusal ≡ kind.OutOfMemory) ⊎ IsAmong refusal faults
