-- Faults of calls on paths, beside what the definitions answer.
use Rattle.std.specs.Prelude.{◌≡◌, Result, Err}
use Rattle.eio_value.specs.declared.plain.PathFault.{PathFault}
use Rattle.path_cap.specs.declared.cap.CapFault.{CapFault}
use Rattle.path_cap.specs.declared.cap.CapFault.TheVariants as fault

-- the call is refused so; where memory ran out, nothing is said of the path
abbrev pub Refuses : {Y : Type 0} → CapFault → Result Y PathFault → Type 0
Refuses (fault.Path why) answer = answer ≡ Err why
Refuses fault.NoMemory answer = Unit {0}
