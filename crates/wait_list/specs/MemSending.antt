-- What a `MemWake` is told and tells.
use Rattle.std.specs.Prelude.{ℕ, Bool, List, ◌==◌, ◌&&◌, Option, Some, None}
use Rattle.std.specs.List.{list_any}
use Rattle.eio_value.specs.Sending.{Sent, Resumes, Starts}
use Rattle.wait_list.specs.declared.mem_wake.MemSent.{MemSent}
use Rattle.wait_list.specs.declared.mem_wake.MemSent.TheVariants as told

-- whether a wait is one of these
abbrev pub is_among : List (ℕ × ℕ) → (cell armed : ℕ) → Bool
is_among waits cell armed = list_any (λ wait. wait.0 == cell && wait.1 == armed) waits

abbrev pub sent_of : MemSent → Option Sent
sent_of told.Nothing = None
sent_of (told.Resumed who outcome) = Some (Resumes who outcome)
sent_of (told.Started domain job number) = Some (Starts (record { domain = domain; job = job; number = number }))

-- the stamp of the wait that was woken
abbrev pub woken_stamp : MemSent → Option ℕ
woken_stamp (told.Resumed who outcome) = Some who.armed
woken_stamp other = None
