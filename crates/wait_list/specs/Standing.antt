-- A list as the code keeps it: a queue, and a mark for each cell that says whether it stands there.
use Rattle.std.specs.Prelude.{◌≡◌, ℕ, ◌<◌, ◌≤◌, Bool, List, length, slice_index_or, Option, Some, None}
use Rattle.spec_parts.specs.Row.{Queued}
use Rattle.wait_list.specs.declared.queued.Queued.{Queued as Kept}
use Rattle.wait_list.specs.Waits.{stands, EachCellOnce, AreBelow}

-- the definition's fiber
abbrev pub queued_of : Kept → Queued
queued_of kept = record { who = kept.who; item = kept.item; number = kept.number }

abbrev pub found_of : Option Kept → Option Queued
found_of None = None
found_of (Some kept) = Some (queued_of kept)

-- the list, its marks, and for how many fibers there is room
pub record Holds (list : List Queued) (marks : List Bool) (room : ℕ) : Type 0 where
  pub once : EachCellOnce list
  pub below : AreBelow (length marks) list
  pub marked : (cell : ℕ) (d : Bool) → cell < length marks → slice_index_or marks cell d ≡ stands cell list
  pub fits : length marks ≤ room
