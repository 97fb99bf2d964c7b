-- Strikes. A strike ends the wait of one fiber: where it waits it leaves its list, and nothing else of the row changes. A fiber that was woken is in no
-- list, so a strike that comes too late changes nothing.
-- A wait is named by its cell and the stamp with which it was armed.
use Rattle.std.specs.Prelude.{Bool, ◌||◌, ◌&&◌, ◌==◌, not}
use Rattle.std.specs.List.{list_any}
use Rattle.eio_value.specs.declared.message.Waiter.{Waiter}
use Rattle.spec_parts.specs.Row.{Row, only_row}

-- both are one wait
abbrev pub same_wait : Waiter → Waiter → Bool
same_wait a b = a.cell == b.cell && a.armed == b.armed

-- whether this wait stands in a list of the row
abbrev pub waits_in : Row → Waiter → Bool
waits_in row who = list_any (λ queued. same_wait who queued.who) row.takers || list_any (λ queued. same_wait who queued.who) row.adders

-- the row after a strike on this wait
abbrev pub struck : Row → Waiter → Row
struck row who = only_row (λ other. not (same_wait who other)) row
