-- The errors that a switch or a group has collected: none, or what all exceptions so far have become together.
use Rattle.std.specs.Prelude.{Option, Some, None}
use Rattle.eio_value.specs.declared.raised.Raised.{Raised}
use Rattle.eio_value.specs.Joining.{combine}

-- what they become by one more exception
abbrev pub joined : Option Raised → Raised → Raised
joined None raised = raised
joined (Some errors) raised = combine errors raised
