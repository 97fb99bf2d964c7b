-- A fiber as it is kept: its items have the numbers of nodes in place of statements, and the next one is the last.
use Rattle.std.specs.Prelude.{List}
use Rattle.eio_value.specs.declared.value.Value.{Value}
use Rattle.script_forms.specs.declared.node.Node.{Node}
use Rattle.spec_fiber.specs.Replies.{Position}
use Rattle.fiber_step.specs.Standing.{works_of}
use Rattle.fiber_step.specs.declared.item.Item.{Item}

pub record KeptFrames : Type 0 where
  pub items : List Item
  pub variables : List Value

-- where it stands, under the nodes of a script
abbrev pub position_of : List Node → KeptFrames → Position
position_of nodes kept = record { work = works_of nodes kept.items; variables = kept.variables }
