-- What holds of a fiber's items: the blocks that they name stand among the nodes of its script.
use Rattle.std.specs.Prelude.{◌<◌, ◌+◌, ◌^◌, List}
use Rattle.std.specs.List.{All}
use Rattle.script_forms.specs.declared.node.Node.{Node}
use Rattle.fiber_step.specs.Having.{HasStatements}
use Rattle.fiber_step.specs.declared.item.Item.{Item}
use Rattle.fiber_step.specs.declared.item.Item.TheVariants as item
use Rattle.fiber_step.specs.declared.mark.Mark.{Mark}
use Rattle.fiber_step.specs.declared.mark.Mark.TheVariants as mark

-- the turns of a `repeat` are at most as many as a number of 64 bits says
abbrev pub HasFewTurns : Mark → Type 0
HasFewTurns (mark.Repeat turn left body keep) = turn + left < 2 ^ 63
HasFewTurns other = Unit {0}

-- the block of a mark stands there
abbrev pub HasItsBlock : List Node → Mark → Type 0
HasItsBlock nodes (mark.Run at) = HasStatements nodes at
HasItsBlock nodes (mark.Try handler keep) = HasStatements nodes handler
HasItsBlock nodes (mark.Loop body keep) = HasStatements nodes body
HasItsBlock nodes (mark.Repeat turn left body keep) = HasStatements nodes body
HasItsBlock nodes (mark.Locking mutex body) = HasStatements nodes body
HasItsBlock nodes (mark.Using pool body) = HasStatements nodes body
HasItsBlock nodes other = Unit {0}

abbrev pub IsPlacedMark : List Node → Mark → Type 0
IsPlacedMark nodes it = HasItsBlock nodes it × HasFewTurns it

abbrev pub IsPlaced : List Node → Item → Type 0
IsPlaced nodes (item.Mark it) = IsPlacedMark nodes it
IsPlaced nodes (item.Restore variables) = Unit {0}

-- so it is of all items
abbrev pub ArePlaced : List Node → List Item → Type 0
ArePlaced nodes items = All (IsPlaced nodes) items
