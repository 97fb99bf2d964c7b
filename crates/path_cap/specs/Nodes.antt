-- What names stand for in code, as the definitions see it.
use Rattle.spec_parts.specs.Directories as model
use Rattle.path_cap.specs.declared.item.HeldNode.{HeldNode}
use Rattle.path_cap.specs.declared.item.HeldNode.TheVariants as node

-- what a name stands for
abbrev pub held_of : HeldNode → model.Held
held_of (node.File content) = model.File content
held_of (node.Link target) = model.Link target
held_of (node.Inner directory) = model.Inner directory
