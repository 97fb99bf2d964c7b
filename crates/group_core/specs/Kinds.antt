-- The kind of a group, in code and in the definition.
use Rattle.group_core.specs.declared.kind.GroupKind.{GroupKind}
use Rattle.group_core.specs.declared.kind.GroupKind.TheVariants.{Both, All, First, Any}
use Rattle.spec_parts.specs.Groups as model

abbrev pub kind_of : GroupKind → model.GroupKind
kind_of Both = model.Both
kind_of All = model.All
kind_of First = model.First
kind_of Any = model.Any
