-- The calls that may change a tree, as one type.
use Rattle.std.specs.Prelude.{ℕ, Bool, true, false, List, Result}
use Rattle.eio_value.specs.declared.plain.PathFault.{PathFault}
use Rattle.spec_parts.specs.Directories.{Tree}
use Rattle.spec_parts.specs.PathCalls as calls

pub data Change : Type 0 where
  Save : (path content : List ℕ) → Change
  SaveNew : (path content : List ℕ) → Change
  Mkdir : (path : List ℕ) → Change
  Unlink : (path : List ℕ) → Change
  Rmdir : (path : List ℕ) → Change

-- what a call through a capability answers: the tree after it, or why it is refused
abbrev pub answer : Tree → (capability : ℕ) → Change → Result Tree PathFault
answer tree capability (Save path content) = calls.save tree capability path content
answer tree capability (SaveNew path content) = calls.save_new tree capability path content
answer tree capability (Mkdir path) = calls.mkdir tree capability path
answer tree capability (Unlink path) = calls.unlink tree capability path
answer tree capability (Rmdir path) = calls.rmdir tree capability path

-- `save` as it is called: any file, or only a new one
abbrev pub saving : (only_new : Bool) → Tree → (capability : ℕ) → (path content : List ℕ) → Result Tree PathFault
saving true tree capability path content = calls.save_new tree capability path content
saving false tree capability path content = calls.save tree capability path content

-- the tree after a call, whatever it answers
abbrev pub after : Tree → (capability : ℕ) → Change → Tree
after tree capability change = calls.tree_after tree (answer tree capability change)
