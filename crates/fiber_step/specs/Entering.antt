-- What holds of a call whose block is gone into.
use Rattle.std.specs.Prelude.{◌≡◌, ℕ, List, [], ◌∷◌, ◌++◌, Some, slice_get}
use Rattle.script_forms.specs.declared.node.Group.{Group}
use Rattle.script_forms.specs.declared.node.Node.{Node}
use Rattle.script_forms.specs.declared.node.Node.TheVariants as node

-- a form with branches stands at this number, and has at least one
pub record HasBranches (nodes : List Node) (form : ℕ) : Type 0 where
  pub group : Group
  pub others : List ℕ
  pub own : ℕ
  pub after : ℕ
  pub is : slice_get nodes form ≡ Some (node.Branches group (others ++ own ∷ []) after)
