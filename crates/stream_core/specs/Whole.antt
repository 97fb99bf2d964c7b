-- A stream as the code keeps it.
use Rattle.std.specs.Prelude.{◌≡◌, ℕ, ◌<◌, ◌≤◌, ◌^◌, List, [], ◌∷◌, length}
use Rattle.eio_value.specs.declared.value.Value.{Value}
use Rattle.spec_parts.specs.Row.{Queued}
use Rattle.wait_list.specs.Lists.{WaitingList}

-- nobody waits on one of the two sides
abbrev pub HasOneSide : (takers adders : List Queued) → Type 0
HasOneSide [] adders = Unit {0}
HasOneSide (taker ∷ takers) [] = Unit {0}
HasOneSide (taker ∷ takers) (adder ∷ adders) = ⊥

-- the items fit, and both lists have the same cells
pub record IsWhole (items : List Value) (capacity : ℕ) (takers adders : WaitingList) : Type 0 where
  pub fits : length items ≤ capacity
  pub small : capacity < 2 ^ 32
  pub alike : adders.cells ≡ takers.cells
  pub one_side : HasOneSide takers.waiting adders.waiting
