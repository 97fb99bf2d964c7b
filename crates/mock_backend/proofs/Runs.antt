-- A run, move by move; and a move of a domain that asks nothing of what is outside.
use Rattle.std.proofs.Common.{◌≡◌, ℕ, zero, suc, ◌+◌, true, false, List, [], ◌∷◌, Option, Some, None, refl, ap, ◌∙◌}
use Rattle.spec_script.specs.Scripts.{Script}
use Rattle.spec_machine.specs.Labels.{Asks, Idle, Own, Inner}
use Rattle.spec_machine.specs.Mock.{Mock, Moved, comes, moved_by, move_by, move, moves}
use Rattle.spec_machine.specs.Moves.{asks, after, line_of, stepped_by, own_move}
use Rattle.spec_machine.specs.Preparing.{prepared}

-- ## Lists of moves

pub moves_none : (script : Script) (m : Mock) (n : ℕ) → move script m ≡ None → moves script n m ≡ []
unfolding moves
moves_none script m zero none = refl
moves_none script m (suc n) none = ap (λ (first : Option Moved). elim first as (λ _. List Moved) [ None ↦ [] | Some moved ↦ moved ∷ moves script n moved.next ]) none

pub moves_zero : (script : Script) (m : Mock) → moves script 0 m ≡ []
unfolding moves
moves_zero script m = refl

pub moves_some : (script : Script) (m : Mock) (n : ℕ) (moved : Moved) → move script m ≡ Some moved → moves script (suc n) m ≡ moved ∷ moves script n moved.next
unfolding moves
moves_some script m n moved is = ap (λ (first : Option Moved). elim first as (λ _. List Moved) [ None ↦ [] | Some moved ↦ moved ∷ moves script n moved.next ]) is

-- ## One move

-- a move by which nothing comes from outside
pub inner_moved : Script → Mock → Moved
inner_moved script m = moved_by m (m.local.stamp + 1) (prepared m.local).raises (record { label = Inner; shared = m.shared; world = m.world }) (own_move script (prepared m.local))

pub inner_line : (script : Script) (m : Mock) → (inner_moved script m).line ≡ line_of script m.local (m.local.stamp + 1) Inner
unfolding inner_moved line_of
inner_line script m = refl

pub inner_next : (script : Script) (m : Mock) → (inner_moved script m).next.local ≡ after script m.local (m.local.stamp + 1) Inner
unfolding inner_moved after
inner_next script m = refl

pub inner_stamp : (script : Script) (m : Mock) → (inner_moved script m).next.local.stamp ≡ m.local.stamp + 1
unfolding inner_moved
inner_stamp script m = refl

abbrev move_asked : Script → Mock → Asks → Option Moved
move_asked script m asked = elim (comes m (m.local.stamp + 1) asked) [
  | None ↦ None
  | Some came ↦ Some (moved_by m (m.local.stamp + 1) (prepared m.local).raises came (stepped_by script (prepared m.local) came.label m.local))
]

move_is : (script : Script) (m : Mock) → m.local.halted ≡ false → move script m ≡ move_asked script m (asks m.local)
unfolding move asks
move_is script m runs = ap (λ halted. elim halted as (λ _. Option Moved) [ true ↦ None | false ↦ move_by script m (prepared m.local) ]) runs

-- of a domain that asks for nothing from outside
pub own_move_is : (script : Script) (m : Mock) → m.local.halted ≡ false → asks m.local ≡ Own → move script m ≡ Some (inner_moved script m)
unfolding inner_moved
own_move_is script m runs asked = move_is script m runs ∙ ap (move_asked script m) asked

-- of one that can't move
pub idle_move_is : (script : Script) (m : Mock) → m.local.halted ≡ false → asks m.local ≡ Idle → move script m ≡ None
idle_move_is script m runs asked = move_is script m runs ∙ ap (move_asked script m) asked

pub halted_move_is : (script : Script) (m : Mock) → m.local.halted ≡ true → move script m ≡ None
unfolding move
halted_move_is script m halted = ap (λ halted. elim halted as (λ _. Option Moved) [ true ↦ None | false ↦ move_by script m (prepared m.local) ]) halted
