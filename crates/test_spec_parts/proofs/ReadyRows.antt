-- The ready list: who stands in it after calls, and who moves next.
use Rattle.std.proofs.Common.{◌≡◌, [], ◌∷◌, true, false, refl}
use Rattle.std.specs.Prelude.{Some, None, map}
use Rattle.spec_parts.specs.ReadyList.{is_full, push_head, push_back, push_made, pop}

-- nothing stands in an empty list
pop_of_none : pop [] ≡ record { fiber = None; others = [] }
pop_of_none = refl

-- main forks fiber 1: the new fiber moves next, and its maker behind it
fork_moves_first : pop (push_made (1 ∷ []) 0 []) ≡ record { fiber = Some 1; others = 0 ∷ [] }
fork_moves_first = refl

-- the same by two pushes
fork_by_pushes : push_head 1 (push_head 0 (2 ∷ 3 ∷ [])) ≡ push_made (1 ∷ []) 0 (2 ∷ 3 ∷ [])
fork_by_pushes = refl

-- `yield` of the fiber at the head: it goes behind all others
yield_goes_last : push_back 1 (pop (1 ∷ 0 ∷ 4 ∷ [])).others ≡ 0 ∷ 4 ∷ 1 ∷ []
yield_goes_last = refl

-- three branches: the two new fibers in order, then the caller, then all who stood there
branches_in_order : push_made (5 ∷ 6 ∷ []) 2 (0 ∷ 1 ∷ []) ≡ 5 ∷ 6 ∷ 2 ∷ 0 ∷ 1 ∷ []
branches_in_order = refl

-- a group without new fibers: the caller alone is put back
no_new_branch : push_made [] 2 (0 ∷ []) ≡ 2 ∷ 0 ∷ []
no_new_branch = refl

-- fibers that are woken one after the other keep their order
woken_in_order : push_back 3 (push_back 1 (push_back 2 (0 ∷ []))) ≡ 0 ∷ 2 ∷ 1 ∷ 3 ∷ []
woken_in_order = refl

-- a list for three fibers
full_at_three : map (is_full 3) ([] ∷ (0 ∷ 1 ∷ []) ∷ (0 ∷ 1 ∷ 2 ∷ []) ∷ []) ≡ false ∷ false ∷ true ∷ []
full_at_three = refl
