-- Sequences of calls on pools.
use Rattle.std.proofs.Common.{◌≡◌, ℕ, List, [], ◌∷◌, refl}
use Rattle.eio_value.specs.declared.call.Call.TheVariants.{Use, Put, Release}
use Rattle.spec_parts.specs.Data.{Pool}
use Rattle.spec_parts.specs.Pools.{pool}
use Rattle.spec_parts.specs.Row.{Row, int}
use Rattle.test_spec_parts.proofs.Moves.{Move, by, off_by, strike, Won, Lost, gives, fine, waits, is_off, none, fine_and, number, waiting, row, run, ran}

abbrev using : ℕ → Move
using fiber = by fiber (Use 0)

abbrev putting : ℕ → ℕ → Move
putting fiber resource = by fiber (Put 0 resource)

abbrev left : ℕ → ℕ → List ℕ → Row
left size made idle = row (Pool size made idle) [] []

-- the one resource is passed on to who waits
passed_on : run (pool 1) (using 1 ∷ using 0 ∷ putting 1 0 ∷ putting 0 0 ∷ []) ≡ ran (gives (int 0) ∷ waits ∷ fine_and 0 (number 0) ∷ fine ∷ []) (left 1 1 (0 ∷ []))
passed_on = refl

-- the one put back last is used first
last_back_first_out : run (pool 3) (using 1 ∷ using 1 ∷ using 1 ∷ putting 1 2 ∷ putting 1 0 ∷ using 2 ∷ using 2 ∷ []) ≡ ran (gives (int 0) ∷ gives (int 1) ∷ gives (int 2) ∷ fine ∷ fine ∷ gives (int 0) ∷ gives (int 2) ∷ []) (left 3 3 [])
last_back_first_out = refl

-- a resource is made only where none is idle
made_when_needed : run (pool 2) (using 1 ∷ putting 1 0 ∷ using 1 ∷ using 2 ∷ using 3 ∷ []) ≡ ran (gives (int 0) ∷ fine ∷ gives (int 0) ∷ gives (int 1) ∷ waits ∷ []) (row (Pool 2 2 []) (waiting 3 ∷ []) [])
made_when_needed = refl

not_out : run (pool 2) (putting 1 0 ∷ using 1 ∷ putting 1 1 ∷ putting 1 4294967295 ∷ putting 1 0 ∷ putting 1 0 ∷ []) ≡ ran (none ∷ gives (int 0) ∷ none ∷ none ∷ fine ∷ none ∷ []) (left 2 1 (0 ∷ []))
not_out = refl

off_leaves_the_pool : run (pool 1) (off_by 1 (Use 0) ∷ off_by 2 (Use 0) ∷ putting 1 0 ∷ off_by 2 (Use 0) ∷ []) ≡ ran (gives (int 0) ∷ is_off ∷ fine ∷ gives (int 0) ∷ []) (left 1 1 [])
off_leaves_the_pool = refl

struck_waiter : run (pool 1) (using 1 ∷ using 2 ∷ using 3 ∷ strike 2 ∷ putting 1 0 ∷ strike 3 ∷ putting 3 0 ∷ []) ≡ ran (gives (int 0) ∷ waits ∷ waits ∷ Won ∷ fine_and 3 (number 0) ∷ Lost ∷ fine ∷ []) (left 1 1 (0 ∷ []))
struck_waiter = refl

-- a cancelled use has got nothing
struck_got_nothing : run (pool 1) (using 1 ∷ using 2 ∷ strike 2 ∷ putting 1 0 ∷ using 3 ∷ by 3 (Release 0) ∷ []) ≡ ran (gives (int 0) ∷ waits ∷ Won ∷ fine ∷ gives (int 0) ∷ none ∷ []) (left 1 1 [])
struck_got_nothing = refl
