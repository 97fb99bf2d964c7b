-- Runs that meet the limit of 1,024 live fibers, and long runs.
use Rattle.std.proofs.Common.{◌≡◌, ℕ, zero, suc, List, [], ◌∷◌, ◌++◌, refl}
use Rattle.std.specs.Prelude.{codes, decimal}
use Rattle.std.specs.Fmt.{digits}
use Rattle.std.specs.List.{flat_map, range_with_len}
use Rattle.test_commands.specs.Run.{Shown, answer, mocks, out_of_steps, limit}

times : ℕ → List ℕ → List ℕ
times n text = flat_map (λ _. text) (range_with_len 0 n)

mocks_bytes : List ℕ → Shown
mocks_bytes bytes = answer (codes "mock" ∷ []) bytes

mocks_bytes_in : ℕ → List ℕ → Shown
mocks_bytes_in n bytes = answer (codes "mock" ∷ codes "--steps" ∷ decimal n ∷ []) bytes

-- an `all` of so many branches more, before which this runs
all_behind : (more : ℕ) → List ℕ → List ℕ
all_behind more first = codes "(all (" ++ first ++ codes ")" ++ times more (codes " ()") ++ codes ")"

-- so many of 64 branches, one in the first branch of the other
nested : ℕ → List ℕ → List ℕ
nested zero inner = inner
nested (suc n) inner = all_behind 63 (nested n inner)

-- 1,009 fibers live when this runs, and 17 moves were made once it has made its first
among_1009 : List ℕ → List ℕ
among_1009 inner = codes "(eio 1 (main " ++ nested 16 inner ++ codes "))"

as_many_fibers_as_may_be : mocks_bytes_in 18 (among_1009 (all_behind 15 (codes "(trace \"full\")"))) ≡ out_of_steps "+full\n!Out_of_steps\n"
unfolding mocks_bytes_in among_1009 nested all_behind times answer digits
as_many_fibers_as_may_be = refl

a_fiber_too_many : mocks_bytes (among_1009 (all_behind 15 (codes "(trace \"full\") (both () ())"))) ≡ limit "+full\n!Limit\n"
unfolding mocks_bytes among_1009 nested all_behind times answer
a_fiber_too_many = refl

-- none of them is made
fibers_too_many_at_once : mocks_bytes (among_1009 (all_behind 16 (codes "(trace \"n\")"))) ≡ limit "!Limit\n"
unfolding mocks_bytes among_1009 nested all_behind times answer
fibers_too_many_at_once = refl

-- the last move that may be made meets the limit
a_limit_with_the_last_step : mocks_bytes_in 17 (among_1009 (all_behind 16 [])) ≡ limit "!Limit\n"
unfolding mocks_bytes_in among_1009 nested all_behind times answer digits
a_limit_with_the_last_step = refl

a_limit_is_left : mocks_bytes_in 16 (among_1009 (all_behind 16 [])) ≡ out_of_steps "!Out_of_steps\n"
unfolding mocks_bytes_in among_1009 nested all_behind times answer digits
a_limit_is_left = refl

forks_without_end : mocks "(eio 1 (main (switch s (loop (fork s (await-cancel))))))" ≡ limit "!Limit\n"
unfolding mocks
forks_without_end = refl

a_fork_too_many : mocks_bytes (codes "(eio 1 (main (switch s" ++ times 1024 (codes " (fork s (yield))") ++ codes ")))") ≡ limit "!Limit\n"
unfolding mocks_bytes times answer
a_fork_too_many = refl

three_thousand_traces : mocks_bytes (codes "(eio 1 (main" ++ times 3000 (codes " (trace \"a\")") ++ codes "))") ≡ record { text = times 3000 (codes "+a\n"); status = 0 }
unfolding mocks_bytes times answer
three_thousand_traces = refl
