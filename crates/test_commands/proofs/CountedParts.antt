-- Steps of flows and entries of directories, which are counted over the whole script.
use Rattle.std.proofs.Common.{◌≡◌, ℕ, List, ◌++◌, Some, None, refl}
use Rattle.std.specs.Prelude.{codes, decimal}
use Rattle.std.specs.Fmt.{digits}
use Rattle.std.specs.List.{flat_map, range_with_len}
use Rattle.spec_script.specs.Faults.{Shape, Size}
use Rattle.test_commands.specs.Read.{fault}

pauses : ℕ → List ℕ
pauses n = flat_map (λ _. codes " (pause)") (range_with_len 0 n)

files : ℕ → List ℕ
files n = flat_map (λ k. codes " (file \"" ++ decimal k ++ codes "\" \"\")") (range_with_len 0 n)

-- so many entries, each with 32 files in it
full_subs : ℕ → List ℕ
unfolding files
full_subs n = flat_map (λ k. codes " (sub \"" ++ decimal k ++ codes "\"" ++ files 32 ++ codes ")") (range_with_len 0 n)

as_many_steps_as_may_be : fault (codes "(eio 1 (flow f" ++ pauses 1000 ++ codes ") (flow g" ++ pauses 24 ++ codes ") (main))") ≡ None
unfolding fault pauses
as_many_steps_as_may_be = refl

a_step_too_many : fault (codes "(eio 1 (flow f" ++ pauses 1000 ++ codes ") (flow g" ++ pauses 25 ++ codes ") (main))") ≡ Some (Size 8216)
unfolding fault pauses
a_step_too_many = refl

-- its own shape is asked first
an_unknown_step_too_many : fault (codes "(eio 1 (flow f" ++ pauses 1024 ++ codes " (stop)) (main))") ≡ Some (Shape 8207)
unfolding fault pauses
an_unknown_step_too_many = refl

as_many_entries_as_may_be : fault (codes "(eio 1 (dir c" ++ full_subs 31 ++ codes ") (dir d (link \"l\" \"\")) (main))") ≡ None
unfolding fault full_subs files digits
as_many_entries_as_may_be = refl

-- a `sub` is counted before its entries
an_entry_too_many : fault (codes "(eio 1 (dir c" ++ full_subs 31 ++ codes ") (dir d (link \"l\" \"\") (sub \"s\" (foo))) (main))") ≡ Some (Size 14937)
unfolding fault full_subs files digits
an_entry_too_many = refl
