-- Every prefix of a script but the whole is Unclosed: at the text that is open, else at the last list that is open.
use Rattle.std.proofs.Common.{◌≡◌, List, ◌++◌, Result, Err, Option, Some, None, refl}
use Rattle.std.specs.Prelude.{ℕ, [], ◌∷◌, codes, decimal, take, length, map, replicate}
use Rattle.std.specs.Fmt.{digits}
use Rattle.std.specs.List.{range_with_len}
use Rattle.spec_script.specs.Trees.{Tree}
use Rattle.spec_script.specs.Faults as fault
use Rattle.spec_script.specs.Faults.{TreeFault}
use Rattle.test_commands.specs.Read.{tree}
use Rattle.test_commands.specs.Run.{Shown, answer}

script : List ℕ
script = codes "(eio 1 (main (switch s (fork s (trace \"x\") (yield) (trace \"z\")) (trace \"y\"))))"

-- the place of the fault Unclosed
unclosed_at : Result Tree TreeFault → Option ℕ
unclosed_at (Err (fault.Unclosed at)) = Some at
unclosed_at _ = None

-- what the first n bytes are read as
prefix_unclosed_at : ℕ → Option ℕ
prefix_unclosed_at n = unclosed_at (tree (take n script))

the_script_is_whole : length script ≡ 78
unfolding script
the_script_is_whole = refl

places : List ℕ
places = replicate 8 0 ++ replicate 6 7 ++ replicate 10 13 ++ replicate 8 23 ++ replicate 7 31 ++ replicate 2 38 ++ replicate 1 31 ++ replicate 2 23 ++ replicate 6 43 ++ replicate 2 23 ++ replicate 7 51 ++ replicate 2 58 ++ replicate 1 51 ++ replicate 1 23 ++ replicate 2 13 ++ replicate 7 64 ++ replicate 2 71 ++ replicate 1 64 ++ replicate 1 13 ++ replicate 1 7 ++ replicate 1 0

every_prefix_is_unclosed : map prefix_unclosed_at (range_with_len 0 78) ≡ map Some places
unfolding prefix_unclosed_at unclosed_at script places tree
every_prefix_is_unclosed = refl

-- what `mock` makes of the first n bytes
prefix_mocked : ℕ → Shown
prefix_mocked n = answer (codes "mock" ∷ []) (take n script)

refused_at : ℕ → Shown
refused_at at = record { text = codes "!Refused Unclosed at " ++ decimal at ++ codes "\n"; status = 2 }

every_prefix_is_refused : map prefix_mocked (range_with_len 0 78) ≡ map refused_at places
unfolding prefix_mocked refused_at script places answer digits
every_prefix_is_refused = refl
