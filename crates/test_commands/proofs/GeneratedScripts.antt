-- Generated scripts, as inputs.
use Rattle.std.proofs.Common.{◌≡◌, refl}
use Rattle.std.specs.Prelude.{codes}
use Rattle.std.specs.Fmt.{digits}
use Rattle.spec_script.specs.Canonical.{canonical, canonical_row, canonical_rest, document}
use Rattle.spec_script.specs.Generator.{generated_forks, generated, generated_input}
use Rattle.test_commands.specs.Read.{respelled}

one_fork : generated_input 1 ≡ codes "(eio 1 (stream q 4) (main (switch s (fork s (add q 0) (yield) (add q 0)) (repeat k 2 (let x (take q)) (trace x)) (trace \"done\"))))\n"
unfolding generated_input generated generated_forks document canonical canonical_row canonical_rest digits
one_fork = refl

two_forks : generated_input 2 ≡ codes "(eio 1 (stream q 4) (main (switch s (fork s (add q 0) (yield) (add q 0)) (fork s (add q 1) (yield) (add q 1)) (repeat k 4 (let x (take q)) (trace x)) (trace \"done\"))))\n"
unfolding generated_input generated generated_forks document canonical canonical_row canonical_rest digits
two_forks = refl

eleven_forks : generated_input 11 ≡ codes "(eio 1 (stream q 4) (main (switch s (fork s (add q 0) (yield) (add q 0)) (fork s (add q 1) (yield) (add q 1)) (fork s (add q 2) (yield) (add q 2)) (fork s (add q 3) (yield) (add q 3)) (fork s (add q 4) (yield) (add q 4)) (fork s (add q 5) (yield) (add q 5)) (fork s (add q 6) (yield) (add q 6)) (fork s (add q 7) (yield) (add q 7)) (fork s (add q 8) (yield) (add q 8)) (fork s (add q 9) (yield) (add q 9)) (fork s (add q 10) (yield) (add q 10)) (repeat k 22 (let x (take q)) (trace x)) (trace \"done\"))))\n"
unfolding generated_input generated generated_forks document canonical canonical_row canonical_rest digits
eleven_forks = refl

-- read and spelled again, a canonical input is itself
thirty_forks_read : respelled (generated_input 30) ≡ generated_input 30
unfolding respelled generated_input generated generated_forks
thirty_forks_read = refl
