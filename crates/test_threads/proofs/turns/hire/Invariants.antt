use Rattle.std.proofs.Common.{◌≡◌, ◌+◌, false, All, vec_len}
use Rattle.test_threads.proofs.turns.hire.Given as goal

abbrev pub invariant-loop-pass : goal.invariant-loop-pass
invariant-loop-pass l =
    (vec_len l.workers + vec_len l.passes ≡ vec_len l.fn.passes)
    × All (λ p. p.turn ≡ l.turn.id) l.passes.items
    × All (λ p. p.holds ≡ false) l.passes.items
    × All (λ w. (w.pass.turn ≡ l.turn.id) × (w.pass.holds ≡ false)) l.workers.items

abbrev pub decreases-loop-pass : goal.decreases-loop-pass
decreases-loop-pass l = vec_len l.passes
