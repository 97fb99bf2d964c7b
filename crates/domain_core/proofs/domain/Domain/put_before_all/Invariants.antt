use Rattle.std.proofs.Common.{◌≡◌, ◌+◌, ◌≤◌, ◌++◌, ℕ}
use Rattle.spec_machine.specs.GroupMoves.{numbers_from}
use Rattle.domain_core.proofs.domain.Domain.put_before_all.Given as goal

-- so many were put before all others that this one is the first of them
abbrev pub invariant-loop-fiber : goal.invariant-loop-fiber
invariant-loop-fiber l =
    (l.first ≤ l.fiber)
    × (done : ℕ) × (l.fiber + done ≡ l.first + l.count)
    × (l.self-inside ≡ record (l.initial.self-inside) { ready = record (l.initial.self-inside.ready) { fibers = numbers_from l.fiber done ++ l.initial.self-inside.ready.fibers } })
