use Rattle.std.proofs.Common.{◌≤◌, ◌*◌, length, arith}
use Rattle.std.specs.Vec.{vec_capacity}
use Rattle.executor_pool.proofs.Manning.{manned_first}
use Rattle.executor_pool.proofs.crew.Crew.new.Goals as goal

pub invariant_of-result : goal.invariant_of-result
invariant_of-result c =
    let room : 100 * length c.args.domains.now ≤ vec_capacity c.in_ok-running.running = omega (arith, c.in-Some.ensures, c.in_ok-running.ensures.capacity) in
    rw (c.in_ok-workers.ensures, c.in_ok-running.ensures.items) (manned_first c.args.domains.now (vec_capacity c.in_ok-running.running) room)
