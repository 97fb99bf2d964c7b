use Rattle.std.proofs.Common.{arith}
use Rattle.executor_pool.proofs.exec.Exec.each_cell_once.Goals as goal

pub returns-clause-once : goal.returns-clause-once
returns-clause-once c = rw (← c.self.view_is) (λ cell. let once = c.each_cell_once.ensures.once cell in omega (arith, once))
