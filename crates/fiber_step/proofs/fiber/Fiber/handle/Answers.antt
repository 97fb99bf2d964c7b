use Rattle.fiber_step.proofs.Entries.{on_ok, placed_handling}
use Rattle.fiber_step.proofs.fiber.Fiber.handle.Goals as goal

pub returns-clause-items : goal.returns-clause-items
returns-clause-items c =
    on_ok _ _ c.go_into_handler.result c.go_into_handler.ensures.ok (λ same nodes all has. placed_handling nodes _ _ c.args.handler c.args.registered c.args.self.now c.go_into_handler.new.self same all has (tt, tt) (tt, tt))
