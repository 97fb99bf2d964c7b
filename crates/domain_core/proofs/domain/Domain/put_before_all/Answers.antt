use Rattle.std.proofs.Common.{◌≤◌, ◌+◌, ◌-◌, ◌∷◌, suc, ℕ, List, length, ap, ◌∙◌, sym, subst, arith}
use Rattle.domain_core.specs.declared.domain.Domain.TheInside.{Inside}
use Rattle.domain_core.specs.Keeping.{KeptDomain}
use Rattle.domain_core.proofs.Branching.{before_first, room_for_all}
use Rattle.domain_core.proofs.domain.Domain.put_before_all.Goals as goal

pub push_head_reserved-requires : goal.push_head_reserved-requires
push_head_reserved-requires c = record {
  room =
      room_for_all c.args.first c.args.count c.loop-fiber.fiber c.loop-fiber.invariant.1 c.loop-fiber.self-inside.ready.most
      c.loop-fiber.self-inside.ready.fibers c.self.inside.ready.fibers
      (ap (λ (i : Inside). i.ready.fibers) c.loop-fiber.invariant.3)
      (ap (λ (i : Inside). i.ready.most) c.loop-fiber.invariant.3 ∙ c.self.invariant.0)
      c.loop-fiber-test.true c.loop-fiber.invariant.2
      (subst (λ (kept : KeptDomain). length kept.ready + c.args.count ≤ 1024) (sym c.self.view_is) c.requires.room);
}

pub loop-fiber-preserved : goal.loop-fiber-preserved
loop-fiber-preserved c = (
  omega (arith, c.loop-fiber-test.true),
  suc c.loop-fiber.invariant.1,
  omega (arith, c.loop-fiber-test.true, c.loop-fiber.invariant.2),
  ap (λ ready. record (c.loop-fiber.self-inside) { ready = ready }) c.push_head_reserved.ensures
      ∙ (ap (λ (i : Inside). record i { ready = record (i.ready) { fibers = (c.loop-fiber.fiber - 1) ∷ i.ready.fibers } }) c.loop-fiber.invariant.3
      ∙ ap (λ (xs : List ℕ). record (c.self.inside) { ready = record (c.self.inside.ready) { fibers = xs } })
      (before_first c.args.first c.loop-fiber.fiber c.loop-fiber.invariant.1 c.self.inside.ready.fibers c.loop-fiber-test.true)),
)
