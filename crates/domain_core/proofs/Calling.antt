-- What a fiber has that can call: room in the ready list, and all that it needs to go into a block, which a failure leaves it.
use Rattle.std.proofs.Common.{◌≡◌, ℕ, ◌<◌, List, length, Option, Some, ◌∙◌, sym, subst, arith}
use Rattle.script_forms.specs.declared.node.Node.{Node}
use Rattle.domain_core.specs.Conditions.{CanCall, CanEnter, LeavesScopes, RunsInLive}
use Rattle.domain_core.specs.Keeping.{KeptDomain, KeptFiber, kept_at}
use Rattle.domain_core.specs.Stepping.{IsPlacedAt}
use Rattle.domain_core.proofs.Awake.{awake_by}

-- it lives and stands in no list, so that those who stand there are fewer than may live
pub room_for_caller : (kept : KeptDomain) (g : ℕ) → CanCall kept g → length kept.ready < 1024
room_for_caller kept g can = (
    let room = can.room in
    let most = can.most in
    omega (arith, room, most))

pub can_enter : (nodes : List Node) (kept : KeptDomain) (g : ℕ) → CanCall kept g → IsPlacedAt nodes g kept.fibers → CanEnter nodes kept g
can_enter nodes kept g can placed =
    record { awake = can.awake; live = can.live; room = room_for_caller kept g can; placed = placed; few = can.few_contexts }

module _ (nodes : List Node) (old new : KeptDomain) (leaves : LeavesScopes old new) (g : ℕ) where
  live_still : RunsInLive old g → RunsInLive new g
  live_still live fiber there =
      leaves.live fiber.context ∙ live fiber (subst (λ (fibers : List (Option KeptFiber)). kept_at fibers g ≡ Some fiber) leaves.fibers.fibers there)

  pub enters_still : CanEnter nodes old g → CanEnter nodes new g
  enters_still can = record {
    awake = awake_by old new leaves.fibers.fibers g can.awake;
    live = live_still can.live;
    room = subst (λ (xs : List ℕ). length xs < 1024) (sym leaves.fibers.ready) can.room;
    placed = subst (λ (fibers : List (Option KeptFiber)). IsPlacedAt nodes g fibers) (sym leaves.fibers.fibers) can.placed;
    few = (let few = can.few in let same = leaves.contexts in omega (arith, few, same));
  }
