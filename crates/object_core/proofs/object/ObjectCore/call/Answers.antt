use Rattle.std.proofs.Common.{◌≡◌, ◌≢◌, ℕ, ◌+◌, ◌≤◌, ap, sym, ◌∙◌, subst, arith}
use Rattle.eio_value.specs.Waits.{ObjectKind, Streams, Promises, Semaphores, Mutexes, Pools, Executors}
use Rattle.executor_pool.specs.Working.{submitted}
use Rattle.spec_parts.specs.Data.{Data}
use Rattle.wait_list.specs.Lists.{Core}
use Rattle.object_core.proofs.KindKept.{submits_nothing}
use Rattle.object_core.proofs.Without.{kind_kept}
use Rattle.object_core.specs.Holding.{core_in, IsHeld}
use Rattle.object_core.specs.Kinds.{kind_of}
use Rattle.object_core.proofs.object.ObjectCore.call.Goals as goal
use Rattle.object_core.proofs.object.ObjectCore.call.Goals.{in-Stream, in-Promise, in-Semaphore, in-Mutex, in-Pool, in-Executor}

pub invariant_of-self : goal.invariant_of-self
invariant_of-self g c = elim c.match-self.branch [
  | in-Stream w ↦ rw w.self-inside-is (kind_kept _ _ _ _ _ _ c.args.serial c.args.call _ (w.call_stream.ensures.meets c.args.serial) ∙ subst IsHeld w.in-Stream.is c.self.invariant)
  | in-Promise w ↦ rw w.self-inside-is (kind_kept _ _ _ _ _ _ c.args.serial c.args.call _ (w.call_promise.ensures.meets) ∙ subst IsHeld w.in-Promise.is c.self.invariant)
  | in-Semaphore w ↦ rw w.self-inside-is (kind_kept _ _ _ _ _ _ c.args.serial c.args.call _ (w.call_sem.ensures.meets c.args.serial) ∙ subst IsHeld w.in-Semaphore.is c.self.invariant)
  | in-Mutex w ↦ rw w.self-inside-is (kind_kept _ _ _ _ _ _ c.args.serial c.args.call _ (w.call_lock.ensures.meets) ∙ subst IsHeld w.in-Mutex.is c.self.invariant)
  | in-Pool w ↦ rw w.self-inside-is (kind_kept _ _ _ _ _ _ c.args.serial c.args.call _ (w.call_pool.ensures.meets c.args.serial) ∙ subst IsHeld w.in-Pool.is c.self.invariant)
  | in-Executor w ↦ rw w.self-inside-is (kind_kept _ _ _ _ _ _ c.args.serial c.args.call _ (w.call_exec.ensures.meets c.args.serial) ∙ subst IsHeld w.in-Executor.is c.self.invariant)
]

pub returns-clause-kind : goal.returns-clause-kind
returns-clause-kind g c = elim c.match-self.branch [
  | in-Stream w ↦ rw w.self-inside-is (kind_kept _ _ _ _ _ _ c.args.serial c.args.call _ (w.call_stream.ensures.meets c.args.serial) ∙ (ap (λ held. kind_of (core_in held).row.values) (sym w.in-Stream.is) ∙ ap (λ (core : Core). kind_of core.row.values) c.self.view_is))
  | in-Promise w ↦ rw w.self-inside-is (kind_kept _ _ _ _ _ _ c.args.serial c.args.call _ (w.call_promise.ensures.meets) ∙ (ap (λ held. kind_of (core_in held).row.values) (sym w.in-Promise.is) ∙ ap (λ (core : Core). kind_of core.row.values) c.self.view_is))
  | in-Semaphore w ↦ rw w.self-inside-is (kind_kept _ _ _ _ _ _ c.args.serial c.args.call _ (w.call_sem.ensures.meets c.args.serial) ∙ (ap (λ held. kind_of (core_in held).row.values) (sym w.in-Semaphore.is) ∙ ap (λ (core : Core). kind_of core.row.values) c.self.view_is))
  | in-Mutex w ↦ rw w.self-inside-is (kind_kept _ _ _ _ _ _ c.args.serial c.args.call _ (w.call_lock.ensures.meets) ∙ (ap (λ held. kind_of (core_in held).row.values) (sym w.in-Mutex.is) ∙ ap (λ (core : Core). kind_of core.row.values) c.self.view_is))
  | in-Pool w ↦ rw w.self-inside-is (kind_kept _ _ _ _ _ _ c.args.serial c.args.call _ (w.call_pool.ensures.meets c.args.serial) ∙ (ap (λ held. kind_of (core_in held).row.values) (sym w.in-Pool.is) ∙ ap (λ (core : Core). kind_of core.row.values) c.self.view_is))
  | in-Executor w ↦ rw w.self-inside-is (kind_kept _ _ _ _ _ _ c.args.serial c.args.call _ (w.call_exec.ensures.meets c.args.serial) ∙ (ap (λ held. kind_of (core_in held).row.values) (sym w.in-Executor.is) ∙ ap (λ (core : Core). kind_of core.row.values) c.self.view_is))
]

-- an object that isn't an executor had nothing submitted, and has nothing
still_none : (new : Data) (old : ℕ) (kind : ObjectKind) → kind_of new ≡ kind → kind ≢ Executors → submitted new ≤ old + 1
still_none new old kind is other = (let none = submits_nothing new kind is other in omega (arith, none))

pub returns-clause-counts : goal.returns-clause-counts
returns-clause-counts g c = elim c.match-self.branch [
  | in-Stream w ↦ rw w.self-inside-is (still_none _ _ Streams (kind_kept _ _ _ _ _ _ c.args.serial c.args.call _ (w.call_stream.ensures.meets c.args.serial) ∙ subst IsHeld w.in-Stream.is c.self.invariant) (λ e. cc))
  | in-Promise w ↦ rw w.self-inside-is (still_none _ _ Promises (kind_kept _ _ _ _ _ _ c.args.serial c.args.call _ (w.call_promise.ensures.meets) ∙ subst IsHeld w.in-Promise.is c.self.invariant) (λ e. cc))
  | in-Semaphore w ↦ rw w.self-inside-is (still_none _ _ Semaphores (kind_kept _ _ _ _ _ _ c.args.serial c.args.call _ (w.call_sem.ensures.meets c.args.serial) ∙ subst IsHeld w.in-Semaphore.is c.self.invariant) (λ e. cc))
  | in-Mutex w ↦ rw w.self-inside-is (still_none _ _ Mutexes (kind_kept _ _ _ _ _ _ c.args.serial c.args.call _ (w.call_lock.ensures.meets) ∙ subst IsHeld w.in-Mutex.is c.self.invariant) (λ e. cc))
  | in-Pool w ↦ rw w.self-inside-is (still_none _ _ Pools (kind_kept _ _ _ _ _ _ c.args.serial c.args.call _ (w.call_pool.ensures.meets c.args.serial) ∙ subst IsHeld w.in-Pool.is c.self.invariant) (λ e. cc))
  | in-Executor w ↦ rw w.self-inside-is (let same = ap (λ held. submitted (core_in held).row.values) (sym w.in-Executor.is) ∙ ap (λ (core : Core). submitted core.row.values) c.self.view_is in let counts = w.call_exec.ensures.counts in omega (arith, same, counts))
]
