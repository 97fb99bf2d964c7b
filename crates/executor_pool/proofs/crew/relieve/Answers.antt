use Rattle.std.proofs.Common.{◌≡◌, ◌==◌, ◌<◌, ◌-◌, ℕ, List, length, Some, None, map, get_or, sym, ap, ◌∙◌, eqb-true, slice_set}
use Rattle.std.specs.Prelude.{find}
use Rattle.std.specs.List.{position}
use Rattle.spec_parts.specs.Data.{Worker}
use Rattle.wait_list.proofs.Picking.{Picked, picked, nowhere}
use Rattle.executor_pool.specs.declared.crew.Worker.{Worker as Kept}
use Rattle.executor_pool.specs.Kept.{running_of, worker_of}
use Rattle.executor_pool.proofs.Manning.{passes}
use Rattle.executor_pool.proofs.Relieving.{one_relieved, nobody_relieved}
use Rattle.executor_pool.proofs.crew.relieve.Goals as goal

-- the worker that has the place

record Stands (place at : ℕ) (items : List Kept) (worker : Kept) : Type 0 where
  within : at < length items
  is : find (λ (w : Worker). w.place == place) (map worker_of items) ≡ Some (worker_of worker)
  here : worker.place ≡ place

stands : (place at : ℕ) (items : List Kept) (worker : Kept) → Some at ≡ position (λ (kept : Kept). kept.place == place) items → worker ≡ get_or items at worker → Stands place at items worker
stands place at items worker is value =
    let pick : Picked worker_of (λ (w : Worker). w.place == place) items at worker = picked worker_of (λ (w : Worker). w.place == place) items at worker (sym is) in
    let found : find (λ (w : Worker). w.place == place) (map worker_of items) ≡ Some (worker_of worker) = pick.found ∙ ap (λ (k : Kept). Some (worker_of k)) (sym value) in
    record { within = pick.within; is = found; here = eqb-true worker.place place (passes (λ (w : Worker). w.place == place) (map worker_of items) (worker_of worker) found) }

pub overflow_sub-index_mut : goal.overflow_sub-index_mut
overflow_sub-index_mut c =
    let at = c.in-Some.ensures ∙ ap (position (λ (kept : Kept). kept.place == c.args.job.worker)) c.deref.ensures.value in
    let s = stands c.args.job.worker c.in-Some.at c.args.workers.now.items c.index_mut.result.now at c.index_mut.ensures.value in
    c.requires.bears (worker_of c.index_mut.result.now) s.is

pub returns-in-Some : goal.returns-in-Some
returns-in-Some c =
    let at = c.in-Some.ensures ∙ ap (position (λ (kept : Kept). kept.place == c.args.job.worker)) c.deref.ensures.value in
    let worker : Kept = c.index_mut.result.now in
    let s = stands c.args.job.worker c.in-Some.at c.args.workers.now.items worker at c.index_mut.ensures.value in
    let there : (get_or c.args.workers.now.items c.in-Some.at worker).place ≡ c.args.job.worker = ap (λ (k : Kept). k.place) (sym c.index_mut.ensures.value) ∙ s.here in
    ap (λ (k : Kept). map worker_of (slice_set c.args.workers.now.items c.in-Some.at (record k { load = k.load - c.args.job.weight }))) c.index_mut.ensures.value
    ∙ one_relieved (running_of c.args.job) c.args.workers.now.items c.in-Some.at worker c.requires.apart s.within there

pub returns-in_default : goal.returns-in_default
returns-in_default c =
    let none : position (λ (kept : Kept). kept.place == c.args.job.worker) c.args.workers.now.items ≡ None = sym (c.in_default.ensures ∙ ap (position (λ (kept : Kept). kept.place == c.args.job.worker)) c.deref.ensures.value) in
    sym (nobody_relieved (running_of c.args.job) (map worker_of c.args.workers.now.items) (nowhere worker_of (λ (w : Worker). w.place == c.args.job.worker) c.args.workers.now.items none))
