use Rattle.std.proofs.Common.{◌≡◌, ◌≤◌, ◌+◌, ℕ, nat_le, true, List, [], ◌∷◌, ◌++◌, length, map, get_or, sym, ap, ◌∙◌, Some, None, arith, length-append}
use Rattle.std.specs.Prelude.{find}
use Rattle.std.specs.List.{position, remove}
use Rattle.std.specs.Vec.{vec_capacity}
use Rattle.std.proofs.lemmas.Grind.{common_steps}
use Rattle.std.proofs.lemmas.List.{map-append, length-map}
use Rattle.spec_parts.specs.Data.{Running, Worker}
use Rattle.spec_parts.specs.Executors.{fits}
use Rattle.spec_parts.specs.Row.{but_first}
use Rattle.wait_list.proofs.Picking.{Picked, picked, nowhere}
use Rattle.executor_pool.specs.declared.crew.Running.{Running as KeptRunning}
use Rattle.executor_pool.specs.declared.crew.Worker.{Worker as Kept}
use Rattle.executor_pool.specs.Crews.{Crew, crew_with}
use Rattle.executor_pool.specs.Kept.{running_of, worker_of}
use Rattle.executor_pool.proofs.Manning.{few_run, manned_with, passes}
use Rattle.executor_pool.proofs.crew.Crew.start.Goals as goal
use Rattle.executor_pool.proofs.crew.Crew.start.Goals.{After-push_reserved-2}

-- it fits none

unfit : (weight : ℕ) (items : List Kept) → None ≡ position (λ (kept : Kept). nat_le (kept.load + weight) 100) items → find (fits weight) (map worker_of items) ≡ None
unfit weight items is = nowhere worker_of (fits weight) items (sym is)

pub returns-in_err-at-clause-none : goal.returns-in_err-at-clause-none
returns-in_err-at-clause-none c =
    let gone : find (fits c.args.weight) (map worker_of c.self.inside.workers.items) ≡ None =
    unfit c.args.weight c.self.inside.workers.items (c.in_err-at.ensures ∙ ap (position (λ (kept : Kept). nat_le (kept.load + c.args.weight) 100)) c.deref.ensures.value)
    in
    ((λ e. rw (← c.self.view_is) gone), λ e. c.from_residual.ensures)

pub returns-in_err-at-clause-starts : goal.returns-in_err-at-clause-starts
returns-in_err-at-clause-starts c = λ worker found.
    let gone : find (fits c.args.weight) (map worker_of c.self.inside.workers.items) ≡ None = unfit c.args.weight c.self.inside.workers.items (c.in_err-at.ensures ∙ ap (position (λ (kept : Kept). nat_le (kept.load + c.args.weight) 100)) c.deref.ensures.value) in
    let there : find (fits c.args.weight) (map worker_of c.self.inside.workers.items) ≡ Some worker = rw (← c.self.view_is) at found in
    let e : None ≡ Some worker = sym gone ∙ there in
    absurd (cc)

-- the worker that it fits

record Fits (weight at : ℕ) (items : List Kept) (worker : Kept) : Type 0 where
  is : find (fits weight) (map worker_of items) ≡ Some (worker_of worker)
  left : map worker_of (remove items at) ≡ but_first (fits weight) (map worker_of items)
  light : worker.load + weight ≤ 100

at_most : (a b : ℕ) → nat_le a b ≡ true → a ≤ b
at_most a b h = grind (arith, common_steps)

fitted : (weight at : ℕ) (items : List Kept) (worker : Kept) → Some at ≡ position (λ (kept : Kept). nat_le (kept.load + weight) 100) items → worker ≡ get_or items at worker → Fits weight at items worker
fitted weight at items worker is value =
    let pick : Picked worker_of (fits weight) items at worker = picked worker_of (fits weight) items at worker (sym is) in
    let found : find (fits weight) (map worker_of items) ≡ Some (worker_of worker) = pick.found ∙ ap (λ (k : Kept). Some (worker_of k)) (sym value) in
    record { is = found; left = pick.left; light = at_most _ _ (passes (fits weight) (map worker_of items) (worker_of worker) found) }

pub overflow_add-worker : goal.overflow_add-worker
overflow_add-worker c =
    let f = fitted c.args.weight c.in_ok-at.at c.self.inside.workers.items c.remove-worker.result (c.in_ok-at.ensures ∙ ap (position (λ (kept : Kept). nat_le (kept.load + c.args.weight) 100)) c.deref.ensures.value) c.remove-worker.ensures.value in
    omega (arith, f.light)

pub push_reserved-requires-2 : goal.push_reserved-requires-2
push_reserved-requires-2 c =
    let f = fitted c.args.weight c.in_ok-at.at c.self.inside.workers.items c.remove-worker.result (c.in_ok-at.ensures ∙ ap (position (λ (kept : Kept). nat_le (kept.load + c.args.weight) 100)) c.deref.ensures.value) c.remove-worker.ensures.value in
    let now = manned_with c.args.number c.args.weight (map worker_of c.self.inside.workers.items) (map running_of c.self.inside.running.items) (vec_capacity c.self.inside.running) (worker_of c.remove-worker.result) c.requires.weighty c.self.invariant f.is in
    let few = few_run _ _ _ now in
    let job : Running = record { number = c.args.number; weight = c.args.weight; worker = c.remove-worker.result.place } in
    let long : length (map running_of c.self.inside.running.items ++ job ∷ []) ≡ length c.self.inside.running.items + 1 =
    length-append (map running_of c.self.inside.running.items) (job ∷ []) ∙ ap (λ n. n + 1) (length-map c.self.inside.running.items running_of)
    in
    omega (arith, few, long, c.self.inside.running.ok)

-- the workers and the jobs then

workers : (c : After-push_reserved-2) → Fits c.args.weight c.in_ok-at.at c.self.inside.workers.items c.remove-worker.result
    → map worker_of c.push_reserved.new.self.items ≡ but_first (fits c.args.weight) (map worker_of c.self.inside.workers.items) ++ record (worker_of c.remove-worker.result) { load = c.remove-worker.result.load + c.args.weight } ∷ []
workers c f =
    ap (λ (k : List Kept). map worker_of k) c.push_reserved.ensures.items
    ∙ map-append worker_of c.remove-worker.new.self.items _
    ∙ ap (λ (k : List Kept). map worker_of k ++ record (worker_of c.remove-worker.result) { load = c.remove-worker.result.load + c.args.weight } ∷ []) c.remove-worker.ensures.items
    ∙ ap (λ (ws : List Worker). ws ++ record (worker_of c.remove-worker.result) { load = c.remove-worker.result.load + c.args.weight } ∷ []) f.left

running : (c : After-push_reserved-2) → map running_of c.push_reserved-2.new.self.items ≡ map running_of c.self.inside.running.items ++ record { number = c.args.number; weight = c.args.weight; worker = c.remove-worker.result.place } ∷ []
running c = ap (λ (k : List KeptRunning). map running_of k) c.push_reserved-2.ensures.items ∙ map-append running_of c.self.inside.running.items _

pub invariant_of-self : goal.invariant_of-self
invariant_of-self c =
    let f = fitted c.args.weight c.in_ok-at.at c.self.inside.workers.items c.remove-worker.result (c.in_ok-at.ensures ∙ ap (position (λ (kept : Kept). nat_le (kept.load + c.args.weight) 100)) c.deref.ensures.value) c.remove-worker.ensures.value in
    let now = manned_with c.args.number c.args.weight (map worker_of c.self.inside.workers.items) (map running_of c.self.inside.running.items) (vec_capacity c.self.inside.running) (worker_of c.remove-worker.result) c.requires.weighty c.self.invariant f.is in
    let after = (goal.at.invariant_of-self c).After-push_reserved-2 in
    rw (workers after f, running after, c.push_reserved-2.ensures.capacity) now

pub returns-clause-none : goal.returns-clause-none
returns-clause-none c = (
  (λ (e : Some c.remove-worker.result.domain ≡ None). absurd (cc)),
  λ gone.
      let f = fitted c.args.weight c.in_ok-at.at c.self.inside.workers.items c.remove-worker.result (c.in_ok-at.ensures ∙ ap (position (λ (kept : Kept). nat_le (kept.load + c.args.weight) 100)) c.deref.ensures.value) c.remove-worker.ensures.value in
      let here : find (fits c.args.weight) (map worker_of c.self.inside.workers.items) ≡ None = rw (← c.self.view_is) at gone in
      let e : Some (worker_of c.remove-worker.result) ≡ None = sym f.is ∙ here in
      absurd (cc),
)

pub returns-clause-starts : goal.returns-clause-starts
returns-clause-starts c = λ worker found.
    let f = fitted c.args.weight c.in_ok-at.at c.self.inside.workers.items c.remove-worker.result (c.in_ok-at.ensures ∙ ap (position (λ (kept : Kept). nat_le (kept.load + c.args.weight) 100)) c.deref.ensures.value) c.remove-worker.ensures.value in
    let after = (goal.at.returns-clause-starts c).After-push_reserved-2 in
    let there : find (fits c.args.weight) (map worker_of c.self.inside.workers.items) ≡ Some worker = rw (← c.self.view_is) at found in
    let both : Some (worker_of c.remove-worker.result) ≡ Some worker = sym f.is ∙ there in
    let same : worker_of c.remove-worker.result ≡ worker = cc in
    let view : Crew = record { workers = map worker_of c.self.inside.workers.items; running = map running_of c.self.inside.running.items } in (
      ap (λ (w : Worker). Some w.domain) same,
      rw (← c.self.view_is) ((λ i. record { workers = workers after f i; running = running after i }) ∙ ap (λ (w : Worker). crew_with c.args.number c.args.weight w view) same),
    )
