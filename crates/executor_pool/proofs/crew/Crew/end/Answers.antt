use Rattle.std.proofs.Common.{true, false, ◌≡◌, ◌==◌, ℕ, List, map, get_or, sym, refl, ap, ◌∙◌, Some, None}
use Rattle.std.specs.Prelude.{find}
use Rattle.std.specs.List.{position, remove}
use Rattle.spec_parts.specs.Data.{Running}
use Rattle.spec_parts.specs.Executors.{has_number, relieved}
use Rattle.spec_parts.specs.Row.{but_first}
use Rattle.wait_list.proofs.Picking.{Picked, picked, nowhere}
use Rattle.executor_pool.specs.declared.crew.Running.{Running as Kept}
use Rattle.executor_pool.specs.Kept.{running_of, worker_of}
use Rattle.executor_pool.proofs.Loads.{found_number}
use Rattle.executor_pool.proofs.Manning.{bears, manned_without}
use Rattle.executor_pool.proofs.crew.Crew.end.Goals as goal

-- the job that leaves

record Leaves (number at : ℕ) (items : List Kept) (job : Kept) : Type 0 where
  is : find (has_number number) (map running_of items) ≡ Some (running_of job)
  left : map running_of (remove items at) ≡ but_first (has_number number) (map running_of items)

leaves : (number at : ℕ) (items : List Kept) (job : Kept) → Some at ≡ position (λ (kept : Kept). kept.number == number) items → job ≡ get_or items at job → Leaves number at items job
leaves number at items job is value =
    let pick : Picked running_of (has_number number) items at job = picked running_of (has_number number) items at job (sym is) in
    record { is = pick.found ∙ ap (λ (k : Kept). Some (running_of k)) (sym value); left = pick.left }

-- none has the number
none : (number : ℕ) (items : List Kept) → None ≡ position (λ (kept : Kept). kept.number == number) items → find (has_number number) (map running_of items) ≡ None
none number items is = nowhere running_of (has_number number) items (sym is)

pub returns-in_default-clause-none : goal.returns-in_default-clause-none
returns-in_default-clause-none c =
    let gone : find (has_number c.args.number) (map running_of c.self.inside.running.items) ≡ None =
    none c.args.number c.self.inside.running.items (c.in_default.ensures ∙ ap (position (λ (kept : Kept). kept.number == c.args.number)) c.deref.ensures.value)
    in
    ((λ e. rw (← c.self.view_is) gone), λ e. refl)

pub returns-in_default-clause-ends : goal.returns-in_default-clause-ends
returns-in_default-clause-ends c = λ job found.
    let gone : find (has_number c.args.number) (map running_of c.self.inside.running.items) ≡ None = none c.args.number c.self.inside.running.items (c.in_default.ensures ∙ ap (position (λ (kept : Kept). kept.number == c.args.number)) c.deref.ensures.value) in
    let there : find (has_number c.args.number) (map running_of c.self.inside.running.items) ≡ Some job = rw (← c.self.view_is) at found in
    let e : None ≡ Some job = sym gone ∙ there in
    absurd (cc)

pub relieve-requires-clause-bears : goal.relieve-requires-clause-bears
relieve-requires-clause-bears c = λ worker found.
    let l = leaves c.args.number c.in-Some.at c.self.inside.running.items c.remove-job.result (c.in-Some.ensures ∙ ap (position (λ (kept : Kept). kept.number == c.args.number)) c.deref.ensures.value) c.remove-job.ensures.value in
    bears c.args.number (map worker_of c.self.inside.workers.items) (map running_of c.self.inside.running.items) (running_of c.remove-job.result) worker c.self.invariant.working l.is found

pub invariant_of-self : goal.invariant_of-self
invariant_of-self c =
    let l = leaves c.args.number c.in-Some.at c.self.inside.running.items c.remove-job.result (c.in-Some.ensures ∙ ap (position (λ (kept : Kept). kept.number == c.args.number)) c.deref.ensures.value) c.remove-job.ensures.value in
    rw (c.relieve.ensures, c.remove-job.ensures.items, l.left, c.remove-job.ensures.capacity) (manned_without c.args.number _ _ _ (running_of c.remove-job.result) c.self.invariant l.is)

pub returns-clause-none : goal.returns-clause-none
returns-clause-none c = (
  (λ (e : true ≡ false). absurd (cc)),
  λ gone.
      let l = leaves c.args.number c.in-Some.at c.self.inside.running.items c.remove-job.result (c.in-Some.ensures ∙ ap (position (λ (kept : Kept). kept.number == c.args.number)) c.deref.ensures.value) c.remove-job.ensures.value in
      let here : find (has_number c.args.number) (map running_of c.self.inside.running.items) ≡ None = rw (← c.self.view_is) at gone in
      let e : Some (running_of c.remove-job.result) ≡ None = sym l.is ∙ here in
      absurd (cc),
)

pub returns-clause-ends : goal.returns-clause-ends
returns-clause-ends c = λ job found.
    let l = leaves c.args.number c.in-Some.at c.self.inside.running.items c.remove-job.result (c.in-Some.ensures ∙ ap (position (λ (kept : Kept). kept.number == c.args.number)) c.deref.ensures.value) c.remove-job.ensures.value in
    let there : find (has_number c.args.number) (map running_of c.self.inside.running.items) ≡ Some job = rw (← c.self.view_is) at found in
    let both : Some (running_of c.remove-job.result) ≡ Some job = sym l.is ∙ there in
    let same : running_of c.remove-job.result ≡ job = cc in
    let number : c.args.number ≡ job.number = sym (found_number c.args.number _ job there) in
    let jobs : map running_of c.remove-job.new.self.items ≡ but_first (has_number job.number) (map running_of c.self.inside.running.items) =
    ap (λ (k : List Kept). map running_of k) c.remove-job.ensures.items ∙ l.left ∙ ap (λ (n : ℕ). but_first (has_number n) (map running_of c.self.inside.running.items)) number
    in
    let workers : map worker_of c.relieve.new.workers.items ≡ map (relieved job) (map worker_of c.self.inside.workers.items) =
    c.relieve.ensures ∙ ap (λ (j : Running). map (relieved j) (map worker_of c.self.inside.workers.items)) same
    in
    (refl, rw (← c.self.view_is) (λ i. record { workers = workers i; running = jobs i }))
