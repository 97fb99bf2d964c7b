use Rattle.std.proofs.Common.{◌≡◌, true≢false, List, map, Some, None, sym, ap, ◌∙◌}
use Rattle.std.specs.Prelude.{find}
use Rattle.spec_parts.specs.Data.{Running, Work}
use Rattle.spec_parts.specs.Executors.{has_number as job_has, without_running}
use Rattle.spec_parts.specs.Row.{Queued, but_first}
use Rattle.wait_list.specs.Lists.{WaitingList}
use Rattle.wait_list.specs.Standing.{queued_of}
use Rattle.wait_list.specs.Waits.{has_number}
use Rattle.executor_pool.specs.Crews.{Crew}
use Rattle.executor_pool.specs.Kept.{submitted_of}
use Rattle.executor_pool.specs.declared.exec.Exec.TheInside.{Inside}
use Rattle.executor_pool.proofs.Finishing.{met, none_asked, one_asked}
use Rattle.executor_pool.proofs.Submitting.{numbered-fewer}
use Rattle.executor_pool.proofs.exec.Exec.done.Given.{Over}
use Rattle.executor_pool.proofs.exec.Exec.done.Goals as goal
use Rattle.executor_pool.proofs.exec.Exec.done.Goals.{After-take_numbered}

-- the data of the executor with this crew
abbrev data_of : Inside → Crew → Work
data_of inside crew = record { most = inside.most; queued = map submitted_of inside.queued.items; submitted = inside.submitted; workers = crew.workers; running = crew.running }

module _ (g : Over) (c : After-take_numbered g) where
  runs : find (job_has c.args.number) c.self.inside.crew.running ≡ None → ⊥
  runs none = true≢false (sym c.if-not-end.false ∙ c.end.ensures.none.1 none)

  now : (job : Running) → find (job_has c.args.number) c.self.inside.crew.running ≡ Some job → data_of c.self.inside c.end.new.self ≡ without_running (data_of c.self.inside c.self.inside.crew) job
  now job is = ap (data_of c.self.inside) (c.end.ensures.ends job is).1

  left : c.take_numbered.new.self.waiting ≡ but_first (has_number c.args.number) c.self.inside.submitters.waiting
  left = ap (λ (l : WaitingList). l.waiting) c.take_numbered.ensures.left

pub invariant_of-self-in_default : goal.invariant_of-self-in_default
invariant_of-self-in_default g c = rw c.take_numbered.ensures.left (record {
  cells = c.self.invariant.cells;
  few = c.self.invariant.few;
  room = c.self.invariant.room;
  heavy = c.self.invariant.heavy;
  numbered = numbered-fewer c.self.inside.submitted c.args.number c.self.inside.submitters.waiting c.self.invariant.numbered;
})

pub invariant_of-self-2 : goal.invariant_of-self-2
invariant_of-self-2 g c = rw c.take_numbered.ensures.left (record {
  cells = c.self.invariant.cells;
  few = c.self.invariant.few;
  room = c.self.invariant.room;
  heavy = c.self.invariant.heavy;
  numbered = numbered-fewer c.self.inside.submitted c.args.number c.self.inside.submitters.waiting c.self.invariant.numbered;
})

pub returns-in_default-clause-ends : goal.returns-in_default-clause-ends
returns-in_default-clause-ends g c = λ who off object serial.
    let at = (goal.at.returns-in_default-clause-ends g c).After-take_numbered in
    let work : Work = data_of c.self.inside c.self.inside.crew in
    let after : Work = data_of c.self.inside c.end.new.self in
    let takers : List Queued = c.self.inside.submitters.waiting in
    let knows = g.W.Wake.knows c.args.wake.now in
    rw (← c.self.view_is, left g at)
    (met knows knows (g.W.Wake.tells c.args.wake.now) work after takers (but_first (has_number c.args.number) takers) who off c.args.number c.args.outcome (g.W.Wake.sent c.args.wake.now)
    (find (job_has c.args.number) c.self.inside.crew.running) (runs g at) (now g at)
    (none_asked knows knows (g.W.Wake.tells c.args.wake.now) work after takers who off c.args.number c.args.outcome (g.W.Wake.sent c.args.wake.now) (sym c.in_default.ensures.found) (λ cell armed known. known) c.requires.quiet))

pub returns-clause-ends : goal.returns-clause-ends
returns-clause-ends g c = λ who off object serial.
    let at = (goal.at.returns-clause-ends g c).After-take_numbered in
    let work : Work = data_of c.self.inside c.self.inside.crew in
    let after : Work = data_of c.self.inside c.end.new.self in
    let takers : List Queued = c.self.inside.submitters.waiting in
    let knew = g.W.Wake.knows c.args.wake.now in
    let knows = g.W.Wake.knows c.wake.new.self in
    let tells = g.W.Wake.tells c.args.wake.now in
    rw (← c.self.view_is, left g at)
    (met knew knows tells work after takers (but_first (has_number c.args.number) takers) who off c.args.number c.args.outcome (g.W.Wake.sent c.wake.new.self)
    (find (job_has c.args.number) c.self.inside.crew.running) (runs g at) (now g at)
    (one_asked knew knows tells work after takers who off c.args.number c.args.outcome c.self.inside.submitted (queued_of c.in-Some.submitter) c.wake.result (g.W.Wake.sent c.wake.new.self) (sym c.in-Some.ensures.found)
    c.self.invariant.numbered c.wake.ensures.keeps c.wake.ensures.told c.wake.ensures.wakes))
