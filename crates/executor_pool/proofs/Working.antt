-- Each move keeps what holds of the workers and the jobs that run, and starts jobs in order.
use Rattle.std.proofs.Common.{◌≡◌, ℕ, ◌==◌, nat_lt, length, Bool, true, false, List, [], ◌∷◌, ◌++◌, Option, Some, None, refl, sym, ap, ◌∙◌, subst, append-nil, append_assoc, add-one}
use Rattle.std.specs.Prelude.{find}
use Rattle.std.proofs.lemmas.List.{map-append}
use Rattle.eio_value.specs.declared.call.Answer.TheVariants as answer
use Rattle.eio_value.specs.declared.call.Call.{Call}
use Rattle.eio_value.specs.declared.call.Call.TheVariants as call
use Rattle.eio_value.specs.declared.message.Job.{Job}
use Rattle.eio_value.specs.declared.message.Waiter.{Waiter}
use Rattle.eio_value.specs.declared.raised.Outcome.{Outcome}
use Rattle.eio_value.specs.declared.value.Value.TheVariants as value
use Rattle.eio_value.specs.Sending.{Sent, Resumes, Starts}
use Rattle.law_parts.specs.Items.{Move, Calls, Strikes}
use Rattle.law_parts.proofs.Choices.{either_way}
use Rattle.spec_parts.specs.Data.{Data, Executor, Running, Submitted, Work, Worker}
use Rattle.spec_parts.specs.Executors.{executor, executor_does, finish, fits, has_number, start_head, start_on, with_job, with_running, without_running, workers_from}
use Rattle.spec_parts.specs.Objects.{called}
use Rattle.spec_parts.specs.Row.{Row, Queued, Stepped, Takers, Waits, Ignores, done, found, otherwise, quiet, stepped}
use Rattle.spec_parts.specs.Strikes.{struck}
use Rattle.executor_pool.specs.Loads.{AreWorking}
use Rattle.executor_pool.specs.Working.{started_by, worked, numbers, first_numbers, WeightsAreBounded, StartInOrder}
use Rattle.executor_pool.proofs.Loads.{starts, ends, found_number, opening, bounded}

-- the jobs that started before and those that are queued are all that were submitted
abbrev IsOrdered : List ℕ → Work → Type 0
IsOrdered before work = before ++ numbers work.queued ≡ first_numbers work.submitted

-- what a call leads to
pub record Leads (work : Work) (values : Data) (sent : Option Sent) : Type 0 where
  pub now : Work
  pub becomes : values ≡ Executor now
  pub working : AreWorking now.workers now.running
  pub order : (before : List ℕ) → IsOrdered before work → IsOrdered (before ++ started_by sent) now

abbrev IsWorking : Work → Type 0
IsWorking work = AreWorking work.workers work.running

stays : (work : Work) → IsWorking work → Leads work (Executor work) None
stays work are = record { now = work; becomes = refl; working = are; order = λ before is. ap (λ (l : List ℕ). l ++ numbers work.queued) (append-nil before) ∙ is }

submits : (work : Work) (job : Job) → IsWorking work → Leads work (Executor (with_job work job)) None
submits work job are = record {
  now = with_job work job;
  becomes = refl;
  working = are;
  order = λ before is.
      ap (λ (l : List ℕ). l ++ numbers (work.queued ++ record { job = job; number = work.submitted } ∷ [])) (append-nil before)
      ∙ ap (λ (l : List ℕ). before ++ l) (map-append (λ (j : Submitted). j.number) work.queued (record { job = job; number = work.submitted } ∷ []))
      ∙ sym (append_assoc before (numbers work.queued) (work.submitted ∷ []))
      ∙ ap (λ (l : List ℕ). l ++ work.submitted ∷ []) is
      ∙ ap first_numbers (sym (add-one work.submitted));
}

starts_head : (work : Work) (head : Submitted) (others : List Submitted) (worker : Worker) → work.queued ≡ head ∷ others → find (fits head.job.weight) work.workers ≡ Some worker → IsWorking work
    → Leads work (Executor (with_running work head others worker)) (Some (Starts (record { domain = worker.domain; job = head.job; number = head.number })))
starts_head work head others worker is fit are = record {
  now = with_running work head others worker;
  becomes = refl;
  working = starts head.number head.job.weight work.workers work.running worker are fit;
  order = λ before order.
      append_assoc before (head.number ∷ []) (numbers others)
      ∙ ap (λ (l : List Submitted). before ++ numbers l) (sym is)
      ∙ order;
}

job_ends : (work : Work) (number : ℕ) (job : Running) (sent : Option Sent) → started_by sent ≡ [] → find (has_number number) work.running ≡ Some job → IsWorking work
    → Leads work (Executor (without_running work job)) sent
job_ends work number job sent none is are = record {
  now = without_running work job;
  becomes = refl;
  working = rw (found_number number work.running job is) (ends number work.workers work.running job are is);
  order = λ before order. ap (λ (l : List ℕ). (before ++ l) ++ numbers work.queued) none ∙ ap (λ (l : List ℕ). l ++ numbers work.queued) (append-nil before) ∙ order;
}

abbrev row_of : Work → List Queued → List Queued → Row
row_of work takers adders = record { values = Executor work; takers = takers; adders = adders }

abbrev StepLeads : Work → Stepped → Type 0
StepLeads work step = Leads work step.row.values step.sent

module _ (who : Waiter) (work : Work) (takers adders : List Queued) (are : IsWorking work) where
  waits_leads : (off : Bool) (job : Job) → StepLeads work (otherwise (row_of work takers adders) who off (Waits (Executor (with_job work job)) Takers value.Unit work.submitted))
  waits_leads true job = stays work are
  waits_leads false job = submits work job are

  submit_leads : (off : Bool) (job : Job) → StepLeads work (stepped (row_of work takers adders) who off (executor_does work (call.Submit job)))
  submit_leads off job =
      either_way
      (λ b. StepLeads work (stepped (row_of work takers adders) who off (Ignores (elim b [ true ↦ Waits (Executor (with_job work job)) Takers value.Unit work.submitted | false ↦ quiet (Executor work) answer.Nothing ]))))
      (nat_lt (length work.queued) work.most)
      (waits_leads off job)
      (stays work are)

  start_on_leads : (off : Bool) (head : Submitted) (others : List Submitted) (worker : Option Worker) → work.queued ≡ head ∷ others → find (fits head.job.weight) work.workers ≡ worker
      → StepLeads work (otherwise (row_of work takers adders) who off (start_on work head others worker))
  start_on_leads off head others None is fit = stays work are
  start_on_leads off head others (Some worker) is fit = starts_head work head others worker is fit are

  start_leads : (off : Bool) (jobs : List Submitted) → work.queued ≡ jobs → StepLeads work (otherwise (row_of work takers adders) who off (start_head work jobs))
  start_leads off [] is = stays work are
  start_leads off (head ∷ others) is = start_on_leads off head others (find (fits head.job.weight) work.workers) is refl

  finish_go : (off : Bool) (number : ℕ) (given : Outcome) (job : Running) (submitter : Option Queued) → find (has_number number) work.running ≡ Some job
      → StepLeads work (found (row_of work takers adders) Takers (λ submitter. submitter.number == number) (λ submitter. record { values = Executor (without_running work job); answer = done; outcome = given })
      (otherwise (row_of work takers adders) who off (quiet (Executor (without_running work job)) done)) submitter)
  finish_go off number given job None is = job_ends work number job None refl is are
  finish_go off number given job (Some submitter) is = job_ends work number job (Some (Resumes submitter.who given)) refl is are

  finish_leads : (off : Bool) (number : ℕ) (given : Outcome) (job : Option Running) → find (has_number number) work.running ≡ job → StepLeads work (stepped (row_of work takers adders) who off (finish work number given job))
  finish_leads off number given None is = stays work are
  finish_leads off number given (Some job) is = finish_go off number given job (find (λ submitter. submitter.number == number) takers) is

  call_leads : (off : Bool) (serial : ℕ) (call : Call) → StepLeads work (called (row_of work takers adders) who off serial call)
  call_leads off serial (call.Submit job) = submit_leads off job
  call_leads off serial (call.NextStart object) = start_leads off work.queued refl
  call_leads off serial (call.Done object number given) = finish_leads off number given (find (has_number number) work.running) refl
  call_leads off serial other = stays work are

row_leads : (row : Row) (who : Waiter) (off : Bool) (serial : ℕ) (call : Call) (work : Work) → row.values ≡ Executor work → IsWorking work → StepLeads work (called row who off serial call)
row_leads row who off serial call work is are =
    let seen : row_of work row.takers row.adders ≡ row = λ i. record { values = sym is i; takers = row.takers; adders = row.adders } in
    subst (λ (r : Row). StepLeads work (called r who off serial call)) seen (call_leads who work row.takers row.adders are off serial call)

-- what moves lead to
pub record AllLead (before started : List ℕ) (values : Data) : Type 0 where
  pub now : Work
  pub becomes : values ≡ Executor now
  pub working : IsWorking now
  pub order : IsOrdered (before ++ started) now

moves_lead : (row : Row) (moves : List Move) (before : List ℕ) (work : Work) → row.values ≡ Executor work → IsWorking work → IsOrdered before work
    → AllLead before (worked row moves).started (worked row moves).row.values
moves_lead row [] before work is are order = record { now = work; becomes = is; working = are; order = ap (λ (l : List ℕ). l ++ numbers work.queued) (append-nil before) ∙ order }
moves_lead row (Strikes who ∷ moves) before work is are order = moves_lead (struck row who) moves before work is are order
moves_lead row (Calls who off serial call ∷ moves) before work is are order =
    let step : Stepped = called row who off serial call in
    let leads : StepLeads work step = row_leads row who off serial call work is are in
    let rest = moves_lead step.row moves (before ++ started_by step.sent) leads.now leads.becomes leads.working (leads.order before order) in
    record {
      now = rest.now;
      becomes = rest.becomes;
      working = rest.working;
      order = ap (λ (l : List ℕ). l ++ numbers rest.now.queued) (sym (append_assoc before (started_by step.sent) (worked step.row moves).started)) ∙ rest.order;
    }

all_lead : (most : ℕ) (domains : List ℕ) (moves : List Move) → AllLead [] (worked (executor most domains) moves).started (worked (executor most domains) moves).row.values
all_lead most domains moves =
    let work : Work = record { most = most; queued = []; submitted = 0; workers = workers_from 0 domains; running = [] } in
    moves_lead (executor most domains) moves [] work refl (opening domains) refl

pub weights_are_bounded : WeightsAreBounded
weights_are_bounded most domains moves place =
    let all = all_lead most domains moves in
    rw all.becomes (bounded place all.now.workers all.now.running all.working)

pub start_in_order : StartInOrder
start_in_order most domains moves =
    let all = all_lead most domains moves in
    rw all.becomes all.order
