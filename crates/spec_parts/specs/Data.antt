-- What a shared object holds, beside the fibers that wait for it. Lists are oldest first; workers stand in order of choice.
use Rattle.std.specs.Prelude.{ℕ, List, Option}
use Rattle.eio_value.specs.declared.message.Job.{Job}
use Rattle.eio_value.specs.declared.raised.Outcome.{Outcome}
use Rattle.eio_value.specs.declared.value.Value.{Value}
use Rattle.spec_parts.specs.declared.hold.Hold.{Hold}

-- a job that was submitted, with its number among all jobs of its executor
pub record Submitted : Type 0 where
  pub job : Job
  pub number : ℕ

-- a worker: its place in the declaration, its domain, and the weight of all jobs that it runs
pub record Worker : Type 0 where
  pub place : ℕ
  pub domain : ℕ
  pub load : ℕ

-- a job that runs, with its weight and the place of its worker
pub record Running : Type 0 where
  pub number : ℕ
  pub weight : ℕ
  pub worker : ℕ

-- an executor: how many jobs can be queued at most, the queued ones, how many were submitted, the workers in order of choice, the jobs that run
pub record Work : Type 0 where
  pub most : ℕ
  pub queued : List Submitted
  pub submitted : ℕ
  pub workers : List Worker
  pub running : List Running

-- a stream has its capacity and its items; a promise its outcome, once it is resolved; a semaphore its count; a mutex whether it is free; a pool its size,
-- how many resources were made, which are the numbers below that, and those that nobody uses, the one put back last at the end; an executor its jobs and workers
pub data Data : Type 0 where
  Stream : (capacity : ℕ) → (items : List Value) → Data
  Promise : Option Outcome → Data
  Semaphore : (count : ℕ) → Data
  Mutex : Hold → Data
  Pool : (size : ℕ) → (made : ℕ) → (idle : List ℕ) → Data
  Executor : Work → Data
