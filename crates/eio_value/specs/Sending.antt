-- What a call on a shared object sends: a fiber goes on with the outcome of its call, or a job starts in a domain. A message is the same with a stamp.
use Rattle.std.specs.Prelude.{ℕ}
use Rattle.eio_value.specs.declared.message.Job.{Job}
use Rattle.eio_value.specs.declared.message.Waiter.{Waiter}
use Rattle.eio_value.specs.declared.raised.Outcome.{Outcome}

-- a job that starts in a domain
pub record Start : Type 0 where
  pub domain : ℕ
  pub job : Job
  pub number : ℕ

-- what a call sends
pub data Sent : Type 0 where
  Resumes : Waiter → Outcome → Sent
  Starts : Start → Sent
