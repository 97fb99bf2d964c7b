-- What holds of the jobs that are queued and of the fibers that wait for a job, and when no job can start.
use Rattle.std.specs.Prelude.{◌≡◌, ℕ, ◌<◌, ◌≤◌, false, List, [], ◌∷◌, find, length, None}
use Rattle.std.specs.List.{list_any}
use Rattle.spec_parts.specs.Data.{Data, Executor, Submitted, Worker}
use Rattle.spec_parts.specs.Executors.{fits}
use Rattle.spec_parts.specs.Row.{Queued}
use Rattle.wait_list.specs.Lists.{WaitingList}
use Rattle.wait_list.specs.Waits.{has_number}

-- each of these jobs weighs something
abbrev pub AreHeavy : List Submitted → Type 0
AreHeavy [] = Unit {0}
AreHeavy (submitted ∷ others) = (0 < submitted.job.weight) × AreHeavy others

-- each waits with the number of a job that was submitted, and no two with one number
abbrev pub AreNumbered : (submitted : ℕ) → List Queued → Type 0
AreNumbered submitted [] = Unit {0}
AreNumbered submitted (queued ∷ others) = (queued.number < submitted) × (list_any (has_number queued.number) others ≡ false) × AreNumbered submitted others

-- of the most that can be queued, the queued ones with the room for them, how many were submitted, and who waits
pub record IsSubmitting (most : ℕ) (queued : List Submitted) (capacity submitted : ℕ) (submitters : WaitingList) : Type 0 where
  pub cells : most ≡ submitters.cells
  pub few : length queued ≤ most
  pub room : most ≤ capacity
  pub heavy : AreHeavy queued
  pub numbered : AreNumbered submitted submitters.waiting

abbrev pub FitsNone : List Worker → List Submitted → Type 0
FitsNone workers [] = Unit {0}
FitsNone workers (head ∷ others) = find (fits head.job.weight) workers ≡ None

-- no job is queued, or the head fits no worker
abbrev pub StartsNone : Data → Type 0
StartsNone (Executor work) = FitsNone work.workers work.queued
StartsNone other = Unit {0}
