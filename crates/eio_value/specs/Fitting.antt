-- Which values, calls, answers and messages fit between a domain and the objects that it calls: their texts are in the table; where it is told with
-- which texts a fiber may fail, no other failure and no fault of a path occurs; and jobs are those of the script.
use Rattle.std.specs.Prelude.{ℕ, ◌<◌, ◌≤◌, List, take, All, Option, Some, None}
use Rattle.std.specs.List.{Contains}
use Rattle.eio_value.specs.declared.call.Answer.{Answer}
use Rattle.eio_value.specs.declared.call.Answer.TheVariants as answer
use Rattle.eio_value.specs.declared.call.Answered.{Answered}
use Rattle.eio_value.specs.declared.call.Call.{Call}
use Rattle.eio_value.specs.declared.call.Call.TheVariants as call
use Rattle.eio_value.specs.declared.message.Job.{Job}
use Rattle.eio_value.specs.declared.message.Message.{Message}
use Rattle.eio_value.specs.declared.message.Message.TheVariants as message
use Rattle.eio_value.specs.declared.plain.Member.{Member}
use Rattle.eio_value.specs.declared.plain.Plain.{Plain}
use Rattle.eio_value.specs.declared.plain.Plain.TheVariants as plain
use Rattle.eio_value.specs.declared.raised.Outcome.{Outcome}
use Rattle.eio_value.specs.declared.raised.Outcome.TheVariants as outcome
use Rattle.eio_value.specs.declared.raised.Raised.{Raised}
use Rattle.eio_value.specs.declared.raised.Raised.TheVariants as raised
use Rattle.eio_value.specs.declared.value.TextId.{TextId}
use Rattle.eio_value.specs.declared.value.Value.{Value}
use Rattle.eio_value.specs.declared.value.Value.TheVariants as value

-- a block that the script submits: to which executor, by which number, and with how many captured variables
pub record Submit : Type 0 where
  pub executor : ℕ
  pub node : ℕ
  pub count : ℕ

-- what is asked of texts, exceptions and jobs: how many texts there are, the texts of failures where they are told, and the submits of the script
pub record Bounds : Type 0 where
  pub texts : ℕ
  pub failures : Option (List TextId)
  pub submits : List Submit

-- ## Values and exceptions

abbrev pub IsText : Bounds → TextId → Type 0
IsText bounds text = text.0 < bounds.texts

abbrev pub FitsValue : Bounds → Value → Type 0
FitsValue bounds (value.Text text) = IsText bounds text
FitsValue bounds other = Unit {0}

abbrev pub IsFailure : Option (List TextId) → TextId → Type 0
IsFailure None text = Unit {0}
IsFailure (Some failures) text = Contains failures text

abbrev pub HasNoPaths : Option (List TextId) → Type 0
HasNoPaths None = Unit {0}
HasNoPaths (Some failures) = ⊥

abbrev pub FitsPlain : Bounds → Plain → Type 0
FitsPlain bounds (plain.Failure text) = IsText bounds text × IsFailure bounds.failures text
FitsPlain bounds (plain.Path fault text) = IsText bounds text × HasNoPaths bounds.failures
FitsPlain bounds other = Unit {0}

abbrev pub FitsMember : Bounds → Member → Type 0
FitsMember bounds member = FitsPlain bounds member.what

abbrev pub FitsRaised : Bounds → Raised → Type 0
FitsRaised bounds (raised.One member) = FitsMember bounds member
FitsRaised bounds (raised.Cancelled member) = FitsMember bounds member
FitsRaised bounds (raised.Many several) = All (FitsMember bounds) several.members

abbrev pub FitsOutcome : Bounds → Outcome → Type 0
FitsOutcome bounds (outcome.Ok given) = FitsValue bounds given
FitsOutcome bounds (outcome.Err given) = FitsRaised bounds given

-- ## Jobs, calls and what comes back

-- a job fits one of the submits, has the values that it was given with it, and takes a part of a worker, or a whole one
pub record FitsJob (bounds : Bounds) (job : Job) : Type 0 where
  pub least : 1 ≤ job.weight
  pub most : job.weight ≤ 100
  pub submit : Contains bounds.submits (record { executor = job.executor; node = job.node; count = job.count })
  pub values : All (FitsValue bounds) (take job.count job.given)

abbrev pub FitsCall : Bounds → Call → Type 0
FitsCall bounds (call.Add object item) = FitsValue bounds item
FitsCall bounds (call.Resolve object given) = FitsOutcome bounds given
FitsCall bounds (call.TryResolve object given) = FitsValue bounds given
FitsCall bounds (call.Submit job) = FitsJob bounds job
FitsCall bounds (call.Done object number given) = FitsOutcome bounds given
FitsCall bounds other = Unit {0}

abbrev pub FitsAnswer : Bounds → Answer → Type 0
FitsAnswer bounds (answer.Done given) = FitsValue bounds given
FitsAnswer bounds (answer.Raised given) = FitsRaised bounds given
FitsAnswer bounds other = Unit {0}

abbrev pub FitsMessage : Bounds → Option Message → Type 0
FitsMessage bounds None = Unit {0}
FitsMessage bounds (Some (message.Resume who given stamp)) = FitsOutcome bounds given
FitsMessage bounds (Some (message.Start job number stamp)) = FitsJob bounds job

abbrev pub FitsAnswered : Bounds → Answered → Type 0
FitsAnswered bounds answered = FitsAnswer bounds answered.answer × FitsMessage bounds answered.mine
