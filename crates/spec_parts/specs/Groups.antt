-- A group: the branches of one `both`, `all`, `first` or `any`, and what becomes of them together.
-- All branches but the last are new fibers; the last is run by the caller, whose own end is `join`. The exceptions of branches join the
-- group's errors; `first` and `any` keep the value of the branch that finished first. An exception, or a kept value, cancels the group's context.
use Rattle.std.specs.Prelude.{ℕ, ◌-◌, ◌==◌, Bool, true, false, List, Option, Some, None, slice_get, slice_set, unwrap_or}
use Rattle.eio_value.specs.declared.plain.Plain.{Plain}
use Rattle.eio_value.specs.declared.plain.Plain.TheVariants.{NotFirst}
use Rattle.eio_value.specs.declared.raised.Outcome.{Outcome}
use Rattle.eio_value.specs.declared.raised.Outcome.TheVariants as outcome
use Rattle.eio_value.specs.declared.raised.Raised.{Raised}
use Rattle.eio_value.specs.declared.raised.Raised.TheVariants.{One, Cancelled, Many}
use Rattle.eio_value.specs.declared.value.Value.{Value}
use Rattle.eio_value.specs.declared.value.Value.TheVariants.{Unit}
use Rattle.eio_value.specs.Exceptions.{reason}
use Rattle.spec_parts.specs.Errors.{joined}

pub data GroupKind : Type 0 where
  Both : GroupKind
  All : GroupKind
  First : GroupKind
  Any : GroupKind

-- whether the value of a branch is kept
abbrev pub keeps_a_value : GroupKind → Bool
keeps_a_value Both = false
keeps_a_value All = false
keeps_a_value First = true
keeps_a_value Any = true

-- its context, how many branches haven't ended (the caller's own among them), the errors so far, the value that is kept, and the fiber that waits in `join`
pub record Group : Type 0 where
  pub kind : GroupKind
  pub context : ℕ
  pub left : ℕ
  pub errors : Option Raised
  pub kept : Option Value
  pub joiner : Option ℕ

-- a new group with this many branches
abbrev pub gathered : GroupKind → (context : ℕ) → (branches : ℕ) → Group
gathered kind context branches = record { kind = kind; context = context; left = branches; errors = None; kept = None; joiner = None }

-- Groups are numbered from 0 in order of making

-- what stands under a number that no group has: one without branches
abbrev pub never_gathered : Group
never_gathered = gathered All 0 0

abbrev pub group_at : List Group → ℕ → Group
group_at groups n = unwrap_or (slice_get groups n) never_gathered

abbrev pub with_group : ℕ → Group → List Group → List Group
with_group n group groups = slice_set groups n group

-- The end of a branch

-- the group after something that ends in it, the reason by which its context is cancelled, if it is, and the fiber that is woken, if one is
pub record BranchEnded : Type 0 where
  pub group : Group
  pub cancels : Option Plain
  pub woken : Option ℕ

-- the first value is kept, and cancels the others; a later one is dropped
abbrev pub kept_value : Value → Group → BranchEnded
kept_value value group = elim group.kept [
  | None ↦ record { group = record group { kept = Some value }; cancels = Some NotFirst; woken = None }
  | Some first ↦ record { group = group; cancels = None; woken = None }
]

-- what the outcome of a branch does to the group: an exception joins the errors, and cancels the others by its reason
abbrev pub outcome_in : Outcome → Group → BranchEnded
outcome_in (outcome.Err raised) group = record { group = record group { errors = Some (joined group.errors raised) }; cancels = Some (reason raised); woken = None }
outcome_in (outcome.Ok value) group = elim (keeps_a_value group.kind) [
  | true ↦ kept_value value group
  | false ↦ record { group = group; cancels = None; woken = None }
]

-- the fiber that waits in `join` is woken where no branch is left
abbrev pub wake_joiner : BranchEnded → BranchEnded
wake_joiner ended = elim (ended.group.left == 0) [
  | true ↦ (let group : Group = record (ended.group) { joiner = None } in record { group = group; cancels = ended.cancels; woken = ended.group.joiner })
  | false ↦ ended
]

-- a branch ends with this outcome
abbrev pub branch_ends : Outcome → Group → BranchEnded
branch_ends result group = wake_joiner (outcome_in result (record group { left = group.left - 1 }))

-- Joining

-- what `join` finds
pub data JoinStep : Type 0 where
  Wait : JoinStep
  Give : Value → JoinStep
  Raise : Raised → JoinStep

pub record Joined : Type 0 where
  pub step : JoinStep
  pub group : Group

abbrev pub raised_or : Option Raised → JoinStep → JoinStep
raised_or (Some errors) step = Raise errors
raised_or None step = step

-- errors that aren't a mere cancellation
abbrev pub weighty : Option Raised → Option Raised
weighty None = None
weighty (Some (One member)) = Some (One member)
weighty (Some (Many several)) = Some (Many several)
weighty (Some (Cancelled member)) = None

abbrev pub given_or : Option Value → JoinStep → JoinStep
given_or (Some value) step = Give value
given_or None step = step

-- `both` and `all` raise the errors, and give unit where there are none; `first` and `any` raise errors that aren't a mere cancellation,
-- else give the kept value, else raise the cancellation
abbrev pub result_of : Group → JoinStep
result_of group = elim (keeps_a_value group.kind) [
  | false ↦ raised_or group.errors (Give Unit)
  | true ↦ raised_or (weighty group.errors) (given_or group.kept (raised_or group.errors (Give Unit)))
]

-- `join`, called by this fiber behind the end of its own branch: it waits until all branches have ended, and then has their result
abbrev pub join : (joiner : ℕ) → Group → Joined
join joiner group = elim (group.left == 0) [
  | false ↦ record { step = Wait; group = record group { joiner = Some joiner } }
  | true ↦ record { step = result_of group; group = group }
]
