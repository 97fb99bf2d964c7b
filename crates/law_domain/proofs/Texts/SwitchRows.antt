-- What becomes of the errors and handlers of a switch, and of the errors and the value of a group.
use Rattle.std.proofs.Common.{ℕ, ◌-◌, ◌==◌, Bool, true, false, List, [], ◌∷◌, ◌++◌, length, Option, Some, None, IfSome}
use Rattle.std.specs.List.{AllByRecursion as Each}
use Rattle.eio_value.specs.declared.plain.Plain.TheVariants.{NotFirst}
use Rattle.eio_value.specs.declared.raised.Outcome.{Outcome}
use Rattle.eio_value.specs.declared.raised.Outcome.TheVariants as outcome
use Rattle.eio_value.specs.declared.raised.Raised.{Raised}
use Rattle.eio_value.specs.declared.raised.Raised.TheVariants.{One, Cancelled, Many}
use Rattle.eio_value.specs.declared.value.Value.{Value}
use Rattle.eio_value.specs.declared.value.Value.TheVariants as value
use Rattle.spec_parts.specs.Errors as errors
use Rattle.spec_parts.specs.Groups as groups
use Rattle.spec_parts.specs.Groups.{Group, BranchEnded, keeps_a_value, kept_value, outcome_in, wake_joiner, branch_ends, JoinStep, Joined, raised_or, weighty, given_or, result_of, join}
use Rattle.spec_parts.specs.Switches as switches
use Rattle.spec_parts.specs.Switches.{Switch, Handler, Closer, Nobody, ForFibers, ForDaemons, Attached, with_fiber, attach, refuses_fibers, woken_by, wake_closer, detach, without, fail, on_release, due_batch, fresh_beside, last_handler, all_but_last, CloseStep, Closed, finish, release, close_step}
use Rattle.spec_script.specs.Scripts.{Script}
use Rattle.law_fiber.specs.Texts.Texts.{IsHeldValue, IsHeldRaised, IsHeldOutcome, known_in}
use Rattle.law_domain.specs.Texts.Domains.{IsTextedHandler, IsTextedSwitch, IsTextedGroup, IsKnownReason}
use Rattle.law_domain.proofs.Texts.Joining.{errors_held}
use Rattle.law_fiber.proofs.Texts.Lists.{each_push, each_take, each_get}
use Rattle.law_fiber.proofs.Texts.Passing.{exit_known, not_first_known, reason_held}

-- ## The definitions by what they ask

abbrev taken_by : (g : ℕ) → (daemon : Bool) → Switch → (refuses : Bool) → Attached
taken_by g daemon switch refuses = elim refuses [
  | true ↦ record { taken = false; switch = switch }
  | false ↦ record { taken = true; switch = with_fiber g daemon switch }
]

abbrev failed_by : Raised → Switch → (finished : Bool) → Option Switch
failed_by r switch finished = elim finished [ true ↦ None | false ↦ Some (record switch { errors = Some (errors.joined switch.errors r) }) ]

abbrev registered_by : Handler → Switch → (finished : Bool) → Option Switch
registered_by handler switch finished = elim finished [ true ↦ None | false ↦ Some (record switch { fresh = switch.fresh ++ handler ∷ [] }) ]

abbrev closed_by : (closer : ℕ) → Switch → (fibers daemons : List ℕ) → Closed
closed_by closer switch fibers daemons = elim fibers [
  | f ∷ fs ↦ record { step = switches.Wait; switch = record switch { closer = ForFibers closer } }
  | [] ↦ elim daemons [
    | d ∷ ds ↦ record { step = switches.CancelDaemons; switch = record switch { closer = ForDaemons closer } }
    | [] ↦ release (last_handler (due_batch switch)) switch
  ]
]

abbrev kept_by : Value → Group → Option Value → BranchEnded
kept_by it group found = elim found [
  | None ↦ record { group = record group { kept = Some it }; cancels = Some NotFirst; woken = None }
  | Some first ↦ record { group = group; cancels = None; woken = None }
]

abbrev value_by : Value → Group → (keeps : Bool) → BranchEnded
value_by it group keeps = elim keeps [ true ↦ kept_value it group | false ↦ record { group = group; cancels = None; woken = None } ]

abbrev joiner_by : BranchEnded → (none : Bool) → BranchEnded
joiner_by ended none = elim none [
  | true ↦ record { group = record (ended.group) { joiner = None }; cancels = ended.cancels; woken = ended.group.joiner }
  | false ↦ ended
]

abbrev joined_if : (joiner : ℕ) → Group → (none : Bool) → Joined
joined_if joiner group none = elim none [
  | false ↦ record { step = groups.Wait; group = record group { joiner = Some joiner } }
  | true ↦ record { step = result_of group; group = group }
]

module _ (script : Script) where
  -- ## Switches

  pub attached_texted : (g : ℕ) (daemon : Bool) (switch : Switch) → IsTextedSwitch script switch → IsTextedSwitch script (attach g daemon switch).switch
  attached_texted g daemon switch is = by (refuses_fibers switch) daemon
    where
      by : (refuses daemon : Bool) → IsTextedSwitch script (taken_by g daemon switch refuses).switch
      by true daemon = is
      by false true = is
      by false false = is

  woken_texted : (left : List ℕ) (closer : ℕ) (switch : Switch) → IsTextedSwitch script switch → IsTextedSwitch script (woken_by left closer switch).switch
  woken_texted [] closer switch is = is
  woken_texted (g ∷ others) closer switch is = is

  closer_texted : (closer : Closer) (switch : Switch) → IsTextedSwitch script switch → IsTextedSwitch script (wake_closer closer switch).switch
  closer_texted Nobody switch is = is
  closer_texted (ForFibers closer) switch is = woken_texted switch.fibers closer switch is
  closer_texted (ForDaemons closer) switch is = woken_texted switch.daemons closer switch is

  pub detached_texted : (g : ℕ) (switch : Switch) → IsTextedSwitch script switch → IsTextedSwitch script (detach g switch).switch
  detached_texted g switch is =
      closer_texted switch.closer (record switch { fibers = without g switch.fibers; daemons = without g switch.daemons }) is

  pub failed_texted : (r : Raised) (switch : Switch) → IsHeldRaised (known_in script) r → IsTextedSwitch script switch
      → IfSome (fail r switch) (IsTextedSwitch script)
  failed_texted r switch held is = by switch.finished
    where
      by : (finished : Bool) → IfSome (failed_by r switch finished) (IsTextedSwitch script)
      by true = tt
      by false = (errors_held (known_in script) switch.errors r is.0 held, is.1, is.2)

  pub registered_texted : (handler : Handler) (switch : Switch) → IsTextedHandler script handler → IsTextedSwitch script switch
      → IfSome (on_release handler switch) (IsTextedSwitch script)
  registered_texted handler switch one is = by switch.finished
    where
      by : (finished : Bool) → IfSome (registered_by handler switch finished) (IsTextedSwitch script)
      by true = tt
      by false = (is.0, is.1, each_push (IsTextedHandler script) switch.fresh handler is.2 one)

  -- what `close` finds, and the switch then
  abbrev pub IsTextedClose : CloseStep → Type 0
  IsTextedClose (switches.RunHandler handler) = IsTextedHandler script handler
  IsTextedClose (switches.Raise raised) = IsHeldRaised (known_in script) raised
  IsTextedClose other = Unit {0}

  pub record IsTextedClosed (closed : Closed) : Type 0 where
    pub found : IsTextedClose closed.step
    pub left : IsTextedSwitch script closed.switch

  finished_texted : (switch : Switch) → IsTextedSwitch script switch → IsTextedClosed (finish switch)
  finished_texted switch is = record { found = by switch.errors is.0; left = is }
    where
      by : (found : Option Raised) → IfSome found (IsHeldRaised (known_in script))
          → IsTextedClose (elim found [ Some all ↦ switches.Raise all | None ↦ switches.Return ])
      by (Some all) held = held
      by None held = tt

  due_texted : (switch : Switch) → IsTextedSwitch script switch → Each (IsTextedHandler script) (due_batch switch)
  due_texted switch is = by switch.batch is.1
    where
      by : (batch : List Handler) → Each (IsTextedHandler script) batch
          → Each (IsTextedHandler script) (elim batch [ [] ↦ switch.fresh | handler ∷ handlers ↦ handler ∷ handlers ])
      by [] are = is.2
      by (handler ∷ handlers) are = are

  beside_texted : (switch : Switch) → IsTextedSwitch script switch → Each (IsTextedHandler script) (fresh_beside switch)
  beside_texted switch is = by switch.batch
    where
      by : (batch : List Handler) → Each (IsTextedHandler script) (elim batch [ [] ↦ [] | handler ∷ handlers ↦ switch.fresh ])
      by [] = tt
      by (handler ∷ handlers) = is.2

  released_texted : (switch : Switch) (found : Option Handler) → IsTextedSwitch script switch → IfSome found (IsTextedHandler script)
      → IsTextedClosed (release found switch)
  released_texted switch None is one = finished_texted switch is
  released_texted switch (Some handler) is one = record {
    found = one;
    left = (is.0, each_take (IsTextedHandler script) (length (due_batch switch) - 1) (due_batch switch) (due_texted switch is), beside_texted switch is);
  }

  pub close_texted : (g : ℕ) (switch : Switch) → IsTextedSwitch script switch → IsTextedClosed (close_step g switch)
  close_texted g switch is = by switch.fibers switch.daemons
    where
      by : (fibers daemons : List ℕ) → IsTextedClosed (closed_by g switch fibers daemons)
      by (f ∷ fs) daemons = record { found = tt; left = is }
      by [] (d ∷ ds) = record { found = tt; left = is }
      by [] [] =
          released_texted switch (last_handler (due_batch switch)) is
          (each_get (IsTextedHandler script) (due_batch switch) (length (due_batch switch) - 1) (due_texted switch is))

  -- ## Groups

  pub record IsTextedBranch (ended : BranchEnded) : Type 0 where
    pub left : IsTextedGroup script ended.group
    pub why : IsKnownReason script ended.cancels

  kept_texted : (it : Value) (group : Group) → IsHeldValue (known_in script) it → IsTextedGroup script group → IsTextedBranch (kept_value it group)
  kept_texted it group one is = by group.kept
    where
      by : (found : Option Value) → IsTextedBranch (kept_by it group found)
      by None = record { left = (is.0, one); why = not_first_known script }
      by (Some first) = record { left = is; why = tt }

  outcome_texted : (result : Outcome) (group : Group) → IsHeldOutcome (known_in script) result → IsTextedGroup script group
      → IsTextedBranch (outcome_in result group)
  outcome_texted (outcome.Err raised) group held is = record {
    left = (errors_held (known_in script) group.errors raised is.0 held, is.1);
    why = reason_held (known_in script) (exit_known script) raised held;
  }
  outcome_texted (outcome.Ok it) group held is = by (keeps_a_value group.kind)
    where
      by : (keeps : Bool) → IsTextedBranch (value_by it group keeps)
      by true = kept_texted it group held is
      by false = record { left = is; why = tt }

  woken_group : (ended : BranchEnded) → IsTextedBranch ended → IsTextedBranch (wake_joiner ended)
  woken_group ended is = by (ended.group.left == 0)
    where
      by : (none : Bool) → IsTextedBranch (joiner_by ended none)
      by true = record { left = is.left; why = is.why }
      by false = is

  pub branch_texted : (result : Outcome) (group : Group) → IsHeldOutcome (known_in script) result → IsTextedGroup script group
      → IsTextedBranch (branch_ends result group)
  branch_texted result group held is =
      woken_group (outcome_in result (record group { left = group.left - 1 })) (outcome_texted result (record group { left = group.left - 1 }) held is)

  -- what `join` finds
  abbrev pub IsTextedJoin : JoinStep → Type 0
  IsTextedJoin groups.Wait = Unit {0}
  IsTextedJoin (groups.Give it) = IsHeldValue (known_in script) it
  IsTextedJoin (groups.Raise raised) = IsHeldRaised (known_in script) raised

  pub record IsTextedJoined (joined : Joined) : Type 0 where
    pub found : IsTextedJoin joined.step
    pub left : IsTextedGroup script joined.group

  raised_or_texted : (found : Option Raised) (step : JoinStep) → IfSome found (IsHeldRaised (known_in script)) → IsTextedJoin step
      → IsTextedJoin (raised_or found step)
  raised_or_texted (Some all) step held is = held
  raised_or_texted None step held is = is

  given_or_texted : (found : Option Value) (step : JoinStep) → IfSome found (IsHeldValue (known_in script)) → IsTextedJoin step
      → IsTextedJoin (given_or found step)
  given_or_texted (Some it) step held is = held
  given_or_texted None step held is = is

  weighty_texted : (found : Option Raised) → IfSome found (IsHeldRaised (known_in script)) → IfSome (weighty found) (IsHeldRaised (known_in script))
  weighty_texted None held = tt
  weighty_texted (Some (One member)) held = held
  weighty_texted (Some (Many several)) held = held
  weighty_texted (Some (Cancelled member)) held = tt

  result_texted : (group : Group) → IsTextedGroup script group → IsTextedJoin (result_of group)
  result_texted group is = by (keeps_a_value group.kind)
    where
      plainly : IsTextedJoin (raised_or group.errors (groups.Give value.Unit))
      plainly = raised_or_texted group.errors (groups.Give value.Unit) is.0 tt

      by : (keeps : Bool) → IsTextedJoin (elim keeps [
        | false ↦ raised_or group.errors (groups.Give value.Unit)
        | true ↦ raised_or (weighty group.errors) (given_or group.kept (raised_or group.errors (groups.Give value.Unit)))
      ])
      by false = plainly
      by true =
          raised_or_texted (weighty group.errors) (given_or group.kept (raised_or group.errors (groups.Give value.Unit))) (weighty_texted group.errors is.0)
          (given_or_texted group.kept (raised_or group.errors (groups.Give value.Unit)) is.1 plainly)

  pub join_texted : (g : ℕ) (group : Group) → IsTextedGroup script group → IsTextedJoined (join g group)
  join_texted g group is = by (group.left == 0)
    where
      by : (none : Bool) → IsTextedJoined (joined_if g group none)
      by false = record { found = tt; left = is }
      by true = record { found = result_texted group is; left = is }
