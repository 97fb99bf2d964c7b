-- A switch: the scope that fibers are attached to, and that returns only once they have ended.
-- An exception that is given to a switch joins its errors. Release handlers stand in two batches: those that were registered while
-- handlers run are fresh, and their turn comes when the batch is empty. Within a batch the last one runs first.
use Rattle.std.specs.Prelude.{ℕ, ◌-◌, Bool, true, false, ◌||◌, ◌==◌, not, List, [], ◌∷◌, ◌++◌, length, take, filter, slice_get, slice_set, Option, Some, None, unwrap_or, is_some}
use Rattle.eio_value.specs.declared.raised.Raised.{Raised}
use Rattle.eio_value.specs.declared.value.Value.{Value}
use Rattle.spec_parts.specs.Contexts.{Context, off}
use Rattle.spec_parts.specs.Errors.{joined}

-- a release handler: its block, by its number in the script, and the values of the variables when it was registered
pub record Handler : Type 0 where
  pub block : ℕ
  pub values : List Value

-- which fiber waits in the `close` of the switch, and for whom
pub data Closer : Type 0 where
  Nobody : Closer
  ForFibers : (closer : ℕ) → Closer
  ForDaemons : (closer : ℕ) → Closer

-- its context, the attached fibers that haven't ended (the daemons apart), the errors so far, the handlers still to run,
-- whether it runs its handlers, who waits in its `close`, and whether it has finished
pub record Switch : Type 0 where
  pub context : ℕ
  pub fibers : List ℕ
  pub daemons : List ℕ
  pub errors : Option Raised
  pub batch : List Handler
  pub fresh : List Handler
  pub running : Bool
  pub closer : Closer
  pub finished : Bool

-- a new switch over this context
abbrev pub opened : (context : ℕ) → Switch
opened context = record { context = context; fibers = []; daemons = []; errors = None; batch = []; fresh = []; running = false; closer = Nobody; finished = false }

-- Switches are numbered from 0 in order of making

-- what stands under a number that no switch has: one that has finished
abbrev pub never_opened : Switch
never_opened = record (opened 0) { finished = true }

abbrev pub switch_at : List Switch → ℕ → Switch
switch_at switches n = unwrap_or (slice_get switches n) never_opened

abbrev pub with_switch : ℕ → Switch → List Switch → List Switch
with_switch n switch switches = slice_set switches n switch

-- Attaching

-- no fiber is attached to a switch that has finished or runs its handlers
abbrev pub refuses_fibers : Switch → Bool
refuses_fibers switch = switch.finished || switch.running

-- nothing is forked on such a switch, nor on one whose context is off
abbrev pub refuses_forks : List Context → Switch → Bool
refuses_forks contexts switch = is_some (off contexts switch.context) || refuses_fibers switch

-- whether the fiber was attached, and the switch after that
pub record Attached : Type 0 where
  pub taken : Bool
  pub switch : Switch

abbrev pub with_fiber : (fiber : ℕ) → (daemon : Bool) → Switch → Switch
with_fiber fiber true switch = record switch { daemons = switch.daemons ++ fiber ∷ [] }
with_fiber fiber false switch = record switch { fibers = switch.fibers ++ fiber ∷ [] }

abbrev pub attach : (fiber : ℕ) → (daemon : Bool) → Switch → Attached
attach fiber daemon switch = elim (refuses_fibers switch) [
  | true ↦ record { taken = false; switch = switch }
  | false ↦ record { taken = true; switch = with_fiber fiber daemon switch }
]

-- the fiber that is woken, if one is, and the switch after that
pub record Detached : Type 0 where
  pub woken : Option ℕ
  pub switch : Switch

abbrev pub without : ℕ → List ℕ → List ℕ
without fiber fibers = filter (λ f. not (f == fiber)) fibers

-- the closer is woken where nobody is left of those that it waits for
abbrev pub woken_by : (left : List ℕ) → (closer : ℕ) → Switch → Detached
woken_by [] closer switch = record { woken = Some closer; switch = record switch { closer = Nobody } }
woken_by (f ∷ fs) closer switch = record { woken = None; switch = switch }

abbrev pub wake_closer : Closer → Switch → Detached
wake_closer Nobody switch = record { woken = None; switch = switch }
wake_closer (ForFibers closer) switch = woken_by switch.fibers closer switch
wake_closer (ForDaemons closer) switch = woken_by switch.daemons closer switch

-- an attached fiber has ended
abbrev pub detach : (fiber : ℕ) → Switch → Detached
detach fiber switch = wake_closer switch.closer (record switch { fibers = without fiber switch.fibers; daemons = without fiber switch.daemons })

-- Errors and handlers

-- an exception joins the errors; a finished switch takes none
abbrev pub fail : Raised → Switch → Option Switch
fail raised switch = elim switch.finished [
  | true ↦ None
  | false ↦ Some (record switch { errors = Some (joined switch.errors raised) })
]

-- a handler is registered as the last of the fresh batch; a finished switch takes none
abbrev pub on_release : Handler → Switch → Option Switch
on_release handler switch = elim switch.finished [
  | true ↦ None
  | false ↦ Some (record switch { fresh = switch.fresh ++ handler ∷ [] })
]

-- Closing

-- the batch whose turn it is: the one that is being run or, where that is empty, the fresh one
abbrev pub due_batch : Switch → List Handler
due_batch switch = elim switch.batch [ [] ↦ switch.fresh | handler ∷ handlers ↦ handler ∷ handlers ]

-- what is fresh beside it
abbrev pub fresh_beside : Switch → List Handler
fresh_beside switch = elim switch.batch [ [] ↦ [] | handler ∷ handlers ↦ switch.fresh ]

abbrev pub last_handler : List Handler → Option Handler
last_handler handlers = slice_get handlers (length handlers - 1)

abbrev pub all_but_last : List Handler → List Handler
all_but_last handlers = take (length handlers - 1) handlers

-- what a call of `close` finds to do
pub data CloseStep : Type 0 where
  Wait : CloseStep
  CancelDaemons : CloseStep
  RunHandler : Handler → CloseStep
  Return : CloseStep
  Raise : Raised → CloseStep

pub record Closed : Type 0 where
  pub step : CloseStep
  pub switch : Switch

-- nothing is left: the switch is finished, and its errors are raised if there are any
abbrev pub finish : Switch → Closed
finish switch = record {
  step = elim switch.errors [ Some errors ↦ Raise errors | None ↦ Return ];
  switch = record switch { closer = Nobody; finished = true };
}

-- the last handler of the batch runs; or there is none
abbrev pub release : Option Handler → Switch → Closed
release None switch = finish switch
release (Some handler) switch = record {
  step = RunHandler handler;
  switch = record switch { batch = all_but_last (due_batch switch); fresh = fresh_beside switch; running = true; closer = Nobody };
}

-- `close`, called by this fiber: while fibers that are no daemons are attached, it waits for them; while daemons are, they are to be
-- cancelled, and it waits for them; while a handler is left, that runs next; else the switch is finished
abbrev pub close_step : (closer : ℕ) → Switch → Closed
close_step closer switch = elim switch.fibers [
  | f ∷ fs ↦ record { step = Wait; switch = record switch { closer = ForFibers closer } }
  | [] ↦ elim switch.daemons [
    | d ∷ ds ↦ record { step = CancelDaemons; switch = record switch { closer = ForDaemons closer } }
    | [] ↦ release (last_handler (due_batch switch)) switch
  ]
]

-- whether `close` would run a handler now
abbrev pub runs_handler : Switch → Bool
runs_handler switch = elim switch.fibers [
  | f ∷ fs ↦ false
  | [] ↦ elim switch.daemons [
    | d ∷ ds ↦ false
    | [] ↦ elim (due_batch switch) [ [] ↦ false | handler ∷ handlers ↦ true ]
  ]
]
