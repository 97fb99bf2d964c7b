-- Laws of one switch under any list of calls.
use Rattle.std.specs.Prelude.{◌≡◌, ℕ, Bool, true, false, List, [], ◌++◌, reverse}
use Rattle.std.specs.List.{flat_map}
use Rattle.std.specs.List.Sorted.{IsPermutation}
use Rattle.spec_parts.specs.Switches.{Handler, Switch, CloseStep, Wait, CancelDaemons, RunHandler, Return, Raise, opened, close_step, runs_handler}
use Rattle.law_parts.specs.SwitchCalls.{SwitchCall, after, brought, registered_by, run_by, begun_by}

-- after any calls: of a finished switch nothing is attached
abbrev pub FinishedIsEmpty : Type 0
FinishedIsEmpty = (calls : List SwitchCall) (context : ℕ) → (after calls (opened context)).finished ≡ true → ((after calls (opened context)).fibers ≡ []) × ((after calls (opened context)).daemons ≡ [])

-- the registered handlers are those of the batches, in order, and then the fresh ones; they run batch by batch, in each the
-- last one first, and those that are left of the batch come next
pub record RunsByBatches (registered : List Handler) (batches : List (List Handler)) (run batch fresh : List Handler) : Type 0 where
  pub parts : registered ≡ flat_map (λ handlers. handlers) batches ++ fresh
  pub order : flat_map reverse batches ≡ run ++ reverse batch

-- after any calls
abbrev pub HandlersRunByBatches : Type 0
HandlersRunByBatches = (calls : List SwitchCall) (context : ℕ) → RunsByBatches (brought registered_by calls (opened context)) (brought begun_by calls (opened context)) (brought run_by calls (opened context)) (after calls (opened context)).batch (after calls (opened context)).fresh

-- each registered handler has run once, batch by batch, in each the last one first
pub record HaveRunOnce (registered : List Handler) (batches : List (List Handler)) (run : List Handler) : Type 0 where
  pub parts : registered ≡ flat_map (λ handlers. handlers) batches
  pub order : run ≡ flat_map reverse batches
  pub once : IsPermutation registered run

-- after any calls that end with a finished switch
abbrev pub HandlersRunOnce : Type 0
HandlersRunOnce = (calls : List SwitchCall) (context : ℕ) → (after calls (opened context)).finished ≡ true → HaveRunOnce (brought registered_by calls (opened context)) (brought begun_by calls (opened context)) (brought run_by calls (opened context))

abbrev pub is_handler : CloseStep → Bool
is_handler Wait = false
is_handler CancelDaemons = false
is_handler (RunHandler handler) = true
is_handler Return = false
is_handler (Raise raised) = false

-- whether a handler is next is whether `close` would hand one out, whoever calls it
abbrev pub NextIsTold : Type 0
NextIsTold = (closer : ℕ) (switch : Switch) → runs_handler switch ≡ is_handler (close_step closer switch).step
