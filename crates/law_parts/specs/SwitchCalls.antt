-- Calls on one switch, one after the other: what it becomes, and which handlers it takes, hands out, and in which batches.
use Rattle.std.specs.Prelude.{ℕ, Bool, List, [], ◌∷◌, ◌++◌, Some, None, unwrap_or}
use Rattle.eio_value.specs.declared.raised.Raised.{Raised}
use Rattle.spec_parts.specs.Switches.{Handler, Switch, CloseStep, Wait, CancelDaemons, RunHandler, Return, Raise, attach, detach, fail, on_release, close_step}

pub data SwitchCall : Type 0 where
  Attach : (fiber : ℕ) → (daemon : Bool) → SwitchCall
  Detach : (fiber : ℕ) → SwitchCall
  Fail : Raised → SwitchCall
  Register : Handler → SwitchCall
  Close : (closer : ℕ) → SwitchCall

-- the switch after a call; one that is refused leaves it as it was
abbrev pub after_call : SwitchCall → Switch → Switch
after_call (Attach fiber daemon) switch = (attach fiber daemon switch).switch
after_call (Detach fiber) switch = (detach fiber switch).switch
after_call (Fail raised) switch = unwrap_or (fail raised switch) switch
after_call (Register handler) switch = unwrap_or (on_release handler switch) switch
after_call (Close closer) switch = (close_step closer switch).switch

abbrev pub after : List SwitchCall → Switch → Switch
after [] switch = switch
after (call ∷ calls) switch = after calls (after_call call switch)

-- what each call brings, one behind the other
abbrev pub brought : {X : Type 0} → (SwitchCall → Switch → List X) → List SwitchCall → Switch → List X
brought by_call [] switch = []
brought by_call (call ∷ calls) switch = by_call call switch ++ brought by_call calls (after_call call switch)

-- the handler that a call registers, where it isn't refused
abbrev pub registered_by : SwitchCall → Switch → List Handler
registered_by (Attach fiber daemon) switch = []
registered_by (Detach fiber) switch = []
registered_by (Fail raised) switch = []
registered_by (Register handler) switch = elim (on_release handler switch) [ None ↦ [] | Some next ↦ handler ∷ [] ]
registered_by (Close closer) switch = []

-- the handler that is handed out to run
abbrev pub handed_out : CloseStep → List Handler
handed_out Wait = []
handed_out CancelDaemons = []
handed_out (RunHandler handler) = handler ∷ []
handed_out Return = []
handed_out (Raise raised) = []

abbrev pub run_by : SwitchCall → Switch → List Handler
run_by (Attach fiber daemon) switch = []
run_by (Detach fiber) switch = []
run_by (Fail raised) switch = []
run_by (Register handler) switch = []
run_by (Close closer) switch = handed_out (close_step closer switch).step

-- the batch that begins with a step of `close`: the fresh one, where a handler is handed out and the batch before has run out
abbrev pub beginning : CloseStep → Switch → List (List Handler)
beginning Wait switch = []
beginning CancelDaemons switch = []
beginning (RunHandler handler) switch = elim switch.batch [ [] ↦ switch.fresh ∷ [] | h ∷ hs ↦ [] ]
beginning Return switch = []
beginning (Raise raised) switch = []

abbrev pub begun_by : SwitchCall → Switch → List (List Handler)
begun_by (Attach fiber daemon) switch = []
begun_by (Detach fiber) switch = []
begun_by (Fail raised) switch = []
begun_by (Register handler) switch = []
begun_by (Close closer) switch = beginning (close_step closer switch).step switch
