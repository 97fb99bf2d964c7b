-- Calls on switches, one after the other, with what is said to each. The rows of switches are written in these.
use Rattle.std.specs.Prelude.{ℕ, true, false, List, [], ◌∷◌, Option, Some, None}
use Rattle.eio_value.specs.declared.raised.Raised.{Raised}
use Rattle.spec_parts.specs.Switches.{Handler, Switch, CloseStep, switch_at, with_switch, attach, detach, fail, on_release, close_step}

abbrev pub handler : (block : ℕ) → Handler
handler block = record { block = block; values = [] }

-- a call on the switch with this number; `Register` is of the handler with this block
pub data SwitchCall : Type 0 where
  Fork : (switch fiber : ℕ) → SwitchCall
  ForkDaemon : (switch fiber : ℕ) → SwitchCall
  Detach : (switch fiber : ℕ) → SwitchCall
  Fail : (switch : ℕ) → Raised → SwitchCall
  Register : (switch block : ℕ) → SwitchCall
  Close : (switch closer : ℕ) → SwitchCall

-- what is said to it: it was done; it was refused; it woke this fiber; this is the next step of `close`
pub data Said : Type 0 where
  Done : Said
  Refused : Said
  Wakes : (fiber : ℕ) → Said
  Next : CloseStep → Said

pub record Talk : Type 0 where
  pub said : Said
  pub switch : Switch

abbrev unless_refused : Switch → Option Switch → Talk
unless_refused switch None = record { said = Refused; switch = switch }
unless_refused switch (Some next) = record { said = Done; switch = next }

abbrev wakes : Option ℕ → Said
wakes None = Done
wakes (Some fiber) = Wakes fiber

abbrev talk : SwitchCall → Switch → Talk
talk (Fork n fiber) switch = record { said = elim (attach fiber false switch).taken [ true ↦ Done | false ↦ Refused ]; switch = (attach fiber false switch).switch }
talk (ForkDaemon n fiber) switch = record { said = elim (attach fiber true switch).taken [ true ↦ Done | false ↦ Refused ]; switch = (attach fiber true switch).switch }
talk (Detach n fiber) switch = record { said = wakes (detach fiber switch).woken; switch = (detach fiber switch).switch }
talk (Fail n raised) switch = unless_refused switch (fail raised switch)
talk (Register n block) switch = unless_refused switch (on_release (handler block) switch)
talk (Close n closer) switch = record { said = Next (close_step closer switch).step; switch = (close_step closer switch).switch }

abbrev called_switch : SwitchCall → ℕ
called_switch (Fork n fiber) = n
called_switch (ForkDaemon n fiber) = n
called_switch (Detach n fiber) = n
called_switch (Fail n raised) = n
called_switch (Register n block) = n
called_switch (Close n closer) = n

-- what is said to these calls
unfoldable pub said_to : List SwitchCall → List Switch → List Said
said_to [] switches = []
said_to (call ∷ calls) switches =
    let n = called_switch call in
    let t : Talk = talk call (switch_at switches n) in
    t.said ∷ said_to calls (with_switch n t.switch switches)

-- the switches after them
unfoldable pub after : List SwitchCall → List Switch → List Switch
after [] switches = switches
after (call ∷ calls) switches =
    let n = called_switch call in
    after calls (with_switch n (talk call (switch_at switches n)).switch switches)
