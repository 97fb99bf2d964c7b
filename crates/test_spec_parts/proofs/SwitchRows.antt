-- Switches: what is said to lists of calls. Main is fiber 0, which closes; the switch 0 has context 1.
use Rattle.std.proofs.Common.{◌≡◌, List, [], ◌∷◌, true, false, refl}
use Rattle.std.specs.Prelude.{map, Some, None}
use Rattle.eio_value.specs.declared.plain.Misuse.TheVariants.{SwitchFinished}
use Rattle.eio_value.specs.declared.plain.Plain.TheVariants.{Invalid, Exit}
use Rattle.spec_parts.specs.Contexts.{new_context, cancel, way_within}
use Rattle.spec_parts.specs.Switches.{opened, Wait, CancelDaemons, RunHandler, Return, Raise, switch_at, refuses_forks, runs_handler}
use Rattle.test_spec_parts.proofs.Exceptions.{failure, member, one, cancelled, many}
use Rattle.test_spec_parts.proofs.SwitchCalls.{SwitchCall, Fork, ForkDaemon, Detach, Fail, Register, Close, Said, Done, Refused, Wakes, Next, handler, said_to, after}

-- one switch, which is new
abbrev replies : List SwitchCall → List Said
replies calls = said_to calls (opened 1 ∷ [])

-- two new switches, the second inside the first
abbrev replies_of_two : List SwitchCall → List Said
replies_of_two calls = said_to calls (opened 1 ∷ opened 2 ∷ [])

-- Release handlers

-- an empty switch returns at once
empty_switch : replies (Close 0 0 ∷ []) ≡ Next Return ∷ []
unfolding said_to
empty_switch = refl

-- two handlers: the last one that was registered runs first
last_registered_first : replies (Register 0 1 ∷ Register 0 2 ∷ Close 0 0 ∷ Close 0 0 ∷ Close 0 0 ∷ []) ≡ Done ∷ Done ∷ Next (RunHandler (handler 2)) ∷ Next (RunHandler (handler 1)) ∷ Next Return ∷ []
unfolding said_to
last_registered_first = refl

-- the second handler registers a third one while it runs: that is fresh, and runs after the first
fresh_batch_last : replies (Register 0 1 ∷ Register 0 2 ∷ Close 0 0 ∷ Register 0 3 ∷ Close 0 0 ∷ Close 0 0 ∷ Close 0 0 ∷ []) ≡ Done ∷ Done ∷ Next (RunHandler (handler 2)) ∷ Done ∷ Next (RunHandler (handler 1)) ∷ Next (RunHandler (handler 3)) ∷ Next Return ∷ []
unfolding said_to
fresh_batch_last = refl

-- of the fresh batch, too, the last runs first
fresh_batch_in_its_order : replies (Register 0 1 ∷ Close 0 0 ∷ Register 0 2 ∷ Register 0 3 ∷ Close 0 0 ∷ Register 0 4 ∷ Close 0 0 ∷ Close 0 0 ∷ Close 0 0 ∷ []) ≡ Done ∷ Next (RunHandler (handler 1)) ∷ Done ∷ Done ∷ Next (RunHandler (handler 3)) ∷ Done ∷ Next (RunHandler (handler 2)) ∷ Next (RunHandler (handler 4)) ∷ Next Return ∷ []
unfolding said_to
fresh_batch_in_its_order = refl

-- the body raises, and so does the handler: the body's exception came first
handler_raises : replies (Register 0 1 ∷ Fail 0 (one 0 (failure 0)) ∷ Close 0 0 ∷ Fail 0 (one 1 (failure 1)) ∷ Close 0 0 ∷ []) ≡ Done ∷ Done ∷ Next (RunHandler (handler 1)) ∷ Done ∷ Next (Raise (many (member 0 (failure 0) ∷ member 1 (failure 1) ∷ []) false)) ∷ []
unfolding said_to
handler_raises = refl

-- a fiber of the outer switch comes to a switch that has finished: nothing is registered there, and its exception goes to the outer one
finished_switch : replies_of_two (Fork 0 1 ∷ Close 1 0 ∷ Close 0 0 ∷ Register 1 1 ∷ Detach 0 1 ∷ Fail 0 (one 0 (Invalid SwitchFinished)) ∷ Close 0 0 ∷ []) ≡ Done ∷ Next Return ∷ Next Wait ∷ Refused ∷ Wakes 0 ∷ Done ∷ Next (Raise (one 0 (Invalid SwitchFinished))) ∷ []
unfolding said_to
finished_switch = refl

all_refused_when_finished : replies (Close 0 0 ∷ Fork 0 1 ∷ ForkDaemon 0 2 ∷ Fail 0 (one 0 (failure 0)) ∷ Register 0 1 ∷ []) ≡ Next Return ∷ Refused ∷ Refused ∷ Refused ∷ Refused ∷ []
unfolding said_to
all_refused_when_finished = refl

-- while handlers run, nothing is forked, but errors and handlers are taken
while_handlers_run : replies (Register 0 1 ∷ Close 0 0 ∷ Fork 0 1 ∷ ForkDaemon 0 2 ∷ Register 0 2 ∷ Fail 0 (one 0 (failure 0)) ∷ Close 0 0 ∷ Close 0 0 ∷ []) ≡ Done ∷ Next (RunHandler (handler 1)) ∷ Refused ∷ Refused ∷ Done ∷ Done ∷ Next (RunHandler (handler 2)) ∷ Next (Raise (one 0 (failure 0))) ∷ []
unfolding said_to
while_handlers_run = refl

-- Fibers

-- the body raises while a fiber waits: `close` waits for the fiber, and then raises
body_raises : replies (Fork 0 1 ∷ Fail 0 (one 0 (failure 0)) ∷ Close 0 0 ∷ Detach 0 1 ∷ Close 0 0 ∷ []) ≡ Done ∷ Done ∷ Next Wait ∷ Wakes 0 ∷ Next (Raise (one 0 (failure 0))) ∷ []
unfolding said_to
body_raises = refl

-- two fibers raise: the errors come in the order of their ends, and `close` goes on after the last
two_fibers_raise : replies (Fork 0 1 ∷ Fork 0 2 ∷ Close 0 0 ∷ Detach 0 1 ∷ Fail 0 (one 0 (failure 0)) ∷ Detach 0 2 ∷ Fail 0 (one 2 (failure 1)) ∷ Close 0 0 ∷ []) ≡ Done ∷ Done ∷ Next Wait ∷ Done ∷ Done ∷ Wakes 0 ∷ Done ∷ Next (Raise (many (member 0 (failure 0) ∷ member 2 (failure 1) ∷ []) false)) ∷ []
unfolding said_to
two_fibers_raise = refl

-- a cancelled fiber's exception gives way to the one that cancelled it
cancelled_fiber : replies (Fork 0 1 ∷ Fail 0 (one 0 (failure 0)) ∷ Close 0 0 ∷ Detach 0 1 ∷ Fail 0 (cancelled 1 (failure 0)) ∷ Close 0 0 ∷ []) ≡ Done ∷ Done ∷ Next Wait ∷ Wakes 0 ∷ Done ∷ Next (Raise (one 0 (failure 0))) ∷ []
unfolding said_to
cancelled_fiber = refl

-- a fiber that has ended before `close` wakes nobody; handlers run only once all fibers have ended
handlers_after_fibers : replies (Register 0 1 ∷ Fork 0 1 ∷ Fork 0 2 ∷ Detach 0 1 ∷ Close 0 0 ∷ Detach 0 2 ∷ Close 0 0 ∷ Close 0 0 ∷ []) ≡ Done ∷ Done ∷ Done ∷ Done ∷ Next Wait ∷ Wakes 0 ∷ Next (RunHandler (handler 1)) ∷ Next Return ∷ []
unfolding said_to
handlers_after_fibers = refl

-- Daemons

-- a daemon alone is cancelled, and `close` returns once it has ended
daemon_is_cancelled : replies (ForkDaemon 0 1 ∷ Close 0 0 ∷ Detach 0 1 ∷ Close 0 0 ∷ []) ≡ Done ∷ Next CancelDaemons ∷ Wakes 0 ∷ Next Return ∷ []
unfolding said_to
daemon_is_cancelled = refl

-- first the fibers end, then the daemons are cancelled, then the handlers run; each wait is for its own kind alone
in_order : replies (ForkDaemon 0 1 ∷ ForkDaemon 0 2 ∷ Fork 0 3 ∷ Register 0 1 ∷ Close 0 0 ∷ Detach 0 1 ∷ Detach 0 3 ∷ Close 0 0 ∷ Detach 0 2 ∷ Close 0 0 ∷ Close 0 0 ∷ []) ≡ Done ∷ Done ∷ Done ∷ Done ∷ Next Wait ∷ Done ∷ Wakes 0 ∷ Next CancelDaemons ∷ Wakes 0 ∷ Next (RunHandler (handler 1)) ∷ Next Return ∷ []
unfolding said_to
in_order = refl

-- a daemon that raises while it is cancelled
daemon_raises : replies (ForkDaemon 0 1 ∷ Close 0 0 ∷ Detach 0 1 ∷ Fail 0 (one 3 (failure 0)) ∷ Close 0 0 ∷ []) ≡ Done ∷ Next CancelDaemons ∷ Wakes 0 ∷ Done ∷ Next (Raise (one 3 (failure 0))) ∷ []
unfolding said_to
daemon_raises = refl

-- What the row is asked

-- nothing is forked on a switch whose context is off
off_refuses_forks : refuses_forks (cancel 1 Exit (new_context None false ∷ new_context (Some 0) false ∷ [])) (opened 1) ≡ true
unfolding way_within
off_refuses_forks = refl

new_switch_takes_forks : refuses_forks (new_context None false ∷ new_context (Some 0) false ∷ []) (opened 1) ≡ false
unfolding way_within
new_switch_takes_forks = refl

-- the next `close` would run a handler exactly where no fiber is attached and a handler is left
next_is_a_handler : map (λ calls. runs_handler (switch_at (after calls (opened 1 ∷ [])) 0)) ((Register 0 1 ∷ []) ∷ [] ∷ (Register 0 1 ∷ Fork 0 1 ∷ []) ∷ (Register 0 1 ∷ ForkDaemon 0 1 ∷ []) ∷ (Register 0 1 ∷ Close 0 0 ∷ []) ∷ (Register 0 1 ∷ Close 0 0 ∷ Register 0 2 ∷ []) ∷ []) ≡ true ∷ false ∷ false ∷ false ∷ false ∷ true ∷ []
unfolding after
next_is_a_handler = refl
