-- The end of a switch: what comes to `close`, and its handlers, which run in the fiber that closes, each with variables of its own.
use Rattle.std.proofs.Common.{◌≡◌, [], ◌∷◌, Some, None, true, false, refl}
use Rattle.std.specs.Prelude.{ℕ, codes, pos}
use Rattle.eio_value.specs.Table.{text_id}
use Rattle.eio_value.specs.declared.value.Value.{Value}
use Rattle.eio_value.specs.declared.value.Value.TheVariants.{Unit, Int, Text}
use Rattle.eio_value.specs.declared.plain.Misuse.TheVariants.{SwitchFinished}
use Rattle.eio_value.specs.declared.plain.Plain.{Plain}
use Rattle.eio_value.specs.declared.plain.Plain.TheVariants.{Failure, Invalid, Exit}
use Rattle.eio_value.specs.declared.raised.Outcome.TheVariants.{Ok, Err}
use Rattle.spec_script.specs.Syntax.{Statements, Then, Done, Let, Trace as TraceStatement, Raise as RaiseStatement, Variable, NumberValue, NoExpressions, AndExpression, Plain as PlainFork, Daemon, Promising}
use Rattle.spec_fiber.specs.Asks.{Ask, Trace, Switch, Fork, Fail, OnRelease, Leave, Close}
use Rattle.test_spec_fiber.specs.Replied.{Gives, ThrowsAgain, Cancels, Enters, Passes, Waits, Handles, done, raise, ends, block}
use Rattle.test_spec_fiber.specs.Runs.{calls}

abbrev int : ℕ → Value
int n = Int (pos n)

abbrev traces : ℕ → Ask
traces n = Trace (int n ∷ [])

abbrev failure : ℕ → Plain
failure n = Failure (text_id n)

-- handlers: one that makes a name and traces its first variable, and one that fails
abbrev traces_first : Statements
traces_first = Then (Let (NumberValue (pos 6))) (Then (TraceStatement (AndExpression (Variable 0) NoExpressions)) Done)

abbrev fails_at_once : Statements
fails_at_once = Then (RaiseStatement (text_id 0)) Done

-- the body's value comes to `close`; the name stands for the switch of that number
value_of_body : calls (codes "(eio 1 (promise p) (main (let x (switch s (fork s (yield)) (fork-daemon s) (fork-promise s p) (fail s \"a\") (give 2))) (trace x)))") (Enters 3 ∷ done ∷ done ∷ done ∷ done ∷ Waits ∷ Gives (int 2) ∷ done ∷ []) ≡ Switch (block 2) ∷ Fork PlainFork 3 (block 3) ∷ Fork Daemon 3 (block 6) ∷ Fork (Promising 0) 3 (block 8) ∷ Fail 3 (text_id 1) ∷ Close 3 None (int 2) ∷ Close 3 None (int 2) ∷ traces 2 ∷ ends Unit ∷ []
unfolding calls
value_of_body = refl

-- its exception comes once
exception_of_body : calls (codes "(eio 1 (main (try ((switch s (raise \"a\") (trace 1))) e ((trace 2)))))") (Enters 0 ∷ Waits ∷ Waits ∷ ThrowsAgain (raise 0 (failure 0)) ∷ done ∷ []) ≡ Switch (block 2) ∷ Close 0 (Some (raise 0 (failure 0))) Unit ∷ Close 0 None Unit ∷ Close 0 None Unit ∷ traces 2 ∷ ends Unit ∷ []
unfolding calls
exception_of_body = refl

switch_raises : calls (codes "(eio 1 (main (try ((switch s (yield))) e ((trace 2)))))") (Cancels Exit ∷ done ∷ []) ≡ Switch (block 2) ∷ traces 2 ∷ ends Unit ∷ []
unfolding calls
switch_raises = refl

-- a handler runs with its own variables; behind it those of the fiber are back, and the body's value is kept
handler_runs : calls (codes "(eio 1 (main (let x 1) (let r (switch s (on-release s (trace x)) (let y 5) (give 4))) (trace x r)))") (Enters 0 ∷ done ∷ Handles 7 traces_first (int 8 ∷ int 9 ∷ []) ∷ done ∷ Passes ∷ Gives (int 4) ∷ done ∷ []) ≡ Switch (block 4) ∷ OnRelease 0 (block 5) ∷ Close 0 None (int 4) ∷ traces 8 ∷ Leave 7 false (Ok Unit) ∷ Close 0 None (int 4) ∷ Trace (int 1 ∷ int 4 ∷ []) ∷ ends Unit ∷ []
unfolding calls
handler_runs = refl

-- a handler's exception comes to the next `close`, which keeps the body's value; the variables of the fiber are back here too
handler_fails : calls (codes "(eio 1 (main (let x 1) (try ((switch s (fail s \"a\") (give 4))) e ((trace x e)))))") (Enters 0 ∷ done ∷ Handles 7 fails_at_once (int 8 ∷ int 9 ∷ []) ∷ Passes ∷ Handles 8 traces_first (int 6 ∷ []) ∷ done ∷ Passes ∷ ThrowsAgain (raise 5 Exit) ∷ done ∷ []) ≡ Switch (block 4) ∷ Fail 0 (text_id 0) ∷ Close 0 None (int 4) ∷ Leave 7 false (Err (raise 0 (failure 0))) ∷ Close 0 (Some (raise 0 (failure 0))) (int 4) ∷ traces 6 ∷ Leave 8 false (Ok Unit) ∷ Close 0 None (int 4) ∷ Trace (int 1 ∷ Text (text_id 1) ∷ []) ∷ ends Unit ∷ []
unfolding calls
handler_fails = refl

-- a handler of a switch that had finished runs at once, with the variables of that moment; its value is refused
late_handler : calls (codes "(eio 1 (main (switch s (let x 3) (on-release s (trace x)) (trace 1))))") (Enters 0 ∷ Enters 9 ∷ done ∷ Passes ∷ []) ≡ Switch (block 1) ∷ OnRelease 0 (block 4) ∷ traces 3 ∷ Leave 9 true (Ok Unit) ∷ Close 0 (Some (raise 0 (Invalid SwitchFinished))) Unit ∷ []
unfolding calls
late_handler = refl

-- its exception passes instead
late_handler_fails : calls (codes "(eio 1 (main (switch s (on-release s (raise \"a\")))))") (Enters 0 ∷ Enters 9 ∷ Passes ∷ []) ≡ Switch (block 1) ∷ OnRelease 0 (block 2) ∷ Leave 9 true (Err (raise 0 (failure 0))) ∷ Close 0 (Some (raise 0 (failure 0))) Unit ∷ []
unfolding calls
late_handler_fails = refl
