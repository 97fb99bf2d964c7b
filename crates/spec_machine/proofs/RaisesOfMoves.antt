-- The raises of each move of a run, from its first move on. Mutex 0, promise 1 and flow 2 are declared, and text 0 is `a`.
use Rattle.std.proofs.Common.{◌≡◌, ℕ, List, [], ◌∷◌, None, refl}
use Rattle.std.specs.Prelude.{codes, map}
use Rattle.eio_value.specs.Table.{text_id}
use Rattle.eio_value.specs.declared.plain.Member.{Member}
use Rattle.eio_value.specs.declared.plain.Misuse.TheVariants.{NotLocked}
use Rattle.eio_value.specs.declared.plain.Plain.{Plain as PlainException}
use Rattle.eio_value.specs.declared.plain.Plain.TheVariants.{Failure, Invalid, EndOfFile, Poisoned}
use Rattle.spec_parts.specs.BytesToCome.{bytes_to_come}
use Rattle.spec_parts.specs.Contexts.{way_within}
use Rattle.spec_script.specs.Declarations as declarations
use Rattle.spec_script.specs.Scripts.{Script}
use Rattle.spec_script.specs.Syntax.{Statement, Raise, Try, Check, AwaitCancel, Sub, Cancel, Switch, Fork, Plain, Promising, Fail, OnObject, Await, Lock, Unlock, UseRw, BufRead, OnReader, Line, Block, Begins, Statements, Done, Then}
use Rattle.spec_fiber.specs.Evaluation.{value_of, values_of}
use Rattle.spec_fiber.specs.Settling.{answered}
use Rattle.spec_fiber.specs.Silent.{statement}
use Rattle.spec_machine.specs.Mock.{move, moves}
use Rattle.spec_machine.specs.Moves.{own_call}
use Rattle.spec_machine.specs.Preparing.{prepared}
use Rattle.spec_machine.specs.Steps.{waiting_from}
use Rattle.spec_machine.specs.Trace.{run}

-- ## Words of the rows

abbrev statements : List Statement → Statements
statements [] = Done
statements (it ∷ others) = Then it (statements others)

abbrev block : List Statement → Block
block items = Begins 0 (statements items)

abbrev main : List Statement → Script
main items = record {
  version = 1;
  names = [];
  declarations = declarations.Mutex ∷ declarations.Promise ∷ declarations.Flow [] ∷ [];
  bodies = block items ∷ [];
  texts = codes "a" ∷ [];
  failures = [];
  formed = [];
  first_domain = None;
}

-- of at most 20 moves
unfoldable raises_in : Script → List (List Member)
unfolding run moves move prepared own_call value_of values_of answered statement waiting_from way_within bytes_to_come
raises_in script = map (λ moved. moved.raises) (run script 20).moves

abbrev raise : (serial : ℕ) → PlainException → Member
raise serial what = record { serial = serial; what = what }

abbrev failure : PlainException
failure = Failure (text_id 0)

abbrev fails : Statement
fails = Raise (text_id 0)

-- ## Raises

-- one is caught in the move that makes the other
silent_raises : raises_in (main (Try (block (fails ∷ [])) (block []) ∷ fails ∷ [])) ≡ (raise 0 failure ∷ raise 1 failure ∷ []) ∷ []
unfolding raises_in
silent_raises = refl

-- one more in the second block, and the call behind it raises too
caught_before_a_call : raises_in (main (Try (block (fails ∷ [])) (block (Try (block (fails ∷ [])) (block []) ∷ OnObject Unlock 0 ∷ [])) ∷ []))
    ≡ (raise 0 failure ∷ raise 1 failure ∷ raise 2 (Invalid NotLocked) ∷ []) ∷ [] ∷ []
unfolding raises_in
caught_before_a_call = refl

-- what objects raise, one after the other
raised_by_objects : raises_in (main (Try (block (OnObject Unlock 0 ∷ [])) (block (OnObject Unlock 0 ∷ [])) ∷ [])) ≡ (raise 0 (Invalid NotLocked) ∷ []) ∷ (raise 1 (Invalid NotLocked) ∷ []) ∷ [] ∷ []
unfolding raises_in
raised_by_objects = refl

-- `sub`, `cancel`, `check`, `leave` and the end
cancelled_by_check : raises_in (main (Sub (block (Cancel 0 (text_id 0) ∷ Check ∷ [])) ∷ [])) ≡ [] ∷ [] ∷ (raise 0 failure ∷ []) ∷ [] ∷ [] ∷ []
unfolding raises_in
cancelled_by_check = refl

-- `fail`, and behind it the strike on the fiber that awaits its cancellation; what it ends with, and what `close` raises, was raised before
struck : raises_in (main (Switch (block (Fork Plain 0 (block (AwaitCancel ∷ [])) ∷ Fail 0 (text_id 0) ∷ [])) ∷ []))
    ≡ [] ∷ [] ∷ [] ∷ (raise 0 failure ∷ []) ∷ (raise 1 failure ∷ []) ∷ [] ∷ [] ∷ [] ∷ [] ∷ []
unfolding raises_in
struck = refl

-- `poison`, and behind it the wake of the fiber that waits for the mutex
woken_by_poison : raises_in (main (Switch (block (UseRw 0 (block (Fork Plain 0 (block (OnObject Lock 0 ∷ [])) ∷ fails ∷ [])) ∷ [])) ∷ []))
    ≡ [] ∷ [] ∷ [] ∷ [] ∷ (raise 0 failure ∷ []) ∷ (raise 1 Poisoned ∷ []) ∷ [] ∷ [] ∷ [] ∷ [] ∷ [] ∷ []
unfolding raises_in
woken_by_poison = refl

-- `resolve` with the exception of the fiber's block; `await` raises it again
awaited : raises_in (main (Switch (block (Fork (Promising 1) 0 (block (fails ∷ [])) ∷ OnObject Await 1 ∷ [])) ∷ []))
    ≡ [] ∷ [] ∷ (raise 0 failure ∷ []) ∷ [] ∷ [] ∷ [] ∷ [] ∷ [] ∷ []
unfolding raises_in
awaited = refl

-- a line of a flow without bytes
raised_outside : raises_in (main (BufRead 2 9 (block (OnReader Line 0 ∷ [])) ∷ [])) ≡ [] ∷ (raise 0 EndOfFile ∷ []) ∷ [] ∷ [] ∷ []
unfolding raises_in
raised_outside = refl
