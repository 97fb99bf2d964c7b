-- A worked run that asks only for what is shared, so that the premises of the law can be met. And one that stops where a timer stands: it is out of steps, where its
-- history has nothing left to move.
use Rattle.std.proofs.Common.{◌≡◌, [], ◌∷◌, None, refl, arith}
use Rattle.std.specs.Prelude.{pos}
use Rattle.spec_parts.specs.Contexts.{way_within}
use Rattle.spec_script.specs.Declarations as declarations
use Rattle.spec_script.specs.Scripts.{Script}
use Rattle.spec_script.specs.Syntax.{Done, Then, Block, Begins, Switch, Fork, Plain, OnObject, OnObjectWith, Take, Add, Sleep, NumberValue}
use Rattle.spec_fiber.specs.Evaluation.{value_of, values_of}
use Rattle.spec_fiber.specs.Settling.{answered}
use Rattle.spec_fiber.specs.Silent.{statement}
use Rattle.spec_machine.specs.declared.Ending.TheVariants as ending
use Rattle.spec_machine.specs.Histories.{ending_of}
use Rattle.spec_machine.specs.Mock.{move, moves}
use Rattle.spec_machine.specs.Moves.{asks, own_call}
use Rattle.spec_machine.specs.Preparing.{prepared}
use Rattle.spec_machine.specs.Steps.{waiting_from}
use Rattle.spec_machine.specs.Trace.{run, ending_in}
use Rattle.law_history.specs.Waits.Mocked.{AsksOnlyShared, IsHistory}
use Rattle.law_history.proofs.Waits.Histories.{mock_runs_are_legal}

abbrev alone : Block → Script
alone body = record { version = 1; names = []; declarations = declarations.Stream 0 ∷ []; bodies = body ∷ []; texts = [] ∷ []; failures = []; formed = []; first_domain = None }

-- ## A fiber that takes, and main that adds

abbrev taking : Block
taking = Begins 0 (Then (OnObject Take 0) Done)

abbrev handing : Script
handing = alone (Begins 0 (Then (Switch (Begins 0 (Then (Fork Plain 1 taking) (Then (OnObjectWith Add 0 (NumberValue (pos 5))) Done)))) Done))

-- it opens a switch and forks; the fiber takes and waits; main adds, and waits for the fiber's end; the switch returns, and main ends
asks_only_shared : AsksOnlyShared handing 20
unfolding run moves move asks prepared own_call value_of values_of answered statement waiting_from way_within
asks_only_shared = (tt, (tt, (omega arith, (omega arith, (tt, (tt, (tt, (tt, tt))))))))

is_a_history : IsHistory handing (run handing 20)
is_a_history = mock_runs_are_legal handing 20 (omega arith) refl asks_only_shared

no_timer_stands : (run handing 20).last.local.timers.standing ≡ []
unfolding run moves move prepared own_call value_of values_of answered statement waiting_from way_within
no_timer_stands = refl

it_ends_well : ending_in handing (run handing 20).last ≡ ending.Ok
unfolding run moves move prepared own_call value_of values_of answered statement waiting_from way_within
it_ends_well = refl

-- ## A timer that stands

abbrev sleeping : Script
sleeping = alone (Begins 0 (Then (Sleep (NumberValue (pos 5))) Done))

the_run_may_jump : ending_in sleeping (run sleeping 1).last ≡ ending.OutOfSteps
unfolding run moves move prepared own_call value_of values_of answered statement waiting_from way_within
the_run_may_jump = refl

the_history_waits_for_nothing : ending_of sleeping (let it = (run sleeping 1).last in record { locals = it.local ∷ []; shared = it.shared }) ≡ ending.Deadlock
unfolding run moves move prepared own_call value_of values_of answered statement waiting_from way_within
the_history_waits_for_nothing = refl
