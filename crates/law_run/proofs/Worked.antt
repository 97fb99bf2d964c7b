-- A worked run, so that the premises of the laws can be met: `(eio 1 (main (raise "a")))`, whose one move raises.
use Rattle.std.proofs.Common.{◌≡◌, ℕ, ◌<◌, ◌⊎◌, false, is_some, List, [], ◌∷◌, length, codes, None, Some, refl, arith}
use Rattle.std.specs.Option.{unwrap_or}
use Rattle.std.proofs.lemmas.List.Elements.{Contains-get_or}
use Rattle.eio_value.specs.Table.{text_id}
use Rattle.eio_value.specs.declared.plain.Member.{Member}
use Rattle.eio_value.specs.declared.plain.Plain.TheVariants.{Failure}
use Rattle.spec_parts.specs.Contexts.{way_within}
use Rattle.spec_script.specs.Scripts.{Script}
use Rattle.spec_script.specs.Syntax.{Raise, Begins, Done, Then}
use Rattle.spec_fiber.specs.Evaluation.{value_of, values_of}
use Rattle.spec_fiber.specs.Settling.{answered}
use Rattle.spec_fiber.specs.Silent.{statement}
use Rattle.trace_lines.specs.declared.line.Did.TheVariants as did
use Rattle.trace_lines.specs.declared.line.Said2.TheVariants as said
use Rattle.spec_machine.specs.Domain.{fiber_at}
use Rattle.spec_machine.specs.Mock.{Moved, opening, move, moves, can_move}
use Rattle.spec_machine.specs.Moves.{own_call}
use Rattle.spec_machine.specs.Preparing.{prepared}
use Rattle.spec_machine.specs.Steps.{waiting_from}
use Rattle.spec_machine.specs.Trace.{run}
use Rattle.law_run.specs.Beginnings.{BeginsWith}
use Rattle.law_run.specs.Exceptions.{IsIn, InFiber}
use Rattle.law_run.specs.Meanings.{RunAlike}
use Rattle.law_run.specs.Serials.{AreNumbered, IsRaisedBy}
use Rattle.law_run.proofs.Beginnings.{moves_begin_alike}
use Rattle.law_run.proofs.Meanings.{runs_go_by_meaning}
use Rattle.law_run.proofs.Moves.{moves_where_something_is_left, short_runs_are_over}
use Rattle.law_run.proofs.Serials.{raises_are_counted, raises_are_numbered}

abbrev worked : Script
worked = record {
  version = 1;
  names = [];
  declarations = [];
  bodies = Begins 0 (Then (Raise (text_id 0)) Done) ∷ [];
  texts = codes "a" ∷ [];
  failures = text_id 0 ∷ [];
  formed = [];
  first_domain = None;
}

-- ## Where it ends

begins_alike : BeginsWith (run worked 3).moves (run worked 1).moves
begins_alike = moves_begin_alike worked 1 2

something_is_left : is_some (move worked (opening worked)) ≡ can_move (opening worked).local
something_is_left = moves_where_something_is_left worked (opening worked)

has_one_move : length (run worked 2).moves < 2
unfolding run moves move prepared own_call value_of values_of answered statement waiting_from way_within
has_one_move = omega arith

it_is_over : can_move (run worked 2).last.local ≡ false
it_is_over = short_runs_are_over worked 2 has_one_move

-- ## What it depends on

-- with the place of a further body, which no run sees
abbrev placed : Script
placed = record worked { first_domain = Some 7 }

runs_alike : RunAlike worked placed 5
runs_alike = runs_go_by_meaning worked placed (record { version = refl; names = refl; declarations = refl; bodies = refl; texts = refl; failures = refl }) 5

-- ## Its raise

abbrev nothing_told : Moved
nothing_told = record { line = record { stamp = 0; domain = 0; fiber = 0; did = did.Yield; reply = said.Back }; next = opening worked; raises = [] }

abbrev moved : Moved
moved = unwrap_or (move worked (run worked 0).last) nothing_told

it_moves : move worked (run worked 0).last ≡ Some moved
unfolding run moves move prepared own_call value_of values_of answered statement waiting_from way_within
it_moves = refl

abbrev raised : Member
raised = record { serial = 0; what = Failure (text_id 0) }

-- main has ended with it
it_stands_there : IsIn raised moved.next
unfolding run moves move prepared own_call value_of values_of answered statement waiting_from way_within
it_stands_there =
    InFiber (fiber_at moved.next.local.fibers 0) (Contains-get_or moved.next.local.fibers 0 (fiber_at moved.next.local.fibers 0) (omega arith))
    (Contains-get_or (raised ∷ []) 0 raised (omega arith))

it_is_counted : AreNumbered (run worked 0).last.local.serial moved.raises moved.next.local.serial
it_is_counted = raises_are_counted worked (run worked 0).last moved it_moves

it_was_raised : IsIn raised (run worked 0).last ⊎ IsRaisedBy (run worked 0).last moved raised
it_was_raised = raises_are_numbered worked 0 moved it_moves raised it_stands_there
