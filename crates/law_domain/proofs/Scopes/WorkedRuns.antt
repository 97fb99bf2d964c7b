-- Worked runs, so that the premises of the laws can be met: a switch with a fiber, a daemon and three handlers, of which one registers the last; and a group of two branches.
use Rattle.std.proofs.Common.{◌≡◌, ℕ, true, false, List, [], ◌∷◌, Option, Some, None, refl, sym, ap, subst, ◌∙◌}
use Rattle.eio_value.specs.declared.message.Message.{Message}
use Rattle.eio_value.specs.declared.message.Message.TheVariants as message
use Rattle.eio_value.specs.declared.raised.Outcome.TheVariants as outcome
use Rattle.eio_value.specs.declared.value.Value.TheVariants as value
use Rattle.spec_parts.specs.Contexts.{way_within}
use Rattle.spec_parts.specs.Switches.{Handler}
use Rattle.spec_script.specs.Scripts.{Script}
use Rattle.spec_script.specs.Syntax.{Statement, Yield, AwaitCancel, Switch, Fork, Plain, Daemon, OnRelease, Branches, Both, NoBlocks, AndBlock, Block, Begins, Statements, Done, Then}
use Rattle.spec_fiber.specs.Asks as ask
use Rattle.spec_fiber.specs.Evaluation.{value_of, values_of}
use Rattle.spec_fiber.specs.Numbered.{block_numbered, blocks_of_statement}
use Rattle.spec_fiber.specs.Settling.{answered}
use Rattle.spec_fiber.specs.Silent.{statement}
use Rattle.trace_lines.specs.declared.line.Did.{Did}
use Rattle.trace_lines.specs.declared.line.Did.TheVariants as did
use Rattle.trace_lines.specs.declared.line.Said2.{Said2}
use Rattle.trace_lines.specs.declared.line.Said2.TheVariants as said
use Rattle.spec_machine.specs.Domain.{OfGroup, DomainState, fiber_at, has_ended}
use Rattle.spec_machine.specs.GroupMoves.{branched}
use Rattle.spec_machine.specs.Labels.{Took}
use Rattle.spec_machine.specs.Mock.{Moved, opening, move, moves}
use Rattle.spec_machine.specs.Moves.{own_call, after}
use Rattle.spec_machine.specs.Preparing as doing
use Rattle.spec_machine.specs.Preparing.{prepared}
use Rattle.spec_machine.specs.Steps.{waiting_from}
use Rattle.spec_machine.specs.Trace.{run}
use Rattle.law_domain.specs.Scopes.Finished.{IsResult, NoneIsLeft}
use Rattle.law_domain.specs.Scopes.Handling.{AnyOf, LeavesContext, context_after}
use Rattle.law_domain.specs.Scopes.Joined.{NoBranchIsLeft}
use Rattle.law_domain.specs.Scopes.Released.{Seen, Released, seen_of, accepted, batches}
use Rattle.law_domain.proofs.Scopes.Handling.{handlers_end_in_runs}
use Rattle.law_domain.proofs.Scopes.Joined.{groups_leave_nothing_in_runs}
use Rattle.law_domain.proofs.Scopes.Mocked.{leaves_nothing_in_runs}
use Rattle.law_domain.proofs.Scopes.Released.{releases_once_in_runs}

abbrev statements : List Statement → Statements
statements [] = Done
statements (it ∷ others) = Then it (statements others)

abbrev block : (number : ℕ) → List Statement → Block
block number items = Begins number (statements items)

-- the handlers are the blocks 4, 5 and 6; block 5 is registered while block 4 runs
abbrev worked : Script
worked = record {
  version = 1;
  names = [];
  declarations = [];
  bodies = block 0 (Switch (block 1 (
      Fork Plain 0 (block 2 (Yield ∷ [])) ∷ Fork Daemon 0 (block 3 (AwaitCancel ∷ []))
      ∷ OnRelease 0 (block 4 (OnRelease 0 (block 5 []) ∷ [])) ∷ OnRelease 0 (block 6 []) ∷ [])) ∷ []) ∷ [];
  texts = [];
  failures = [];
  formed = [];
  first_domain = None;
}

unfoldable before_its_end : List Seen
unfolding run moves move prepared own_call value_of values_of answered statement waiting_from way_within block_numbered blocks_of_statement
before_its_end = seen_of (opening worked) (run worked 19).moves

abbrev told : Option Moved → Option (Did × Said2)
told None = None
told (Some moved) = Some (moved.line.did, moved.line.reply)

abbrev handler : (number : ℕ) → Handler
handler number = record { block = number; values = value.Switch 0 ∷ [] }

-- after 19 moves `close` answers
it_closes : told (move worked (run worked 19).last) ≡ Some (did.Close 0, said.Done value.Unit)
unfolding run moves move prepared own_call value_of values_of answered statement waiting_from way_within block_numbered blocks_of_statement
it_closes = refl

three_are_accepted : accepted 0 before_its_end ≡ handler 4 ∷ handler 6 ∷ handler 5 ∷ []
unfolding before_its_end
three_are_accepted = refl

in_two_batches : batches 0 before_its_end ≡ (handler 4 ∷ handler 6 ∷ []) ∷ (handler 5 ∷ []) ∷ []
unfolding before_its_end
in_two_batches = refl

-- ## A message for a fiber that has ended

-- such a message comes to no domain of a legal history; where it comes, the fiber, which was forked onto the switch, moves again after `close` has answered
abbrev late : Message
late = message.Resume (record { domain = 0; fiber = 1; cell = 0; armed = 0 }) (outcome.Ok value.Unit) 0

unfoldable at_the_end : DomainState
unfolding run moves move prepared own_call value_of values_of answered statement waiting_from way_within block_numbered blocks_of_statement
at_the_end = (run worked 20).last.local

it_may_come : (at_the_end.halted ≡ false) × (at_the_end.duties ≡ [])
unfolding at_the_end
it_may_come = (refl, refl)

it_had_ended : has_ended (fiber_at at_the_end.fibers 1) ≡ true
unfolding at_the_end
it_had_ended = refl

it_moves_again : has_ended (fiber_at (after worked at_the_end 21 (Took late)).fibers 1) ≡ false
unfolding at_the_end after prepared value_of values_of answered statement
it_moves_again = refl

-- ## Ends of handlers

-- the lines by which the switch is closed, and by which contexts are left
abbrev told_of_ends : Did → Said2 → List (Did × Said2) → List (Did × Said2)
told_of_ends (did.Close n) reply others = (did.Close n, reply) ∷ others
told_of_ends (did.Leave c) reply others = (did.Leave c, reply) ∷ others
told_of_ends it reply others = others

abbrev ends_told : List Moved → List (Did × Said2)
ends_told [] = []
ends_told (moved ∷ others) = told_of_ends moved.line.did moved.line.reply (ends_told others)

each_handler_ends :
    ends_told (run worked 20).moves
    ≡ (did.Close 0, said.Waits) ∷ (did.Close 0, said.Waits) ∷ (did.Close 0, said.Handler) ∷ (did.Leave 2, said.Done value.Unit) ∷ (did.Close 0, said.Handler) ∷ (did.Leave 3, said.Done value.Unit)
    ∷ (did.Close 0, said.Handler) ∷ (did.Leave 4, said.Done value.Unit) ∷ (did.Close 0, said.Done value.Unit) ∷ []
unfolding run moves move prepared own_call value_of values_of answered statement waiting_from way_within block_numbered blocks_of_statement
each_handler_ends = refl

-- ## A group

-- the caller comes to the end of its own branch first, waits, and joins the group again once the other branch has ended
abbrev both_of : Script
both_of = record {
  version = 1;
  names = [];
  declarations = [];
  bodies = block 0 (Branches Both (AndBlock (block 1 (Yield ∷ Yield ∷ [])) (AndBlock (block 2 []) NoBlocks)) ∷ []) ∷ [];
  texts = [];
  failures = [];
  formed = [];
  first_domain = None;
}

it_joins :
    ((prepared (run both_of 5).last.local).doing ≡ doing.Calls 0 (ask.Join 0 None)) × (told (move both_of (run both_of 5).last) ≡ Some (did.Join 1, said.Done value.Unit))
    × ((fiber_at (run both_of 5).last.local.fibers 1).role ≡ OfGroup 0)
unfolding run moves move prepared own_call value_of values_of answered statement waiting_from way_within block_numbered blocks_of_statement branched
it_joins = (refl, refl, refl)

-- the other branch has ended then; a message for it has it move again
its_branch_moves_again : (has_ended (fiber_at (run both_of 6).last.local.fibers 1) ≡ true) × (has_ended (fiber_at (after both_of (run both_of 6).last.local 7 (Took late)).fibers 1) ≡ false)
unfolding run moves move prepared own_call value_of values_of answered statement waiting_from way_within block_numbered blocks_of_statement branched after
its_branch_moves_again = (refl, refl)

-- ## What the laws say of them

-- a move by this fiber that tells this
record Tells (found : Option Moved) (fiber : ℕ) (it : Did) (reply : Said2) : Type 0 where
  pub moved : Moved
  pub is : found ≡ Some moved
  pub caller : moved.line.fiber ≡ fiber
  pub call : moved.line.did ≡ it
  pub answer : moved.line.reply ≡ reply

abbrev line_told : Option Moved → Option (ℕ × Did × Said2)
line_told None = None
line_told (Some moved) = Some (moved.line.fiber, moved.line.did, moved.line.reply)

abbrev told_or : ℕ × Did × Said2 → Option (ℕ × Did × Said2) → ℕ × Did × Said2
told_or it None = it
told_or it (Some told) = told

tells : (found : Option Moved) (fiber : ℕ) (it : Did) (reply : Said2) → line_told found ≡ Some (fiber, it, reply) → Tells found fiber it reply
tells None fiber it reply same = absurd (cc)
tells (Some moved) fiber it reply same =
    let told = ap (told_or (fiber, it, reply)) same in
    record { moved = moved; is = refl; caller = ap (λ t. t.0) told; call = ap (λ t. t.1) told; answer = ap (λ t. t.2) told }

closing : Tells (move worked (run worked 19).last) 0 (did.Close 0) (said.Done value.Unit)
unfolding run moves move prepared own_call value_of values_of answered statement waiting_from way_within block_numbered blocks_of_statement
closing = tells (move worked (run worked 19).last) 0 (did.Close 0) (said.Done value.Unit) refl

is_result : (reply : Said2) → reply ≡ said.Done value.Unit → IsResult reply
is_result reply same = subst IsResult (sym same) tt

-- `close` has answered: four moves later nobody who was forked onto the switch is left, and its handlers have run
nothing_is_left : NoneIsLeft 0 (run worked 24).last.local
nothing_is_left =
    leaves_nothing_in_runs worked 19 4 0 closing.moved closing.is (record { call = closing.call; result = is_result closing.moved.line.reply closing.answer })

all_are_released : Released worked 0 (seen_of (opening worked) (run worked 19).moves)
all_are_released =
    releases_once_in_runs worked 19 0 closing.moved closing.is (record { call = closing.call; result = is_result closing.moved.line.reply closing.answer })

-- the last handler runs from here on
entering : Tells (move worked (run worked 17).last) 0 (did.Close 0) said.Handler
unfolding run moves move prepared own_call value_of values_of answered statement waiting_from way_within block_numbered blocks_of_statement
entering = tells (move worked (run worked 17).last) 0 (did.Close 0) said.Handler refl

its_context_is_left :
    AnyOf (λ z. LeavesContext entering.moved.line.fiber (context_after entering.moved.line entering.moved.next.local) z.line) (moves worked 1 entering.moved.next)
its_context_is_left =
    handlers_end_in_runs worked 17 1 0 entering.moved closing.moved entering.is (record { call = entering.call; handler = entering.answer }) closing.is
    (record { call = closing.call; caller = closing.caller ∙ sym entering.caller })

joining : Tells (move both_of (run both_of 5).last) 0 (did.Join 1) (said.Done value.Unit)
unfolding run moves move prepared own_call value_of values_of answered statement waiting_from way_within block_numbered blocks_of_statement branched
joining = tells (move both_of (run both_of 5).last) 0 (did.Join 1) (said.Done value.Unit) refl

no_branch_is_left : NoBranchIsLeft 0 (run both_of 7).last.local
no_branch_is_left =
    groups_leave_nothing_in_runs both_of 5 1 0 joining.moved joining.is (record {
      own = None;
      call = it_joins.0 ∙ ap (λ g. doing.Calls g (ask.Join 0 None)) (sym joining.caller);
      context = 1;
      told = joining.call;
      result = is_result joining.moved.line.reply joining.answer;
    })
