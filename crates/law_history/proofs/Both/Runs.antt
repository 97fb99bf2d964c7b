-- In each state of a run of a plain script all that is left to be done is plain. So no move asks anything of the mocked outside, and no timer ever stands.
use Rattle.std.proofs.Common.{◌≡◌, ℕ, zero, suc, ◌+◌, ◌==◌, Bool, true, false, cond, List, [], ◌∷◌, Option, Some, None, refl, subst, arith}
use Rattle.std.specs.Prelude.{map, find, unwrap_or, get_or}
use Rattle.std.specs.List.{All, flat_map}
use Rattle.std.proofs.lemmas.List.Elements.{All-map}
use Rattle.eio_value.specs.declared.call.Answer.{Answer}
use Rattle.spec_parts.specs.Row.{Stepped}
use Rattle.spec_script.specs.Declarations.{Declaration}
use Rattle.spec_script.specs.Declarations as declared
use Rattle.spec_script.specs.Scripts.{Script}
use Rattle.spec_script.specs.Syntax.{Block, Begins, Done}
use Rattle.spec_fiber.specs.Numbered.{number_of, block_numbered, blocks_from}
use Rattle.spec_machine.specs.Asking.{asks_by}
use Rattle.spec_machine.specs.Domain.{DomainState, fiber_at}
use Rattle.spec_machine.specs.Labels.{Asks, Idle, Own, Calls, Strikes, Mocks}
use Rattle.spec_machine.specs.Mock.{Mock, Moved, comes, moved_by, move_by, move, moves, opening, first_body, most_jobs}
use Rattle.spec_machine.specs.Moves.{own_move, called_move, struck_move, stepped_by}
use Rattle.spec_machine.specs.ObjectMoves.{did_ask}
use Rattle.spec_machine.specs.Preparing as doing
use Rattle.spec_machine.specs.Preparing.{Doing, Prepared, at_once, prepared}
use Rattle.spec_machine.specs.Shared.{Asked, row_at, stepped, mine_of, strike_wins, declared_row}
use Rattle.spec_machine.specs.Trace.{last_after}
use Rattle.law_run.proofs.Beginnings.{from}
use Rattle.law_run.proofs.Places.{all_head, all_tail}
use Rattle.law_run.proofs.Standings.{all_single}
use Rattle.law_history.specs.Waits.Mocked.{AllShared}
use Rattle.law_script.specs.Scripts.Sharing.{IsSharedBlock}
use Rattle.law_script.specs.Scripts.Soundness.{Known, IsSoundBlock}
use Rattle.law_history.proofs.Both.Plain.{IsPlainBlock, ArePlainStatements, ArePlain, plain_append, objects_of, block_is_plain, inside_block}
use Rattle.law_history.proofs.Both.Settling.{items_are}
use Rattle.law_history.proofs.Both.Standings.{FiberIs, Stands, fiber_is}
use Rattle.law_history.proofs.Both.Moving.{BlocksAre, Kept, own_call_kept}
use Rattle.law_history.proofs.Both.Rows.{RowIs, Shares, StepIs, row_is, called_is, mine_is, call_shares, strike_shares}
use Rattle.law_history.proofs.Both.Answering.{answered_kept, received_stands, own_duty_kept, duty_struck_kept, duty_answered_kept}
use Rattle.law_history.proofs.Both.Asking.{DoingIs, Prepares, prepared_prepares, AsksIs, prepared_asks, asks_shared}

-- ## One move

module _ (objects : ℕ) (script : Script) (blocks : BlocksAre objects script) where
  own_kept : (it : Doing) (l : DomainState) → DoingIs objects it → Stands objects l → Kept objects (own_move script (at_once it l))
  own_kept doing.Rests l is h = h
  own_kept (doing.Owes duty) l is h = own_duty_kept objects duty.maker duty.owed l h
  own_kept (doing.Calls g wanted) l is h = own_call_kept objects script blocks wanted g l is h
  own_kept (doing.Carries g writer) l is h = absurd is
  own_kept doing.Ticks l is h = absurd is

  called_kept : (it : Doing) (l : DomainState) (asked : Asked) (given : Answer) → DoingIs objects it → Stands objects l → Kept objects (called_move (at_once it l) asked given)
  called_kept doing.Rests l asked given is h = h
  called_kept (doing.Owes duty) l asked given is h = duty_answered_kept objects duty.maker duty.owed given l is h
  called_kept (doing.Calls g wanted) l asked given is h =
      answered_kept objects wanted (fiber_at l.fibers g).role (did_ask wanted (fiber_at l.fibers g).role) asked given g l is (fiber_is objects g l h).0 h
  called_kept (doing.Carries g writer) l asked given is h = absurd is
  called_kept doing.Ticks l asked given is h = absurd is

  struck_kept : (it : Doing) (l : DomainState) (won : Bool) → DoingIs objects it → Stands objects l → Kept objects (struck_move (at_once it l) won)
  struck_kept doing.Rests l won is h = h
  struck_kept (doing.Owes duty) l won is h = duty_struck_kept objects duty.maker duty.owed won l h
  struck_kept (doing.Calls g wanted) l won is h = h
  struck_kept (doing.Carries g writer) l won is h = absurd is
  struck_kept doing.Ticks l won is h = absurd is

  -- the domain is plain, and so are the jobs that executors hold
  abbrev pub IsPlain : Mock → Type 0
  IsPlain m = Stands objects m.local × Shares objects m.shared

  abbrev PlainIf : Option Moved → Type 0
  PlainIf None = Unit {0}
  PlainIf (Some moved) = IsPlain moved.next

  asks_plain : (m : Mock) (it : Prepared) → Prepares objects it → Shares objects m.shared → (asks : Asks) → AsksIs objects asks
      → PlainIf (elim (comes m (m.local.stamp + 1) asks) [ None ↦ None | Some came ↦ Some (moved_by m (m.local.stamp + 1) it.raises came (stepped_by script it came.label m.local)) ])
  asks_plain m it prepares shares Idle is = tt
  asks_plain m it prepares shares Own is = (own_kept it.doing it.state prepares.0 prepares.1, shares)
  asks_plain m it prepares shares (Calls asked) is =
      let step : Stepped = stepped m.shared asked in
      let steps : StepIs objects step =
      called_is objects (row_at m.shared.rows asked.object) asked.who asked.off asked.serial asked.call (row_is objects m.shared.rows asked.object shares) is.1
      in (
        received_stands objects script blocks (mine_of m.local.number (m.local.stamp + 1) step.sent) (called_move it asked step.answer).state
            (mine_is objects m.local.number (m.local.stamp + 1) step.sent steps.1) (called_kept it.doing it.state asked step.answer prepares.0 prepares.1),
        call_shares objects m.shared m.local.number (m.local.stamp + 1) asked step steps.0 shares,
      )
  asks_plain m it prepares shares (Strikes who) is =
      (struck_kept it.doing it.state (strike_wins m.shared who) prepares.0 prepares.1, strike_shares objects m.shared who (strike_wins m.shared who) shares)
  asks_plain m it prepares shares (Mocks asked) is = absurd is

  move_plain : (m : Mock) → IsPlain m → (moved : Moved) → move script m ≡ Some moved → IsPlain moved.next
  unfolding move
  move_plain m h moved is = subst PlainIf is (by m.local.halted)
    where
      by : (halted : Bool) → PlainIf (elim halted [ true ↦ None | false ↦ move_by script m (prepared m.local) ])
      by true = tt
      by false =
          let prepares : Prepares objects (prepared m.local) = prepared_prepares objects m.local h.0 in
          asks_plain m (prepared m.local) prepares h.1 (asks_by (prepared m.local)) (prepared_asks objects (prepared m.local) prepares)

  -- ## Runs

  pub moves_plain : (n : ℕ) (m : Mock) → IsPlain m → AllShared objects m (moves script n m) × IsPlain (last_after m (moves script n m))
  unfolding moves
  moves_plain zero m h = (tt, h)
  moves_plain (suc n) m h = by (move script m) refl (moves_plain n)
    where
      by : (first : Option Moved) → move script m ≡ first
          → ((next : Mock) → IsPlain next → AllShared objects next (moves script n next) × IsPlain (last_after next (moves script n next)))
          → AllShared objects m (from script n first) × IsPlain (last_after m (from script n first))
      by None is rest = (tt, h)
      by (Some moved) is rest =
          let then = rest moved.next (move_plain m h moved is) in
          ((asks_shared objects m.local h.0, then.0), then.1)

-- ## The opening

module _ (objects : ℕ) where
  found_plain : (test : Block → Bool) (otherwise : Block) (all : List Block) → IsPlainBlock objects otherwise → ArePlain objects all → IsPlainBlock objects (unwrap_or (find test all) otherwise)
  found_plain test otherwise [] other are = other
  found_plain test otherwise (block ∷ all) other are = by (test block) (found_plain test otherwise all other are.1)
    where
      by : (b : Bool) → IsPlainBlock objects (unwrap_or (find test all) otherwise) → IsPlainBlock objects (unwrap_or (cond b (Some block) (find test all)) otherwise)
      by true rest = are.0
      by false rest = rest

  inside_all : (bodies : List Block) → ArePlain objects bodies → ArePlain objects (flat_map blocks_from bodies)
  inside_all [] are = tt
  inside_all (body ∷ bodies) are = plain_append objects (blocks_from body) (flat_map blocks_from bodies) (inside_block objects body are.0) (inside_all bodies are.1)

  empty_plain : (number : ℕ) → IsPlainBlock objects (Begins number Done)
  unfolding IsPlainBlock ArePlainStatements
  empty_plain number = tt

  pub blocks_are : (script : Script) → ArePlain objects script.bodies → BlocksAre objects script
  unfolding block_numbered
  blocks_are script are number = found_plain (λ block. number_of block == number) (Begins number Done) (flat_map blocks_from script.bodies) (empty_plain number) (inside_all script.bodies are)

  first_plain : (bodies : List Block) → ArePlain objects bodies → IsPlainBlock objects (first_body bodies)
  first_plain [] are = empty_plain 0
  first_plain (main ∷ others) are = are.0

  row_opens : (most : ℕ) (it : Declaration) → RowIs objects (declared_row most it)
  row_opens most (declared.Stream capacity) = tt
  row_opens most declared.Promise = tt
  row_opens most (declared.Semaphore count) = tt
  row_opens most declared.Mutex = tt
  row_opens most (declared.Pool size) = tt
  row_opens most (declared.Executor workers) = λ k d below. absurd (omega (arith, below))
  row_opens most (declared.Flow steps) = tt
  row_opens most (declared.Dir items) = tt

  rows_open : (most : ℕ) (declarations : List Declaration) → All (RowIs objects) (map (declared_row most) declarations)
  rows_open most declarations = All-map (RowIs objects) (declared_row most) declarations (λ k d below. row_opens most (get_or declarations k d))

  pub opens_plain : (script : Script) (are : ArePlain objects script.bodies) → IsPlain objects script (blocks_are script are) (opening script)
  opens_plain script are = (
    ((λ k d below. absurd (omega (arith, below))), all_single (FiberIs objects) _ (tt, (items_are objects (first_body script.bodies) (first_plain script.bodies are), tt), tt), refl),
    rows_open (most_jobs script) script.declarations,
  )

pub bodies_plain : (known : Known) (bodies : List Block) → All (IsSoundBlock known) bodies → All IsSharedBlock bodies → ArePlain (objects_of known) bodies
bodies_plain known [] sound shared = tt
bodies_plain known (body ∷ bodies) sound shared = (
  block_is_plain known body (all_head (IsSoundBlock known) body bodies sound) (all_head IsSharedBlock body bodies shared),
  bodies_plain known bodies (all_tail (IsSoundBlock known) body bodies sound) (all_tail IsSharedBlock body bodies shared),
)
