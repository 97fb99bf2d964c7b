-- A mocked move makes its label of what is asked for, just as the shared part would; so each case holds as it stands.
use Rattle.std.proofs.Common.{◌≡◌, ℕ, ◌+◌, Bool, true, false, length, Option, Some, None, refl, ap, subst, arith}
use Rattle.spec_script.specs.Scripts.{Script}
use Rattle.spec_parts.specs.Row.{Stepped}
use Rattle.spec_machine.specs.Asking.{asks_by}
use Rattle.spec_machine.specs.Labels.{Asks, Idle, Own, Calls, Strikes, Mocks, Label, Inner, Called, Struck}
use Rattle.spec_machine.specs.Mock.{Mock, Came, comes, Moved, moved_by, move_by, move}
use Rattle.spec_machine.specs.Moves.{asks, after, line_of, raises_of, stepped_by, line_by}
use Rattle.spec_machine.specs.Preparing.{prepared}
use Rattle.spec_machine.specs.Runs.{Letter, Fits, SharedMoves, away_of}
use Rattle.spec_machine.specs.Shared.{SharedState, stepped, mine_of, strike_wins}
use Rattle.law_history.specs.Waits.Mocked.{IsShared, NoneIsLater, IsMove, MockMovesAreMoves}

the_move : {A : Type 0} (a b : A) → Some a ≡ Some b → a ≡ b
the_move {A = A} a b e = ap (λ (found : Option A). elim found [ None ↦ a | Some c ↦ c ]) e

module _ (script : Script) (m : Mock) (alive : m.local.halted ≡ false) (none_later : NoneIsLater m) where
  abbrev next_stamp : ℕ
  next_stamp = m.local.stamp + 1

  abbrev step_of : Asks → Came → Moved
  step_of it came = moved_by m next_stamp (prepared m.local).raises came (stepped_by script (prepared m.local) came.label m.local)

  -- what came is what the domain asked for, and what the shared part gives
  by_label : (label : Label) (away : Option Letter) (t : SharedState) → Fits m.local label → SharedMoves m.shared m.local.number next_stamp label away 0 t
      → IsMove script m (moved_by m next_stamp (prepared m.local).raises (record { label = label; shared = t; world = m.world }) (stepped_by script (prepared m.local) label m.local))
  unfolding after line_of raises_of
  by_label label away t fits moves =
      record {
        noted = record { line = line_by m.local.number next_stamp (stepped_by script (prepared m.local) label m.local); label = label; away = away; from = 0 };
        line = refl;
        raises = refl;
        stamp = refl;
        local = record { runs = alive; fits = fits; later = omega arith; told = refl; next = refl };
        shared = moves;
        world = refl;
      }

  by_asks : (moved : Moved) (it : Asks) → asks m.local ≡ it → IsShared (length m.shared.rows) it
      → elim (comes m next_stamp it) [ None ↦ None | Some came ↦ Some (moved_by m next_stamp (prepared m.local).raises came (stepped_by script (prepared m.local) came.label m.local)) ] ≡ Some moved
      → IsMove script m moved
  by_asks moved Idle asked shared is = absurd (cc)
  by_asks moved Own asked shared is = subst (IsMove script m) (the_move _ moved is) (by_label Inner None m.shared asked (refl, refl))
  by_asks moved (Calls call) asked shared is =
      let step : Stepped = stepped m.shared call in
      subst (IsMove script m) (the_move _ moved is)
      (by_label (Called call step.answer (mine_of m.local.number next_stamp step.sent)) (away_of m.local.number next_stamp step.sent) _ asked
      (refl, refl, refl, (let earlier = none_later call.object in omega (arith, earlier)), shared, refl))
  by_asks moved (Strikes who) asked shared is = subst (IsMove script m) (the_move _ moved is) (by_label (Struck who (strike_wins m.shared who)) None _ asked (refl, refl, refl))
  by_asks moved (Mocks call) asked shared is = absurd shared

pub mock_moves_are_moves : MockMovesAreMoves
unfolding move asks
mock_moves_are_moves script m moved is shared none_later = by m.local.halted refl is
  where
    by : (halted : Bool) → m.local.halted ≡ halted → elim halted [ true ↦ None | false ↦ move_by script m (prepared m.local) ] ≡ Some moved → IsMove script m moved
    by true halted is = absurd (cc)
    by false alive is = by_asks script m alive none_later moved (asks_by (prepared m.local)) refl shared is
