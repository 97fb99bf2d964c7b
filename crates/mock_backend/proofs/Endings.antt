-- How a run ends, by what is asked of its domain.
use Rattle.std.proofs.Common.{◌≡◌, ℕ, List, [], Bool, true, false, Option, Some, None, refl, ap, sym, ◌∙◌}
use Rattle.std.specs.Prelude.{is_some}
use Rattle.std.proofs.lemmas.Bool.{false≢true}
use Rattle.eio_value.specs.declared.raised.Outcome.{Outcome}
use Rattle.spec_script.specs.Scripts.{Script}
use Rattle.spec_machine.specs.declared.Ending.{Ending}
use Rattle.spec_machine.specs.declared.Ending.TheVariants as ending
use Rattle.spec_machine.specs.Mock.{Mock, Moved, move, can_move}
use Rattle.spec_machine.specs.Trace.{body_end, ending_by, ending_in}
use Rattle.domain_core.specs.Keeping.{KeptDomain}
use Rattle.domain_core.specs.Turns.{StandsFor}
use Rattle.law_run.proofs.Moves.{moves_where_something_is_left}

module _ (script : Script) (m : Mock) where
  by_move : Option Moved → Ending
  by_move first = elim first [ Some moved ↦ ending.OutOfSteps | None ↦ ending_by (body_end m.local) ]

  by_limit : Bool → Ending
  by_limit halted = elim halted [ true ↦ ending.Limit | false ↦ by_move (move script m) ]

  ending_is : ending_in script m ≡ by_limit m.local.halted
  unfolding by_limit by_move
  ending_is = refl

  pub limit_is : m.local.halted ≡ true → ending.Limit ≡ ending_in script m
  unfolding by_limit
  limit_is halted = sym (ending_is ∙ ap by_limit halted)

  going_is : m.local.halted ≡ false → ending_in script m ≡ by_move (move script m)
  unfolding by_limit
  going_is going = ending_is ∙ ap by_limit going

  some_is : (first : Option Moved) → is_some first ≡ true → by_move first ≡ ending.OutOfSteps
  unfolding by_move
  some_is (Some moved) is = refl
  some_is None is = absurd (false≢true is)

  none_is : (first : Option Moved) → is_some first ≡ false → by_move first ≡ ending_by (body_end m.local)
  unfolding by_move
  none_is None is = refl
  none_is (Some moved) is = absurd (false≢true (sym is))

  pub out_is : m.local.halted ≡ false → can_move m.local ≡ true → ending.OutOfSteps ≡ ending_in script m
  out_is going more = sym (going_is going ∙ some_is (move script m) (moves_where_something_is_left script m ∙ more))

  pub still_is : (came : Option Outcome) → m.local.halted ≡ false → can_move m.local ≡ false → body_end m.local ≡ came → ending_by came ≡ ending_in script m
  still_is came going still body = sym (going_is going ∙ (none_is (move script m) (moves_where_something_is_left script m ∙ still) ∙ ap ending_by body))

-- while no limit was met, no timer stands
pub sleeps : (script : Script) (texts : List (List ℕ)) (kept : KeptDomain) (m : Mock) → StandsFor script texts kept m.local → m.local.halted ≡ false → m.local.timers.standing ≡ []
sleeps script texts kept m stands going = (stands.well going).sound.sleeps
