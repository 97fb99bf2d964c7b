-- The worked domain of `Sound`, so that the premises of the laws can be met: at first, and when its switch is open.
use Rattle.std.proofs.Common.{[], refl, arith}
use Rattle.std.proofs.lemmas.List.Elements.{All-from_recursion}
use Rattle.eio_value.specs.Table.{HasText}
use Rattle.law_domain.specs.Texts.DomainLaws.{MovesTexted}
use Rattle.law_fiber.specs.Texts.Texts.{IsWrittenStatement, IsWrittenBlock, AreWritten, written_in}
use Rattle.law_domain.proofs.Kinded.Worked.{is_sound, has_its_blocks}
use Rattle.law_domain.proofs.Sound.Worked.{script, has_built_forms, at_first, opened, opens_switch, switch_opens, is_not_halted, owes_nothing, main_is_ready}
use Rattle.law_domain.specs.Well.WellStates.{IsRunnable, StandsWell, CallsWell}
use Rattle.law_domain.proofs.Well.Standing.{opens_well, keeps_well, moves_call_well, moves_tell_known}

is_runnable : IsRunnable script
unfolding IsWrittenBlock AreWritten IsWrittenStatement
is_runnable = record {
  sound = is_sound;
  forms = has_built_forms;
  blocks = has_its_blocks;
  texts = record {
    failures = All-from_recursion (HasText []) [] tt;
    bodies = All-from_recursion (IsWrittenBlock (written_in script)) script.bodies ((((tt, tt), tt), tt), tt);
  };
}

it_opens_well : StandsWell script at_first
it_opens_well = opens_well script 0 is_runnable (omega arith)

it_stays_well : StandsWell script opened
it_stays_well = keeps_well script at_first opened opens_switch is_runnable it_opens_well refl switch_opens is_not_halted

the_fork_is_well : CallsWell script opened 0 []
the_fork_is_well = moves_call_well script opened 0 [] is_runnable it_stays_well owes_nothing main_is_ready

what_its_line_shows_is_known : MovesTexted script at_first opens_switch opened
what_its_line_shows_is_known = moves_tell_known script at_first opened opens_switch is_runnable it_opens_well refl switch_opens
