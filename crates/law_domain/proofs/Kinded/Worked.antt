-- The worked domain of `Sound`, so that the premises of the laws can be met: what its variables hold at first, and when its switch is open.
use Rattle.std.proofs.Common.{◌≡◌, [], ◌∷◌, All, Contains, length, flat_map, refl, arith}
use Rattle.std.proofs.lemmas.List.Elements.{All-from_recursion, Contains-get_or}
use Rattle.spec_machine.specs.Domain.{fiber_at, off_for}
use Rattle.spec_machine.specs.Preparing.{next_call, next_of, carry_of}
use Rattle.spec_script.specs.Limits.{limits_of}
use Rattle.law_script.specs.Scripts.Soundness.{IsSound, IsSoundDeclaration, in_body, IsSoundBlock, AreSoundStatements, IsSoundStatement}
use Rattle.spec_fiber.specs.Numbered.{block_numbered, blocks_of_statement, blocks_from, blocks_of_statements}
use Rattle.law_fiber.specs.Kinded.Kinds.{IsOfScript, HasKindsOfSettled}
use Rattle.law_fiber.proofs.Kinded.Rows.{inner_its, inner_numbered, forked_its, forked_numbered}
use Rattle.law_domain.proofs.Sound.Worked.{main, inner, forked, script, has_built_forms, at_first, opened, opens_switch, switch_opens, main_is_ready, main_calls, sound_at_first, sound_when_opened}
use Rattle.law_domain.specs.Kinded.KindedStates.{IsKinded, made_facts}
use Rattle.law_domain.specs.Kinded.Laws.{WereMade}
use Rattle.law_domain.proofs.Kinded.Keeping.{calls_kinded, keeps_kinded}
use Rattle.law_domain.proofs.Kinded.Naming.{named_were_made}
use Rattle.law_domain.proofs.Kinded.Opening.{opens_kinded}

-- ## The script

pub is_sound : IsSound script
unfolding limits_of IsSoundBlock AreSoundStatements IsSoundStatement
is_sound = record {
  version = refl;
  names = refl;
  few_declarations = omega arith;
  declarations = All-from_recursion (IsSoundDeclaration 1) [] tt;
  has_main = omega arith;
  few_bodies = omega arith;
  main_alone = λ none. refl;
  bodies = All-from_recursion (IsSoundBlock (in_body [])) script.bodies ((((tt, refl, (tt, tt)), tt), tt), tt);
}

main_numbered : block_numbered script 0 ≡ main
unfolding block_numbered blocks_from blocks_of_statements blocks_of_statement
main_numbered = refl

main_its : Contains (flat_map blocks_from script.bodies) main
unfolding blocks_from blocks_of_statements blocks_of_statement
main_its = Contains-get_or (main ∷ inner ∷ forked ∷ []) 0 main (omega arith)

pub has_its_blocks : All (IsOfScript script) (flat_map blocks_from script.bodies)
unfolding blocks_from blocks_of_statements blocks_of_statement
has_its_blocks = All-from_recursion (IsOfScript script) (main ∷ inner ∷ forked ∷ []) (
  record { its = main_its; found = main_numbered },
  (record { its = inner_its; found = inner_numbered }, (record { its = forked_its; found = forked_numbered }, tt)),
)

-- ## Its domain

kinded_at_first : IsKinded script at_first
kinded_at_first = opens_kinded script 0 is_sound has_its_blocks (omega arith)

kinded_when_opened : IsKinded script opened
kinded_when_opened = keeps_kinded script at_first opened opens_switch has_built_forms sound_at_first kinded_at_first refl switch_opens

-- its next call is the fork, on the switch that was made
fork_has_kinds : HasKindsOfSettled (made_facts script (length opened.switches) (length opened.contexts))
    (next_call (next_of (fiber_at opened.fibers 0).standing) (off_for opened 0) (fiber_at opened.fibers 0) (carry_of (fiber_at opened.fibers 0) opened))
fork_has_kinds = calls_kinded script opened 0 [] sound_when_opened kinded_when_opened main_is_ready

its_switch_was_made : WereMade opened main_calls.settled.call
its_switch_was_made = named_were_made script opened 0 [] kinded_when_opened main_calls
