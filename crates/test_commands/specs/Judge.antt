-- Written histories with their verdicts, in the words in which rows ask for them.
use Rattle.std.specs.Prelude.{ℕ, List, Option, Some, None, Ok, Err}
use Rattle.std.specs.Fmt.{digits}
use Rattle.spec_machine.specs.GroupMoves.{branched}
use Rattle.spec_machine.specs.Moves.{own_call}
use Rattle.spec_machine.specs.Preparing.{prepared}
use Rattle.spec_machine.specs.Steps.{waiting_from}
use Rattle.spec_machine.specs.Verdicts.{Verdict, Legal, NotGoodAt, played, judged, verdict}
use Rattle.spec_parts.specs.Contexts.{way_within}
use Rattle.spec_script.specs.Inputs.{shared_script}
use Rattle.spec_script.specs.Features.{all_built}
use Rattle.spec_script.specs.Opening.{opening_texts}
use Rattle.spec_fiber.specs.Evaluation.{value_of, values_of}
use Rattle.spec_fiber.specs.Numbered.{blocks_of_statement, block_numbered}
use Rattle.spec_fiber.specs.Settling.{answered}
use Rattle.spec_fiber.specs.Silent.{statement}
use Rattle.test_commands.specs.Read.{script}

-- the verdict on a text as a history of this script, of at most n lines a domain; none where `domains` doesn't run the script
unfoldable pub history : (n : ℕ) → (script text : List ℕ) → Option Verdict
unfolding script shared_script opening_texts value_of values_of statement answered blocks_of_statement block_numbered way_within waiting_from branched prepared own_call played judged verdict digits
history n bytes text = elim (shared_script all_built bytes) [ Ok it ↦ Some (verdict it n text) | Err refusal ↦ None ]

abbrev pub legal : Option Verdict
legal = Some Legal

abbrev pub not_good_at : ℕ → Option Verdict
not_good_at line = Some (NotGoodAt line)
