-- What a command writes and with which status it ends, in the words in which rows ask for it. All of it is computed by the definitions of the written machine.
use Rattle.std.specs.Prelude.{ℕ, List, [], ◌∷◌, codes, decimal, Option, Some, None}
use Prim.Native.String.{String}
use Rattle.std.specs.Fmt.{digits}
use Rattle.spec_script.specs.Features.{all_built}
use Rattle.spec_script.specs.Generator.{generated_forks, generated}
use Rattle.spec_script.specs.Words.{meaning}
use Rattle.spec_parts.specs.BytesToCome.{bytes_to_come}
use Rattle.spec_parts.specs.Contexts.{way_within}
use Rattle.spec_parts.specs.Directories.{placed}
use Rattle.spec_parts.specs.Walk.{along, walk}
use Rattle.spec_fiber.specs.Evaluation.{value_of, values_of}
use Rattle.spec_fiber.specs.Numbered.{block_numbered, blocks_from}
use Rattle.spec_fiber.specs.Settling as settling
use Rattle.spec_fiber.specs.Silent as silent
use Rattle.trace_lines.specs.declared.status.Status.TheVariants as status
use Rattle.trace_lines.specs.Exits.{exit_code}
use Rattle.spec_machine.specs.Answers.{Answer, ended, ran, mocked, loaded, answered}
use Rattle.spec_machine.specs.GroupMoves.{branched}
use Rattle.spec_machine.specs.Mock.{move, moves}
use Rattle.spec_machine.specs.Moves.{own_call}
use Rattle.spec_machine.specs.Preparing.{prepared}
use Rattle.spec_machine.specs.Steps.{waiting_from}
use Rattle.spec_machine.specs.Trace.{run}
use Rattle.test_commands.specs.Read.{mock_refusal, checked, printed, opening}

-- what is written, and the exit status
pub record Shown : Type 0 where
  pub text : List ℕ
  pub status : ℕ

-- words without a meaning write nothing
abbrev pub told_by : Option Answer → Shown
told_by None = record { text = []; status = exit_code status.Usage }
told_by (Some it) = record { text = it.text; status = exit_code (ended it.ending) }

-- ## What rows ask

-- a command of these words on this input. All that it is computed by is opened: by the words of Read what reads, and then what runs
unfoldable pub answer : (words : List (List ℕ)) → (bytes : List ℕ) → Shown
unfolding mock_refusal checked printed opening generated_forks generated meaning bytes_to_come way_within placed along walk value_of values_of block_numbered blocks_from silent.statements settling.answered branched own_call prepared waiting_from move moves run ran mocked loaded answered
answer words bytes = told_by (answered all_built words bytes)

-- `mock` on a script
unfoldable pub mocks : (script : String) → Shown
unfolding answer
mocks script = answer (codes "mock" ∷ []) (codes script)

-- `mock --steps N` on a script
unfoldable pub mocks_in : (steps : ℕ) → (script : String) → Shown
unfolding answer digits
mocks_in n script = answer (codes "mock" ∷ codes "--steps" ∷ decimal n ∷ []) (codes script)

-- `load N`
unfoldable pub loads : (forks : ℕ) → Shown
unfolding answer digits
loads n = answer (codes "load" ∷ decimal n ∷ []) []

-- ## What they are answered

-- main has ended with a value
abbrev pub ok : (text : String) → Shown
ok text = record { text = codes text; status = 0 }

-- main has ended with an exception
abbrev pub raised : (text : String) → Shown
raised text = record { text = codes text; status = 1 }

abbrev pub refused : (text : String) → Shown
refused text = record { text = codes text; status = 2 }

-- nothing can move, and main hasn't ended
abbrev pub deadlock : (text : String) → Shown
deadlock text = record { text = codes text; status = 3 }

abbrev pub out_of_steps : (text : String) → Shown
out_of_steps text = record { text = codes text; status = 4 }

-- the words have no meaning
abbrev pub usage : Shown
usage = record { text = []; status = 8 }

abbrev pub limit : (text : String) → Shown
limit text = record { text = codes text; status = 9 }
