-- Main of a script as a fiber of its own. The table of texts begins as the script's own, and raises are numbered from 0.
use Rattle.std.specs.Prelude.{ℕ, List, [], ◌∷◌, Option, Some, None, Ok, Err}
use Rattle.spec_script.specs.Limits.{limits_of}
use Rattle.spec_script.specs.Reading.{past_gap, text_items, run_tree, trees_by, tree_at, reading}
use Rattle.spec_script.specs.Syntax.{Block, Begins, Done}
use Rattle.spec_script.specs.Scopes.{bring, used, directory_of}
use Rattle.spec_script.specs.Forms.{form_of}
use Rattle.spec_script.specs.Expressions.{item, traced}
use Rattle.spec_script.specs.Captures.{captured_behind}
use Rattle.spec_script.specs.Statements.{statements as read_statements}
use Rattle.spec_script.specs.FlowSteps.{steps}
use Rattle.spec_script.specs.Entries.{entries}
use Rattle.spec_script.specs.Declarations.{workers, declaration, declarations_behind}
use Rattle.spec_script.specs.Scripts.{Script, domains, script_of}
use Rattle.spec_fiber.specs.Asks.{Ask}
use Rattle.spec_fiber.specs.Evaluation.{value_of, values_of}
use Rattle.spec_fiber.specs.Work.{Carry}
use Rattle.spec_fiber.specs.Silent.{statement}
use Rattle.spec_fiber.specs.Settling.{Settled, answered}
use Rattle.spec_fiber.specs.Replies.{begun}
use Rattle.test_spec_fiber.specs.Replied.{Reply, settled, calls_from, carried_from}

unfoldable pub script : List ℕ → Option Script
unfolding past_gap text_items run_tree trees_by tree_at reading bring used directory_of form_of item traced captured_behind read_statements steps entries workers declaration declarations_behind limits_of domains script_of
script bytes = elim (reading bytes) [ Err e ↦ None | Ok tree ↦ elim (script_of tree) [ Err e ↦ None | Ok it ↦ Some it ] ]

abbrev pub main_in : List Block → Block
main_in [] = Begins 0 Done
main_in (main ∷ others) = main

abbrev pub opened : Script → Settled
opened it = settled (begun (main_in it.bodies) []) (record { variables = []; texts = it.texts; serial = 0; raises = [] })

-- the calls of main under these replies; none where the bytes are no script
unfoldable pub calls : List ℕ → List Reply → List Ask
unfolding script value_of values_of statement answered
calls bytes replies = elim (script bytes) [ None ↦ [] | Some it ↦ calls_from replies (opened it) ]

-- what main carries at the last of them
unfoldable pub carried : List ℕ → List Reply → Option Carry
unfolding script value_of values_of statement answered
carried bytes replies = elim (script bytes) [ None ↦ None | Some it ↦ Some (carried_from replies (opened it)) ]
