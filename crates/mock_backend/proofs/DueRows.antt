-- What is due to a few inputs, computed by the definitions.
use Rattle.std.proofs.Common.{◌≡◌, ℕ, refl}
use Rattle.std.specs.Prelude.{codes}
use Prim.Native.String.{String}
use Rattle.std.specs.Fmt.{digits}
use Rattle.spec_script.specs.Captures.{captured_behind}
use Rattle.spec_script.specs.Declarations.{workers, declaration, declarations_behind}
use Rattle.spec_script.specs.Entries.{entries}
use Rattle.spec_script.specs.Expressions.{item, traced}
use Rattle.spec_script.specs.FlowSteps.{steps}
use Rattle.spec_script.specs.Forms.{form_of}
use Rattle.spec_script.specs.Limits.{limits_of}
use Rattle.spec_script.specs.Inputs.{input_script, mocked_script}
use Rattle.spec_script.specs.Opening.{opening_texts}
use Rattle.spec_script.specs.Reading.{past_gap, text_items, run_tree, trees_by, tree_at, reading}
use Rattle.spec_script.specs.Refusals.{refusal_line, input_tree}
use Rattle.spec_script.specs.Scopes.{bring, used, directory_of}
use Rattle.spec_script.specs.Scripts.{domains, script_of}
use Rattle.spec_script.specs.Statements as reads
use Rattle.spec_parts.specs.Contexts.{way_within}
use Rattle.spec_fiber.specs.Evaluation.{value_of, values_of}
use Rattle.spec_fiber.specs.Settling as settling
use Rattle.spec_fiber.specs.Silent as silent
use Rattle.trace_out.specs.Outcome.{Due}
use Rattle.trace_lines.specs.declared.status.Status.{Status}
use Rattle.trace_lines.specs.declared.status.Status.TheVariants as status
use Rattle.spec_machine.specs.Answers.{ran, mocked}
use Rattle.spec_machine.specs.Mock.{move, moves}
use Rattle.spec_machine.specs.Moves.{own_call}
use Rattle.spec_machine.specs.Preparing.{prepared}
use Rattle.spec_machine.specs.Trace.{run}
use Rattle.mock_backend.specs.Due.{answer_to, due}

-- all that it is computed by is opened: what reads, and then what runs
unfoldable mocks_in : (steps : ℕ) → (script : String) → Due
unfolding past_gap text_items run_tree trees_by tree_at reading input_tree bring used directory_of form_of item traced captured_behind reads.statements steps entries workers declaration declarations_behind limits_of domains script_of input_script mocked_script refusal_line digits opening_texts way_within value_of values_of silent.statements settling.answered own_call prepared move moves run ran mocked
mocks_in n script = due (answer_to n (codes script))

abbrev ok : (text : String) → Due
ok text = record { text = codes text; status = status.Ok }

abbrev refused : (text : String) → Due
refused text = record { text = codes text; status = status.Refused }

an_empty_main : mocks_in 1000000 "(eio 1 (main))" ≡ ok ""
unfolding mocks_in
an_empty_main = refl

a_forked_fiber_is_first : mocks_in 1000000 "(eio 1 (main (switch s (fork s (trace \"b\") (yield) (trace \"d\")) (trace \"a\" \"c\"))))" ≡ ok "+b\n+ac\n+d\n"
unfolding mocks_in
a_forked_fiber_is_first = refl

as_many_moves_as_may_be : mocks_in 2 "(eio 1 (main (trace \"a\")))" ≡ ok "+a\n"
unfolding mocks_in
as_many_moves_as_may_be = refl

one_move_more : mocks_in 1 "(eio 1 (main (trace \"a\")))" ≡ record { text = codes "+a\n!Out_of_steps\n"; status = status.OutOfSteps }
unfolding mocks_in
one_move_more = refl

abbrev ends : (text : String) → Status → Due
ends text end = record { text = codes text; status = end }

main_ends_with_an_exception : mocks_in 10 "(eio 1 (main (raise \"no\")))" ≡ ends "!Failure \"no\"\n" status.Raised
unfolding mocks_in
main_ends_with_an_exception = refl

main_waits_for_nobody : mocks_in 10 "(eio 1 (main (trace \"a\") (await-cancel)))" ≡ ends "+a\n!Deadlock_detected\n" status.Deadlock
unfolding mocks_in
main_waits_for_nobody = refl

a_handler_ends_well : mocks_in 10 "(eio 1 (main (try ((raise \"no\")) why ((trace why)))))" ≡ ok "+Failure \"no\"\n"
unfolding mocks_in
a_handler_ends_well = refl

-- the first of several refusals
no_tree : mocks_in 10 "(eio 1 (main (sleep 1)) (domain)" ≡ refused "!Refused Unclosed at 0\n"
unfolding mocks_in
no_tree = refl

no_script : mocks_in 10 "(eio 1 (main (sleep 1) (foo)) (domain))" ≡ refused "!Refused Shape at 23\n"
unfolding mocks_in
no_script = refl

a_further_body : mocks_in 10 "(eio 1 (main (sleep 1)) (domain))" ≡ refused "!Refused DomainOnly at 24\n"
unfolding mocks_in
a_further_body = refl

an_unbuilt_form : mocks_in 10 "(eio 1 (main (trace \"a\") (sleep 1)))" ≡ refused "!Refused Unbuilt at 25\n"
unfolding mocks_in
an_unbuilt_form = refl
