-- A script that fails and catches what it failed with, so that the premises of the laws can be met; and what the definitions refuse.
use Rattle.std.proofs.Common.{◌≡◌, ◌≤◌, arith, false, All, Contains, List, length, [], ◌∷◌, map, codes, pos, None, Ok, refl}
use Rattle.std.proofs.lemmas.List.Elements.{All-append, All-contains, All-from_recursion, Contains-get_or}
use Rattle.eio_value.specs.Exceptions.{bound_text}
use Rattle.eio_value.specs.Table.{HasText, text_at, text_id, intern}
use Rattle.eio_value.specs.declared.plain.PathFault.TheVariants.{NotFound}
use Rattle.eio_value.specs.declared.plain.Plain.{Plain}
use Rattle.eio_value.specs.declared.plain.Plain.TheVariants as plain
use Rattle.eio_value.specs.declared.raised.Outcome.TheVariants as outcome
use Rattle.eio_value.specs.declared.raised.Raised.{Raised}
use Rattle.eio_value.specs.declared.raised.Raised.TheVariants as raised
use Rattle.eio_value.specs.declared.value.Value.TheVariants as value
use Rattle.spec_script.specs.Captures.{captured_behind}
use Rattle.spec_script.specs.Declarations.{workers, declaration, declarations_behind}
use Rattle.spec_script.specs.declared.Feature.TheVariants as feature
use Rattle.spec_script.specs.Entries.{entries}
use Rattle.spec_script.specs.Expressions.{item, traced}
use Rattle.spec_script.specs.FlowSteps.{steps}
use Rattle.spec_script.specs.Forms.{form_of}
use Rattle.spec_script.specs.Opening.{textless, exceptions_of, opening_texts}
use Rattle.spec_script.specs.Limits.{limits_of}
use Rattle.spec_script.specs.Scopes.{bring, used, directory_of}
use Rattle.spec_script.specs.Scripts.{Script, domains, script_of}
use Rattle.spec_script.specs.Statements as reading
use Rattle.spec_script.specs.Syntax.{Raise, Try, Trace, Variable, NoExpressions, AndExpression, Block, Begins, Done, Then}
use Rattle.spec_script.specs.Trees as trees
use Rattle.spec_script.specs.Trees.{Tree}
use Rattle.spec_fiber.specs.Asks as ask
use Rattle.spec_fiber.specs.Evaluation.{value_of, values_of}
use Rattle.spec_fiber.specs.Settling.{answered, thrown}
use Rattle.spec_fiber.specs.Silent.{statement, block, statements}
use Rattle.spec_fiber.specs.Work as work
use Rattle.spec_fiber.specs.Work.{Work, Carry}
use Rattle.trace_lines.specs.declared.line.Did.TheVariants as did
use Rattle.trace_lines.specs.declared.line.Said2.TheVariants as said
use Rattle.spec_machine.specs.Domain.{DomainState}
use Rattle.spec_machine.specs.Histories.{domain_at_first}
use Rattle.spec_machine.specs.Labels.{Inner}
use Rattle.spec_machine.specs.Moves.{asks, own_call, after, line_of}
use Rattle.spec_machine.specs.Preparing.{prepared}
use Rattle.spec_machine.specs.Runs.{Noted, DomainMoves}
use Rattle.law_fiber.specs.Texts.Texts.{IsWrittenExpression, AreWrittenExpressions, IsWrittenStatement, IsWrittenBlock, AreWritten, written_in, known_in, IsHeldRaised, IsTextedWork}
use Rattle.law_domain.specs.Texts.DomainLaws.{MovesTexted, PreparesTexted}
use Rattle.law_fiber.specs.Texts.Laws.{HasItsTexts, StaysKnown, StaysTexted}
use Rattle.law_domain.specs.Texts.Domains.{IsTexted}
use Rattle.law_fiber.proofs.Texts.Bound.{bound_texts_stand}
use Rattle.law_fiber.proofs.Texts.Passing.{known_stay, texts_stay}
use Rattle.law_domain.proofs.Texts.Preparing.{prepares_keep_texted}
use Rattle.law_domain.proofs.Texts.Moving.{keeps_texted, known_have_texts, openings_are_texted}
use Rattle.law_fiber.proofs.Texts.ReadScripts.{read_scripts_have_texts}

-- (eio 1 (main (try ((raise "x")) e ((trace e)))))
abbrev tried : Block
tried = Begins 1 (Then (Raise (text_id 0)) Done)

abbrev handler : Block
handler = Begins 3 (Then (Trace (AndExpression (Variable 0) NoExpressions)) Done)

abbrev main : Block
main = Begins 0 (Then (Try tried handler) Done)

abbrev script : Script
script = record {
  version = 1;
  names = [];
  declarations = [];
  bodies = main ∷ [];
  texts = codes "x" ∷ [];
  failures = text_id 0 ∷ [];
  formed = [];
  first_domain = None;
}

main_written : IsWrittenBlock (written_in script) main
unfolding IsWrittenBlock AreWritten IsWrittenStatement IsWrittenExpression AreWrittenExpressions
main_written = ((((0, omega arith, refl), tt), ((tt, tt), tt)), tt)

script_texts : HasItsTexts script
script_texts = record {
  failures = All-from_recursion (HasText script.texts) script.failures (omega arith, tt);
  bodies = All-from_recursion (IsWrittenBlock (written_in script)) script.bodies (main_written, tt);
}

abbrev at_first : DomainState
at_first = domain_at_first script 0

opens : IsTexted script at_first
opens = (openings_are_texted script script_texts).first 0

-- ## Its table

-- the texts of the failure alone, as a reason, and as the first of several stand behind its own
bound : (intern (opening_texts script) (codes "Failure \"x\"")).id ≡ text_id 1
unfolding opening_texts
bound = refl

cancelled : text_at (opening_texts script) (text_id 2) ≡ codes "Cancelled: Failure \"x\""
unfolding opening_texts
cancelled = refl

several : text_at (opening_texts script) (text_id 3) ≡ codes "Multiple [Failure \"x\"; ...]"
unfolding opening_texts
several = refl

-- ## Its next call

abbrev carry : Carry
carry = record { variables = []; texts = opening_texts script; serial = 0; raises = [] }

abbrev rest : List Work
rest = work.Run (Then (Try tried handler) Done) ∷ []

-- the handler traces the bound text
traces : (answered rest value.Unit carry).call ≡ ask.Trace (value.Text (text_id 1) ∷ [])
unfolding answered thrown statement block statements value_of values_of opening_texts
traces = refl

rest_texted : IsTextedWork (written_in script) (known_in script) rest
unfolding IsWrittenBlock
rest_texted = (main_written, tt)

next_known : StaysKnown script (answered rest value.Unit carry)
next_known = known_stay script (outcome.Ok value.Unit) rest carry script_texts.failures refl tt rest_texted tt

-- so it is in any table that is long enough
is_long : length script.texts ≤ length (opening_texts script)
unfolding opening_texts
is_long = omega arith

next_texted : StaysTexted script (opening_texts script) (answered rest value.Unit carry)
next_texted = texts_stay script (outcome.Ok value.Unit) rest carry script_texts.failures is_long tt rest_texted tt

-- ## Its domain

-- the failure, as a reason
failure_listed : Contains (exceptions_of script) (plain.Failure (text_id 0))
failure_listed = Contains-get_or (exceptions_of script) 0 (plain.Failure (text_id 0)) (omega arith)

abbrev failed : Raised
failed = raised.One (record { serial = 0; what = plain.Failure (text_id 0) })

bound_stands : (intern (opening_texts script) (bound_text (opening_texts script) failed)).texts ≡ opening_texts script
bound_stands = bound_texts_stand script failed script_texts.failures failure_listed

its_text_stands : HasText (opening_texts script) (text_id 0)
its_text_stands = known_have_texts.failures script (text_id 0) script_texts.failures (Contains-get_or script.failures 0 (text_id 0) (omega arith))

prepares : PreparesTexted script at_first
prepares = prepares_keep_texted script at_first script_texts.failures opens

abbrev traces_bound : Noted
traces_bound = record {
  line = record { stamp = 1; domain = 0; fiber = 0; did = did.Trace (value.Text (text_id 1) ∷ []); reply = said.Done value.Unit };
  label = Inner;
  away = None;
  from = 0;
}

it_moves : DomainMoves script at_first traces_bound (after script at_first 1 Inner)
unfolding asks line_of prepared own_call answered thrown statement block statements value_of values_of opening_texts
it_moves = record { runs = refl; fits = refl; later = omega arith; told = refl; next = refl }

stays : MovesTexted script at_first traces_bound (after script at_first 1 Inner)
stays = keeps_texted script at_first (after script at_first 1 Inner) traces_bound script_texts opens refl it_moves

-- ## A script that is read

-- (eio 1 (main (raise "x")))
abbrev raising : Tree
raising =
    trees.Branch 0 (trees.And (trees.Word 1 (codes "eio")) (trees.And (trees.Number 5 (pos 1))
    (trees.And (trees.Branch 7 (trees.And (trees.Word 8 (codes "main")) (trees.And (trees.Branch 13 (trees.And (trees.Word 14 (codes "raise"))
    (trees.And (trees.Text 20 (codes "x")) trees.Nil))) trees.Nil))) trees.Nil)))

abbrev raises : Script
raises = record script {
  bodies = Begins 0 (Then (Raise (text_id 0)) Done) ∷ [];
  formed = record { at = 13; feature = feature.Exceptions; mocked = false } ∷ [];
}

it_is_read : script_of raising ≡ Ok raises
unfolding bring used directory_of form_of item traced captured_behind reading.statements steps entries workers declaration declarations_behind limits_of domains script_of
it_is_read = refl

it_has_its_texts : HasItsTexts raises
it_has_its_texts = read_scripts_have_texts raising raises it_is_read

-- ## What is refused

-- neither the fault of a path nor a failure with another text is listed
abbrev IsListed : Plain → Type 0
IsListed (plain.Failure id) = id.0 ≡ 0
IsListed (plain.Path fault id) = ⊥
IsListed other = Unit {0}

all_listed : All IsListed (exceptions_of script)
all_listed =
    All-append IsListed (map plain.Failure script.failures) textless (All-from_recursion IsListed (map plain.Failure script.failures) (refl, tt))
    (All-from_recursion IsListed textless (tt, (tt, (tt, (tt, (tt, (tt, (tt, (tt, (tt, (tt, (tt, (tt, (tt, tt))))))))))))))

abbrev not_found : Raised
not_found = raised.One (record { serial = 0; what = plain.Path NotFound (text_id 0) })

paths_are_unknown : IsHeldRaised (known_in script) not_found → ⊥
paths_are_unknown known = All-contains IsListed (exceptions_of script) (plain.Path NotFound (text_id 0)) all_listed known

unlisted_is_unknown : Contains (exceptions_of script) (plain.Failure (text_id 1)) → ⊥
unlisted_is_unknown known =
    let same : 1 ≡ 0 = All-contains IsListed (exceptions_of script) (plain.Failure (text_id 1)) all_listed known in
    omega (arith, same)

-- such an exception puts its text behind the table
abbrev short : Carry
short = record carry { texts = codes "x" ∷ [] }

puts_behind : (thrown (work.Try handler 0 ∷ []) not_found short).carry.texts ≡ codes "x" ∷ codes "Not_found \"x\"" ∷ []
unfolding answered thrown statement block statements value_of values_of
puts_behind = refl
