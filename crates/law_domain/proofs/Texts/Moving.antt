-- What stands in a domain is known when it opens, and again after each move for which nothing comes from outside.
use Rattle.std.proofs.Common.{ℕ, false, slice_get, Option, Some, IfSome, List, [], ◌∷◌, None, refl, sym, subst, ◌∙◌}
use Rattle.std.specs.List.{AllByRecursion as Each}
use Rattle.std.proofs.lemmas.List.Elements.{All-contains, All-from_recursion, recursion_from_All}
use Rattle.eio_value.specs.Exceptions.{HasTextsOfPlain}
use Rattle.eio_value.specs.Table.{HasText}
use Rattle.eio_value.specs.Values.{HasTextsOf}
use Rattle.eio_value.specs.declared.plain.Member.{Member}
use Rattle.eio_value.specs.declared.raised.Raised.TheVariants as raised
use Rattle.eio_value.specs.declared.value.Value.TheVariants as value
use Rattle.spec_parts.specs.Contexts.{new_context, root}
use Rattle.spec_script.specs.Opening.{opening_texts}
use Rattle.spec_script.specs.Scripts.{Script}
use Rattle.spec_script.specs.Syntax.{Block}
use Rattle.spec_fiber.specs.Asks as ask
use Rattle.spec_fiber.specs.Asks.{Ask}
use Rattle.spec_fiber.specs.Replies.{begun}
use Rattle.trace_lines.specs.declared.line.Did.TheVariants as did
use Rattle.trace_lines.specs.declared.line.Line.{Line}
use Rattle.spec_machine.specs.ClockMoves.{tick}
use Rattle.spec_machine.specs.DutyMoves.{own_duty}
use Rattle.spec_machine.specs.Domain.{OfBody, ForCancel, DomainState, nothing_made}
use Rattle.spec_machine.specs.Labels.{Label, Inner}
use Rattle.spec_machine.specs.Histories.{domain_at_first}
use Rattle.spec_machine.specs.Mock.{opening_domain, opening, first_body}
use Rattle.spec_machine.specs.Moves.{own_call, unmoved, own_move, after, line_of}
use Rattle.spec_machine.specs.Preparing as doing
use Rattle.spec_machine.specs.Preparing.{Doing, Prepared, prepared}
use Rattle.law_fiber.specs.Texts.Texts.{IsWrittenBlock, AreWritten, IsHeldValue, IsTextedCall, written_in, known_in}
use Rattle.law_fiber.specs.Texts.Laws.{HasItsTexts}
use Rattle.law_domain.specs.Texts.Domains.{IsTexted, IsTextedDid, IsTextedReply, IsTextedDoing}
use Rattle.law_domain.specs.Texts.DomainLaws.{KnownValuesHaveTexts, KnownRaisesHaveTexts, FailuresHaveTexts, TextedLinesAreTraced, KnownHaveTexts, OpeningsAreTexted, KeepsTexted}
use Rattle.law_fiber.proofs.Texts.Bound.{opening_begins, known_has_text}
use Rattle.law_fiber.proofs.Texts.Lists.{each_get, each_weaker}
use Rattle.law_fiber.proofs.Texts.Tables.{still_has}
use Rattle.law_domain.proofs.Texts.Parts.{never_texted, make_texted}
use Rattle.law_domain.proofs.Texts.Positions.{begun_texted}
use Rattle.law_domain.proofs.Texts.Preparing.{IsTextedPrepared, prepared_texted}
use Rattle.law_domain.proofs.Texts.Steps.{IsTextedStep, made_texted, does_texted, yields_texted, waits_unless_off_texted, halts_texted}
use Rattle.law_domain.proofs.Texts.ContextCalls.{subs_texted, protects_texted, cancel_call_texted, check_texted, leave_texted, sleep_texted, now_texted, tick_texted, duty_texted}
use Rattle.law_domain.proofs.Texts.SwitchCalls.{switch_texted, fork_texted, release_texted, fail_texted, close_call_texted}
use Rattle.law_domain.proofs.Texts.GroupCalls.{branches_texted, joins_texted, end_call_texted}

-- ## What is known stands in the table

values_have : KnownValuesHaveTexts
values_have script (value.Text id) is = is
values_have script other is = tt

raises_have : KnownRaisesHaveTexts
raises_have script (raised.One member) has is = known_has_text script has member.what is
raises_have script (raised.Cancelled member) has is = known_has_text script has member.what is
raises_have script (raised.Many several) has is =
    let held = λ (member : Member). (known_in script).exception member.what in
    let there = λ (member : Member). HasTextsOfPlain (opening_texts script) member.what in
    All-from_recursion there several.members (each_weaker held there (λ member. known_has_text script has member.what) several.members is)

failures_have : FailuresHaveTexts
failures_have script text has listed =
    still_has script.texts (opening_texts script) (opening_begins script) text (All-contains (HasText script.texts) script.failures text has listed)

lines_traced : TextedLinesAreTraced
lines_traced script (did.Trace values) is =
    All-from_recursion (HasTextsOf (opening_texts script)) values
    (each_weaker (IsHeldValue (known_in script)) (HasTextsOf (opening_texts script)) (values_have script) values is)
lines_traced script (did.Mock it) is = is
lines_traced script other is = tt

pub known_have_texts : KnownHaveTexts
known_have_texts = record { values = values_have; raises = raises_have; failures = failures_have; lines = lines_traced }

-- ## The opening

nothing_texted : (script : Script) (number : ℕ) → IsTexted script (nothing_made number (opening_texts script))
nothing_texted script number = record {
  table = refl;
  each_fiber = λ g. never_texted script;
  each_switch = λ n. (tt, tt, tt);
  each_group = λ n. (tt, tt);
  each_context = λ c. tt;
}

body_texted : (script : Script) (number : ℕ) (body : Block) → IsWrittenBlock (written_in script) body
    → IsTexted script (opening_domain number (opening_texts script) body)
body_texted script number body is =
    let l : DomainState = record (nothing_made number (opening_texts script)) { contexts = (root []).contexts } in
    let l_is : IsTexted script l = make_texted script (nothing_texted script number) (new_context None false) tt in
    made_texted script l l_is 0 OfBody (begun body []) (begun_texted script body [] is tt)

first_written : (script : Script) (bodies : List Block) → Each (IsWrittenBlock (written_in script)) bodies
    → IsWrittenBlock (written_in script) (first_body bodies)
unfolding IsWrittenBlock AreWritten
first_written script [] are = tt
first_written script (main ∷ others) are = are.0

pub openings_are_texted : OpeningsAreTexted
openings_are_texted script has = record { with_body = body_texted script; first = first_texted; mocked = mocked_texted }
  where
    bodies : Each (IsWrittenBlock (written_in script)) script.bodies
    bodies = recursion_from_All (IsWrittenBlock (written_in script)) script.bodies has.bodies

    first_texted : (d : ℕ) → IsTexted script (domain_at_first script d)
    first_texted d = by (slice_get script.bodies d) (each_get (IsWrittenBlock (written_in script)) script.bodies d bodies)
      where
        by : (found : Option Block) → IfSome found (IsWrittenBlock (written_in script)) → IsTexted script (elim found [
          | Some body ↦ opening_domain d (opening_texts script) body
          | None ↦ nothing_made d (opening_texts script)
        ])
        by (Some body) is = body_texted script d body is
        by None is = nothing_texted script d

    mocked_texted : IsTexted script (opening script).local
    mocked_texted = body_texted script 0 (first_body script.bodies) (first_written script script.bodies bodies)

-- ## Moves

module _ (script : Script) (has : HasItsTexts script) where
  own_call_texted : (call : Ask) (g : ℕ) (l : DomainState) → IsTexted script l → IsTextedCall (written_in script) (known_in script) call
      → IsTextedStep script (own_call script call g l)
  unfolding own_call
  own_call_texted (ask.Trace values) g l is asked = does_texted script l is (did.Trace values) g asked
  own_call_texted ask.Yield g l is asked = yields_texted script l is did.Yield g tt
  own_call_texted ask.Check g l is asked = check_texted script l is g
  own_call_texted ask.AwaitCancel g l is asked = waits_unless_off_texted script l is did.AwaitCancel ForCancel g tt tt
  own_call_texted ask.Turn g l is asked = does_texted script l is did.Turn g tt
  own_call_texted (ask.Sub block) g l is asked = subs_texted script l is g (ask.Sub block) asked
  own_call_texted (ask.Protect block) g l is asked = protects_texted script l is g (ask.Protect block) asked
  own_call_texted (ask.Cancel context text) g l is asked = cancel_call_texted script l is g context text asked
  own_call_texted (ask.Switch block) g l is asked = switch_texted script l is g (ask.Switch block) asked
  own_call_texted (ask.Fork forking n block) g l is asked = fork_texted script l is forking n block g asked
  own_call_texted (ask.Fail n text) g l is asked = fail_texted script l is n text g asked
  own_call_texted (ask.OnRelease n block) g l is asked = release_texted script l is (ask.OnRelease n block) n block g asked
  own_call_texted (ask.Branches kind blocks) g l is asked = branches_texted script kind blocks g l is asked
  own_call_texted (ask.Sleep time) g l is asked = sleep_texted script l is g time
  own_call_texted ask.Now g l is asked = now_texted script l is g
  own_call_texted (ask.Leave context late it) g l is asked = leave_texted script l is g context late it asked
  own_call_texted (ask.Close n came kept) g l is asked = close_call_texted script has l is n came kept g asked.0 asked.1
  own_call_texted (ask.Join n own) g l is asked = joins_texted script n own g l is asked
  own_call_texted (ask.End it) g l is asked = end_call_texted script it g l is asked
  own_call_texted call g l is asked = halts_texted script l is g

  unmoved_texted : (l : DomainState) → IsTexted script l → IsTextedStep script (unmoved l)
  unmoved_texted l is = record { state = is; call = tt; answer = tt }

  own_move_texted : (it : Prepared) → IsTextedPrepared script it → IsTextedStep script (own_move script it)
  own_move_texted it is = by it.doing is.call
    where
      by : (next : Doing) → IsTextedDoing script next → IsTextedStep script (elim next [
        | doing.Rests ↦ unmoved it.state
        | doing.Owes duty ↦ own_duty duty it.state
        | doing.Calls g call ↦ own_call script call g it.state
        | doing.Carries g writer ↦ unmoved it.state
        | doing.Ticks ↦ tick it.state
      ])
      by doing.Rests asked = unmoved_texted it.state is.state
      by (doing.Owes duty) asked = duty_texted script duty it.state is.state
      by (doing.Calls g call) asked = own_call_texted call g it.state is.state asked
      by (doing.Carries g writer) asked = unmoved_texted it.state is.state
      by doing.Ticks asked = tick_texted script it.state is.state

  -- the line and the domain after it, by what came
  abbrev StepTexted : DomainState → (stamp : ℕ) → Label → Type 0
  StepTexted l stamp label =
      IsTexted script (after script l stamp label)
      × IsTextedDid script (line_of script l stamp label).did
      × IsTextedReply script (line_of script l stamp label).reply

  inner_texted : (l : DomainState) (stamp : ℕ) → IsTexted script l → StepTexted l stamp Inner
  unfolding after line_of
  inner_texted l stamp is =
      let step = own_move_texted (prepared l) (prepared_texted script has.failures l is) in
      (step.state, step.call, step.answer)

pub keeps_texted : KeepsTexted
keeps_texted script l k x has is inner moves =
    let stamp = x.line.stamp in
    let so = subst (λ label. StepTexted script has l stamp label) (sym inner) (inner_texted script has l stamp is) in
    let state : IsTexted script k = subst (λ m. IsTexted script m) (sym moves.next) so.0 in
    record {
      state = state;
      call = subst (λ (line : Line). IsTextedDid script line.did) (sym moves.told) so.1;
      answer = subst (λ (line : Line). IsTextedReply script line.reply) (sym moves.told) so.2;
      same = state.table ∙ sym is.table;
    }
