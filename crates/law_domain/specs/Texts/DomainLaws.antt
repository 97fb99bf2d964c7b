-- Laws of the texts and exceptions that stand in a domain, and of its lines.
use Rattle.std.specs.Prelude.{◌≡◌, ℕ}
use Rattle.eio_value.specs.Exceptions.{HasTextsOfRaised}
use Rattle.eio_value.specs.Table.{HasText}
use Rattle.eio_value.specs.Values.{HasTextsOf}
use Rattle.eio_value.specs.declared.raised.Raised.{Raised}
use Rattle.eio_value.specs.declared.value.TextId.{TextId}
use Rattle.eio_value.specs.declared.value.Value.{Value}
use Rattle.spec_script.specs.Opening.{opening_texts}
use Rattle.spec_script.specs.Scripts.{Script}
use Rattle.spec_script.specs.Syntax.{Block}
use Rattle.trace_lines.specs.declared.line.Did.{Did}
use Rattle.trace_lines.specs.TraceTexts.{CanTrace}
use Rattle.spec_machine.specs.Domain.{DomainState}
use Rattle.spec_machine.specs.Histories.{domain_at_first}
use Rattle.spec_machine.specs.Labels.{Inner}
use Rattle.spec_machine.specs.Mock.{opening_domain, opening}
use Rattle.spec_machine.specs.Preparing.{prepared}
use Rattle.spec_machine.specs.Runs.{Noted, DomainMoves}
use Rattle.law_fiber.specs.Texts.Texts.{IsWrittenBlock, IsHeldValue, IsHeldRaised, written_in, known_in}
use Rattle.law_fiber.specs.Texts.Laws.{HasFailureTexts, HasItsTexts}
use Rattle.law_domain.specs.Texts.Domains.{IsTexted, IsTextedDid, IsTextedReply, IsTextedDoing}

-- ## What is known stands in the table

abbrev pub KnownValuesHaveTexts : Type 0
KnownValuesHaveTexts = (script : Script) (it : Value) → IsHeldValue (known_in script) it → HasTextsOf (opening_texts script) it

abbrev pub KnownRaisesHaveTexts : Type 0
KnownRaisesHaveTexts = (script : Script) (raised : Raised) → HasFailureTexts script → IsHeldRaised (known_in script) raised
    → HasTextsOfRaised (opening_texts script) raised

abbrev pub FailuresHaveTexts : Type 0
FailuresHaveTexts = (script : Script) (text : TextId) → HasFailureTexts script → (written_in script).failure text → HasText (opening_texts script) text

-- what a line writes to the trace
abbrev pub TextedLinesAreTraced : Type 0
TextedLinesAreTraced = (script : Script) (it : Did) → IsTextedDid script it → CanTrace (opening_texts script) script.names it

pub record KnownHaveTexts : Type 0 where
  pub values : KnownValuesHaveTexts
  pub raises : KnownRaisesHaveTexts
  pub failures : FailuresHaveTexts
  pub lines : TextedLinesAreTraced

-- ## The opening

-- a domain that opens with a written block, each domain of the script, and the mocked one
pub record OpensTexted (script : Script) : Type 0 where
  pub with_body : (number : ℕ) (body : Block) → IsWrittenBlock (written_in script) body
      → IsTexted script (opening_domain number (opening_texts script) body)
  pub first : (number : ℕ) → IsTexted script (domain_at_first script number)
  pub mocked : IsTexted script (opening script).local

abbrev pub OpeningsAreTexted : Type 0
OpeningsAreTexted = (script : Script) → HasItsTexts script → OpensTexted script

-- ## Moves

-- what a domain does next: the table is as it was, and the call has its texts
pub record PreparesTexted (script : Script) (l : DomainState) : Type 0 where
  pub state : IsTexted script (prepared l).state
  pub call : IsTextedDoing script (prepared l).doing
  pub same : (prepared l).state.texts ≡ l.texts

abbrev pub PreparesKeepTexted : Type 0
PreparesKeepTexted = (script : Script) (l : DomainState) → HasFailureTexts script → IsTexted script l → PreparesTexted script l

-- a move for which nothing comes from outside: what stands in the domain is known again, and so is what its line shows
pub record MovesTexted (script : Script) (l : DomainState) (x : Noted) (k : DomainState) : Type 0 where
  pub state : IsTexted script k
  pub call : IsTextedDid script x.line.did
  pub answer : IsTextedReply script x.line.reply
  pub same : k.texts ≡ l.texts

abbrev pub KeepsTexted : Type 0
KeepsTexted = (script : Script) (l k : DomainState) (x : Noted) → HasItsTexts script → IsTexted script l → x.label ≡ Inner → DomainMoves script l x k
    → MovesTexted script l x k
