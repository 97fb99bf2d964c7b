-- What a turn of a domain does: which calls it made on the objects, in order, what was answered, and what the domain is then.
-- The objects are of any type; what a call does to them stands in the relations of that type, which are the arguments of this module.
use Rattle.std.specs.Prelude.{◌≡◌, ◌⊎◌, ℕ, ◌+◌, ◌<◌, Bool, true, false, List, [], ◌∷◌, Option, Some, None}
use Rattle.eio_value.specs.declared.call.Answered.{Answered}
use Rattle.eio_value.specs.declared.call.Call.{Call}
use Rattle.eio_value.specs.declared.call.Struck.{Struck}
use Rattle.eio_value.specs.declared.call.Struck.TheVariants as struck
use Rattle.eio_value.specs.declared.message.Message.{Message}
use Rattle.eio_value.specs.declared.message.Waiter.{Waiter}
use Rattle.eio_value.specs.declared.mock_call.Extra.{Extra}
use Rattle.eio_value.specs.declared.mock_call.MockCall.{MockCall}
use Rattle.eio_value.specs.Waits.{struck_stamp}
use Rattle.script_forms.specs.Flat.{nodes_of}
use Rattle.spec_script.specs.Opening.{opening_texts}
use Rattle.spec_script.specs.Scripts.{Script}
use Rattle.trace_lines.specs.declared.line.Line.{Line}
use Rattle.spec_machine.specs.Domain.{Duty, DomainState}
use Rattle.spec_machine.specs.Labels.{Label, Inner, Called, Struck as WasStruck, Mocked, Took, Idle as AsksNothing}
use Rattle.spec_machine.specs.Mock.{opening_domain}
use Rattle.spec_machine.specs.Moves.{asks}
use Rattle.spec_machine.specs.Preparing.{prepared}
use Rattle.spec_machine.specs.Runs.{DomainMoves, message_stamp}
use Rattle.domain_core.specs.declared.turn.Turn.{Turn}
use Rattle.domain_core.specs.declared.turn.Turn.TheVariants.{Moved, Idle, Spent, Halted}
use Rattle.domain_core.specs.declared.told.Told.{Told}
use Rattle.domain_core.specs.declared.turn.Turned.{Turned}
use Rattle.domain_core.specs.declared.turn.Turned.TheVariants as turned
use Rattle.law_domain.specs.Sound.Laws.{body_of}
use Rattle.law_domain.specs.Well.WellStates.{StandsWell}
use Rattle.fiber_step.specs.Throwing.{IsGrown}
use Rattle.domain_core.specs.Keeping.{KeptDomain}
use Rattle.domain_core.specs.Mirrors.{Mirrors}

-- what is kept stands for this domain of the definitions, between two moves
pub record StandsFor (script : Script) (texts : List (List ℕ)) (kept : KeptDomain) (l : DomainState) : Type 0 where
  pub mirrors : Mirrors (nodes_of script) texts kept l
  -- a domain that is halted moves no more, and nothing else is known of it
  pub well : l.halted ≡ false → StandsWell script l

-- it stands for some domain
abbrev pub StandsForSome : Script → (texts : List (List ℕ)) → KeptDomain → Type 0
StandsForSome script texts kept = (l : DomainState) × StandsFor script texts kept l

-- what is kept of a domain that has just started
pub record Starts (script : Script) (body most : ℕ) (is_mocked : Bool) (kept : KeptDomain) : Type 0 where
  pub stands : StandsFor script (opening_texts script) kept (opening_domain body (opening_texts script) (body_of script body))
  pub number : kept.number ≡ body
  pub budget : kept.budget ≡ most
  pub mocked : kept.mocked ≡ is_mocked
  pub stamp : kept.stamp ≡ 0
  pub lines : kept.lines ≡ 0

-- the line with this stamp of the domain with this number, of which this was told
abbrev pub line_told : (stamp number : ℕ) → Told → Line
line_told stamp number told = record { stamp = stamp; domain = number; fiber = told.fiber; did = told.did; reply = told.reply }

-- what a turn came to, with its line, where what that says was told
abbrev pub turned_to : (number : ℕ) → Told → Turned → Turn
turned_to number told (turned.Moved stamp) = Moved (line_told stamp number told)
turned_to number told turned.Idle = Idle
turned_to number told turned.Spent = Spent
turned_to number told turned.Halted = Halted

abbrev pub has_won : Struck → Bool
has_won (struck.Won stamp) = true
has_won (struck.Lost stamp) = false

module _
    {O : Type 0}
    (calls : O → Waiter → Bool → ℕ → ℕ → Call → Answered → O → Type 0)
    (strikes : O → Waiter → ℕ → Struck → O → Type 0)
    (receives : O → Option Message → O → Type 0)
    (extras : O → List (List ℕ) → MockCall → ℕ → Extra → List (List ℕ) → O → Type 0)
    (learns : O → List (List ℕ) → O → Type 0)
  where
    -- a domain that owes nothing looks for a message first, and found none
    abbrev pub Looked : List Duty → O → O → Type 0
    Looked [] before after = receives before None after
    Looked (duty ∷ others) before after = before ≡ after

    -- a table that silent statements have extended was told
    abbrev pub Learned : (old new : List (List ℕ)) → O → O → Type 0
    Learned old new before after = ((new ≡ old) × (before ≡ after)) ⊎ learns before new after

    -- the look, and then what was told
    pub record Begins (l : DomainState) (before after : O) : Type 0 where
      pub between : O
      pub looked : Looked l.duties before between
      pub learned : Learned l.texts (prepared l).state.texts between after

    -- the calls on the objects by which this came, with the stamp of the move
    abbrev pub Came : DomainState → (stamp : ℕ) → Label → O → O → Type 0
    Came l stamp Inner before after = Begins l before after × (stamp ≡ l.stamp + 1)
    Came l stamp (Called asked answer mine) before after =
        (between : O) × Begins l before between
        × (it : Answered) × calls between asked.who asked.off l.stamp asked.serial asked.call it after × (it.answer ≡ answer) × (it.mine ≡ mine) × (it.stamp ≡ stamp)
    Came l stamp (WasStruck who won) before after = (it : Struck) × strikes before who l.stamp it after × (has_won it ≡ won) × (struck_stamp it ≡ stamp)
    Came l stamp (Mocked asked answer texts) before after =
        (between : O) × Begins l before between × extras between asked.texts asked.call asked.serial answer texts after × (stamp ≡ l.stamp + 1)
    Came l stamp (Took message) before after = receives before (Some message) after × (message_stamp message < stamp) × (l.stamp < stamp)

    -- the domain made this line, by what came from the objects, and is another one then
    pub record MadeLine (script : Script) (l : DomainState) (line : Line) (k : DomainState) (before after : O) : Type 0 where
      pub label : Label
      pub moves : DomainMoves script l (record { line = line; label = label; away = None; from = 0 }) k
      pub came : Came l line.stamp label before after

    -- whatever domain is stood for, it made this line, and what is kept stands for the domain then
    abbrev pub MovesTo : Script → (line : Line) → (old_texts new_texts : List (List ℕ)) → (old new : KeptDomain) → O → O → Type 0
    MovesTo script line old_texts new_texts old new before after =
        (l : DomainState) → StandsFor script old_texts old l → (k : DomainState) × StandsFor script new_texts new k × MadeLine script l line k before after

    -- nothing changed
    abbrev pub IsSame : (old_texts new_texts : List (List ℕ)) → (old new : KeptDomain) → Type 0
    IsSame old_texts new_texts old new = (new_texts ≡ old_texts) × (new ≡ old)

    -- the domain isn't halted, and hasn't made all its lines
    abbrev pub MayMove : KeptDomain → Type 0
    MayMove kept = (kept.halted ≡ false) × (kept.lines < kept.budget)

    abbrev pub Turns : Script → Turn → (old_texts new_texts : List (List ℕ)) → (old new : KeptDomain) → O → O → Type 0
    Turns script (Moved line) old_texts new_texts old new before after =
        MayMove old × (new.lines ≡ old.lines + 1) × (new.budget ≡ old.budget) × (new.mocked ≡ old.mocked) × IsGrown old_texts new_texts
        × MovesTo script line old_texts new_texts old new before after
    Turns script Idle old_texts new_texts old new before after =
        MayMove old × IsSame old_texts new_texts old new × receives before None after
        × ((l : DomainState) → StandsFor script old_texts old l → (l.duties ≡ []) × (asks l ≡ AsksNothing))
    Turns script Spent old_texts new_texts old new before after =
        (old.halted ≡ false) × (old.lines ≡ old.budget) × IsSame old_texts new_texts old new × (before ≡ after)
    Turns script Halted old_texts new_texts old new before after = (old.halted ≡ true) × IsSame old_texts new_texts old new × (before ≡ after)
