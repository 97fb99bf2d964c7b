-- What a run does to one object: the calls and the won strikes of its lines, played on the object as declared. And so the items of a stream in a run.
use Rattle.std.specs.Prelude.{◌≡◌, ℕ, true, false, ◌==◌, List, [], ◌∷◌, ◌++◌, slice_get, Some}
use Rattle.law_parts.specs.Items.{Move, Calls, Strikes, items, Gone, gone}
use Rattle.spec_parts.specs.Objects.{called}
use Rattle.spec_parts.specs.Row.{Row, Stepped}
use Rattle.spec_parts.specs.Strikes.{struck}
use Rattle.spec_script.specs.Declarations as declared
use Rattle.spec_script.specs.Scripts.{Script}
use Rattle.spec_machine.specs.Histories.{shared_at_first, IsLegalHistory}
use Rattle.spec_machine.specs.Labels.{Label, Inner, Called, Struck, Mocked, Took}
use Rattle.spec_machine.specs.ObjectHistories.{Made, calls_on}
use Rattle.spec_machine.specs.Runs.{Noted, DomainMoves, away_of, State}
use Rattle.spec_machine.specs.Shared.{row_at, mine_of}

-- what a line does to an object: it calls there, or its strike has won, which strikes all objects alike
abbrev pub moves_by : (object : ℕ) → Label → List Move
moves_by object Inner = []
moves_by object (Called asked given mine) = elim (asked.object == object) [ true ↦ Calls asked.who asked.off asked.serial asked.call ∷ [] | false ↦ [] ]
moves_by object (Struck who true) = Strikes who ∷ []
moves_by object (Struck who false) = []
moves_by object (Mocked asked given texts) = []
moves_by object (Took it) = []

abbrev pub moves_on : (object : ℕ) → List Noted → List Move
moves_on object [] = []
moves_on object (x ∷ xs) = moves_by object x.label ++ moves_on object xs

-- the object as declared
abbrev pub row_at_first : Script → (object : ℕ) → Row
row_at_first script object = row_at (shared_at_first script).rows object

-- ## What comes of the moves

-- what comes of each call among moves
abbrev pub steps_of : Row → List Move → List Stepped
steps_of row [] = []
steps_of row (Calls who off serial call ∷ moves) = (let step : Stepped = called row who off serial call in step ∷ steps_of step.row moves)
steps_of row (Strikes who ∷ moves) = steps_of (struck row who) moves

-- a call among lines has the answer of this step, and what the step sends is its message
pub record HasCome (made : Made) (step : Stepped) : Type 0 where
  pub answer : made.answer ≡ step.answer
  pub mine : made.mine ≡ mine_of made.domain made.stamp step.sent
  pub away : made.away ≡ away_of made.domain made.stamp step.sent

abbrev pub AllCome : List Made → List Stepped → Type 0
AllCome [] [] = Unit {0}
AllCome [] (step ∷ steps) = ⊥
AllCome (made ∷ calls) [] = ⊥
AllCome (made ∷ calls) (step ∷ steps) = HasCome made step × AllCome calls steps

-- ## The laws

abbrev pub ObjectsArePlayed : Type 0
ObjectsArePlayed =
    (script : Script) (lines : List Noted) (final : State (DomainMoves script))
    → IsLegalHistory script lines final
    → (object : ℕ)
    → row_at final.shared.rows object ≡ (gone (row_at_first script object) (moves_on object lines)).row

abbrev pub CallsArePlayed : Type 0
CallsArePlayed =
    (script : Script) (lines : List Noted) (final : State (DomainMoves script))
    → IsLegalHistory script lines final
    → (object : ℕ)
    → AllCome (calls_on object lines) (steps_of (row_at_first script object) (moves_on object lines))

-- what a run has accepted on a stream, in order, is what was taken, in order, and then what the stream holds at the end
abbrev pub ItemsInOrderInRuns : Type 0
ItemsInOrderInRuns =
    (script : Script) (lines : List Noted) (final : State (DomainMoves script))
    → IsLegalHistory script lines final
    → (object capacity : ℕ) → slice_get script.declarations object ≡ Some (declared.Stream capacity)
    → (let run : Gone = gone (row_at_first script object) (moves_on object lines) in run.accepted ≡ run.taken ++ items (row_at final.shared.rows object).values)
