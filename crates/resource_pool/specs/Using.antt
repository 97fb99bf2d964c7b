-- Who has a resource of a pool: it is granted only while nobody has it, and so between two grants of it stands a `put` of it.
-- It is granted where a `use` answers it, or where a `put` hands it to a fiber that waits.
use Rattle.std.specs.Prelude.{◌≡◌, ℕ, ◌<◌, ◌==◌, pos, Bool, true, false, List, [], ◌∷◌, ◌++◌, Option, Some}
use Rattle.std.specs.List.{list_any}
use Rattle.eio_value.specs.declared.call.Answer.{Answer}
use Rattle.eio_value.specs.declared.call.Answer.TheVariants as answer
use Rattle.eio_value.specs.declared.call.Call.{Call}
use Rattle.eio_value.specs.declared.call.Call.TheVariants as call
use Rattle.eio_value.specs.declared.raised.Outcome.TheVariants as outcome
use Rattle.eio_value.specs.declared.value.Value.{Value}
use Rattle.eio_value.specs.declared.value.Value.TheVariants as value
use Rattle.eio_value.specs.Sending.{Sent, Resumes}
use Rattle.law_parts.specs.Items.{Move, Calls, Strikes}
use Rattle.spec_parts.specs.Data.{Data, Pool}
use Rattle.spec_parts.specs.Objects.{called}
use Rattle.spec_parts.specs.Pools.{pool, is_out}
use Rattle.spec_parts.specs.Row.{Row, Stepped}
use Rattle.spec_parts.specs.Strikes.{struck}

-- what happens to resources
pub data PoolChange : Type 0 where
  Grants : (resource : ℕ) → PoolChange
  Puts : (resource : ℕ) → PoolChange

-- the resource that a value names
abbrev pub granted : Value → List PoolChange
granted (value.Int (pos resource)) = Grants resource ∷ []
granted other = []

abbrev pub answered : Answer → List PoolChange
answered (answer.Done given) = granted given
answered other = []

abbrev pub handed : Option Sent → List PoolChange
handed (Some (Resumes who (outcome.Ok given))) = granted given
handed other = []

abbrev pub if_done : Answer → List PoolChange → List PoolChange
if_done (answer.Done given) turns = turns
if_done other turns = []

-- what a call does to resources, in order
abbrev pub turns_of : Call → Stepped → List PoolChange
turns_of (call.Use object) step = answered step.answer
turns_of (call.Put object resource) step = if_done step.answer (Puts resource ∷ []) ++ handed step.sent
turns_of other step = []

-- what came of moves: what happened to resources, in order, and the row at the end
pub record Used : Type 0 where
  pub turns : List PoolChange
  pub row : Row

abbrev pub used : Row → List Move → Used
used row [] = record { turns = []; row = row }
used row (Calls who off serial call ∷ moves) =
    let step : Stepped = called row who off serial call in
    let rest : Used = used step.row moves in
    record { turns = turns_of call step ++ rest.turns; row = rest.row }
used row (Strikes who ∷ moves) = used (struck row who) moves

-- of one resource: it is granted only where nobody has it, and put only where somebody has
abbrev pub AreInTurn : (resource : ℕ) → (out : Bool) → List PoolChange → Type 0
AreInTurn resource out [] = Unit {0}
AreInTurn resource out (Grants other ∷ turns) = elim (other == resource) [ true ↦ (out ≡ false) × AreInTurn resource true turns | false ↦ AreInTurn resource out turns ]
AreInTurn resource out (Puts other ∷ turns) = elim (other == resource) [ true ↦ (out ≡ true) × AreInTurn resource false turns | false ↦ AreInTurn resource out turns ]

-- each was made, and stands once
abbrev pub AreIdle : (made : ℕ) → List ℕ → Type 0
AreIdle made [] = Unit {0}
AreIdle made (resource ∷ others) = (resource < made) × (list_any (λ other. other == resource) others ≡ false) × AreIdle made others

abbrev pub HasIdle : Data → Type 0
HasIdle (Pool size made idle) = AreIdle made idle
HasIdle other = Unit {0}

-- whether somebody has this resource of a pool
abbrev pub is_out_of : Data → ℕ → Bool
is_out_of (Pool size made idle) resource = is_out made idle resource
is_out_of other resource = false

abbrev pub UsedInTurn : Type 0
UsedInTurn = (size : ℕ) (moves : List Move) (resource : ℕ) → AreInTurn resource false (used (pool size) moves).turns

abbrev pub IdleStandOnce : Type 0
IdleStandOnce = (size : ℕ) (moves : List Move) → HasIdle (used (pool size) moves).row.values
