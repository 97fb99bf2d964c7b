-- Laws of the definitions on what a fiber's next call depends on.
use Rattle.std.specs.Prelude.{◌≡◌, ℕ, List, map, All}
use Rattle.eio_value.specs.declared.raised.Outcome.{Outcome}
use Rattle.eio_value.specs.declared.value.Value.{Value}
use Rattle.spec_script.specs.Syntax.{Block, Submit}
use Rattle.spec_fiber.specs.Asks as ask
use Rattle.spec_fiber.specs.Asks.{Ask, passing, again}
use Rattle.spec_fiber.specs.Evaluation.{value_at}
use Rattle.spec_fiber.specs.Replies.{Position, passed, begun, entered, handled}
use Rattle.spec_fiber.specs.Settling.{answered}
use Rattle.spec_fiber.specs.Silent.{asks, statement}
use Rattle.spec_fiber.specs.Work.{Work, Carry, restored}
use Rattle.law_fiber.specs.Calls.Sights.{Sight, SeesBlock}
use Rattle.law_fiber.specs.Calls.Alike.{Tables, IsLater, AlikeLists, AlikeOptions, AlikeValue, AlikeOutcome, AlikeVariables, AlikeTables}
use Rattle.law_fiber.specs.Calls.AlikeCalls.{AlikeAsk}
use Rattle.law_fiber.specs.Calls.AlikeWork.{AlikeWork, AlikePosition, tables_of, AlikeCarry, AlikeSettled}

-- ## The next call

-- two fibers whose work is alike, which go on with what is alike, and whose variables in scope are alike, make calls that are alike, and are alike
-- again
abbrev pub NextCallSeesScope : Type 0
NextCallSeesScope = (sight : Sight) (came met : Outcome) (these those : List Work) (c d : Carry)
    → AlikeOutcome (tables_of c d) came met → AlikeWork sight (tables_of c d) these those → AlikeCarry sight c d
    → AlikeSettled sight (passed came these c) (passed met those d)

-- ## Jobs

-- what is given to a job: the values of the captured variables
abbrev pub given_to : (captured : List ℕ) → Carry → List Value
given_to captured c = map (value_at c.variables) captured

abbrev pub GivesCaptured : Type 0
GivesCaptured = (executor weight : ℕ) (captured : List ℕ) (job : Block) (c : Carry)
    → statement (Submit executor weight captured job) c ≡ asks (ask.Submit executor weight (given_to captured c) job) c

-- two fibers have alike values in this slot
abbrev pub IsAlikeAt : Carry → Carry → (slot : ℕ) → Type 0
IsAlikeAt c d slot = AlikeValue (tables_of c d) (value_at c.variables slot) (value_at d.variables slot)

-- whatever else the callers' variables are
abbrev pub CapturedAreGivenAlike : Type 0
CapturedAreGivenAlike = (captured : List ℕ) (c d : Carry) → All (IsAlikeAt c d) captured
    → AlikeLists (AlikeValue (tables_of c d)) (given_to captured c) (given_to captured d)

-- whatever the variables are that the workers had before
abbrev pub JobsGoByWhatIsGiven : Type 0
JobsGoByWhatIsGiven = (sight : Sight) (job : Block) (given taken : List Value) (before past : Value) (c d : Carry)
    → SeesBlock sight job → AlikeLists (AlikeValue (tables_of c d)) given taken → AlikeTables sight (tables_of c d)
    → AlikeSettled sight (answered (begun job given).work before (restored given c)) (answered (begun job taken).work past (restored taken d))

pub record JobsSeeCaptured : Type 0 where
  pub gives : GivesCaptured
  pub given : CapturedAreGivenAlike
  pub job : JobsGoByWhatIsGiven

-- ## Between two calls

-- the tables grow while other fibers run
abbrev pub OutcomesStay : Type 0
OutcomesStay = (old new : Tables) (came met : Outcome) → IsLater old new → AlikeOutcome old came met → AlikeOutcome new came met

abbrev pub PositionsStay : Type 0
PositionsStay = (sight : Sight) (old new : Tables) (p q : Position) → IsLater old new → AlikePosition sight old p q → AlikePosition sight new p q

-- two calls that are alike, which are answered with one number, are gone into alike
abbrev pub EntersAlike : Type 0
EntersAlike = (sight : Sight) (tables : Tables) (call asked : Ask) (number : ℕ) (these those : List Work) (own others : List Value)
    → AlikeAsk sight tables call asked → AlikeWork sight tables these those → AlikeVariables sight tables own others
    → AlikePosition sight tables (entered call number these own) (entered asked number those others)

-- so is a handler, with variables that are alike
abbrev pub HandlesAlike : Type 0
HandlesAlike = (sight : Sight) (tables : Tables) (call asked : Ask) (context : ℕ) (handler : Block) (registered kept : List Value)
    (these those : List Work) (own others : List Value)
    → AlikeAsk sight tables call asked → SeesBlock sight handler → AlikeVariables sight tables registered kept
    → AlikeWork sight tables these those → AlikeVariables sight tables own others
    → AlikePosition sight tables (handled call context handler registered these own) (handled asked context handler kept those others)

-- what ends pass on is alike, and so are calls that are made again
abbrev pub PassesAlike : Type 0
PassesAlike = (sight : Sight) (tables : Tables) (call asked : Ask) → AlikeAsk sight tables call asked
    → AlikeOptions (AlikeOutcome tables) (passing call) (passing asked)

abbrev pub CallsAgainAlike : Type 0
CallsAgainAlike = (sight : Sight) (tables : Tables) (call asked : Ask) → AlikeAsk sight tables call asked
    → AlikeAsk sight tables (again call) (again asked)

pub record FibersStayAlike : Type 0 where
  pub outcomes : OutcomesStay
  pub positions : PositionsStay
  pub enters : EntersAlike
  pub handles : HandlesAlike
  pub passes : PassesAlike
  pub calls_again : CallsAgainAlike
