-- Fibers that are alike stay so between two calls.
use Rattle.std.proofs.Common.{ℕ, suc, true, false, All, List, [], ◌∷◌, length, Option, Some, None, pos, subst, arith}
use Rattle.std.specs.List.{last_or}
use Rattle.std.specs.Option.{unwrap_or}
use Rattle.eio_value.specs.declared.value.Value.{Value}
use Rattle.spec_script.specs.Syntax.{Block, Begins, Done}
use Rattle.spec_fiber.specs.Asks.{Ask, passing, again}
use Rattle.spec_fiber.specs.Replies.{own_branch, into, entered, handled}
use Rattle.spec_fiber.specs.Silent.{items_of}
use Rattle.spec_fiber.specs.Work as work
use Rattle.spec_fiber.specs.Work.{Work}
use Rattle.law_fiber.specs.Calls.Sights.{Sight, SeesBlock, SeesStatements}
use Rattle.law_fiber.specs.Calls.Alike.{Tables, Goes, AlikeOptions, Nothing, Something, Numbers, Contexts, Switches, AlikeOutcome, Oks, Errs, AlikeVariables}
use Rattle.law_fiber.specs.Calls.AlikeCalls.{AlikeAsk}
use Rattle.law_fiber.specs.Calls.AlikeCalls as calls
use Rattle.law_fiber.specs.Calls.AlikeWork as works
use Rattle.law_fiber.specs.Calls.AlikeWork.{AlikeItem, AlikeWork, AlikePosition}
use Rattle.law_fiber.specs.Calls.Laws.{OutcomesStay, PositionsStay, EntersAlike, HandlesAlike, PassesAlike, CallsAgainAlike, FibersStayAlike}
use Rattle.law_fiber.proofs.Calls.Later.{outcome_later, variables_later, work_later}
use Rattle.law_fiber.proofs.Calls.Statements.{items_see}
use Rattle.law_fiber.proofs.Calls.Variables.{variables_with}

outcomes_stay : OutcomesStay
outcomes_stay old new came met later alike = outcome_later later alike

positions_stay : PositionsStay
positions_stay sight old new p q later alike = record { work = work_later later alike.work; variables = variables_later later alike.variables }

-- ## Blocks of calls

-- the mark at the block's end has how many variables are kept
into_alike : {sight : Sight} {t : Tables} {these those : List Work} {own others kept left : List Value} (body : Block) (mark : ℕ → Work)
    → ((keep : ℕ) → AlikeItem sight t (mark keep) (mark keep)) → SeesBlock sight body
    → AlikeWork sight t these those → AlikeVariables sight t own others → AlikeVariables sight t kept left
    → AlikePosition sight t (into body (mark (length own)) these kept) (into body (mark (length others)) those left)
into_alike {sight} {t} {these} {those} {own} {others} {kept} {left} body mark marks sees behind variables within =
    subst (λ n. AlikePosition sight t (into body (mark (length own)) these kept) (into body (mark n) those left)) variables.as_many (record {
      work = Goes (works.Runs (items_of body) (items_see sight body sees)) (Goes (marks (length own)) behind);
      variables = within;
    })

last_sees : (sight : Sight) (default : Option Block) (blocks : List Block) → SeesBlock sight (unwrap_or default (Begins 0 Done))
    → All (SeesBlock sight) blocks → SeesBlock sight (unwrap_or (last_or default blocks) (Begins 0 Done))
last_sees sight default [] sees all = sees
last_sees sight default (block ∷ blocks) sees all =
    last_sees sight (Some block) blocks (all 0 block (omega arith)) (λ k d less. all (suc k) d (omega (arith, less)))

empty_sees : (sight : Sight) → SeesBlock sight (Begins 0 Done)
unfolding SeesBlock SeesStatements
empty_sees sight = tt

own_sees : (sight : Sight) (blocks : List Block) → All (SeesBlock sight) blocks → SeesBlock sight (own_branch blocks)
own_sees sight blocks all = last_sees sight None blocks (empty_sees sight) all

entered_alike : (sight : Sight) (tables : Tables) (number : ℕ) (these those : List Work) (own others : List Value) {call asked : Ask}
    → AlikeAsk sight tables call asked → AlikeWork sight tables these those → AlikeVariables sight tables own others
    → AlikePosition sight tables (entered call number these own) (entered asked number those others)
entered_alike sight tables number these those own others (calls.Subs body sees) behind variables =
    into_alike body (λ keep. work.Leave number false keep) (λ keep. works.Leaves number false keep) sees behind variables
    (variables_with variables (Contexts number))
entered_alike sight tables number these those own others (calls.Protects body sees) behind variables =
    into_alike body (λ keep. work.Leave number false keep) (λ keep. works.Leaves number false keep) sees behind variables variables
entered_alike sight tables number these those own others (calls.Switches body sees) behind variables =
    into_alike body (λ keep. work.Close number keep) (λ keep. works.Closes number keep) sees behind variables
    (variables_with variables (Switches number))
entered_alike sight tables number these those own others (calls.OnReleases switch handler sees) behind variables =
    into_alike handler (λ keep. work.Leave number true keep) (λ keep. works.Leaves number true keep) sees behind variables variables
entered_alike sight tables number these those own others (calls.Branchings group blocks all) behind variables =
    into_alike (own_branch blocks) (λ keep. work.Join number keep) (λ keep. works.Joins number keep) (own_sees sight blocks all)
    behind variables variables
entered_alike sight tables number these those own others (calls.OpenReaders flow limit body sees) behind variables =
    into_alike body (λ keep. work.ShutReader number keep) (λ keep. works.ShutReaders number keep) sees behind variables
    (variables_with variables (Numbers (pos number)))
entered_alike sight tables number these those own others (calls.OpenWriters flow body sees) behind variables =
    into_alike body (λ keep. work.ShutWriter number keep) (λ keep. works.ShutWriters number keep) sees behind variables
    (variables_with variables (Numbers (pos number)))
entered_alike sight tables number these those own others (calls.Openings place body same sees) behind variables =
    into_alike body work.Cut works.Cuts sees behind variables
    (variables_with variables (Numbers (pos number)))
entered_alike sight tables number these those own others other behind variables = record { work = behind; variables = variables }

enters_alike : EntersAlike
enters_alike sight tables call asked number these those own others alike behind variables =
    entered_alike sight tables number these those own others alike behind variables

-- ## Handlers

handled_alike : (sight : Sight) (tables : Tables) (context : ℕ) (handler : Block) (registered kept : List Value) (these those : List Work)
    (own others : List Value) {call asked : Ask}
    → AlikeAsk sight tables call asked
    → SeesBlock sight handler → AlikeVariables sight tables registered kept → AlikeWork sight tables these those
    → AlikeVariables sight tables own others
    → AlikePosition sight tables (handled call context handler registered these own) (handled asked context handler kept those others)
handled_alike sight tables context handler registered kept these those own others (calls.Closes switch failed value) sees within behind variables =
    into_alike handler (λ keep. work.Leave context false keep) (λ keep. works.Leaves context false keep) sees
    (Goes (works.Restores variables) (Goes (works.Closings switch value) behind)) within within
handled_alike sight tables context handler registered kept these those own others other sees within behind variables =
    record { work = behind; variables = variables }

handles_alike : HandlesAlike
handles_alike sight tables call asked context handler registered kept these those own others alike sees within behind variables =
    handled_alike sight tables context handler registered kept these those own others alike sees within behind variables

-- ## Ends

passing_alike : {sight : Sight} {t : Tables} {call asked : Ask} → AlikeAsk sight t call asked
    → AlikeOptions (AlikeOutcome t) (passing call) (passing asked)
passing_alike (calls.Leaves context true (Oks alike)) = Nothing
passing_alike (calls.Leaves context true (Errs alike)) = Something (Errs alike)
passing_alike (calls.Leaves context false alike) = Something alike
passing_alike (calls.ShutReaders reader alike) = Something alike
passing_alike (calls.ShutWriters writer alike) = Something alike
passing_alike (calls.UnlockEnds mutex alike) = Something (Oks alike)
passing_alike (calls.PoisonEnds mutex alike) = Something (Errs alike)
passing_alike (calls.PutEnds pool resource alike) = Something alike
passing_alike other = Nothing

passes_alike : PassesAlike
passes_alike sight tables call asked alike = passing_alike alike

again_alike : {sight : Sight} {t : Tables} {call asked : Ask} → AlikeAsk sight t call asked → AlikeAsk sight t (again call) (again asked)
again_alike (calls.Closes switch failed kept) = calls.Closes switch Nothing kept
again_alike (calls.Joins group own) = calls.Joins group Nothing
again_alike other = other

calls_again_alike : CallsAgainAlike
calls_again_alike sight tables call asked alike = again_alike alike

pub fibers_stay_alike : FibersStayAlike
fibers_stay_alike = record {
  outcomes = outcomes_stay;
  positions = positions_stay;
  enters = enters_alike;
  handles = handles_alike;
  passes = passes_alike;
  calls_again = calls_again_alike;
}
