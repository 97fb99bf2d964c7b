-- Two fibers that differ in all that doesn't count, so that the premises of the laws can be met; and what the judgement asks of a statement.
use Rattle.std.proofs.Common.{◌≡◌, ◌≢◌, ◌<◌, ℕ, zero, suc, ◌==◌, All, List, [], ◌∷◌, codes, get_or, pos, refl, ap, arith}
use Rattle.std.proofs.lemmas.Bool.{false≢true}
use Rattle.std.proofs.lemmas.List.Elements.{All-from_recursion}
use Rattle.std.proofs.lemmas.List.Kept.{AllPairs-cons}
use Rattle.eio_value.specs.Table.{AreDifferent, text_id}
use Rattle.eio_value.specs.declared.raised.Outcome.TheVariants as outcome
use Rattle.eio_value.specs.declared.value.Value.TheVariants as value
use Rattle.spec_script.specs.Syntax.{Statement, Trace, Submit, Variable, NoExpressions, AndExpression, Block, Begins, Done, Then}
use Rattle.spec_fiber.specs.Asks as ask
use Rattle.spec_fiber.specs.Evaluation.{value_of, values_of, value_at}
use Rattle.spec_fiber.specs.Replies.{begun, entered}
use Rattle.spec_fiber.specs.Settling.{Settled, answered, thrown}
use Rattle.spec_fiber.specs.Silent.{statement, statements}
use Rattle.spec_fiber.specs.Work as work
use Rattle.spec_fiber.specs.Work.{Work, Carry, restored}
use Rattle.law_fiber.specs.Calls.Sights.{Sight, IsInScope, SeesExpression, SeesExpressions, SeesStatement, SeesBlock, SeesStatements}
use Rattle.law_fiber.specs.Calls.Alike.{Ends, Goes, AlikeLists, AlikeValue, Units, Texts, Oks}
use Rattle.law_fiber.specs.Calls.AlikeCalls.{Switches}
use Rattle.law_fiber.specs.Calls.AlikeWork.{Runs, tables_of, AlikeCarry, AlikePosition, AlikeSettled}
use Rattle.law_fiber.specs.Calls.Laws.{IsAlikeAt, given_to}
use Rattle.law_fiber.proofs.Calls.Between.{fibers_stay_alike}
use Rattle.law_fiber.proofs.Calls.Jobs.{jobs_see_captured}
use Rattle.law_fiber.proofs.Calls.Settling.{next_call_sees_scope}

-- the second variable is in scope, and no text of the script is
abbrev second_alone : Sight
second_alone = record { slots = λ slot. slot == 1; texts = 0 }

abbrev traced : (slot : ℕ) → Statement
traced slot = Trace (AndExpression (Variable slot) NoExpressions)

abbrev one_block : Statement → Block
one_block it = Begins 0 (Then it Done)

-- the first variable differs, the text of the second one has another number, and so has the next raise
abbrev one : Carry
one = record { variables = value.Int (pos 7) ∷ value.Text (text_id 0) ∷ []; texts = codes "a" ∷ []; serial = 3; raises = [] }

abbrev other : Carry
other = record { variables = value.Unit ∷ value.Text (text_id 1) ∷ []; texts = codes "b" ∷ codes "a" ∷ []; serial = 0; raises = [] }

abbrev left : List Work
left = work.Run (Then (traced 1) Done) ∷ []

abbrev next : Carry → Settled
next c = answered left value.Unit c

one_calls : (next one).call ≡ ask.Trace (value.Text (text_id 0) ∷ [])
unfolding answered thrown statement statements value_of values_of
one_calls = refl

other_calls : (next other).call ≡ ask.Trace (value.Text (text_id 1) ∷ [])
unfolding answered thrown statement statements value_of values_of
other_calls = refl

-- ## They are alike

no_b : (k : ℕ) (d : List ℕ) → k < 1 → codes "b" ≢ get_or (codes "a" ∷ []) k d
no_b zero d less e = let same : 98 ≡ 97 = ap (λ text. get_or text 0 0) e in omega (arith, same)
no_b (suc k) d less e = omega (arith, less)

one_text : AreDifferent (codes "a" ∷ [])
one_text = λ i j d less within. absurd (omega (arith, less, within))

two_texts : AreDifferent (codes "b" ∷ codes "a" ∷ [])
two_texts = AllPairs-cons (λ s t. s ≢ t) (codes "b") (codes "a" ∷ []) (λ k d less. no_b k d less) one_text

in_scope : (slot : ℕ) → IsInScope second_alone slot → AlikeValue (tables_of one other) (value_at one.variables slot) (value_at other.variables slot)
in_scope zero sees = absurd (false≢true sees)
in_scope (suc zero) sees = Texts (omega arith, omega arith, refl)
in_scope (suc (suc slot)) sees = Units

pub carries_alike : AlikeCarry second_alone one other
carries_alike = record {
  tables = record { one_has = omega arith; other_has = omega arith; same = refl; one_differs = one_text; other_differs = two_texts };
  variables = record { as_many = refl; in_scope = in_scope };
}

-- ## What a statement sees

sees_second : SeesStatement second_alone (traced 1)
unfolding SeesStatement SeesExpressions SeesExpression
sees_second = (refl, tt)

-- so the law speaks of the two fibers
pub calls_alike : AlikeSettled second_alone (next one) (next other)
unfolding SeesStatements
calls_alike =
    next_call_sees_scope second_alone (outcome.Ok value.Unit) (outcome.Ok value.Unit) left left one other (Oks Units)
    (Goes (Runs (Then (traced 1) Done) (sees_second, tt)) Ends) carries_alike

sees_block : SeesBlock second_alone (one_block (traced 1))
unfolding SeesBlock SeesStatements
sees_block = (sees_second, tt)

-- what is given to a job that captures the second variable, and the job's first call
captured_alike : All (IsAlikeAt one other) (1 ∷ [])
captured_alike = All-from_recursion (IsAlikeAt one other) (1 ∷ []) (in_scope 1 refl, tt)

given_alike : AlikeLists (AlikeValue (tables_of one other)) (given_to (1 ∷ []) one) (given_to (1 ∷ []) other)
given_alike = jobs_see_captured.given (1 ∷ []) one other captured_alike

job_calls_alike : AlikeSettled second_alone
    (answered (begun (one_block (traced 1)) (given_to (1 ∷ []) one)).work value.Unit (restored (given_to (1 ∷ []) one) one))
    (answered (begun (one_block (traced 1)) (given_to (1 ∷ []) other)).work value.Unit (restored (given_to (1 ∷ []) other) other))
job_calls_alike =
    jobs_see_captured.job second_alone (one_block (traced 1)) (given_to (1 ∷ []) one) (given_to (1 ∷ []) other) value.Unit value.Unit one other sees_block
    given_alike carries_alike.tables

-- both go into the block of a switch of the same number
entered_alike : AlikePosition second_alone (tables_of one other)
    (entered (ask.Switch (one_block (traced 1))) 0 [] one.variables) (entered (ask.Switch (one_block (traced 1))) 0 [] other.variables)
entered_alike =
    fibers_stay_alike.enters second_alone (tables_of one other) (ask.Switch (one_block (traced 1))) (ask.Switch (one_block (traced 1))) 0 [] [] one.variables
    other.variables (Switches (one_block (traced 1)) sees_block) Ends carries_alike.variables

sees_first : SeesStatement second_alone (traced 0) → ⊥
unfolding SeesStatement SeesExpressions SeesExpression
sees_first sees = false≢true sees.0

-- of a job nothing is asked, whatever slots its block names
job_sees : SeesStatement second_alone (Submit 0 1 (1 ∷ []) (one_block (traced 0)))
unfolding SeesStatement
job_sees = λ k d less. captured k d less
  where
    captured : (k : ℕ) (d : ℕ) → k < 1 → IsInScope second_alone (get_or (1 ∷ []) k d)
    captured zero d less = refl
    captured (suc k) d less = absurd (omega (arith, less))

job_captures_first : SeesStatement second_alone (Submit 0 1 (0 ∷ []) (one_block (traced 0))) → ⊥
unfolding SeesStatement
job_captures_first sees = false≢true (sees 0 0 (omega arith))
