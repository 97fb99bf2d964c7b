-- A worked run of two domains, whose parts fit together: so the premises of the law can be met, by runs in which much happens.
-- In domain 0 a fiber takes from a stream and waits; it is struck, and the strike wins. It then waits in the stream once more, by the same cell. Domain 1 adds an item
-- while the first wait still stands in the stream, dead, and takes it back; its next item goes to the second wait. The strike on that wait comes too late, and the
-- fiber takes the message with the item.
use Rattle.std.proofs.Common.{◌≡◌, ℕ, zero, suc, ◌+◌, ◌<◌, ◌≤◌, ◌^◌, ◌/◌, ◌-◌, ◌==◌, ◌&&◌, ◌++◌, length, inl, inr, ⊎_elim, Bool, true, false, List, [], ◌∷◌, Option, Some, None, refl, sym, ap, ◌∙◌, subst, arith, ne_eqb, le_of_lt}
use Rattle.std.specs.Prelude.{pos}
use Rattle.eio_value.specs.Table.{text_id}
use Rattle.eio_value.specs.declared.call.Answer.{Answer}
use Rattle.eio_value.specs.declared.call.Answer.TheVariants as answer
use Rattle.eio_value.specs.declared.call.Call.{Call}
use Rattle.eio_value.specs.declared.call.Call.TheVariants as call
use Rattle.eio_value.specs.declared.message.Message.{Message}
use Rattle.eio_value.specs.declared.message.Message.TheVariants as message
use Rattle.eio_value.specs.declared.message.Waiter.{Waiter}
use Rattle.eio_value.specs.declared.raised.Outcome.TheVariants as outcome
use Rattle.eio_value.specs.declared.value.Value.{Value}
use Rattle.eio_value.specs.declared.value.Value.TheVariants as value
use Rattle.spec_parts.specs.Contexts.{way_within}
use Rattle.spec_parts.specs.ResumeWords.{Decision, Woken, Cancelled, Mark, Arms, Decides, IsHistory}
use Rattle.spec_parts.specs.Streams.{stream}
use Rattle.spec_script.specs.Declarations as declarations
use Rattle.spec_script.specs.Scripts.{Script}
use Rattle.spec_script.specs.Syntax.{Statement, Statements, Done, Then, Block, Begins, Sub, Switch, Fork, Plain, Cancel, Try, Protect, Yield, Fail, OnObject, OnObjectWith, Take, Add, NumberValue}
use Rattle.spec_fiber.specs.Evaluation.{value_of, values_of}
use Rattle.spec_fiber.specs.Settling.{answered}
use Rattle.spec_fiber.specs.Silent.{statement}
use Rattle.trace_lines.specs.declared.line.Did.{Did}
use Rattle.trace_lines.specs.declared.line.Did.TheVariants as did
use Rattle.trace_lines.specs.declared.line.Said2.{Said2}
use Rattle.trace_lines.specs.declared.line.Said2.TheVariants as said
use Rattle.spec_machine.specs.Domain.{DomainState}
use Rattle.spec_machine.specs.Labels.{Label, Inner, Called, Struck, Mocked, Took}
use Rattle.spec_machine.specs.Mock.{opening_domain, most_jobs}
use Rattle.spec_machine.specs.Moves.{asks, own_call, after, line_of}
use Rattle.spec_machine.specs.ObjectHistories.{Made, Skipped, Entry, calls_in, call_on, calls_on, calls_of, IsObjectHistory}
use Rattle.spec_machine.specs.PartsOfRuns.{IsLog, OwnWaits, IsIn, AllFair, SkipsCancelled, IsDecidedBy, sends, takes, Parts, Fit, IsMerged, lines_of, Reaches, shared_at_first}
use Rattle.spec_machine.specs.Preparing.{prepared}
use Rattle.spec_machine.specs.Runs.{Letter, Noted, domain_of, stamp_of, stamps_below, Fits, DomainMoves, LocalRun}
use Rattle.spec_machine.specs.Shared.{Asked, row_at, opening_shared}
use Rattle.spec_machine.specs.Steps.{waiting_from}
use Rattle.law_history.proofs.Legal.Coming.{takes_others}
use Rattle.law_history.proofs.Legal.Induction.{others_line}
use Rattle.law_history.proofs.Legal.LegalRuns.{parts_make_a_legal_run}
use Rattle.law_history.proofs.Legal.Merging.{others_call}

-- ## Any script

-- where a log leads a domain
abbrev end_by : Script → DomainState → List Noted → DomainState
end_by script l [] = l
end_by script l (x ∷ xs) = end_by script (after script l (stamp_of x) x.label) xs

-- each line is a move of the domain where the lines before it have led it
abbrev AreMoves : Script → DomainState → List Noted → Type 0
AreMoves script l [] = Unit {0}
AreMoves script l (x ∷ xs) =
    (l.halted ≡ false) × Fits l x.label × (l.stamp < stamp_of x) × (x.line ≡ line_of script l (stamp_of x) x.label) × AreMoves script (after script l (stamp_of x) x.label) xs

runs_by : (script : Script) (l : DomainState) (xs : List Noted) → AreMoves script l xs → LocalRun (DomainMoves script) l xs (end_by script l xs)
runs_by script l [] m = refl
runs_by script l (x ∷ xs) m =
    (after script l (stamp_of x) x.label, record { runs = m.0; fits = m.1; later = m.2; told = m.3; next = refl }, runs_by script (after script l (stamp_of x) x.label) xs m.4)

-- ## The script

abbrev int : ℕ → Value
int n = value.Int (pos n)

abbrev then : Statement → Statements → Statements
then statement rest = Then statement rest

-- fails the inner switch once others have moved
abbrev failing : Block
failing = Begins 0 (then Yield (then (Fail 3 (text_id 0)) Done))

-- takes again, where no cancellation from above reaches
abbrev taking_again : Block
taking_again = Begins 0 (then (Protect (Begins 0 (then (Switch (Begins 0 (then (Fork Plain 3 failing) (then (OnObject Take 0) Done)))) Done))) Done)

abbrev taking : Block
taking = Begins 0 (then (Try (Begins 0 (then (OnObject Take 0) Done)) taking_again) Done)

abbrev body : Block
body = Begins 0 (then (Sub (Begins 0 (then (Switch (Begins 0 (then (Fork Plain 1 taking) (then (Cancel 0 (text_id 0)) Done)))) Done))) Done)

abbrev adds : ℕ → Statement
adds n = OnObjectWith Add 0 (NumberValue (pos n))

abbrev other_body : Block
other_body = Begins 0 (then (adds 5) (then (OnObject Take 0) (then (adds 7) Done)))

abbrev script : Script
script = record { version = 1; names = []; declarations = declarations.Stream 1 ∷ []; bodies = body ∷ other_body ∷ []; texts = [] ∷ []; failures = []; formed = []; first_domain = None }

-- ## The logs

abbrev first_wait : Waiter
first_wait = record { domain = 0; fiber = 1; cell = 1; armed = 7 }

abbrev second_wait : Waiter
second_wait = record { domain = 0; fiber = 1; cell = 1; armed = 25 }

abbrev others_wait : ℕ → Waiter
others_wait armed = record { domain = 1; fiber = 0; cell = 1024; armed = armed }

abbrev asked : Waiter → (serial : ℕ) → Call → Asked
asked who serial it = record { object = 0; who = who; off = false; serial = serial; call = it }

abbrev handed : Message
handed = message.Resume second_wait (outcome.Ok (int 7)) 28

abbrev noted : (domain stamp fiber : ℕ) → Did → Said2 → Label → Option Letter → Noted
noted d stamp g it reply label away = record { line = record { stamp = stamp; domain = d; fiber = g; did = it; reply = reply }; label = label; away = away; from = 1 }

-- domain 0: main opens a context with a switch, forks the taking fiber, and cancels the context

abbrev opens_context : Noted
opens_context = noted 0 2 0 did.Sub (said.Done (value.Ctx 1)) Inner None

abbrev opens_switch : Noted
opens_switch = noted 0 4 0 did.Switch (said.Done (value.Switch 0)) Inner None

abbrev forks_taking : Noted
forks_taking = noted 0 6 0 (did.Fork 0) (said.Fiber 0 1) Inner None

abbrev first_take : Noted
first_take = noted 0 8 1 (did.Take 0) said.Waits (Called (asked first_wait 0 (call.Take 0)) answer.Waits None) None

abbrev cancels : Noted
cancels = noted 0 10 0 (did.Cancel 1 (text_id 0)) (said.Done value.Unit) Inner None

abbrev strike_won : Noted
strike_won = noted 0 12 0 (did.Strike 0 1) said.Won (Struck first_wait true) None

abbrev closes : Noted
closes = noted 0 16 0 (did.Close 0) said.Waits Inner None

-- the taking fiber goes on in a protected context, and takes again

abbrev protects : Noted
protects = noted 0 18 1 did.Protect (said.Done (value.Ctx 3)) Inner None

abbrev opens_inner : Noted
opens_inner = noted 0 20 1 did.Switch (said.Done (value.Switch 1)) Inner None

abbrev forks_failing : Noted
forks_failing = noted 0 22 1 (did.Fork 1) (said.Fiber 0 2) Inner None

abbrev yields : Noted
yields = noted 0 24 2 did.Yield said.Back Inner None

abbrev second_take : Noted
second_take = noted 0 26 1 (did.Take 0) said.Waits (Called (asked second_wait 1 (call.Take 0)) answer.Waits None) None

-- the inner switch fails once the second wait was woken

abbrev fails : Noted
fails = noted 0 29 2 (did.Fail 1 (text_id 0)) (said.Done value.Unit) Inner None

abbrev strike_lost : Noted
strike_lost = noted 0 30 2 (did.Strike 0 1) said.Lost (Struck second_wait false) None

abbrev gets : Noted
gets = noted 0 32 1 did.Got (said.Done (int 7)) (Took handed) None

-- domain 1

abbrev adds_five : Noted
adds_five = noted 1 13 0 (did.Add 0 (int 5)) (said.Done value.Unit) (Called (asked (others_wait 1) (2 ^ 56) (call.Add 0 (int 5))) (answer.Done value.Unit) None) None

abbrev takes_five : Noted
takes_five = noted 1 15 0 (did.Take 0) (said.Done (int 5)) (Called (asked (others_wait 14) (2 ^ 56) (call.Take 0)) (answer.Done (int 5)) None) None

abbrev adds_seven : Noted
adds_seven = noted 1 28 0 (did.Add 0 (int 7)) (said.Done value.Unit) (Called (asked (others_wait 16) (2 ^ 56) (call.Add 0 (int 7))) (answer.Done value.Unit) None) (Some (record { receiver = 0; message = handed }))

abbrev logs : (domain : ℕ) → List Noted
logs zero = opens_context ∷ opens_switch ∷ forks_taking ∷ first_take ∷ cancels ∷ strike_won ∷ closes ∷ protects ∷ opens_inner ∷ forks_failing ∷ yields ∷ second_take ∷ fails ∷ strike_lost ∷ gets ∷ []
logs (suc zero) = adds_five ∷ takes_five ∷ adds_seven ∷ []
logs (suc (suc d)) = []

abbrev lines : List Noted
lines = opens_context ∷ opens_switch ∷ forks_taking ∷ first_take ∷ cancels ∷ strike_won ∷ adds_five ∷ takes_five ∷ closes ∷ protects ∷ opens_inner ∷ forks_failing ∷ yields ∷ second_take ∷ adds_seven ∷ fails ∷ strike_lost ∷ gets ∷ []

abbrev first : (domain : ℕ) → DomainState
first zero = opening_domain 0 script.texts body
first (suc zero) = opening_domain 1 script.texts other_body
first (suc (suc d)) = opening_domain (suc (suc d)) script.texts body

abbrev ends : (domain : ℕ) → DomainState
ends d = end_by script (first d) (logs d)

-- ## The local runs

below : (n more : ℕ) → n < n + suc more
below n more = omega arith

moves_0 : AreMoves script (first 0) (logs 0)
unfolding asks after line_of own_call prepared waiting_from way_within value_of values_of statement answered
moves_0 = (refl, refl, below 0 1, refl, (refl, refl, below 2 1, refl, (refl, refl, below 4 1, refl, (refl, refl, below 6 1, refl, (refl, refl, below 8 1, refl, (refl, refl, below 10 1, refl, (refl, refl, below 12 3, refl, (refl, refl, below 16 1, refl, (refl, refl, below 18 1, refl, (refl, refl, below 20 1, refl, (refl, refl, below 22 1, refl, (refl, refl, below 24 1, refl, (refl, refl, below 26 2, refl, (refl, refl, below 29 0, refl, (refl, refl, below 30 1, refl, tt)))))))))))))))

moves_1 : AreMoves script (first 1) (logs 1)
unfolding asks after line_of own_call prepared waiting_from way_within value_of values_of statement answered
moves_1 = (refl, refl, below 0 12, refl, (refl, refl, below 13 1, refl, (refl, refl, below 15 12, refl, tt)))

-- ## The parts

abbrev entry : (domain stamp : ℕ) → Asked → Answer → Option Letter → List Skipped → Entry
entry d stamp it given away skipped = record { made = record { domain = d; stamp = stamp; asked = it; answer = given; mine = None; away = away }; skipped = skipped }

-- the word of the cell once the first wait was cancelled
abbrev dead : Skipped
dead = record { who = first_wait; word = 51 }

abbrev entries : (object : ℕ) → List Entry
entries zero =
    entry 0 8 (asked first_wait 0 (call.Take 0)) answer.Waits None []
    ∷ entry 1 13 (asked (others_wait 1) (2 ^ 56) (call.Add 0 (int 5))) (answer.Done value.Unit) None (dead ∷ [])
    ∷ entry 1 15 (asked (others_wait 14) (2 ^ 56) (call.Take 0)) (answer.Done (int 5)) None []
    ∷ entry 0 26 (asked second_wait 1 (call.Take 0)) answer.Waits None []
    ∷ entry 1 28 (asked (others_wait 16) (2 ^ 56) (call.Add 0 (int 7))) (answer.Done value.Unit) (Some (record { receiver = 0; message = handed })) []
    ∷ []
entries (suc object) = []

abbrev cells : (cell : ℕ) → List Mark
cells zero = []
cells (suc zero) = Arms 7 0 ∷ Decides Cancelled 7 12 0 ∷ Arms 25 0 ∷ Decides Woken 25 28 1 ∷ []
cells (suc (suc cell)) = []

abbrev parts : Parts
parts = record {
  owner = λ cell. cell / 1024;
  declared = stream 1 ∷ [];
  logs = logs;
  entries = entries;
  cells = cells;
  left = λ receiver sender. [];
}

-- ## Numbers that differ

not_0 : (n : ℕ) → (0 == suc n) ≡ false
not_0 n = ne_eqb 0 (suc n) (λ e. omega arith)

not_1 : (n : ℕ) → (1 == suc (suc n)) ≡ false
not_1 n = ne_eqb 1 (suc (suc n)) (λ e. omega arith)

abbrev AreOthersCalls : (domain : ℕ) → List Made → Type 0
AreOthersCalls d [] = Unit {0}
AreOthersCalls d (m ∷ ms) = ((m.domain == d) ≡ false) × AreOthersCalls d ms

no_calls_of : (d : ℕ) (ms : List Made) → AreOthersCalls d ms → calls_of d ms ≡ []
no_calls_of d [] h = refl
no_calls_of d (m ∷ ms) h = others_call d m ms h.0 ∙ no_calls_of d ms h.1

abbrev IsOnOther : (object : ℕ) → Label → Type 0
IsOnOther object Inner = Unit {0}
IsOnOther object (Called asked it mine) = (asked.object == object) ≡ false
IsOnOther object (Struck who won) = Unit {0}
IsOnOther object (Mocked asked it texts) = Unit {0}
IsOnOther object (Took m) = Unit {0}

abbrev AreOnOthers : (object : ℕ) → List Noted → Type 0
AreOnOthers object [] = Unit {0}
AreOnOthers object (x ∷ xs) = IsOnOther object x.label × AreOnOthers object xs

no_call_on : (object : ℕ) (x : Noted) (label : Label) (rest : List Made) → IsOnOther object label → call_on object x label rest ≡ rest
no_call_on object x Inner rest h = refl
no_call_on object x (Called asked it mine) rest h =
    ap (λ (b : Bool). elim b [ true ↦ record { domain = domain_of x; stamp = stamp_of x; asked = asked; answer = it; mine = mine; away = x.away } ∷ rest | false ↦ rest ]) h
no_call_on object x (Struck who won) rest h = refl
no_call_on object x (Mocked asked it texts) rest h = refl
no_call_on object x (Took m) rest h = refl

no_calls_on : (object : ℕ) (xs : List Noted) → AreOnOthers object xs → calls_on object xs ≡ []
no_calls_on object [] h = refl
no_calls_on object (x ∷ xs) h = no_call_on object x x.label (calls_on object xs) h.0 ∙ no_calls_on object xs h.1

abbrev AreOthersLines : (domain : ℕ) → List Noted → Type 0
AreOthersLines d [] = Unit {0}
AreOthersLines d (x ∷ xs) = ((domain_of x == d) ≡ false) × AreOthersLines d xs

no_lines_of : (d : ℕ) (xs : List Noted) → AreOthersLines d xs → lines_of d xs ≡ []
no_lines_of d [] h = refl
no_lines_of d (x ∷ xs) h = others_line x xs d h.0 ∙ no_lines_of d xs h.1

abbrev AreOfOthers : (receiver sender : ℕ) → List Noted → Type 0
AreOfOthers receiver sender [] = Unit {0}
AreOfOthers receiver sender (x ∷ xs) = ((domain_of x == receiver && x.from == sender) ≡ false) × AreOfOthers receiver sender xs

no_takes : (receiver sender : ℕ) (xs : List Noted) → AreOfOthers receiver sender xs → takes receiver sender xs ≡ []
no_takes receiver sender [] h = refl
no_takes receiver sender (x ∷ xs) h = takes_others receiver sender x xs h.0 ∙ no_takes receiver sender xs h.1

-- ## They fit together

early : (n : ℕ) → n < 100 → n < stamps_below
early n h = let far : 100 < stamps_below = below 100 (2 ^ 60 - 101) in omega (arith, h, far)

fit_logs : (d : ℕ) → IsLog d 0 (logs d)
fit_logs zero = (refl, below 0 1, early 2 (below 2 97), (refl, below 2 1, early 4 (below 4 95), (refl, below 4 1, early 6 (below 6 93), (refl, below 6 1, early 8 (below 8 91), (refl, below 8 1, early 10 (below 10 89), (refl, below 10 1, early 12 (below 12 87), (refl, below 12 3, early 16 (below 16 83), (refl, below 16 1, early 18 (below 18 81), (refl, below 18 1, early 20 (below 20 79), (refl, below 20 1, early 22 (below 22 77), (refl, below 22 1, early 24 (below 24 75), (refl, below 24 1, early 26 (below 26 73), (refl, below 26 2, early 29 (below 29 70), (refl, below 29 0, early 30 (below 30 69), (refl, below 30 1, early 32 (below 32 67), tt)))))))))))))))
fit_logs (suc zero) = (refl, below 0 12, early 13 (below 13 86), (refl, below 13 1, early 15 (below 15 84), (refl, below 15 12, early 28 (below 28 71), tt)))
fit_logs (suc (suc d)) = tt

fit_waits : (d : ℕ) → OwnWaits parts.owner d 0 (logs d)
fit_waits zero = (tt, (tt, (tt, ((λ e. (below 6 0, below 7 0, refl)), (tt, (refl, (tt, (tt, (tt, (tt, (tt, ((λ e. (below 24 0, below 25 0, refl)), (tt, (refl, (tt, tt)))))))))))))))
fit_waits (suc zero) = ((λ e. absurd (cc)), ((λ e. absurd (cc)), ((λ e. absurd (cc)), tt)))
fit_waits (suc (suc d)) = tt

fit_calls : (object d : ℕ) → calls_of d (calls_in (entries object)) ≡ calls_on object (logs d)
fit_calls zero zero = refl
fit_calls zero (suc zero) = refl
fit_calls zero (suc (suc d)) = no_calls_of (suc (suc d)) (calls_in (entries 0)) (not_0 (suc d), (not_1 d, (not_1 d, (not_0 (suc d), (not_1 d, tt)))))
fit_calls (suc object) zero = sym (no_calls_on (suc object) (logs 0) (tt, (tt, (tt, (not_0 object, (tt, (tt, (tt, (tt, (tt, (tt, (tt, (not_0 object, (tt, (tt, (tt, tt))))))))))))))))
fit_calls (suc object) (suc zero) = sym (no_calls_on (suc object) (logs 1) (not_0 object, (not_0 object, (not_0 object, tt))))
fit_calls (suc object) (suc (suc d)) = refl

fit_histories : (object : ℕ) → IsObjectHistory (row_at parts.declared object) 0 (entries object)
fit_histories zero = (record { later = below 0 7; answer = refl; mine = refl; away = refl; decided = tt }, (record { later = below 8 4; answer = refl; mine = refl; away = refl; decided = ((λ e. absurd (omega (arith, e)), le_of_lt (below 7 4), below 12 0), tt) }, (record { later = below 13 1; answer = refl; mine = refl; away = refl; decided = tt }, (record { later = below 15 10; answer = refl; mine = refl; away = refl; decided = tt }, (record { later = below 26 1; answer = refl; mine = refl; away = refl; decided = tt }, tt)))))
fit_histories (suc object) = tt

fit_skips : (object : ℕ) → SkipsCancelled cells (entries object)
fit_skips zero = (tt, (((12, 0, below 12 0, inr (inl refl)), tt), (tt, (tt, (tt, tt)))))
fit_skips (suc object) = tt

fit_none : (object : ℕ) → length parts.declared ≤ object → entries object ≡ []
fit_none zero h = absurd (omega (arith, h))
fit_none (suc object) h = refl

fit_cells : (cell : ℕ) → IsHistory (cells cell)
fit_cells zero = tt
fit_cells (suc zero) = (below 0 6, (refl, below 7 4, (below 12 12, (refl, below 25 2, tt))))
fit_cells (suc (suc cell)) = tt

fit_fair : (d : ℕ) → AllFair cells (logs d)
fit_fair zero = (record { marked = tt; fair = refl; stamp = tt }, (record { marked = tt; fair = refl; stamp = tt }, (record { marked = tt; fair = refl; stamp = tt }, (record { marked = tt; fair = tt; stamp = tt }, (record { marked = tt; fair = refl; stamp = tt }, (record { marked = inr (inl refl); fair = refl; stamp = tt }, (record { marked = tt; fair = refl; stamp = tt }, (record { marked = tt; fair = refl; stamp = tt }, (record { marked = tt; fair = refl; stamp = tt }, (record { marked = tt; fair = refl; stamp = tt }, (record { marked = tt; fair = refl; stamp = tt }, (record { marked = tt; fair = tt; stamp = tt }, (record { marked = tt; fair = refl; stamp = tt }, (record { marked = tt; fair = (refl, (28, 1, below 28 1, inr (inr (inr (inl refl))))); stamp = tt }, (record { marked = tt; fair = (refl, below 28 3); stamp = tt }, tt)))))))))))))))
fit_fair (suc zero) = (record { marked = tt; fair = tt; stamp = tt }, (record { marked = tt; fair = tt; stamp = tt }, (record { marked = inr (inr (inr (inl refl))); fair = tt; stamp = refl }, tt)))
fit_fair (suc (suc d)) = tt

-- what a mark of cell 1 asks of its maker's log
abbrev IsMade : Mark → Type 0
IsMade (Arms armed maker) = Unit {0}
IsMade (Decides decision armed stamp maker) = IsDecidedBy (logs maker) decision 1 armed stamp

all_made : (mark : Mark) → IsIn mark (cells 1) → IsMade mark
all_made mark i = ⊎_elim (λ (e : Arms 7 0 ≡ mark). subst IsMade e tt)
    (λ (j : IsIn mark (Decides Cancelled 7 12 0 ∷ Arms 25 0 ∷ Decides Woken 25 28 1 ∷ [])). ⊎_elim (λ (e : Decides Cancelled 7 12 0 ≡ mark). subst IsMade e (inr (inr (inr (inr (inr (inl (refl, (first_wait, refl, refl, refl)))))))))
    (λ (k : IsIn mark (Arms 25 0 ∷ Decides Woken 25 28 1 ∷ [])). ⊎_elim (λ (e : Arms 25 0 ≡ mark). subst IsMade e tt)
    (λ (l : IsIn mark (Decides Woken 25 28 1 ∷ [])). ⊎_elim (λ (e : Decides Woken 25 28 1 ≡ mark). subst IsMade e (inr (inr (inl (refl, (second_wait, refl, refl, refl)))))) (λ (m : ⊥). absurd m) l) k) j) i

fit_decisions : (cell : ℕ) (decision : Decision) (armed stamp maker : ℕ) → IsIn (Decides decision armed stamp maker) (cells cell) → IsDecidedBy (logs maker) decision cell armed stamp
fit_decisions zero decision armed stamp maker i = absurd i
fit_decisions (suc zero) decision armed stamp maker i = all_made (Decides decision armed stamp maker) i
fit_decisions (suc (suc cell)) decision armed stamp maker i = absurd i

fit_posts : (receiver sender : ℕ) → sends sender receiver (logs sender) ≡ takes receiver sender (logs receiver) ++ []
fit_posts zero zero = refl
fit_posts zero (suc zero) = refl
fit_posts zero (suc (suc s)) = sym (ap (λ (l : List Message). l ++ []) (no_takes 0 (suc (suc s)) (logs 0) (not_1 s, (not_1 s, (not_1 s, (not_1 s, (not_1 s, (not_1 s, (not_1 s, (not_1 s, (not_1 s, (not_1 s, (not_1 s, (not_1 s, (not_1 s, (not_1 s, (not_1 s, tt)))))))))))))))))
fit_posts (suc zero) zero = refl
fit_posts (suc zero) (suc zero) = refl
fit_posts (suc zero) (suc (suc s)) = sym (ap (λ (l : List Message). l ++ []) (no_takes 1 (suc (suc s)) (logs 1) (not_1 s, (not_1 s, (not_1 s, tt)))))
fit_posts (suc (suc r)) zero = refl
fit_posts (suc (suc r)) (suc zero) = ap (λ (b : Bool). elim b [ true ↦ handed ∷ [] | false ↦ [] ]) (not_0 (suc r))
fit_posts (suc (suc r)) (suc (suc s)) = refl

fit : Fit parts
fit = record {
  logs = fit_logs;
  waits = fit_waits;
  calls = fit_calls;
  histories = fit_histories;
  skips = fit_skips;
  none = fit_none;
  cells = fit_cells;
  fair = fit_fair;
  decisions = fit_decisions;
  posts = fit_posts;
}

merged_are : (d : ℕ) → lines_of d lines ≡ logs d
merged_are zero = refl
merged_are (suc zero) = refl
merged_are (suc (suc d)) = no_lines_of (suc (suc d)) lines (not_0 (suc d), (not_0 (suc d), (not_0 (suc d), (not_0 (suc d), (not_0 (suc d), (not_0 (suc d), (not_1 d, (not_1 d, (not_0 (suc d), (not_0 (suc d), (not_0 (suc d), (not_0 (suc d), (not_0 (suc d), (not_0 (suc d), (not_1 d, (not_0 (suc d), (not_0 (suc d), (not_0 (suc d), tt))))))))))))))))))

merged : IsMerged logs lines
merged = record { rises = (inl (below 0 1), (inl (below 2 1), (inl (below 4 1), (inl (below 6 1), (inl (below 8 1), (inl (below 10 1), (inl (below 12 0), (inl (below 13 1), (inl (below 15 0), (inl (below 16 1), (inl (below 18 1), (inl (below 20 1), (inl (below 22 1), (inl (below 24 1), (inl (below 26 1), (inl (below 28 0), (inl (below 29 0), (inl (below 30 1), tt)))))))))))))))))); are = merged_are }

declared_takers : (object : ℕ) → (row_at parts.declared object).takers ≡ []
declared_takers zero = refl
declared_takers (suc object) = refl

declared_adders : (object : ℕ) → (row_at parts.declared object).adders ≡ []
declared_adders zero = refl
declared_adders (suc object) = refl

local_runs : (d : ℕ) → LocalRun (DomainMoves script) (first d) (logs d) (ends d)
local_runs zero = runs_by script (first 0) (logs 0) moves_0
local_runs (suc zero) = runs_by script (first 1) (logs 1) moves_1
local_runs (suc (suc d)) = refl

-- the shared part is as the script opens it
opens : shared_at_first parts.declared ≡ opening_shared (most_jobs script) script.declarations
opens = refl

-- so the lines are a legal run
legal : Reaches (DomainMoves script) parts first ends lines
legal = parts_make_a_legal_run script parts first ends lines (declared_takers, declared_adders) fit merged local_runs
