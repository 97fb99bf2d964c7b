-- A fiber that goes into a switch's block, so that the premises of the laws can be met; and what the definitions refuse.
use Rattle.std.specs.Prelude.{flat_map, Contains}
use Rattle.std.proofs.Common.{◌≡◌, ℕ, ◌==◌, Bool, [], ◌∷◌, None, pos, refl, ap, arith}
use Rattle.std.proofs.lemmas.Bool.{false≢true}
use Rattle.std.proofs.lemmas.List.Elements.{All-nil, All-cons, Contains-get_or}
use Rattle.std.proofs.lemmas.Option.{none-some, same_Some}
use Rattle.eio_value.specs.declared.raised.Outcome.TheVariants as outcome
use Rattle.eio_value.specs.declared.value.Value.TheVariants as value
use Rattle.spec_script.specs.Kinds.{Kind, VariableKind, SwitchKind, kind_number}
use Rattle.spec_script.specs.Scripts.{Script}
use Rattle.spec_script.specs.Syntax.{Trace, Yield, Switch, Fork, Plain, Variable, NoExpressions, AndExpression, Block, Begins, Done, Then}
use Rattle.law_script.specs.Scripts.Soundness.{IsSoundExpression, AreSoundExpressions, IsSoundStatement, IsSoundBlock, AreSoundStatements}
use Rattle.spec_fiber.specs.Asks as ask
use Rattle.spec_fiber.specs.Numbered.{block_numbered, blocks_of_statement, blocks_from, blocks_of_statements}
use Rattle.spec_fiber.specs.Replies.{Position, entered}
use Rattle.spec_fiber.specs.Settling.{answered, thrown}
use Rattle.spec_fiber.specs.Silent.{statement, block, statements}
use Rattle.spec_fiber.specs.Work as work
use Rattle.spec_fiber.specs.Work.{Carry}
use Rattle.law_fiber.specs.Kinded.Kinds.{Facts, facts_of, HasKind, HasKinds, HasKindsOfCall, asked_by, HasKindsOfWork, HasKindsAt, HasKindsOfSettled}
use Rattle.law_fiber.proofs.Kinded.Settling.{kinds_stay}
use Rattle.law_fiber.proofs.Kinded.Between.{kinds_stay_between}

-- (eio 1 (main (switch s (fork s (yield)))))
abbrev forked : Block
forked = Begins 2 (Then Yield Done)

abbrev inner : Block
inner = Begins 1 (Then (Fork Plain 0 forked) Done)

abbrev main : Block
main = Begins 0 (Then (Switch inner) Done)

abbrev script : Script
script = record { version = 1; names = []; declarations = []; bodies = main ∷ []; texts = []; failures = []; formed = []; first_domain = None }

-- the third switch is known alone, and a context of that number
abbrev third : Kind → ℕ → Bool
third kind number = number == 3

abbrev facts : Facts
facts = facts_of script third

-- ## Blocks by their numbers

pub inner_numbered : block_numbered script 1 ≡ inner
unfolding block_numbered blocks_from blocks_of_statements blocks_of_statement
inner_numbered = refl

pub forked_numbered : block_numbered script 2 ≡ forked
unfolding block_numbered blocks_from blocks_of_statements blocks_of_statement
forked_numbered = refl

pub inner_its : Contains (flat_map blocks_from script.bodies) inner
unfolding blocks_from blocks_of_statements blocks_of_statement
inner_its = Contains-get_or (main ∷ inner ∷ forked ∷ []) 1 inner (omega arith)

pub forked_its : Contains (flat_map blocks_from script.bodies) forked
unfolding blocks_from blocks_of_statements blocks_of_statement
forked_its = Contains-get_or (main ∷ inner ∷ forked ∷ []) 2 forked (omega arith)

-- ## A fiber with kinds

switch_fits : HasKindsOfCall facts [] (ask.Switch inner)
unfolding IsSoundBlock AreSoundStatements IsSoundStatement blocks_from blocks_of_statements blocks_of_statement
switch_fits = (
  ((tt, refl, (tt, tt)), tt),
  All-cons facts.blocks inner (forked ∷ []) (record { its = inner_its; found = inner_numbered })
      (All-cons facts.blocks forked [] (record { its = forked_its; found = forked_numbered }) (All-nil facts.blocks)),
)

nothing_behind : HasKindsOfWork facts [] []
unfolding asked_by
nothing_behind = (tt, λ longer starts. tt)

abbrev inside : Position
inside = entered (ask.Switch inner) 3 [] []

inside_kinds : HasKindsAt facts inside
inside_kinds = kinds_stay_between.enters script third [] (ask.Switch inner) 3 [] [] switch_fits refl tt nothing_behind

abbrev carry : Carry
carry = record { variables = inside.variables; texts = []; serial = 0; raises = [] }

-- its next call is the fork, on the switch that was made
next_call : (answered inside.work value.Unit carry).call ≡ ask.Fork Plain 3 forked
unfolding answered thrown statement block statements
next_call = refl

next_kinds : HasKindsOfSettled facts (answered inside.work value.Unit carry)
next_kinds = kinds_stay script third (outcome.Ok value.Unit) inside.work carry inside_kinds.slots inside_kinds.variables inside_kinds.work

-- ## What is refused

number_is_no_switch : HasKind facts SwitchKind (value.Int (pos 3)) → ⊥
number_is_no_switch has = has

fourth_is_unknown : HasKind facts SwitchKind (value.Switch 4) → ⊥
fourth_is_unknown has = false≢true has

too_many : HasKinds facts [] (value.Unit ∷ []) → ⊥
too_many has = has

-- a fork on a slot that isn't there
no_slot : HasKindsOfWork facts [] (work.Run (Then (Fork Plain 0 forked) Done) ∷ []) → ⊥
unfolding asked_by AreSoundStatements IsSoundStatement
no_slot has = none-some SwitchKind has.0.0.0.0.1

-- a variable is no switch to fork on
no_switch : HasKindsOfWork facts (VariableKind ∷ []) (work.Run (Then (Fork Plain 0 forked) Done) ∷ []) → ⊥
unfolding asked_by AreSoundStatements IsSoundStatement
no_switch has = let same : 0 ≡ 2 = ap kind_number (same_Some VariableKind SwitchKind has.0.0.0.0.1) in omega (arith, same)

-- where an exception comes the name of the `let` that is under way isn't there, and so the handler's name has its slot. A value would bring both
abbrev names_second : Block
names_second = Begins 5 (Then (Trace (AndExpression (Variable 1) NoExpressions)) Done)

not_yet_bound : HasKindsOfWork facts [] (work.Bind 0 ∷ work.Run Done ∷ work.Try names_second 1 ∷ []) → ⊥
unfolding asked_by AreSoundStatements IsSoundStatement IsSoundBlock AreSoundExpressions IsSoundExpression
not_yet_bound has = none-some VariableKind (has.1 [] ([], refl)).0.0.0.0.0
