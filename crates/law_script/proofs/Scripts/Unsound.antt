-- What the judgement refuses: worked statements, each with one thing that no script that is read has.
use Rattle.std.proofs.Common.{◌≡◌, [], ◌∷◌, pos, ap, arith}
use Rattle.std.proofs.lemmas.Bool.{false≢true}
use Rattle.eio_value.specs.Table.{text_id}
use Rattle.spec_script.specs.Kinds.{VariableKind, ContextKind, SwitchKind, ExecutorKind, FlowKind, kind_number}
use Rattle.spec_script.specs.Syntax.{Statement, Let, Fail, Loop, Branches, Both, Submit, Now, Copy, NumberValue, Variable, Block, Begins, Done, Then, NoBlocks, AndBlock, Yield}
use Rattle.law_script.specs.Scripts.Soundness.{Known, in_body, with_slot, IsSoundExpression, block_count, IsSoundStatement, IsSoundBlock, AreSoundStatements}
use Rattle.law_script.specs.Scripts.Sharing.{IsSharedStatement, IsSharedBlock, AreSharedStatements}
use Rattle.law_script.proofs.Scripts.Lists.{none_some, same_Some}

abbrev nothing : Known
nothing = in_body []

abbrev one_block : Statement → Block
one_block it = Begins 0 (Then it Done)

-- a slot that isn't there
pub no_slot : IsSoundStatement nothing (Let (Variable 0)) → ⊥
unfolding IsSoundStatement IsSoundExpression
no_slot sound = none_some VariableKind sound

-- a context in place of a switch
pub other_kind : IsSoundStatement (with_slot ContextKind nothing) (Fail 0 (text_id 0)) → ⊥
unfolding IsSoundStatement
other_kind sound = absurd (let same : 1 ≡ 2 = ap kind_number (same_Some ContextKind SwitchKind sound) in omega (arith, same))

-- a declaration that isn't there
pub no_declaration : IsSoundStatement (in_body (FlowKind ∷ [])) (Copy 0 1) → ⊥
unfolding IsSoundStatement
no_declaration sound = none_some FlowKind sound.1

-- a number that needs more than 64 bits
pub great_number : IsSoundStatement nothing (Let (NumberValue (pos 9223372036854775808))) → ⊥
unfolding IsSoundStatement IsSoundExpression
great_number sound = false≢true sound

-- a job that uses a name of the block around it
pub job_outside : IsSoundStatement (with_slot SwitchKind (in_body (ExecutorKind ∷ []))) (Submit 0 1 [] (one_block (Fail 0 (text_id 0)))) → ⊥
unfolding IsSoundStatement IsSoundBlock AreSoundStatements
job_outside sound = none_some SwitchKind sound.4.0

-- a job that weighs nothing
pub no_weight : IsSoundStatement (in_body (ExecutorKind ∷ [])) (Submit 0 0 [] (one_block Yield)) → ⊥
unfolding IsSoundStatement
no_weight sound = absurd (let least = sound.1.0 in omega (arith, least))

-- one branch of `both`
pub one_branch : IsSoundStatement nothing (Branches Both (AndBlock (one_block Yield) NoBlocks)) → ⊥
unfolding IsSoundStatement block_count
one_branch sound = absurd (let two = sound.1 in omega (arith, two))

-- the clock, in whatever depth
pub deep_clock : IsSharedStatement (Loop (one_block (Loop (one_block Now)))) → ⊥
unfolding IsSharedStatement IsSharedBlock AreSharedStatements
deep_clock shared = shared.0.0
