-- Work of the built forms comes to a call of theirs, with work of theirs behind it.
use Rattle.std.proofs.Common.{ℕ, zero, suc, true, false, List, [], ◌∷◌, ◌++◌, ℤ, pos, negsuc, length, arith}
use Rattle.std.specs.Prelude.{All}
use Rattle.eio_value.specs.declared.raised.Outcome.TheVariants as outcome
use Rattle.eio_value.specs.declared.raised.Raised.{Raised}
use Rattle.eio_value.specs.declared.value.Value.{Value}
use Rattle.eio_value.specs.declared.value.Value.TheVariants as value
use Rattle.spec_script.specs.Syntax as syntax
use Rattle.spec_script.specs.Syntax.{Statement, Let, LetForm, If, Give, Raise, Try, Repeat, Loop, Trace, Yield, Check, AwaitCancel, Sub, Protect, Cancel, Switch, Fork, Plain, Daemon, Fail, OnRelease, Branches, Group, Both, First, Any, Block, Begins, Statements, Done, Then, Blocks, NoBlocks, AndBlock}
use Rattle.spec_fiber.specs.Asks as ask
use Rattle.spec_fiber.specs.Asks.{Ask}
use Rattle.spec_fiber.specs.Evaluation.{value_of, values_of, number_of}
use Rattle.spec_fiber.specs.Settling.{Settled, answered, thrown}
use Rattle.spec_fiber.specs.Silent.{Past, Threw, and_then, within, asks, is_zero, gives, items_of, blocks_of, branched, repeats, repeated, statement, block, statements}
use Rattle.spec_fiber.specs.Work as work
use Rattle.spec_fiber.specs.Work.{Work, Run, Cut, Restore, Bind, Leave, Close, Closing, Join, Carry, cut, restored, bound, caught}
use Rattle.law_domain.specs.Sound.BuiltForms.{HasBranches, IsBuilt, IsBuiltBlock, AreBuiltBranches, AreBuilt, AreBuiltWork, IsBuiltCall}
use Rattle.law_domain.specs.Sound.Laws.{BuiltSettle}
use Rattle.law_domain.proofs.Sound.Lists.{all_front, all_none}
use Rattle.law_domain.proofs.Sound.Going.{EachCall, each_then, each_within, each_value, each_either, each_settles}

-- the statements of a built block are built
pub items_built : (block : Block) → IsBuiltBlock block → AreBuilt (items_of block)
unfolding IsBuiltBlock
items_built (Begins number items) built = built

pub built_append : (behind more : List Work) → AreBuiltWork behind → AreBuiltWork more → AreBuiltWork (behind ++ more)
built_append [] more built rest = rest
built_append (item ∷ behind) more built rest = (built.0, built_append behind more built.1 rest)

-- ## Statements

abbrev AreBoth : Ask → List Work → Type 0
AreBoth call behind = IsBuiltCall call × AreBuiltWork behind

with_more : (more : List Work) → AreBuiltWork more → (call : Ask) (behind : List Work) → AreBoth call behind → AreBoth call (behind ++ more)
with_more more built call behind is = (is.0, built_append behind more is.1 built)

repeats_built : (turn left : ℕ) (body : Block) (keep : ℕ) (c : Carry) → IsBuiltBlock body → EachCall AreBoth (repeats turn left body keep c)
repeats_built turn left body keep c built = (tt, (items_built body built, (built, tt)))

repeated_built : (z : ℤ) (body : Block) (c : Carry) → IsBuiltBlock body → EachCall AreBoth (repeated z body c)
repeated_built (pos zero) body c built = tt
repeated_built (pos (suc left)) body c built = repeats_built 0 left body (length c.variables) c built
repeated_built (negsuc n) body c built = tt

branches_built : (branches : Blocks) → AreBuiltBranches branches → All IsBuiltBlock (blocks_of branches)
unfolding AreBuiltBranches
branches_built NoBlocks built = all_none IsBuiltBlock
branches_built (AndBlock block rest) built = all_front IsBuiltBlock block (blocks_of rest) built.0 (branches_built rest built.1)

some_branches : (group : Group) (first : Block) (rest : Blocks) (c : Carry) → AreBuiltBranches (AndBlock first rest) → AreBoth (ask.Branches group (first ∷ blocks_of rest)) []
some_branches group first rest c built = ((omega arith, branches_built (AndBlock first rest) built), tt)

branched_built : (group : Group) (branches : Blocks) (c : Carry) → HasBranches group branches → AreBuiltBranches branches → EachCall AreBoth (branched group branches c)
branched_built syntax.All NoBlocks c has built = tt
branched_built syntax.All (AndBlock first rest) c has built = some_branches syntax.All first rest c built
branched_built Any NoBlocks c has built = (tt, tt)
branched_built Any (AndBlock first rest) c has built = some_branches Any first rest c built
branched_built Both NoBlocks c has built = absurd has
branched_built Both (AndBlock first rest) c has built = some_branches Both first rest c built
branched_built First NoBlocks c has built = absurd has
branched_built First (AndBlock first rest) c has built = some_branches First first rest c built

mutual
  unfolding statement block statements IsBuilt IsBuiltBlock AreBuilt

  statement_built : (it : Statement) (c : Carry) → IsBuilt it → EachCall AreBoth (statement it c)
  statement_built (Let e) c built = each_value AreBoth (value_of c.variables e) c (λ it. Past value.Unit (bound (length c.variables) it c)) (λ it. tt)
  statement_built (LetForm form) c built =
      each_then AreBoth (statement form c) (λ it d. Past value.Unit (bound (length c.variables) it d)) Threw (work.Bind (length c.variables) ∷ [])
      (with_more (work.Bind (length c.variables) ∷ []) (tt, tt)) (statement_built form c built) (λ it d. tt) (λ r d. tt)
  statement_built (If test first second) c built =
      each_value AreBoth (number_of c.variables test) c (λ z. within (length c.variables) (elim (is_zero z) [ true ↦ block second c | false ↦ block first c ]))
      (λ z. each_within AreBoth (length c.variables) (elim (is_zero z) [ true ↦ block second c | false ↦ block first c ]) (with_more (Cut (length c.variables) ∷ []) (tt, tt))
      (each_either AreBoth (is_zero z) (block second c) (block first c) (block_built second c built.1) (block_built first c built.0)))
  statement_built (Give e) c built = each_value AreBoth (value_of c.variables e) c (λ it. Past it c) (λ it. tt)
  statement_built (Raise text) c built = tt
  statement_built (Try tried handler) c built =
      each_then AreBoth (block tried c) (λ it d. Past it (cut (length c.variables) d))
      (λ r d. within (length c.variables) (block handler (caught (length c.variables) r d))) (work.Try handler (length c.variables) ∷ [])
      (with_more (work.Try handler (length c.variables) ∷ []) (built.1, tt)) (block_built tried c built.0) (λ it d. tt)
      (λ r d. each_within AreBoth (length c.variables) (block handler (caught (length c.variables) r d)) (with_more (Cut (length c.variables) ∷ []) (tt, tt))
      (block_built handler (caught (length c.variables) r d) built.1))
  statement_built (Repeat times body) c built = each_value AreBoth (number_of c.variables times) c (λ z. repeated z body c) (λ z. repeated_built z body c built)
  statement_built (Loop body) c built = (tt, (items_built body built, (built, tt)))
  statement_built (Trace operands) c built = each_value AreBoth (values_of c.variables operands) c (λ values. asks (ask.Trace values) c) (λ values. (tt, tt))
  statement_built Yield c built = (tt, tt)
  statement_built Check c built = (tt, tt)
  statement_built AwaitCancel c built = (tt, tt)
  statement_built (Sub body) c built = (built, tt)
  statement_built (Protect body) c built = (built, tt)
  statement_built (Cancel context text) c built = (tt, tt)
  statement_built (Switch body) c built = (built, tt)
  statement_built (Fork Plain switch body) c built = (built, tt)
  statement_built (Fork Daemon switch body) c built = (built, tt)
  statement_built (Fail switch text) c built = (tt, tt)
  statement_built (OnRelease switch handler) c built = (built, tt)
  statement_built (Branches group branches) c built = branched_built group branches c built.0 built.1
  statement_built it c built = absurd built

  block_built : (it : Block) (c : Carry) → IsBuiltBlock it → EachCall AreBoth (block it c)
  block_built (Begins number items) c built = statements_built items c built

  statements_built : (items : Statements) (c : Carry) → AreBuilt items → EachCall AreBoth (statements items c)
  statements_built Done c built = tt
  statements_built (Then it rest) c built =
      each_either AreBoth (gives it) (statement it c) (and_then (statement it c) (λ v d. statements rest d) Threw (work.Run rest ∷ []))
      (statement_built it c built.0)
      (each_then AreBoth (statement it c) (λ v d. statements rest d) Threw (work.Run rest ∷ []) (with_more (work.Run rest ∷ []) (built.1, tt))
      (statement_built it c built.0) (λ v d. statements_built rest d built.1) (λ r d. tt))

-- ## Work

abbrev IsBuiltThen : Settled → Type 0
IsBuiltThen settled = IsBuiltCall settled.call × AreBuiltWork settled.behind

both_settle : (more : List Work) → AreBuiltWork more → (call : Ask) (behind : List Work) (c : Carry) → AreBoth call behind
    → IsBuiltThen (record { call = call; behind = behind ++ more; carry = c })
both_settle more built call behind c is = (is.0, built_append behind more is.1 built)

mutual
  unfolding answered thrown

  answered_built : (items : List Work) (it : Value) (c : Carry) → AreBuiltWork items → IsBuiltThen (answered items it c)
  answered_built [] it c built = (tt, tt)
  answered_built (Run these ∷ items) it c built =
      each_settles AreBoth IsBuiltThen (statements these c) (λ u d. answered items u d) (λ r d. thrown items r d) items (statements_built these c built.0)
      (both_settle items built.1) (λ u d. answered_built items u d built.1) (λ r d. thrown_built items r d built.1)
  answered_built (Cut keep ∷ items) it c built = answered_built items it (cut keep c) built.1
  answered_built (Restore variables ∷ items) it c built = answered_built items it (restored variables c) built.1
  answered_built (work.Try handler keep ∷ items) it c built = answered_built items it (cut keep c) built.1
  answered_built (Bind slot ∷ items) it c built = answered_built items value.Unit (bound slot it c) built.1
  answered_built (work.Loop body keep ∷ items) it c built = (tt, (items_built body built.0, built))
  answered_built (work.Repeat turn zero body keep ∷ items) it c built = answered_built items value.Unit (cut keep c) built.1
  answered_built (work.Repeat turn (suc left) body keep ∷ items) it c built = (tt, (items_built body built.0, built))
  answered_built (Leave context late keep ∷ items) it c built = (tt, built.1)
  answered_built (Close switch keep ∷ items) it c built = (tt, built.1)
  answered_built (Closing switch kept ∷ items) it c built = (tt, built.1)
  answered_built (Join group keep ∷ items) it c built = (tt, built.1)
  answered_built (item ∷ items) it c built = absurd built.0

  thrown_built : (items : List Work) (r : Raised) (c : Carry) → AreBuiltWork items → IsBuiltThen (thrown items r c)
  thrown_built [] r c built = (tt, tt)
  thrown_built (Run these ∷ items) r c built = thrown_built items r c built.1
  thrown_built (Cut keep ∷ items) r c built = thrown_built items r c built.1
  thrown_built (Restore variables ∷ items) r c built = thrown_built items r (restored variables c) built.1
  thrown_built (work.Try handler keep ∷ items) r c built =
      each_settles AreBoth IsBuiltThen (block handler (caught keep r c)) (λ u d. answered items u (cut keep d)) (λ q d. thrown items q d) (Cut keep ∷ items)
      (block_built handler (caught keep r c) built.0) (both_settle (Cut keep ∷ items) (tt, built.1))
      (λ u d. answered_built items u (cut keep d) built.1) (λ q d. thrown_built items q d built.1)
  thrown_built (Bind slot ∷ items) r c built = thrown_built items r c built.1
  thrown_built (work.Loop body keep ∷ items) r c built = thrown_built items r c built.1
  thrown_built (work.Repeat turn left body keep ∷ items) r c built = thrown_built items r c built.1
  thrown_built (Leave context late keep ∷ items) r c built = (tt, built.1)
  thrown_built (Close switch keep ∷ items) r c built = (tt, built.1)
  thrown_built (Closing switch kept ∷ items) r c built = (tt, built.1)
  thrown_built (Join group keep ∷ items) r c built = (tt, built.1)
  thrown_built (item ∷ items) r c built = absurd built.0

pub built_settle : BuiltSettle
built_settle (outcome.Ok it) items c built = answered_built items it c built
built_settle (outcome.Err raised) items c built = thrown_built items raised c built
