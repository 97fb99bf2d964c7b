-- Expressions that are read are sound.
use Rattle.std.proofs.Common.{◌≡◌, ℕ, ◌+◌, ◌≤◌, Bool, false, Option, Some, arith}
use Rattle.std.specs.Prelude.{nat_le}
use Rattle.std.proofs.lemmas.Bool.{leb-false}
use Rattle.spec_script.specs.declared.Feature.TheVariants.{Exceptions}
use Rattle.spec_script.specs.Faults.{Shape}
use Rattle.spec_script.specs.Forms.{ExpressionHead, UnitHead, OperatorHead, expression_head}
use Rattle.spec_script.specs.Kinds.{VariableKind}
use Rattle.spec_script.specs.Limits.{most_traced}
use Rattle.spec_script.specs.Reads.{one_node, one_form, interned}
use Rattle.spec_script.specs.Scopes.{Scope}
use Rattle.spec_script.specs.Syntax.{Expression, NumberValue, TextValue, Variable, UnitValue, Operation, Expressions, NoExpressions, AndExpression}
use Rattle.spec_script.specs.Trees.{Tree, Word, Number, Text, Branch, Trees, Nil, And}
use Rattle.spec_script.specs.Expressions.{item, operation, expression, traced}
use Rattle.law_script.specs.Scripts.Numbers.{HasFittingNumbers, HaveFittingNumbers}
use Rattle.law_script.specs.Scripts.Soundness.{Known, IsSoundExpression, AreSoundExpressions, expression_count}
use Rattle.law_script.proofs.Scripts.Names.{Fits, used_has}
use Rattle.law_script.proofs.Scripts.Steps.{Gives, given, refused, going_on, past, weaker, with_room}

-- a sound expression, and there was room for it
abbrev pub IsItem : Known → (full : Bool) → Expression → Type 0
IsItem known full e = (full ≡ false) × IsSoundExpression known e

mutual
  unfolding item operation IsSoundExpression HasFittingNumbers HaveFittingNumbers

  pub item_is_sound : (known : Known) (scope : Scope) → Fits known scope → (full : Bool) (tree : Tree) → HasFittingNumbers tree → Gives (IsItem known full) (item scope full tree)
  item_is_sound known scope fits full (Word at name) numbers =
      with_room full at λ room. past one_node λ _. going_on (used_has VariableKind known scope fits (Word at name)) λ slot has. given (Variable slot) (room, has)
  item_is_sound known scope fits full (Number at z) numbers = with_room full at λ room. past one_node λ _. given (NumberValue z) (room, numbers)
  item_is_sound known scope fits full (Text at text) numbers =
      with_room full at λ room. past one_node λ _. past (interned text) λ id. given (TextValue id) (room, tt)
  item_is_sound known scope fits full (Branch at (And (Word place word) operands)) numbers =
      operation_is_sound known scope fits full at (expression_head word) operands numbers.1
  item_is_sound known scope fits full (Branch at row) numbers = refused (Shape at)

  operation_is_sound : (known : Known) (scope : Scope) → Fits known scope → (full : Bool) (at : ℕ) (head : Option ExpressionHead) (operands : Trees) → HaveFittingNumbers operands
      → Gives (IsItem known full) (operation scope full at head operands)
  operation_is_sound known scope fits full at (Some UnitHead) Nil numbers =
      with_room full at λ room. past (one_form at Exceptions false) λ _. past one_node λ _. given UnitValue (room, tt)
  operation_is_sound known scope fits full at (Some (OperatorHead operator)) (And first (And second Nil)) numbers =
      with_room full at λ room. past (one_form at Exceptions false) λ _. past one_node λ _.
      going_on (item_is_sound known scope fits false first numbers.0) λ left left_sound.
      going_on (item_is_sound known scope fits false second numbers.1.0) λ right right_sound.
      given (Operation operator left right) (room, (left_sound.1, right_sound.1))
  operation_is_sound known scope fits full at head operands numbers = refused (Shape at)

pub expression_is_sound : (known : Known) (scope : Scope) → Fits known scope → (tree : Tree) → HasFittingNumbers tree → Gives (IsSoundExpression known) (expression scope tree)
expression_is_sound known scope fits tree numbers = weaker (λ e sound. sound.1) (item_is_sound known scope fits false tree numbers)

-- operands, and those before them, are as many as may be at most
abbrev pub AreOperands : Known → (before : ℕ) → Expressions → Type 0
AreOperands known before es = AreSoundExpressions known es × (expression_count es + before ≤ most_traced)

pub operands_are_sound : (known : Known) (scope : Scope) → Fits known scope → (n : ℕ) → n ≤ most_traced → (row : Trees) → HaveFittingNumbers row
    → Gives (AreOperands known n) (traced scope n row)
unfolding traced AreSoundExpressions expression_count HaveFittingNumbers
operands_are_sound known scope fits n few Nil numbers = given NoExpressions (tt, omega (arith, few))
operands_are_sound known scope fits n few (And tree row) numbers =
    going_on (item_is_sound known scope fits (nat_le most_traced n) tree numbers.0) λ first first_sound.
    let more : n + 1 ≤ most_traced = let less = leb-false most_traced n first_sound.0 in omega (arith, less) in
    going_on (operands_are_sound known scope fits (n + 1) more row numbers.1) λ others others_sound.
    given (AndExpression first others) ((first_sound.1, others_sound.0), omega (arith, others_sound.1))
