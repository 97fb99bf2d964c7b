-- Names, operands and expressions take no form away.
use Rattle.std.proofs.Common.{ℕ, ◌+◌, Bool, true, false, ◌&&◌, List, [], ◌∷◌, ◌++◌, length, Option, Some, None}
use Rattle.std.specs.Prelude.{nat_le, nat_lt, is_none, pos, negsuc, not}
use Rattle.eio_value.specs.declared.value.TextId.{TextId}
use Rattle.eio_value.specs.Table.{intern}
use Rattle.spec_script.specs.declared.Feature.TheVariants.{Exceptions}
use Rattle.spec_script.specs.Captures.{captured_behind, captured}
use Rattle.spec_script.specs.Expressions.{item, operation, expression, traced}
use Rattle.spec_script.specs.Faults.{Shape, Size, Twice, Name}
use Rattle.spec_script.specs.Forms.{ExpressionHead, UnitHead, OperatorHead, expression_head}
use Rattle.spec_script.specs.Kinds.{Kind, VariableKind, CapabilityKind, DirectoryKind, is_same_kind}
use Rattle.spec_script.specs.Limits.{Range, most_names, most_traced, most_captured}
use Rattle.spec_script.specs.Reads.{Formed, ◌>>>◌, gives, refuses, requires_that, interned, may_fail, text_of, failure_of, number_within}
use Rattle.spec_script.specs.Scopes.{Named, Scope, named_in, named, with_name, is_variable, bring, used_by, used, directory_by, directory_of}
use Rattle.spec_script.specs.Syntax.{Directory, Declared, Opened, NumberValue, TextValue, Variable, UnitValue, Operation, NoExpressions, AndExpression}
use Rattle.spec_script.specs.Trees.{Tree, Word, Number, Text, Branch, Trees, Nil, And, place_of}
use Rattle.law_script.proofs.Scripts.FormedSteps.{Keeps, told, given, refused, past, met, one_node_keeps, form_keeps}

-- ## Texts and numbers

pub interned_keeps : {Good : Formed → Type 0} (text : List ℕ) → Keeps Good (interned text)
interned_keeps text = told (λ made. (intern made.texts text).id) (λ made. record made { texts = (intern made.texts text).texts }) (λ made good. (good, tt))

may_fail_keeps : {Good : Formed → Type 0} (text : TextId) → Keeps Good (may_fail text)
may_fail_keeps text = told (λ made. tt) (λ made. record made { failures = made.failures ++ text ∷ [] }) (λ made good. (good, tt))

pub text_keeps : {Good : Formed → Type 0} (tree : Tree) → Keeps Good (text_of tree)
text_keeps (Text at text) = interned_keeps text
text_keeps tree = refused (Shape (place_of tree))

pub failure_keeps : {Good : Formed → Type 0} (tree : Tree) → Keeps Good (failure_of tree)
failure_keeps tree = past (text_keeps tree) λ text. past (may_fail_keeps text) λ _. given text tt

pub number_keeps : {Good : Formed → Type 0} (range : Range) (tree : Tree) → Keeps Good (number_within range tree)
number_keeps range (Number at (pos n)) = met (nat_le range.least n && nat_le n range.most) (Size at) (given n tt)
number_keeps range (Number at (negsuc n)) = refused (Size at)
number_keeps range tree = refused (Shape (place_of tree))

-- ## Names

pub bring_keeps : {Good : Formed → Type 0} (kind : Kind) (scope : Scope) (tree : Tree) → Keeps Good (bring kind scope tree)
unfolding bring
bring_keeps {Good} kind scope (Word at name) = by (is_variable (named scope name))
  where
    by : (b : Bool) → Keeps Good {A = Scope} (elim b [
      | true ↦ gives (with_name kind name scope)
      | false ↦
          (requires_that (nat_lt (length scope.names) most_names) (Size at) >>> λ _.
          requires_that (is_none (named scope name)) (Twice at) >>> λ _.
          gives (with_name kind name scope))
    ])
    by true = given (with_name kind name scope) tt
    by false = met (nat_lt (length scope.names) most_names) (Size at) (met (is_none (named scope name)) (Twice at) (given (with_name kind name scope) tt))
bring_keeps kind scope tree = refused (Shape (place_of tree))

pub used_keeps : {Good : Formed → Type 0} (kind : Kind) (scope : Scope) (tree : Tree) → Keeps Good (used kind scope tree)
unfolding used
used_keeps {Good} kind scope (Word at name) = by (named scope name)
  where
    by : (found : Option Named) → Keeps Good (used_by kind at found)
    by None = refused (Name at)
    by (Some it) = met (is_same_kind it.kind kind) (Name at) (given it.number tt)
used_keeps kind scope tree = refused (Shape (place_of tree))

pub directory_keeps : {Good : Formed → Type 0} (scope : Scope) (tree : Tree) → Keeps Good (directory_of scope tree)
unfolding directory_of
directory_keeps {Good} scope (Word at name) = by (named scope name)
  where
    of_kind : (kind : Kind) (number : ℕ) → Keeps Good {A = Directory} (elim kind [
      | CapabilityKind ↦ gives (Opened number)
      | DirectoryKind ↦ gives (Declared number)
      | _ ↦ refuses (Name at)
    ])
    of_kind CapabilityKind number = given (Opened number) tt
    of_kind DirectoryKind number = given (Declared number) tt
    of_kind kind number = refused (Name at)

    by : (found : Option Named) → Keeps Good (directory_by at found)
    by None = refused (Name at)
    by (Some it) = of_kind it.kind it.number
directory_keeps scope tree = refused (Shape (place_of tree))

captured_behind_keeps : {Good : Formed → Type 0} (scope : Scope) (before : List Named) (row : Trees) → Keeps Good (captured_behind scope before row)
unfolding captured_behind
captured_behind_keeps scope before Nil = given before tt
captured_behind_keeps scope before (And (Word at name) row) =
    met (nat_lt (length before) most_captured) (Size at)
    (met (is_none (named_in before name)) (Twice at)
    (past (used_keeps VariableKind scope (Word at name)) λ slot.
    captured_behind_keeps scope (before ++ record { name = name; kind = VariableKind; number = slot } ∷ []) row))
captured_behind_keeps scope before (And tree row) = refused (Shape (place_of tree))

pub captured_keeps : {Good : Formed → Type 0} (scope : Scope) (tree : Tree) → Keeps Good (captured scope tree)
captured_keeps scope (Branch at row) = captured_behind_keeps scope [] row
captured_keeps scope tree = refused (Shape (place_of tree))

-- ## Expressions

mutual
  unfolding item operation

  pub item_keeps : {Good : Formed → Type 0} (scope : Scope) (full : Bool) (tree : Tree) → Keeps Good (item scope full tree)
  item_keeps scope full (Word at name) =
      met (not full) (Size at) (past one_node_keeps λ _. past (used_keeps VariableKind scope (Word at name)) λ slot. given (Variable slot) tt)
  item_keeps scope full (Number at z) = met (not full) (Size at) (past one_node_keeps λ _. given (NumberValue z) tt)
  item_keeps scope full (Text at text) = met (not full) (Size at) (past one_node_keeps λ _. past (interned_keeps text) λ id. given (TextValue id) tt)
  item_keeps scope full (Branch at (And (Word place word) operands)) = operation_keeps scope full at (expression_head word) operands
  item_keeps scope full (Branch at row) = refused (Shape at)

  operation_keeps : {Good : Formed → Type 0} (scope : Scope) (full : Bool) (at : ℕ) (head : Option ExpressionHead) (operands : Trees) → Keeps Good (operation scope full at head operands)
  operation_keeps scope full at (Some UnitHead) Nil =
      met (not full) (Size at) (past (form_keeps at Exceptions false) λ _. past one_node_keeps λ _. given UnitValue tt)
  operation_keeps scope full at (Some (OperatorHead operator)) (And first (And second Nil)) =
      met (not full) (Size at)
      (past (form_keeps at Exceptions false) λ _. past one_node_keeps λ _.
      past (item_keeps scope false first) λ left. past (item_keeps scope false second) λ right. given (Operation operator left right) tt)
  operation_keeps scope full at head operands = refused (Shape at)

pub expression_keeps : {Good : Formed → Type 0} (scope : Scope) (tree : Tree) → Keeps Good (expression scope tree)
expression_keeps scope tree = item_keeps scope false tree

pub operands_keep : {Good : Formed → Type 0} (scope : Scope) (n : ℕ) (row : Trees) → Keeps Good (traced scope n row)
unfolding traced
operands_keep scope n Nil = given NoExpressions tt
operands_keep scope n (And tree row) =
    past (item_keeps scope (nat_le most_traced n) tree) λ first. past (operands_keep scope (n + 1) row) λ others. given (AndExpression first others) tt
