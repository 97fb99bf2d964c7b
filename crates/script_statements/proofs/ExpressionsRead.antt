-- Expressions, as the code reads them.
use Rattle.std.proofs.Common.{◌≡◌, ◌≢◌, ℕ, ℤ, ◌+◌, ◌<◌, List, [], ◌∷◌, ◌++◌, length, Bool, true, false, Option, Some, None, Result, Ok, Err, refl, arith, ap, sym, subst, ◌∙◌}
use Rattle.eio_value.specs.declared.value.TextId.{TextId}
use Rattle.eio_value.specs.Table.{intern}
use Rattle.spec_script.specs.Faults as model
use Rattle.spec_script.specs.Results.{◌>>=◌}
use Rattle.spec_script.specs.Trees.{Tree, Word, Number, Text, Branch, Trees, Nil, And, place_of}
use Rattle.spec_script.specs.Kinds.{VariableKind}
use Rattle.spec_script.specs.Reads.{Made}
use Rattle.spec_script.specs.Scopes.{Scope, used}
use Rattle.spec_script.specs.Syntax.{Expression, NumberValue, TextValue, Variable, UnitValue, Operation}
use Rattle.spec_script.specs.Expressions.{item, operation}
use Rattle.script_draft.specs.Ahead.{number_at, text_at, list_at, form_at}
use Rattle.script_draft.specs.Drafts.{Drafted, made_of}
use Rattle.script_forms.specs.Flat.{flat_expression}
use Rattle.script_forms.specs.Faults.{Fails}
use Rattle.script_draft.specs.Readings.{HasGrown}
use Rattle.script_forms.specs.declared.fault.ScriptFault.{ScriptFault}
use Rattle.script_forms.specs.declared.node.Node.TheVariants as node
use Rattle.std.specs.Prelude.{min, OnOk, IfErr}
use Rattle.script_forms.specs.declared.fault.ScriptFault.TheVariants as fault
use Rattle.std.proofs.Common.{append_assoc}
use Rattle.spec_script.specs.declared.Feature.TheVariants.{Exceptions}
use Rattle.spec_script.specs.Forms as forms
use Rattle.spec_script.specs.Forms.{expression_head}
use Rattle.spec_script.specs.Syntax.{Operator}
use Rattle.script_tree.specs.Pieces.{Piece, first_tree}
use Rattle.script_draft.specs.Ahead.{ahead, rest_of, tree_ahead, tree_count, IsPast, IsInForm}
use Rattle.script_forms.specs.Calls.{operator_of, operator_in}
use Rattle.script_statements.specs.ExpressionHeads.{expression_head_of, operand_count, operands}
use Rattle.script_draft.specs.Readings.{Grows}
use Rattle.script_statements.specs.declared.expressions.ExpressionHead.{ExpressionHead}
use Rattle.script_statements.specs.declared.expressions.ExpressionHead.TheVariants as head
use Rattle.script_forms.specs.declared.node.Operator.{Operator as CodeOperator}
use Rattle.script_forms.specs.declared.node.Operator.TheVariants as operator
use Rattle.script_draft.proofs.Steps.{fails_first, node_made}
use Rattle.script_draft.proofs.Counts.{one_more, is_empty, count_past}

-- ## Leaves

numbers_item : (scope : Scope) (tree : Tree) (at : ℕ) (z : ℤ) (made : Made) → Some (at, z) ≡ number_at tree → item scope false tree made ≡ Ok (NumberValue z, record made { nodes = made.nodes + 1 })
unfolding item
numbers_item scope (Word a w) at z made e = cc
numbers_item scope (Number a w) at z made e = let value : Option (ℕ × ℤ) → ℤ = λ o. elim o [ Some it ↦ it.1 | None ↦ z ] in let same : z ≡ w = ap value e in rw same refl
numbers_item scope (Text a w) at z made e = cc
numbers_item scope (Branch a w) at z made e = cc

pub number_grown : (scope : Scope) (tree : Tree) (at : ℕ) (z : ℤ) (old new : Drafted) → Some (at, z) ≡ number_at tree → new ≡ record old { nodes = old.nodes ++ node.Number z ∷ [] } → HasGrown (item scope false tree) flat_expression old new
unfolding flat_expression
number_grown scope tree at z old new e pushed = record {
  value = NumberValue z;
  gives = rw (pushed, node_made old (node.Number z)) (numbers_item scope tree at z (made_of old) e);
  grows = rw pushed refl;
}

texts_item : (scope : Scope) (tree : Tree) (at : ℕ) (text : List ℕ) (made : Made) → Some (at, text) ≡ text_at tree → item scope false tree made ≡ Ok (TextValue (intern made.texts text).id, record made { nodes = made.nodes + 1; texts = (intern made.texts text).texts })
unfolding item
texts_item scope (Word a w) at text made e = cc
texts_item scope (Number a w) at text made e = cc
texts_item scope (Text a w) at text made e = let value : Option (ℕ × List ℕ) → List ℕ = λ o. elim o [ Some it ↦ it.1 | None ↦ text ] in let same : text ≡ w = ap value e in rw same refl
texts_item scope (Branch a w) at text made e = cc

pub text_grown : (scope : Scope) (tree : Tree) (at : ℕ) (text : List ℕ) (id : TextId) (old mid new : Drafted) → Some (at, text) ≡ text_at tree → id ≡ (intern old.texts text).id → mid ≡ record old { texts = (intern old.texts text).texts } → new ≡ record mid { nodes = mid.nodes ++ node.Text id ∷ [] } → HasGrown (item scope false tree) flat_expression old new
unfolding flat_expression
text_grown scope tree at text id old mid new e is interned pushed = record {
  value = TextValue id;
  gives = rw (pushed, interned, node_made (record old { texts = (intern old.texts text).texts }) (node.Text id), is) (texts_item scope tree at text (made_of old) e);
  grows = rw (pushed, interned) refl;
}

words_item : (scope : Scope) (tree : Tree) (made : Made) → None ≡ number_at tree → None ≡ text_at tree → list_at tree ≡ None → item scope false tree made ≡ (used VariableKind scope tree (record made { nodes = made.nodes + 1 }) >>= λ found. Ok (Variable found.0, found.1))
unfolding item
words_item scope (Word a w) made n t l = refl
words_item scope (Number a w) made n t l = cc
words_item scope (Text a w) made n t l = cc
words_item scope (Branch a w) made n t l = cc

pub variable_grown : (scope : Scope) (tree : Tree) (slot : ℕ) (old new : Drafted) → None ≡ number_at tree → None ≡ text_at tree → list_at tree ≡ None → ((made : Made) → used VariableKind scope tree made ≡ Ok (slot, made)) → new ≡ record old { nodes = old.nodes ++ node.Variable slot ∷ [] } → HasGrown (item scope false tree) flat_expression old new
unfolding flat_expression
variable_grown scope tree slot old new n t l finds pushed =
    let made : Made = record (made_of old) { nodes = length old.nodes + 1 } in
    record {
      value = Variable slot;
      gives = rw (pushed, node_made old (node.Variable slot)) (words_item scope tree (made_of old) n t l ∙ ap (λ r. r >>= λ found. Ok (Variable found.0, found.1)) (finds made));
      grows = rw pushed refl;
    }

pub variable_fails : (scope : Scope) (tree : Tree) (f : ScriptFault) (made : Made) → None ≡ number_at tree → None ≡ text_at tree → list_at tree ≡ None → ((m : Made) → Fails f (used VariableKind scope tree m)) → Fails f (item scope false tree made)
variable_fails scope tree f made n t l fails =
    rw (words_item scope tree made n t l) (fails_first f _ _ (fails (record made { nodes = made.nodes + 1 })))

-- ## Lists

pub item_enters : (scope : Scope) (full : Bool) (at : ℕ) (word : List ℕ) (old new : List Piece) → IsInForm at word old new → item scope full (tree_ahead old) ≡ operation scope full at (expression_head word) (ahead new)
unfolding item
item_enters scope full at word old new inside = rw inside.tree refl

pub item_list : (scope : Scope) (full : Bool) (tree : Tree) (at : ℕ) (made : Made) → form_at tree ≡ None → Some at ≡ list_at tree → item scope full tree made ≡ Err (model.Shape at)
unfolding item
item_list scope full (Word a w) at made f l = cc
item_list scope full (Number a w) at made f l = cc
item_list scope full (Text a w) at made f l = cc
item_list scope full (Branch a (And (Word b w) row)) at made f l = cc
item_list scope full (Branch a (And (Number b w) row)) at made f l = let same : a ≡ at = cc in rw same refl
item_list scope full (Branch a (And (Text b w) row)) at made f l = let same : a ≡ at = cc in rw same refl
item_list scope full (Branch a (And (Branch b w) row)) at made f l = let same : a ≡ at = cc in rw same refl
item_list scope full (Branch a Nil) at made f l = let same : a ≡ at = cc in rw same refl

pub item_full : (scope : Scope) (full : Bool) (tree : Tree) (made : Made) → list_at tree ≡ None → full ≡ true → item scope full tree made ≡ Err (model.Size (place_of tree))
unfolding item
item_full scope full (Word a w) made l e = rw e refl
item_full scope full (Number a w) made l e = rw e refl
item_full scope full (Text a w) made l e = rw e refl
item_full scope full (Branch a w) made l e = cc

pub item_roomy : (scope : Scope) (full : Bool) (tree : Tree) → full ≡ false → item scope full tree ≡ item scope false tree
item_roomy scope full tree e = rw e refl

-- ## Operations

pub operation_unknown : (scope : Scope) (full : Bool) (at : ℕ) (word : List ℕ) (items : Trees) (made : Made) → None ≡ expression_head word → operation scope full at (expression_head word) items made ≡ Err (model.Shape at)
unfolding operation
operation_unknown scope full at word items made e = rw (← e) refl

misfit : (scope : Scope) (full : Bool) (at : ℕ) (it : ExpressionHead) (items : Trees) (made : Made) → tree_count items ≢ operand_count it → operation scope full at (Some (expression_head_of it)) items made ≡ Err (model.Shape at)
unfolding operation
misfit scope full at head.Unit Nil made e = absurd (e refl)
misfit scope full at head.Unit (And a row) made e = refl
misfit scope full at (head.Operator o) Nil made e = refl
misfit scope full at (head.Operator o) (And a Nil) made e = refl
misfit scope full at (head.Operator o) (And a (And b Nil)) made e = absurd (e refl)
misfit scope full at (head.Operator o) (And a (And b (And c row))) made e = refl

small_count : (it : ExpressionHead) → operand_count it < 3
small_count head.Unit = omega arith
small_count (head.Operator o) = omega arith

pub operation_misfit : (scope : Scope) (full : Bool) (at count wanted : ℕ) (word : List ℕ) (it : ExpressionHead) (items : Trees) (made : Made) → Some (expression_head_of it) ≡ expression_head word → count ≡ min 3 (tree_count items) → wanted ≡ operand_count it → count ≢ wanted → operation scope full at (expression_head word) items made ≡ Err (model.Shape at)
operation_misfit scope full at count wanted word it items made e counted want differ =
    let small = small_count it in
    rw (← e) (misfit scope full at it items made (λ same. differ (omega (arith, counted, want, small, same))))

pub count_fits : (count wanted : ℕ) (it : ExpressionHead) (items : Trees) → count ≡ min 3 (tree_count items) → wanted ≡ operand_count it → count ≡ wanted → tree_count items ≡ operand_count it
count_fits count wanted it items counted want same = let small = small_count it in omega (arith, counted, want, small, same)

filled : (scope : Scope) (at : ℕ) (it : ExpressionHead) (items : Trees) (made : Made) → tree_count items ≡ operand_count it → operation scope true at (Some (expression_head_of it)) items made ≡ Err (model.Size at)
unfolding operation
filled scope at head.Unit Nil made e = refl
filled scope at head.Unit (And a row) made e = absurd (omega (arith, e))
filled scope at (head.Operator o) Nil made e = absurd (omega (arith, e))
filled scope at (head.Operator o) (And a Nil) made e = absurd (omega (arith, e))
filled scope at (head.Operator o) (And a (And b Nil)) made e = refl
filled scope at (head.Operator o) (And a (And b (And c row))) made e = absurd (omega (arith, e))

pub operation_full : (scope : Scope) (full : Bool) (at count wanted : ℕ) (word : List ℕ) (it : ExpressionHead) (items : Trees) (made : Made) → Some (expression_head_of it) ≡ expression_head word → count ≡ min 3 (tree_count items) → wanted ≡ operand_count it → count ≡ wanted → full ≡ true → operation scope full at (expression_head word) items made ≡ Err (model.Size at)
operation_full scope full at count wanted word it items made e counted want same f =
    rw (← e, f) (filled scope at it items made (count_fits count wanted it items counted want same))

with_form : ℕ → Drafted → Drafted
with_form at old = record old { formed = old.formed ++ record { at = at; feature = Exceptions; mocked = false } ∷ [] }

no_items : (items : Trees) → tree_count items ≡ 0 → items ≡ Nil
no_items Nil e = refl
no_items (And t row) e = absurd (omega (arith, e))

pub operation_unit : (scope : Scope) (full : Bool) (at : ℕ) (word : List ℕ) (items : Trees) (old mid new : Drafted) → Some forms.UnitHead ≡ expression_head word → tree_count items ≡ 0 → full ≡ false → mid ≡ record old { formed = old.formed ++ record { at = at; feature = Exceptions; mocked = false } ∷ [] } → new ≡ record mid { nodes = mid.nodes ++ node.Unit ∷ [] } → HasGrown (operation scope full at (expression_head word) items) flat_expression old new
unfolding operation flat_expression
operation_unit scope full at word items old mid new e none f formed pushed = record {
  value = UnitValue;
  gives = rw (← e, f, no_items items none, pushed, formed, node_made (record old { formed = old.formed ++ record { at = at; feature = Exceptions; mocked = false } ∷ [] }) node.Unit) refl;
  grows = rw (pushed, formed) refl;
}

pub unit_read : (scope : Scope) (full : Bool) (at count wanted : ℕ) (word : List ℕ) (it : ExpressionHead) (items : Trees) (old mid new : Drafted) {X : Type 0} (r : Result X ScriptFault) → Some (expression_head_of it) ≡ expression_head word → it ≡ head.Unit → count ≡ min 3 (tree_count items) → wanted ≡ operand_count it → count ≡ wanted → full ≡ false → mid ≡ record old { formed = old.formed ++ record { at = at; feature = Exceptions; mocked = false } ∷ [] } → OnOk r (new ≡ record mid { nodes = mid.nodes ++ node.Unit ∷ [] }) → IfErr r (λ f. f ≡ fault.NoMemory) → Grows r (operation scope full at (expression_head word) items) (λ n. flat_expression) old new
unit_read scope full at count wanted word it items old mid new (Ok x) e is counted want same f formed pushed failed =
    operation_unit scope full at word items old mid new (rw is at e) (rw is at (count_fits count wanted it items counted want same)) f formed pushed
unit_read scope full at count wanted word it items old mid new (Err g) e is counted want same f formed pushed failed = rw failed tt

operator_forms : (scope : Scope) (at : ℕ) (o : Operator) (items : Trees) (made : Made) → tree_count items ≡ 2 → operation scope false at (Some (forms.OperatorHead o)) items made ≡ operands scope o items (record made { formed = made.formed ++ record { at = at; feature = Exceptions; mocked = false } ∷ [] })
unfolding operation
operator_forms scope at o Nil made e = absurd (omega (arith, e))
operator_forms scope at o (And a Nil) made e = absurd (omega (arith, e))
operator_forms scope at o (And a (And b Nil)) made e = refl
operator_forms scope at o (And a (And b (And c row))) made e = absurd (omega (arith, e))

grown_by : (scope : Scope) (at : ℕ) (o : Operator) (items : Trees) (old mid new : Drafted) {X : Type 0} (r : Result X ScriptFault) → tree_count items ≡ 2 → mid ≡ record old { formed = old.formed ++ record { at = at; feature = Exceptions; mocked = false } ∷ [] } → Grows r (operands scope o items) (λ n. flat_expression) mid new → Grows r (operation scope false at (Some (forms.OperatorHead o)) items) (λ n. flat_expression) old new
grown_by scope at o items old mid new (Ok x) two formed g = record {
  value = g.value;
  gives = operator_forms scope at o items (made_of old) two ∙ (ap (λ d. operands scope o items (made_of d)) (sym formed) ∙ g.gives);
  grows = g.grows ∙ ap (λ (d : Drafted). d.nodes ++ flat_expression g.value) formed;
}
grown_by scope at o items old mid new (Err f) two formed g =
    rw (operator_forms scope at o items (made_of old) two) (let P : Drafted → Type 0 = λ d. Fails f (operands scope o items (made_of d)) in subst P formed g)

pub operation_operator : (scope : Scope) (full : Bool) (at : ℕ) (word : List ℕ) (o : Operator) (items : Trees) (old mid new : Drafted) {X : Type 0} (r : Result X ScriptFault) → Some (forms.OperatorHead o) ≡ expression_head word → tree_count items ≡ 2 → full ≡ false → mid ≡ record old { formed = old.formed ++ record { at = at; feature = Exceptions; mocked = false } ∷ [] } → Grows r (operands scope o items) (λ n. flat_expression) mid new → Grows r (operation scope full at (expression_head word) items) (λ n. flat_expression) old new
operation_operator scope full at word o items old mid new r e two f formed g = rw (← e, f) (grown_by scope at o items old mid new r two formed g)

pub operator_read : (scope : Scope) (full : Bool) (at count wanted : ℕ) (word : List ℕ) (o : CodeOperator) (it : ExpressionHead) (items : Trees) (old mid new : Drafted) {X : Type 0} (r : Result X ScriptFault) → Some (expression_head_of it) ≡ expression_head word → it ≡ head.Operator o → count ≡ min 3 (tree_count items) → wanted ≡ operand_count it → count ≡ wanted → full ≡ false → mid ≡ record old { formed = old.formed ++ record { at = at; feature = Exceptions; mocked = false } ∷ [] } → Grows r (operands scope (operator_of o) items) (λ n. flat_expression) mid new → Grows r (operation scope full at (expression_head word) items) (λ n. flat_expression) old new
operator_read scope full at count wanted word o it items old mid new r e is counted want same f formed g =
    operation_operator scope full at word (operator_of o) items old mid new r (rw is at e) (rw is at (count_fits count wanted it items counted want same)) f formed g

-- ## Operands

two_trees : (c0 c1 c2 : List Piece) → tree_count (ahead c0) ≡ 2 → IsPast c0 c1 → IsPast c1 c2 → ahead c0 ≡ And (tree_ahead c0) (And (tree_ahead c1) Nil)
two_trees c0 c1 c2 two past again =
    let n1 = count_past c0 c1 past in
    let n2 = count_past c1 c2 again in
    one_more c0 c1 (omega (arith, two)) past ∙ ap (λ ts. And (tree_ahead c0) ts) (one_more c1 c2 (omega (arith, n1, two)) again ∙ ap (λ ts. And (tree_ahead c1) ts) (is_empty c2 (omega (arith, n1, n2, two))))

operator_in_of : (o : CodeOperator) → operator_in (operator_of o) ≡ o
operator_in_of operator.Plus = refl
operator_in_of operator.Minus = refl
operator_in_of operator.Same = refl
operator_in_of operator.Less = refl

fail_first : (scope : Scope) (o : Operator) (items : Trees) (m0 m1 : Made) (f : ScriptFault) → tree_count items ≡ 2 → record m0 { nodes = m0.nodes + 1 } ≡ m1 → Fails f (item scope false (first_tree items) m1) → Fails f (operands scope o items m0)
fail_first scope o Nil m0 m1 f e made fails = absurd (omega (arith, e))
fail_first scope o (And a Nil) m0 m1 f e made fails = absurd (omega (arith, e))
fail_first scope o (And a (And b (And c row))) m0 m1 f e made fails = absurd (omega (arith, e))
fail_first scope o (And a (And b Nil)) m0 m1 f e made fails = rw made (fails_first f _ _ fails)

fail_second : (scope : Scope) (o : Operator) (items rest : Trees) (m0 m1 m2 : Made) (left : Expression) (f : ScriptFault) → tree_count items ≡ 2 → rest ≡ rest_of items → record m0 { nodes = m0.nodes + 1 } ≡ m1 → item scope false (first_tree items) m1 ≡ Ok (left, m2) → Fails f (item scope false (first_tree rest) m2) → Fails f (operands scope o items m0)
fail_second scope o Nil rest m0 m1 m2 left f e r made gives fails = absurd (omega (arith, e))
fail_second scope o (And a Nil) rest m0 m1 m2 left f e r made gives fails = absurd (omega (arith, e))
fail_second scope o (And a (And b (And c row))) rest m0 m1 m2 left f e r made gives fails = absurd (omega (arith, e))
fail_second scope o (And a (And b Nil)) rest m0 m1 m2 left f e r made gives fails = rw (made, gives) (fails_first f _ _ (rw r at fails))

pub operands_grown : (scope : Scope) (o : CodeOperator) (c0 c1 c2 : List Piece) (d0 d1 d2 d3 : Drafted) → tree_count (ahead c0) ≡ 2 → IsPast c0 c1 → IsPast c1 c2 → d1 ≡ record d0 { nodes = d0.nodes ++ node.Operation o ∷ [] } → HasGrown (item scope false (tree_ahead c0)) flat_expression d1 d2 → HasGrown (item scope false (tree_ahead c1)) flat_expression d2 d3 → HasGrown (operands scope (operator_of o) (ahead c0)) flat_expression d0 d3
unfolding flat_expression
operands_grown scope o c0 c1 c2 d0 d1 d2 d3 two past again pushed first second =
    let made : record (made_of d0) { nodes = length d0.nodes + 1 } ≡ made_of d1 = sym (node_made d0 (node.Operation o)) ∙ ap made_of (sym pushed) in
    record {
      value = Operation (operator_of o) first.value second.value;
      gives = rw (two_trees c0 c1 c2 two past again, made, first.gives, second.gives) refl;
      grows =
          second.grows
          ∙ ap (λ ns. ns ++ flat_expression second.value) (first.grows ∙ ap (λ (d : Drafted). d.nodes ++ flat_expression first.value) pushed)
          ∙ (append_assoc (d0.nodes ++ node.Operation o ∷ []) (flat_expression first.value) (flat_expression second.value)
          ∙ append_assoc d0.nodes (node.Operation o ∷ []) (flat_expression first.value ++ flat_expression second.value))
          ∙ ap (λ p. d0.nodes ++ node.Operation p ∷ (flat_expression first.value ++ flat_expression second.value)) (sym (operator_in_of o));
    }

pub operands_fail_first : (scope : Scope) (o : CodeOperator) (c0 : List Piece) (d0 d1 : Drafted) (f : ScriptFault) → tree_count (ahead c0) ≡ 2 → d1 ≡ record d0 { nodes = d0.nodes ++ node.Operation o ∷ [] } → Fails f (item scope false (tree_ahead c0) (made_of d1)) → Fails f (operands scope (operator_of o) (ahead c0) (made_of d0))
operands_fail_first scope o c0 d0 d1 f two pushed fails = fail_first scope (operator_of o) (ahead c0) (made_of d0) (made_of d1) f two (sym (node_made d0 (node.Operation o)) ∙ ap made_of (sym pushed)) fails

pub operands_fail_second : (scope : Scope) (o : CodeOperator) (c0 c1 : List Piece) (d0 d1 d2 : Drafted) (f : ScriptFault) → tree_count (ahead c0) ≡ 2 → IsPast c0 c1 → d1 ≡ record d0 { nodes = d0.nodes ++ node.Operation o ∷ [] } → HasGrown (item scope false (tree_ahead c0)) flat_expression d1 d2 → Fails f (item scope false (tree_ahead c1) (made_of d2)) → Fails f (operands scope (operator_of o) (ahead c0) (made_of d0))
operands_fail_second scope o c0 c1 d0 d1 d2 f two past pushed first fails = fail_second scope (operator_of o) (ahead c0) (ahead c1) (made_of d0) (made_of d1) (made_of d2) first.value f two past.trees (sym (node_made d0 (node.Operation o)) ∙ ap made_of (sym pushed)) first.gives fails
