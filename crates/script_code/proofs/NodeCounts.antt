-- How many nodes the steps of the definitions make, and what they give beside, from step to step.
use Rattle.std.proofs.Common.{◌≡◌, ℕ, zero, suc, ◌+◌, ◌<◌, ◌≤◌, Bool, true, false, List, [], ◌∷◌, ◌++◌, length, Option, Some, None, Result, Ok, Err, refl, sym, ap, ◌∙◌, subst, arith, length-append}
use Rattle.std.specs.Prelude.{nat_le, nat_lt, is_none, pos, negsuc, ◌&&◌, position}
use Rattle.std.specs.Str.{bytes_eq}
use Rattle.std.proofs.lemmas.List.Quantifiers.{position-Some}
use Rattle.eio_value.specs.declared.value.TextId.{TextId}
use Rattle.eio_value.specs.Table.{Interned, text_id, intern}
use Rattle.spec_script.specs.declared.Feature.TheVariants.{Exceptions}
use Rattle.spec_script.specs.Captures.{captured_behind, captured}
use Rattle.spec_script.specs.Expressions.{item, operation, expression, traced}
use Rattle.spec_script.specs.Faults.{ScriptFault, Shape, Size, Twice, Name}
use Rattle.spec_script.specs.Forms.{ExpressionHead, UnitHead, OperatorHead, Form, expression_head, feature_of}
use Rattle.spec_script.specs.Kinds.{Kind, VariableKind, CapabilityKind, DirectoryKind, is_same_kind}
use Rattle.spec_script.specs.Limits.{Range, most_names, most_captured, most_traced}
use Rattle.spec_script.specs.Reads.{Made, Reads, ◌>>>◌, gives, refuses, requires_that, changes, one_node, one_form, interned, may_fail, failure_of, number_within}
use Rattle.spec_script.specs.Results.{◌>>=◌}
use Rattle.spec_script.specs.Scopes.{Named, Scope, named_in, named, with_name, is_variable, bring, used_by, used, directory_by, directory_of}
use Rattle.spec_script.specs.Statements.{form_node}
use Rattle.spec_script.specs.Syntax as syntax
use Rattle.spec_script.specs.Syntax.{Expression, Expressions, Directory}
use Rattle.spec_script.specs.Trees.{Tree, Word, Number, Text, Branch, Trees, Nil, And, place_of}
use Rattle.script_forms.specs.Flat.{flat_expression, flat_expressions}
use Rattle.script_forms.specs.declared.node.Node.{Node}

-- ## Steps

pub same_Ok : {A E : Type 0} (x y : A) → ◌≡◌ {A = Result A E} (Ok x) (Ok y) → x ≡ y
same_Ok x y e = cc

pub err-ok : {A E : Type 0} (x : E) (y : A) → Err x ≡ Ok y → ⊥
err-ok x y e = cc

pub both_gave : {A B E : Type 0} (r : Result A E) (f : A → Result B E) (y : B) → (r >>= f) ≡ Ok y → (x : A) × (r ≡ Ok x) × (f x ≡ Ok y)
both_gave (Ok x) f y e = (x, refl, e)
both_gave (Err x) f y e = absurd (err-ok _ _ e)

-- where so many nodes were made before, the step makes them up to this number, and gives such a value
pub record From {A : Type 0} (from : ℕ) (to : A → ℕ) (P : A → Type 0) (read : Reads A) : Type 0 where
  pub holds : (made : Made) (x : A × Made) → made.nodes ≡ from → read made ≡ Ok x → (x.1.nodes ≡ to x.0) × P x.0

pub given : {A : Type 0} {from : ℕ} {to : A → ℕ} {P : A → Type 0} (a : A) → from ≡ to a → P a → From from to P (gives a)
given {A} {from} {to} {P} a counts holds = record {
  holds = λ made x at e. subst (λ (found : A × Made). (found.1.nodes ≡ to found.0) × P found.0) (same_Ok (a, made) x e) (at ∙ counts, holds);
}

pub refused : {A : Type 0} {from : ℕ} {to : A → ℕ} {P : A → Type 0} (fault : ScriptFault) → From from to P (refuses fault)
refused fault = record { holds = λ made x at e. absurd (err-ok _ _ e) }

pub going_on : {A B : Type 0} {from : ℕ} {mid : A → ℕ} {to : B → ℕ} {P : A → Type 0} {Q : B → Type 0} {read : Reads A} {next : A → Reads B}
    → From from mid P read → ((a : A) → P a → From (mid a) to Q (next a)) → From from to Q (read >>> next)
going_on {A} {B} {from} {mid} {to} {P} {Q} {read} {next} first others = record {
  holds = λ made y at e.
      let both = both_gave (read made) (λ found. next found.0 found.1) y e in
      let one = first.holds made both.0 at both.1 in
      (others both.0.0 one.1).holds both.0.1 y one.0 both.2;
}

-- the same step counts from an equal number
pub moved : {A : Type 0} {from behind : ℕ} {to : A → ℕ} {P : A → Type 0} {read : Reads A} → behind ≡ from → From from to P read → From behind to P read
moved e is = record { holds = λ made x at r. is.holds made x (at ∙ e) r }

-- ## Steps that make no node

-- no text goes, and no number of nodes changes
pub record Keeps {A : Type 0} (read : Reads A) : Type 0 where
  pub holds : (made : Made) (x : A × Made) → read made ≡ Ok x → x.1.nodes ≡ made.nodes
  pub longer : (made : Made) (x : A × Made) → read made ≡ Ok x → length made.texts ≤ length x.1.texts

same_length : (texts : List (List ℕ)) → length texts ≤ length texts
same_length texts = omega arith

pub no_shorter : (one two three : List (List ℕ)) → length one ≤ length two → length two ≤ length three → length one ≤ length three
no_shorter one two three first second = omega (arith, first, second)

pub kept : {A : Type 0} (a : A) → Keeps (gives a)
kept {A} a = record {
  holds = λ made x e. subst (λ (found : A × Made). found.1.nodes ≡ made.nodes) (same_Ok (a, made) x e) refl;
  longer = λ made x e. subst (λ (found : A × Made). length made.texts ≤ length found.1.texts) (same_Ok (a, made) x e) (same_length made.texts);
}

pub none_kept : {A : Type 0} (fault : ScriptFault) → Keeps {A = A} (refuses fault)
none_kept fault = record { holds = λ made x e. absurd (err-ok _ _ e); longer = λ made x e. absurd (err-ok _ _ e) }

pub keeps_on : {A B : Type 0} {read : Reads A} {next : A → Reads B} → Keeps read → ((a : A) → Keeps (next a)) → Keeps (read >>> next)
keeps_on {A} {B} {read} {next} first others = record {
  holds = λ made y e.
      let both = both_gave (read made) (λ found. next found.0 found.1) y e in
      (others both.0.0).holds both.0.1 y both.2 ∙ first.holds made both.0 both.1;
  longer = λ made y e.
      let both = both_gave (read made) (λ found. next found.0 found.1) y e in
      no_shorter made.texts both.0.1.texts y.1.texts (first.longer made both.0 both.1) ((others both.0.0).longer both.0.1 y both.2);
}

-- a change that leaves both
pub changed : (change : Made → Made) → ((made : Made) → (change made).nodes ≡ made.nodes) → ((made : Made) → (change made).texts ≡ made.texts) → Keeps {A = Unit {0}} (changes change)
changed change same same_texts = record {
  holds = λ made x e. subst (λ (found : Unit {0} × Made). found.1.nodes ≡ made.nodes) (same_Ok (tt, change made) x e) (same made);
  longer = λ made x e. subst (λ (found : Unit {0} × Made). length made.texts ≤ length found.1.texts) (same_Ok (tt, change made) x e)
      (subst (λ (texts : List (List ℕ)). length made.texts ≤ length texts) (sym (same_texts made)) (same_length made.texts));
}

pub past : {A B : Type 0} {from : ℕ} {to : B → ℕ} {Q : B → Type 0} {read : Reads A} {next : A → Reads B}
    → Keeps read → ((a : A) → From from to Q (next a)) → From from to Q (read >>> next)
past {A} {B} {from} {to} {Q} {read} {next} first others = record {
  holds = λ made y at e.
      let both = both_gave (read made) (λ found. next found.0 found.1) y e in
      (others both.0.0).holds both.0.1 y (first.holds made both.0 both.1 ∙ at) both.2;
}

pub test_keeps : (test : Bool) (fault : ScriptFault) → Keeps (requires_that test fault)
test_keeps true fault = kept tt
test_keeps false fault = none_kept fault

pub form_keeps : (at : ℕ) (it : Form) (items : Trees) → Keeps (one_form at (feature_of it items) it.mocked)
form_keeps at it items = changed (λ made. record made { formed = made.formed ++ record { at = at; feature = feature_of it items; mocked = it.mocked } ∷ [] }) (λ made. refl) (λ made. refl)

pub expression_form_keeps : (at : ℕ) → Keeps (one_form at Exceptions false)
expression_form_keeps at = changed (λ made. record made { formed = made.formed ++ record { at = at; feature = Exceptions; mocked = false } ∷ [] }) (λ made. refl) (λ made. refl)

-- a text that is looked up stands in the table then, which is no shorter
pub intern_has : (texts : List (List ℕ)) (text : List ℕ) → (length texts ≤ length (intern texts text).texts) × ((intern texts text).id.0 < length (intern texts text).texts)
intern_has texts text = by (position (bytes_eq text) texts) refl
  where
    interned_by : Option ℕ → Interned
    interned_by found = elim found [
      | Some at ↦ record { id = text_id at; texts = texts }
      | None ↦ record { id = text_id (length texts); texts = texts ++ text ∷ [] }
    ]

    by : (found : Option ℕ) → position (bytes_eq text) texts ≡ found → (length texts ≤ length (interned_by found).texts) × ((interned_by found).id.0 < length (interned_by found).texts)
    by (Some at) e = (same_length texts, (position-Some (bytes_eq text) texts at [] e).0)
    by None e = let sum : length (texts ++ text ∷ []) ≡ length texts + 1 = length-append texts (text ∷ []) in (omega (arith, sum), omega (arith, sum))

pub interned_keeps : (text : List ℕ) → Keeps (interned text)
interned_keeps text = record {
  holds = λ made x e. let found = intern made.texts text in subst (λ x. x.1.nodes ≡ made.nodes) (same_Ok (found.id, record made { texts = found.texts }) x e) refl;
  longer = λ made x e. let found = intern made.texts text in subst (λ x. length made.texts ≤ length x.1.texts) (same_Ok (found.id, record made { texts = found.texts }) x e) (intern_has made.texts text).0;
}

pub may_fail_keeps : (id : TextId) → Keeps (may_fail id)
may_fail_keeps id = changed (λ made. record made { failures = made.failures ++ id ∷ [] }) (λ made. refl) (λ made. refl)

pub failure_keeps : (tree : Tree) → Keeps (failure_of tree)
failure_keeps (Text at text) = keeps_on (interned_keeps text) λ id. keeps_on (may_fail_keeps id) λ _. kept id
failure_keeps tree = keeps_on (none_kept (Shape (place_of tree))) λ id. keeps_on (may_fail_keeps id) λ _. kept id

pub number_keeps : (range : Range) (tree : Tree) → Keeps (number_within range tree)
number_keeps range (Number at (pos n)) = keeps_on (test_keeps (nat_le range.least n && nat_le n range.most) (Size at)) λ _. kept n
number_keeps range (Number at (negsuc n)) = none_kept (Size at)
number_keeps range tree = none_kept (Shape (place_of tree))

pub bring_keeps : (kind : Kind) (scope : Scope) (tree : Tree) → Keeps (bring kind scope tree)
unfolding bring
bring_keeps kind scope (Word at name) = by (named scope name) (is_variable (named scope name))
  where
    by : (before : Option Named) (variable : Bool) → Keeps (elim variable [
      | true ↦ gives (with_name kind name scope)
      | false ↦
          (requires_that (nat_lt (length scope.names) most_names) (Size at) >>> λ _.
          requires_that (is_none before) (Twice at) >>> λ _.
          gives (with_name kind name scope))
    ])
    by before true = kept (with_name kind name scope)
    by before false = keeps_on (test_keeps (nat_lt (length scope.names) most_names) (Size at)) λ _. keeps_on (test_keeps (is_none before) (Twice at)) λ _. kept (with_name kind name scope)
bring_keeps kind scope tree = none_kept (Shape (place_of tree))

pub used_keeps : (kind : Kind) (scope : Scope) (tree : Tree) → Keeps (used kind scope tree)
unfolding used
used_keeps kind scope (Word at name) = by (named scope name)
  where
    by : (found : Option Named) → Keeps (used_by kind at found)
    by None = none_kept (Name at)
    by (Some it) = keeps_on (test_keeps (is_same_kind it.kind kind) (Name at)) λ _. kept it.number
used_keeps kind scope tree = none_kept (Shape (place_of tree))

pub directory_keeps : (scope : Scope) (tree : Tree) → Keeps (directory_of scope tree)
unfolding directory_of
directory_keeps scope (Word at name) = by (named scope name)
  where
    of_kind : (kind : Kind) (number : ℕ) → Keeps {A = Directory} (elim kind [
      | CapabilityKind ↦ gives (syntax.Opened number)
      | DirectoryKind ↦ gives (syntax.Declared number)
      | _ ↦ refuses (Name at)
    ])
    of_kind CapabilityKind number = kept (syntax.Opened number)
    of_kind DirectoryKind number = kept (syntax.Declared number)
    of_kind kind number = none_kept (Name at)

    by : (found : Option Named) → Keeps (directory_by at found)
    by None = none_kept (Name at)
    by (Some it) = of_kind it.kind it.number
directory_keeps scope tree = none_kept (Shape (place_of tree))

captured_row_keeps : (scope : Scope) (before : List Named) (row : Trees) → Keeps (captured_behind scope before row)
unfolding captured_behind
captured_row_keeps scope before Nil = kept before
captured_row_keeps scope before (And (Word at name) row) =
    keeps_on (test_keeps (nat_lt (length before) most_captured) (Size at)) λ _.
    keeps_on (test_keeps (is_none (named_in before name)) (Twice at)) λ _.
    keeps_on (used_keeps VariableKind scope (Word at name)) λ slot.
    captured_row_keeps scope (before ++ record { name = name; kind = VariableKind; number = slot } ∷ []) row
captured_row_keeps scope before (And tree row) = none_kept (Shape (place_of tree))

pub captured_keeps : (scope : Scope) (tree : Tree) → Keeps (captured scope tree)
captured_keeps scope (Branch at row) = captured_row_keeps scope [] row
captured_keeps scope tree = none_kept (Shape (place_of tree))

-- ## Nodes

-- of no value that matters
abbrev pub Any : {A : Type 0} → A → Type 0
Any value = Unit {0}

pub node_counts : (from : ℕ) → From {A = Unit {0}} from (λ _. from + 1) Any one_node
node_counts from = record {
  holds = λ made x at e. subst (λ (found : Unit {0} × Made). (found.1.nodes ≡ from + 1) × Unit {0}) (same_Ok (tt, record made { nodes = made.nodes + 1 }) x e) (ap (λ n. n + 1) at, tt);
}

pub form_node_counts : (from at : ℕ) (it : Form) (items : Trees) → From {A = Unit {0}} from (λ _. from + 1) Any (form_node at it items)
form_node_counts from at it items = past (form_keeps at it items) λ _. node_counts from

-- a node alone, before others, and before two rows of others
pub alone : (at : ℕ) → at + 1 ≡ at + suc zero
alone at = omega arith

pub with_inner : (at inner : ℕ) → at + 1 + inner ≡ at + suc inner
with_inner at inner = omega arith

pub with_two : (at : ℕ) (first second : List Node) → at + 1 + length first + length second ≡ at + suc (length (first ++ second))
with_two at first second = let sum = length-append first second in omega (arith, sum)

pub two_rows : (at : ℕ) (first second : List Node) → at + length first + length second ≡ at + length (first ++ second)
two_rows at first second = let sum = length-append first second in omega (arith, sum)

-- ## Expressions

abbrev pub behind_expression : (from : ℕ) → Expression → ℕ
behind_expression from e = from + length (flat_expression e)

mutual
  unfolding item operation flat_expression

  pub item_counts : (from : ℕ) (scope : Scope) (full : Bool) (tree : Tree) → From from (behind_expression from) Any (item scope full tree)
  item_counts from scope full (Word at name) =
      past (test_keeps _ (Size at)) λ _. going_on (node_counts from) λ _ _. past (used_keeps VariableKind scope (Word at name)) λ slot. given (syntax.Variable slot) (alone from) tt
  item_counts from scope full (Number at z) = past (test_keeps _ (Size at)) λ _. going_on (node_counts from) λ _ _. given (syntax.NumberValue z) (alone from) tt
  item_counts from scope full (Text at text) =
      past (test_keeps _ (Size at)) λ _. going_on (node_counts from) λ _ _. past (interned_keeps text) λ id. given (syntax.TextValue id) (alone from) tt
  item_counts from scope full (Branch at (And (Word place word) operands)) = operation_counts from scope full at (expression_head word) operands
  item_counts from scope full (Branch at row) = refused (Shape at)

  operation_counts : (from : ℕ) (scope : Scope) (full : Bool) (at : ℕ) (head : Option ExpressionHead) (operands : Trees) → From from (behind_expression from) Any (operation scope full at head operands)
  operation_counts from scope full at (Some UnitHead) Nil =
      past (test_keeps _ (Size at)) λ _. past (expression_form_keeps at) λ _. going_on (node_counts from) λ _ _. given syntax.UnitValue (alone from) tt
  operation_counts from scope full at (Some (OperatorHead operator)) (And first (And second Nil)) =
      past (test_keeps _ (Size at)) λ _. past (expression_form_keeps at) λ _. going_on (node_counts from) λ _ _.
      going_on (item_counts (from + 1) scope false first) λ left _.
      going_on (item_counts (from + 1 + length (flat_expression left)) scope false second) λ right _.
      given (syntax.Operation operator left right) (with_two from (flat_expression left) (flat_expression right)) tt
  operation_counts from scope full at head operands = refused (Shape at)

pub expression_counts : (from : ℕ) (scope : Scope) (tree : Tree) → From from (behind_expression from) Any (expression scope tree)
expression_counts from scope tree = item_counts from scope false tree

-- the numbers behind no operand at all
none_counted : (from : ℕ) → from ≡ from + zero
none_counted from = omega arith

pub traced_counts : (from : ℕ) (scope : Scope) (n : ℕ) (row : Trees) → From {A = Expressions} from (λ es. from + length (flat_expressions es)) Any (traced scope n row)
unfolding traced flat_expressions
traced_counts from scope n Nil = given syntax.NoExpressions (none_counted from) tt
traced_counts from scope n (And tree row) =
    going_on (item_counts from scope (nat_le most_traced n) tree) λ first _.
    going_on (traced_counts (from + length (flat_expression first)) scope (n + 1) row) λ others _.
    given (syntax.AndExpression first others) (two_rows from (flat_expression first) (flat_expressions others)) tt
