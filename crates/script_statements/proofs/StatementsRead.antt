-- Statements and blocks, as the code reads them.
use Rattle.std.proofs.Common.{◌≡◌, ℕ, ◌+◌, ◌==◌, List, [], ◌∷◌, ◌++◌, length, take, min, Bool, true, false, if◌then◌else◌, Option, Some, None, is_some, Result, Ok, Err, refl, arith, ap, sym, subst, ◌∙◌, append_assoc, length-append}
use Rattle.std.proofs.lemmas.Bool.{false≢true}
use Rattle.std.proofs.Math.Seq.{take-length}
use Rattle.std.proofs.lemmas.List.{take_at}
use Rattle.spec_script.specs.Faults as model
use Rattle.spec_script.specs.Trees.{Tree, Word, Number, Text, Branch, Trees, Nil, And, place_of}
use Rattle.spec_script.specs.Reads.{Made, Reads, ◌>>>◌, gives}
use Rattle.spec_script.specs.Scopes.{Scope}
use Rattle.spec_script.specs.Syntax.{Statement, Statements, Done, Then, Let, LetForm}
use Rattle.spec_script.specs.Expressions.{item}
use Rattle.script_draft.specs.Taken.{Enters}
use Rattle.script_draft.specs.declared.cursor.Word.{Word as WordRead}
use Rattle.spec_script.specs.Statements.{statements, statement, form, form_node, block, block_of, value}
use Rattle.spec_script.specs.Forms.{form_of, feature_of, are_texts, trace_feature}
use Rattle.spec_script.specs.declared.Feature.{Feature}
use Rattle.spec_script.specs.declared.Feature.TheVariants.{FirstForms, Exceptions}
use Rattle.script_tree.specs.Pieces.{Piece, Words, Numbers, Texts, Opens, Closes, first, others, first_tree}
use Rattle.script_draft.specs.Ahead.{ahead, around, rest_of, tree_ahead, tree_count, has_tree, form_at, list_at, IsPast, IsBehind, IsInside, IsInForm, IsWithin}
use Rattle.script_statements.specs.Blocks.{is_last, HasOpened, Blocked, HasValue, list_word}
use Rattle.script_draft.specs.Drafts.{Drafted, made_of}
use Rattle.script_forms.specs.Flat.{flat_statement, flat_statements, flat_expression}
use Rattle.script_forms.specs.Heads.{form_seen, head_of}
use Rattle.script_forms.specs.Faults.{Fails}
use Rattle.script_draft.specs.Readings.{Grows, HasGrown, HasStated, States}
use Rattle.script_forms.specs.declared.heads.Form.{Form}
use Rattle.script_forms.specs.declared.fault.ScriptFault.{ScriptFault}
use Rattle.script_forms.specs.declared.node.Node.TheVariants as node
use Rattle.script_draft.proofs.Steps.{fails_first, node_made}

-- ## What comes next

pub tree_here : (ps : List Piece) → has_tree ps ≡ true → ahead ps ≡ And (tree_ahead ps) (rest_of (ahead ps))
unfolding ahead
tree_here [] e = absurd (false≢true e)
tree_here (Words at w ∷ ps) e = refl
tree_here (Numbers at w ∷ ps) e = refl
tree_here (Texts at w ∷ ps) e = refl
tree_here (Opens at ∷ ps) e = refl
tree_here (Closes ∷ ps) e = absurd (false≢true e)

pub end_here : (ps : List Piece) → has_tree ps ≡ false → ahead ps ≡ Nil
unfolding ahead
end_here [] e = refl
end_here (Words at w ∷ ps) e = absurd (false≢true (sym e))
end_here (Numbers at w ∷ ps) e = absurd (false≢true (sym e))
end_here (Texts at w ∷ ps) e = absurd (false≢true (sym e))
end_here (Opens at ∷ ps) e = absurd (false≢true (sym e))
end_here (Closes ∷ ps) e = refl

pub passed_here : (old new : List Piece) → has_tree old ≡ true → IsPast old new → ahead old ≡ And (tree_ahead old) (ahead new)
passed_here old new e past = tree_here old e ∙ ap (λ ts. And (tree_ahead old) ts) (sym past.trees)

pub within_all : (c : List Piece) → IsWithin c c
within_all c = record { around = refl; fewer = omega arith }

pub within_past : (c0 c1 c2 : List Piece) → IsWithin c0 c1 → IsPast c1 c2 → IsWithin c0 c2
within_past c0 c1 c2 within past = let a = within.fewer in let b = past.fewer in record { around = past.around ∙ within.around; fewer = omega (arith, a, b) }

pub within_behind : (c0 c1 c2 : List Piece) → IsWithin c0 c1 → IsBehind c1 c2 → IsBehind c0 c2
within_behind c0 c1 c2 within past = let a = within.fewer in let b = past.fewer in record { trees = past.trees ∙ ap (λ rs. first rs) within.around; around = past.around ∙ ap (λ rs. others rs) within.around; fewer = omega (arith, a, b) }

-- ## The statements of a block

-- a statement, and those behind it
one_step : (scope : Scope) (tree : Tree) (row : Trees) (made : Made) → statements scope (And tree row) made ≡ (statement scope (is_last (And tree row)) tree >>> λ it. statements it.1 row >>> λ others. gives (Then it.0 others)) made
unfolding statements
one_step scope tree Nil made = refl
one_step scope tree (And next row) made = refl

-- some statements of a block were read; what is left gives the whole
pub record IsAmid (scope : Scope) (whole : Trees) (old : Drafted) (inside : Scope) (left : Trees) (now : Drafted) : Type 0 where
  pub after : Statements → Statements
  pub ok : (others : Statements) (made : Made) → statements inside left (made_of now) ≡ Ok (others, made) → statements scope whole (made_of old) ≡ Ok (after others, made)
  pub fails : (f : ScriptFault) → Fails f (statements inside left (made_of now)) → Fails f (statements scope whole (made_of old))
  pub grows : (others : Statements) → now.nodes ++ flat_statements (length now.nodes) others ≡ old.nodes ++ flat_statements (length old.nodes) (after others)

pub amid_first : (scope inside : Scope) (whole : Trees) (old : Drafted) → inside ≡ scope → IsAmid scope whole old inside whole old
amid_first scope inside whole old same = record {
  after = λ others. others;
  ok = λ others made e. rw same at e;
  fails = λ f e. rw same at e;
  grows = λ others. refl;
}

-- what a statement put behind the other nodes
stated_nodes : (read : Reads (Statement × Scope)) (inside : Scope) (old new : Drafted) (it : HasStated read inside (length old.nodes) old new) → new.nodes ≡ old.nodes ++ flat_statement (length old.nodes) it.value
stated_nodes read inside old new it = it.grows ∙ ap (λ ns. ns ++ flat_statement (length old.nodes) it.value) (take-length old.nodes)

then_grows : (old now next : Drafted) (value : Statement) (others : Statements) → next.nodes ≡ now.nodes ++ flat_statement (length now.nodes) value → next.nodes ++ flat_statements (length next.nodes) others ≡ now.nodes ++ flat_statements (length now.nodes) (Then value others)
unfolding flat_statements
then_grows old now next value others e =
    let these = flat_statement (length now.nodes) value in
    let count : length next.nodes ≡ length now.nodes + length these = ap length e ∙ length-append now.nodes these in
    rw (count, e) (append_assoc now.nodes these (flat_statements (length now.nodes + length these) others))

pub amid_next : (scope inside next : Scope) (whole : Trees) (c c' : List Piece) (old now new : Drafted) → has_tree c ≡ true → IsPast c c' → IsAmid scope whole old inside (ahead c) now → HasStated (statement inside (is_last (ahead c)) (tree_ahead c)) next (length now.nodes) now new → IsAmid scope whole old next (ahead c') new
amid_next scope inside next whole c c' old now new some past amid it =
    let here : ahead c ≡ And (tree_ahead c) (ahead c') = passed_here c c' some past in
    let read : statement inside (is_last (And (tree_ahead c) (ahead c'))) (tree_ahead c) (made_of now) ≡ Ok ((it.value, next), made_of new) =
    ap (λ ts. statement inside (is_last ts) (tree_ahead c) (made_of now)) (sym here) ∙ it.gives in
    let all : statements inside (ahead c) (made_of now) ≡ (statement inside (is_last (And (tree_ahead c) (ahead c'))) (tree_ahead c) >>> λ s. statements s.1 (ahead c') >>> λ others. gives (Then s.0 others)) (made_of now) =
    ap (λ ts. statements inside ts (made_of now)) here ∙ one_step inside (tree_ahead c) (ahead c') (made_of now) in
    record {
      after = λ others. amid.after (Then it.value others);
      ok = λ others made e. amid.ok (Then it.value others) made (all ∙ rw (read, e) refl);
      fails = λ f e. amid.fails f (rw (all, read) (fails_first f _ _ e));
      grows = λ others. then_grows old now new it.value others (stated_nodes _ next now new it) ∙ amid.grows (Then it.value others);
    }

pub amid_fails : (scope inside : Scope) (whole : Trees) (c : List Piece) (old now : Drafted) (f : ScriptFault) → has_tree c ≡ true → IsAmid scope whole old inside (ahead c) now → Fails f (statement inside (is_last (ahead c)) (tree_ahead c) (made_of now)) → Fails f (statements scope whole (made_of old))
amid_fails scope inside whole c old now f some amid e =
    let here : ahead c ≡ And (tree_ahead c) (rest_of (ahead c)) = tree_here c some in
    let all : statements inside (ahead c) (made_of now) ≡ (statement inside (is_last (And (tree_ahead c) (rest_of (ahead c)))) (tree_ahead c) >>> λ s. statements s.1 (rest_of (ahead c)) >>> λ others. gives (Then s.0 others)) (made_of now) =
    ap (λ ts. statements inside ts (made_of now)) here ∙ one_step inside (tree_ahead c) (rest_of (ahead c)) (made_of now) in
    let first : Fails f (statement inside (is_last (And (tree_ahead c) (rest_of (ahead c)))) (tree_ahead c) (made_of now)) =
    subst (λ ts. Fails f (statement inside (is_last ts) (tree_ahead c) (made_of now))) here e in
    amid.fails f (rw all (fails_first f _ _ first))

pub amid_ends : (scope inside : Scope) (whole : Trees) (c : List Piece) (old now new : Drafted) → has_tree c ≡ false → IsAmid scope whole old inside (ahead c) now → new ≡ record now { nodes = now.nodes ++ node.End ∷ [] } → HasGrown (statements scope whole) (flat_statements (length old.nodes)) old new
unfolding statements flat_statements
amid_ends scope inside whole c old now new none amid pushed = record {
  value = amid.after Done;
  gives = amid.ok Done (made_of new) (ap (λ ts. statements inside ts (made_of now)) (end_here c none) ∙ rw (pushed, node_made now node.End) refl);
  grows = rw pushed (amid.grows Done);
}

-- ## Forms

-- a step that gave, and the next one
pub step_ok : {A B : Type 0} (read : Reads A) (next : A → Reads B) (made mid : Made) (a : A) → read made ≡ Ok (a, mid) → (read >>> next) made ≡ next a mid
step_ok read next made mid a e = rw e refl

step_fails : {A B : Type 0} (f : ScriptFault) (read : Reads A) (next : A → Reads B) (made : Made) → Fails f (read made) → Fails f ((read >>> next) made)
step_fails f read next made e = fails_first f (read made) (λ found. next found.0 found.1) e

pub last_by_count : (ts : Trees) (n : ℕ) → n ≡ min 2 (tree_count ts) → (n == 1) ≡ is_last ts
last_by_count Nil n e = rw e refl
last_by_count (And a Nil) n e = rw e refl
last_by_count (And a (And b row)) n e = let two : n ≡ 2 = omega (arith, e) in rw two refl

-- the feature of a `trace`
trace_by : (ts : Trees) (tree : Tree) (row : Trees) (b : Bool) → ts ≡ And tree row → are_texts ts ≡ b → trace_feature ts ≡ (if b then FirstForms else Exceptions)
trace_by Nil tree row b e texts = cc
trace_by (And a others) tree row b e texts = rw texts refl

pub trace_ahead : (ps : List Piece) (b : Bool) → has_tree ps ≡ true → are_texts (ahead ps) ≡ b → (if b then FirstForms else Exceptions) ≡ trace_feature (ahead ps)
trace_ahead ps b some texts = sym (trace_by (ahead ps) _ _ b (tree_here ps some) texts)

pub trace_empty : (ps : List Piece) → has_tree ps ≡ false → Exceptions ≡ trace_feature (ahead ps)
trace_empty ps none = rw (end_here ps none) refl

-- the node of a form
pub form_opened : (word : List ℕ) (it : Form) (at : ℕ) (feature : Feature) (items : Trees) (old mid new : Drafted) → feature ≡ feature_of (form_seen word it) items → mid ≡ record old { formed = old.formed ++ record { at = at; feature = feature; mocked = it.mocked } ∷ [] } → new ≡ record mid { nodes = mid.nodes ++ node.End ∷ [] } → HasOpened (form_node at (form_seen word it) items) old new
form_opened word it at feature items old mid new same formed pushed = record {
  gives = rw (pushed, node_made mid node.End, formed, same) refl;
  grows = rw (pushed, formed) refl;
}

-- a tree that begins no form
pub no_form : (scope : Scope) (last : Bool) (tree : Tree) (made : Made) → form_at tree ≡ None → statement scope last tree made ≡ Err (model.Shape (place_of tree))
unfolding statement
no_form scope last (Word a w) made e = refl
no_form scope last (Number a w) made e = refl
no_form scope last (Text a w) made e = refl
no_form scope last (Branch a Nil) made e = refl
no_form scope last (Branch a (And (Word b w) row)) made e = cc
no_form scope last (Branch a (And (Number b w) row)) made e = refl
no_form scope last (Branch a (And (Text b w) row)) made e = refl
no_form scope last (Branch a (And (Branch b w) row)) made e = refl

pub placed : (at place : ℕ) (word : List ℕ) (c c' : List Piece) → place ≡ place_of (tree_ahead c) → IsInForm at word c c' → IsInForm place word c c'
placed at place word c c' is inside =
    let same : place ≡ at = is ∙ ap (λ ts. place_of (first_tree ts)) inside.tree in
    rw same inside

pub unknown_form : (scope : Scope) (last : Bool) (at : ℕ) (word : List ℕ) (c c' : List Piece) (made : Made) → IsInForm at word c c' → None ≡ form_of word → statement scope last (tree_ahead c) made ≡ Err (model.Shape at)
unfolding statement
unknown_form scope last at word c c' made inside none = rw (inside.tree, statement, ← none) refl

-- a form that is known: its node, then the rest
known_form : (scope : Scope) (last : Bool) (at : ℕ) (word : List ℕ) (it : Form) (c c' : List Piece) (inside : IsInForm at word c c') (made : Made) → Some (form_seen word it) ≡ form_of word → statement scope last (tree_ahead c) made ≡ (form_node at (form_seen word it) (ahead c') >>> λ _. form scope last at (head_of it.head) (And (Word inside.place word) (ahead c'))) made
unfolding statement
known_form scope last at word it c c' inside made known = rw (inside.tree, statement, ← known) refl

-- whose fault is that of the statement
pub node_fails : (scope : Scope) (last : Bool) (at : ℕ) (word : List ℕ) (it : Form) (c c' : List Piece) (f : ScriptFault) (made : Made) → IsInForm at word c c' → Some (form_seen word it) ≡ form_of word → Fails f (form_node at (form_seen word it) (ahead c') made) → Fails f (statement scope last (tree_ahead c) made)
node_fails scope last at word it c c' f made inside known e = rw (known_form scope last at word it c c' inside made known) (step_fails f (form_node at (form_seen word it) (ahead c')) (λ _. form scope last at (head_of it.head) (And (Word inside.place word) (ahead c'))) made e)

opened_front : (old mid : Drafted) (opened : ℕ) → opened ≡ length old.nodes → mid.nodes ≡ old.nodes ++ node.End ∷ [] → take opened mid.nodes ≡ take (length old.nodes) old.nodes
opened_front old mid opened is grows =
    ap (λ ns. take opened ns) grows ∙ (take_at old.nodes (node.End ∷ []) opened (sym is) ∙ sym (take-length old.nodes))

pub opened_count : (old mid : Drafted) (opened : ℕ) → opened ≡ length old.nodes → mid.nodes ≡ old.nodes ++ node.End ∷ [] → length mid.nodes ≡ opened + 1
opened_count old mid opened is grows = ap length grows ∙ (length-append old.nodes (node.End ∷ []) ∙ ap (λ n. n + 1) (sym is))

pub form_read : (scope : Scope) (last : Bool) (at : ℕ) (word : List ℕ) (it : Form) (c c' : List Piece) (behind : Scope) (opened : ℕ) (old mid new : Drafted) {X : Type 0} (r : Result X ScriptFault) → IsInForm at word c c' → Some (form_seen word it) ≡ form_of word → opened ≡ length old.nodes → HasOpened (form_node at (form_seen word it) (ahead c')) old mid → ((place : Tree) → States r (form scope last at (head_of it.head) (And place (ahead c'))) behind opened mid new) → States r (statement scope last (tree_ahead c)) behind (length old.nodes) old new
form_read scope last at word it c c' behind opened old mid new (Ok x) inside known is begun read =
    let it' = read (Word inside.place word) in
    record {
      value = it'.value;
      gives = known_form scope last at word it c c' inside (made_of old) known ∙ (step_ok (form_node at (form_seen word it) (ahead c')) (λ _. form scope last at (head_of it.head) (And (Word inside.place word) (ahead c'))) (made_of old) (made_of mid) tt begun.gives ∙ it'.gives);
      grows = it'.grows ∙ (ap (λ ns. ns ++ flat_statement opened it'.value) (opened_front old mid opened is begun.grows) ∙ ap (λ n. take (length old.nodes) old.nodes ++ flat_statement n it'.value) is);
    }
form_read scope last at word it c c' behind opened old mid new (Err f) inside known is begun read =
    subst (λ r. Fails f r) (sym (known_form scope last at word it c c' inside (made_of old) known ∙ step_ok (form_node at (form_seen word it) (ahead c')) (λ _. form scope last at (head_of it.head) (And (Word inside.place word) (ahead c'))) (made_of old) (made_of mid) tt begun.gives)) (read (Word inside.place word))

-- ## Blocks

pub no_block : (scope : Scope) (full : Bool) (tree : Tree) (made : Made) → list_at tree ≡ None → block scope full tree made ≡ Err (model.Shape (place_of tree))
unfolding block
no_block scope full (Word a w) made e = refl
no_block scope full (Number a w) made e = refl
no_block scope full (Text a w) made e = refl
no_block scope full (Branch a row) made e = cc

pub full_block : (scope : Scope) (full : Bool) (at : ℕ) (c c' : List Piece) (made : Made) → IsInside at c c' → full ≡ true → block scope full (tree_ahead c) made ≡ Err (model.Size at)
unfolding block
full_block scope full at c c' made inside e = rw (inside.tree, block, e) refl

roomy_block : (scope : Scope) (full : Bool) (at : ℕ) (c c' : List Piece) (made : Made) → IsInside at c c' → full ≡ false → block scope full (tree_ahead c) made ≡ block_of (statements scope (ahead c')) made
unfolding block
roomy_block scope full at c c' made inside e = rw (inside.tree, block, e) refl

pub block_read : (scope : Scope) (full : Bool) (at : ℕ) (c c' : List Piece) (old new : Drafted) {X : Type 0} (r : Result X ScriptFault) → IsInside at c c' → full ≡ false → Grows r (statements scope (ahead c')) flat_statements old new → Blocked r (block scope full (tree_ahead c)) old new
block_read scope full at c c' old new (Ok x) inside e read = record {
  items = read.value;
  gives = roomy_block scope full at c c' (made_of old) inside e ∙ rw read.gives refl;
  grows = read.grows;
}
block_read scope full at c c' old new (Err f) inside e read = rw (roomy_block scope full at c c' (made_of old) inside e) (fails_first f _ _ read)

-- ## Values

pub expression_value : (scope : Scope) (tree : Tree) (made : Made) → (is_some (form_at tree) ≡ true → form_of (list_word tree) ≡ None) → value scope tree made ≡ (item scope false tree >>> λ e. gives (Let e)) made
unfolding value
expression_value scope (Word a w) made none = refl
expression_value scope (Number a w) made none = refl
expression_value scope (Text a w) made none = refl
expression_value scope (Branch a Nil) made none = refl
expression_value scope (Branch a (And (Word b w) row)) made none = rw (value, none refl) refl
expression_value scope (Branch a (And (Number b w) row)) made none = refl
expression_value scope (Branch a (And (Text b w) row)) made none = refl
expression_value scope (Branch a (And (Branch b w) row)) made none = refl

pub value_of_expression : (scope : Scope) (tree : Tree) (old new : Drafted) → (is_some (form_at tree) ≡ true → form_of (list_word tree) ≡ None) → HasGrown (item scope false tree) flat_expression old new → HasValue (value scope tree) node.Let old new
unfolding flat_statement
value_of_expression scope tree old new none read = record {
  value = Let read.value;
  inner = flat_expression read.value;
  gives = expression_value scope tree (made_of old) none ∙ rw read.gives refl;
  grows = read.grows;
  flat = λ at one. refl;
}

pub value_expression_fails : (scope : Scope) (tree : Tree) (made : Made) (f : ScriptFault) → (is_some (form_at tree) ≡ true → form_of (list_word tree) ≡ None) → Fails f (item scope false tree made) → Fails f (value scope tree made)
value_expression_fails scope tree made f none e = rw (expression_value scope tree made none) (fails_first f _ _ e)

-- a form that gives no value
pub value_no_value : (scope : Scope) (tree : Tree) (made : Made) (it : Form) → (is_some (form_at tree) ≡ true) × (form_of (list_word tree) ≡ Some (form_seen (list_word tree) it)) → it.gives ≡ false → value scope tree made ≡ Err (model.Shape (place_of tree))
unfolding value
value_no_value scope (Word a w) made it known none = absurd (false≢true known.0)
value_no_value scope (Number a w) made it known none = absurd (false≢true known.0)
value_no_value scope (Text a w) made it known none = absurd (false≢true known.0)
value_no_value scope (Branch a Nil) made it known none = absurd (false≢true known.0)
value_no_value scope (Branch a (And (Word b w) row)) made it known none = rw (value, known.1, none) refl
value_no_value scope (Branch a (And (Number b w) row)) made it known none = absurd (false≢true known.0)
value_no_value scope (Branch a (And (Text b w) row)) made it known none = absurd (false≢true known.0)
value_no_value scope (Branch a (And (Branch b w) row)) made it known none = absurd (false≢true known.0)

named_by : (tree : Tree) (at : ℕ) (word : List ℕ) (place : ℕ) (items : Trees) → tree ≡ Branch at (And (Word place word) items) → Branch at (And (Word place word) items) ≡ Branch (place_of tree) (And (Word place (list_word tree)) items)
named_by tree at word place items e = rw e refl

-- a form that comes was gone into
pub entered : (r : Option WordRead) (c c' : List Piece) → is_some (form_at (tree_ahead c)) ≡ true → Enters r c c' → IsInForm (place_of (tree_ahead c)) (list_word (tree_ahead c)) c c'
entered None c c' some e = absurd (false≢true (ap is_some (sym e.0) ∙ some))
entered (Some it) c c' some e =
    record {
      place = e.place;
      tree = e.tree ∙ ap (λ (t : Tree). And t (first (around c'))) (named_by (tree_ahead c) it.at it.word.now e.place (ahead c') (ap first_tree e.tree));
      around = e.around;
      fewer = e.fewer;
    }

known_value_by : (scope : Scope) (tree : Tree) (at : ℕ) (word : List ℕ) (place : ℕ) (items : Trees) (made : Made) (it : Form) → tree ≡ Branch at (And (Word place word) items) → form_of word ≡ Some (form_seen word it) → it.gives ≡ true → value scope tree made ≡ (form_node at (form_seen word it) items >>> λ _. form scope true at (head_of it.head) (And (Word place word) items) >>> λ inner. gives (LetForm inner.0)) made
unfolding value
known_value_by scope tree at word place items made it e known given = rw (e, value, known, given) refl

known_value : (scope : Scope) (c c' : List Piece) (made : Made) (it : Form) (inside : IsInForm (place_of (tree_ahead c)) (list_word (tree_ahead c)) c c') → form_of (list_word (tree_ahead c)) ≡ Some (form_seen (list_word (tree_ahead c)) it) → it.gives ≡ true → value scope (tree_ahead c) made ≡ (form_node (place_of (tree_ahead c)) (form_seen (list_word (tree_ahead c)) it) (ahead c') >>> λ _. form scope true (place_of (tree_ahead c)) (head_of it.head) (And (Word inside.place (list_word (tree_ahead c))) (ahead c')) >>> λ inner. gives (LetForm inner.0)) made
known_value scope c c' made it inside known given = known_value_by scope (tree_ahead c) (place_of (tree_ahead c)) (list_word (tree_ahead c)) inside.place (ahead c') made it (ap first_tree inside.tree) known given

pub value_node_fails : (scope : Scope) (c c' : List Piece) (made : Made) (it : Form) (f : ScriptFault) → IsInForm (place_of (tree_ahead c)) (list_word (tree_ahead c)) c c' → form_of (list_word (tree_ahead c)) ≡ Some (form_seen (list_word (tree_ahead c)) it) → it.gives ≡ true → Fails f (form_node (place_of (tree_ahead c)) (form_seen (list_word (tree_ahead c)) it) (ahead c') made) → Fails f (value scope (tree_ahead c) made)
value_node_fails scope c c' made it f inside known given e = rw (known_value scope c c' made it inside known given) (step_fails f (form_node (place_of (tree_ahead c)) (form_seen (list_word (tree_ahead c)) it) (ahead c')) (λ _. form scope true (place_of (tree_ahead c)) (head_of it.head) (And (Word inside.place (list_word (tree_ahead c))) (ahead c')) >>> λ inner. gives (LetForm inner.0)) made e)

pub value_form_fails : (scope : Scope) (c c' : List Piece) (old mid : Drafted) (it : Form) (f : ScriptFault) → IsInForm (place_of (tree_ahead c)) (list_word (tree_ahead c)) c c' → form_of (list_word (tree_ahead c)) ≡ Some (form_seen (list_word (tree_ahead c)) it) → it.gives ≡ true → HasOpened (form_node (place_of (tree_ahead c)) (form_seen (list_word (tree_ahead c)) it) (ahead c')) old mid → ((place : Tree) → Fails f (form scope true (place_of (tree_ahead c)) (head_of it.head) (And place (ahead c')) (made_of mid))) → Fails f (value scope (tree_ahead c) (made_of old))
value_form_fails scope c c' old mid it f inside known given begun e =
    subst (λ r. Fails f r) (sym (known_value scope c c' (made_of old) it inside known given ∙ step_ok (form_node (place_of (tree_ahead c)) (form_seen (list_word (tree_ahead c)) it) (ahead c')) (λ _. form scope true (place_of (tree_ahead c)) (head_of it.head) (And (Word inside.place (list_word (tree_ahead c))) (ahead c')) >>> λ inner. gives (LetForm inner.0)) (made_of old) (made_of mid) tt begun.gives)) (step_fails f (form scope true (place_of (tree_ahead c)) (head_of it.head) (And (Word inside.place (list_word (tree_ahead c))) (ahead c'))) (λ inner. gives (LetForm inner.0)) (made_of mid) (e (Word inside.place (list_word (tree_ahead c)))))

pub value_of_form : (scope behind : Scope) (c c' : List Piece) (opened : ℕ) (old mid new : Drafted) (it : Form) → IsInForm (place_of (tree_ahead c)) (list_word (tree_ahead c)) c c' → form_of (list_word (tree_ahead c)) ≡ Some (form_seen (list_word (tree_ahead c)) it) → it.gives ≡ true → opened ≡ length old.nodes → HasOpened (form_node (place_of (tree_ahead c)) (form_seen (list_word (tree_ahead c)) it) (ahead c')) old mid → ((place : Tree) → HasStated (form scope true (place_of (tree_ahead c)) (head_of it.head) (And place (ahead c'))) behind opened mid new) → HasValue (value scope (tree_ahead c)) node.LetForm old new
unfolding flat_statement
value_of_form scope behind c c' opened old mid new it inside known given is begun read =
    let it' = read (Word inside.place (list_word (tree_ahead c))) in
    record {
      value = LetForm it'.value;
      inner = flat_statement opened it'.value;
      gives = known_value scope c c' (made_of old) it inside known given ∙ (step_ok (form_node (place_of (tree_ahead c)) (form_seen (list_word (tree_ahead c)) it) (ahead c')) (λ _. form scope true (place_of (tree_ahead c)) (head_of it.head) (And (Word inside.place (list_word (tree_ahead c))) (ahead c')) >>> λ inner. gives (LetForm inner.0)) (made_of old) (made_of mid) tt begun.gives ∙ step_ok (form scope true (place_of (tree_ahead c)) (head_of it.head) (And (Word inside.place (list_word (tree_ahead c))) (ahead c'))) (λ inner. gives (LetForm inner.0)) (made_of mid) (made_of new) (it'.value, behind) it'.gives);
      grows = it'.grows ∙ ap (λ ns. ns ++ flat_statement opened it'.value) (opened_front old mid opened is begun.grows ∙ take-length old.nodes);
      flat = λ at one. ap (λ n. node.LetForm ∷ flat_statement n it'.value) (sym one ∙ sym is);
    }
