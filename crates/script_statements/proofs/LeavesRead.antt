-- Statements without a block, as the code reads them: the variables that a job takes with it, and the operands of `trace`.
use Rattle.std.proofs.Common.{◌≡◌, ℕ, ◌+◌, List, [], ◌∷◌, ◌++◌, length, map, Bool, true, false, Option, Some, None, Result, Ok, Err, refl, arith, ap, sym, ◌∙◌}
use Rattle.std.proofs.Common.{append-nil, append_assoc}
use Rattle.std.proofs.lemmas.Bool.{false≢true}
use Rattle.std.proofs.lemmas.List.{map-append, length-map}
use Rattle.std.specs.Prelude.{nat_lt, nat_le, is_none, is_err}
use Rattle.std.specs.Str.{bytes_eq}
use Rattle.spec_script.specs.Captures.{captured_behind, slots_of, numbered_from}
use Rattle.spec_script.specs.Expressions.{item, operation, traced}
use Rattle.spec_script.specs.Faults as model
use Rattle.spec_script.specs.Forms.{ExpressionHead, UnitHead, OperatorHead, expression_head}
use Rattle.spec_script.specs.Kinds.{VariableKind}
use Rattle.spec_script.specs.Limits.{most_captured, most_traced}
use Rattle.spec_script.specs.Reads.{Made, Reads, ◌>>>◌, gives, requires_that}
use Rattle.spec_script.specs.Results.{◌>>=◌}
use Rattle.spec_script.specs.Scopes as scopes
use Rattle.spec_script.specs.Scopes.{Scope, named_in, used}
use Rattle.spec_script.specs.Syntax.{Expression, Expressions, NoExpressions, AndExpression}
use Rattle.spec_script.specs.Trees.{Tree, Word, Number, Text, Branch, Trees, Nil, And}
use Rattle.script_tree.specs.Pieces.{Piece}
use Rattle.script_draft.specs.Ahead.{ahead, has_tree, tree_ahead, rest_of, IsPast}
use Rattle.script_forms.specs.Calls.{object_call_of, object_call_with_of, reader_call_of, path_call_of, directory_of, object_call_in, object_call_with_in, reader_call_in, path_call_in, directory_in}
use Rattle.script_statements.specs.Captured.{captured_next, HasCaptured}
use Rattle.script_draft.specs.Drafts.{Drafted, made_of}
use Rattle.script_forms.specs.Flat.{flat_expression, flat_expressions, expression_count}
use Rattle.script_draft.specs.Names.{named_of}
use Rattle.script_forms.specs.Faults.{Fails}
use Rattle.script_draft.specs.Readings.{HasGrown, HasTraced}
use Rattle.script_statements.specs.declared.captures.Job.{Job}
use Rattle.script_forms.specs.declared.fault.ScriptFault.{ScriptFault}
use Rattle.script_forms.specs.declared.node.Directory.{Directory}
use Rattle.script_forms.specs.declared.node.Directory.TheVariants as directory
use Rattle.script_forms.specs.declared.node.ObjectCall.{ObjectCall}
use Rattle.script_forms.specs.declared.node.ObjectCall.TheVariants as object
use Rattle.script_forms.specs.declared.node.ObjectCallWith.{ObjectCallWith}
use Rattle.script_forms.specs.declared.node.ObjectCallWith.TheVariants as object_with
use Rattle.script_forms.specs.declared.node.PathCall.{PathCall}
use Rattle.script_forms.specs.declared.node.PathCall.TheVariants as path
use Rattle.script_forms.specs.declared.node.ReaderCall.{ReaderCall}
use Rattle.script_forms.specs.declared.node.ReaderCall.TheVariants as reader
use Rattle.script_draft.specs.declared.scope.Named.{Named}
use Rattle.script_draft.proofs.Counts.{next_here, next_passed, has_none}
use Rattle.script_draft.proofs.Steps.{fails_first}

-- ## Variables that are numbered anew

numbered_count : (k : ℕ) (names : List scopes.Named) → length (numbered_from k names) ≡ length names
numbered_count k [] = refl
numbered_count k (it ∷ rest) = let e = numbered_count (k + 1) rest in omega (arith, e)

numbered_none_by : (k : ℕ) (it : scopes.Named) (rest : List scopes.Named) (name : List ℕ) (b : Bool) → bytes_eq it.name name ≡ b → is_none (named_in (numbered_from (k + 1) rest) name) ≡ is_none (named_in rest name) → is_none (named_in (numbered_from k (it ∷ rest)) name) ≡ is_none (named_in (it ∷ rest) name)
numbered_none_by k it rest name true e h = rw e refl
numbered_none_by k it rest name false e h = rw e h

-- the same names are taken
numbered_none : (k : ℕ) (names : List scopes.Named) (name : List ℕ) → is_none (named_in (numbered_from k names) name) ≡ is_none (named_in names name)
numbered_none k [] name = refl
numbered_none k (it ∷ rest) name = numbered_none_by k it rest name _ refl (numbered_none (k + 1) rest name)

numbered_more : (k : ℕ) (names : List scopes.Named) (it : scopes.Named) → numbered_from k (names ++ it ∷ []) ≡ numbered_from k names ++ record it { number = k + length names } ∷ []
numbered_more k [] it = let same : k ≡ k + 0 = omega arith in ap (λ n. record it { number = n } ∷ []) same
numbered_more k (first ∷ rest) it =
    let same : k + 1 + length rest ≡ k + length (first ∷ rest) = omega arith in
    ap (λ ns. record first { number = k } ∷ ns) (numbered_more (k + 1) rest it ∙ ap (λ n. numbered_from (k + 1) rest ++ record it { number = n } ∷ []) same)

next_numbered : (scope : Scope) (names : List scopes.Named) (tree : Tree) (made : Made) → captured_next scope (numbered_from 0 names) tree made ≡ captured_next scope names tree made
next_numbered scope names (Word at name) made = rw (numbered_count 0 names, numbered_none 0 names name) refl
next_numbered scope names (Number at z) made = refl
next_numbered scope names (Text at text) made = refl
next_numbered scope names (Branch at row) made = refl

-- ## One variable more

step_by : {A B : Type 0} (a b : Bool) (e f : model.ScriptFault) (read : Reads ℕ) (next : ℕ → A) (go : A → Reads B) (made : Made) (r : Result (ℕ × Made) model.ScriptFault) → read made ≡ r →
    (requires_that a e >>> λ _. requires_that b f >>> λ _. read >>> λ n. go (next n)) made
    ≡ ((requires_that a e >>> λ _. requires_that b f >>> λ _. read >>> λ n. gives (next n)) made >>= λ found. go found.0 found.1)
step_by true true e f read next go made (Ok x) h = rw h refl
step_by true true e f read next go made (Err g) h = rw h refl
step_by true false e f read next go made r h = refl
step_by false b e f read next go made r h = refl

behind_next : (scope : Scope) (before : List scopes.Named) (tree : Tree) (row : Trees) (made : Made) → captured_behind scope before (And tree row) made ≡ (captured_next scope before tree made >>= λ found. captured_behind scope (before ++ found.0 ∷ []) row found.1)
unfolding captured_behind
behind_next scope before (Word at name) row made = step_by (nat_lt (length before) most_captured) (is_none (named_in before name)) (model.Size at) (model.Twice at) (used VariableKind scope (Word at name)) (λ slot. record { name = name; kind = VariableKind; number = slot }) (λ it. captured_behind scope (before ++ it ∷ []) row) made _ refl
behind_next scope before (Number at z) row made = refl
behind_next scope before (Text at text) row made = refl
behind_next scope before (Branch at row') row made = refl

-- from the start of a list on variables were taken, with these slots, and so they stand in the job
pub record IsTaking (scope : Scope) (start now : Trees) (slots_taken : List ℕ) (names_taken : List scopes.Named) : Type 0 where
  pub taken : List scopes.Named
  pub rest : (made : Made) → captured_behind scope taken now made ≡ captured_behind scope [] start made
  pub slots : slots_taken ≡ slots_of taken
  pub names : names_taken ≡ numbered_from 0 taken

pub taking_begins : (scope : Scope) (start : Trees) (slots : List ℕ) (names : List Named) → slots ≡ [] → names ≡ [] → IsTaking scope start start slots (map named_of names)
taking_begins scope start slots names s n = record { taken = []; rest = λ made. refl; slots = s; names = ap (λ ns. map named_of ns) n }

taking_next : (scope : Scope) (c0 c1 : List Piece) (taken : List scopes.Named) (names : List Named) (it : scopes.Named) (made : Made) → has_tree c0 ≡ true → IsPast c0 c1 → map named_of names ≡ numbered_from 0 taken → captured_next scope (map named_of names) (tree_ahead c0) made ≡ Ok (it, made) → captured_behind scope taken (ahead c0) made ≡ captured_behind scope (taken ++ it ∷ []) (ahead c1) made
taking_next scope c0 c1 taken names it made h past same given =
    let next : captured_next scope taken (tree_ahead c0) made ≡ Ok (it, made) = sym (next_numbered scope taken (tree_ahead c0) made) ∙ (ap (λ ns. captured_next scope ns (tree_ahead c0) made) (sym same) ∙ given) in
    ap (λ ts. captured_behind scope taken ts made) (next_passed c0 c1 h past)
    ∙ (behind_next scope taken (tree_ahead c0) (ahead c1) made
    ∙ ap (λ r. r >>= λ found. captured_behind scope (taken ++ found.0 ∷ []) (ahead c1) found.1) next)

pub taking_goes : (scope : Scope) (start : Trees) (c0 c1 : List Piece) (slots : List ℕ) (names : List Named) (variable it : Named) → has_tree c0 ≡ true → IsPast c0 c1 → IsTaking scope start (ahead c0) slots (map named_of names) → ((made : Made) → captured_next scope (map named_of names) (tree_ahead c0) made ≡ Ok (named_of variable, made)) → named_of it ≡ record (named_of variable) { number = length names } → IsTaking scope start (ahead c1) (slots ++ variable.number ∷ []) (map named_of (names ++ it ∷ []))
taking_goes scope start c0 c1 slots names variable it h past before given same =
    let count : length names ≡ length before.taken = sym (length-map names named_of) ∙ (ap length before.names ∙ numbered_count 0 before.taken) in
    let count_from : length names ≡ 0 + length before.taken = omega (arith, count) in
    record {
      taken = before.taken ++ named_of variable ∷ [];
      rest = λ made. sym (taking_next scope c0 c1 before.taken names (named_of variable) made h past before.names (given made)) ∙ before.rest made;
      slots = ap (λ ns. ns ++ variable.number ∷ []) before.slots ∙ sym (map-append (λ (n : scopes.Named). n.number) before.taken (named_of variable ∷ []));
      names =
          map-append named_of names (it ∷ [])
          ∙ (ap (λ ns. ns ++ named_of it ∷ []) before.names
          ∙ (ap (λ n. numbered_from 0 before.taken ++ n ∷ []) (same ∙ ap (λ n. record (named_of variable) { number = n }) count_from)
          ∙ sym (numbered_more 0 before.taken (named_of variable))));
    }

pub taking_fails : (scope : Scope) (start : Trees) (c0 : List Piece) (slots : List ℕ) (names : List Named) (f : ScriptFault) (made : Made) → has_tree c0 ≡ true → IsTaking scope start (ahead c0) slots (map named_of names) → Fails f (captured_next scope (map named_of names) (tree_ahead c0) made) → Fails f (captured_behind scope [] start made)
taking_fails scope start c0 slots names f made h before fails =
    let next : captured_next scope (map named_of names) (tree_ahead c0) made ≡ captured_next scope before.taken (tree_ahead c0) made = ap (λ ns. captured_next scope ns (tree_ahead c0) made) before.names ∙ next_numbered scope before.taken (tree_ahead c0) made in
    rw (← before.rest made, next_here c0 h, behind_next scope before.taken (tree_ahead c0) (rest_of (ahead c0)) made) (fails_first f _ _ (rw next at fails))

-- at the end of the list the job has them
pub taking_ends : (scope : Scope) (start : Trees) (c0 : List Piece) (slots : List ℕ) (names : List Named) (job : Job) → has_tree c0 ≡ false → IsTaking scope start (ahead c0) slots (map named_of names) → job.slots ≡ slots → job.inner ≡ record scope { names = map named_of names; next = length names } → HasCaptured (captured_behind scope [] start) scope job
unfolding captured_behind
taking_ends scope start c0 slots names job h before all inside =
    let count : length names ≡ length before.taken = sym (length-map names named_of) ∙ (ap length before.names ∙ numbered_count 0 before.taken) in
    let of_names : List scopes.Named → ℕ → Scope = λ ns n. record scope { names = ns; next = n } in
    record {
      taken = before.taken;
      gives = λ made. sym (before.rest made) ∙ ap (λ ts. captured_behind scope before.taken ts made) (has_none c0 h);
      slots = all ∙ before.slots;
      inner = inside ∙ (ap (λ ns. of_names ns (length names)) before.names ∙ ap (λ n. of_names (numbered_from 0 before.taken) n) count);
    }

-- ## Small enums, there and back

pub object_call_in_of : (call : ObjectCall) → object_call_in (object_call_of call) ≡ call
object_call_in_of object.Take = refl
object_call_in_of object.TakeNonblocking = refl
object_call_in_of object.Length = refl
object_call_in_of object.Await = refl
object_call_in_of object.Acquire = refl
object_call_in_of object.Release = refl
object_call_in_of object.Lock = refl
object_call_in_of object.TryLock = refl
object_call_in_of object.Unlock = refl

pub object_call_with_in_of : (call : ObjectCallWith) → object_call_with_in (object_call_with_of call) ≡ call
object_call_with_in_of object_with.Add = refl
object_call_with_in_of object_with.Resolve = refl
object_call_with_in_of object_with.TryResolve = refl

pub reader_call_in_of : (call : ReaderCall) → reader_call_in (reader_call_of call) ≡ call
reader_call_in_of reader.Line = refl
reader_call_in_of reader.TakeAll = refl
reader_call_in_of reader.Char = refl
reader_call_in_of reader.AtEnd = refl

pub path_call_in_of : (call : PathCall) → path_call_in (path_call_of call) ≡ call
path_call_in_of path.Load = refl
path_call_in_of path.Mkdir = refl
path_call_in_of path.ReadDir = refl
path_call_in_of path.Unlink = refl
path_call_in_of path.Rmdir = refl
path_call_in_of path.Kind = refl

pub directory_in_of : (it : Directory) → directory_in (directory_of it) ≡ it
directory_in_of (directory.Declared number) = refl
directory_in_of (directory.Opened slot) = refl

-- ## The operands of `trace`

-- these before those
abbrev pub onto : Expressions → Expressions → Expressions
onto NoExpressions those = those
onto (AndExpression e these) those = AndExpression e (onto these those)

abbrev pub Found : Type 0
Found = Result (Expressions × Made) model.ScriptFault

abbrev pub with_first : Expression → Expressions × Made → Found
with_first e found = Ok (AndExpression e found.0, found.1)

abbrev pub with_done : Expressions → Expressions × Made → Found
with_done done found = Ok (onto done found.0, found.1)

onto_none : (these : Expressions) → onto these NoExpressions ≡ these
onto_none NoExpressions = refl
onto_none (AndExpression e these) = ap (λ es. AndExpression e es) (onto_none these)

onto_onto : (these those others : Expressions) → onto (onto these those) others ≡ onto these (onto those others)
onto_onto NoExpressions those others = refl
onto_onto (AndExpression e these) those others = ap (λ es. AndExpression e es) (onto_onto these those others)

onto_flat : (these : Expressions) (e : Expression) → flat_expressions (onto these (AndExpression e NoExpressions)) ≡ flat_expressions these ++ flat_expression e
unfolding flat_expressions flat_expression
onto_flat NoExpressions e = append-nil (flat_expression e)
onto_flat (AndExpression first these) e = ap (λ ns. flat_expression first ++ ns) (onto_flat these e) ∙ sym (append_assoc (flat_expression first) (flat_expressions these) (flat_expression e))

onto_count : (these : Expressions) (e : Expression) → expression_count (onto these (AndExpression e NoExpressions)) ≡ expression_count these + 1
unfolding expression_count
onto_count NoExpressions e = refl
onto_count (AndExpression first these) e = ap (λ n. n + 1) (onto_count these e)

-- from the start of the list on `n` operands were read
pub record IsTracing (scope : Scope) (start now : Trees) (n : ℕ) (old new : Drafted) : Type 0 where
  pub done : Expressions
  pub gives : traced scope 0 start (made_of old) ≡ (traced scope n now (made_of new) >>= with_done done)
  pub grows : new.nodes ≡ old.nodes ++ flat_expressions done
  pub counted : expression_count done ≡ n

as_found : (r : Found) → r ≡ (r >>= with_done NoExpressions)
as_found (Ok x) = refl
as_found (Err f) = refl

pub tracing_begins : (scope : Scope) (start : Trees) (old : Drafted) → IsTracing scope start start 0 old old
unfolding flat_expressions expression_count
tracing_begins scope start old = record { done = NoExpressions; gives = as_found _; grows = sym (append-nil _); counted = refl }

one_further : (done : Expressions) (e : Expression) (r : Found) → ((r >>= with_first e) >>= with_done done) ≡ (r >>= with_done (onto done (AndExpression e NoExpressions)))
one_further done e (Ok x) = ap (λ es. let found : Found = Ok (es, x.1) in found) (sym (onto_onto done (AndExpression e NoExpressions) x.0))
one_further done e (Err f) = refl

traced_next : (scope : Scope) (n : ℕ) (tree : Tree) (row : Trees) (made : Made) → traced scope n (And tree row) made ≡ (item scope (nat_le most_traced n) tree made >>= λ first. traced scope (n + 1) row first.1 >>= with_first first.0)
unfolding traced
traced_next scope n tree row made = refl

pub tracing_goes : (scope : Scope) (start : Trees) (c0 c1 : List Piece) (n : ℕ) (old mid new : Drafted) → has_tree c0 ≡ true → IsPast c0 c1 → IsTracing scope start (ahead c0) n old mid → HasGrown (item scope (nat_le most_traced n) (tree_ahead c0)) flat_expression mid new → IsTracing scope start (ahead c1) (n + 1) old new
tracing_goes scope start c0 c1 n old mid new h past before grown = record {
  done = onto before.done (AndExpression grown.value NoExpressions);
  gives =
      before.gives
      ∙ (ap (λ ts. traced scope n ts (made_of mid) >>= with_done before.done) (next_passed c0 c1 h past)
      ∙ (ap (λ r. r >>= with_done before.done) (traced_next scope n (tree_ahead c0) (ahead c1) (made_of mid))
      ∙ (ap (λ r. (r >>= λ first. traced scope (n + 1) (ahead c1) first.1 >>= with_first first.0) >>= with_done before.done) grown.gives
      ∙ one_further before.done grown.value (traced scope (n + 1) (ahead c1) (made_of new)))));
  grows =
      grown.grows
      ∙ (ap (λ ns. ns ++ flat_expression grown.value) before.grows
      ∙ (append_assoc old.nodes (flat_expressions before.done) (flat_expression grown.value)
      ∙ ap (λ ns. old.nodes ++ ns) (sym (onto_flat before.done grown.value))));
  counted = onto_count before.done grown.value ∙ ap (λ k. k + 1) before.counted;
}

pub tracing_fails : (scope : Scope) (start : Trees) (c0 : List Piece) (n : ℕ) (old mid : Drafted) (f : ScriptFault) → has_tree c0 ≡ true → IsTracing scope start (ahead c0) n old mid → Fails f (item scope (nat_le most_traced n) (tree_ahead c0) (made_of mid)) → Fails f (traced scope 0 start (made_of old))
tracing_fails scope start c0 n old mid f h before fails =
    rw (before.gives, next_here c0 h, traced_next scope n (tree_ahead c0) (rest_of (ahead c0)) (made_of mid)) (fails_first f _ _ (fails_first f _ _ fails))

pub tracing_ends : (scope : Scope) (start : Trees) (c0 : List Piece) (n : ℕ) (old new : Drafted) → has_tree c0 ≡ false → IsTracing scope start (ahead c0) n old new → HasTraced (traced scope 0 start) n old new
unfolding traced
tracing_ends scope start c0 n old new h before = record {
  value = before.done;
  gives = before.gives ∙ (ap (λ ts. traced scope n ts (made_of new) >>= with_done before.done) (has_none c0 h) ∙ ap (λ es. let found : Found = Ok (es, made_of new) in found) (onto_none before.done));
  grows = before.grows;
  counted = before.counted;
}

-- where as many operands stand as may be, there is no other
full_operation : (scope : Scope) (at : ℕ) (head : Option ExpressionHead) (operands : Trees) (made : Made) → is_err (operation scope true at head operands made) ≡ true
unfolding operation
full_operation scope at None operands made = refl
full_operation scope at (Some UnitHead) Nil made = refl
full_operation scope at (Some UnitHead) (And a row) made = refl
full_operation scope at (Some (OperatorHead o)) Nil made = refl
full_operation scope at (Some (OperatorHead o)) (And a Nil) made = refl
full_operation scope at (Some (OperatorHead o)) (And a (And b Nil)) made = refl
full_operation scope at (Some (OperatorHead o)) (And a (And b (And c row))) made = refl

full_item : (scope : Scope) (tree : Tree) (made : Made) → is_err (item scope true tree made) ≡ true
unfolding item
full_item scope (Word at name) made = refl
full_item scope (Number at z) made = refl
full_item scope (Text at text) made = refl
full_item scope (Branch at Nil) made = refl
full_item scope (Branch at (And (Word place word) operands)) made = full_operation scope at (expression_head word) operands made
full_item scope (Branch at (And (Number place z) operands)) made = refl
full_item scope (Branch at (And (Text place text) operands)) made = refl
full_item scope (Branch at (And (Branch place row) operands)) made = refl

pub had_room : (scope : Scope) (full : Bool) (tree : Tree) (old new : Drafted) → HasGrown (item scope full tree) flat_expression old new → full ≡ false
had_room scope false tree old new grown = refl
had_room scope true tree old new grown =
    absurd (false≢true (ap (λ (r : Result (Expression × Made) model.ScriptFault). is_err r) (sym grown.gives) ∙ full_item scope tree (made_of old)))
