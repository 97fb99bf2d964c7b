-- Whole scripts, as the code reads them.
use Rattle.std.proofs.Common.{◌≡◌, ℕ, ℤ, ◌+◌, List, [], ◌∷◌, ◌++◌, length, map, nat_le, nat_lt, not, Bool, true, false, Option, Some, None, is_some, option_map, Result, Ok, Err, codes, refl, arith, ap, sym, subst, ◌∙◌, append_assoc, append-nil, length-append, tests}
use Rattle.std.specs.Str.{bytes_eq}
use Rattle.std.proofs.lemmas.Slice.Eq.{bytes_eq-Decides}
use Rattle.std.proofs.lemmas.Bool.{false≢true}
use Rattle.spec_script.specs.Faults as model
use Rattle.spec_script.specs.Trees.{Tree, Word, Number, Text, Branch, Trees, Nil, And, place_of}
use Rattle.spec_script.specs.Reads.{Made, Reads, ◌>>>◌, gives, refuses, requires_that}
use Rattle.spec_script.specs.Scopes.{Scope}
use Rattle.spec_script.specs.Syntax.{Block, Begins, Statements}
use Rattle.spec_script.specs.Statements.{statements}
use Rattle.spec_script.specs.Declarations.{Declared}
use Rattle.spec_script.specs.Scripts.{script_of, root_of, script_of_parts, version_of, Parts, with_first, items_behind, parts_of, domains_in, body, body_scope, domains, first_place}
use Rattle.spec_script.specs.declared.Limits.{Limits}
use Rattle.script_tree.specs.Pieces.{Piece, Words, Numbers, Texts, Opens as Opened, Closes, first, others, first_tree}
use Rattle.script_draft.specs.Ahead.{ahead, around, rest_of, tree_ahead, has_tree, behind, form_at, number_at, IsPast, IsInside, IsInForm, IsBehind, IsWithin}
use Rattle.script_statements.specs.Blocks.{HasBlock, Blocked}
use Rattle.script_draft.specs.Drafts.{Drafted, made_of}
use Rattle.script_forms.specs.Flat.{flat_statements, flat_bodies, number_of}
use Rattle.script_forms.specs.Faults.{Fails}
use Rattle.script_draft.specs.Readings.{Grows, HasGrown}
use Rattle.script_lang.specs.ScriptsRead.{domain_by, domain_of, one_if, bodies_read, HasBodies, HasParts}
use Rattle.script_declarations.specs.DeclarationsRead.{from_main, is_main, IsAtMain}
use Rattle.script_draft.specs.Taken.{Opens, Enters}
use Rattle.script_draft.specs.declared.cursor.Word.{Word as WordRead}
use Rattle.script_draft.proofs.Cursors.{leaf_passed, number_passed}
use Rattle.script_statements.proofs.StatementsRead.{step_ok}
use Rattle.script_forms.specs.declared.fault.ScriptFault.{ScriptFault}
use Rattle.script_draft.proofs.Steps.{fails_first}
use Rattle.script_draft.proofs.Counts.{next_here, next_passed, has_none}

-- ## Trees that are passed

-- a list was gone into, and passed with its end
pub list_passed : (at : ℕ) (c0 c1 c2 c3 : List Piece) → IsInside at c0 c1 → IsWithin c1 c2 → IsBehind c2 c3 → IsPast c0 c3
list_passed at c0 c1 c2 c3 inside within behind =
    let a = inside.fewer in
    let b = within.fewer in
    let d = behind.fewer in
    record {
      trees = behind.trees ∙ (ap first within.around ∙ sym (ap rest_of inside.tree));
      around = behind.around ∙ (ap others within.around ∙ sym inside.around);
      fewer = omega (arith, a, b, d);
    }

pub opened : (r : Option ℕ) (c c' : List Piece) → is_some r ≡ true → Opens r c c' → (at : ℕ) × IsInside at c c'
opened None c c' some e = absurd (false≢true some)
opened (Some at) c c' some e = (at, e)

-- ## Words that lists begin with

some_by : (b : Bool) (row : Trees) → b ≡ is_some (elim b [ true ↦ Some row | false ↦ None ])
some_by true row = refl
some_by false row = refl

pub headed_by : (tree : Tree) (at : ℕ) (word this : List ℕ) (b : Bool) → Some (at, word) ≡ form_at tree → b ≡ bytes_eq word this → b ≡ is_some (items_behind this tree)
headed_by (Word a w) at word this b e test = cc
headed_by (Number a w) at word this b e test = cc
headed_by (Text a w) at word this b e test = cc
headed_by (Branch a Nil) at word this b e test = cc
headed_by (Branch a (And (Number p w) row)) at word this b e test = cc
headed_by (Branch a (And (Text p w) row)) at word this b e test = cc
headed_by (Branch a (And (Branch p w) row)) at word this b e test = cc
headed_by (Branch a (And (Word p w) row)) at word this b e test =
    let bytes : Option (ℕ × List ℕ) → List ℕ = λ o. elim o [ Some it ↦ it.1 | None ↦ [] ] in
    let same : word ≡ w = ap bytes e in
    test ∙ (ap (λ v. bytes_eq v this) same ∙ some_by (bytes_eq w this) row)

pub headed_not : (tree : Tree) (this : List ℕ) → None ≡ form_at tree → false ≡ is_some (items_behind this tree)
headed_not (Word a w) this e = refl
headed_not (Number a w) this e = refl
headed_not (Text a w) this e = refl
headed_not (Branch a Nil) this e = refl
headed_not (Branch a (And (Number p w) row)) this e = refl
headed_not (Branch a (And (Text p w) row)) this e = refl
headed_not (Branch a (And (Branch p w) row)) this e = refl
headed_not (Branch a (And (Word p w) row)) this e = cc

-- ## Bodies behind main

by_none : (o : Option Trees) (scope : Scope) (full : Bool) (at : ℕ) (made : Made) → is_some o ≡ false → domain_by scope full at o made ≡ Err (model.Shape at)
by_none None scope full at made e = refl
by_none (Some items) scope full at made e = absurd (false≢true (sym e))

pub domain_shape : (scope : Scope) (full : Bool) (tree : Tree) (made : Made) → is_some (items_behind (codes "domain") tree) ≡ false → domain_of scope full tree made ≡ Err (model.Shape (place_of tree))
domain_shape scope full tree made e = by_none (items_behind (codes "domain") tree) scope full (place_of tree) made e

pub domain_full : (scope : Scope) (full : Bool) (tree : Tree) (items : Trees) (made : Made) → items_behind (codes "domain") tree ≡ Some items → full ≡ true → domain_of scope full tree made ≡ Err (model.Size (place_of tree))
domain_full scope full tree items made e f = rw (e, f) refl

pub domain_read : (scope : Scope) (full : Bool) (tree : Tree) (items : Trees) (old new : Drafted) {X : Type 0} (r : Result X ScriptFault) → items_behind (codes "domain") tree ≡ Some items → full ≡ false → Grows r (statements scope items) flat_statements old new → Blocked r (domain_of scope full tree) old new
domain_read scope full tree items old new (Ok x) e f read = record {
  items = read.value;
  gives = rw (e, f, read.gives) refl;
  grows = read.grows;
}
domain_read scope full tree items old new (Err g) e f read = rw (e, f) (fails_first g (statements scope items (made_of old)) _ read)

itself : (word this : List ℕ) (items : Trees) → word ≡ this → elim (bytes_eq word this) [ true ↦ Some items | false ↦ None ] ≡ Some items
itself word this items same =
    let test : bytes_eq word this ≡ true = (bytes_eq-Decides word this).1 same in
    rw test refl

-- the items of a list that was gone into
pub items_of_form : (at : ℕ) (word this : List ℕ) (c c' : List Piece) → IsInForm at word c c' → word ≡ this → items_behind this (tree_ahead c) ≡ Some (ahead c')
items_of_form at word this c c' inside same =
    ap (λ ts. items_behind this (first_tree ts)) inside.tree ∙ itself word this (ahead c') same

-- ## The parts of a root

Looks : Trees → Option Parts → Type 0
Looks row None = from_main row ≡ Nil
Looks row (Some parts) = from_main row ≡ And (first_tree (from_main row)) parts.behind

looks_later : (tree : Tree) (row : Trees) (rest : Option Parts) → from_main (And tree row) ≡ from_main row → Looks row rest → Looks (And tree row) (option_map (with_first tree) rest)
unfolding Looks
looks_later tree row None m e = m ∙ e
looks_later tree row (Some parts) m e = m ∙ (e ∙ ap (λ t. And t parts.behind) (sym (ap first_tree m)))

looks_by : (tree : Tree) (row : Trees) (head : Option Trees) → items_behind (codes "main") tree ≡ head → Looks row (parts_of row) → Looks (And tree row) (elim head [ Some items ↦ Some (record { before = Nil; main = items; behind = row }) | None ↦ option_map (with_first tree) (parts_of row) ])
unfolding Looks from_main
looks_by tree row (Some items) e rest =
    let m : from_main (And tree row) ≡ And tree row = rw (from_main, e) refl in
    m ∙ ap (λ t. And t row) (sym (ap first_tree m))
looks_by tree row None e rest = looks_later tree row (parts_of row) (rw (from_main, e) refl) rest

looks : (row : Trees) → Looks row (parts_of row)
unfolding Looks from_main
looks Nil = refl
looks (And tree row) = looks_by tree row (items_behind (codes "main") tree) refl (looks row)

none_by : (row : Trees) (o : Option Parts) → Looks row o → from_main row ≡ Nil → o ≡ None
unfolding Looks
none_by row None l e = refl
none_by row (Some parts) l e = let t : And (first_tree (from_main row)) parts.behind ≡ Nil = sym l ∙ e in cc

pub no_main : (row : Trees) → from_main row ≡ Nil → parts_of row ≡ None
no_main row e = none_by row (parts_of row) (looks row) e

some_by_main : (row : Trees) (o : Option Parts) (tree : Tree) (behind : Trees) → Looks row o → from_main row ≡ And tree behind → (parts : Parts) × (o ≡ Some parts) × (parts.behind ≡ behind)
unfolding Looks
some_by_main row None tree behind l e = let t : Nil ≡ And tree behind = sym l ∙ e in cc
some_by_main row (Some parts) tree behind l e = (parts, refl, ap rest_of (sym l ∙ e))

pub main_found : (row : Trees) (tree : Tree) (behind : Trees) → from_main row ≡ And tree behind → (parts : Parts) × (parts_of row ≡ Some parts) × (parts.behind ≡ behind)
main_found row tree behind e = some_by_main row (parts_of row) tree behind (looks row) e

-- ## Bodies that are counted

by_test : (b : Bool) (n : ℕ) → elim b [ true ↦ n + 1 | false ↦ n ] ≡ n + one_if b
by_test true n = refl
by_test false n = omega arith

one_counted : (tree : Tree) (row : Trees) → domains_in (And tree row) ≡ domains_in row + one_if (is_some (items_behind (codes "domain") tree))
one_counted tree row = by_test (is_some (items_behind (codes "domain") tree)) (domains_in row)

pub count_goes : (c c' : List Piece) (count more whole : ℕ) → has_tree c ≡ true → IsPast c c' → more ≡ count + one_if (is_some (items_behind (codes "domain") (tree_ahead c))) → count + domains_in (ahead c) ≡ whole → more + domains_in (ahead c') ≡ whole
count_goes c c' count more whole some past is e =
    let here = ap domains_in (next_passed c c' some past) ∙ one_counted (tree_ahead c) (ahead c') in
    omega (arith, here, is, e)

pub count_ends : (c : List Piece) (count whole : ℕ) → has_tree c ≡ false → count + domains_in (ahead c) ≡ whole + 1 → count ≡ whole + 1
count_ends c count whole none e = let here = ap domains_in (has_none c none) in omega (arith, here, e)

pub nothing_first : (c : List Piece) → has_tree c ≡ false → None ≡ first_place (ahead c)
nothing_first c none = rw (has_none c none) refl

pub something_first : (c : List Piece) (at : ℕ) → has_tree c ≡ true → at ≡ place_of (tree_ahead c) → Some at ≡ first_place (ahead c)
something_first c at some is = rw is (ap first_place (sym (next_here c some)))

pub leaf_skipped : (r : Option ℕ) (b : Bool) (c0 c1 c2 : List Piece) → has_tree c0 ≡ true → Opens r c0 c1 → is_some r ≡ not b → b ≡ true → c2 ≡ behind c1 → IsPast c0 c2
leaf_skipped None b c0 c1 c2 some e none met passed = leaf_passed c0 c2 some e.0 (passed ∙ ap behind e.1)
leaf_skipped (Some at) b c0 c1 c2 some e none met passed = absurd (false≢true (sym (none ∙ ap not met)))

-- ## Bodies, one behind the other

-- some bodies were read, with these numbers; what is left gives the whole
pub record IsAmidBodies (limits : Limits) (declared : Declared) (main all : Trees) (old : Drafted) (numbers : List ℕ) (left : Trees) (now : Drafted) : Type 0 where
  pub after : List Block → List Block
  pub ok : (more : List Block) (made : Made) → domains limits declared (length numbers) left (made_of now) ≡ Ok (more, made) → bodies_read limits declared main all (made_of old) ≡ Ok (after more, made)
  pub fails : (f : ScriptFault) → Fails f (domains limits declared (length numbers) left (made_of now)) → Fails f (bodies_read limits declared main all (made_of old))
  pub named : (more : List Block) → numbers ++ map number_of more ≡ map number_of (after more)
  pub grows : (more : List Block) → now.nodes ++ flat_bodies (length now.nodes) more ≡ old.nodes ++ flat_bodies (length old.nodes) (after more)

pub main_fails : (limits : Limits) (declared : Declared) (scope : Scope) (main all : Trees) (made : Made) (f : ScriptFault) → scope ≡ body_scope declared → Fails f (statements scope main made) → Fails f (bodies_read limits declared main all made)
main_fails limits declared scope main all made f same e = fails_first f (body declared main made) _ (fails_first f (statements (body_scope declared) main made) _ (rw same at e))

body_grows : (now next : Drafted) (items : Statements) (more : List Block) → next.nodes ≡ now.nodes ++ flat_statements (length now.nodes) items → next.nodes ++ flat_bodies (length next.nodes) more ≡ now.nodes ++ flat_bodies (length now.nodes) (Begins (length now.nodes) items ∷ more)
unfolding flat_bodies
body_grows now next items more e =
    let these = flat_statements (length now.nodes) items in
    let count : length next.nodes ≡ length now.nodes + length these = ap length e ∙ length-append now.nodes these in
    rw (count, e) (append_assoc now.nodes these (flat_bodies (length now.nodes + length these) more))

pub bodies_first : (limits : Limits) (declared : Declared) (scope : Scope) (main all : Trees) (old now : Drafted) (numbers : List ℕ) → scope ≡ body_scope declared → HasGrown (statements scope main) (flat_statements (length old.nodes)) old now → numbers ≡ length old.nodes ∷ [] → IsAmidBodies limits declared main all old numbers all now
bodies_first limits declared scope main all old now numbers same read is =
    let given : statements (body_scope declared) main (made_of old) ≡ Ok (read.value, made_of now) = ap (λ s. statements s main (made_of old)) (sym same) ∙ read.gives in
    let one : length numbers ≡ 1 = ap length is in
    record {
      after = λ more. Begins (length old.nodes) read.value ∷ more;
      ok = λ more made e. rw (given, rw one at e) refl;
      fails = λ f e. rw given (fails_first f (domains limits declared 1 all (made_of now)) _ (rw one at e));
      named = λ more. rw is refl;
      grows = λ more. body_grows old now read.value more read.grows;
    }

room_by : (limits : Limits) (declared : Declared) (n at : ℕ) (row items : Trees) (b : Bool) (made : Made) → (requires_that b (model.Size at) >>> λ _. body declared items >>> λ one. domains limits declared (n + 1) row >>> λ more. gives (one ∷ more)) made ≡ (domain_by (body_scope declared) (not b) at (Some items) >>> λ one. domains limits declared (n + 1) row >>> λ more. gives (one ∷ more)) made
room_by limits declared n at row items true made = refl
room_by limits declared n at row items false made = refl

abbrev Same : Reads (List Block) → Reads (List Block) → Made → Type 0
Same a b made = a made ≡ b made

step_by : (limits : Limits) (declared : Declared) (n at : ℕ) (row : Trees) (o : Option Trees) (made : Made) → Same (elim o [ None ↦ refuses (model.Shape at) | Some items ↦ (requires_that (nat_lt n limits.bodies) (model.Size at) >>> λ _. body declared items >>> λ one. domains limits declared (n + 1) row >>> λ more. gives (one ∷ more)) ]) (domain_by (body_scope declared) (not (nat_lt n limits.bodies)) at o >>> λ one. domains limits declared (n + 1) row >>> λ more. gives (one ∷ more)) made
step_by limits declared n at row None made = refl
step_by limits declared n at row (Some items) made = room_by limits declared n at row items (nat_lt n limits.bodies) made

domains_step : (limits : Limits) (declared : Declared) (n : ℕ) (tree : Tree) (row : Trees) (made : Made) → domains limits declared n (And tree row) made ≡ (domain_of (body_scope declared) (not (nat_lt n limits.bodies)) tree >>> λ one. domains limits declared (n + 1) row >>> λ more. gives (one ∷ more)) made
unfolding domains
domains_step limits declared n tree row made = step_by limits declared n (place_of tree) row (items_behind (codes "domain") tree) made

pub bodies_next : (limits : Limits) (declared : Declared) (scope : Scope) (main all : Trees) (c c' : List Piece) (full : Bool) (numbers next : List ℕ) (old now new : Drafted) → scope ≡ body_scope declared → has_tree c ≡ true → IsPast c c' → IsAmidBodies limits declared main all old numbers (ahead c) now → next ≡ numbers ++ length now.nodes ∷ [] → full ≡ not (nat_lt (length numbers) limits.bodies) → HasBlock (domain_of scope full (tree_ahead c)) now new → IsAmidBodies limits declared main all old next (ahead c') new
bodies_next limits declared scope main all c c' full numbers next old now new same some past amid pushed is it =
    let here : ahead c ≡ And (tree_ahead c) (ahead c') = next_passed c c' some past in
    let read : domain_of (body_scope declared) (not (nat_lt (length numbers) limits.bodies)) (tree_ahead c) (made_of now) ≡ Ok (Begins (length now.nodes) it.items, made_of new) =
    ap (λ b. domain_of (body_scope declared) b (tree_ahead c) (made_of now)) (sym is) ∙ (ap (λ s. domain_of s full (tree_ahead c) (made_of now)) (sym same) ∙ it.gives) in
    let whole : domains limits declared (length numbers) (ahead c) (made_of now) ≡ (domains limits declared (length numbers + 1) (ahead c') >>> λ more. gives (Begins (length now.nodes) it.items ∷ more)) (made_of new) =
    ap (λ ts. domains limits declared (length numbers) ts (made_of now)) here ∙ (domains_step limits declared (length numbers) (tree_ahead c) (ahead c') (made_of now) ∙ step_ok (domain_of (body_scope declared) (not (nat_lt (length numbers) limits.bodies)) (tree_ahead c)) (λ one. domains limits declared (length numbers + 1) (ahead c') >>> λ more. gives (one ∷ more)) (made_of now) (made_of new) (Begins (length now.nodes) it.items) read) in
    let count : length next ≡ length numbers + 1 = ap length pushed ∙ length-append numbers (length now.nodes ∷ []) in
    record {
      after = λ more. amid.after (Begins (length now.nodes) it.items ∷ more);
      ok = λ more made e. amid.ok (Begins (length now.nodes) it.items ∷ more) made (whole ∙ rw (rw count at e) refl);
      fails = λ f e. amid.fails f (rw whole (fails_first f (domains limits declared (length numbers + 1) (ahead c') (made_of new)) _ (rw count at e)));
      named = λ more. ap (λ ns. ns ++ map number_of more) pushed ∙ (append_assoc numbers (length now.nodes ∷ []) (map number_of more) ∙ amid.named (Begins (length now.nodes) it.items ∷ more));
      grows = λ more. body_grows now new it.items more it.grows ∙ amid.grows (Begins (length now.nodes) it.items ∷ more);
    }

pub bodies_fail : (limits : Limits) (declared : Declared) (scope : Scope) (main all : Trees) (c : List Piece) (full : Bool) (numbers : List ℕ) (old now : Drafted) (f : ScriptFault) → scope ≡ body_scope declared → has_tree c ≡ true → IsAmidBodies limits declared main all old numbers (ahead c) now → full ≡ not (nat_lt (length numbers) limits.bodies) → Fails f (domain_of scope full (tree_ahead c) (made_of now)) → Fails f (bodies_read limits declared main all (made_of old))
bodies_fail limits declared scope main all c full numbers old now f same some amid is e =
    let whole = ap (λ ts. domains limits declared (length numbers) ts (made_of now)) (next_here c some) ∙ domains_step limits declared (length numbers) (tree_ahead c) (rest_of (ahead c)) (made_of now) in
    amid.fails f (rw whole (fails_first f (domain_of (body_scope declared) (not (nat_lt (length numbers) limits.bodies)) (tree_ahead c) (made_of now)) _ (rw (same, is) at e)))

pub bodies_end : (limits : Limits) (declared : Declared) (main all : Trees) (c : List Piece) (numbers : List ℕ) (old now : Drafted) → has_tree c ≡ false → IsAmidBodies limits declared main all old numbers (ahead c) now → HasBodies (bodies_read limits declared main all) numbers old now
unfolding domains flat_bodies
bodies_end limits declared main all c numbers old now none amid = record {
  blocks = amid.after [];
  gives = amid.ok [] (made_of now) (ap (λ ts. domains limits declared (length numbers) ts (made_of now)) (has_none c none));
  named = sym (append-nil numbers) ∙ amid.named [];
  grows = sym (append-nil now.nodes) ∙ amid.grows [];
}

-- ## Main

parts_of_main : (at place : ℕ) (word : List ℕ) (items row : Trees) → bytes_eq word (codes "main") ≡ true → Some (record { before = Nil; main = items; behind = row }) ≡ parts_of (And (Branch at (And (Word place word) items)) row)
parts_of_main at place word items row e = rw (parts_of, e) refl

pub parts_at_main : (r : Option WordRead) (c0 c1 : List Piece) (main all : Trees) → Enters r c0 c1 → is_main (tree_ahead c0) ≡ true → parts_of (ahead c0) ≡ Some (record { before = Nil; main = main; behind = all }) → (ahead c1 ≡ main) × (first (around c1) ≡ all)
parts_at_main None c0 c1 main all e is parts = absurd (false≢true (headed_not (tree_ahead c0) (codes "main") (sym e.0) ∙ is))
parts_at_main (Some it) c0 c1 main all e is parts =
    let named : is_main (Branch it.at (And (Word e.place it.word.now) (ahead c1))) ≡ true = ap (λ ts. is_main (first_tree ts)) (sym e.tree) ∙ is in
    let test : bytes_eq it.word.now (codes "main") ≡ true = some_by (bytes_eq it.word.now (codes "main")) (ahead c1) ∙ named in
    let whole : Some (record { before = Nil; main = ahead c1; behind = first (around c1) }) ≡ Some (record { before = Nil; main = main; behind = all }) = parts_of_main it.at e.place it.word.now (ahead c1) (first (around c1)) test ∙ (ap parts_of (sym e.tree) ∙ parts) in
    let part : Option Parts → Trees = λ o. elim o [ Some it ↦ it.main | None ↦ Nil ] in
    let rest : Option Parts → Trees = λ o. elim o [ Some it ↦ it.behind | None ↦ Nil ] in
    (ap part whole, ap rest whole)

-- ## How many bodies are named

pub named_none : (c0 look c1 : List Piece) → look ≡ c0 → IsAtMain look c1 → has_tree c1 ≡ false → parts_of (ahead c0) ≡ None
named_none c0 look c1 same main none = no_main (ahead c0) (ap (λ ps. from_main (ahead ps)) (sym same) ∙ (sym main.trees ∙ has_none c1 none))

pub named_some : (c0 look c1 c2 : List Piece) (count : ℕ) → look ≡ c0 → IsAtMain look c1 → has_tree c1 ≡ true → IsPast c1 c2 → count ≡ domains_in (ahead c2) + 1 → HasParts (ahead c0) count
named_some c0 look c1 c2 count same main some past is =
    let found = main_found (ahead c0) (tree_ahead c1) (ahead c2) (ap (λ ps. from_main (ahead ps)) (sym same) ∙ (sym main.trees ∙ next_passed c1 c2 some past)) in
    record { parts = found.0; is = found.1; count = is ∙ ap (λ ts. domains_in ts + 1) (sym found.2) }

-- ## The root

pub root_no_list : (tree : Tree) → form_at tree ≡ None → script_of tree ≡ Err (model.Shape (place_of tree))
unfolding script_of
root_no_list (Word a w) e = refl
root_no_list (Number a w) e = refl
root_no_list (Text a w) e = refl
root_no_list (Branch a Nil) e = refl
root_no_list (Branch a (And (Word p w) row)) e = cc
root_no_list (Branch a (And (Number p w) row)) e = refl
root_no_list (Branch a (And (Text p w) row)) e = refl
root_no_list (Branch a (And (Branch p w) row)) e = refl

root_other_by : (at place : ℕ) (word : List ℕ) (items : Trees) → bytes_eq word (codes "eio") ≡ false → script_of (Branch at (And (Word place word) items)) ≡ Err (model.Shape at)
unfolding script_of
root_other_by at place word items e = rw (script_of, e) refl

root_known_by : (at place : ℕ) (word : List ℕ) (items : Trees) → bytes_eq word (codes "eio") ≡ true → script_of (Branch at (And (Word place word) items)) ≡ root_of at items
unfolding script_of
root_known_by at place word items e = rw (script_of, e) refl

pub root_other : (at : ℕ) (word : List ℕ) (c c' : List Piece) → IsInForm at word c c' → bytes_eq word (codes "eio") ≡ false → script_of (tree_ahead c) ≡ Err (model.Shape (place_of (tree_ahead c)))
root_other at word c c' inside e =
    let here : tree_ahead c ≡ Branch at (And (Word inside.place word) (ahead c')) = ap first_tree inside.tree in
    ap script_of here ∙ (root_other_by at inside.place word (ahead c') e ∙ ap (λ t. Err (model.Shape (place_of t))) (sym here))

pub root_known : (at : ℕ) (word : List ℕ) (c c' : List Piece) → IsInForm at word c c' → bytes_eq word (codes "eio") ≡ true → script_of (tree_ahead c) ≡ root_of (place_of (tree_ahead c)) (ahead c')
root_known at word c c' inside e =
    let here : tree_ahead c ≡ Branch at (And (Word inside.place word) (ahead c')) = ap first_tree inside.tree in
    ap script_of here ∙ (root_known_by at inside.place word (ahead c') e ∙ ap (λ t. root_of (place_of t) (ahead c')) (sym here))

pub root_no_version : (at : ℕ) (row : Trees) → None ≡ number_at (first_tree row) → root_of at row ≡ Err (model.Shape at)
root_no_version at Nil e = refl
root_no_version at (And (Word a w) row) e = refl
root_no_version at (And (Number a w) row) e = cc
root_no_version at (And (Text a w) row) e = refl
root_no_version at (And (Branch a w) row) e = refl

number_is_tree : (ps : List Piece) (it : ℕ × ℤ) → Some it ≡ number_at (tree_ahead ps) → has_tree ps ≡ true
unfolding ahead
number_is_tree [] it e = cc
number_is_tree (Words at w ∷ ps) it e = refl
number_is_tree (Numbers at w ∷ ps) it e = refl
number_is_tree (Texts at w ∷ ps) it e = refl
number_is_tree (Opened at ∷ ps) it e = refl
number_is_tree (Closes ∷ ps) it e = cc

number_tree : (tree : Tree) (at : ℕ) (z : ℤ) → Some (at, z) ≡ number_at tree → tree ≡ Number at z
number_tree (Word a w) at z e = cc
number_tree (Text a w) at z e = cc
number_tree (Branch a w) at z e = cc
number_tree (Number a w) at z e =
    let place : Option (ℕ × ℤ) → ℕ = λ o. elim o [ Some it ↦ it.0 | None ↦ at ] in
    let value : Option (ℕ × ℤ) → ℤ = λ o. elim o [ Some it ↦ it.1 | None ↦ z ] in
    let p : at ≡ a = ap place e in
    let v : z ≡ w = ap value e in
    rw (p, v) refl

version_row : (c c' : List Piece) (at : ℕ) (z : ℤ) → Some (at, z) ≡ number_at (tree_ahead c) → c' ≡ behind c → ahead c ≡ And (Number at z) (ahead c')
version_row c c' at z e passed =
    let some = number_is_tree c (at, z) e in
    next_passed c c' some (number_passed c c' (at, z) some e passed) ∙ ap (λ t. And t (ahead c')) (number_tree (tree_ahead c) at z e)

pub root_no_main : (p at : ℕ) (z : ℤ) (c c' : List Piece) → Some (at, z) ≡ number_at (tree_ahead c) → c' ≡ behind c → parts_of (ahead c') ≡ None → root_of p (ahead c) ≡ Err (model.Shape p)
root_no_main p at z c c' e passed none = ap (root_of p) (version_row c c' at z e passed) ∙ rw (root_of, none) refl

pub root_version : (p at : ℕ) (z : ℤ) (c c' : List Piece) (parts : Parts) → Some (at, z) ≡ number_at (tree_ahead c) → c' ≡ behind c → parts_of (ahead c') ≡ Some parts → version_of z ≡ None → root_of p (ahead c) ≡ Err (model.Shape at)
root_version p at z c c' parts e passed some other = ap (root_of p) (version_row c c' at z e passed) ∙ rw (root_of, some, other) refl

pub root_read : (p at : ℕ) (z : ℤ) (c c' : List Piece) (parts : Parts) (version : ℕ) → Some (at, z) ≡ number_at (tree_ahead c) → c' ≡ behind c → parts_of (ahead c') ≡ Some parts → version_of z ≡ Some version → root_of p (ahead c) ≡ script_of_parts version parts
root_read p at z c c' parts version e passed some one = ap (root_of p) (version_row c c' at z e passed) ∙ rw (root_of, some, one) refl

flip_true : (a b : List ℕ) → bytes_eq a b ≡ true → bytes_eq b a ≡ true
flip_true a b e = (bytes_eq-Decides b a).1 (sym ((bytes_eq-Decides a b).0 e))

not_true : (x : Bool) → (x ≡ true → ⊥) → x ≡ false
not_true true no_way = absurd (no_way refl)
not_true false no_way = refl

pub flipped : (r : Bool) (a b : List ℕ) → r ≡ bytes_eq a b → r ≡ false → bytes_eq b a ≡ false
flipped r a b is e = not_true (bytes_eq b a) (λ t. false≢true (sym e ∙ (is ∙ flip_true b a t)))

pub flipped_true : (r : Bool) (a b : List ℕ) → r ≡ bytes_eq a b → r ≡ true → bytes_eq b a ≡ true
flipped_true r a b is e = flip_true a b (sym is ∙ e)

pub main_behind : (r : Option WordRead) (c0 c1 c2 : List Piece) (main all : Trees) → Enters r c0 c1 → is_main (tree_ahead c0) ≡ true → parts_of (ahead c0) ≡ Some (record { before = Nil; main = main; behind = all }) → IsBehind c1 c2 → ahead c2 ≡ all
main_behind r c0 c1 c2 main all e is parts passed = passed.trees ∙ (parts_at_main r c0 c1 main all e is parts).1

pub main_read : (limits : Limits) (declared : Declared) (scope : Scope) (main all : Trees) (r : Option WordRead) (c0 c1 c2 : List Piece) (numbers : List ℕ) (old now : Drafted) → scope ≡ body_scope declared → Enters r c0 c1 → is_main (tree_ahead c0) ≡ true → parts_of (ahead c0) ≡ Some (record { before = Nil; main = main; behind = all }) → IsBehind c1 c2 → HasGrown (statements scope (ahead c1)) (flat_statements (length old.nodes)) old now → numbers ≡ length old.nodes ∷ [] → IsAmidBodies limits declared main all old numbers (ahead c2) now
main_read limits declared scope main all r c0 c1 c2 numbers old now same e is parts passed read one =
    let at = parts_at_main r c0 c1 main all e is parts in
    let grown = subst (λ ts. HasGrown (statements scope ts) (flat_statements (length old.nodes)) old now) at.0 read in
    subst (λ ts. IsAmidBodies limits declared main all old numbers ts now) (sym (main_behind r c0 c1 c2 main all e is parts passed)) (bodies_first limits declared scope main all old now numbers same grown one)

pub main_stops : (limits : Limits) (declared : Declared) (scope : Scope) (main all : Trees) (r : Option WordRead) (c0 c1 : List Piece) (made : Made) (f : ScriptFault) → scope ≡ body_scope declared → Enters r c0 c1 → is_main (tree_ahead c0) ≡ true → parts_of (ahead c0) ≡ Some (record { before = Nil; main = main; behind = all }) → Fails f (statements scope (ahead c1) made) → Fails f (bodies_read limits declared main all made)
main_stops limits declared scope main all r c0 c1 made f same e is parts fails =
    let at = parts_at_main r c0 c1 main all e is parts in
    main_fails limits declared scope main all made f same (subst (λ ts. Fails f (statements scope ts made)) at.0 fails)

pub full_by : (most n k : ℕ) → n ≡ k → nat_le most n ≡ not (nat_lt k most)
full_by most n k same = rw same (grind (arith, tests))
