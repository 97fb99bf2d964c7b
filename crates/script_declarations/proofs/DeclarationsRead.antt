-- Declarations, step by step as the code reads them.
use Rattle.std.proofs.Common.{◌≡◌, ℕ, ℤ, pos, negsuc, ◌+◌, List, [], ◌∷◌, ◌++◌, length, min, Bool, true, false, Option, Some, None, Result, Ok, Err, refl, arith, ap, sym, ◌∙◌, subst, append_assoc, append-nil, length-append}
use Rattle.std.proofs.lemmas.Bool.{false≢true}
use Rattle.std.specs.Prelude.{◌&&◌, nat_lt, not, codes, option_map}
use Rattle.spec_script.specs.Faults as model
use Rattle.spec_script.specs.Results.{◌>>=◌}
use Rattle.spec_script.specs.Reads.{Made, Reads, ◌>>>◌, gives, requires_that}
use Rattle.spec_script.specs.declared.Limits.{Limits}
use Rattle.spec_script.specs.Limits.{most_workers}
use Rattle.spec_script.specs.Trees.{Tree, Word, Number, Text, Branch, Trees, Nil, And, place_of}
use Rattle.spec_script.specs.Scripts.{Parts, parts_of, items_behind, with_first}
use Rattle.spec_script.specs.Declarations as declarations
use Rattle.spec_script.specs.Declarations.{workers, declaration, declaration_form_of, declarations_behind}
use Rattle.script_tree.specs.Pieces.{Piece, Words, Numbers, Texts, Opens, Closes, first_tree}
use Rattle.script_draft.specs.Ahead.{ahead, rest_of, has_tree, tree_ahead, tree_count, number_at, form_at, IsPast}
use Rattle.script_draft.specs.Drafts.{Drafted, made_of}
use Rattle.script_draft.specs.Names.{kind_of}
use Rattle.script_declarations.specs.declared.declarations.Object.{Object}
use Rattle.script_declarations.specs.declared.declarations.Object.TheVariants as object
use Rattle.spec_script.specs.declared.Feature.{Feature}
use Rattle.std.proofs.lemmas.Bool.Decides.{nat_tests}
use Rattle.script_draft.specs.Taken.{TakesNumber}
use Rattle.script_draft.proofs.Counts.{next_here, next_passed, has_none}
use Rattle.script_declarations.specs.DeclarationsRead.{form_of, kind_in, feature_in, mocked_in, takes, items_read, named_read, worker_read, ends, is_main, before_main, from_main}
use Rattle.script_forms.specs.Faults.{Fails}
use Rattle.script_draft.specs.Readings.{Makes}
use Rattle.script_forms.specs.declared.fault.ScriptFault.{ScriptFault}
use Rattle.script_draft.proofs.Steps.{fails_first}

-- ## Lists that are read one by one

-- what was read stands before what is read then
pub one_before : {A : Type 0} (list : List A) (x : A) (rest : Result (List A × Made) model.ScriptFault) → ((rest >>= λ found. gives (x ∷ found.0) found.1) >>= λ found. gives (list ++ found.0) found.1) ≡ (rest >>= λ found. gives ((list ++ x ∷ []) ++ found.0) found.1)
one_before list x (Ok found) = ap (λ all. gives all found.1) (sym (append_assoc list (x ∷ []) found.0))
one_before list x (Err f) = refl

pub none_before : {A : Type 0} (rest : Result (List A × Made) model.ScriptFault) → rest ≡ (rest >>= λ found. gives ([] ++ found.0) found.1)
none_before (Ok found) = refl
none_before (Err f) = refl

-- ## Workers

worker_by : (t : Bool) (e : model.ScriptFault) (v : ℕ) (made : Made) (rest : Reads (List ℕ)) → (requires_that t e >>> λ _. rest >>> λ others. gives (v ∷ others)) made ≡ ((requires_that t e >>> λ _. gives v) >>> λ body. rest >>> λ others. gives (body ∷ others)) made
worker_by true e v made rest = refl
worker_by false e v made rest = refl

worker_split : (bodies n at : ℕ) (z : ℤ) (made : Made) (row : Trees) → workers bodies n (And (Number at z) row) made ≡ (worker_read bodies n at z >>> λ body. workers bodies (n + 1) row >>> λ others. gives (body ∷ others)) made
unfolding workers
worker_split bodies n at (pos v) made row = worker_by (nat_lt n most_workers && nat_lt v bodies) (model.Size at) v made (workers bodies (n + 1) row)
worker_split bodies n at (negsuc z) made row = refl

-- a worker more was read
worker_more : (bodies n at : ℕ) (z : ℤ) (body : ℕ) (made : Made) (row : Trees) (list : List ℕ) → worker_read bodies n at z made ≡ Ok (body, made) → (workers bodies n (And (Number at z) row) >>> λ others. gives (list ++ others)) made ≡ (workers bodies (n + 1) row >>> λ others. gives ((list ++ body ∷ []) ++ others)) made
worker_more bodies n at z body made row list read =
    rw (worker_split bodies n at z made row, read) (one_before list body (workers bodies (n + 1) row made))

-- a worker was refused
worker_stops : (bodies n at : ℕ) (z : ℤ) (made : Made) (f : ScriptFault) (row : Trees) → Fails f (worker_read bodies n at z made) → Fails f (workers bodies n (And (Number at z) row) made)
worker_stops bodies n at z made f row fails = rw (worker_split bodies n at z made row) (fails_first f (worker_read bodies n at z made) _ fails)

-- what comes next is no number
pub no_worker : (bodies n : ℕ) (tree : Tree) (row : Trees) (made : Made) → number_at tree ≡ None → workers bodies n (And tree row) made ≡ Err (model.Shape (place_of tree))
unfolding workers
no_worker bodies n (Word at w) row made e = refl
no_worker bodies n (Number at z) row made e = cc
no_worker bodies n (Text at w) row made e = refl
no_worker bodies n (Branch at inner) row made e = refl

-- ## The loop over workers

stops_behind : (f : ScriptFault) (whole rest : Result (List ℕ × Made) model.ScriptFault) (list : List ℕ) → whole ≡ (rest >>= λ found. gives (list ++ found.0) found.1) → Fails f rest → Fails f whole
stops_behind f whole rest list e fails = rw e (fails_first f rest (λ found. gives (list ++ found.0) found.1) fails)

pub number_refused : (bodies n : ℕ) (list : List ℕ) (whole : Result (List ℕ × Made) model.ScriptFault) (ps : List Piece) (made : Made) (f : ScriptFault) → has_tree ps ≡ true → TakesNumber (tree_ahead ps) (Err f) → whole ≡ (workers bodies n (ahead ps) >>> λ others. gives (list ++ others)) made → Fails f whole
number_refused bodies n list whole ps made f some taken e =
    stops_behind f whole (workers bodies n (ahead ps) made) list e
    (rw (taken.1, next_here ps some) (no_worker bodies n (tree_ahead ps) (rest_of (ahead ps)) made taken.0))

pub worker_refused : (bodies n at : ℕ) (z : ℤ) (list : List ℕ) (whole : Result (List ℕ × Made) model.ScriptFault) (ps new : List Piece) (made : Made) (f : ScriptFault) → has_tree ps ≡ true → IsPast ps new → tree_ahead ps ≡ Number at z → n ≡ length list → Fails f (worker_read bodies n at z made) → whole ≡ (workers bodies (length list) (ahead ps) >>> λ others. gives (list ++ others)) made → Fails f whole
worker_refused bodies n at z list whole ps new made f some past number count fails e =
    stops_behind f whole (workers bodies (length list) (ahead ps) made) list e
    (rw (next_passed ps new some past, number, ← count) (worker_stops bodies n at z made f (ahead new) fails))

pub worker_taken : (bodies n at : ℕ) (z : ℤ) (body : ℕ) (list : List ℕ) (whole : Result (List ℕ × Made) model.ScriptFault) (ps new : List Piece) (made : Made) → has_tree ps ≡ true → IsPast ps new → tree_ahead ps ≡ Number at z → n ≡ length list → worker_read bodies n at z made ≡ Ok (body, made) → whole ≡ (workers bodies (length list) (ahead ps) >>> λ others. gives (list ++ others)) made → whole ≡ (workers bodies (length (list ++ body ∷ [])) (ahead new) >>> λ others. gives ((list ++ body ∷ []) ++ others)) made
worker_taken bodies n at z body list whole ps new made some past number count read e =
    let found : worker_read bodies (length list) at z made ≡ Ok (body, made) = ap (λ k. worker_read bodies k at z made) (sym count) ∙ read in
    e
    ∙ ap (λ row. (workers bodies (length list) row >>> λ others. gives (list ++ others)) made) (next_passed ps new some past ∙ ap (λ tree. And tree (ahead new)) number)
    ∙ worker_more bodies (length list) at z body made (ahead new) list found
    ∙ ap (λ n. (workers bodies n (ahead new) >>> λ others. gives ((list ++ body ∷ []) ++ others)) made) (sym (length-append list (body ∷ [])))

pub workers_end : (bodies n : ℕ) (list : List ℕ) (whole : Result (List ℕ × Made) model.ScriptFault) (ps : List Piece) (made : Made) → has_tree ps ≡ false → whole ≡ (workers bodies n (ahead ps) >>> λ others. gives (list ++ others)) made → whole ≡ Ok (list, made)
unfolding workers
workers_end bodies n list whole ps made none e = e ∙ ap (λ row. (workers bodies n row >>> λ others. gives (list ++ others)) made) (has_none ps none) ∙ ap (λ all. gives all made) (append-nil list)

-- ## One declaration

not_by : (b c : Bool) → not b ≡ c → b ≡ not c
not_by true true e = absurd (false≢true e)
not_by true false e = refl
not_by false true e = refl
not_by false false e = absurd (false≢true (sym e))

taken : (it : Object) (n : ℕ) → takes it (min 3 n) ≡ takes it n
taken object.Stream n = grind (arith, nat_tests)
taken object.Promise n = grind (arith, nat_tests)
taken object.Semaphore n = grind (arith, nat_tests)
taken object.Mutex n = grind (arith, nat_tests)
taken object.Pool n = grind (arith, nat_tests)
taken object.Executor n = grind (arith, nat_tests)
taken object.Flow n = grind (arith, nat_tests)
taken object.Dir n = grind (arith, nat_tests)

misfits : (it : Object) (bodies : ℕ) (rest : Trees) → takes it (tree_count rest + 1) ≡ false → declarations.items_of (kind_of (kind_in it)) bodies rest ≡ None
misfits object.Stream bodies Nil e = refl
misfits object.Stream bodies (And a Nil) e = absurd (false≢true (sym e))
misfits object.Stream bodies (And a (And b row)) e = refl
misfits object.Promise bodies Nil e = absurd (false≢true (sym e))
misfits object.Promise bodies (And a row) e = refl
misfits object.Semaphore bodies Nil e = refl
misfits object.Semaphore bodies (And a Nil) e = absurd (false≢true (sym e))
misfits object.Semaphore bodies (And a (And b row)) e = refl
misfits object.Mutex bodies Nil e = absurd (false≢true (sym e))
misfits object.Mutex bodies (And a row) e = refl
misfits object.Pool bodies Nil e = refl
misfits object.Pool bodies (And a Nil) e = absurd (false≢true (sym e))
misfits object.Pool bodies (And a (And b row)) e = refl
misfits object.Executor bodies Nil e = refl
misfits object.Executor bodies (And a row) e = absurd (grind (arith, nat_tests, e))
misfits object.Flow bodies row e = absurd (grind (arith, nat_tests, e))
misfits object.Dir bodies row e = absurd (grind (arith, nat_tests, e))

pub fits : (it : Object) (bodies : ℕ) (rest : Trees) → takes it (tree_count rest + 1) ≡ true → declarations.items_of (kind_of (kind_in it)) bodies rest ≡ Some (items_read (kind_of (kind_in it)) bodies rest)
fits object.Stream bodies Nil e = absurd (false≢true e)
fits object.Stream bodies (And a Nil) e = refl
fits object.Stream bodies (And a (And b row)) e = absurd (grind (arith, nat_tests, e))
fits object.Promise bodies Nil e = refl
fits object.Promise bodies (And a row) e = absurd (grind (arith, nat_tests, e))
fits object.Semaphore bodies Nil e = absurd (false≢true e)
fits object.Semaphore bodies (And a Nil) e = refl
fits object.Semaphore bodies (And a (And b row)) e = absurd (grind (arith, nat_tests, e))
fits object.Mutex bodies Nil e = refl
fits object.Mutex bodies (And a row) e = absurd (grind (arith, nat_tests, e))
fits object.Pool bodies Nil e = absurd (false≢true e)
fits object.Pool bodies (And a Nil) e = refl
fits object.Pool bodies (And a (And b row)) e = absurd (grind (arith, nat_tests, e))
fits object.Executor bodies Nil e = absurd (false≢true e)
fits object.Executor bodies (And a row) e = refl
fits object.Flow bodies row e = refl
fits object.Dir bodies row e = refl

nothing_fits : (it : Object) → takes it 0 ≡ false
nothing_fits object.Stream = refl
nothing_fits object.Promise = refl
nothing_fits object.Semaphore = refl
nothing_fits object.Mutex = refl
nothing_fits object.Pool = refl
nothing_fits object.Executor = refl
nothing_fits object.Flow = refl
nothing_fits object.Dir = refl

-- no form fits
pub no_declaration : (limits : Limits) (bodies : ℕ) (before : declarations.Declared) (tree : Tree) (made : Made) → form_at tree ≡ None → declaration limits bodies before tree made ≡ Err (model.Shape (place_of tree))
unfolding declaration
no_declaration limits bodies before (Word at w) made e = refl
no_declaration limits bodies before (Number at z) made e = refl
no_declaration limits bodies before (Text at w) made e = refl
no_declaration limits bodies before (Branch at Nil) made e = refl
no_declaration limits bodies before (Branch at (And (Word place w) row)) made e = cc
no_declaration limits bodies before (Branch at (And (Number place z) row)) made e = refl
no_declaration limits bodies before (Branch at (And (Text place w) row)) made e = refl
no_declaration limits bodies before (Branch at (And (Branch place inner) row)) made e = refl

-- no such word
pub declaration_unknown : (limits : Limits) (bodies : ℕ) (before : declarations.Declared) (at place : ℕ) (word : List ℕ) (items : Trees) (made : Made) → None ≡ declaration_form_of word → declaration limits bodies before (Branch at (And (Word place word) items)) made ≡ Err (model.Shape at)
unfolding declaration
declaration_unknown limits bodies before at place word Nil made e = refl
declaration_unknown limits bodies before at place word (And name items) made e = rw (← e) refl

-- another number of items
pub declaration_misfit : (limits : Limits) (bodies : ℕ) (before : declarations.Declared) (at place : ℕ) (word : List ℕ) (it : Object) (count : ℕ) (items : Trees) (made : Made) → Some (form_of it) ≡ declaration_form_of word → count ≡ min 3 (tree_count items) → takes it count ≡ false → declaration limits bodies before (Branch at (And (Word place word) items)) made ≡ Err (model.Shape at)
unfolding declaration
declaration_misfit limits bodies before at place word it count Nil made e counted misfit = refl
declaration_misfit limits bodies before at place word it count (And name items) made e counted misfit =
    let fails : takes it (tree_count items + 1) ≡ false = sym (taken it (tree_count items + 1)) ∙ ap (takes it) (sym counted) ∙ misfit in
    rw (← e, misfits it bodies items fails) refl

all_items : (it : Object) (count : ℕ) (items : Trees) → count ≡ min 3 (tree_count items) → takes it count ≡ true → takes it (tree_count items) ≡ true
all_items it count items counted fit = sym (taken it (tree_count items)) ∙ ap (takes it) (sym counted) ∙ fit

-- one too many
pub declaration_full : (limits : Limits) (bodies : ℕ) (before : declarations.Declared) (at place : ℕ) (word : List ℕ) (it : Object) (count : ℕ) (items : Trees) (made : Made) → Some (form_of it) ≡ declaration_form_of word → count ≡ min 3 (tree_count items) → takes it count ≡ true → not (nat_lt (length before.declarations) limits.declarations) ≡ true → declaration limits bodies before (Branch at (And (Word place word) items)) made ≡ Err (model.Size at)
unfolding declaration
declaration_full limits bodies before at place word it count Nil made e counted fit full = absurd (false≢true (sym (nothing_fits it) ∙ all_items it count Nil counted fit))
declaration_full limits bodies before at place word it count (And name items) made e counted fit full =
    let less : nat_lt (length before.declarations) limits.declarations ≡ false = not_by (nat_lt (length before.declarations) limits.declarations) true full in
    rw (← e, fits it bodies items (all_items it count (And name items) counted fit), less) refl

-- a form more, whose name and items are read then
formed_then : (limits : Limits) (bodies : ℕ) (before : declarations.Declared) (at place : ℕ) (word : List ℕ) (it : Object) (items : Trees) (made : Made) → Some (form_of it) ≡ declaration_form_of word → takes it (tree_count items) ≡ true → nat_lt (length before.declarations) limits.declarations ≡ true → declaration limits bodies before (Branch at (And (Word place word) items)) made ≡ named_read (kind_of (kind_in it)) bodies before items (record made { formed = made.formed ++ record { at = at; feature = feature_in it; mocked = mocked_in it } ∷ [] })
unfolding declaration
formed_then limits bodies before at place word it Nil made e fit less = absurd (false≢true (sym (nothing_fits it) ∙ fit))
formed_then limits bodies before at place word it (And name items) made e fit less = rw (← e, fits it bodies items fit, less) refl

-- the same answer from the same step
pub makes_same : {X A : Type 0} (view : X → A) (r : Result X ScriptFault) (all rest : Reads A) (old mid new : Drafted) → all (made_of old) ≡ rest (made_of mid) → mid.nodes ≡ old.nodes → Makes view r rest mid new → Makes view r all old new
makes_same view (Ok x) all rest old mid new e nodes read = (e ∙ read.0, read.1 ∙ nodes)
makes_same view (Err f) all rest old mid new e nodes read = rw e read

pub declaration_read : {X : Type 0} (view : X → declarations.Declared) (r : Result X ScriptFault) (limits : Limits) (bodies : ℕ) (before : declarations.Declared) (at place : ℕ) (word : List ℕ) (it : Object) (count : ℕ) (items : Trees) (feature : Feature) (mocked : Bool) (old mid new : Drafted) → Some (form_of it) ≡ declaration_form_of word → count ≡ min 3 (tree_count items) → takes it count ≡ true → not (nat_lt (length before.declarations) limits.declarations) ≡ false → feature ≡ feature_in it → mocked ≡ mocked_in it → mid ≡ record old { formed = old.formed ++ record { at = at; feature = feature; mocked = mocked } ∷ [] } → Makes view r (named_read (kind_of (kind_in it)) bodies before items) mid new → Makes view r (declaration limits bodies before (Branch at (And (Word place word) items))) old new
declaration_read view r limits bodies before at place word it count items feature mocked old mid new e counted fit full f m formed read =
    let less : nat_lt (length before.declarations) limits.declarations ≡ true = not_by (nat_lt (length before.declarations) limits.declarations) false full in
    let same : declaration limits bodies before (Branch at (And (Word place word) items)) (made_of old) ≡ named_read (kind_of (kind_in it)) bodies before items (made_of mid) = rw (formed, f, m) (formed_then limits bodies before at place word it items (made_of old) e (all_items it count items counted fit) less) in
    makes_same view r (declaration limits bodies before (Branch at (And (Word place word) items))) (named_read (kind_of (kind_in it)) bodies before items) old mid new same (rw formed refl) read

-- ## Where the declarations end

pub goes_on : (ps : List Piece) → ends (ahead ps) ≡ false → has_tree ps ≡ true
unfolding ahead
goes_on [] more = absurd (false≢true (sym more))
goes_on (Words at w ∷ ps) more = refl
goes_on (Numbers at w ∷ ps) more = refl
goes_on (Texts at w ∷ ps) more = refl
goes_on (Opens at ∷ ps) more = refl
goes_on (Closes ∷ ps) more = absurd (false≢true (sym more))

pub is_end_before : (row : Trees) → ends row ≡ true → before_main row ≡ Nil
unfolding before_main
is_end_before Nil e = refl
is_end_before (And tree row) e = let m : is_main tree ≡ true = e in rw (m, before_main) refl

pub is_end_from : (row : Trees) → ends row ≡ true → from_main row ≡ row
unfolding from_main
is_end_from Nil e = refl
is_end_from (And tree row) e = let m : is_main tree ≡ true = e in rw (m, from_main) refl

more_before : (tree : Tree) (row : Trees) → is_main tree ≡ false → before_main (And tree row) ≡ And tree (before_main row)
unfolding before_main
more_before tree row e = rw (e, before_main) refl

more_from : (tree : Tree) (row : Trees) → is_main tree ≡ false → from_main (And tree row) ≡ from_main row
unfolding from_main
more_from tree row e = rw (e, from_main) refl

no_main : (ps new : List Piece) → ends (ahead ps) ≡ false → IsPast ps new → is_main (tree_ahead ps) ≡ false
no_main ps new more past = ap ends (sym (next_passed ps new (goes_on ps more) past)) ∙ more

pub from_passed : (ps new : List Piece) → ends (ahead ps) ≡ false → IsPast ps new → from_main (ahead new) ≡ from_main (ahead ps)
from_passed ps new more past = sym (ap from_main (next_passed ps new (goes_on ps more) past) ∙ more_from (tree_ahead ps) (ahead new) (no_main ps new more past))

before_passed : (ps new : List Piece) → ends (ahead ps) ≡ false → IsPast ps new → before_main (ahead ps) ≡ And (tree_ahead ps) (before_main (ahead new))
before_passed ps new more past = ap before_main (next_passed ps new (goes_on ps more) past) ∙ more_before (tree_ahead ps) (ahead new) (no_main ps new more past)

pub declared_more : (limits : Limits) (bodies : ℕ) (before after : declarations.Declared) (ps new : List Piece) (made then : Made) → ends (ahead ps) ≡ false → IsPast ps new → declaration limits bodies before (tree_ahead ps) made ≡ Ok (after, then) → declarations_behind limits bodies before (before_main (ahead ps)) made ≡ declarations_behind limits bodies after (before_main (ahead new)) then
unfolding declarations_behind
declared_more limits bodies before after ps new made then more past read = rw (before_passed ps new more past, read) refl

-- the same where nothing is known of the place behind
declared_stops_at : (limits : Limits) (bodies : ℕ) (before : declarations.Declared) (tree : Tree) (row : Trees) (made : Made) (f : ScriptFault) → Fails f (declaration limits bodies before tree made) → Fails f (declarations_behind limits bodies before (And tree row) made)
unfolding declarations_behind
declared_stops_at limits bodies before tree row made f fails = fails_first f (declaration limits bodies before tree made) _ fails

pub declared_stops : (limits : Limits) (bodies : ℕ) (before : declarations.Declared) (ps : List Piece) (made : Made) (f : ScriptFault) (whole : Result (declarations.Declared × Made) model.ScriptFault) → ends (ahead ps) ≡ false → Fails f (declaration limits bodies before (tree_ahead ps) made) → whole ≡ declarations_behind limits bodies before (before_main (ahead ps)) made → Fails f whole
declared_stops limits bodies before ps made f whole more fails e =
    let first = next_here ps (goes_on ps more) in
    let other : is_main (tree_ahead ps) ≡ false = ap ends (sym first) ∙ more in
    rw (e, first, more_before (tree_ahead ps) (rest_of (ahead ps)) other) (declared_stops_at limits bodies before (tree_ahead ps) (before_main (rest_of (ahead ps))) made f fails)

pub declared_end : (limits : Limits) (bodies : ℕ) (before : declarations.Declared) (row : Trees) (made : Made) → ends row ≡ true → declarations_behind limits bodies before (before_main row) made ≡ Ok (before, made)
unfolding declarations_behind
declared_end limits bodies before row made e = rw (is_end_before row e) refl

-- ## The parts of a root

Agrees : Trees → Option Parts → Type 0
Agrees row None = Unit {0}
Agrees row (Some parts) = (before_main row ≡ parts.before) × (from_main row ≡ And (first_tree (from_main row)) parts.behind) × (items_behind (codes "main") (first_tree (from_main row)) ≡ Some parts.main)

agrees_later : (tree : Tree) (row : Trees) (rest : Option Parts) → is_main tree ≡ false → Agrees row rest → Agrees (And tree row) (option_map (with_first tree) rest)
unfolding Agrees
agrees_later tree row None m agreed = tt
agrees_later tree row (Some parts) m agreed =
    (more_before tree row m ∙ ap (λ some. And tree some) agreed.0, more_from tree row m ∙ agreed.1 ∙ ap (λ t. And t parts.behind) (sym (ap first_tree (more_from tree row m))), ap (λ t. items_behind (codes "main") (first_tree t)) (more_from tree row m) ∙ agreed.2)

agrees_by : (tree : Tree) (row : Trees) (head : Option Trees) → items_behind (codes "main") tree ≡ head → Agrees row (parts_of row) → Agrees (And tree row) (elim head [ Some items ↦ Some (record { before = Nil; main = items; behind = row }) | None ↦ option_map (with_first tree) (parts_of row) ])
unfolding Agrees before_main from_main
agrees_by tree row (Some items) e rest =
    let m : is_main tree ≡ true = rw e refl in
    (is_end_before (And tree row) m, is_end_from (And tree row) m ∙ ap (λ t. And t row) (sym (ap first_tree (is_end_from (And tree row) m))), ap (λ t. items_behind (codes "main") t) (ap first_tree (is_end_from (And tree row) m)) ∙ e)
agrees_by tree row None e rest =
    let m : is_main tree ≡ false = rw e refl in
    agrees_later tree row (parts_of row) m rest

agrees : (row : Trees) → Agrees row (parts_of row)
unfolding Agrees
agrees Nil = tt
agrees (And tree row) = agrees_by tree row (items_behind (codes "main") tree) refl (agrees row)

pub parts_before : (row : Trees) (parts : Parts) → parts_of row ≡ Some parts → before_main row ≡ parts.before
unfolding Agrees
parts_before row parts e = (subst (Agrees row) e (agrees row)).0

pub parts_from : (row : Trees) (parts : Parts) → parts_of row ≡ Some parts → (from_main row ≡ And (first_tree (from_main row)) parts.behind) × (items_behind (codes "main") (first_tree (from_main row)) ≡ Some parts.main)
unfolding Agrees
parts_from row parts e = let all = subst (Agrees row) e (agrees row) in (all.1, all.2)
