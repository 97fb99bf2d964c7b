-- The declarations, the bodies and the whole script are read alike from trees that are the same but for their places.
use Rattle.std.proofs.Common.{◌≡◌, ℕ, ◌+◌, ◌&&◌, Bool, true, false, List, [], ◌∷◌, length, nat_lt, Option, Some, None, refl, sym, ap, subst, ◌∙◌}
use Rattle.std.specs.Prelude.{map, is_none, is_some, not, ℤ, pos, negsuc, option_map, codes, Result, Ok, Err}
use Rattle.std.specs.List.{list_any}
use Rattle.std.specs.Str.{bytes_eq}
use Rattle.eio_value.specs.declared.flow_step.FlowStep.TheVariants.{Data, Fault, Pause}
use Rattle.eio_value.specs.Directory as directory
use Rattle.eio_value.specs.Directory.{File, Link, Sub, Empty}
use Rattle.spec_script.specs.Declarations.{Declaration, DeclarationForm, Declared, Stream, Promise, Semaphore, Mutex, Pool, Executor, Flow, Dir, workers, items_of, declare, declaration_by, declaration, declarations_behind, declaration_form_of, nothing_declared, with_declaration}
use Rattle.spec_script.specs.Entries.{entries, entry, entry_by, entry_head, EntryHead, FileHead, LinkHead, SubHead, entry_name, content_of, is_entry_name, name_of}
use Rattle.spec_script.specs.Faults.{ScriptFault, Shape, Size, Twice, Name}
use Rattle.spec_script.specs.FlowSteps.{StepHead, DataHead, FaultHead, PauseHead, data_of, step_by, step_head, step, steps}
use Rattle.spec_script.specs.Kinds.{Kind, StreamKind, PromiseKind, SemaphoreKind, MutexKind, PoolKind, ExecutorKind, FlowKind, DirectoryKind}
use Rattle.spec_script.specs.declared.Limits.{Limits}
use Rattle.spec_script.specs.Limits.{capacities, counts, sizes, limits_of, most_workers, most_flow_steps, most_entries}
use Rattle.spec_script.specs.Reads.{Formed, Made, nothing_made, Reads, ◌>>>◌, gives, refuses, requires_that, one_step, one_entry}
use Rattle.spec_script.specs.Results.{◌>>=◌}
use Rattle.spec_script.specs.Scopes.{named_in}
use Rattle.spec_script.specs.Scripts.{Script, Parts, items_behind, with_first, parts_of, domains_in, bodies_of, body_scope, body, domains, first_place, read_parts, script_by, script_of_parts, version_of, root_of, script_of}
use Rattle.spec_script.specs.Syntax.{Block}
use Rattle.spec_script.specs.Trees.{Tree, Word, Number, Text, Branch, Trees, Nil, And, place_of}
use Rattle.law_script.specs.Trees.Places.{bare, bare_row}
use Rattle.law_script.specs.Scripts.Meanings.{MeanTheSame, bare_formed, bare_place, reason_of, ReadAlike, PlacesDontCount}
use Rattle.law_script.proofs.Scripts.Bare.{bare_made, bare_fault, bare_result, Alike, behind, given, refused, required, form_one, interned_alike, text_alike, number_alike, if_form, block_of_alike, statements_alike}

-- ## Steps and entries

step_one : (at : ℕ) → Alike (one_step at) (one_step 0)
step_one at = record { same = (λ made. by made (nat_lt made.steps most_flow_steps)) }
  where
    by : (made : Made) (b : Bool) → bare_result ((requires_that b (Size at) >>> λ _. λ before. Ok (tt {0}, record before { steps = before.steps + 1 })) made) ≡ (requires_that b (Size 0) >>> λ _. λ before. Ok (tt {0}, record before { steps = before.steps + 1 })) (bare_made made)
    by made true = refl
    by made false = refl

entry_one : (at : ℕ) → Alike (one_entry at) (one_entry 0)
entry_one at = record { same = (λ made. by made (nat_lt made.entries most_entries)) }
  where
    by : (made : Made) (b : Bool) → bare_result ((requires_that b (Size at) >>> λ _. λ before. Ok (tt {0}, record before { entries = before.entries + 1 })) made) ≡ (requires_that b (Size 0) >>> λ _. λ before. Ok (tt {0}, record before { entries = before.entries + 1 })) (bare_made made)
    by made true = refl
    by made false = refl

data_alike : (tree : Tree) → Alike (data_of tree) (data_of (bare tree))
unfolding bare
data_alike (Text at (b ∷ bytes)) = behind (interned_alike (b ∷ bytes)) (λ done. given (b ∷ bytes))
data_alike (Text at []) = refused (Shape at)
data_alike (Word at word) = refused (Shape at)
data_alike (Number at z) = refused (Shape at)
data_alike (Branch at row) = refused (Shape at)

step_by_alike : (at : ℕ) (head : Option StepHead) (row : Trees) → Alike (step_by at head row) (step_by 0 head (bare_row row))
unfolding bare_row
step_by_alike at (Some DataHead) (And text Nil) = behind (step_one at) (λ a. behind (data_alike text) (λ bytes. given (Data bytes)))
step_by_alike at (Some FaultHead) (And text Nil) = behind (step_one at) (λ a. behind (text_alike text) (λ id. given (Fault id)))
step_by_alike at (Some PauseHead) Nil = behind (step_one at) (λ a. given Pause)
step_by_alike at head row = refused (Shape at)

step_alike : (tree : Tree) → Alike (step tree) (step (bare tree))
unfolding bare bare_row
step_alike (Branch at (And (Word place word) items)) = step_by_alike at (step_head word) items
step_alike (Branch at Nil) = refused (Shape at)
step_alike (Branch at (And (Number place z) items)) = refused (Shape at)
step_alike (Branch at (And (Text place text) items)) = refused (Shape at)
step_alike (Branch at (And (Branch place row) items)) = refused (Shape at)
step_alike (Word at word) = refused (Shape at)
step_alike (Number at z) = refused (Shape at)
step_alike (Text at text) = refused (Shape at)

steps_alike : (row : Trees) → Alike (steps row) (steps (bare_row row))
unfolding bare_row steps
steps_alike Nil = given []
steps_alike (And tree row) = behind (step_alike tree) (λ first. behind (steps_alike row) (λ others. given (first ∷ others)))

entry_name_alike : (before : List (List ℕ)) (tree : Tree) → Alike (entry_name before tree) (entry_name before (bare tree))
unfolding bare
entry_name_alike before (Text at name) =
    behind (required (is_entry_name name) (Shape at)) (λ a. behind (required (not (list_any (bytes_eq name) before)) (Twice at)) (λ b. behind (interned_alike name) (λ c. given name)))
entry_name_alike before (Word at word) = refused (Shape at)
entry_name_alike before (Number at z) = refused (Shape at)
entry_name_alike before (Branch at row) = refused (Shape at)

content_alike : (tree : Tree) → Alike (content_of tree) (content_of (bare tree))
unfolding bare
content_alike (Text at text) = behind (interned_alike text) (λ a. given text)
content_alike (Word at word) = refused (Shape at)
content_alike (Number at z) = refused (Shape at)
content_alike (Branch at row) = refused (Shape at)

mutual
  unfolding bare bare_row entries entry entry_by

  entries_alike : (before : List (List ℕ)) (row : Trees) → Alike (entries before row) (entries before (bare_row row))
  entries_alike before Nil = given Empty
  entries_alike before (And tree row) = behind (entry_alike before tree) (λ first. behind (entries_alike (name_of first ∷ before) row) (λ others. given (directory.And first others)))

  entry_alike : (before : List (List ℕ)) (tree : Tree) → Alike (entry before tree) (entry before (bare tree))
  entry_alike before (Branch at (And (Word place word) items)) = entry_by_alike before at (entry_head word) items
  entry_alike before (Branch at Nil) = refused (Shape at)
  entry_alike before (Branch at (And (Number place z) items)) = refused (Shape at)
  entry_alike before (Branch at (And (Text place text) items)) = refused (Shape at)
  entry_alike before (Branch at (And (Branch place row) items)) = refused (Shape at)
  entry_alike before (Word at word) = refused (Shape at)
  entry_alike before (Number at z) = refused (Shape at)
  entry_alike before (Text at text) = refused (Shape at)

  entry_by_alike : (before : List (List ℕ)) (at : ℕ) (head : Option EntryHead) (row : Trees) → Alike (entry_by before at head row) (entry_by before 0 head (bare_row row))
  entry_by_alike before at (Some FileHead) (And name (And content Nil)) =
      behind (entry_one at) (λ a. behind (entry_name_alike before name) (λ own. behind (content_alike content) (λ bytes. given (File own bytes))))
  entry_by_alike before at (Some LinkHead) (And name (And target Nil)) =
      behind (entry_one at) (λ a. behind (entry_name_alike before name) (λ own. behind (content_alike target) (λ bytes. given (Link own bytes))))
  entry_by_alike before at (Some SubHead) (And name items) =
      behind (entry_one at) (λ a. behind (entry_name_alike before name) (λ own. behind (entries_alike [] items) (λ inner. given (Sub own inner))))
  entry_by_alike before at head row = refused (Shape at)

-- ## Declarations

workers_alike : (bodies n : ℕ) (row : Trees) → Alike (workers bodies n row) (workers bodies n (bare_row row))
unfolding bare bare_row workers
workers_alike bodies n Nil = given []
workers_alike bodies n (And (Number at (pos body)) row) =
    behind (required (nat_lt n most_workers && nat_lt body bodies) (Size at)) (λ a. behind (workers_alike bodies (n + 1) row) (λ others. given (body ∷ others)))
workers_alike bodies n (And (Number at (negsuc z)) row) = refused (Size at)
workers_alike bodies n (And (Word at word) row) = refused (Shape at)
workers_alike bodies n (And (Text at text) row) = refused (Shape at)
workers_alike bodies n (And (Branch at items) row) = refused (Shape at)

-- both none, or steps that are alike
abbrev MaybeAlike : Option (Reads Declaration) → Option (Reads Declaration) → Type 0
MaybeAlike (Some r) (Some s) = Alike r s
MaybeAlike None None = Unit {0}
MaybeAlike r s = ⊥

items_alike : (kind : Kind) (bodies : ℕ) (row : Trees) → MaybeAlike (items_of kind bodies row) (items_of kind bodies (bare_row row))
unfolding bare_row
items_alike StreamKind bodies (And capacity Nil) = behind (number_alike capacities capacity) (λ n. given (Stream n))
items_alike PromiseKind bodies Nil = given Promise
items_alike SemaphoreKind bodies (And count Nil) = behind (number_alike counts count) (λ n. given (Semaphore n))
items_alike MutexKind bodies Nil = given Mutex
items_alike PoolKind bodies (And size Nil) = behind (number_alike sizes size) (λ n. given (Pool n))
items_alike ExecutorKind bodies (And first row) = behind (workers_alike bodies 0 (And first row)) (λ these. given (Executor these))
items_alike FlowKind bodies row = behind (steps_alike row) (λ these. given (Flow these))
items_alike DirectoryKind bodies row = behind (entries_alike [] row) (λ these. given (Dir these))
items_alike kind bodies row = tt

declare_alike : (before : Declared) (kind : Kind) (tree : Tree) (r s : Reads Declaration) → Alike r s → Alike (declare before kind tree r) (declare before kind (bare tree) s)
unfolding bare
declare_alike before kind (Word at name) r s rs =
    behind (required (is_none (named_in before.scope name)) (Twice at)) (λ a. behind (interned_alike name) (λ id. behind rs (λ it. given (with_declaration before kind name id it))))
declare_alike before kind (Number at z) r s rs = refused (Shape at)
declare_alike before kind (Text at text) r s rs = refused (Shape at)
declare_alike before kind (Branch at row) r s rs = refused (Shape at)

declaration_by_alike : (limits : Limits) (before : Declared) (at : ℕ) (form : DeclarationForm) (tree : Tree) (r s : Option (Reads Declaration)) → MaybeAlike r s → Alike (declaration_by limits before at form tree r) (declaration_by limits before 0 form (bare tree) s)
declaration_by_alike limits before at form tree None None rs = refused (Shape at)
declaration_by_alike limits before at form tree None (Some s) rs = absurd rs
declaration_by_alike limits before at form tree (Some r) None rs = absurd rs
declaration_by_alike limits before at form tree (Some r) (Some s) rs =
    behind (required (nat_lt (length before.declarations) limits.declarations) (Size at)) (λ a. behind (form_one at form.feature form.mocked) (λ b. declare_alike before form.kind tree r s rs))

declaration_alike : (limits : Limits) (bodies : ℕ) (before : Declared) (tree : Tree) → Alike (declaration limits bodies before tree) (declaration limits bodies before (bare tree))
unfolding bare bare_row declaration
declaration_alike limits bodies before (Branch at (And (Word place word) (And name items))) =
    if_form _ _ _ _ (declaration_form_of word) (refused (Shape at)) (λ form. declaration_by_alike limits before at form name (items_of form.kind bodies items) (items_of form.kind bodies (bare_row items)) (items_alike form.kind bodies items))
declaration_alike limits bodies before (Branch at (And (Word place word) Nil)) = refused (Shape at)
declaration_alike limits bodies before (Branch at Nil) = refused (Shape at)
declaration_alike limits bodies before (Branch at (And (Number place z) items)) = refused (Shape at)
declaration_alike limits bodies before (Branch at (And (Text place text) items)) = refused (Shape at)
declaration_alike limits bodies before (Branch at (And (Branch place row) items)) = refused (Shape at)
declaration_alike limits bodies before (Word at word) = refused (Shape at)
declaration_alike limits bodies before (Number at z) = refused (Shape at)
declaration_alike limits bodies before (Text at text) = refused (Shape at)

declarations_alike : (limits : Limits) (bodies : ℕ) (before : Declared) (row : Trees) → Alike (declarations_behind limits bodies before row) (declarations_behind limits bodies before (bare_row row))
unfolding bare_row declarations_behind
declarations_alike limits bodies before Nil = given before
declarations_alike limits bodies before (And tree row) = behind (declaration_alike limits bodies before tree) (λ more. declarations_alike limits bodies more row)

-- ## The parts of a root

items_behind_alike : (word : List ℕ) (tree : Tree) → items_behind word (bare tree) ≡ option_map bare_row (items_behind word tree)
unfolding bare bare_row
items_behind_alike word (Branch at (And (Word place head) items)) = by (bytes_eq head word)
  where
    by : (b : Bool) → ◌≡◌ {A = Option Trees} (elim b [ true ↦ Some (bare_row items) | false ↦ None ]) (option_map bare_row (elim b [ true ↦ Some items | false ↦ None ]))
    by true = refl
    by false = refl
items_behind_alike word (Branch at Nil) = refl
items_behind_alike word (Branch at (And (Number place z) items)) = refl
items_behind_alike word (Branch at (And (Text place text) items)) = refl
items_behind_alike word (Branch at (And (Branch place row) items)) = refl
items_behind_alike word (Word at w) = refl
items_behind_alike word (Number at z) = refl
items_behind_alike word (Text at text) = refl

abbrev bare_parts : Parts → Parts
bare_parts parts = record { before = bare_row parts.before; main = bare_row parts.main; behind = bare_row parts.behind }

abbrev parts_by : Tree → Trees → Option Trees → Option Parts
parts_by tree row found = elim found [ Some items ↦ Some (record { before = Nil; main = items; behind = row }) | None ↦ option_map (with_first tree) (parts_of row) ]

first_alike : (tree : Tree) (parts : Option Parts) → option_map (with_first (bare tree)) (option_map bare_parts parts) ≡ option_map bare_parts (option_map (with_first tree) parts)
unfolding bare_row
first_alike tree None = refl
first_alike tree (Some parts) = refl

parts_alike : (row : Trees) → parts_of (bare_row row) ≡ option_map bare_parts (parts_of row)
unfolding bare_row
parts_alike Nil = refl
parts_alike (And tree row) = ap (parts_by (bare tree) (bare_row row)) (items_behind_alike (codes "main") tree) ∙ by (items_behind (codes "main") tree) (parts_alike row)
  where
    by : (found : Option Trees) → parts_of (bare_row row) ≡ option_map bare_parts (parts_of row) → parts_by (bare tree) (bare_row row) (option_map bare_row found) ≡ option_map bare_parts (parts_by tree row found)
    by (Some items) rest = refl
    by None rest = ap (option_map (with_first (bare tree))) rest ∙ first_alike tree (parts_of row)

some_alike : (found : Option Trees) → is_some (option_map bare_row found) ≡ is_some found
some_alike None = refl
some_alike (Some row) = refl

domains_in_alike : (row : Trees) → domains_in (bare_row row) ≡ domains_in row
unfolding bare_row
domains_in_alike Nil = refl
domains_in_alike (And tree row) =
    ap (λ b. elim b as (λ _. ℕ) [ true ↦ domains_in (bare_row row) + 1 | false ↦ domains_in (bare_row row) ]) (ap is_some (items_behind_alike (codes "domain") tree) ∙ some_alike (items_behind (codes "domain") tree))
    ∙ ap (λ n. elim (is_some (items_behind (codes "domain") tree)) as (λ _. ℕ) [ true ↦ n + 1 | false ↦ n ]) (domains_in_alike row)

refused_at : {A : Type 0} (tree : Tree) → Alike {A = A} (refuses (Shape (place_of tree))) (refuses (Shape (place_of (bare tree))))
unfolding bare
refused_at (Word at word) = refused (Shape at)
refused_at (Number at z) = refused (Shape at)
refused_at (Text at text) = refused (Shape at)
refused_at (Branch at row) = refused (Shape at)

room_at : (b : Bool) (tree : Tree) → Alike (requires_that b (Size (place_of tree))) (requires_that b (Size (place_of (bare tree))))
unfolding bare
room_at b (Word at word) = required b (Size at)
room_at b (Number at z) = required b (Size at)
room_at b (Text at text) = required b (Size at)
room_at b (Branch at row) = required b (Size at)

body_alike : (declared : Declared) (row : Trees) → Alike (body declared row) (body declared (bare_row row))
body_alike declared row = block_of_alike (statements_alike (body_scope declared) row)

abbrev domains_by : Limits → Declared → ℕ → Tree → Trees → Option Trees → Reads (List Block)
domains_by limits declared n tree row found = elim found [
  | None ↦ refuses (Shape (place_of tree))
  | Some items ↦ (requires_that (nat_lt n limits.bodies) (Size (place_of tree)) >>> λ _. body declared items >>> λ first. domains limits declared (n + 1) row >>> λ others. gives (first ∷ others))
]

domains_alike : (limits : Limits) (declared : Declared) (n : ℕ) (row : Trees) → Alike (domains limits declared n row) (domains limits declared n (bare_row row))
unfolding bare_row domains
domains_alike limits declared n Nil = given []
domains_alike limits declared n (And tree row) =
    subst (λ found. Alike (domains_by limits declared n tree row (items_behind (codes "domain") tree)) (domains_by limits declared n (bare tree) (bare_row row) found)) (sym (items_behind_alike (codes "domain") tree))
    (by (items_behind (codes "domain") tree) (domains_alike limits declared (n + 1) row))
  where
    by : (found : Option Trees) → Alike (domains limits declared (n + 1) row) (domains limits declared (n + 1) (bare_row row)) → Alike (domains_by limits declared n tree row found) (domains_by limits declared n (bare tree) (bare_row row) (option_map bare_row found))
    by None rest = refused_at tree
    by (Some items) rest = behind (room_at (nat_lt n limits.bodies) tree) (λ a. behind (body_alike declared items) (λ first. behind rest (λ others. given (first ∷ others))))

abbrev read_by : Limits → (bodies : ℕ) → Parts → Reads (Declared × List Block)
read_by limits bodies parts =
    declarations_behind limits bodies nothing_declared parts.before >>> λ declared. body declared parts.main >>> λ main. domains limits declared 1 parts.behind >>> λ others. gives (declared, main ∷ others)

read_alike : (limits : Limits) (parts : Parts) → Alike (read_parts limits parts) (read_parts limits (bare_parts parts))
read_alike limits parts =
    subst (λ bodies. Alike (read_parts limits parts) (read_by limits bodies (bare_parts parts))) (ap (λ n. n + 1) (sym (domains_in_alike parts.behind)))
    (behind (declarations_alike limits (bodies_of parts) nothing_declared parts.before) (λ declared. behind (body_alike declared parts.main) (λ main. behind (domains_alike limits declared 1 parts.behind) (λ others. given (declared, main ∷ others)))))

-- ## Scripts

bare_reason : (e : ScriptFault) → reason_of e ≡ reason_of (bare_fault e)
bare_reason (Shape at) = refl
bare_reason (Size at) = refl
bare_reason (Twice at) = refl
bare_reason (Name at) = refl

-- places that are 0 stay so
bare_once : (formed : List Formed) → map bare_formed formed ≡ map bare_formed (map bare_formed formed)
bare_once [] = refl
bare_once (one ∷ others) = ap (λ rest. bare_formed one ∷ rest) (bare_once others)

place_once : (row : Trees) → option_map bare_place (first_place row) ≡ option_map bare_place (first_place (bare_row row))
unfolding bare_row
place_once Nil = refl
place_once (And tree row) = refl

script_parts_alike : (version : ℕ) (parts : Parts) → ReadAlike (script_of_parts version parts) (script_of_parts version (bare_parts parts))
script_parts_alike version parts = by (read_parts (limits_of version) parts nothing_made) ((read_alike (limits_of version) parts).same nothing_made)
  where
    by : (found : Result ((Declared × List Block) × Made) ScriptFault) → bare_result found ≡ read_parts (limits_of version) (bare_parts parts) nothing_made
        → ReadAlike (found >>= λ found. Ok (script_by version parts found.0.0 found.0.1 found.1)) (read_parts (limits_of version) (bare_parts parts) nothing_made >>= λ found. Ok (script_by version (bare_parts parts) found.0.0 found.0.1 found.1))
    by (Ok found) e =
        subst (λ (y : Result ((Declared × List Block) × Made) ScriptFault). ReadAlike (Ok (script_by version parts found.0.0 found.0.1 found.1)) (y >>= λ found. Ok (script_by version (bare_parts parts) found.0.0 found.0.1 found.1))) e
        (record {
          meaning = record { version = refl; names = refl; declarations = refl; bodies = refl; texts = refl; failures = refl };
          formed = bare_once found.1.formed;
          first_domain = place_once parts.behind;
        })
    by (Err fault) e =
        subst (λ (y : Result ((Declared × List Block) × Made) ScriptFault). ReadAlike (Err fault) (y >>= λ found. Ok (script_by version (bare_parts parts) found.0.0 found.0.1 found.1))) e (bare_reason fault)

abbrev root_by : (at place : ℕ) → ℤ → Option Parts → Result Script ScriptFault
root_by at place number found = elim found [ None ↦ Err (Shape at) | Some parts ↦ elim (version_of number) [ None ↦ Err (Shape place) | Some version ↦ script_of_parts version parts ] ]

version_alike : (place : ℕ) (found : Option ℕ) (parts : Parts)
    → ReadAlike (elim found as (λ _. Result Script ScriptFault) [ None ↦ Err (Shape place) | Some version ↦ script_of_parts version parts ])
    (elim found as (λ _. Result Script ScriptFault) [ None ↦ Err (Shape 0) | Some version ↦ script_of_parts version (bare_parts parts) ])
version_alike place None parts = refl
version_alike place (Some version) parts = script_parts_alike version parts

root_by_alike : (at other place : ℕ) (number : ℤ) (found : Option Parts) → ReadAlike (root_by at place number found) (root_by other 0 number (option_map bare_parts found))
root_by_alike at other place number None = refl
root_by_alike at other place number (Some parts) = version_alike place (version_of number) parts

root_alike : (at other : ℕ) (row : Trees) → ReadAlike (root_of at row) (root_of other (bare_row row))
unfolding bare bare_row
root_alike at other (And (Number place number) row) =
    subst (λ found. ReadAlike (root_by at place number (parts_of row)) (root_by other 0 number found)) (sym (parts_alike row)) (root_by_alike at other place number (parts_of row))
root_alike at other Nil = refl
root_alike at other (And (Word place word) row) = refl
root_alike at other (And (Text place text) row) = refl
root_alike at other (And (Branch place items) row) = refl

abbrev script_by_items : ℕ → Option Trees → Result Script ScriptFault
script_by_items at found = elim found [ None ↦ Err (Shape at) | Some items ↦ root_of at items ]

items_script_alike : (at other : ℕ) (found : Option Trees) → ReadAlike (script_by_items at found) (script_by_items other (option_map bare_row found))
items_script_alike at other None = refl
items_script_alike at other (Some items) = root_alike at other items

pub bare_is_alike : (tree : Tree) → ReadAlike (script_of tree) (script_of (bare tree))
unfolding script_of
bare_is_alike tree =
    subst (λ found. ReadAlike (script_by_items (place_of tree) (items_behind (codes "eio") tree)) (script_by_items (place_of (bare tree)) found)) (sym (items_behind_alike (codes "eio") tree))
    (items_script_alike (place_of tree) (place_of (bare tree)) (items_behind (codes "eio") tree))

same_meaning : (a b c : Script) → MeanTheSame a c → MeanTheSame b c → MeanTheSame a b
same_meaning a b c f g = record {
  version = f.version ∙ sym g.version;
  names = f.names ∙ sym g.names;
  declarations = f.declarations ∙ sym g.declarations;
  bodies = f.bodies ∙ sym g.bodies;
  texts = f.texts ∙ sym g.texts;
  failures = f.failures ∙ sym g.failures;
}

same_as_third : (a b c : Result Script ScriptFault) → ReadAlike a c → ReadAlike b c → ReadAlike a b
same_as_third (Ok a) (Ok b) (Ok c) f g = record {
  meaning = same_meaning a b c f.meaning g.meaning;
  formed = f.formed ∙ sym g.formed;
  first_domain = f.first_domain ∙ sym g.first_domain;
}
same_as_third (Err a) (Err b) (Err c) f g = f ∙ sym g
same_as_third (Ok a) (Ok b) (Err c) f g = absurd f
same_as_third (Ok a) (Err b) (Ok c) f g = absurd g
same_as_third (Ok a) (Err b) (Err c) f g = absurd f
same_as_third (Err a) (Ok b) (Ok c) f g = absurd f
same_as_third (Err a) (Ok b) (Err c) f g = absurd g
same_as_third (Err a) (Err b) (Ok c) f g = absurd f

pub places_dont_count : PlacesDontCount
places_dont_count a b same = same_as_third (script_of a) (script_of b) (script_of (bare a)) (bare_is_alike a) (subst (λ c. ReadAlike (script_of b) (script_of c)) (sym same) (bare_is_alike b))
