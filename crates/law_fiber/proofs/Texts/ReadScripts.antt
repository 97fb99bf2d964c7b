-- Scripts that are read have their texts (`read_scripts_have_texts`).
use Rattle.std.proofs.Common.{◌≡◌, ℕ, ◌+◌, ◌≤◌, Bool, true, false, Contains, [], ◌∷◌, length, Option, Some, None, Result, Ok, Err, subst, arith}
use Rattle.std.specs.Prelude.{nat_lt, is_none, codes, IfSome}
use Rattle.std.specs.List.{AllByRecursion as Each}
use Rattle.std.proofs.lemmas.List.Elements.{All-from_recursion, recursion_from_All, All-contains_itself}
use Rattle.eio_value.specs.Table.{HasText}
use Rattle.spec_script.specs.Declarations.{Declaration, Stream, Promise, Semaphore, Mutex, Pool, Executor, Flow, Dir, DeclarationForm, declaration_form_of, items_of, Declared, nothing_declared, with_declaration, declare, declaration_by, declaration, declarations_behind}
use Rattle.spec_script.specs.Faults.{ScriptFault, Shape, Size, Twice}
use Rattle.spec_script.specs.Kinds.{Kind, StreamKind, PromiseKind, SemaphoreKind, MutexKind, PoolKind, ExecutorKind, FlowKind, DirectoryKind}
use Rattle.spec_script.specs.declared.Limits.{Limits}
use Rattle.spec_script.specs.Limits.{limits_of, capacities, counts, sizes}
use Rattle.spec_script.specs.Reads.{nothing_made, Reads, ◌>>>◌, gives, refuses, requires_that}
use Rattle.spec_script.specs.Scopes.{named_in}
use Rattle.spec_script.specs.Scripts.{Script, items_behind, Parts, parts_of, bodies_of, body_scope, body, domains, read_parts, script_by, script_of_parts, version_of, root_of, script_of}
use Rattle.spec_script.specs.Statements.{statements}
use Rattle.spec_script.specs.Trees.{Tree, Word, Number, Branch, Trees, Nil, And, place_of}
use Rattle.law_fiber.specs.Texts.Texts.{IsWrittenBlock}
use Rattle.law_fiber.specs.Texts.Laws.{HasItsTexts, ReadScriptsHaveTexts}
use Rattle.law_fiber.proofs.Texts.ReadItems.{entries_keep, steps_keep, workers_keep}
use Rattle.law_fiber.proofs.Texts.ReadNames.{number_keeps}
use Rattle.law_fiber.proofs.Texts.ReadStatements.{block_is, statements_are}
use Rattle.law_fiber.proofs.Texts.ReadSteps.{same_Ok, err-ok, both_gave, End, written_by, Brings, Keeps, given, refused, going_on, past, met, form_keeps, interned_keeps}

-- ## Declarations

items_keep : (end : End) (kind : Kind) (bodies : ℕ) (row : Trees) → IfSome (items_of kind bodies row) (Keeps end)
items_keep _ StreamKind bodies (And capacity Nil) = past (number_keeps capacities capacity) λ n. given (Stream n) tt
items_keep _ PromiseKind bodies Nil = given Promise tt
items_keep _ SemaphoreKind bodies (And count Nil) = past (number_keeps counts count) λ n. given (Semaphore n) tt
items_keep _ MutexKind bodies Nil = given Mutex tt
items_keep _ PoolKind bodies (And size Nil) = past (number_keeps sizes size) λ n. given (Pool n) tt
items_keep _ ExecutorKind bodies (And first row) = past (workers_keep bodies 0 (And first row)) λ these. given (Executor these) tt
items_keep _ FlowKind bodies row = past (steps_keep row) λ these. given (Flow these) tt
items_keep _ DirectoryKind bodies row = past (entries_keep [] row) λ these. given (Dir these) tt
items_keep _ kind bodies row = tt

declare_keeps : {end : End} (before : Declared) (kind : Kind) (name : Tree) (items : Reads Declaration) → Keeps end items
    → Keeps end (declare before kind name items)
declare_keeps before kind (Word at name) items own =
    met (is_none (named_in before.scope name)) (Twice at)
    (past (interned_keeps name) λ id. past own λ it. given (with_declaration before kind name id it) tt)
declare_keeps before kind tree items own = refused (Shape (place_of tree))

declaration_by_keeps : {end : End} (limits : Limits) (before : Declared) (at : ℕ) (form : DeclarationForm) (name : Tree) (items : Option (Reads Declaration))
    → IfSome items (Keeps end) → Keeps end (declaration_by limits before at form name items)
declaration_by_keeps limits before at form name None own = refused (Shape at)
declaration_by_keeps limits before at form name (Some items) own =
    met (nat_lt (length before.declarations) limits.declarations) (Size at)
    (past (form_keeps at form.feature form.mocked) λ _. declare_keeps before form.kind name items own)

declaration_keeps : {end : End} (limits : Limits) (bodies : ℕ) (before : Declared) (tree : Tree) → Keeps end (declaration limits bodies before tree)
unfolding declaration
declaration_keeps {end} limits bodies before (Branch at (And (Word place word) (And name items))) = by (declaration_form_of word)
  where
    by : (found : Option DeclarationForm) → Keeps end {A = Declared} (elim found [
      | None ↦ refuses (Shape at)
      | Some form ↦ declaration_by limits before at form name (items_of form.kind bodies items)
    ])
    by None = refused (Shape at)
    by (Some form) = declaration_by_keeps limits before at form name (items_of form.kind bodies items) (items_keep end form.kind bodies items)
declaration_keeps limits bodies before tree = refused (Shape (place_of tree))

declarations_keep : {end : End} (limits : Limits) (bodies : ℕ) (before : Declared) (row : Trees) → Keeps end (declarations_behind limits bodies before row)
unfolding declarations_behind
declarations_keep limits bodies before Nil = given before tt
declarations_keep limits bodies before (And tree row) = past (declaration_keeps limits bodies before tree) λ more. declarations_keep limits bodies more row

-- ## Bodies

body_is : (end : End) (declared : Declared) (items : Trees) → Brings end (IsWrittenBlock (written_by end)) (body declared items)
body_is end declared items = block_is end (statements (body_scope declared) items) (statements_are end (body_scope declared) items)

domains_are : (end : End) (limits : Limits) (declared : Declared) (n : ℕ) (row : Trees) → Brings end (Each (IsWrittenBlock (written_by end))) (domains limits declared n row)
unfolding domains
domains_are end limits declared n Nil = given [] tt
domains_are end limits declared n (And tree row) = by (items_behind (codes "domain") tree) (domains_are end limits declared (n + 1) row)
  where
    by : (found : Option Trees) → Brings end (Each (IsWrittenBlock (written_by end))) (domains limits declared (n + 1) row)
        → Brings end (Each (IsWrittenBlock (written_by end))) (elim found [
          | None ↦ refuses (Shape (place_of tree))
          | Some items ↦
              (requires_that (nat_lt n limits.bodies) (Size (place_of tree)) >>> λ _.
              body declared items >>> λ first.
              domains limits declared (n + 1) row >>> λ others.
              gives (first ∷ others))
        ])
    by None rest = refused (Shape (place_of tree))
    by (Some items) rest =
        met (nat_lt n limits.bodies) (Size (place_of tree))
        (going_on (body_is end declared items) λ first. going_on rest λ others. given (first ∷ others) (λ more one. (one, more)))

-- ## Scripts

parts_are : (end : End) (limits : Limits) (parts : Parts) → Brings end (λ read. Each (IsWrittenBlock (written_by end)) read.1) (read_parts limits parts)
parts_are end limits parts =
    past (declarations_keep limits (bodies_of parts) nothing_declared parts.before) λ declared.
    going_on (body_is end declared parts.main) λ main.
    going_on (domains_are end limits declared 1 parts.behind) λ others.
    given (declared, main ∷ others) (λ more one. (one, more))

same_count : (n : ℕ) → n ≤ n
same_count n = omega arith

parts_have : (version : ℕ) (parts : Parts) (script : Script) → script_of_parts version parts ≡ Ok script → HasItsTexts script
parts_have version parts script e =
    let both = both_gave (read_parts (limits_of version) parts nothing_made) (λ found. Ok (script_by version parts found.0.0 found.0.1 found.1)) script e in
    let made = both.0.1 in
    let end : End = record { most = length made.texts; good = Contains made.failures } in
    let listed = recursion_from_All (Contains made.failures) made.failures (All-contains_itself made.failures) in
    let found = (parts_are end (limits_of version) parts).holds nothing_made both.0 both.1 (same_count (length made.texts), listed) in
    subst HasItsTexts (same_Ok (script_by version parts both.0.0.0 both.0.0.1 made) script both.2) (record {
      failures = All-from_recursion (HasText made.texts) made.failures (found.2 tt);
      bodies = All-from_recursion (IsWrittenBlock (written_by end)) both.0.0.1 found.1;
    })

root_has : (at : ℕ) (row : Trees) (script : Script) → root_of at row ≡ Ok script → HasItsTexts script
root_has at (And (Number place number) row) script e = by (parts_of row) e
  where
    by_version : (parts : Parts) (found : Option ℕ)
        → ◌≡◌ {A = Result Script ScriptFault} (elim found [ None ↦ Err (Shape place) | Some version ↦ script_of_parts version parts ]) (Ok script) → HasItsTexts script
    by_version parts (Some version) e = parts_have version parts script e
    by_version parts None e = absurd (err-ok _ _ e)

    by : (found : Option Parts) → ◌≡◌ {A = Result Script ScriptFault} (elim found [
      | None ↦ Err (Shape at)
      | Some parts ↦ elim (version_of number) [ None ↦ Err (Shape place) | Some version ↦ script_of_parts version parts ]
    ]) (Ok script) → HasItsTexts script
    by None e = absurd (err-ok _ _ e)
    by (Some parts) e = by_version parts (version_of number) e
root_has at row script e = absurd (err-ok _ _ e)

pub read_scripts_have_texts : ReadScriptsHaveTexts
unfolding script_of
read_scripts_have_texts tree script e = by (items_behind (codes "eio") tree) e
  where
    by : (found : Option Trees) → ◌≡◌ {A = Result Script ScriptFault} (elim found [
      | None ↦ Err (Shape (place_of tree))
      | Some items ↦ root_of (place_of tree) items
    ]) (Ok script) → HasItsTexts script
    by None e = absurd (err-ok _ _ e)
    by (Some items) e = root_has (place_of tree) items script e
