-- Scripts without a form for the mocked domain alone are shared ones (`shared_scripts_have_no_mocked_form`).
use Rattle.std.proofs.Common.{◌≡◌, ℕ, ◌+◌, Bool, true, false, ◌||◌, List, [], ◌∷◌, length, Option, Some, None, Result, Ok, Err, refl, sym, subst}
use Rattle.std.specs.Prelude.{nat_lt, is_none, codes, not, IfSome}
use Rattle.std.specs.List.{AllByRecursion as Each}
use Rattle.std.specs.Str.{bytes_eq}
use Rattle.std.proofs.lemmas.Bool.{false≢true}
use Rattle.std.proofs.lemmas.List.Elements.{All-from_recursion}
use Rattle.spec_script.specs.Declarations.{Declaration, Stream, Promise, Semaphore, Mutex, Pool, Executor, Flow, Dir, DeclarationForm, declaration_forms, declaration_form_of, items_of, Declared, nothing_declared, with_declaration, declare, declaration_by, declaration, declarations_behind}
use Rattle.spec_script.specs.Faults.{ScriptFault, Shape, Size, Twice}
use Rattle.spec_script.specs.Kinds.{Kind, StreamKind, PromiseKind, SemaphoreKind, MutexKind, PoolKind, ExecutorKind, FlowKind, DirectoryKind}
use Rattle.spec_script.specs.declared.Limits.{Limits}
use Rattle.spec_script.specs.Limits.{limits_of, capacities, counts, sizes}
use Rattle.spec_script.specs.Reads.{nothing_made, Reads, ◌>>>◌, gives, refuses, requires_that}
use Rattle.spec_script.specs.Scopes.{named_in}
use Rattle.spec_script.specs.Scripts.{Script, items_behind, Parts, parts_of, bodies_of, body_scope, body, domains, read_parts, script_by, script_of_parts, version_of, root_of, script_of}
use Rattle.spec_script.specs.Statements.{statements}
use Rattle.spec_script.specs.Syntax.{Block}
use Rattle.spec_script.specs.Trees.{Tree, Word, Number, Branch, Trees, Nil, And, place_of}
use Rattle.law_script.proofs.Trees.Steps.{same_Ok, err-ok, both_gave}
use Rattle.law_script.specs.Scripts.Readings.{SharedScriptsHaveNoMockedForm}
use Rattle.law_script.specs.Scripts.Sharing.{IsSharedBlock, IsSharedDeclaration, IsShared}
use Rattle.law_script.proofs.Scripts.Lists.{found_passes, none_passes, each_more}
use Rattle.law_script.proofs.Scripts.FormedItems.{entries_keep, steps_keep, workers_keep}
use Rattle.law_script.proofs.Scripts.FormedOperands.{interned_keeps, number_keeps}
use Rattle.law_script.proofs.Scripts.SharedStatements.{IsPlain, Shares, mark_holds, block_is_shared, statements_are_shared}
use Rattle.law_script.proofs.Scripts.FormedSteps.{given, refused, going_on, past, met, weaker, one_form_brings}

-- ## Declarations

abbrev is_mocked : Kind → Bool
is_mocked FlowKind = true
is_mocked DirectoryKind = true
is_mocked kind = false

plain_kind : (word : List ℕ) (form : DeclarationForm) → declaration_form_of word ≡ Some form → form.mocked ≡ false → is_mocked form.kind ≡ false
plain_kind word form e plain =
    mark_holds (is_mocked form.kind) form.mocked
    (found_passes (λ form. not (is_mocked form.kind) || form.mocked) (λ form. bytes_eq form.word word) declaration_forms form refl e) plain

-- a shared declaration, where its kind isn't one for the mocked domain alone
abbrev IsOfKind : Kind → Declaration → Type 0
IsOfKind kind it = is_mocked kind ≡ false → IsSharedDeclaration it

items_are : (kind : Kind) (bodies : ℕ) (row : Trees) → IfSome (items_of kind bodies row) (Shares (IsOfKind kind))
items_are StreamKind bodies (And capacity Nil) = past (number_keeps capacities capacity) λ n. given (Stream n) (λ plain. tt)
items_are PromiseKind bodies Nil = given Promise (λ plain. tt)
items_are SemaphoreKind bodies (And count Nil) = past (number_keeps counts count) λ n. given (Semaphore n) (λ plain. tt)
items_are MutexKind bodies Nil = given Mutex (λ plain. tt)
items_are PoolKind bodies (And size Nil) = past (number_keeps sizes size) λ n. given (Pool n) (λ plain. tt)
items_are ExecutorKind bodies (And first row) = past (workers_keep bodies 0 (And first row)) λ these. given (Executor these) (λ plain. tt)
items_are FlowKind bodies row = past (steps_keep row) λ these. given (Flow these) (λ plain. absurd (false≢true (sym plain)))
items_are DirectoryKind bodies row = past (entries_keep [] row) λ these. given (Dir these) (λ plain. absurd (false≢true (sym plain)))
items_are kind bodies row = tt

abbrev AreShared : Declared → Type 0
AreShared so_far = Each IsSharedDeclaration so_far.declarations

-- what is declared then is shared, where what was declared before is
abbrev StayShared : (before more : Declared) → Type 0
StayShared before more = AreShared before → AreShared more

declare_shares : (before : Declared) (kind : Kind) (name : Tree) (items : Reads Declaration) → Shares (IsOfKind kind) items
    → Shares (λ more. is_mocked kind ≡ false → StayShared before more) (declare before kind name items)
declare_shares before kind (Word at name) items items_are =
    met (is_none (named_in before.scope name)) (Twice at)
    (past (interned_keeps name) λ id. going_on items_are λ it.
    given (with_declaration before kind name id it) (λ own plain are. each_more IsSharedDeclaration before.declarations (it ∷ []) are (own plain, tt)))
declare_shares before kind tree items items_are = refused (Shape (place_of tree))

declaration_by_shares : (limits : Limits) (before : Declared) (at : ℕ) (form : DeclarationForm) → (form.mocked ≡ false → is_mocked form.kind ≡ false) → (name : Tree) (items : Option (Reads Declaration))
    → IfSome items (Shares (IsOfKind form.kind)) → Shares (StayShared before) (declaration_by limits before at form name items)
declaration_by_shares limits before at form marked name None own = refused (Shape at)
declaration_by_shares limits before at form marked name (Some items) own =
    met (nat_lt (length before.declarations) limits.declarations) (Size at)
    (going_on (one_form_brings at form.feature form.mocked) λ _. weaker (λ more stays plain. stays (marked plain)) (declare_shares before form.kind name items own))

declaration_shares : (limits : Limits) (bodies : ℕ) (before : Declared) (tree : Tree) → Shares (StayShared before) (declaration limits bodies before tree)
unfolding declaration
declaration_shares limits bodies before (Branch at (And (Word place word) (And name items))) = by (declaration_form_of word) refl
  where
    by : (found : Option DeclarationForm) → declaration_form_of word ≡ found → Shares (StayShared before) (elim found [
      | None ↦ refuses (Shape at)
      | Some form ↦ declaration_by limits before at form name (items_of form.kind bodies items)
    ])
    by None e = refused (Shape at)
    by (Some form) e = declaration_by_shares limits before at form (plain_kind word form e) name (items_of form.kind bodies items) (items_are form.kind bodies items)
declaration_shares limits bodies before tree = refused (Shape (place_of tree))

declarations_share : (limits : Limits) (bodies : ℕ) (before : Declared) (row : Trees) → Shares (StayShared before) (declarations_behind limits bodies before row)
unfolding declarations_behind
declarations_share limits bodies before Nil = given before (λ are. are)
declarations_share limits bodies before (And tree row) =
    going_on (declaration_shares limits bodies before tree) λ more. weaker (λ last rest first are. rest (first are)) (declarations_share limits bodies more row)

-- ## Bodies

body_is_shared : (declared : Declared) (items : Trees) → Shares IsSharedBlock (body declared items)
body_is_shared declared items = block_is_shared (statements (body_scope declared) items) (statements_are_shared (body_scope declared) items)

domains_are_shared : (limits : Limits) (declared : Declared) (n : ℕ) (row : Trees) → Shares (Each IsSharedBlock) (domains limits declared n row)
unfolding domains
domains_are_shared limits declared n Nil = given [] tt
domains_are_shared limits declared n (And tree row) = by (items_behind (codes "domain") tree) (domains_are_shared limits declared (n + 1) row)
  where
    by : (found : Option Trees) → Shares (Each IsSharedBlock) (domains limits declared (n + 1) row) → Shares (Each IsSharedBlock) (elim found [
      | None ↦ refuses (Shape (place_of tree))
      | Some items ↦
          (requires_that (nat_lt n limits.bodies) (Size (place_of tree)) >>> λ _.
          body declared items >>> λ first.
          domains limits declared (n + 1) row >>> λ others.
          gives (first ∷ others))
    ])
    by None rest = refused (Shape (place_of tree))
    by (Some items) rest =
        met (nat_lt n limits.bodies) (Size (place_of tree)) (going_on (body_is_shared declared items) λ first. going_on rest λ others. given (first ∷ others) (λ others_shared own. (own, others_shared)))

-- ## Scripts

abbrev ArePartsShared : Declared × List Block → Type 0
ArePartsShared read = AreShared read.0 × Each IsSharedBlock read.1

parts_are_shared : (limits : Limits) (parts : Parts) → Shares ArePartsShared (read_parts limits parts)
parts_are_shared limits parts =
    going_on (declarations_share limits (bodies_of parts) nothing_declared parts.before) λ declared.
    going_on (body_is_shared declared parts.main) λ main.
    going_on (domains_are_shared limits declared 1 parts.behind) λ others.
    given (declared, main ∷ others) (λ others_shared main_shared stay. (stay tt, (main_shared, others_shared)))

-- no form of the script is for the mocked domain alone
abbrev HasPlainForms : Script → Type 0
HasPlainForms script = Each IsPlain script.formed → IsShared script

parts_make_shared : (version : ℕ) (parts : Parts) (script : Script) → script_of_parts version parts ≡ Ok script → HasPlainForms script
parts_make_shared version parts script e =
    let both = both_gave (read_parts (limits_of version) parts nothing_made) (λ found. Ok (script_by version parts found.0.0 found.0.1 found.1)) script e in
    let found = both.0 in
    subst HasPlainForms (same_Ok _ _ both.2) (λ plain.
    let shared = (parts_are_shared (limits_of version) parts).holds nothing_made found both.1 plain in
    record {
      declarations = All-from_recursion IsSharedDeclaration found.0.0.declarations shared.1.0;
      bodies = All-from_recursion IsSharedBlock found.0.1 shared.1.1;
    })

root_is_shared : (at : ℕ) (row : Trees) (script : Script) → root_of at row ≡ Ok script → HasPlainForms script
root_is_shared at (And (Number place number) row) script e = by (parts_of row) e
  where
    by_version : (parts : Parts) (found : Option ℕ)
        → ◌≡◌ {A = Result Script ScriptFault} (elim found [ None ↦ Err (Shape place) | Some version ↦ script_of_parts version parts ]) (Ok script) → HasPlainForms script
    by_version parts (Some version) e = parts_make_shared version parts script e
    by_version parts None e = absurd (err-ok _ _ e)

    by : (found : Option Parts) → ◌≡◌ {A = Result Script ScriptFault} (elim found [
      | None ↦ Err (Shape at)
      | Some parts ↦ elim (version_of number) [ None ↦ Err (Shape place) | Some version ↦ script_of_parts version parts ]
    ]) (Ok script) → HasPlainForms script
    by None e = absurd (err-ok _ _ e)
    by (Some parts) e = by_version parts (version_of number) e
root_is_shared at row script e = absurd (err-ok _ _ e)

pub shared_scripts : SharedScriptsHaveNoMockedForm
unfolding script_of
shared_scripts tree script e none = by (items_behind (codes "eio") tree) e (none_passes (λ it. it.at) (λ it. it.mocked) script.formed none)
  where
    by : (found : Option Trees) → ◌≡◌ {A = Result Script ScriptFault} (elim found [
      | None ↦ Err (Shape (place_of tree))
      | Some items ↦ root_of (place_of tree) items
    ]) (Ok script) → HasPlainForms script
    by None e = absurd (err-ok _ _ e)
    by (Some items) e = root_is_shared (place_of tree) items script e
