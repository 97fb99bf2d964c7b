-- Scripts in which nothing is unbuilt have the forms of the features that are built alone (`built_features_alone`).
use Rattle.std.proofs.Common.{◌≡◌, ℕ, ◌+◌, Bool, true, false, List, [], ◌∷◌, length, Option, Some, None, Result, Ok, Err, refl, sym, subst}
use Rattle.std.specs.Prelude.{option_map, nat_lt, is_none, codes, not, IfSome}
use Rattle.std.specs.List.{find, AllByRecursion as Each}
use Rattle.std.proofs.lemmas.Bool.{false≢true}
use Rattle.std.proofs.lemmas.List.Elements.{All-from_recursion}
use Rattle.spec_script.specs.Declarations.{Declaration, Stream, Promise, Semaphore, Mutex, Pool, Executor, Flow, Dir, DeclarationForm, declaration_form_of, items_of, Declared, nothing_declared, with_declaration, declare, declaration_by, declaration, declarations_behind}
use Rattle.spec_script.specs.Faults.{ScriptFault, Shape, Size, Twice}
use Rattle.spec_script.specs.Features.{Built, is_built}
use Rattle.spec_script.specs.Kinds.{Kind, StreamKind, PromiseKind, SemaphoreKind, MutexKind, PoolKind, ExecutorKind, FlowKind, DirectoryKind}
use Rattle.spec_script.specs.declared.Limits.{Limits}
use Rattle.spec_script.specs.Limits.{limits_of, capacities, counts, sizes}
use Rattle.spec_script.specs.Reads.{Formed, nothing_made, Reads, ◌>>>◌, gives, refuses, requires_that}
use Rattle.spec_script.specs.Scopes.{named_in}
use Rattle.spec_script.specs.Scripts.{Script, items_behind, Parts, parts_of, bodies_of, body_scope, body, domains, read_parts, script_by, script_of_parts, version_of, root_of, script_of}
use Rattle.spec_script.specs.Statements.{statements}
use Rattle.spec_script.specs.Syntax.{Block}
use Rattle.spec_script.specs.Trees.{Tree, Word, Number, Branch, Trees, Nil, And, place_of}
use Rattle.law_script.proofs.Trees.Steps.{same_Ok, err-ok, both_gave}
use Rattle.law_script.proofs.Scripts.FormedItems.{entries_keep, steps_keep, workers_keep}
use Rattle.law_script.proofs.Scripts.FormedOperands.{interned_keeps, number_keeps}
use Rattle.law_script.proofs.Scripts.FormedSteps.{given, refused, going_on, past, met, weaker, one_form_brings}
use Rattle.law_script.proofs.Scripts.Lists.{none_passes, each_more, each_so}
use Rattle.law_domain.specs.Forms.FeatureForms.{declared_by, IsBlockOf, HasFormsOf}
use Rattle.law_domain.specs.Forms.Laws.{BuiltFeaturesAlone}
use Rattle.law_domain.proofs.Forms.Statements.{block_is_of, statements_are_of}
use Rattle.law_domain.proofs.Forms.Steps.{Finds, IsAmong, kind_feature, found_kind}

-- ## Declarations

-- a declaration of a feature that is built
abbrev pub IsDeclaredOf : Built → Declaration → Type 0
IsDeclaredOf built it = is_built built (declared_by it) ≡ true

-- the same, where the kind of its name is of such a one
abbrev IsOfKind : Built → Kind → Declaration → Type 0
IsOfKind built kind it = is_built built (kind_feature kind) ≡ true → IsDeclaredOf built it

items_are_of : (built : Built) (kind : Kind) (bodies : ℕ) (row : Trees) → IfSome (items_of kind bodies row) (Finds built (IsOfKind built kind))
items_are_of built StreamKind bodies (And capacity Nil) = past (number_keeps capacities capacity) λ n. given (Stream n) (λ is. is)
items_are_of built PromiseKind bodies Nil = given Promise (λ is. is)
items_are_of built SemaphoreKind bodies (And count Nil) = past (number_keeps counts count) λ n. given (Semaphore n) (λ is. is)
items_are_of built MutexKind bodies Nil = given Mutex (λ is. is)
items_are_of built PoolKind bodies (And size Nil) = past (number_keeps sizes size) λ n. given (Pool n) (λ is. is)
items_are_of built ExecutorKind bodies (And first row) = past (workers_keep bodies 0 (And first row)) λ these. given (Executor these) (λ is. is)
items_are_of built FlowKind bodies row = past (steps_keep row) λ these. given (Flow these) (λ is. is)
items_are_of built DirectoryKind bodies row = past (entries_keep [] row) λ these. given (Dir these) (λ is. is)
items_are_of built kind bodies row = tt

abbrev AreDeclared : Built → Declared → Type 0
AreDeclared built so_far = Each (IsDeclaredOf built) so_far.declarations

-- what is declared then is of such features, where what was declared before is
abbrev StayOf : Built → (before more : Declared) → Type 0
StayOf built before more = AreDeclared built before → AreDeclared built more

declare_stays : (built : Built) (before : Declared) (kind : Kind) (name : Tree) (items : Reads Declaration) → Finds built (IsOfKind built kind) items
    → Finds built (λ more. is_built built (kind_feature kind) ≡ true → StayOf built before more) (declare before kind name items)
declare_stays built before kind (Word at name) items own =
    met (is_none (named_in before.scope name)) (Twice at)
    (past (interned_keeps name) λ id. going_on own λ it.
    given (with_declaration before kind name id it) (λ is_of among are. each_more (IsDeclaredOf built) before.declarations (it ∷ []) are (is_of among, tt)))
declare_stays built before kind tree items own = refused (Shape (place_of tree))

declaration_by_stays : (built : Built) (limits : Limits) (before : Declared) (at : ℕ) (form : DeclarationForm) → (is_built built form.feature ≡ true → is_built built (kind_feature form.kind) ≡ true)
    → (name : Tree) (items : Option (Reads Declaration)) → IfSome items (Finds built (IsOfKind built form.kind)) → Finds built (StayOf built before) (declaration_by limits before at form name items)
declaration_by_stays built limits before at form same name None own = refused (Shape at)
declaration_by_stays built limits before at form same name (Some items) own =
    met (nat_lt (length before.declarations) limits.declarations) (Size at)
    (going_on (one_form_brings at form.feature form.mocked) λ _. weaker (λ more stays is. stays (same is)) (declare_stays built before form.kind name items own))

declaration_stays : (built : Built) (limits : Limits) (bodies : ℕ) (before : Declared) (tree : Tree) → Finds built (StayOf built before) (declaration limits bodies before tree)
unfolding declaration
declaration_stays built limits bodies before (Branch at (And (Word place word) (And name items))) = by (declaration_form_of word) refl
  where
    by : (found : Option DeclarationForm) → declaration_form_of word ≡ found → Finds built (StayOf built before) (elim found [
      | None ↦ refuses (Shape at)
      | Some form ↦ declaration_by limits before at form name (items_of form.kind bodies items)
    ])
    by None e = refused (Shape at)
    by (Some form) e = declaration_by_stays built limits before at form (found_kind built word form e) name (items_of form.kind bodies items) (items_are_of built form.kind bodies items)
declaration_stays built limits bodies before tree = refused (Shape (place_of tree))

declarations_stay : (built : Built) (limits : Limits) (bodies : ℕ) (before : Declared) (row : Trees) → Finds built (StayOf built before) (declarations_behind limits bodies before row)
unfolding declarations_behind
declarations_stay built limits bodies before Nil = given before (λ are. are)
declarations_stay built limits bodies before (And tree row) =
    going_on (declaration_stays built limits bodies before tree) λ more. weaker (λ last rest first are. rest (first are)) (declarations_stay built limits bodies more row)

-- ## Bodies

body_is_of : (built : Built) (declared : Declared) (items : Trees) → Finds built (IsBlockOf built) (body declared items)
body_is_of built declared items = block_is_of built (statements (body_scope declared) items) (statements_are_of built (body_scope declared) items)

domains_are_of : (built : Built) (limits : Limits) (declared : Declared) (n : ℕ) (row : Trees) → Finds built (Each (IsBlockOf built)) (domains limits declared n row)
unfolding domains
domains_are_of built limits declared n Nil = given [] tt
domains_are_of built limits declared n (And tree row) = by (items_behind (codes "domain") tree) (domains_are_of built limits declared (n + 1) row)
  where
    by : (found : Option Trees) → Finds built (Each (IsBlockOf built)) (domains limits declared (n + 1) row) → Finds built (Each (IsBlockOf built)) (elim found [
      | None ↦ refuses (Shape (place_of tree))
      | Some items ↦
          (requires_that (nat_lt n limits.bodies) (Size (place_of tree)) >>> λ _.
          body declared items >>> λ first.
          domains limits declared (n + 1) row >>> λ others.
          gives (first ∷ others))
    ])
    by None rest = refused (Shape (place_of tree))
    by (Some items) rest =
        met (nat_lt n limits.bodies) (Size (place_of tree)) (going_on (body_is_of built declared items) λ first. going_on rest λ others. given (first ∷ others) (λ behind own. (own, behind)))

-- ## Scripts

abbrev ArePartsOf : Built → Declared × List Block → Type 0
ArePartsOf built read = AreDeclared built read.0 × Each (IsBlockOf built) read.1

parts_are_of : (built : Built) (limits : Limits) (parts : Parts) → Finds built (ArePartsOf built) (read_parts limits parts)
parts_are_of built limits parts =
    going_on (declarations_stay built limits (bodies_of parts) nothing_declared parts.before) λ declared.
    going_on (body_is_of built declared parts.main) λ main.
    going_on (domains_are_of built limits declared 1 parts.behind) λ others.
    given (declared, main ∷ others) (λ behind own stay. (stay tt, (own, behind)))

-- the script has the forms of the list alone, where each of its forms is of a feature that is built
abbrev IsSo : Built → Script → Type 0
IsSo built script = Each (IsAmong built) script.formed → HasFormsOf built script

parts_make_such : (built : Built) (version : ℕ) (parts : Parts) (script : Script) → script_of_parts version parts ≡ Ok script → IsSo built script
parts_make_such built version parts script e =
    let both = both_gave (read_parts (limits_of version) parts nothing_made) (λ found. Ok (script_by version parts found.0.0 found.0.1 found.1)) script e in
    let found = both.0 in
    subst (IsSo built) (same_Ok _ _ both.2) (λ among.
    let are = (parts_are_of built (limits_of version) parts).holds nothing_made found both.1 among in
    record {
      declarations = All-from_recursion (IsDeclaredOf built) found.0.0.declarations are.1.0;
      bodies = All-from_recursion (IsBlockOf built) found.0.1 are.1.1;
    })

root_is_such : (built : Built) (at : ℕ) (row : Trees) (script : Script) → root_of at row ≡ Ok script → IsSo built script
root_is_such built at (And (Number place number) row) script e = by (parts_of row) e
  where
    by_version : (parts : Parts) (found : Option ℕ)
        → ◌≡◌ {A = Result Script ScriptFault} (elim found [ None ↦ Err (Shape place) | Some version ↦ script_of_parts version parts ]) (Ok script) → IsSo built script
    by_version parts (Some version) e = parts_make_such built version parts script e
    by_version parts None e = absurd (err-ok _ _ e)

    by : (found : Option Parts) → ◌≡◌ {A = Result Script ScriptFault} (elim found [
      | None ↦ Err (Shape at)
      | Some parts ↦ elim (version_of number) [ None ↦ Err (Shape place) | Some version ↦ script_of_parts version parts ]
    ]) (Ok script) → IsSo built script
    by None e = absurd (err-ok _ _ e)
    by (Some parts) e = by_version parts (version_of number) e
root_is_such built at row script e = absurd (err-ok _ _ e)

-- what isn't unbuilt is built
none_unbuilt : (built : Built) (formed : List Formed) → option_map (λ it. it.at) (find (λ it. not (is_built built it.feature)) formed) ≡ None → Each (IsAmong built) formed
none_unbuilt built formed none =
    each_so (λ it. not (is_built built it.feature) ≡ false) (IsAmong built) formed (λ it e. by (is_built built it.feature) e)
    (none_passes (λ it. it.at) (λ it. not (is_built built it.feature)) formed none)
  where
    by : (b : Bool) → not b ≡ false → b ≡ true
    by true e = refl
    by false e = absurd (false≢true (sym e))

pub built_features : BuiltFeaturesAlone
unfolding script_of
built_features built tree script e none = by (items_behind (codes "eio") tree) e (none_unbuilt built script.formed none)
  where
    by : (found : Option Trees) → ◌≡◌ {A = Result Script ScriptFault} (elim found [
      | None ↦ Err (Shape (place_of tree))
      | Some items ↦ root_of (place_of tree) items
    ]) (Ok script) → IsSo built script
    by None e = absurd (err-ok _ _ e)
    by (Some items) e = root_is_such built (place_of tree) items script e
