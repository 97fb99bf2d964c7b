-- Declarations that are read are sound, and their names in scope have their kinds.
use Rattle.std.proofs.Common.{◌≡◌, ℕ, ◌+◌, ◌<◌, ◌≤◌, false, ◌&&◌, List, [], ◌∷◌, ◌++◌, length, Option, Some, None, refl, sym, ap, ◌∙◌, subst, length-append, arith}
use Rattle.std.specs.Prelude.{slice_get, nat_lt, is_none, pos, negsuc, IfSome}
use Rattle.std.specs.List.{AllByRecursion as Each}
use Rattle.std.proofs.lemmas.Bool.{ltb-true, and_parts}
use Rattle.std.proofs.lemmas.List.{length-map, map-append}
use Rattle.std.proofs.lemmas.List.Elements.{All-from_recursion}
use Rattle.eio_value.specs.declared.value.TextId.{TextId}
use Rattle.spec_script.specs.Declarations.{Declaration, Stream, Promise, Semaphore, Mutex, Pool, Executor, Flow, Dir, DeclarationForm, declaration_form_of, workers, items_of, Declared, nothing_declared, with_declaration, declare, declaration_by, declaration, declarations_behind}
use Rattle.spec_script.specs.Entries.{entries}
use Rattle.spec_script.specs.Faults.{Shape, Size, Twice}
use Rattle.spec_script.specs.FlowSteps.{steps}
use Rattle.spec_script.specs.Kinds.{Kind, StreamKind, PromiseKind, SemaphoreKind, MutexKind, PoolKind, ExecutorKind, FlowKind, DirectoryKind}
use Rattle.spec_script.specs.declared.Limits.{Limits}
use Rattle.spec_script.specs.Limits.{most_workers, capacities, counts, sizes}
use Rattle.spec_script.specs.Reads.{Reads, refuses, one_form, interned}
use Rattle.spec_script.specs.Scopes.{Named, named_in}
use Rattle.spec_script.specs.Trees.{Tree, Word, Number, Branch, Trees, Nil, And, place_of}
use Rattle.law_script.specs.Scripts.Soundness.{is_of_block, kind_of, kinds_of, IsSoundDeclaration}
use Rattle.law_script.proofs.Scripts.Lists.{each_more, each_so, stays_at, stands_last}
use Rattle.law_script.proofs.Scripts.Names.{IsDeclared}
use Rattle.law_script.proofs.Scripts.Statements.{number_is_in}
use Rattle.law_script.proofs.Scripts.Steps.{Gives, given, refused, going_on, past, met}

-- ## Items

-- workers, and those before them are as many as may be at most; there are as many as are listed
abbrev AreWorkers : (bodies before : ℕ) → Trees → List ℕ → Type 0
AreWorkers bodies before row these = (length these + before ≤ most_workers) × Each (λ body. body < bodies) these

workers_are : (bodies n : ℕ) → n ≤ most_workers → (row : Trees) → Gives (AreWorkers bodies n row) (workers bodies n row)
unfolding workers
workers_are bodies n few Nil = given [] (omega (arith, few), tt)
workers_are bodies n few (And (Number at (pos body)) row) =
    met (nat_lt n most_workers && nat_lt body bodies) (Size at) λ both.
    let parts = and_parts (nat_lt n most_workers) (nat_lt body bodies) both in
    let less : n < most_workers = ltb-true n most_workers parts.0 in
    let more : n + 1 ≤ most_workers = omega (arith, less) in
    going_on (workers_are bodies (n + 1) more row) λ others are.
    let count = are.0 in
    given (body ∷ others) (omega (arith, count), (ltb-true body bodies parts.1, are.1))
workers_are bodies n few (And (Number at (negsuc z)) row) = refused (Size at)
workers_are bodies n few (And tree row) = refused (Shape (place_of tree))

-- at least one, where at least one is listed
some_workers_are : (bodies : ℕ) (first : Tree) (row : Trees) → Gives (λ these. IsSoundDeclaration bodies (Executor these)) (workers bodies 0 (And first row))
unfolding workers
some_workers_are bodies (Number at (pos body)) row =
    met (nat_lt 0 most_workers && nat_lt body bodies) (Size at) λ both.
    let parts = and_parts (nat_lt 0 most_workers) (nat_lt body bodies) both in
    going_on (workers_are bodies 1 (omega arith) row) λ others are.
    let count = are.0 in
    given (body ∷ others) (omega arith, omega (arith, count), All-from_recursion (λ body. body < bodies) (body ∷ others) (ltb-true body bodies parts.1, are.1))
some_workers_are bodies (Number at (negsuc z)) row = refused (Size at)
some_workers_are bodies tree row = refused (Shape (place_of tree))

-- a sound declaration of this kind
abbrev IsOfKind : (bodies : ℕ) → Kind → Declaration → Type 0
IsOfKind bodies kind it = (kind_of it ≡ kind) × (is_of_block kind ≡ false) × IsSoundDeclaration bodies it

items_are : (kind : Kind) (bodies : ℕ) (row : Trees) → IfSome (items_of kind bodies row) (Gives (IsOfKind bodies kind))
items_are StreamKind bodies (And capacity Nil) = going_on (number_is_in capacities capacity) λ n is_in. given (Stream n) (refl, refl, is_in)
items_are PromiseKind bodies Nil = given Promise (refl, refl, tt)
items_are SemaphoreKind bodies (And count Nil) = going_on (number_is_in counts count) λ n is_in. given (Semaphore n) (refl, refl, is_in)
items_are MutexKind bodies Nil = given Mutex (refl, refl, tt)
items_are PoolKind bodies (And size Nil) = going_on (number_is_in sizes size) λ n is_in. given (Pool n) (refl, refl, is_in)
items_are ExecutorKind bodies (And first row) = going_on (some_workers_are bodies first row) λ these are. given (Executor these) (refl, refl, are)
items_are FlowKind bodies row = past (steps row) λ these. given (Flow these) (refl, refl, tt)
items_are DirectoryKind bodies row = past (entries [] row) λ these. given (Dir these) (refl, refl, tt)
items_are kind bodies row = tt

-- ## Declarations

-- the declarations so far
pub record AreDeclared (limits : Limits) (bodies : ℕ) (so_far : Declared) : Type 0 where
  pub names : length so_far.names ≡ length so_far.declarations
  pub few : length so_far.declarations ≤ limits.declarations
  pub sound : Each (IsSoundDeclaration bodies) so_far.declarations
  pub scope : Each (IsDeclared (kinds_of so_far.declarations)) so_far.scope

more_declared : (limits : Limits) (bodies : ℕ) (before : Declared) (kind : Kind) (name : List ℕ) (id : TextId) (it : Declaration) → AreDeclared limits bodies before
    → length before.declarations < limits.declarations → IsOfKind bodies kind it → AreDeclared limits bodies (with_declaration before kind name id it)
more_declared limits bodies before kind name id it are room own =
    let declarations = before.declarations in
    let longer : kinds_of (declarations ++ it ∷ []) ≡ kinds_of declarations ++ kind ∷ [] =
    map-append kind_of declarations (it ∷ []) ∙ ap (λ (k : Kind). kinds_of declarations ++ k ∷ []) own.0 in
    let name_sizes : length (before.names ++ id ∷ []) ≡ length before.names + 1 = length-append before.names (id ∷ []) in
    let sizes : length (declarations ++ it ∷ []) ≡ length declarations + 1 = length-append declarations (it ∷ []) in
    let count : length before.names ≡ length declarations = are.names in
    let new : Named = record { name = name; kind = kind; number = length declarations } in
    let stays : (x : Named) → IsDeclared (kinds_of declarations) x → IsDeclared (kinds_of declarations ++ kind ∷ []) x =
    λ x is. (is.0, stays_at (kinds_of declarations) (kind ∷ []) x.number x.kind is.1) in
    let own_place : slice_get (kinds_of declarations ++ kind ∷ []) (length declarations) ≡ Some kind =
    subst (λ (n : ℕ). slice_get (kinds_of declarations ++ kind ∷ []) n ≡ Some kind) (length-map declarations kind_of) (stands_last (kinds_of declarations) kind) in
    record {
      names = name_sizes ∙ (ap (λ (n : ℕ). n + 1) count ∙ sym sizes);
      few = omega (arith, sizes, room);
      sound = each_more (IsSoundDeclaration bodies) declarations (it ∷ []) are.sound (own.2, tt);
      scope = subst (λ (kinds : List Kind). Each (IsDeclared kinds) (before.scope ++ new ∷ [])) (sym longer)
          (each_more (IsDeclared (kinds_of declarations ++ kind ∷ [])) before.scope (new ∷ [])
          (each_so (IsDeclared (kinds_of declarations)) (IsDeclared (kinds_of declarations ++ kind ∷ [])) before.scope stays are.scope) ((own.1, own_place), tt));
    }

declared_is : (limits : Limits) (bodies : ℕ) (before : Declared) (kind : Kind) → AreDeclared limits bodies before → length before.declarations < limits.declarations
    → (name : Tree) (items : Reads Declaration) → Gives (IsOfKind bodies kind) items → Gives (AreDeclared limits bodies) (declare before kind name items)
declared_is limits bodies before kind are room (Word at name) items items_are =
    met (is_none (named_in before.scope name)) (Twice at) λ is_new. past (interned name) λ id.
    going_on items_are λ it own. given (with_declaration before kind name id it) (more_declared limits bodies before kind name id it are room own)
declared_is limits bodies before kind are room tree items items_are = refused (Shape (place_of tree))

declaration_by_is : (limits : Limits) (bodies : ℕ) (before : Declared) → AreDeclared limits bodies before → (at : ℕ) (form : DeclarationForm) (name : Tree) (items : Option (Reads Declaration))
    → IfSome items (Gives (IsOfKind bodies form.kind)) → Gives (AreDeclared limits bodies) (declaration_by limits before at form name items)
declaration_by_is limits bodies before are at form name None own = refused (Shape at)
declaration_by_is limits bodies before are at form name (Some items) own =
    met (nat_lt (length before.declarations) limits.declarations) (Size at) λ room. past (one_form at form.feature form.mocked) λ _.
    declared_is limits bodies before form.kind are (ltb-true (length before.declarations) limits.declarations room) name items own

declaration_is : (limits : Limits) (bodies : ℕ) (before : Declared) → AreDeclared limits bodies before → (tree : Tree) → Gives (AreDeclared limits bodies) (declaration limits bodies before tree)
unfolding declaration
declaration_is limits bodies before are (Branch at (And (Word place word) (And name items))) = by (declaration_form_of word)
  where
    by : (found : Option DeclarationForm) → Gives (AreDeclared limits bodies) (elim found [
      | None ↦ refuses (Shape at)
      | Some form ↦ declaration_by limits before at form name (items_of form.kind bodies items)
    ])
    by None = refused (Shape at)
    by (Some form) = declaration_by_is limits bodies before are at form name (items_of form.kind bodies items) (items_are form.kind bodies items)
declaration_is limits bodies before are tree = refused (Shape (place_of tree))

pub declarations_are : (limits : Limits) (bodies : ℕ) (before : Declared) → AreDeclared limits bodies before → (row : Trees) → Gives (AreDeclared limits bodies) (declarations_behind limits bodies before row)
unfolding declarations_behind
declarations_are limits bodies before are Nil = given before are
declarations_are limits bodies before are (And tree row) = going_on (declaration_is limits bodies before are tree) λ more more_are. declarations_are limits bodies more more_are row

pub none_declared : (limits : Limits) (bodies : ℕ) → AreDeclared limits bodies nothing_declared
none_declared limits bodies = record { names = refl; few = omega arith; sound = tt; scope = tt }
