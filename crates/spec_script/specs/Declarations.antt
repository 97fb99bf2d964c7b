-- The declarations that trees stand for, in order.
use Rattle.std.specs.Prelude.{ℕ, ◌+◌, Bool, true, false, ◌&&◌, nat_lt, List, [], ◌∷◌, ◌++◌, length, pos, negsuc, Option, Some, None, is_none, codes}
use Rattle.std.specs.List.{find}
use Rattle.std.specs.Str.{bytes_eq}
use Rattle.eio_value.specs.declared.value.TextId.{TextId}
use Rattle.eio_value.specs.declared.flow_step.FlowStep.{FlowStep}
use Rattle.eio_value.specs.Directory.{Directory}
use Rattle.spec_script.specs.declared.Feature.{Feature}
use Rattle.spec_script.specs.declared.Feature.TheVariants.{StreamsAndPromises, Resources, Flows, Paths, Executors}
use Rattle.spec_script.specs.declared.Limits.{Limits}
use Rattle.spec_script.specs.Limits.{most_workers, capacities, counts, sizes}
use Rattle.spec_script.specs.Trees.{Tree, Word, Number, Branch, Trees, Nil, And, place_of}
use Rattle.spec_script.specs.Faults.{Shape, Size, Twice}
use Rattle.spec_script.specs.Kinds.{Kind, StreamKind, PromiseKind, SemaphoreKind, MutexKind, PoolKind, ExecutorKind, FlowKind, DirectoryKind}
use Rattle.spec_script.specs.Reads.{Reads, ◌>>>◌, gives, refuses, requires_that, one_form, interned, number_within}
use Rattle.spec_script.specs.Scopes.{Named, named_in}
use Rattle.spec_script.specs.FlowSteps.{steps}
use Rattle.spec_script.specs.Entries.{entries}

pub data Declaration : Type 0 where
  Stream : (capacity : ℕ) → Declaration
  Promise : Declaration
  Semaphore : (count : ℕ) → Declaration
  Mutex : Declaration
  Pool : (size : ℕ) → Declaration
  Executor : (workers : List ℕ) → Declaration
  Flow : List FlowStep → Declaration
  Dir : Directory → Declaration

-- ## Words

-- the word of a declaration, what its name stands for, whether it is for the mocked domain alone, and the feature that brings it
pub record DeclarationForm : Type 0 where
  pub word : List ℕ
  pub kind : Kind
  pub mocked : Bool
  pub feature : Feature

abbrev pub declaration_form : List ℕ → Kind → (mocked : Bool) → Feature → DeclarationForm
declaration_form word kind mocked feature = record { word = word; kind = kind; mocked = mocked; feature = feature }

abbrev pub declaration_forms : List DeclarationForm
declaration_forms =
    declaration_form (codes "stream") StreamKind false StreamsAndPromises
    ∷ declaration_form (codes "promise") PromiseKind false StreamsAndPromises
    ∷ declaration_form (codes "semaphore") SemaphoreKind false Resources
    ∷ declaration_form (codes "mutex") MutexKind false Resources
    ∷ declaration_form (codes "pool") PoolKind false Resources
    ∷ declaration_form (codes "executor") ExecutorKind false Executors
    ∷ declaration_form (codes "flow") FlowKind true Flows
    ∷ declaration_form (codes "dir") DirectoryKind true Paths ∷ []

abbrev pub declaration_form_of : List ℕ → Option DeclarationForm
declaration_form_of word = find (λ form. bytes_eq form.word word) declaration_forms

-- ## Items

-- workers, of which n came before: each names one of the script's bodies
unfoldable pub workers : (bodies n : ℕ) → Trees → Reads (List ℕ)
workers bodies n Nil = gives []
workers bodies n (And (Number at (pos body)) row) =
    requires_that (nat_lt n most_workers && nat_lt body bodies) (Size at) >>> λ _. workers bodies (n + 1) row >>> λ others. gives (body ∷ others)
workers bodies n (And (Number at (negsuc z)) row) = refuses (Size at)
workers bodies n (And tree row) = refuses (Shape (place_of tree))

-- how the items behind a name are read; none where a declaration of that kind has another number of them
abbrev pub items_of : Kind → (bodies : ℕ) → Trees → Option (Reads Declaration)
items_of StreamKind bodies (And capacity Nil) = Some (number_within capacities capacity >>> λ n. gives (Stream n))
items_of PromiseKind bodies Nil = Some (gives Promise)
items_of SemaphoreKind bodies (And count Nil) = Some (number_within counts count >>> λ n. gives (Semaphore n))
items_of MutexKind bodies Nil = Some (gives Mutex)
items_of PoolKind bodies (And size Nil) = Some (number_within sizes size >>> λ n. gives (Pool n))
items_of ExecutorKind bodies (And first row) = Some (workers bodies 0 (And first row) >>> λ these. gives (Executor these))
items_of FlowKind bodies row = Some (steps row >>> λ these. gives (Flow these))
items_of DirectoryKind bodies row = Some (entries [] row >>> λ these. gives (Dir these))
items_of kind bodies row = None

-- ## Declarations

-- the declarations so far: their names in the table, themselves, and their names in scope
pub record Declared : Type 0 where
  pub names : List TextId
  pub declarations : List Declaration
  pub scope : List Named

abbrev pub nothing_declared : Declared
nothing_declared = record { names = []; declarations = []; scope = [] }

abbrev pub with_declaration : Declared → Kind → List ℕ → TextId → Declaration → Declared
with_declaration before kind name id it = record {
  names = before.names ++ id ∷ [];
  declarations = before.declarations ++ it ∷ [];
  scope = before.scope ++ record { name = name; kind = kind; number = length before.declarations } ∷ [];
}

-- a declaration of this name, whose items are read so
abbrev pub declare : Declared → Kind → Tree → Reads Declaration → Reads Declared
declare before kind (Word at name) items =
    requires_that (is_none (named_in before.scope name)) (Twice at) >>> λ _.
    interned name >>> λ id. items >>> λ it. gives (with_declaration before kind name id it)
declare before kind tree items = refuses (Shape (place_of tree))

-- a declaration by its form
abbrev pub declaration_by : Limits → Declared → (at : ℕ) → DeclarationForm → Tree → Option (Reads Declaration) → Reads Declared
declaration_by limits before at form name None = refuses (Shape at)
declaration_by limits before at form name (Some items) =
    requires_that (nat_lt (length before.declarations) limits.declarations) (Size at) >>> λ _. one_form at form.feature form.mocked >>> λ _.
    declare before form.kind name items

unfoldable pub declaration : Limits → (bodies : ℕ) → Declared → Tree → Reads Declared
declaration limits bodies before (Branch at (And (Word place word) (And name items))) = elim (declaration_form_of word) [
  | None ↦ refuses (Shape at)
  | Some form ↦ declaration_by limits before at form name (items_of form.kind bodies items)
]
declaration limits bodies before tree = refuses (Shape (place_of tree))

unfoldable pub declarations_behind : Limits → (bodies : ℕ) → Declared → Trees → Reads Declared
declarations_behind limits bodies before Nil = gives before
declarations_behind limits bodies before (And tree row) = declaration limits bodies before tree >>> λ more. declarations_behind limits bodies more row
