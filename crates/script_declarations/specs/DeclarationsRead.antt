-- The declarations of the code as those of the definitions, and where they end.
use Rattle.std.specs.Prelude.{◌≡◌, ℕ, ◌≤◌, ◌==◌, nat_le, nat_lt, Bool, true, false, ◌&&◌, ℤ, pos, negsuc, List, length, map, Some, None, is_some, codes}
use Rattle.spec_script.specs.declared.Feature.{Feature}
use Rattle.spec_script.specs.Limits.{most_workers}
use Rattle.spec_script.specs.Trees.{Tree, Trees, Nil, And}
use Rattle.spec_script.specs.Faults.{Shape, Size}
use Rattle.spec_script.specs.Kinds.{Kind}
use Rattle.spec_script.specs.Reads.{Reads, ◌>>>◌, gives, refuses, requires_that}
use Rattle.spec_script.specs.Scripts.{items_behind}
use Rattle.spec_script.specs.Declarations as declarations
use Rattle.spec_script.specs.Declarations.{Declaration, DeclarationForm, declaration_form}
use Rattle.script_tree.specs.Pieces.{Piece}
use Rattle.script_draft.specs.Ahead.{ahead, around}
use Rattle.script_forms.specs.Declaring.{declaration_of}
use Rattle.script_draft.specs.Names.{kind_of, named_of}
use Rattle.script_declarations.specs.declared.declarations.Declared.{Declared}
use Rattle.script_declarations.specs.declared.declarations.Object.{Object}
use Rattle.script_declarations.specs.declared.declarations.Object.TheVariants as object
use Rattle.script_draft.specs.declared.kind.Kind.{Kind as KindRead}
use Rattle.script_draft.specs.declared.kind.Kind.TheVariants as kind
use Rattle.spec_script.specs.declared.Feature.TheVariants as feature

abbrev pub declared_of : Declared → declarations.Declared
declared_of it = record { names = it.names.items; declarations = map declaration_of it.declarations.items; scope = map named_of it.scope.items }

-- ## What is declared

abbrev pub kind_in : Object → KindRead
kind_in object.Stream = kind.Stream
kind_in object.Promise = kind.Promise
kind_in object.Semaphore = kind.Semaphore
kind_in object.Mutex = kind.Mutex
kind_in object.Pool = kind.Pool
kind_in object.Executor = kind.Executor
kind_in object.Flow = kind.Flow
kind_in object.Dir = kind.Directory

abbrev pub mocked_in : Object → Bool
mocked_in object.Flow = true
mocked_in object.Dir = true
mocked_in other = false

abbrev pub feature_in : Object → Feature
feature_in object.Stream = feature.StreamsAndPromises
feature_in object.Promise = feature.StreamsAndPromises
feature_in object.Semaphore = feature.Resources
feature_in object.Mutex = feature.Resources
feature_in object.Pool = feature.Resources
feature_in object.Executor = feature.Executors
feature_in object.Flow = feature.Flows
feature_in object.Dir = feature.Paths

abbrev pub word_in : Object → List ℕ
word_in object.Stream = codes "stream"
word_in object.Promise = codes "promise"
word_in object.Semaphore = codes "semaphore"
word_in object.Mutex = codes "mutex"
word_in object.Pool = codes "pool"
word_in object.Executor = codes "executor"
word_in object.Flow = codes "flow"
word_in object.Dir = codes "dir"

-- the definitions' form of what is declared
abbrev pub form_of : Object → DeclarationForm
form_of it = declaration_form (word_in it) (kind_of (kind_in it)) (mocked_in it) (feature_in it)

-- whether a declaration has that many items behind its word, its name among them
abbrev pub takes : Object → (count : ℕ) → Bool
takes object.Stream count = count == 2
takes object.Promise count = count == 1
takes object.Semaphore count = count == 2
takes object.Mutex count = count == 1
takes object.Pool count = count == 2
takes object.Executor count = nat_le 2 count
takes object.Flow count = nat_le 1 count
takes object.Dir count = nat_le 1 count

-- ## Steps of one declaration

-- the items behind a name
abbrev pub items_read : Kind → (bodies : ℕ) → Trees → Reads Declaration
items_read kind bodies items = elim (declarations.items_of kind bodies items) [ Some read ↦ read | None ↦ refuses (Shape 0) ]

-- a worker of this number, of which so many came before
abbrev pub worker_read : (bodies n : ℕ) → (at : ℕ) → ℤ → Reads ℕ
worker_read bodies n at (pos body) = requires_that (nat_lt n most_workers && nat_lt body bodies) (Size at) >>> λ _. gives body
worker_read bodies n at (negsuc z) = refuses (Size at)

-- a name and the items behind it
abbrev pub named_read : Kind → (bodies : ℕ) → declarations.Declared → Trees → Reads declarations.Declared
named_read kind bodies before Nil = refuses (Shape 0)
named_read kind bodies before (And name items) = declarations.declare before kind name (items_read kind bodies items)

-- ## Where the declarations end

abbrev pub is_main : Tree → Bool
is_main tree = is_some (items_behind (codes "main") tree)

-- no declaration comes next
abbrev pub ends : Trees → Bool
ends Nil = true
ends (And tree row) = is_main tree

-- the trees before the first list that begins with `main`
unfoldable pub before_main : Trees → Trees
before_main Nil = Nil
before_main (And tree row) = elim (is_main tree) [ true ↦ Nil | false ↦ And tree (before_main row) ]

-- that list and the trees behind it
unfoldable pub from_main : Trees → Trees
from_main Nil = Nil
from_main (And tree row) = elim (is_main tree) [ true ↦ And tree row | false ↦ from_main row ]

-- all trees before the first `main` were passed
pub record IsAtMain (old new : List Piece) : Type 0 where
  pub trees : ahead new ≡ from_main (ahead old)
  pub around : around new ≡ around old
  pub fewer : length new ≤ length old
