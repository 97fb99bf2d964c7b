-- The script that a tree stands for: `(eio VERSION DECLARATION* (main STATEMENT*) (domain STATEMENT*)*)`, or its first refused node.
use Rattle.std.specs.Prelude.{ℕ, ◌+◌, true, false, ◌==◌, nat_lt, List, [], ◌∷◌, ℤ, pos, negsuc, Option, Some, None, is_some, option_map, Result, Ok, Err, codes}
use Rattle.std.specs.Str.{bytes_eq}
use Rattle.eio_value.specs.declared.value.TextId.{TextId}
use Rattle.spec_script.specs.declared.Limits.{Limits}
use Rattle.spec_script.specs.Limits.{limits_of}
use Rattle.spec_script.specs.Trees.{Tree, Word, Number, Branch, Trees, Nil, And, place_of}
use Rattle.spec_script.specs.Faults.{ScriptFault, Shape, Size}
use Rattle.spec_script.specs.Results.{◌>>=◌}
use Rattle.spec_script.specs.Syntax.{Block}
use Rattle.spec_script.specs.Reads.{Formed, Made, nothing_made, Reads, ◌>>>◌, gives, refuses, requires_that}
use Rattle.spec_script.specs.Scopes.{Scope}
use Rattle.spec_script.specs.Statements.{statements, block_of}
use Rattle.spec_script.specs.Declarations.{Declaration, Declared, nothing_declared, declarations_behind}

-- the version of the notation, the declarations with their names, the bodies with main first, the table of texts so far, the texts with which a fiber may fail, the
-- forms in reading order, and the place of the first `domain` if there is one
pub record Script : Type 0 where
  pub version : ℕ
  pub names : List TextId
  pub declarations : List Declaration
  pub bodies : List Block
  pub texts : List (List ℕ)
  pub failures : List TextId
  pub formed : List Formed
  pub first_domain : Option ℕ

-- ## The parts of a root

-- the items behind a word, where the tree is a list that begins with it
abbrev pub items_behind : List ℕ → Tree → Option Trees
items_behind word (Branch at (And (Word place head) items)) = elim (bytes_eq head word) [ true ↦ Some items | false ↦ None ]
items_behind word tree = None

-- what stands before the first `main`, the statements of that `main`, and what stands behind it
pub record Parts : Type 0 where
  pub before : Trees
  pub main : Trees
  pub behind : Trees

abbrev pub with_first : Tree → Parts → Parts
with_first tree parts = record parts { before = And tree parts.before }

abbrev pub parts_of : Trees → Option Parts
parts_of Nil = None
parts_of (And tree row) = elim (items_behind (codes "main") tree) [
  | Some items ↦ Some (record { before = Nil; main = items; behind = row })
  | None ↦ option_map (with_first tree) (parts_of row)
]

abbrev pub domains_in : Trees → ℕ
domains_in Nil = 0
domains_in (And tree row) = elim (is_some (items_behind (codes "domain") tree)) [ true ↦ domains_in row + 1 | false ↦ domains_in row ]

-- how many bodies a worker may name: main, and each list headed `domain` behind it, whether it is sound or not
abbrev pub bodies_of : Parts → ℕ
bodies_of parts = domains_in parts.behind + 1

-- ## Bodies

-- a body sees the declarations alone
abbrev pub body_scope : Declared → Scope
body_scope declared = record { names = []; next = 0; declared = declared.scope }

abbrev pub body : Declared → Trees → Reads Block
body declared items = block_of (statements (body_scope declared) items)

-- the bodies behind main, of which n came before with it
unfoldable pub domains : Limits → Declared → (n : ℕ) → Trees → Reads (List Block)
domains limits declared n Nil = gives []
domains limits declared n (And tree row) = elim (items_behind (codes "domain") tree) [
  | None ↦ refuses (Shape (place_of tree))
  | Some items ↦
      (requires_that (nat_lt n limits.bodies) (Size (place_of tree)) >>> λ _.
      body declared items >>> λ first.
      domains limits declared (n + 1) row >>> λ others.
      gives (first ∷ others))
]

-- ## Scripts

-- the declarations and bodies of these parts
abbrev pub read_parts : Limits → Parts → Reads (Declared × List Block)
read_parts limits parts =
    declarations_behind limits (bodies_of parts) nothing_declared parts.before >>> λ declared.
    body declared parts.main >>> λ main.
    domains limits declared 1 parts.behind >>> λ others.
    gives (declared, main ∷ others)

-- the place of the first tree; behind the main of a script stand further bodies alone
abbrev pub first_place : Trees → Option ℕ
first_place Nil = None
first_place (And tree row) = Some (place_of tree)

abbrev pub script_by : (version : ℕ) → Parts → Declared → List Block → Made → Script
script_by version parts declared bodies made = record {
  version = version;
  names = declared.names;
  declarations = declared.declarations;
  bodies = bodies;
  texts = made.texts;
  failures = made.failures;
  formed = made.formed;
  first_domain = first_place parts.behind;
}

abbrev pub script_of_parts : (version : ℕ) → Parts → Result Script ScriptFault
script_of_parts version parts = read_parts (limits_of version) parts nothing_made >>= λ found. Ok (script_by version parts found.0.0 found.0.1 found.1)

-- the version that a number stands for: 1 is the only one that is read
abbrev pub version_of : ℤ → Option ℕ
version_of (pos n) = elim (n == 1) [ true ↦ Some n | false ↦ None ]
version_of (negsuc n) = None

-- the root's items behind `eio`. A root without a version or a `main` is refused, and then a number that stands for no version
abbrev pub root_of : (at : ℕ) → Trees → Result Script ScriptFault
root_of at (And (Number place number) row) = elim (parts_of row) [
  | None ↦ Err (Shape at)
  | Some parts ↦ elim (version_of number) [ None ↦ Err (Shape place) | Some version ↦ script_of_parts version parts ]
]
root_of at row = Err (Shape at)

unfoldable pub script_of : Tree → Result Script ScriptFault
script_of tree = elim (items_behind (codes "eio") tree) [ None ↦ Err (Shape (place_of tree)) | Some items ↦ root_of (place_of tree) items ]
