-- Names: what is in scope, how a name comes into scope, and what a used name stands for.
-- A name of a block comes into scope for the rest of its block. It may hide a variable, which is then out of scope and isn't counted;
-- any other name that is in scope already is refused as Twice. The number of names in scope, those of declarations aside, has a limit,
-- which is asked before Twice is.
use Rattle.std.specs.Prelude.{ℕ, ◌+◌, Bool, true, false, nat_lt, not, List, ◌∷◌, length, filter, Option, Some, None, is_none}
use Rattle.std.specs.List.{find}
use Rattle.std.specs.Option.{option_or}
use Rattle.std.specs.Str.{bytes_eq}
use Rattle.spec_script.specs.Limits.{most_names}
use Rattle.spec_script.specs.Trees.{Tree, Word, place_of}
use Rattle.spec_script.specs.Faults.{Shape, Size, Twice, Name}
use Rattle.spec_script.specs.Syntax.{Directory, Declared, Opened}
use Rattle.spec_script.specs.Kinds.{Kind, VariableKind, CapabilityKind, DirectoryKind, is_same_kind}
use Rattle.spec_script.specs.Reads.{Reads, ◌>>>◌, gives, refuses, requires_that}

-- a name, what it stands for, and the number of its slot or of its declaration
pub record Named : Type 0 where
  pub name : List ℕ
  pub kind : Kind
  pub number : ℕ

-- the names of blocks that are in scope, the slot of the next one, and the names of declarations
pub record Scope : Type 0 where
  pub names : List Named
  pub next : ℕ
  pub declared : List Named

abbrev pub named_in : List Named → List ℕ → Option Named
named_in names name = find (λ it. bytes_eq it.name name) names

-- what a name stands for here. No name is one of a block and one of a declaration too
abbrev pub named : Scope → List ℕ → Option Named
named scope name = option_or (named_in scope.names name) (named_in scope.declared name)

-- ## New names

-- the scope with one name more, which hides a variable of that name
abbrev pub with_name : Kind → List ℕ → Scope → Scope
with_name kind name scope = record scope {
  names = record { name = name; kind = kind; number = scope.next } ∷ filter (λ it. not (bytes_eq it.name name)) scope.names;
  next = scope.next + 1;
}

abbrev pub is_variable : Option Named → Bool
is_variable (Some it) = is_same_kind it.kind VariableKind
is_variable None = false

-- a new name of a block, by what it stands for before
abbrev pub bring_by : Kind → Scope → (at : ℕ) → List ℕ → Option Named → Reads Scope
bring_by kind scope at name before = elim (is_variable before) [
  | true ↦ gives (with_name kind name scope)
  | false ↦
      (requires_that (nat_lt (length scope.names) most_names) (Size at) >>> λ _.
      requires_that (is_none before) (Twice at) >>> λ _.
      gives (with_name kind name scope))
]

unfoldable pub bring : Kind → Scope → Tree → Reads Scope
bring kind scope (Word at name) = bring_by kind scope at name (named scope name)
bring kind scope tree = refuses (Shape (place_of tree))

-- ## Used names

abbrev pub used_by : Kind → (at : ℕ) → Option Named → Reads ℕ
used_by kind at None = refuses (Name at)
used_by kind at (Some it) = requires_that (is_same_kind it.kind kind) (Name at) >>> λ _. gives it.number

-- the slot, or the declaration's number, of a name in scope that stands for this kind
unfoldable pub used : Kind → Scope → Tree → Reads ℕ
used kind scope (Word at name) = used_by kind at (named scope name)
used kind scope tree = refuses (Shape (place_of tree))

abbrev pub directory_by : (at : ℕ) → Option Named → Reads Directory
directory_by at None = refuses (Name at)
directory_by at (Some it) = elim it.kind [
  | CapabilityKind ↦ gives (Opened it.number)
  | DirectoryKind ↦ gives (Declared it.number)
  | _ ↦ refuses (Name at)
]

-- the directory of a name: a capability's, or a declared one
unfoldable pub directory_of : Scope → Tree → Reads Directory
directory_of scope (Word at name) = directory_by at (named scope name)
directory_of scope tree = refuses (Shape (place_of tree))
