-- Numbers, names and what a job takes with it bring no text.
use Rattle.std.proofs.Common.{ℕ, Bool, true, false, ◌&&◌, List, [], ◌∷◌, ◌++◌, length, Option, Some, None}
use Rattle.std.specs.Prelude.{nat_le, nat_lt, is_none, pos, negsuc}
use Rattle.spec_script.specs.Captures.{captured_behind, captured}
use Rattle.spec_script.specs.Faults.{Shape, Size, Twice, Name}
use Rattle.spec_script.specs.Kinds.{Kind, VariableKind, CapabilityKind, DirectoryKind, is_same_kind}
use Rattle.spec_script.specs.Limits.{Range, most_names, most_captured}
use Rattle.spec_script.specs.Reads.{◌>>>◌, gives, refuses, requires_that, number_within}
use Rattle.spec_script.specs.Scopes.{Named, Scope, named_in, named, with_name, is_variable, bring, used_by, used, directory_by, directory_of}
use Rattle.spec_script.specs.Syntax.{Directory, Declared, Opened}
use Rattle.spec_script.specs.Trees.{Tree, Word, Number, Branch, Trees, Nil, And, place_of}
use Rattle.law_fiber.proofs.Texts.ReadSteps.{End, Keeps, given, refused, past, met}

-- ## Numbers

pub number_keeps : {end : End} (range : Range) (tree : Tree) → Keeps end (number_within range tree)
number_keeps range (Number at (pos n)) = met (nat_le range.least n && nat_le n range.most) (Size at) (given n tt)
number_keeps range (Number at (negsuc n)) = refused (Size at)
number_keeps range tree = refused (Shape (place_of tree))

-- ## Names

pub bring_keeps : {end : End} (kind : Kind) (scope : Scope) (tree : Tree) → Keeps end (bring kind scope tree)
unfolding bring
bring_keeps {end} kind scope (Word at name) = by (is_variable (named scope name))
  where
    by : (b : Bool) → Keeps end {A = Scope} (elim b [
      | true ↦ gives (with_name kind name scope)
      | false ↦
          (requires_that (nat_lt (length scope.names) most_names) (Size at) >>> λ _.
          requires_that (is_none (named scope name)) (Twice at) >>> λ _.
          gives (with_name kind name scope))
    ])
    by true = given (with_name kind name scope) tt
    by false = met (nat_lt (length scope.names) most_names) (Size at) (met (is_none (named scope name)) (Twice at) (given (with_name kind name scope) tt))
bring_keeps kind scope tree = refused (Shape (place_of tree))

pub used_keeps : {end : End} (kind : Kind) (scope : Scope) (tree : Tree) → Keeps end (used kind scope tree)
unfolding used
used_keeps {end} kind scope (Word at name) = by (named scope name)
  where
    by : (found : Option Named) → Keeps end (used_by kind at found)
    by None = refused (Name at)
    by (Some it) = met (is_same_kind it.kind kind) (Name at) (given it.number tt)
used_keeps kind scope tree = refused (Shape (place_of tree))

pub directory_keeps : {end : End} (scope : Scope) (tree : Tree) → Keeps end (directory_of scope tree)
unfolding directory_of
directory_keeps {end} scope (Word at name) = by (named scope name)
  where
    of_kind : (kind : Kind) (number : ℕ) → Keeps end {A = Directory} (elim kind [
      | CapabilityKind ↦ gives (Opened number)
      | DirectoryKind ↦ gives (Declared number)
      | _ ↦ refuses (Name at)
    ])
    of_kind CapabilityKind number = given (Opened number) tt
    of_kind DirectoryKind number = given (Declared number) tt
    of_kind kind number = refused (Name at)

    by : (found : Option Named) → Keeps end (directory_by at found)
    by None = refused (Name at)
    by (Some it) = of_kind it.kind it.number
directory_keeps scope tree = refused (Shape (place_of tree))

captured_behind_keeps : {end : End} (scope : Scope) (before : List Named) (row : Trees) → Keeps end (captured_behind scope before row)
unfolding captured_behind
captured_behind_keeps scope before Nil = given before tt
captured_behind_keeps scope before (And (Word at name) row) =
    met (nat_lt (length before) most_captured) (Size at)
    (met (is_none (named_in before name)) (Twice at)
    (past (used_keeps VariableKind scope (Word at name)) λ slot.
    captured_behind_keeps scope (before ++ record { name = name; kind = VariableKind; number = slot } ∷ []) row))
captured_behind_keeps scope before (And tree row) = refused (Shape (place_of tree))

pub captured_keeps : {end : End} (scope : Scope) (tree : Tree) → Keeps end (captured scope tree)
captured_keeps scope (Branch at row) = captured_behind_keeps scope [] row
captured_keeps scope tree = refused (Shape (place_of tree))
