-- The variables that a job takes with it. Its block sees these and the declarations alone; their values are its first slots, in order.
use Rattle.std.specs.Prelude.{ℕ, ◌+◌, nat_lt, List, [], ◌∷◌, ◌++◌, length, map, is_none}
use Rattle.spec_script.specs.Limits.{most_captured}
use Rattle.spec_script.specs.Trees.{Tree, Word, Branch, Trees, Nil, And, place_of}
use Rattle.spec_script.specs.Faults.{Shape, Size, Twice}
use Rattle.spec_script.specs.Kinds.{VariableKind}
use Rattle.spec_script.specs.Reads.{Reads, ◌>>>◌, gives, refuses, requires_that}
use Rattle.spec_script.specs.Scopes.{Named, Scope, named_in, used}

-- those of a list, behind these; each with the slot that it has where the job is submitted
unfoldable pub captured_behind : Scope → List Named → Trees → Reads (List Named)
captured_behind scope before Nil = gives before
captured_behind scope before (And (Word at name) row) =
    requires_that (nat_lt (length before) most_captured) (Size at) >>> λ _.
    requires_that (is_none (named_in before name)) (Twice at) >>> λ _.
    used VariableKind scope (Word at name) >>> λ slot.
    captured_behind scope (before ++ record { name = name; kind = VariableKind; number = slot } ∷ []) row
captured_behind scope before (And tree row) = refuses (Shape (place_of tree))

abbrev pub captured : Scope → Tree → Reads (List Named)
captured scope (Branch at row) = captured_behind scope [] row
captured scope tree = refuses (Shape (place_of tree))

abbrev pub slots_of : List Named → List ℕ
slots_of = map (λ it. it.number)

-- the same variables in the job, from this slot on
abbrev pub numbered_from : (slot : ℕ) → List Named → List Named
numbered_from slot [] = []
numbered_from slot (it ∷ others) = record it { number = slot } ∷ numbered_from (slot + 1) others

abbrev pub job_scope : Scope → List Named → Scope
job_scope scope taken = record scope { names = numbered_from 0 taken; next = length taken }
