-- Of a script that is read, each block has the number of the node that it begins with, and the bodies are as few as may be.
use Rattle.std.proofs.Common.{◌≡◌, ℕ, zero, ◌+◌, ◌^◌, ◌<◌, ◌≤◌, Bool, true, false, List, [], ◌∷◌, length, Option, Some, None, Result, Ok, Err, refl, subst, arith}
use Rattle.std.specs.Prelude.{nat_lt, codes}
use Rattle.std.proofs.lemmas.Bool.{ltb-true}
use Rattle.spec_script.specs.Declarations.{Declared, nothing_declared}
use Rattle.spec_script.specs.Faults.{ScriptFault, Shape, Size}
use Rattle.spec_script.specs.declared.Limits.{Limits}
use Rattle.spec_script.specs.Limits.{limits_of}
use Rattle.spec_script.specs.Reads.{nothing_made, ◌>>>◌, gives, refuses, requires_that}
use Rattle.spec_script.specs.Scripts.{Script, items_behind, Parts, parts_of, bodies_of, body_scope, body, domains, read_parts, script_by, script_of_parts, version_of, root_of, script_of}
use Rattle.spec_script.specs.Statements.{statements}
use Rattle.spec_script.specs.Syntax.{Block, Begins}
use Rattle.spec_script.specs.Trees.{Tree, Number, Trees, Nil, And, place_of}
use Rattle.script_forms.specs.Flat.{flat_statements, flat_block, flat_bodies}
use Rattle.script_code.specs.Numbered.{IsNumberedBlock, AreNumberedBodies, HasNumbers}
use Rattle.script_code.proofs.NodeCounts.{From, given, refused, going_on, past, test_keeps, two_rows, same_Ok, err-ok, both_gave}
use Rattle.script_code.proofs.BlockNumbers.{block_counts, with_block, statements_count}
use Rattle.script_code.proofs.DeclarationsKeep.{declarations_keep}

-- bodies whose first node has this number, and those before them are as many as may be at most
abbrev AreBodies : Limits → (from before : ℕ) → List Block → Type 0
AreBodies limits from before these = AreNumberedBodies from these × (length these + before ≤ limits.bodies)

abbrev behind_bodies : (from : ℕ) → List Block → ℕ
behind_bodies from these = from + length (flat_bodies from these)

body_counts : (from : ℕ) (declared : Declared) (items : Trees) → From from (λ b. from + length (flat_block from b)) (IsNumberedBlock from) (body declared items)
body_counts from declared items = block_counts from (statements (body_scope declared) items) (statements_count from (body_scope declared) items)

none_behind : (from : ℕ) → from ≡ from + zero
none_behind from = omega arith

domains_count : (limits : Limits) (from : ℕ) (declared : Declared) (n : ℕ) → n ≤ limits.bodies → (row : Trees) → From from (behind_bodies from) (AreBodies limits from n) (domains limits declared n row)
unfolding domains flat_bodies AreNumberedBodies IsNumberedBlock
domains_count limits from declared n few Nil = given [] (none_behind from) (tt, omega (arith, few))
domains_count limits from declared n few (And tree row) = by (items_behind (codes "domain") tree) (λ next more. domains_count limits next declared (n + 1) more row)
  where
    by : (found : Option Trees) → ((next : ℕ) → n + 1 ≤ limits.bodies → From next (behind_bodies next) (AreBodies limits next (n + 1)) (domains limits declared (n + 1) row))
        → From from (behind_bodies from) (AreBodies limits from n) (elim found [
          | None ↦ refuses (Shape (place_of tree))
          | Some items ↦
              (requires_that (nat_lt n limits.bodies) (Size (place_of tree)) >>> λ _.
              body declared items >>> λ first.
              domains limits declared (n + 1) row >>> λ others.
              gives (first ∷ others))
        ])
    by None rest = refused (Shape (place_of tree))
    by (Some items) rest = in_room (nat_lt n limits.bodies) refl
      where
        in_room : (room : Bool) → nat_lt n limits.bodies ≡ room → From from (behind_bodies from) (AreBodies limits from n) (requires_that room (Size (place_of tree)) >>> λ _. body declared items >>> λ first. domains limits declared (n + 1) row >>> λ others. gives (first ∷ others))
        in_room false e = record { holds = λ made x at read. absurd (err-ok _ _ read) }
        in_room true e =
            let less : n < limits.bodies = ltb-true n limits.bodies e in
            past (test_keeps true (Size (place_of tree))) λ _.
            with_block (λ first. domains limits declared (n + 1) row >>> λ others. gives (first ∷ others)) (body_counts from declared items) λ first numbered.
            let next = from + length (flat_statements from first) in
            going_on (rest next (omega (arith, less))) λ others are.
            let count = are.1 in
            given (Begins from first ∷ others) (two_rows from (flat_statements from first) (flat_bodies next others)) (((refl, numbered), are.0), omega (arith, count))

-- a script may have a main, and a byte counts its bodies, whatever its version is
pub bodies_fit : (version : ℕ) → (1 ≤ (limits_of version).bodies) × ((limits_of version).bodies < 2 ^ 8)
unfolding limits_of
bodies_fit version = (omega arith, omega arith)

abbrev HaveNumbers : Limits → Declared × List Block → Type 0
HaveNumbers limits read = AreNumberedBodies 0 read.1 × (length read.1 ≤ limits.bodies) × (1 ≤ length read.1)

parts_count : (limits : Limits) → 1 ≤ limits.bodies → (parts : Parts) → From 0 (λ read. behind_bodies 0 read.1) (HaveNumbers limits) (read_parts limits parts)
unfolding flat_bodies AreNumberedBodies IsNumberedBlock
parts_count limits one parts =
    past (declarations_keep limits (bodies_of parts) nothing_declared parts.before) λ declared.
    with_block _ (body_counts 0 declared parts.main) λ main numbered.
    let next = 0 + length (flat_statements 0 main) in
    going_on (domains_count limits next declared 1 one parts.behind) λ others are.
    let count = are.1 in
    given (declared, Begins 0 main ∷ others) (two_rows 0 (flat_statements 0 main) (flat_bodies next others)) (((refl, numbered), are.0), omega (arith, count), omega arith)

parts_have : (version : ℕ) (parts : Parts) (script : Script) → script_of_parts version parts ≡ Ok script → HasNumbers script
parts_have version parts script e =
    let limits = limits_of version in
    let both = both_gave (read_parts limits parts nothing_made) (λ found. Ok (script_by version parts found.0.0 found.0.1 found.1)) script e in
    let are = (parts_count limits (bodies_fit version).0 parts).holds nothing_made both.0 refl both.1 in
    subst HasNumbers (same_Ok (script_by version parts both.0.0.0 both.0.0.1 both.0.1) script both.2) (record { numbered = are.1.0; few = are.1.1; main = are.1.2 })

root_has : (at : ℕ) (row : Trees) (script : Script) → root_of at row ≡ Ok script → HasNumbers script
root_has at (And (Number place number) row) script e = by (parts_of row) e
  where
    by_version : (parts : Parts) (found : Option ℕ)
        → ◌≡◌ {A = Result Script ScriptFault} (elim found [ None ↦ Err (Shape place) | Some version ↦ script_of_parts version parts ]) (Ok script) → HasNumbers script
    by_version parts (Some version) e = parts_have version parts script e
    by_version parts None e = absurd (err-ok _ _ e)

    by : (found : Option Parts) → ◌≡◌ {A = Result Script ScriptFault} (elim found [
      | None ↦ Err (Shape at)
      | Some parts ↦ elim (version_of number) [ None ↦ Err (Shape place) | Some version ↦ script_of_parts version parts ]
    ]) (Ok script) → HasNumbers script
    by None e = absurd (err-ok _ _ e)
    by (Some parts) e = by_version parts (version_of number) e
root_has at row script e = absurd (err-ok _ _ e)

-- a script that is read has its numbers
pub script_has_numbers : (tree : Tree) (script : Script) → script_of tree ≡ Ok script → HasNumbers script
unfolding script_of
script_has_numbers tree script e = by (items_behind (codes "eio") tree) e
  where
    by : (found : Option Trees) → ◌≡◌ {A = Result Script ScriptFault} (elim found [
      | None ↦ Err (Shape (place_of tree))
      | Some items ↦ root_of (place_of tree) items
    ]) (Ok script) → HasNumbers script
    by None e = absurd (err-ok _ _ e)
    by (Some items) e = root_has (place_of tree) items script e
