-- Scripts that are read are sound (`read_scripts_are_sound`).
use Rattle.std.proofs.Common.{◌≡◌, ℕ, zero, suc, ◌+◌, ◌<◌, ◌≤◌, Bool, true, false, List, [], ◌∷◌, length, Option, Some, None, Result, Ok, Err, refl, sym, ap, subst, ◌∙◌, arith}
use Rattle.std.specs.Prelude.{nat_le, nat_lt, is_some, option_map, ◌==◌, ℤ, pos, negsuc, codes, IfSome, All}
use Rattle.std.specs.List.{AllByRecursion as Each}
use Rattle.std.specs.Str.{bytes_eq}
use Rattle.std.proofs.lemmas.Bool.{ltb-true, eqb-true}
use Rattle.std.proofs.lemmas.List.Elements.{All-from_recursion}
use Rattle.spec_script.specs.Declarations.{Declared, nothing_declared}
use Rattle.spec_script.specs.Faults.{ScriptFault, Shape, Size}
use Rattle.spec_script.specs.Inputs.{input_script}
use Rattle.spec_script.specs.Kinds.{Kind}
use Rattle.spec_script.specs.declared.Limits.{Limits}
use Rattle.spec_script.specs.Limits.{limits_of, most_input_bytes, most_open_lists}
use Rattle.spec_script.specs.Reading.{reading}
use Rattle.spec_script.specs.Reads.{Made, nothing_made, ◌>>>◌, gives, refuses, requires_that}
use Rattle.spec_script.specs.Refusals.{Refusal, NoTree, NoScript, TooLong, or_refused, input_tree}
use Rattle.spec_script.specs.Scripts.{Script, items_behind, Parts, with_first, parts_of, domains_in, bodies_of, body_scope, body, domains, read_parts, first_place, script_by, script_of_parts, version_of, root_of, script_of}
use Rattle.spec_script.specs.Statements.{statements}
use Rattle.spec_script.specs.Syntax.{Block}
use Rattle.spec_script.specs.Trees.{Tree, Word, Number, Text, Branch, Trees, Nil, And, place_of}
use Rattle.law_script.specs.Trees.Within.{IsWithin, AreWithin}
use Rattle.law_script.proofs.Trees.Canonical.{read_is_within}
use Rattle.law_script.proofs.Trees.Steps.{same_Ok, err-ok, both_gave}
use Rattle.law_script.specs.Scripts.Numbers.{HasFittingNumbers, HaveFittingNumbers}
use Rattle.law_script.specs.Scripts.Soundness.{in_body, kinds_of, IsSoundDeclaration, IsSoundBlock, IsSound}
use Rattle.law_script.proofs.Scripts.Declarations.{AreDeclared, declarations_are, none_declared}
use Rattle.law_script.proofs.Scripts.Lists.{none_some, same_Some}
use Rattle.law_script.proofs.Scripts.Names.{IsDeclared}
use Rattle.law_script.proofs.Scripts.Statements.{block_is_sound, statements_are_sound}
use Rattle.law_script.proofs.Scripts.Steps.{Gives, given, refused, going_on, met}

-- ## Parts

items_fit : (word : List ℕ) (tree : Tree) → HasFittingNumbers tree → IfSome (items_behind word tree) HaveFittingNumbers
unfolding HasFittingNumbers HaveFittingNumbers
items_fit word (Branch at (And (Word place head) items)) numbers = by (bytes_eq head word)
  where
    by : (b : Bool) → IfSome (elim b [ true ↦ Some items | false ↦ None ]) HaveFittingNumbers
    by true = numbers.1
    by false = tt
items_fit word tree numbers = tt

abbrev PartsFit : Parts → Type 0
PartsFit parts = HaveFittingNumbers parts.before × HaveFittingNumbers parts.main × HaveFittingNumbers parts.behind

parts_fit : (row : Trees) → HaveFittingNumbers row → IfSome (parts_of row) PartsFit
unfolding HaveFittingNumbers
parts_fit Nil numbers = tt
parts_fit (And tree row) numbers = by (items_behind (codes "main") tree) (items_fit (codes "main") tree numbers.0) (more (parts_of row) (parts_fit row numbers.1))
  where
    more : (found : Option Parts) → IfSome found PartsFit → IfSome (option_map (with_first tree) found) PartsFit
    more None fit = tt
    more (Some parts) fit = ((numbers.0, fit.0), fit.1, fit.2)

    by : (found : Option Trees) → IfSome found HaveFittingNumbers → IfSome (option_map (with_first tree) (parts_of row)) PartsFit → IfSome (elim found [
      | Some items ↦ Some (record { before = Nil; main = items; behind = row })
      | None ↦ option_map (with_first tree) (parts_of row)
    ]) PartsFit
    by None fit rest = rest
    by (Some items) fit rest = (tt, fit, numbers.1)

-- ## Bodies

-- a block of a body, which knows the declarations of these kinds alone
abbrev IsBody : (kinds : List Kind) → Block → Type 0
IsBody kinds b = IsSoundBlock (in_body kinds) b

body_is_sound : (kinds : List Kind) (declared : Declared) → Each (IsDeclared kinds) declared.scope → (items : Trees) → HaveFittingNumbers items
    → Gives (IsBody kinds) (body declared items)
body_is_sound kinds declared scope items numbers =
    block_is_sound (in_body kinds) (statements (body_scope declared) items)
    (statements_are_sound (in_body kinds) (body_scope declared) (record { names = tt; declared = scope; next = refl }) items numbers)

-- further bodies, and those before them are as many as may be at most; there are as many as are listed
abbrev AreBodies : Limits → (kinds : List Kind) (before listed : ℕ) → List Block → Type 0
AreBodies limits kinds before listed these = Each (IsBody kinds) these × (length these + before ≤ limits.bodies) × (length these ≡ listed)

domains_are : (limits : Limits) (kinds : List Kind) (declared : Declared) → Each (IsDeclared kinds) declared.scope → (n : ℕ) → n ≤ limits.bodies → (row : Trees) → HaveFittingNumbers row
    → Gives (AreBodies limits kinds n (domains_in row)) (domains limits declared n row)
unfolding domains HaveFittingNumbers
domains_are limits kinds declared scope n few Nil numbers = given [] (tt, omega (arith, few), refl)
domains_are limits kinds declared scope n few (And tree row) numbers =
    by (items_behind (codes "domain") tree) (items_fit (codes "domain") tree numbers.0) (λ more. domains_are limits kinds declared scope (n + 1) more row numbers.1)
  where
    by : (found : Option Trees) → IfSome found HaveFittingNumbers → (n + 1 ≤ limits.bodies → Gives (AreBodies limits kinds (n + 1) (domains_in row)) (domains limits declared (n + 1) row))
        → Gives (AreBodies limits kinds n (elim (is_some found) [ true ↦ domains_in row + 1 | false ↦ domains_in row ])) (elim found [
          | None ↦ refuses (Shape (place_of tree))
          | Some items ↦
              (requires_that (nat_lt n limits.bodies) (Size (place_of tree)) >>> λ _.
              body declared items >>> λ first.
              domains limits declared (n + 1) row >>> λ others.
              gives (first ∷ others))
        ])
    by None fit rest = refused (Shape (place_of tree))
    by (Some items) fit rest =
        met (nat_lt n limits.bodies) (Size (place_of tree)) λ room.
        let less : n < limits.bodies = ltb-true n limits.bodies room in
        going_on (body_is_sound kinds declared scope items fit) λ first sound.
        going_on (rest (omega (arith, less))) λ others are.
        let count = are.1 in
        let same = are.2 in
        given (first ∷ others) ((sound, are.0), omega (arith, count), omega (arith, same))

-- ## Versions

-- a script may have a main, whatever its version is
one_body : (version : ℕ) → 1 ≤ (limits_of version).bodies
unfolding limits_of
one_body version = omega arith

-- the version that is read is the first
is_first : (number : ℤ) (version : ℕ) → version_of number ≡ Some version → version ≡ 1
is_first (pos n) version e = by (n == 1) refl e
  where
    by : (one : Bool) → n == 1 ≡ one → ◌≡◌ {A = Option ℕ} (elim one [ true ↦ Some n | false ↦ None ]) (Some version) → version ≡ 1
    by true one e = sym (same_Some n version e) ∙ eqb-true n 1 one
    by false one e = absurd (none_some version e)
is_first (negsuc n) version e = absurd (none_some version e)

-- ## Scripts

-- sound declarations and bodies
abbrev AreParts : Limits → (bodies : ℕ) → Declared × List Block → Type 0
AreParts limits bodies read =
    AreDeclared limits bodies read.0 × Each (IsBody (kinds_of read.0.declarations)) read.1 × (length read.1 ≤ limits.bodies) × (length read.1 ≡ bodies)

parts_are_sound : (limits : Limits) → 1 ≤ limits.bodies → (parts : Parts) → PartsFit parts → Gives (AreParts limits (bodies_of parts)) (read_parts limits parts)
parts_are_sound limits one parts fit =
    going_on (declarations_are limits (bodies_of parts) nothing_declared (none_declared limits (bodies_of parts)) parts.before) λ declared are.
    let kinds = kinds_of declared.declarations in
    going_on (body_is_sound kinds declared are.scope parts.main fit.1) λ main main_sound.
    going_on (domains_are limits kinds declared are.scope 1 one parts.behind fit.2) λ others others_are.
    let count = others_are.1 in
    let same = others_are.2 in
    given (declared, main ∷ others) (are, (main_sound, others_are.0), omega (arith, count), omega (arith, same))

some_bodies : (bodies : List Block) (n : ℕ) → length bodies ≡ n + 1 → 1 ≤ length bodies
some_bodies bodies n e = omega (arith, e)

main_alone : (behind : Trees) (n : ℕ) → n ≡ domains_in behind + 1 → first_place behind ≡ None → n ≡ 1
main_alone Nil n count none = count
main_alone (And tree row) n count none = absurd (none_some (place_of tree) (sym none))

sound_by : (version : ℕ) → version ≡ 1 → (parts : Parts) (declared : Declared) (bodies : List Block) (made : Made) → AreParts (limits_of version) (bodies_of parts) (declared, bodies)
    → IsSound (script_by version parts declared bodies made)
sound_by version is parts declared bodies made are = record {
  version = is;
  names = are.0.names;
  few_declarations = are.0.few;
  declarations = subst (λ (n : ℕ). All (IsSoundDeclaration n) declared.declarations) (sym are.3) (All-from_recursion (IsSoundDeclaration (bodies_of parts)) declared.declarations are.0.sound);
  has_main = some_bodies bodies (domains_in parts.behind) are.3;
  few_bodies = are.2;
  main_alone = main_alone parts.behind (length bodies) are.3;
  bodies = All-from_recursion (IsBody (kinds_of declared.declarations)) bodies are.1;
}

parts_make_sound : (version : ℕ) → version ≡ 1 → (parts : Parts) → PartsFit parts → (script : Script) → script_of_parts version parts ≡ Ok script → IsSound script
parts_make_sound version is parts fit script e =
    let limits = limits_of version in
    let both = both_gave (read_parts limits parts nothing_made) (λ found. Ok (script_by version parts found.0.0 found.0.1 found.1)) script e in
    subst IsSound (same_Ok _ _ both.2) (sound_by version is parts both.0.0.0 both.0.0.1 both.0.1 ((parts_are_sound limits (one_body version) parts fit).holds nothing_made both.0 both.1))

root_is_sound : (at : ℕ) (row : Trees) → HaveFittingNumbers row → (script : Script) → root_of at row ≡ Ok script → IsSound script
unfolding HaveFittingNumbers
root_is_sound at (And (Number place number) row) numbers script e = by (parts_of row) (parts_fit row numbers.1) e
  where
    by_version : (parts : Parts) (found : Option ℕ) → version_of number ≡ found → PartsFit parts
        → ◌≡◌ {A = Result Script ScriptFault} (elim found [ None ↦ Err (Shape place) | Some version ↦ script_of_parts version parts ]) (Ok script) → IsSound script
    by_version parts (Some version) known fit e = parts_make_sound version (is_first number version known) parts fit script e
    by_version parts None known fit e = absurd (err-ok _ _ e)

    by : (found : Option Parts) → IfSome found PartsFit → ◌≡◌ {A = Result Script ScriptFault} (elim found [
      | None ↦ Err (Shape at)
      | Some parts ↦ elim (version_of number) [ None ↦ Err (Shape place) | Some version ↦ script_of_parts version parts ]
    ]) (Ok script) → IsSound script
    by None fit e = absurd (err-ok _ _ e)
    by (Some parts) fit e = by_version parts (version_of number) refl fit e
root_is_sound at row numbers script e = absurd (err-ok _ _ e)

pub script_is_sound : (tree : Tree) → HasFittingNumbers tree → (script : Script) → script_of tree ≡ Ok script → IsSound script
unfolding script_of
script_is_sound tree numbers script e = by (items_behind (codes "eio") tree) (items_fit (codes "eio") tree numbers) e
  where
    by : (found : Option Trees) → IfSome found HaveFittingNumbers → ◌≡◌ {A = Result Script ScriptFault} (elim found [
      | None ↦ Err (Shape (place_of tree))
      | Some items ↦ root_of (place_of tree) items
    ]) (Ok script) → IsSound script
    by None fit e = absurd (err-ok _ _ e)
    by (Some items) fit e = root_is_sound (place_of tree) items fit script e

-- ## Inputs

mutual
  unfolding HasFittingNumbers HaveFittingNumbers IsWithin AreWithin

  numbers_fit : (lists : ℕ) (tree : Tree) → IsWithin lists tree → HasFittingNumbers tree
  numbers_fit lists (Word at word) within = tt
  numbers_fit lists (Number at z) within = within
  numbers_fit lists (Text at text) within = tt
  numbers_fit zero (Branch at row) within = absurd within
  numbers_fit (suc lists) (Branch at row) within = row_fits lists row within

  row_fits : (lists : ℕ) (row : Trees) → AreWithin lists row → HaveFittingNumbers row
  row_fits lists Nil within = tt
  row_fits lists (And tree row) within = (numbers_fit lists tree within.0, row_fits lists row within.1)

pub unrefused : {A E : Type 0} (refusal : E → Refusal) (r : Result A E) (x : A) → or_refused refusal r ≡ Ok x → r ≡ Ok x
unrefused refusal (Ok y) x e = ap Ok (same_Ok y x e)
unrefused refusal (Err y) x e = absurd (err-ok _ _ e)

-- the tree of an input is read from it
pub input_is_read : (bytes : List ℕ) (tree : Tree) → input_tree bytes ≡ Ok tree → reading bytes ≡ Ok tree
unfolding input_tree
input_is_read bytes tree e = by (nat_le (length bytes) most_input_bytes) e
  where
    by : (short : Bool) → ◌≡◌ {A = Result Tree Refusal} (elim short [ true ↦ or_refused NoTree (reading bytes) | false ↦ Err TooLong ]) (Ok tree) → reading bytes ≡ Ok tree
    by true e = unrefused NoTree (reading bytes) tree e
    by false e = absurd (err-ok _ _ e)

-- the script of an input is that of a tree that is read from it
pub script_is_read : (bytes : List ℕ) (script : Script) → input_script bytes ≡ Ok script → (tree : Tree) × (reading bytes ≡ Ok tree) × (script_of tree ≡ Ok script)
unfolding input_script
script_is_read bytes script e =
    let both = both_gave (input_tree bytes) (λ tree. or_refused NoScript (script_of tree)) script e in
    (both.0, input_is_read bytes both.0 both.1, unrefused NoScript (script_of both.0) script both.2)

pub input_is_sound : (bytes : List ℕ) (script : Script) → input_script bytes ≡ Ok script → IsSound script
input_is_sound bytes script e =
    let read = script_is_read bytes script e in
    script_is_sound read.0 (numbers_fit most_open_lists read.0 (read_is_within bytes read.0 read.1)) script read.2
