-- What the functions of the code that read a whole script gave, beside the definitions' steps.
use Rattle.std.specs.Prelude.{◌≡◌, ℕ, Bool, true, false, not, List, ◌∷◌, ◌++◌, length, map, Option, Some, None, Result, Ok, Err, codes}
use Rattle.spec_script.specs.declared.Limits.{Limits}
use Rattle.spec_script.specs.Faults as model
use Rattle.spec_script.specs.Faults.{Shape, Size}
use Rattle.spec_script.specs.Trees.{Tree, Trees, Nil, place_of}
use Rattle.spec_script.specs.Syntax.{Block}
use Rattle.spec_script.specs.Reads.{Reads as Reading, ◌>>>◌, gives, refuses, requires_that}
use Rattle.spec_script.specs.Scopes.{Scope}
use Rattle.spec_script.specs.Statements.{statements, block_of}
use Rattle.spec_script.specs.Declarations.{Declared}
use Rattle.spec_script.specs.Scripts.{Script, Parts, items_behind, parts_of, bodies_of, body, domains, first_place, script_of_parts}
use Rattle.script_draft.specs.Drafts.{Drafted, made_of}
use Rattle.script_forms.specs.Flat.{flat_bodies, number_of}
use Rattle.script_forms.specs.Faults.{Fails}
use Rattle.script_forms.specs.declared.fault.ScriptFault.{ScriptFault}
use Rattle.script_forms.specs.declared.fault.ScriptFault.TheVariants.{NoMemory}
use Rattle.script_lang.specs.declared.reader.Bodies.{Bodies}
use Rattle.script_lang.specs.declared.reader.Heading.{Heading}

-- the tree is this script, or refused so; where memory ran out, nothing is said
abbrev pub Reads : Result Script ScriptFault → Result Script model.ScriptFault → Type 0
Reads (Ok script) read = read ≡ Ok script
Reads (Err f) read = Fails f read

abbrev pub one_if : Bool → ℕ
one_if true = 1
one_if false = 0

-- ## The root

-- a root was read as far as its declarations, which come next
pub record HasRoot (read : Result Script model.ScriptFault) (version bodies : ℕ) (left : Trees) : Type 0 where
  pub parts : Parts
  pub is : parts_of left ≡ Some parts
  pub count : bodies ≡ bodies_of parts
  pub gives : read ≡ script_of_parts version parts

abbrev pub Roots : Result Heading ScriptFault → Result Script model.ScriptFault → (left : Trees) → Type 0
Roots (Ok heading) read left = HasRoot read heading.version heading.bodies left
Roots (Err f) read left = Fails f read

-- the first `main` of a row was looked for, and bodies counted behind it
pub record HasParts (left : Trees) (bodies : ℕ) : Type 0 where
  pub parts : Parts
  pub is : parts_of left ≡ Some parts
  pub count : bodies ≡ bodies_of parts

abbrev pub Names : Result (Option ℕ) ScriptFault → Trees → Type 0
Names (Ok (Some bodies)) left = HasParts left bodies
Names (Ok None) left = parts_of left ≡ None
Names (Err f) left = f ≡ NoMemory

-- ## Bodies

-- a body behind main; `full` says that as many stand before it as may be
abbrev pub domain_by : Scope → (full : Bool) → (at : ℕ) → Option Trees → Reading Block
domain_by scope full at None = refuses (Shape at)
domain_by scope full at (Some items) = requires_that (not full) (Size at) >>> λ _. block_of (statements scope items)

abbrev pub domain_of : Scope → (full : Bool) → Tree → Reading Block
domain_of scope full tree = domain_by scope full (place_of tree) (items_behind (codes "domain") tree)

-- main, and the bodies behind it
abbrev pub bodies_read : Limits → Declared → (main behind : Trees) → Reading (List Block)
bodies_read limits declared main behind = body declared main >>> λ first. domains limits declared 1 behind >>> λ others. gives (first ∷ others)

-- bodies were read, which begin with the next node
pub record HasBodies (read : Reading (List Block)) (numbers : List ℕ) (old new : Drafted) : Type 0 where
  pub blocks : List Block
  pub gives : read (made_of old) ≡ Ok (blocks, made_of new)
  pub named : numbers ≡ map number_of blocks
  pub grows : new.nodes ≡ old.nodes ++ flat_bodies (length old.nodes) blocks

-- a row was read that begins with a `main`
abbrev pub Bodied : Result Bodies ScriptFault → Limits → Declared → Trees → (old new : Drafted) → Type 0
Bodied (Ok it) limits declared row old new = (main behind : Trees) → parts_of row ≡ Some (record { before = Nil; main = main; behind = behind }) → HasBodies (bodies_read limits declared main behind) it.numbers.items old new × (it.first_domain ≡ first_place behind)
Bodied (Err f) limits declared row old new = (main behind : Trees) → parts_of row ≡ Some (record { before = Nil; main = main; behind = behind }) → Fails f (bodies_read limits declared main behind (made_of old))
