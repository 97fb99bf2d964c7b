-- The generator's script is read: each fork is a statement, whatever was made before it, and leaves the scope as it is.
use Rattle.std.proofs.Common.{◌≡◌, ℕ, zero, suc, ◌+◌, ◌*◌, Bool, true, false, List, [], ◌∷◌, ◌++◌, Option, Some, None, Result, Ok, Err, refl}
use Rattle.std.specs.Prelude.{codes}
use Rattle.spec_script.specs.declared.Feature.TheVariants.{FirstForms, StreamsAndPromises}
use Rattle.spec_script.specs.Declarations.{declaration, declarations_behind}
use Rattle.spec_script.specs.Faults.{ScriptFault}
use Rattle.spec_script.specs.Generator.{word, branch, row_of, generated_fork, generated_forks, generated_taker, generated}
use Rattle.spec_script.specs.Limits.{limits_of}
use Rattle.spec_script.specs.Kinds.{SwitchKind, StreamKind}
use Rattle.spec_script.specs.Reads.{Made}
use Rattle.spec_script.specs.Scopes.{Scope, bring, used}
use Rattle.spec_script.specs.Scripts.{script_of, domains}
use Rattle.spec_script.specs.Expressions.{item, operation, traced}
use Rattle.spec_script.specs.Forms.{form_of}
use Rattle.spec_script.specs.Statements.{statements, statement, value, block, form}
use Rattle.spec_script.specs.Syntax.{Statement, Then}
use Rattle.spec_script.specs.Trees.{Tree, Text, Trees, And}
use Rattle.law_script.specs.Scripts.Generated.{IsScript}

-- a value is given
record Given {A E : Type 0} (r : Result A E) : Type 0 where
  it : A
  is : r ≡ Ok it

abbrev gives_one : {A E : Type 0} → Result A E → Bool
gives_one (Ok x) = true
gives_one (Err e) = false

given : {A E : Type 0} (r : Result A E) → gives_one r ≡ true → Given r
given (Ok x) e = record { it = x; is = refl }
given (Err f) e = absurd cc

-- where the switch of the script is open
abbrev inside : Scope
inside = record {
  names = record { name = codes "s"; kind = SwitchKind; number = 0 } ∷ [];
  next = 1;
  declared = record { name = codes "q"; kind = StreamKind; number = 0 } ∷ [];
}

-- a statement, and the same scope behind it
record Stays (r : Result ((Statement × Scope) × Made) ScriptFault) : Type 0 where
  it : Statement
  made : Made
  is : r ≡ Ok ((it, inside), made)

abbrev scope_behind : Result ((Statement × Scope) × Made) ScriptFault → Option Scope
scope_behind (Ok x) = Some x.0.1
scope_behind (Err e) = None

stays : (r : Result ((Statement × Scope) × Made) ScriptFault) → scope_behind r ≡ Some inside → Stays r
stays (Ok ((it, scope), made)) e = record { it = it; made = made; is = cc }
stays (Err f) e = absurd cc

fork_read : (i : ℕ) (made : Made) → Stays (statement inside false (generated_fork i) made)
unfolding statements statement value block form form_of bring used item operation traced
fork_read i made = stays _ refl

-- what stands behind the forks
abbrev behind_forks : (times : ℕ) → List Tree
behind_forks times = generated_taker times ∷ branch (word (codes "trace") ∷ Text 0 (codes "done") ∷ []) ∷ []

behind_read : (times : ℕ) (made : Made) → Given (statements inside (row_of (behind_forks times)) made)
unfolding statements statement value block form form_of bring used item operation traced
behind_read times made = given _ refl

-- a fork before a row that is read
before : (fork next : Tree) (row : Trees) → ((made : Made) → Stays (statement inside false fork made)) → ((made : Made) → Given (statements inside (And next row) made))
    → (made : Made) → Given (statements inside (And fork (And next row)) made)
unfolding statements
before fork next row one rest made =
    let first = one made in
    let others = rest first.made in
    record { it = (Then first.it others.it.0, others.it.1); is = rw (first.is, others.is) refl }

forks_read : (left i times : ℕ) (made : Made) → Given (statements inside (row_of (generated_forks left i ++ behind_forks times)) made)
unfolding generated_forks
forks_read zero i times = behind_read times
forks_read (suc zero) i times = before (generated_fork i) _ _ (fork_read i) (behind_read times)
forks_read (suc (suc left)) i times = before (generated_fork i) _ _ (fork_read i) (forks_read (suc left) (i + 1) times)

-- what was made before the switch's block
abbrev at_the_switch : Made
at_the_switch = record {
  nodes = 1;
  texts = codes "q" ∷ [];
  failures = [];
  formed = record { at = 0; feature = StreamsAndPromises; mocked = false } ∷ record { at = 0; feature = FirstForms; mocked = false } ∷ [];
  steps = 0;
  entries = 0;
}

pub generated_is_read : (n : ℕ) → IsScript (generated n)
unfolding generated script_of declaration declarations_behind limits_of domains statements statement value block form form_of bring used item operation traced
generated_is_read n =
    let inner = forks_read n 0 (2 * n) at_the_switch in
    let whole = given (script_of (generated n)) (rw inner.is refl) in
    record { script = whole.it; read = whole.is }
