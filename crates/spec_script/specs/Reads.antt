-- How scripts are read: in reading order, each node a step that makes something or refuses.
-- Beside its value a step makes what the whole script has: how many nodes there are, the table of texts, which forms stand where.
use Rattle.std.specs.Prelude.{ℕ, ◌+◌, Bool, true, false, ◌&&◌, nat_le, nat_lt, List, [], ◌∷◌, ◌++◌, pos, negsuc, Result, Ok, Err}
use Rattle.eio_value.specs.declared.value.TextId.{TextId}
use Rattle.eio_value.specs.Table.{intern}
use Rattle.spec_script.specs.declared.Feature.{Feature}
use Rattle.spec_script.specs.Limits.{Range, most_flow_steps, most_entries}
use Rattle.spec_script.specs.Trees.{Tree, Number, Text, place_of}
use Rattle.spec_script.specs.Faults.{ScriptFault, Shape, Size}
use Rattle.spec_script.specs.Results.{◌>>=◌}

-- a form that was read: its place, the feature that brings it, and whether it is for the mocked domain alone
pub record Formed : Type 0 where
  pub at : ℕ
  pub feature : Feature
  pub mocked : Bool

-- what was made so far: the number of nodes; the table of texts; the texts with which a fiber may fail, by a `raise`, a `cancel` or a
-- `fail`; the forms, oldest first; and the numbers of steps of flows and of entries of directories
pub record Made : Type 0 where
  pub nodes : ℕ
  pub texts : List (List ℕ)
  pub failures : List TextId
  pub formed : List Formed
  pub steps : ℕ
  pub entries : ℕ

abbrev pub nothing_made : Made
nothing_made = record { nodes = 0; texts = []; failures = []; formed = []; steps = 0; entries = 0 }

-- ## Steps

-- a step: from what was made before, a value and what is made then, or the fault
abbrev pub Reads : Type 0 → Type 0
Reads A = Made → Result (A × Made) ScriptFault

-- a step of no value
abbrev pub Makes : Type 0
Makes = Reads (Unit {0})

-- the value of a step is handed to the next one; a fault is the answer of all
infixl 10 ◌>>>◌
abbrev pub ◌>>>◌ : {A B : Type 0} → Reads A → (A → Reads B) → Reads B
read >>> next = λ made. read made >>= λ found. next found.0 found.1

abbrev pub gives : {A : Type 0} → A → Reads A
gives value = λ made. Ok (value, made)

abbrev pub refuses : {A : Type 0} → ScriptFault → Reads A
refuses e = λ made. Err e

-- goes on where the test is met, and refuses where it isn't
abbrev pub requires_that : Bool → ScriptFault → Makes
requires_that true e = gives tt
requires_that false e = refuses e

-- ## What steps make

abbrev pub made_so_far : Reads Made
made_so_far = λ made. Ok (made, made)

abbrev pub changes : (Made → Made) → Makes
changes change = λ made. Ok (tt, change made)

-- the number that the next node has
abbrev pub next_node : Reads ℕ
next_node = made_so_far >>> λ made. gives made.nodes

abbrev pub one_node : Makes
one_node = changes (λ made. record made { nodes = made.nodes + 1 })

abbrev pub one_form : (at : ℕ) → Feature → (mocked : Bool) → Makes
one_form at feature mocked = changes (λ made. record made { formed = made.formed ++ record { at = at; feature = feature; mocked = mocked } ∷ [] })

-- one more step of a flow, or entry of a directory, at its place; the first too many is refused
abbrev pub one_step : (at : ℕ) → Makes
one_step at =
    made_so_far >>> λ made. requires_that (nat_lt made.steps most_flow_steps) (Size at) >>> λ _.
    changes (λ before. record before { steps = before.steps + 1 })

abbrev pub one_entry : (at : ℕ) → Makes
one_entry at =
    made_so_far >>> λ made. requires_that (nat_lt made.entries most_entries) (Size at) >>> λ _.
    changes (λ before. record before { entries = before.entries + 1 })

-- the number of a text in the table, new or old
abbrev pub interned : List ℕ → Reads TextId
interned text = λ made. let found = intern made.texts text in Ok (found.id, record made { texts = found.texts })

-- a text with which a fiber may fail
abbrev pub may_fail : TextId → Makes
may_fail text = changes (λ made. record made { failures = made.failures ++ text ∷ [] })

-- ## Operands

abbrev pub text_of : Tree → Reads TextId
text_of (Text at text) = interned text
text_of tree = refuses (Shape (place_of tree))

abbrev pub failure_of : Tree → Reads TextId
failure_of tree = text_of tree >>> λ text. may_fail text >>> λ _. gives text

-- a number of this range
abbrev pub number_within : Range → Tree → Reads ℕ
number_within range (Number at (pos n)) = requires_that (nat_le range.least n && nat_le n range.most) (Size at) >>> λ _. gives n
number_within range (Number at (negsuc n)) = refuses (Size at)
number_within range tree = refuses (Shape (place_of tree))
