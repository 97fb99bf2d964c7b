-- What each kind of step on a resume word tells.
use Rattle.std.specs.Prelude.{◌≡◌, ◌≢◌, ℕ, ◌+◌, ◌*◌, ◌/◌, ◌<◌, false, ◌==◌, if◌then◌else◌}
use Rattle.atomic_table.specs.Table.{Step, Me}
use Rattle.resume_cells.specs.declared.view.Deed.{Deed}
use Rattle.resume_cells.specs.declared.view.View.{View}
use Rattle.resume_cells.specs.Marks.{code_of, word_bound}
use Rattle.resume_cells.specs.Known.{waiting, knows, IsLast, SaysWoken}
use Rattle.resume_cells.specs.Views.{marked, found, arm_of, decision_of}

-- a compare-and-exchange from waiting to decided: the decision is made, or the word is found; a wait that was undecided wasn't known to be
-- decided; where it is another word, the seat's own last wait was woken, unless the seat cancelled it; and no word is too large
pub record Decides (deed : Deed) (s : Step (Unit {0})) (me : Me (Unit {0}) View) (n : ℕ) (after : Me (Unit {0}) View) : Type 0 where
  pub tells : (armed stamp : ℕ) → s.first ≡ waiting armed → s.second ≡ 4 * stamp + code_of deed
      → after.0 ≡ (if n == s.first then marked me.0 (decision_of deed s.word armed stamp) else found me.0 s.word n)
  pub fresh : n ≡ s.first → (armed : ℕ) → s.first ≡ waiting armed → knows me.0.own s.word armed ≡ false
  pub woken : n ≢ s.first → (armed : ℕ) → s.first ≡ waiting armed → s.word / me.0.each ≡ me.0.number → IsLast me.0.own s.word armed → SaysWoken armed n
  pub bounded : n < word_bound
  pub slots : after.1 ≡ me.1

-- a swap to waiting: the wait begins
pub record Arms (s : Step (Unit {0})) (me : Me (Unit {0}) View) (n : ℕ) (after : Me (Unit {0}) View) : Type 0 where
  pub tells : (stamp : ℕ) → s.first ≡ waiting stamp → after.0 ≡ marked me.0 (arm_of s.word stamp)
  pub slots : after.1 ≡ me.1
