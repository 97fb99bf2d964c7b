-- Laws of the texts that scripts and fibers hold.
use Rattle.std.specs.Prelude.{◌≡◌, ℕ, ◌≤◌, List, length, All, Contains, Ok}
use Rattle.eio_value.specs.Exceptions.{bound_text, reason}
use Rattle.eio_value.specs.Table.{HasText, intern}
use Rattle.eio_value.specs.declared.raised.Outcome.{Outcome}
use Rattle.eio_value.specs.declared.raised.Raised.{Raised}
use Rattle.spec_script.specs.Opening.{exceptions_of, opening_texts}
use Rattle.spec_script.specs.Scripts.{Script, script_of}
use Rattle.spec_script.specs.Trees.{Tree}
use Rattle.spec_fiber.specs.Replies.{passed}
use Rattle.spec_fiber.specs.Settling.{Settled}
use Rattle.spec_fiber.specs.Work.{Work, Carry}
use Rattle.law_fiber.specs.Texts.Texts.{IsWrittenBlock, IsHeldOutcome, AreHeldValues, IsTextedWork, IsTextedSettled, written_in, in_table, known_in, BeginsWith}

-- the texts with which a fiber may fail stand in the script's table
abbrev pub HasFailureTexts : Script → Type 0
HasFailureTexts script = All (HasText script.texts) script.failures

-- ## Scripts

-- each text that a body names stands in the script's table, and each with which a fiber may fail is listed and stands there too
pub record HasItsTexts (script : Script) : Type 0 where
  pub failures : HasFailureTexts script
  pub bodies : All (IsWrittenBlock (written_in script)) script.bodies

abbrev pub ReadScriptsHaveTexts : Type 0
ReadScriptsHaveTexts = (tree : Tree) (script : Script) → script_of tree ≡ Ok script → HasItsTexts script

-- ## The texts that a `try` binds

-- the table with which a script starts has the text that a `try` binds of an exception whose reason is listed, so that it stays as it is
abbrev pub BoundTextsStand : Type 0
BoundTextsStand = (script : Script) (raised : Raised) → HasFailureTexts script → Contains (exceptions_of script) (reason raised)
    → (intern (opening_texts script) (bound_text (opening_texts script) raised)).texts ≡ opening_texts script

-- ## The next call

-- the table begins with the old one, and has the texts of all that stands there
pub record StaysTexted (script : Script) (old : List (List ℕ)) (s : Settled) : Type 0 where
  pub begins : BeginsWith old s.carry.texts
  pub settled : IsTextedSettled (written_in script) (in_table s.carry.texts) s

-- a table that has the texts of what came, of the work and of the variables has those of the next call, of the work behind it and of the variables then
abbrev pub TextsStay : Type 0
TextsStay = (script : Script) (came : Outcome) (rest : List Work) (c : Carry) → HasFailureTexts script → length script.texts ≤ length c.texts
    → IsHeldOutcome (in_table c.texts) came → IsTextedWork (written_in script) (in_table c.texts) rest → AreHeldValues (in_table c.texts) c.variables
    → StaysTexted script c.texts (passed came rest c)

-- the table is the one with which the script starts, and all exceptions are known
pub record StaysKnown (script : Script) (s : Settled) : Type 0 where
  pub table : s.carry.texts ≡ opening_texts script
  pub settled : IsTextedSettled (written_in script) (known_in script) s

-- where all exceptions are known, the texts that a `try` binds stand in the table, so that it stays as it is
abbrev pub KnownStay : Type 0
KnownStay = (script : Script) (came : Outcome) (rest : List Work) (c : Carry) → HasFailureTexts script → c.texts ≡ opening_texts script
    → IsHeldOutcome (known_in script) came → IsTextedWork (written_in script) (known_in script) rest → AreHeldValues (known_in script) c.variables
    → StaysKnown script (passed came rest c)
