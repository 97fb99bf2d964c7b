-- The numbers of raises. A domain gives each raise the next number of its counter.
use Rattle.std.specs.Prelude.{◌≡◌, ℕ, ◌+◌, ◌≤◌, ◌<◌, ◌⊎◌, List, [], ◌∷◌, length, Some}
use Rattle.std.specs.List.{Contains}
use Rattle.eio_value.specs.declared.plain.Member.{Member}
use Rattle.spec_script.specs.Scripts.{Script}
use Rattle.spec_machine.specs.Mock.{Mock, Moved, move}
use Rattle.spec_machine.specs.Trace.{run}
use Rattle.law_run.specs.Exceptions.{IsIn, IsTold}

-- the counter never falls
abbrev pub SerialsRise : Type 0
SerialsRise = (script : Script) (m : Mock) (moved : Moved) → move script m ≡ Some moved → m.local.serial ≤ moved.next.local.serial

-- these raises have the numbers from one up to another, each the next one, in order
abbrev pub AreNumbered : (from : ℕ) → List Member → (to : ℕ) → Type 0
AreNumbered from [] to = from ≡ to
AreNumbered from (x ∷ raises) to = (x.serial ≡ from) × AreNumbered (from + 1) raises to

-- the raises of a move, also those that are caught in it, have the numbers from the old counter up to the new one
abbrev pub RaisesAreCounted : Type 0
RaisesAreCounted = (script : Script) (m : Mock) (moved : Moved) → move script m ≡ Some moved → AreNumbered m.local.serial moved.raises moved.next.local.serial

-- so the counter rises by how many they are
abbrev pub SerialsRiseByRaises : Type 0
SerialsRiseByRaises = (script : Script) (m : Mock) (moved : Moved) → move script m ≡ Some moved → moved.next.local.serial ≡ m.local.serial + length moved.raises

-- an exception is one of the raises of a move, and has a number that the counter gave in it
pub record IsRaisedBy (before : Mock) (moved : Moved) (x : Member) : Type 0 where
  pub listed : Contains moved.raises x
  pub from : before.local.serial ≤ x.serial
  pub below : x.serial < moved.next.local.serial

-- an exception that stands in a state of a run stood in the state before, or was raised in the move between them
abbrev pub RaisesAreNumbered : Type 0
RaisesAreNumbered =
    (script : Script) (n : ℕ) (moved : Moved) → move script (run script n).last ≡ Some moved → (x : Member) → IsIn x moved.next
    → IsIn x (run script n).last ⊎ IsRaisedBy (run script n).last moved x

-- so was one that the line of the move tells
abbrev pub LinesTellNumbered : Type 0
LinesTellNumbered =
    (script : Script) (n : ℕ) (moved : Moved) → move script (run script n).last ≡ Some moved → (x : Member) → IsTold x moved.line
    → IsIn x (run script n).last ⊎ IsRaisedBy (run script n).last moved x

-- all exceptions of a state have numbers below the counter, and no two of them one number
pub record HasOwnNumbers (m : Mock) : Type 0 where
  pub below : (x : Member) → IsIn x m → x.serial < m.local.serial
  pub own : (x y : Member) → IsIn x m → IsIn y m → x.serial ≡ y.serial → x ≡ y

abbrev pub RaisesAreApart : Type 0
RaisesAreApart = (script : Script) (n : ℕ) → HasOwnNumbers (run script n).last

-- a number names one exception in the whole run: also in two states of which one comes later
abbrev pub NumbersAreNotReused : Type 0
NumbersAreNotReused =
    (script : Script) (n k : ℕ) (x y : Member) → IsIn x (run script n).last → IsIn y (run script (n + k)).last → x.serial ≡ y.serial → x ≡ y
