-- What a script means, the places of its tree aside.
use Rattle.std.specs.Prelude.{◌≡◌, ℕ, map, option_map, Result, Ok, Err}
use Rattle.spec_script.specs.Faults.{ScriptFault, Shape, Size, Twice, Name}
use Rattle.spec_script.specs.Reads.{Formed}
use Rattle.spec_script.specs.Scripts.{Script, script_of}
use Rattle.spec_script.specs.Trees.{Tree}
use Rattle.law_script.specs.Trees.Places.{bare}

-- two scripts that differ at most in their forms and in the place of their first further body: these decide what is
-- refused, and not how a script runs
pub record MeanTheSame (a b : Script) : Type 0 where
  pub version : a.version ≡ b.version
  pub names : a.names ≡ b.names
  pub declarations : a.declarations ≡ b.declarations
  pub bodies : a.bodies ≡ b.bodies
  pub texts : a.texts ≡ b.texts
  pub failures : a.failures ≡ b.failures

-- a form with its place set to 0, and a place so
abbrev pub bare_formed : Formed → Formed
bare_formed formed = record formed { at = 0 }

abbrev pub bare_place : ℕ → ℕ
bare_place at = 0

-- two scripts that are the same, places aside
pub record IsSameScript (a b : Script) : Type 0 where
  pub meaning : MeanTheSame a b
  pub formed : map bare_formed a.formed ≡ map bare_formed b.formed
  pub first_domain : option_map bare_place a.first_domain ≡ option_map bare_place b.first_domain

-- a fault's reason, its place aside
pub data Reason : Type 0 where
  OfShape : Reason
  OfSize : Reason
  OfTwice : Reason
  OfName : Reason

abbrev pub reason_of : ScriptFault → Reason
reason_of (Shape at) = OfShape
reason_of (Size at) = OfSize
reason_of (Twice at) = OfTwice
reason_of (Name at) = OfName

-- two trees stand for the same script, places aside, or are both refused, for the same reason
abbrev pub ReadAlike : Result Script ScriptFault → Result Script ScriptFault → Type 0
ReadAlike (Ok a) (Ok b) = IsSameScript a b
ReadAlike (Err e) (Err f) = reason_of e ≡ reason_of f
ReadAlike a b = ⊥

-- trees that are the same but for their places are read alike
abbrev pub PlacesDontCount : Type 0
PlacesDontCount = (a b : Tree) → bare a ≡ bare b → ReadAlike (script_of a) (script_of b)
