-- Steps that may end in a fault, one behind the other.
use Rattle.std.specs.Prelude.{Result, Ok, Err}

-- a result is handed to the next step; a fault is the answer of all
infixl 10 ◌>>=◌
abbrev pub ◌>>=◌ : {A B E : Type 0} → Result A E → (A → Result B E) → Result B E
(Ok x) >>= f = f x
(Err e) >>= f = Err e
