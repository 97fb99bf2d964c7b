-- Attached fibers by number, each with the time of its attaching, and their row in the order of attaching.
use Rattle.std.specs.Prelude.{ℕ, ◌<◌, nat_lt, if◌then◌else◌, List, [], ◌∷◌, map}
use Rattle.std.specs.List.{AllByRecursion}
use Rattle.std.specs.List.Sorted.{IsStrictlySortedBy}
use Rattle.std.specs.Map.{keys_of}
use Rattle.std.specs.Ordering.{nat_cmp}

-- a fiber and the time of its attaching
abbrev pub Entry : Type 0
Entry = ℕ × ℕ

-- with one more, behind those that were attached earlier
abbrev pub put : Entry → List Entry → List Entry
put e [] = e ∷ []
put e (y ∷ ys) = (if nat_lt y.1 e.1 then y ∷ put e ys else e ∷ y ∷ ys)

-- the one that was attached first comes first
abbrev pub in_order : List Entry → List Entry
in_order [] = []
in_order (e ∷ es) = put e (in_order es)

-- the fibers, in the order of attaching
abbrev pub fibers_of : List Entry → List ℕ
fibers_of es = map (λ e. e.0) (in_order es)

-- all of them were attached before this time
abbrev pub AreBefore : ℕ → List Entry → Type 0
AreBefore time es = AllByRecursion (λ e. e.1 < time) es

-- each fiber stands there once, and the next one is attached after all of them
pub record AreTimed (es : List Entry) (next : ℕ) : Type 0 where
  pub apart : IsStrictlySortedBy nat_cmp (keys_of es)
  pub before : AreBefore next es
