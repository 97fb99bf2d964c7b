-- Where the live contexts are kept: their numbers, in order, each with its key.
use Rattle.std.specs.Prelude.{ℕ, ◌<◌, true, false, ◌==◌, List, [], ◌∷◌, Option, Some, None}
use Rattle.cancel_tree.specs.declared.kept.ContextKey.{ContextKey}

-- the place of a number
abbrev pub place_at : List ContextKey → ℕ → Option ContextKey
place_at [] c = None
place_at (place ∷ places) c = elim (place.number == c) [ true ↦ Some place | false ↦ place_at places c ]

-- each has a number above this
abbrev pub AreAbove : ℕ → List ContextKey → Type 0
AreAbove c [] = Unit {0}
AreAbove c (place ∷ places) = (c < place.number) × AreAbove c places

-- each has a number below this
abbrev pub AreBelow : ℕ → List ContextKey → Type 0
AreBelow c [] = Unit {0}
AreBelow c (place ∷ places) = (place.number < c) × AreBelow c places

-- the numbers rise
abbrev pub Rise : List ContextKey → Type 0
Rise [] = Unit {0}
Rise (place ∷ places) = AreAbove place.number places × Rise places
