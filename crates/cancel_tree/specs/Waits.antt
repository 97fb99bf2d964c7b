-- Which fibers wait, and where.
use Rattle.std.specs.Prelude.{ℕ, Bool, ◌==◌, List}
use Rattle.std.specs.List.{list_any}
use Rattle.spec_parts.specs.Contexts.{Waiting}

-- the fiber waits
abbrev pub waits : ℕ → List Waiting → Bool
waits fiber waiting = list_any (λ w. w.fiber == fiber) waiting

-- some fiber waits in this context
abbrev pub waits_in : ℕ → List Waiting → Bool
waits_in c waiting = list_any (λ w. w.context == c) waiting
