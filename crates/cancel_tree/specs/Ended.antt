-- What the end of a context leaves.
use Rattle.std.specs.Prelude.{ℕ}
use Rattle.spec_parts.specs.ContextCalls.{Contexts}
use Rattle.cancel_tree.specs.Endings.{without}

-- the context has ended, and all else of it is forgotten
abbrev pub left_by_end : ℕ → Contexts → Contexts
left_by_end c s = record s { made = without c s.made }
