-- What a contract sees of the lists: a list as `spec_parts` defines it, and the most that may stand in it.
use Rattle.std.specs.Prelude.{ℕ, List}
use Rattle.spec_parts.specs.Timers.{Timers}

-- the fibers that can move, the one that moves next first
pub record ReadyList : Type 0 where
  pub fibers : List ℕ
  pub most : ℕ

-- the timers, and how many were made
pub record TimerList : Type 0 where
  pub timers : Timers
  pub most : ℕ
