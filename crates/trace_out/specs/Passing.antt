-- What a buffer has passed on to a sink.
use Rattle.std.specs.Prelude.{◌≡◌, ℕ, List, ◌++◌}
use Rattle.std.specs.declared.option.Option.{Option}
use Rattle.std.specs.Io.KnownBytes.{Appends}

-- a sink has grown by a front of what was held back and of the bytes behind it, and the rest is held back
pub record PassesOn (old new : Option (List ℕ)) (held_back bytes rest : List ℕ) : Type 0 where
  pub written : List ℕ
  pub appended : Appends old new written
  pub whole : written ++ rest ≡ held_back ++ bytes

-- how many bytes a buffer holds back at most
abbrev pub most_pending : ℕ
most_pending = 4096
