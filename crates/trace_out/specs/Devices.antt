-- Sources and sinks in memory, which number their calls and fail at those that they are told to.
use Rattle.std.specs.Prelude.{ℕ, ◌+◌, ◌-◌, ◌^◌, min, List, length, Bool, ◌||◌, ◌==◌, nat_eq, nat_le}
use Rattle.std.specs.List.{list_any}

-- a count after one more, which stays at the greatest number of a u64
abbrev pub next_count : ℕ → ℕ
next_count n = min (n + 1) (2 ^ 64 - 1)

-- whether a call's number is among the failing ones
abbrev pub is_among : List ℕ → ℕ → Bool
is_among failing call = list_any (nat_eq call) failing

-- a sink in memory, as callers see it
pub record Memory : Type 0 where
  pub held : List ℕ
  pub room : ℕ
  pub most : ℕ
  pub failing : List ℕ
  pub calls : ℕ
  pub faults : ℕ

-- a write fails where its number is among the failing ones, where no byte may be taken, or where the room is used up
abbrev pub is_refused : List ℕ → (call most room held : ℕ) → Bool
is_refused failing call most room held = is_among failing call || most == 0 || nat_le room held

-- whether the next write fails
unfoldable pub write_fails : Memory → Bool
write_fails m = is_refused m.failing (next_count m.calls) m.most m.room (length m.held)

-- how many bytes of a piece the next write takes, where it doesn't fail
abbrev pub write_count : Memory → List ℕ → ℕ
write_count m piece = min m.most (min (length piece) (m.room - length m.held))
