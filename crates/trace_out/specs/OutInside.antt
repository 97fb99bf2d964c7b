-- How a buffer is kept.
use Rattle.std.specs.Prelude.{◌≤◌, vec_len, vec_capacity}
use Rattle.trace_out.specs.Passing.{most_pending}
use Rattle.trace_out.specs.declared.buffer.Out.TheInside.{Inside}

-- it fits in the memory that was reserved for it
pub record IsReserved (s : Inside) : Type 0 where
  pub within : vec_len s.pending ≤ most_pending
  pub reserved : most_pending ≤ vec_capacity s.pending
