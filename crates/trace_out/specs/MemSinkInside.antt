-- How a sink in memory is kept.
use Rattle.std.specs.Prelude.{◌≤◌, vec_len, vec_capacity}
use Rattle.trace_out.specs.Devices.{Memory}
use Rattle.trace_out.specs.declared.mem_sink.MemSink.TheInside.{Inside}

-- what callers see of it
abbrev pub memory_of : Inside → Memory
memory_of s = record { held = s.bytes.items; room = s.room; most = s.most; failing = s.failing.items; calls = s.calls; faults = s.faults }

-- its bytes fit in its room, for which memory is reserved
pub record IsReserved (s : Inside) : Type 0 where
  pub within : vec_len s.bytes ≤ s.room
  pub reserved : s.room ≤ vec_capacity s.bytes
