-- What was put so far is the front of the bytes up to `at`, and the count of faults has not fallen.
use Rattle.std.proofs.Common.{length, ◌+◌, ◌-◌, ◌≤◌, take}
use Rattle.trace_out.specs.Passing.{PassesOn}
use Rattle.trace_out.proofs.buffer.Out.put.Given as goal

abbrev pub invariant-filling : goal.invariant-filling
invariant-filling g l =
    record {
      within : l.at ≤ length l.bytes;
      passed : PassesOn (g.K.Sink.held l.fn.sink) (g.K.Sink.held l.sink) l.fn.self (take l.at l.bytes) l.self;
      later : g.K.Sink.faults l.fn.sink ≤ g.K.Sink.faults l.sink;
    }

-- each turn writes what is held back, 4,096 bytes after it was filled
abbrev pub decreases-filling : goal.decreases-filling
decreases-filling g l = (length l.bytes - l.at) + length l.self
