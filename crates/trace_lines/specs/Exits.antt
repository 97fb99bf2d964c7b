-- The exit status of each way in which a run ends.
use Rattle.std.specs.Prelude.{ℕ}
use Rattle.trace_lines.specs.declared.status.Status.{Status}
use Rattle.trace_lines.specs.declared.status.Status.TheVariants.{Ok, Raised, Refused, Deadlock, OutOfSteps, ReadFault, WriteFault, NoMemory, Usage, Limit, NotLegal}

-- 0 where the main fiber returned, and a number of its own for each other ending
abbrev pub exit_code : Status → ℕ
exit_code Ok = 0
exit_code Raised = 1
exit_code Refused = 2
exit_code Deadlock = 3
exit_code OutOfSteps = 4
exit_code ReadFault = 5
exit_code WriteFault = 6
exit_code NoMemory = 7
exit_code Usage = 8
exit_code Limit = 9
exit_code NotLegal = 10
