-- What a read of a scripted flow gives: the step that it spends, and the end where none is left.
use Rattle.std.specs.Prelude.{Option, Some, None}
use Rattle.eio_value.specs.declared.flow_step.FlowStep.{FlowStep}
use Rattle.eio_value.specs.declared.flow_step.FlowStep.TheVariants as step
use Rattle.buf_flow.specs.declared.flow.FlowRead.{FlowRead}
use Rattle.buf_flow.specs.declared.flow.FlowRead.TheVariants.{Data, Fault, Pause, End}

abbrev pub read_of : Option FlowStep → FlowRead
read_of (Some (step.Data bytes)) = Data bytes
read_of (Some (step.Fault text)) = Fault text
read_of (Some step.Pause) = Pause
read_of None = End
