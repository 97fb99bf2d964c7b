-- What the calls on switches answer, in code and in the definition.
use Rattle.switch_core.specs.declared.answers.CloseStep.{CloseStep}
use Rattle.switch_core.specs.declared.answers.CloseStep.TheVariants.{Wait, CancelDaemons, RunHandler, Return, Raise}
use Rattle.switch_core.specs.declared.answers.ReleaseFault.{ReleaseFault}
use Rattle.switch_core.specs.declared.answers.ReleaseFault.TheVariants.{Finished, NoMemory}
use Rattle.spec_parts.specs.Switches as model

-- the next step of `close`
abbrev pub step_of : CloseStep → model.CloseStep
step_of Wait = model.Wait
step_of CancelDaemons = model.CancelDaemons
step_of (RunHandler handler) = model.RunHandler handler
step_of Return = model.Return
step_of (Raise raised) = model.Raise raised

-- the handler that comes back
abbrev pub handler_in : ReleaseFault → model.Handler
handler_in (Finished handler) = handler
handler_in (NoMemory handler) = handler
