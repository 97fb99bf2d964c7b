-- Who waits in the `close` of a switch, in code and in the definition.
use Rattle.switch_core.specs.declared.switch.Closer.{Closer}
use Rattle.switch_core.specs.declared.switch.Closer.TheVariants.{Nobody, ForFibers, ForDaemons}
use Rattle.spec_parts.specs.Switches as model

abbrev pub closer_of : Closer → model.Closer
closer_of Nobody = model.Nobody
closer_of (ForFibers closer) = model.ForFibers closer
closer_of (ForDaemons closer) = model.ForDaemons closer
