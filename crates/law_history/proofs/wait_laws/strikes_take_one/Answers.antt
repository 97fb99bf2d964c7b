use Rattle.law_history.proofs.Waits.Strikes.{strikes_take_one, lost_strikes_take_none}
use Rattle.law_history.proofs.wait_laws.strikes_take_one.Goals as goal

pub returns-clause-won : goal.returns-clause-won
returns-clause-won c = strikes_take_one

pub returns-clause-lost : goal.returns-clause-lost
returns-clause-lost c = lost_strikes_take_none
