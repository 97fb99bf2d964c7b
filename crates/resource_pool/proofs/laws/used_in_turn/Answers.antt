use Rattle.resource_pool.proofs.Using.{used_in_turn, idle_stand_once}
use Rattle.resource_pool.proofs.laws.used_in_turn.Goals as goal

pub returns-clause-turns : goal.returns-clause-turns
returns-clause-turns c = used_in_turn

pub returns-clause-idle : goal.returns-clause-idle
returns-clause-idle c = idle_stand_once
