use Rattle.run_queue.proofs.GoingOff.{timers_go_off_in_order}
use Rattle.run_queue.proofs.laws.timers_go_off_in_order.Goals as goal

pub returns : goal.returns
returns c = timers_go_off_in_order
