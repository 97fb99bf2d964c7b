use Rattle.path_cap.proofs.Ordered.{declared_in_order, change_in_order}
use Rattle.path_cap.proofs.laws.names_stay_in_order.Goals as goal

pub returns-clause-declared : goal.returns-clause-declared
returns-clause-declared c = λ items. declared_in_order items

pub returns-clause-changed : goal.returns-clause-changed
returns-clause-changed c = λ tree capability change order. change_in_order tree capability change order
