use Rattle.law_parts.proofs.Items.{items_in_order}
use Rattle.law_parts.proofs.items_in_order.Goals as goal

pub returns : goal.returns
returns c = items_in_order
