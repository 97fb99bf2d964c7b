use Rattle.eio_value.proofs.RaisedLaws.{combine_is_held}
use Rattle.eio_value.proofs.laws.combine_is_held.Goals as goal

pub returns : goal.returns
returns c = combine_is_held
