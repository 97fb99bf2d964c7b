use Rattle.eio_value.proofs.RaisedLaws.{combine_with_itself}
use Rattle.eio_value.proofs.laws.combine_with_itself.Goals as goal

pub returns : goal.returns
returns c = combine_with_itself
