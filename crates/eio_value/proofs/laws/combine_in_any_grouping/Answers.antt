use Rattle.eio_value.proofs.RaisedLaws.{combine_in_any_grouping}
use Rattle.eio_value.proofs.laws.combine_in_any_grouping.Goals as goal

pub returns : goal.returns
returns c = combine_in_any_grouping
