use Rattle.eio_value.proofs.RaisedLaws.{cancelled_gives_way}
use Rattle.eio_value.proofs.laws.cancelled_gives_way.Goals as goal

pub returns : goal.returns
returns c = cancelled_gives_way
