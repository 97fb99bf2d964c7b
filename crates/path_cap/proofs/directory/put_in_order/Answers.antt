use Rattle.std.proofs.Common.{◌<◌, length, arith}
use Rattle.path_cap.proofs.Putting.{put_over}
use Rattle.path_cap.proofs.directory.put_in_order.Goals as goal

pub returns-in-Equal-clause-ok : goal.returns-in-Equal-clause-ok
returns-in-Equal-clause-ok c =
    let within : c.loop-at.at < length c.loop-at.entries.items = omega arith in
    put_over c.loop-at.entries.items c.args.entries.now.items c.loop-at.at c.args.item c.index.result.now c.name.result.now c.name-in-loop-at.result.now c.loop-at.invariant within c.index.ensures c.name.ensures c.name-in-loop-at.ensures c.in-Equal.ensures
