use Rattle.std.proofs.Common.{arith}
use Rattle.buf_flow.proofs.Lines.{first_line_feed, no_line_feed}
use Rattle.buf_flow.proofs.searched.line_feed.Goals as goal

pub returns-then-bytes-place-eq10-clause-first : goal.returns-then-bytes-place-eq10-clause-first
returns-then-bytes-place-eq10-clause-first c = first_line_feed c.args.bytes.now c.loop-place.place c.loop-place.invariant (omega arith) c.if-bytes-place-eq10.true

pub returns-clause-first : goal.returns-clause-first
returns-clause-first c = no_line_feed c.args.bytes.now c.loop-place.place c.loop-place.invariant (omega arith)
