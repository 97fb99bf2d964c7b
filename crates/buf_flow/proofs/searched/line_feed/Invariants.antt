use Rattle.buf_flow.specs.LineFeeds.{HasNoLineFeed}
use Rattle.buf_flow.proofs.searched.line_feed.Given as goal

abbrev pub invariant-loop-place : goal.invariant-loop-place
invariant-loop-place l = HasNoLineFeed l.place l.bytes
