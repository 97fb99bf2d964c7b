use Rattle.std.proofs.Common.{◌-◌, ◌<◌, length, arith, rules}
use Rattle.buf_flow.proofs.Lines.{without_cr-cr, without_cr-whole}
use Rattle.buf_flow.proofs.line.line_len.Goals as goal

pub returns-then-line-last-eq13-clause-given : goal.returns-then-line-last-eq13-clause-given
returns-then-line-last-eq13-clause-given c =
    let some : 0 < length c.args.line.now = search rules in
    without_cr-cr c.args.line.now (length c.args.line.now - 1) (omega arith) c.if-line-last-eq13.true

pub returns-else-line-last-eq13-clause-given : goal.returns-else-line-last-eq13-clause-given
returns-else-line-last-eq13-clause-given c =
    let some : 0 < length c.args.line.now = search rules in
    without_cr-whole c.args.line.now (length c.args.line.now - 1) (omega arith) c.if-line-last-eq13.false
