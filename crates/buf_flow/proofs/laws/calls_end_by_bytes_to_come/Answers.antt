use Rattle.buf_flow.proofs.Moving.{calls_end_by_bytes_to_come}
use Rattle.buf_flow.proofs.laws.calls_end_by_bytes_to_come.Goals as goal

pub returns : goal.returns
returns c = calls_end_by_bytes_to_come
