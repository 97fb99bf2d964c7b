use Rattle.std.proofs.Common.{rules}
use Rattle.trace_out.proofs.Appended.{appends_slice}
use Rattle.trace_out.proofs.writing.write_all.Goals as goal

pub writing-preserved : goal.writing-preserved
writing-preserved g c = record {
  within = search rules;
  written = appends_slice _ _ _ _ _ _ c.writing.invariant.within c.writing.invariant.written c.in-Ok.ensures.bytes;
  later = search rules;
}
