use Rattle.std.proofs.Common.{◌≤◌, true, length}
use Rattle.domain_core.specs.Objects.{AreFor}
use Rattle.mock_backend.specs.Objects.{terms_of, is_open_in}
use Rattle.mock_backend.proofs.Running.{IsPart}
use Rattle.mock_backend.proofs.run.run_domain.Given as goal

abbrev pub invariant-running : goal.invariant-running
invariant-running g l = record {
  part : IsPart l.script l.steps (g.K.Sink.held l.fn.sink) (g.K.Sink.held l.sink) l.out l.made l.texts l.domain;
  fits : AreFor l.domain true (terms_of l.objects) 0 (is_open_in l.objects);
  own : length l.script.texts ≤ length l.texts;
  later : g.K.Sink.faults l.fn.sink ≤ g.K.Sink.faults l.sink;
}
