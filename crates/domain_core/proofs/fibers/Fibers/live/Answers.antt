use Rattle.std.proofs.Common.{◌∙◌, ap}
use Rattle.std.specs.Prelude.{count_by, is_some}
use Rattle.domain_core.proofs.Seen.{live_seen}
use Rattle.domain_core.proofs.fibers.Fibers.live.Goals as goal

pub returns : goal.returns
returns c = c.len.ensures ∙ (live_seen c.self.inside.keys.items c.self.inside.kept c.self.inside.thrown c.self.invariant.0 ∙ ap (count_by is_some) c.self.view_is)
