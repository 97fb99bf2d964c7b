use Rattle.std.proofs.Common.{◌∙◌, ap, sym, length}
use Rattle.domain_core.proofs.Seen.{made_seen}
use Rattle.domain_core.proofs.fibers.Fibers.made.Goals as goal

pub returns : goal.returns
returns c = c.len.ensures ∙ (c.self.inside.keys.ok.0 ∙ (sym (made_seen c.self.inside.keys.items c.self.inside.kept c.self.inside.thrown) ∙ ap length c.self.view_is))
