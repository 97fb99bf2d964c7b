use Rattle.law_domain.proofs.Sound.ScopesSettle.{scopes_settle}
use Rattle.law_domain.proofs.sound_laws.scopes_settle.Goals as goal

pub returns : goal.returns
returns c = scopes_settle
