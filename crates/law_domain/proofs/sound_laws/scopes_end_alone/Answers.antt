use Rattle.law_domain.proofs.Sound.EndingAlone.{body_ends_alone, scopes_end_alone}
use Rattle.law_domain.proofs.sound_laws.scopes_end_alone.Goals as goal

pub returns-clause-scopes : goal.returns-clause-scopes
returns-clause-scopes c = scopes_end_alone

pub returns-clause-body : goal.returns-clause-body
returns-clause-body c = body_ends_alone
