use Rattle.law_parts.proofs.Walks.{off_walks}
use Rattle.law_parts.proofs.Staying.{parents_stay_older, no_parents}
use Rattle.spec_parts.specs.ContextCalls.{no_contexts, after}
use Rattle.law_parts.proofs.off_walks_up.Goals as goal

pub returns : goal.returns
returns c = λ calls x may. off_walks (after calls no_contexts).made (parents_stay_older calls no_contexts no_parents may) x
