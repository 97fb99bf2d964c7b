use Rattle.law_parts.proofs.Cancelling.{cancels_below}
use Rattle.law_parts.proofs.Staying.{parents_stay_older, no_parents}
use Rattle.spec_parts.specs.ContextCalls.{no_contexts, after}
use Rattle.law_parts.proofs.cancels_below.Goals as goal

pub returns : goal.returns
returns c = λ calls cancelled why x may effect. cancels_below (after calls no_contexts).made cancelled why x (parents_stay_older calls no_contexts no_parents may) effect
