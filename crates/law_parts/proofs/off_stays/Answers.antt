use Rattle.law_parts.proofs.Staying.{parents_stay_older, no_parents, off_stays_after}
use Rattle.spec_parts.specs.ContextCalls.{no_contexts, after}
use Rattle.law_parts.proofs.off_stays.Goals as goal

pub returns : goal.returns
returns c = λ calls more x why may further e. off_stays_after more (after calls no_contexts) (parents_stay_older calls no_contexts no_parents may) further x why e
