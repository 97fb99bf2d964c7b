-- What a call names was made.
use Rattle.std.proofs.Common.{List, length, sym, subst, ltb-true}
use Rattle.spec_fiber.specs.Asks as ask
use Rattle.spec_fiber.specs.Asks.{Ask}
use Rattle.spec_fiber.specs.Settling.{Settled}
use Rattle.spec_machine.specs.Domain.{DomainState, off_for}
use Rattle.spec_script.specs.Kinds.{Kind}
use Rattle.spec_script.specs.Scripts.{Script}
use Rattle.law_fiber.specs.Kinded.Kinds.{HasKindsOfCall, HasKindsOfSettled}
use Rattle.law_domain.specs.Kinded.KindedStates.{made_facts}
use Rattle.law_domain.specs.Kinded.Laws.{NamedWereMade, WereMade}
use Rattle.law_domain.proofs.Kinded.Keeping.{calls_by}

were_made : (script : Script) (l : DomainState) (slots : List Kind) (call : Ask) → HasKindsOfCall (made_facts script (length l.switches) (length l.contexts)) slots call → WereMade l call
were_made script l slots (ask.Cancel context text) has = ltb-true context (length l.contexts) has
were_made script l slots (ask.Fork forking switch body) has = ltb-true switch (length l.switches) has.1
were_made script l slots (ask.Fail switch text) has = ltb-true switch (length l.switches) has
were_made script l slots (ask.OnRelease switch handler) has = ltb-true switch (length l.switches) has.0
were_made script l slots call has = tt

pub named_were_made : NamedWereMade
named_were_made script l g others kinded it = (
    let has : HasKindsOfSettled (made_facts script (length l.switches) (length l.contexts)) it.settled =
    subst (λ (s : Settled). HasKindsOfSettled (made_facts script (length l.switches) (length l.contexts)) s) (sym it.settles)
    (calls_by script l kinded g it.next (off_for l g) it.may) in
    were_made script l has.slots it.settled.call has.call)
