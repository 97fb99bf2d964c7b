use Rattle.object_core.proofs.Ignoring.{asks_nobody, try_lock_ignores, poisoned}
use Rattle.object_core.proofs.calls.call_lock.Goals as goal

pub returns-in-TryLock-clause-meets : goal.returns-in-TryLock-clause-meets
returns-in-TryLock-clause-meets g c =
    rw (c.in-TryLock.is, c.requires.quiet) (asks_nobody _ _ _ c.args.who c.args.off _ _ (try_lock_ignores _ c.args.serial _) (c.try_lock.ensures.tries c.args.who c.args.off c.in-TryLock.field-0))

pub returns-in-Poison-clause-meets : goal.returns-in-Poison-clause-meets
returns-in-Poison-clause-meets g c =
    rw (c.in-Poison.is, c.requires.quiet) (poisoned _ _ _ _ _ c.args.who c.args.off c.args.serial c.in-Poison.field-0 c.requires.kind (c.poison.ensures.poisons c.args.who c.args.off c.in-Poison.field-0 c.args.serial))
