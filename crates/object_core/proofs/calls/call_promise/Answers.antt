use Rattle.std.proofs.Common.{refl}
use Rattle.object_core.proofs.Ignoring.{asks_nobody, resolve_ignores, try_resolve_ignores}
use Rattle.object_core.proofs.calls.call_promise.Goals as goal

pub returns-in-Resolve-clause-meets : goal.returns-in-Resolve-clause-meets
returns-in-Resolve-clause-meets g c =
    rw (c.in-Resolve.is, c.requires.quiet, c.resolved.ensures)
    (asks_nobody _ _ _ c.args.who c.args.off _ _ (resolve_ignores _ c.args.serial _ _) (c.resolve.ensures.resolves c.args.who c.args.off c.in-Resolve.field-0 c.args.serial))

pub returns-in-TryResolve-clause-meets : goal.returns-in-TryResolve-clause-meets
returns-in-TryResolve-clause-meets g c =
    rw (c.in-TryResolve.is, c.requires.quiet, c.tried.ensures)
    (asks_nobody _ _ _ c.args.who c.args.off _ _ (try_resolve_ignores _ c.args.serial _ _) (c.resolve-in-TryResolve.ensures.tries c.in-TryResolve.value refl c.args.who c.args.off c.in-TryResolve.field-0 c.args.serial))
