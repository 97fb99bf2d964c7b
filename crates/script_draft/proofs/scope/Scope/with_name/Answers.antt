use Rattle.std.proofs.lemmas.Result.{err_from_is_err_and}
use Rattle.script_draft.proofs.scope.Scope.with_name.Goals as goal

pub returns-in_err-bring-clause-reads : goal.returns-in_err-bring-clause-reads
returns-in_err-bring-clause-reads c =
    let p = err_from_is_err_and c.from_residual-in_err-bring.result c.from_residual-in_err-bring.ensures.1 in
    rw (p.1, p.2) (rw c.in_ok-inner.ensures at c.in_err-bring.ensures.reads)

pub returns-clause-reads : goal.returns-clause-reads
returns-clause-reads c = rw c.in_ok-inner.ensures at c.in_ok-bring.ensures.reads
