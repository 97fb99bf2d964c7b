use Rattle.std.proofs.Common.{◌∷◌, refl, ap}
use Rattle.std.proofs.lemmas.Result.{err_from_is_err_and}
use Rattle.spec_script.specs.Syntax as syntax
use Rattle.spec_script.specs.Statements.{form}
use Rattle.script_forms.specs.Flat.{flat_statement, flat_expressions}
use Rattle.script_forms.specs.declared.node.Node.TheVariants as node
use Rattle.script_draft.proofs.Steps.{fails_first, fill_stated}
use Rattle.script_statements.proofs.silent_forms.trace_form.Goals as goal

pub returns-in_err-operands-clause-reads : goal.returns-in_err-operands-clause-reads
unfolding form
returns-in_err-operands-clause-reads c =
    let p = err_from_is_err_and c.from_residual.result c.from_residual.ensures.1 in
    rw (p.1, p.2) (λ last at word. fails_first _ _ _ c.in_err-operands.ensures.reads)

pub returns-clause-reads : goal.returns-clause-reads
unfolding form flat_statement
returns-clause-reads c = λ last at word.
    let read = c.in_ok-operands.ensures.reads in
    fill_stated _ c.args.scope.now c.args.opened c.args.draft.now c.traced.new.draft c.fill.new.self (syntax.Trace read.value) (node.Trace c.in_ok-operands.operands) (flat_expressions read.value) c.requires.opened
    (rw read.gives refl)
    read.grows c.fill.ensures (ap (λ n. node.Trace n ∷ flat_expressions read.value) read.counted)
