use Rattle.std.proofs.lemmas.Result.{on_ok_weaker}
use Rattle.spec_machine.specs.Moves.{own_call}
use Rattle.spec_machine.specs.Steps.{does}
use Rattle.script_forms.specs.Flat.{nodes_of}
use Rattle.trace_lines.specs.declared.line.Did.TheVariants as did
use Rattle.domain_core.proofs.Composing.{makes_off, makes_on}
use Rattle.domain_core.proofs.domain.Domain.check.Goals as goal

pub returns-in-Some-clause-answers : goal.returns-in-Some-clause-answers
unfolding own_call
returns-in-Some-clause-answers c =
    on_ok_weaker c.raise_cancelled.result
    (λ makes script. makes_off (nodes_of script) did.Check c.args.fiber (λ l ignored. does did.Check c.args.fiber l) c.in-Some.why _ _ _ c.in-Some.ensures (makes (nodes_of script)))
    c.raise_cancelled.ensures.makes

pub returns-in-None-clause-answers : goal.returns-in-None-clause-answers
unfolding own_call
returns-in-None-clause-answers c script =
    makes_on (nodes_of script) did.Check c.args.fiber (λ l ignored. does did.Check c.args.fiber l) _ _ _ c.in-None.ensures (c.give.ensures.makes (nodes_of script))
