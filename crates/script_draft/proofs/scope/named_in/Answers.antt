use Rattle.std.proofs.Common.{refl, sym, ◌∙◌}
use Rattle.script_draft.proofs.ScopesSeen.{named_goes, named_stops, named_nowhere}
use Rattle.script_draft.proofs.scope.named_in.Goals as goal

pub returns-then-eq : goal.returns-then-eq
returns-then-eq c = named_stops c.args.names.now c.args.name.now c.loop-it.it-index _ _ _ c.loop-it-test.true refl (sym c.eq.ensures ∙ c.if-eq.true) c.loop-it.invariant

pub loop-it-preserved : goal.loop-it-preserved
loop-it-preserved c = named_goes c.args.names.now c.args.name.now c.loop-it.it-index _ _ _ c.loop-it-test.true refl (sym c.eq.ensures ∙ c.if-eq.false) c.loop-it.invariant

pub returns : goal.returns
returns c = named_nowhere c.args.names.now c.args.name.now c.loop-it.it-index _ c.loop-it-test.false c.loop-it.invariant
