use Rattle.std.proofs.Common.{sym, ◌∙◌}
use Rattle.script_declarations.proofs.EntriesRead.{name_goes, name_stops, name_nowhere, any_in}
use Rattle.script_declarations.proofs.entries.is_taken.Goals as goal

pub returns-then-eq : goal.returns-then-eq
returns-then-eq c = name_stops c.args.before.now c.args.name.now c.loop-entry.entry-index c.entry-item.result _ _ c.loop-entry-test.true c.entry-item.is (sym c.own_name.ensures) (sym c.eq.ensures ∙ c.if-eq.true) (c.loop-entry.invariant ∙ sym (any_in c.args.name.now c.args.before.now))

pub loop-entry-preserved : goal.loop-entry-preserved
loop-entry-preserved c = name_goes c.args.before.now c.args.name.now c.loop-entry.entry-index c.entry-item.result _ _ c.loop-entry-test.true c.entry-item.is (sym c.own_name.ensures) (sym c.eq.ensures ∙ c.if-eq.false) c.loop-entry.invariant

pub returns : goal.returns
returns c = name_nowhere c.args.before.now c.args.name.now c.loop-entry.entry-index _ c.loop-entry-test.false (c.loop-entry.invariant ∙ sym (any_in c.args.name.now c.args.before.now))
