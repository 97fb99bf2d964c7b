use Rattle.std.proofs.Common.{refl, sym, ◌∙◌}
use Rattle.script_draft.specs.Ahead.{ahead}
use Rattle.script_declarations.proofs.DeclarationsRead.{goes_on, from_passed, is_end_from}
use Rattle.script_draft.proofs.Within.{within_here, within_past}
use Rattle.script_lang.proofs.reader.find_main.Goals as goal

pub loop-cursor-init : goal.loop-cursor-init
loop-cursor-init c = record { within = within_here _; main = refl }

pub skip-requires : goal.skip-requires
skip-requires c = goes_on c.loop-cursor.cursor (sym c.is_at_end.ensures ∙ c.loop-cursor-test.true)

pub loop-cursor-preserved : goal.loop-cursor-preserved
loop-cursor-preserved c = record {
  within = within_past c.args.cursor.now c.loop-cursor.cursor c.skip.new.cursor c.loop-cursor.invariant.within c.skip.ensures;
  main = from_passed c.loop-cursor.cursor c.skip.new.cursor (sym c.is_at_end.ensures ∙ c.loop-cursor-test.true) c.skip.ensures ∙ c.loop-cursor.invariant.main;
}

pub returns : goal.returns
returns c = record {
  trees = sym (is_end_from (ahead c.loop-cursor.cursor) (sym c.is_at_end.ensures ∙ c.loop-cursor-test.false)) ∙ c.loop-cursor.invariant.main;
  around = c.loop-cursor.invariant.within.around;
  fewer = c.loop-cursor.invariant.within.fewer;
}
