use Rattle.std.proofs.Common.{sym, ◌∙◌}
use Rattle.std.proofs.lemmas.Result.{err_from_is_err_and}
use Rattle.script_draft.specs.Ahead.{ahead}
use Rattle.script_declarations.specs.DeclarationsRead.{declared_of}
use Rattle.script_draft.specs.Drafts.{made_of}
use Rattle.script_draft.proofs.Within.{within_past}
use Rattle.script_declarations.proofs.DeclarationsRead.{is_end_from, from_passed, declared_more, declared_stops, declared_end}
use Rattle.script_declarations.proofs.declarations.declarations.Goals as goal

pub loop-limits-preserved : goal.loop-limits-preserved
loop-limits-preserved c =
    let more = sym c.is_at_end.ensures ∙ c.loop-limits-test.true in
    record {
      within = within_past c.args.cursor.now c.loop-limits.cursor c.declaration.new.cursor c.loop-limits.invariant.within c.in_ok-declaration.ensures.past;
      main = from_passed c.loop-limits.cursor c.declaration.new.cursor more c.in_ok-declaration.ensures.past ∙ c.loop-limits.invariant.main;
      nodes = c.in_ok-declaration.ensures.reads.1 ∙ c.loop-limits.invariant.nodes;
      rest = c.loop-limits.invariant.rest ∙ declared_more c.args.limits c.args.bodies (declared_of c.loop-limits.declared) (declared_of c.declaration.new.declared) c.loop-limits.cursor c.declaration.new.cursor (made_of c.loop-limits.draft) (made_of c.declaration.new.draft) more c.in_ok-declaration.ensures.past c.in_ok-declaration.ensures.reads.0;
    }

pub returns-in_err-declaration-clause-reads : goal.returns-in_err-declaration-clause-reads
returns-in_err-declaration-clause-reads c =
    let p = err_from_is_err_and c.from_residual.result c.from_residual.ensures.1 in
    rw (p.1, p.2) (declared_stops c.args.limits c.args.bodies (declared_of c.loop-limits.declared) c.loop-limits.cursor (made_of c.loop-limits.draft) _ _ (sym c.is_at_end.ensures ∙ c.loop-limits-test.true) c.in_err-declaration.ensures.reads c.loop-limits.invariant.rest)

pub returns-clause-end : goal.returns-clause-end
returns-clause-end c = record {
  trees = sym (is_end_from (ahead c.loop-limits.cursor) (sym c.is_at_end.ensures ∙ c.loop-limits-test.false)) ∙ c.loop-limits.invariant.main;
  around = c.loop-limits.invariant.within.around;
  fewer = c.loop-limits.invariant.within.fewer;
}

pub returns-clause-reads : goal.returns-clause-reads
returns-clause-reads c = (c.loop-limits.invariant.rest ∙ declared_end c.args.limits c.args.bodies (declared_of c.loop-limits.declared) (ahead c.loop-limits.cursor) (made_of c.loop-limits.draft) (sym c.is_at_end.ensures ∙ c.loop-limits-test.false), c.loop-limits.invariant.nodes)
