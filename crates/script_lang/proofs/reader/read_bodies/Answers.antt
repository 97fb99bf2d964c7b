use Rattle.std.proofs.Common.{◌∷◌, ◌++◌, [], arith, ap, sym, ◌∙◌}
use Rattle.std.proofs.lemmas.Result.{err_from_is_err_and}
use Rattle.spec_script.specs.Scripts.{first_place}
use Rattle.script_lang.proofs.ScriptsRead.{main_read, main_behind, bodies_next, bodies_fail, bodies_end, full_by}
use Rattle.script_lang.proofs.reader.read_bodies.Goals as goal

pub loop-limits-init : goal.loop-limits-init
loop-limits-init c = λ declared same main behind parts.
    let one = c.in_ok-push.ensures.items ∙ (ap (λ ns. ns ++ c.next.result ∷ []) c.new-numbers.ensures.items ∙ ap (λ n. n ∷ []) c.next.ensures) in (
      main_read c.args.limits declared c.args.scope.now main behind c.enter.result c.args.cursor.now c.enter.new.self c.statements.new.cursor c.push.new.self.items c.args.draft.now c.statements.new.draft same c.enter.ensures c.requires parts c.in_ok-statements.ensures.behind c.in_ok-statements.ensures.reads one,
      c.first_place-first_domain.ensures ∙ ap first_place (main_behind c.enter.result c.args.cursor.now c.enter.new.self c.statements.new.cursor main behind c.enter.ensures c.requires parts c.in_ok-statements.ensures.behind),
    )

pub loop-limits-preserved : goal.loop-limits-preserved
loop-limits-preserved c = λ declared same main behind parts.
    let inv = c.loop-limits.invariant declared same main behind parts in
    (bodies_next c.args.limits declared c.args.scope.now main behind c.loop-limits.cursor c.domain.new.cursor _ c.loop-limits.numbers.items c.push-in-loop-limits.new.self.items c.args.draft.now c.loop-limits.draft c.domain.new.draft same (sym c.has_tree.ensures ∙ c.loop-limits-test.true) c.in_ok-domain.ensures.past inv.0 (c.in_ok-push-2.ensures.items ∙ ap (λ n. c.loop-limits.numbers.items ++ n ∷ []) c.next-in-loop-limits.ensures) (full_by _ _ _ (let is = c.len.ensures in let count = c.loop-limits.numbers.ok in omega (arith, is, count))) c.in_ok-domain.ensures.reads, inv.1)

pub returns-in_err-domain : goal.returns-in_err-domain
returns-in_err-domain c =
    let p = err_from_is_err_and c.from_residual-in_err-domain.result c.from_residual-in_err-domain.ensures.1 in
    rw (p.1, p.2) (λ declared same main behind parts.
    let inv = c.loop-limits.invariant declared same main behind parts in
    bodies_fail c.args.limits declared c.args.scope.now main behind c.loop-limits.cursor _ c.loop-limits.numbers.items c.args.draft.now c.loop-limits.draft _ same (sym c.has_tree.ensures ∙ c.loop-limits-test.true) inv.0 (full_by _ c.len.result _ (let is = c.len.ensures in let count = c.loop-limits.numbers.ok in omega (arith, is, count))) c.in_err-domain.ensures.reads)

pub returns : goal.returns
returns c = λ declared same main behind parts.
    let inv = c.loop-limits.invariant declared same main behind parts in
    (bodies_end c.args.limits declared main behind c.loop-limits.cursor c.loop-limits.numbers.items c.args.draft.now c.loop-limits.draft (sym c.has_tree.ensures ∙ c.loop-limits-test.false) inv.0, inv.1)
