use Rattle.std.proofs.Common.{ap, ◌∙◌, arith}
use Rattle.eio_value.specs.Table.{Interned}
use Rattle.script_code.proofs.TextCopies.{copied_on, text_there}
use Rattle.script_code.proofs.table.copy_of.Goals as goal

pub loop-number-preserved : goal.loop-number-preserved
loop-number-preserved c =
    copied_on c.args.texts.now c.loop-number.copy c.intern.new.self c.loop-number.number c.bytes.result.now c.len-count.ensures.different (omega (arith, c.loop-number-test.true, c.len-count.ensures.length)) c.loop-number.invariant
    (c.bytes.ensures ∙ text_there c.args.texts.now c.loop-number.number (omega (arith, c.loop-number-test.true, c.len-count.ensures.length))) (ap (λ (it : Interned). it.texts) c.in_ok-intern.ensures.ok)
