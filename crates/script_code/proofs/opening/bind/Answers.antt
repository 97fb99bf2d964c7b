use Rattle.std.proofs.Common.{◌∙◌, ◌++◌, ap}
use Rattle.std.proofs.lemmas.Result.{on_ok_weaker}
use Rattle.eio_value.specs.Exceptions.{plain_text}
use Rattle.script_code.proofs.Openings.{bound}
use Rattle.script_code.proofs.opening.bind.Goals as goal

pub returns : goal.returns
returns c = on_ok_weaker c.put_between-2.result
    (λ last. bound c.args.table.now c.put.new.table c.put_between.new.table c.put_between-2.new.table c.args.what c.as_slice-text.result.now
    (c.as_slice-text.ensures.value ∙ (c.in_ok-show_raised.ensures.ok ∙ ap (λ before. before ++ plain_text c.args.table.now c.args.what) c.new-alone.ensures.items)) c.in_ok-put.ensures c.in_ok-put_between.ensures last)
    c.put_between-2.ensures
