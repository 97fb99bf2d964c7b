use Rattle.std.proofs.Common.{Ok, ap, sym, ◌∙◌}
use Rattle.std.proofs.lemmas.Result.{err_from_is_err_and}
use Rattle.spec_script.specs.Scripts.{script_of}
use Rattle.script_lang.proofs.Outlined.{IsFinished, is_read, is_script_of}
use Rattle.script_lang.proofs.reader.read_script.Goals as goal

pub returns-in_err-outline-clause-fault : goal.returns-in_err-outline-clause-fault
returns-in_err-outline-clause-fault c =
    let p = err_from_is_err_and c.from_residual.result c.from_residual.ensures.1 in
    rw (p.1, p.2) c.in_err-outline.ensures.fault

pub new-requires : goal.new-requires
new-requires c =
    let made = c.finish.ensures in
    let finished : IsFinished c.finish.result c.read_outline.new.draft = record { nodes = made.nodes; few = made.few; texts = made.texts; failures = made.failures; listed = made.listed; formed = made.formed } in
    is_read _ _ _ _ c.in_ok-outline.ensures.read finished c.parts_of-parts.ensures

pub returns-clause-ok : goal.returns-clause-ok
returns-clause-ok c =
    let read = c.in_ok-outline.ensures.read in
    let made = c.finish.ensures in
    let finished : IsFinished c.finish.result c.read_outline.new.draft = record { nodes = made.nodes; few = made.few; texts = made.texts; failures = made.failures; listed = made.listed; formed = made.formed } in
    ap script_of (sym c.in_ok-outline.ensures.tree) ∙ (read.is.read ∙ ap Ok (sym (c.in_ok-new.ensures read.script (is_script_of _ _ _ _ _ read.is finished c.parts_of-parts.ensures))))
