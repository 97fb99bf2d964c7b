use Rattle.std.proofs.Common.{ap, ◌∙◌}
use Rattle.script_code.specs.Opened.{opened_texts}
use Rattle.script_code.proofs.ScriptMade.{made_whole, view_is}
use Rattle.script_code.proofs.script.Script.new.Goals as goal

pub opening-requires : goal.opening-requires
opening-requires c = rw c.deref.ensures.value c.requires.failures

pub invariant_of-result : goal.invariant_of-result
invariant_of-result c =
    let opened = c.in_ok-table.ensures ∙ ap (λ these. opened_texts c.args.parts.texts these) c.deref.ensures.value in
    made_whole c.requires.script c.args.parts c.in_ok-table.table c.len-own_texts.result c.requires.is c.len-own_texts.ensures.length opened c.requires.few

pub returns : goal.returns
returns c =
    let opened = c.in_ok-table.ensures ∙ ap (λ these. opened_texts c.args.parts.texts these) c.deref.ensures.value in
    λ script is. view_is script c.args.parts c.in_ok-table.table c.len-own_texts.result is c.len-own_texts.ensures.length opened
