use Rattle.std.proofs.Common.{sym, subst, ◌∙◌, w64}
use Rattle.std.specs.Str.Parse.{ParsesSigned}
use Rattle.script_tree.proofs.Numbers.{numeral_text, too_large}
use Rattle.script_tree.proofs.run.parse_number.Goals as goal

pub returns-in_default : goal.returns-in_default
returns-in_default c = absurd (c.in_default.ensures.cases.0 (numeral_text c.args.run.now (sym c.is_signed_numeral.ensures ∙ c.if-not-is_signed_numeral.false)))

pub returns-in_default-parse : goal.returns-in_default-parse
returns-in_default-parse c =
    let read = subst (λ t. ParsesSigned w64 10 t c.parse.result) c.in-Ok.ensures.cases.0 c.parse.ensures.value.0 in
    sym (too_large c.args.run.now c.parse.result c.in_default-parse.field-0 read (sym c.is_signed_numeral.ensures ∙ c.if-not-is_signed_numeral.false) c.in_default-parse.is)
