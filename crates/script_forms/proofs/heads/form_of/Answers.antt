use Rattle.std.proofs.Common.{ap, ◌∙◌}
use Rattle.std.specs.Option.{option_map}
use Rattle.script_forms.proofs.FormsFound.{row_seen, form_found}
use Rattle.script_forms.proofs.heads.form_of.Goals as goal

pub returns-in_default : goal.returns-in_default
returns-in_default c = ap (option_map (row_seen c.args.word.now)) c.in_default.ensures ∙ form_found c.args.word.now

pub returns : goal.returns
returns c = ap (option_map (row_seen c.args.word.now)) c.in-Some.ensures ∙ form_found c.args.word.now
