use Rattle.std.proofs.Common.{take, map, ap, sym, ◌∙◌}
use Rattle.std.proofs.lemmas.List.{take-map}
use Rattle.eio_value.proofs.texts.Texts.truncate.Goals as goal

pub returns : goal.returns
returns c =
    ap (map (λ text. text.items)) c.truncate.ensures.keys ∙ (sym (take-map (λ text. text.items) c.args.len c.self.inside.texts.keys) ∙ ap (take c.args.len) c.self.view_is)
