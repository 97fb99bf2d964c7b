use Rattle.eio_value.proofs.Interning.{different}
use Rattle.eio_value.proofs.texts.Texts.len.Goals as goal

pub returns-clause-different : goal.returns-clause-different
returns-clause-different c = different (λ text. text.items) c.self.inside.texts.keys c.args.self.now c.self.view_is c.len.ensures.unique
