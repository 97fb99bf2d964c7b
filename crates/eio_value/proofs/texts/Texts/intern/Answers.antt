use Rattle.std.proofs.Common.{arith}
use Rattle.std.proofs.lemmas.Grind.{common_steps}
use Rattle.eio_value.proofs.Interning.{found, added}
use Rattle.eio_value.proofs.texts.Texts.intern.Goals as goal

pub returns-in-Some-clause-ok : goal.returns-in-Some-clause-ok
returns-in-Some-clause-ok c = found (λ text. text.items) c.self.inside.texts.keys c.args.bytes.now c.args.self.now c.in-Some.at c.self.view_is c.in-Some.ensures.index

pub returns-clause-ok : goal.returns-clause-ok
returns-clause-ok c = added (λ text. text.items) c.self.inside.texts.keys c.args.bytes.now c.args.self.now c.insert_full.new.self.keys c.in_ok-text.text c.in_ok-at.at c.self.view_is c.in_default.ensures.found (grind (arith, common_steps)) c.in_ok-at.ensures.keys c.in_ok-at.ensures.index
