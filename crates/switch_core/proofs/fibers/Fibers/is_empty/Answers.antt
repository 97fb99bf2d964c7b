use Rattle.std.proofs.Common.{ap, sym, ◌∙◌, length}
use Rattle.std.proofs.lemmas.List.{nil_from_length}
use Rattle.switch_core.specs.Attached.{fibers_of}
use Rattle.switch_core.proofs.Orders.{fibers_of-none}
use Rattle.switch_core.proofs.fibers.Fibers.is_empty.Goals as goal

pub returns : goal.returns
returns c = (
  (λ empty. sym c.self.view_is ∙ ap fibers_of (nil_from_length c.self.inside.times.entries (c.is_empty.ensures.0 empty))),
  (λ none. c.is_empty.ensures.1 (ap length (fibers_of-none c.self.inside.times.entries (c.self.view_is ∙ none)))),
)
