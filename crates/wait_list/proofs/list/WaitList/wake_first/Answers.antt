use Rattle.std.proofs.Common.{◌≡◌, ◌∙◌, ◌∷◌, ap, sym}
use Rattle.spec_parts.specs.Row.{Queued}
use Rattle.wait_list.specs.Lists.{WaitingList}
use Rattle.wait_list.specs.Standing.{queued_of}
use Rattle.wait_list.proofs.Asking.{first_in_front, seek_lost}
use Rattle.wait_list.proofs.list.WaitList.wake_first.Goals as goal

pub loop-queued-preserved : goal.loop-queued-preserved
loop-queued-preserved g c =
    let h = c.loop-queued.invariant in
    let w = c.in-Lost.ensures in
    let dead : Queued = queued_of c.in-Some.queued in
    let front : c.loop-queued.self.waiting ≡ dead ∷ c.pop.new.self.waiting =
    first_in_front dead c.loop-queued.self.waiting c.in-Some.ensures.first
    ∙ sym (ap (λ (list : WaitingList). dead ∷ list.waiting) c.pop.ensures.others)
    in (
      seek_lost _ _ (g.W.Wake.knows c.wake.new.self) _ _ _ _ _ dead c.pop.new.self.waiting _ _ h.0 front w.keeps w.told w.wakes.0 w.same w.wakes.1,
      g.met.W.Wake.follows _ _ _ h.1 w.goes,
      ap (λ (list : WaitingList). list.cells) c.pop.ensures.others ∙ h.2,
    )
