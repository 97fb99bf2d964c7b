use Rattle.std.proofs.Common.{◌≤◌, ◌<◌, length, arith, ap, refl, ◌∙◌, length-append, length-drop}
use Rattle.stream_core.proofs.Sides.{adders_asked}
use Rattle.stream_core.proofs.stream.Stream.next_item.Goals as goal

pub invariant_of-self : goal.invariant_of-self
invariant_of-self g c =
    let pushed = c.in_default.ensures.ok in
    let room : length c.pop_front.new.self.items < c.pop_front.new.self.capacity = c.in_default.ensures.variant.0 refl in
    let fits : length c.try_push_back.new.self.items ≤ c.try_push_back.new.self.capacity = rw pushed (simp length-append (omega (arith, room))) in
    adders_asked _ _ _ _ _ _ _ c.self.inside.takers c.self.inside.adders c.wake_first-adder.new.self _ _ _ c.self.invariant c.wake_first-adder.ensures.cells c.wake_first-adder.ensures.finds
    (ap (λ b. b.capacity) pushed ∙ ap (λ b. b.capacity) c.pop_front.ensures.items) fits

pub invariant_of-self-in-None-Some : goal.invariant_of-self-in-None-Some
invariant_of-self-in-None-Some g c =
    let popped = c.pop_front.ensures.items in
    let fits : length c.pop_front.new.self.items ≤ c.pop_front.new.self.capacity = rw popped (omega (arith, length-drop 1 c.self.inside.items.items, c.self.invariant.fits)) in
    adders_asked _ _ _ _ _ _ _ c.self.inside.takers c.self.inside.adders c.wake_first-adder.new.self _ _ _ c.self.invariant c.wake_first-adder.ensures.cells c.wake_first-adder.ensures.finds (ap (λ b. b.capacity) popped) fits
