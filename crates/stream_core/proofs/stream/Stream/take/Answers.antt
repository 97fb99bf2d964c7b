use Rattle.std.proofs.Common.{◌≡◌, ◌∙◌, ap, sym, subst, List, []}
use Rattle.spec_parts.specs.Row.{Row, Queued}
use Rattle.wait_list.specs.Lists.{Core, WaitingList}
use Rattle.stream_core.specs.Whole.{HasOneSide}
use Rattle.stream_core.proofs.Sides.{no_adders}
use Rattle.stream_core.proofs.Taking.{row_of, take_found, take_waits, none_taken, NoneTaken, is_off, is_not_off, cells_stay}
use Rattle.stream_core.proofs.stream.Stream.take.Given.{Over}
use Rattle.stream_core.proofs.stream.Stream.take.Goals as goal
use Rattle.stream_core.proofs.stream.Stream.take.Goals.{After-wait}

pub returns-in-Some-clause-takes : goal.returns-in-Some-clause-takes
returns-in-Some-clause-takes g c object serial =
    take_found _ _ _ c.args.who c.args.off serial object _ _ _ _ _ _ _ _ (ap (λ (core : Core). core.row) c.self.view_is) (c.in-Some.ensures.takes c.args.who c.args.off object serial)

-- nothing was taken
none : (g : Over) (c : After-wait g) → NoneTaken (g.W.Wake.knows c.next_item.new.wake) c.args.self.now.row c.next_item.new.self.row (g.W.Wake.sent c.next_item.new.wake)
none g c = none_taken _ _ _ c.args.who c.args.off 0 0 _ _ _ _ _ _ _ (ap (λ (core : Core). core.row) c.self.view_is) (c.in_default.ensures.takes c.args.who c.args.off 0 0)

-- the row as it is seen where the fiber waits
seen : (g : Over) (c : After-wait g) → row_of c.self-2.inside.items.capacity c.self-2.inside.items.items c.self-2.inside.takers.waiting c.self-2.inside.adders.waiting ≡ record c.args.self.now.row { adders = [] }
seen g c = ap (λ (core : Core). core.row) c.self-2.view_is ∙ (none g c).gone

pub invariant_of-self : goal.invariant_of-self
invariant_of-self g c =
    let gone : c.self-2.inside.adders.waiting ≡ [] = ap (λ (row : Row). row.adders) (seen g c) in
    record {
      fits = c.self-2.invariant.fits;
      small = c.self-2.invariant.small;
      alike = c.self-2.invariant.alike ∙ sym (cells_stay _ c.self-2.inside.takers c.wait.new.self c.wait.ensures.off c.wait.ensures.waits);
      one_side = subst (λ (l : List Queued). HasOneSide c.wait.new.self.waiting l) (sym gone) (no_adders c.wait.new.self.waiting);
    }

pub returns-clause-takes : goal.returns-clause-takes
returns-clause-takes g c object serial =
    take_waits _ _ _ c.args.who c.args.off serial object _ _ _ _ _ _ _ (ap (λ (core : Core). core.row) c.self.view_is) (c.in_default.ensures.takes c.args.who c.args.off object serial)
    c.self-2.inside.items.capacity c.self-2.inside.items.items c.self-2.inside.takers c.wait.new.self c.self-2.inside.adders.waiting c.wait.result (ap (λ (core : Core). core.row) c.self-2.view_is) c.wait.ensures.off c.wait.ensures.waits

pub returns-clause-waits : goal.returns-clause-waits
returns-clause-waits g c answered =
    let after = (goal.at.returns-clause-waits g c).After-wait in
    (is_not_off c.args.off c.wait.result c.wait.ensures.off answered, ap (λ (row : Row). row.values) (seen g after), (none g after).silent)

pub returns-clause-off : goal.returns-clause-off
returns-clause-off g c answered =
    let after = (goal.at.returns-clause-off g c).After-wait in
    let off = is_off c.args.off c.wait.result c.wait.ensures.waits answered in
    let same = ap (λ (list : WaitingList). row_of c.self-2.inside.items.capacity c.self-2.inside.items.items list.waiting c.self-2.inside.adders.waiting) (c.wait.ensures.off off).1 in
    (off, same ∙ seen g after, (none g after).silent)

pub returns-clause-dead : goal.returns-clause-dead
returns-clause-dead g c answered = (none g (goal.at.returns-clause-dead g c).After-wait).dead
