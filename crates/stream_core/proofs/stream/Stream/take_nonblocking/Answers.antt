use Rattle.std.proofs.Common.{refl, ap, false}
use Rattle.eio_value.specs.declared.message.Waiter.{Waiter}
use Rattle.wait_list.specs.Lists.{Core}
use Rattle.stream_core.proofs.Taking.{none_taken, NoneTaken, somebody_woken}
use Rattle.stream_core.proofs.stream.Stream.take_nonblocking.Given.{Over}
use Rattle.stream_core.proofs.stream.Stream.take_nonblocking.Goals as goal
use Rattle.stream_core.proofs.stream.Stream.take_nonblocking.Goals.{In-None}

-- the call is the same for all fibers
anybody : Waiter
anybody = record { domain = 0; fiber = 0; cell = 0; armed = 0 }

none : (g : Over) (c : In-None g) → NoneTaken (g.W.Wake.knows c.next_item.new.wake) c.args.self.now.row c.next_item.new.self.row (g.W.Wake.sent c.next_item.new.wake)
none g c = none_taken _ _ _ anybody false 0 0 _ _ _ _ _ _ _ (ap (λ (core : Core). core.row) c.self.view_is) (c.in-None.ensures.takes anybody false 0 0)

pub returns-in-None-clause-dead : goal.returns-in-None-clause-dead
returns-in-None-clause-dead g c nothing = let none = none g (goal.at.returns-in-None-clause-dead g c).In-None in (none.dead, none.gone)

pub returns-in-None-clause-nothing : goal.returns-in-None-clause-nothing
returns-in-None-clause-nothing g c = let none = none g (goal.at.returns-in-None-clause-nothing g c).In-None in (λ nothing. (none.no_items, none.silent), λ cause. refl)

pub returns-in-Some-clause-nothing : goal.returns-in-Some-clause-nothing
returns-in-Some-clause-nothing g c = (
  λ nothing. absurd (cc),
  λ cause. absurd (somebody_woken _ _ _ anybody false 0 0 _ _ _ _ _ _ _ _ (ap (λ (core : Core). core.row) c.self.view_is) (c.in-Some.ensures.takes anybody false 0 0) cause.0 cause.1),
)
