-- What blocks and exceptions leave as it was.
use Rattle.std.proofs.Common.{◌≡◌, List, [], ◌∷◌, true, false, refl, sym, ◌∙◌}
use Rattle.eio_value.specs.declared.raised.Raised.{Raised}
use Rattle.spec_fiber.specs.Asks.{Ask}
use Rattle.spec_fiber.specs.Settling.{thrown}
use Rattle.spec_fiber.specs.Work as work
use Rattle.spec_fiber.specs.Work.{Work, Carry, restored}
use Rattle.fiber_step.specs.Scoping.{is_end_work, EndsStop}

true_false : true ≡ false → ⊥
true_false e = cc

-- ## Ends

at_once : (end : Work) (behind : List Work) (raised : Raised) (c : Carry) → is_end_work end ≡ true
    → ((thrown (end ∷ behind) raised c).call ≡ (thrown (end ∷ []) raised c).call) × ((thrown (end ∷ behind) raised c).behind ≡ behind)
unfolding thrown
at_once (work.Leave context late keep) behind raised c is = (refl, refl)
at_once (work.Close switch keep) behind raised c is = (refl, refl)
at_once (work.Closing switch kept) behind raised c is = (refl, refl)
at_once (work.Join group keep) behind raised c is = (refl, refl)
at_once (work.ShutReader reader keep) behind raised c is = (refl, refl)
at_once (work.ShutWriter writer keep) behind raised c is = (refl, refl)
at_once (work.Unlock mutex keep) behind raised c is = (refl, refl)
at_once (work.Put pool resource keep) behind raised c is = (refl, refl)
at_once (work.Resolve promise) behind raised c is = (refl, refl)
at_once (work.Run items) behind raised c is = absurd (true_false (sym is))
at_once (work.Cut keep) behind raised c is = absurd (true_false (sym is))
at_once (work.Restore variables) behind raised c is = absurd (true_false (sym is))
at_once (work.Bind slot) behind raised c is = absurd (true_false (sym is))
at_once (work.Loop body keep) behind raised c is = absurd (true_false (sym is))
at_once (work.Repeat turn left body keep) behind raised c is = absurd (true_false (sym is))
at_once (work.Locking mutex body) behind raised c is = absurd (true_false (sym is))
at_once (work.Using pool body) behind raised c is = absurd (true_false (sym is))
at_once (work.Try handler keep) behind raised c is = absurd (true_false (sym is))

same_call : (end : Work) (raised : Raised) (c d : Carry) → is_end_work end ≡ true → (thrown (end ∷ []) raised c).call ≡ (thrown (end ∷ []) raised d).call
unfolding thrown
same_call (work.Leave context late keep) raised c d is = refl
same_call (work.Close switch keep) raised c d is = refl
same_call (work.Closing switch kept) raised c d is = refl
same_call (work.Join group keep) raised c d is = refl
same_call (work.ShutReader reader keep) raised c d is = refl
same_call (work.ShutWriter writer keep) raised c d is = refl
same_call (work.Unlock mutex keep) raised c d is = refl
same_call (work.Put pool resource keep) raised c d is = refl
same_call (work.Resolve promise) raised c d is = refl
same_call (work.Run items) raised c d is = absurd (true_false (sym is))
same_call (work.Cut keep) raised c d is = absurd (true_false (sym is))
same_call (work.Restore variables) raised c d is = absurd (true_false (sym is))
same_call (work.Bind slot) raised c d is = absurd (true_false (sym is))
same_call (work.Loop body keep) raised c d is = absurd (true_false (sym is))
same_call (work.Repeat turn left body keep) raised c d is = absurd (true_false (sym is))
same_call (work.Locking mutex body) raised c d is = absurd (true_false (sym is))
same_call (work.Using pool body) raised c d is = absurd (true_false (sym is))
same_call (work.Try handler keep) raised c d is = absurd (true_false (sym is))

-- behind one more item that it drops
from_other : (end : Work) (raised : Raised) (c d : Carry) {call : Ask} {same : Type 0} → (call ≡ (thrown (end ∷ []) raised d).call) × same → is_end_work end ≡ true → (call ≡ (thrown (end ∷ []) raised c).call) × same
from_other end raised c d found is = (found.0 ∙ same_call end raised d c is, found.1)

pub ends_stop : EndsStop
unfolding thrown
ends_stop [] end behind raised c none is = at_once end behind raised c is
ends_stop (work.Run items ∷ front) end behind raised c none is = from_other end raised c c (ends_stop front end behind raised c none.2 is) is
ends_stop (work.Cut keep ∷ front) end behind raised c none is = from_other end raised c c (ends_stop front end behind raised c none.2 is) is
ends_stop (work.Restore variables ∷ front) end behind raised c none is = from_other end raised c (restored variables c) (ends_stop front end behind raised (restored variables c) none.2 is) is
ends_stop (work.Bind slot ∷ front) end behind raised c none is = from_other end raised c c (ends_stop front end behind raised c none.2 is) is
ends_stop (work.Loop body keep ∷ front) end behind raised c none is = from_other end raised c c (ends_stop front end behind raised c none.2 is) is
ends_stop (work.Repeat turn left body keep ∷ front) end behind raised c none is = from_other end raised c c (ends_stop front end behind raised c none.2 is) is
ends_stop (work.Locking mutex body ∷ front) end behind raised c none is = from_other end raised c c (ends_stop front end behind raised c none.2 is) is
ends_stop (work.Using pool body ∷ front) end behind raised c none is = from_other end raised c c (ends_stop front end behind raised c none.2 is) is
ends_stop (work.Try handler keep ∷ front) end behind raised c none is = absurd (true_false none.1)
ends_stop (work.Leave context late keep ∷ front) end behind raised c none is = absurd (true_false none.0)
ends_stop (work.Close switch keep ∷ front) end behind raised c none is = absurd (true_false none.0)
ends_stop (work.Closing switch kept ∷ front) end behind raised c none is = absurd (true_false none.0)
ends_stop (work.Join group keep ∷ front) end behind raised c none is = absurd (true_false none.0)
ends_stop (work.ShutReader reader keep ∷ front) end behind raised c none is = absurd (true_false none.0)
ends_stop (work.ShutWriter writer keep ∷ front) end behind raised c none is = absurd (true_false none.0)
ends_stop (work.Unlock mutex keep ∷ front) end behind raised c none is = absurd (true_false none.0)
ends_stop (work.Put pool resource keep ∷ front) end behind raised c none is = absurd (true_false none.0)
ends_stop (work.Resolve promise ∷ front) end behind raised c none is = absurd (true_false none.0)
