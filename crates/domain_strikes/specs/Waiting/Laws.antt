-- Laws of the fibers that wait so that a cancellation ends their waits: how their list goes with the fibers, and who of them a cancellation strikes.
use Rattle.std.specs.Prelude.{◌≡◌, ℕ, ◌+◌, ◌<◌, ◌≤◌, true, false, List, [], ◌∷◌, ◌++◌, length, slice_set}
use Rattle.std.specs.List.{AllPairs, Contains}
use Rattle.spec_parts.specs.Contexts.{Context, goes_up_to, takes_effect, to_be_struck}
use Rattle.spec_parts.specs.ContextCalls.{put_in, taken_out}
use Rattle.cancel_tree.specs.Waits.{waits, waits_in}
use Rattle.spec_machine.specs.Domain.{Fiber, fiber_at, has_ended, live_fibers}
use Rattle.spec_machine.specs.Steps.{waiting_from}
use Rattle.domain_strikes.specs.Waiting.WhoWaits.{can_be_struck, waits_as, WaitsAlike}

-- ## The list goes with the fibers

pub record WaitingInStep : Type 0 where
  -- a fiber that begins to wait so is put in its place
  pub parks : (fibers : List Fiber) (g : ℕ) (parked : Fiber) → g < length fibers → can_be_struck (fiber_at fibers g) ≡ false → can_be_struck parked ≡ true
      → waiting_from 0 (slice_set fibers g parked) ≡ put_in (waits_as g parked) (waiting_from 0 fibers)
  -- one that doesn't wait so any more is taken out
  pub wakes : (fibers : List Fiber) (g : ℕ) (woken : Fiber) → can_be_struck woken ≡ false
      → waiting_from 0 (slice_set fibers g woken) ≡ taken_out g (waiting_from 0 fibers)
  -- no other change of a fiber changes the list
  pub stays : (fibers : List Fiber) (g : ℕ) (changed : Fiber) → WaitsAlike (fiber_at fibers g) changed
      → waiting_from 0 (slice_set fibers g changed) ≡ waiting_from 0 fibers
  -- nor does one that is made and doesn't wait
  pub makes : (fibers : List Fiber) (made : Fiber) → can_be_struck made ≡ false → waiting_from 0 (fibers ++ made ∷ []) ≡ waiting_from 0 fibers
  -- nor do many changes, where none of them is seen by a wait
  pub goes_by_waits : (before after : List Fiber) → ((g : ℕ) → WaitsAlike (fiber_at before g) (fiber_at after g)) → waiting_from 0 after ≡ waiting_from 0 before

-- ## Who waits

pub record WaitingByStanding : Type 0 where
  -- a fiber is in the list exactly where it is parked in a wait that a cancellation ends
  pub who : (fibers : List Fiber) (g : ℕ) → waits g (waiting_from 0 fibers) ≡ can_be_struck (fiber_at fibers g)
  -- somebody waits in a context exactly where a fiber that waits so runs in it
  pub somebody : (fibers : List Fiber) (c : ℕ) → waits_in c (waiting_from 0 fibers) ≡ true
      → (g : ℕ) × (can_be_struck (fiber_at fibers g) ≡ true) × ((fiber_at fibers g).context ≡ c)
  pub runs_there : (fibers : List Fiber) (g : ℕ) → can_be_struck (fiber_at fibers g) ≡ true → waits_in (fiber_at fibers g).context (waiting_from 0 fibers) ≡ true
  pub nobody : (fibers : List Fiber) (c : ℕ) → ((g : ℕ) → has_ended (fiber_at fibers g) ≡ false → (fiber_at fibers g).context ≡ c → can_be_struck (fiber_at fibers g) ≡ false)
      → waits_in c (waiting_from 0 fibers) ≡ false
  -- who waits lives; so where one lives that doesn't, there is room for it in a list for all who may live
  pub few : (fibers : List Fiber) → length (waiting_from 0 fibers) ≤ live_fibers fibers
  pub room : (fibers : List Fiber) (g : ℕ) → has_ended (fiber_at fibers g) ≡ false → can_be_struck (fiber_at fibers g) ≡ false
      → length (waiting_from 0 fibers) + 1 ≤ live_fibers fibers

-- ## Who is struck

pub record StruckByNumber : Type 0 where
  -- in order of number, each once
  pub in_order : (contexts : List Context) (fibers : List Fiber) (c : ℕ) → AllPairs (λ g h. g < h) (to_be_struck contexts (waiting_from 0 fibers) c)
  -- where the cancellation takes effect, those that wait so in a context which it reaches
  pub struck : (contexts : List Context) (fibers : List Fiber) (c g : ℕ) → Contains (to_be_struck contexts (waiting_from 0 fibers) c) g
      → (takes_effect contexts c ≡ true) × (can_be_struck (fiber_at fibers g) ≡ true) × (goes_up_to contexts (fiber_at fibers g).context c ≡ true)
  pub strikes : (contexts : List Context) (fibers : List Fiber) (c g : ℕ) → takes_effect contexts c ≡ true → can_be_struck (fiber_at fibers g) ≡ true
      → goes_up_to contexts (fiber_at fibers g).context c ≡ true → Contains (to_be_struck contexts (waiting_from 0 fibers) c) g
