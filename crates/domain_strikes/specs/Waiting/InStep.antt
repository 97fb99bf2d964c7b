-- The contexts of a domain as code keeps them, and as the definitions do. Code forgets what has ended, and keeps the list of those that wait; the definitions keep all
-- contexts, and read who waits off the fibers. The same calls have led to both.
use Rattle.std.specs.Prelude.{◌≡◌, ◌⊎◌, ℕ, ◌+◌, ◌≤◌, true, false, List, [], ◌++◌, length, map}
use Rattle.eio_value.specs.declared.plain.Plain.{Plain}
use Rattle.spec_parts.specs.Contexts.{Context, Waiting, cancel, is_live, make, end, off, to_be_struck}
use Rattle.spec_parts.specs.ContextCalls.{Contexts, ContextCall, Cancel, Wait, Unwait, no_contexts, called, after}
use Rattle.cancel_tree.specs.Ended.{left_by_end}
use Rattle.cancel_tree.specs.Endings.{HasNoLiveChild}
use Rattle.cancel_tree.specs.Forgetting.{AnswersAlike, MayCall, MayCallAll, left, left_after}
use Rattle.cancel_tree.specs.Waits.{waits, waits_in}
use Rattle.spec_fiber.specs.Replies.{Position}
use Rattle.spec_machine.specs.Domain.{Role, Next, Wait as WaitIn, Asleep, ForCancel, Ready, Parked, Fiber, Duty, DomainState, fiber_at, has_ended, live_fibers, made, off_for, stands, with_fiber}
use Rattle.spec_machine.specs.DutyMoves.{own_strike, strike_told}
use Rattle.spec_machine.specs.Steps.{can_be_cancelled, cancels, strike_by, waiting_from}
use Rattle.domain_strikes.specs.Waiting.WhoWaits.{WaitsAlike, can_be_struck, contexts_of}

-- what is kept where ended contexts are forgotten, and what is where none is
pub record AreContexts (forgetful all : Contexts) : Type 0 where
  pub calls : List ContextCall
  pub may : MayCallAll calls no_contexts
  pub forgets : forgetful ≡ left_after calls no_contexts
  pub keeps : all ≡ after calls no_contexts

-- ## Whatever is called

pub record ContextsInStep : Type 0 where
  -- they begin so
  pub opens : AreContexts no_contexts no_contexts
  -- all that is asked of them is answered alike, and a new context has the same number
  pub alike : (kept all : Contexts) → AreContexts kept all → AnswersAlike all kept
  pub numbers : (kept all : Contexts) → AreContexts kept all → (new : Context) → (make new kept.made).number ≡ (make new all.made).number
  -- they go on so with each call that meets its condition as code sees it
  pub goes_on : (kept all : Contexts) (call : ContextCall) → AreContexts kept all → MayCall call kept → AreContexts (left call kept) (called call all)
  -- and each meets its condition, as code sees it, exactly where it does as the definitions see it
  pub meets : (kept all : Contexts) (call : ContextCall) → AreContexts kept all → (MayCall call kept → MayCall call all) × (MayCall call all → MayCall call kept)

-- ## What a domain does

pub record DomainsInStep : Type 0 where
  -- a cancellation strikes those whom the kept contexts name
  pub cancelled : (kept : Contexts) (l : DomainState) (maker c : ℕ) (why : Plain) → AreContexts kept (contexts_of l)
      → ((cancels maker c why l).duties ≡ l.duties ++ map (strike_by maker) (to_be_struck kept.made kept.waiting c))
      × AreContexts (called (Cancel c why) kept) (contexts_of (cancels maker c why l))
  -- a fiber that parks, in a wait that a cancellation ends, and in a live context: it isn't in the list, there is room for it, and it waits from then on
  pub parked : (kept : Contexts) (l : DomainState) (g : ℕ) (wait : WaitIn) → AreContexts kept (contexts_of l)
      → has_ended (fiber_at l.fibers g) ≡ false → can_be_struck (fiber_at l.fibers g) ≡ false → can_be_cancelled wait ≡ true
      → is_live kept.made (fiber_at l.fibers g).context ≡ true
      → (waits g kept.waiting ≡ false) × (length kept.waiting + 1 ≤ live_fibers l.fibers)
      × AreContexts (called (Wait (fiber_at l.fibers g).context g) kept) (contexts_of (stands (Parked wait) g l))
  -- one that waited so and is ready again: it is in the list, and doesn't wait from then on
  pub woken : (kept : Contexts) (l : DomainState) (g : ℕ) (next : Next) → AreContexts kept (contexts_of l) → can_be_struck (fiber_at l.fibers g) ≡ true
      → (waits g kept.waiting ≡ true) × AreContexts (called (Unwait g) kept) (contexts_of (stands (Ready next) g l))
  -- a context ends, which has no live child as code sees it, and in which nobody runs who waits so
  pub ended : (kept : Contexts) (l : DomainState) (c : ℕ) → AreContexts kept (contexts_of l) → HasNoLiveChild kept.made c
      → ((g : ℕ) → has_ended (fiber_at l.fibers g) ≡ false → (fiber_at l.fibers g).context ≡ c → can_be_struck (fiber_at l.fibers g) ≡ false)
      → (waits_in c kept.waiting ≡ false) × AreContexts (left_by_end c kept) (contexts_of (record l { contexts = end c l.contexts }))
  -- a fiber that doesn't wait so changes, into one that doesn't: it is moved, placed, made ready, woken from a wait for others, or has ended
  pub changed : (kept : Contexts) (l : DomainState) (g : ℕ) (fiber : Fiber) → AreContexts kept (contexts_of l) → can_be_struck (fiber_at l.fibers g) ≡ false
      → can_be_struck fiber ≡ false → AreContexts kept (contexts_of (with_fiber g fiber l))
  -- a new fiber is made
  pub made_one : (kept : Contexts) (l : DomainState) (context : ℕ) (role : Role) (position : Position) → AreContexts kept (contexts_of l)
      → AreContexts kept (contexts_of (made context role position l))
  -- all else that leaves the contexts, and is seen by no wait
  pub unseen : (kept : Contexts) (l k : DomainState) → AreContexts kept (contexts_of l) → k.contexts ≡ l.contexts
      → ((g : ℕ) → WaitsAlike (fiber_at l.fibers g) (fiber_at k.fibers g)) → AreContexts kept (contexts_of k)

-- ## Strikes

pub record StrikesInStep : Type 0 where
  -- a strike on a fiber that waits still: it is in the list, its context is off for the same reason, and it doesn't wait from then on
  pub won : (kept : Contexts) (l : DomainState) (duty : Duty) (g : ℕ) → AreContexts kept (contexts_of l) → can_be_struck (fiber_at l.fibers g) ≡ true
      → is_live kept.made (fiber_at l.fibers g).context ≡ true
      → (waits g kept.waiting ≡ true) × (off kept.made (fiber_at l.fibers g).context ≡ off_for l g)
      × AreContexts (called (Unwait g) kept) (contexts_of (strike_told duty g true l).state)
  -- those that a domain makes by itself are won so in `await-cancel` and in `sleep`
  pub own : (kept : Contexts) (l : DomainState) (duty : Duty) (g : ℕ) (wait : WaitIn) → AreContexts kept (contexts_of l) → (fiber_at l.fibers g).standing ≡ Parked wait
      → (wait ≡ ForCancel) ⊎ (wait ≡ Asleep) → AreContexts (called (Unwait g) kept) (contexts_of (own_strike duty g (Parked wait) l).state)
  -- no more are struck than live
  pub few : (contexts : List Context) (fibers : List Fiber) (c : ℕ) → length (to_be_struck contexts (waiting_from 0 fibers) c) ≤ live_fibers fibers
  -- once a context was cancelled, a cancellation of it strikes nobody
  pub at_once : (contexts : List Context) (ws : List Waiting) (c : ℕ) (why : Plain) → to_be_struck (cancel c why contexts) ws c ≡ []
  -- a context that was cancelled is cancelled again without any change, so the strikes of two cancellations of one context are those of the first
  pub again : (maker other c : ℕ) (why because : Plain) (l : DomainState) → cancels other c because (cancels maker c why l) ≡ cancels maker c why l
