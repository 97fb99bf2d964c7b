-- The parts of a domain's moves, and what each asks of the kept contexts: most leave them as they are; a block in a context, an end, a failure and a cancellation
-- are one call on them each.
use Rattle.std.specs.Prelude.{◌≡◌, ℕ, true, false, List, ◌++◌, map, Option}
use Rattle.eio_value.specs.declared.raised.Outcome.{Outcome}
use Rattle.eio_value.specs.declared.raised.Raised.{Raised}
use Rattle.eio_value.specs.declared.value.Value.{Value}
use Rattle.eio_value.specs.Exceptions.{reason}
use Rattle.spec_parts.specs.Contexts.{context_at, is_live, protect, root, sub, to_be_struck}
use Rattle.spec_parts.specs.ContextCalls.{Contexts, Cancel, Protect, Root, Sub, called, no_contexts}
use Rattle.spec_parts.specs.Switches.{switch_at}
use Rattle.cancel_tree.specs.Ended.{left_by_end}
use Rattle.cancel_tree.specs.Endings.{HasNoLiveChild}
use Rattle.cancel_tree.specs.Waits.{waits_in}
use Rattle.spec_script.specs.Syntax.{Block}
use Rattle.spec_fiber.specs.Asks.{Ask}
use Rattle.spec_fiber.specs.Replies.{Position}
use Rattle.spec_machine.specs.ContextMoves.{leaves}
use Rattle.spec_machine.specs.Domain.{DomainState, ForOthers, Next, Parked, ended, fiber_at, has_ended, moved_to, placed, stands, to_back, to_head}
use Rattle.spec_machine.specs.GroupMoves.{branched}
use Rattle.spec_machine.specs.Mock.{opening_domain}
use Rattle.spec_machine.specs.Steps.{strike_by}
use Rattle.spec_machine.specs.SwitchMoves.{fails, woken_if}
use Rattle.domain_strikes.specs.Waiting.InStep.{AreContexts}
use Rattle.domain_strikes.specs.Waiting.WhoWaits.{can_be_struck, contexts_of}

-- whoever lives and runs in a context doesn't wait so
abbrev pub NobodyWaitsIn : DomainState → ℕ → Type 0
NobodyWaitsIn l c = (g : ℕ) → has_ended (fiber_at l.fibers g) ≡ false → (fiber_at l.fibers g).context ≡ c → can_be_struck (fiber_at l.fibers g) ≡ false

-- ## Parts that no kept context sees, of a fiber that doesn't wait so

pub record FibersInStep : Type 0 where
  pub first : (kept : Contexts) (l : DomainState) (g : ℕ) (next : Next) → AreContexts kept (contexts_of l) → can_be_struck (fiber_at l.fibers g) ≡ false
      → AreContexts kept (contexts_of (to_head next g l))
  pub last : (kept : Contexts) (l : DomainState) (g : ℕ) (next : Next) → AreContexts kept (contexts_of l) → can_be_struck (fiber_at l.fibers g) ≡ false
      → AreContexts kept (contexts_of (to_back next g l))
  pub for_others : (kept : Contexts) (l : DomainState) (g : ℕ) (call : Ask) → AreContexts kept (contexts_of l) → can_be_struck (fiber_at l.fibers g) ≡ false
      → AreContexts kept (contexts_of (stands (Parked (ForOthers call)) g l))
  pub moved : (kept : Contexts) (l : DomainState) (g context : ℕ) → AreContexts kept (contexts_of l) → can_be_struck (fiber_at l.fibers g) ≡ false
      → AreContexts kept (contexts_of (moved_to context g l))
  pub ends_there : (kept : Contexts) (l : DomainState) (g : ℕ) (result : Outcome) → AreContexts kept (contexts_of l) → can_be_struck (fiber_at l.fibers g) ≡ false
      → AreContexts kept (contexts_of (ended result g l))
  -- and of any
  pub stands_there : (kept : Contexts) (l : DomainState) (g : ℕ) (position : Position) → AreContexts kept (contexts_of l)
      → AreContexts kept (contexts_of (placed position g l))
  pub wakes : (kept : Contexts) (l : DomainState) (who : Option ℕ) → AreContexts kept (contexts_of l) → AreContexts kept (contexts_of (woken_if who l))
  pub branches : (kept : Contexts) (l : DomainState) (context group : ℕ) (variables : List Value) (blocks : List Block) → AreContexts kept (contexts_of l)
      → AreContexts kept (contexts_of (branched context group variables blocks l))

-- ## Parts that are a call on the kept contexts

pub record CallsInStep : Type 0 where
  -- a domain that has just started has one context
  pub starts : (number : ℕ) (texts : List (List ℕ)) (body : Block) → AreContexts (called Root no_contexts) (contexts_of (opening_domain number texts body))
  -- a new context has the same number, or there is room for it in neither
  pub roots : (kept : Contexts) (l : DomainState) → AreContexts kept (contexts_of l)
      → ((root kept.made).number ≡ (root l.contexts).number) × AreContexts (called Root kept) (contexts_of (record l { contexts = (root l.contexts).contexts }))
  pub subs : (kept : Contexts) (l : DomainState) (parent : ℕ) → AreContexts kept (contexts_of l) → is_live l.contexts parent ≡ true
      → ((sub parent kept.made).number ≡ (sub parent l.contexts).number)
      × AreContexts (called (Sub parent) kept) (contexts_of (record l { contexts = (sub parent l.contexts).contexts }))
  pub protects : (kept : Contexts) (l : DomainState) (parent : ℕ) → AreContexts kept (contexts_of l) → is_live l.contexts parent ≡ true
      → ((protect parent kept.made).number ≡ (protect parent l.contexts).number)
      × AreContexts (called (Protect parent) kept) (contexts_of (record l { contexts = (protect parent l.contexts).contexts }))
  -- a context that may end, by the domain, may end by what is kept; who ran in it runs in the one above
  pub leaves_it : (kept : Contexts) (l : DomainState) (c g : ℕ) → AreContexts kept (contexts_of l) → is_live l.contexts c ≡ true → HasNoLiveChild l.contexts c
      → NobodyWaitsIn l c → can_be_struck (fiber_at l.fibers g) ≡ false
      → (is_live kept.made c ≡ true) × HasNoLiveChild kept.made c × (waits_in c kept.waiting ≡ false) × ((context_at kept.made c).parent ≡ (context_at l.contexts c).parent)
      × AreContexts (left_by_end c kept) (contexts_of (leaves c g l))
  -- a failure cancels the context of a switch that isn't finished
  pub fails_there : (kept : Contexts) (l : DomainState) (maker n : ℕ) (what : Raised) → AreContexts kept (contexts_of l) → (switch_at l.switches n).finished ≡ false
      → ((fails maker n what l).duties ≡ l.duties ++ map (strike_by maker) (to_be_struck kept.made kept.waiting (switch_at l.switches n).context))
      × AreContexts (called (Cancel (switch_at l.switches n).context (reason what)) kept) (contexts_of (fails maker n what l))
  -- and changes nothing where it is
  pub fails_late : (l : DomainState) (maker n : ℕ) (what : Raised) → (switch_at l.switches n).finished ≡ true → fails maker n what l ≡ l
