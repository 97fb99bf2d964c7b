-- The domain at the call of the fiber that moves: what is changed there is that fiber's work alone, so that as many live as before, and who stands how is as before.
use Rattle.std.proofs.Common.{◌≡◌, inl, inr, ℕ, ◌+◌, ◌-◌, ◌^◌, ◌<◌, ◌≤◌, true, false, List, [], ◌∷◌, length, Option, Some, None, refl, ap, ◌∙◌, sym, subst, true≢false, arith}
use Rattle.std.specs.Prelude.{count_by, is_some}
use Rattle.std.specs.List.{Contains}
use Rattle.spec_parts.specs.Contexts.{is_live}
use Rattle.script_forms.specs.declared.node.Node.{Node}
use Rattle.spec_fiber.specs.Asks.{Ask}
use Rattle.spec_fiber.specs.Settling.{Settled}
use Rattle.spec_machine.specs.Domain.{Fiber, Next, Ready, Parked, ForOthers, Standing, DomainState, never_made, fiber_at, has_ended, live_fibers}
use Rattle.spec_machine.specs.Preparing.{called_by}
use Rattle.law_domain.specs.Sound.Conditions.{Calls}
use Rattle.law_domain.specs.Sound.Scopes.{scopes_of}
use Rattle.law_domain.specs.Sound.SoundStates.{IsSoundState}
use Rattle.law_domain.proofs.Sound.ByNumber.{set_same, set_keeps_length}
use Rattle.law_domain.proofs.Sound.Counting.{few_stand, live_same}
use Rattle.law_domain.proofs.Sound.Following.{ready_live}
use Rattle.law_domain.proofs.Sound.Lists.{contains_cases, front_apart}
use Rattle.domain_strikes.specs.Waiting.WhoWaits.{contexts_of}
use Rattle.domain_strikes.proofs.Waiting.Alike.{contexts_in_step}
use Rattle.cancel_tree.specs.Forgetting.{AnswersAlike}
use Rattle.domain_core.specs.Conditions.{HasRoomForParked, IsAwake, RunsInLive, waits_so}
use Rattle.domain_core.specs.Keeping.{KeptFiber, KeptDomain, kept_at}
use Rattle.domain_core.specs.Mirrors.{IsFiber, IsKept, Mirrors}
use Rattle.domain_core.specs.Stepping.{IsPlacedAt}
use Rattle.domain_core.proofs.Counting.{same_live}

-- the domain once the silent statements of the fiber are done
abbrev pub at_call : DomainState → (fiber : ℕ) → (others : List ℕ) → Settled → DomainState
at_call l g others settled = (called_by g (fiber_at l.fibers g) settled (record l { ready = others })).state

-- what is known where a sound domain has come to a call, and what is kept stands for it
pub record IsAtCall (nodes : List Node) (texts : List (List ℕ)) (l : DomainState) (g : ℕ) (others : List ℕ) (kept : KeptDomain) : Type 0 where
  pub sound : IsSoundState l
  pub owes : l.duties ≡ []
  pub ready : l.ready ≡ g ∷ others
  pub few : l.lines < 1000000
  pub calls : Calls l g others
  pub mirrors : Mirrors nodes texts kept (at_call l g others calls.settled)

-- a fiber that lives is kept
kept_by : (nodes : List Node) (g : ℕ) (found : Option KeptFiber) (fiber : Fiber) → IsKept nodes g found fiber → has_ended fiber ≡ false → (f : KeptFiber) × (found ≡ Some f)
kept_by nodes g None fiber is lives = absurd (true≢false (sym is ∙ lives))
kept_by nodes g (Some f) fiber is lives = (f, refl)

parked_lives : (call : Ask) (fiber : Fiber) → fiber.standing ≡ Parked (ForOthers call) → has_ended fiber ≡ false
parked_lives call fiber is = ap (λ (s : Standing). has_ended (record fiber { standing = s })) is

ready_no_parked : (next : Next) (call : Ask) (standing : Standing) → standing ≡ Ready next → standing ≡ Parked (ForOthers call) → ⊥
ready_no_parked next call standing is other = cc

module _ {nodes : List Node} {texts : List (List ℕ)} {l : DomainState} {g : ℕ} {others : List ℕ} {kept : KeptDomain} (at : IsAtCall nodes texts l g others kept) where
  abbrev behind : Fiber
  behind = record (fiber_at l.fibers g) { work = at.calls.settled.behind; variables = at.calls.settled.carry.variables }

  -- ## Who stands how

  -- what work and variables don't say, each fiber has as before
  same_standing : (h : ℕ) → (fiber_at (at_call l g others at.calls.settled).fibers h).standing ≡ (fiber_at l.fibers h).standing
  same_standing h = set_same never_made (λ (f : Fiber). f.standing) l.fibers g behind refl h

  pub same_context : (h : ℕ) → (fiber_at (at_call l g others at.calls.settled).fibers h).context ≡ (fiber_at l.fibers h).context
  same_context h = set_same never_made (λ (f : Fiber). f.context) l.fibers g behind refl h

  pub same_role : (h : ℕ) → (fiber_at (at_call l g others at.calls.settled).fibers h).role ≡ (fiber_at l.fibers h).role
  same_role h = set_same never_made (λ (f : Fiber). f.role) l.fibers g behind refl h

  pub same_ended : (h : ℕ) → has_ended (fiber_at (at_call l g others at.calls.settled).fibers h) ≡ has_ended (fiber_at l.fibers h)
  same_ended h = set_same never_made has_ended l.fibers g behind refl h

  pub stands_ready : (fiber_at (at_call l g others at.calls.settled).fibers g).standing ≡ Ready at.calls.next
  stands_ready = same_standing g ∙ at.calls.stands

  -- ## The fiber, as it is kept

  pub stands_for : (h : ℕ) (f : KeptFiber) → kept_at kept.fibers h ≡ Some f → IsFiber nodes h f (fiber_at (at_call l g others at.calls.settled).fibers h)
  stands_for h f there = subst (λ (o : Option KeptFiber). IsKept nodes h o (fiber_at (at_call l g others at.calls.settled).fibers h)) there (at.mirrors.fibers h)

  pub awake : IsAwake kept g
  awake = (
      let it : (f : KeptFiber) × (kept_at kept.fibers g ≡ Some f) =
      kept_by nodes g (kept_at kept.fibers g) (fiber_at (at_call l g others at.calls.settled).fibers g) (at.mirrors.fibers g) (same_ended g ∙ at.calls.lives) in
      record {
        fiber = it.0;
        there = it.1;
        awake = ap waits_so (sym (stands_for g it.0 it.1).standing ∙ stands_ready);
      })

  pub placed : IsPlacedAt nodes g kept.fibers
  placed f there = (stands_for g f there).placed

  pub owes_nothing : kept.owed ≡ []
  owes_nothing = sym at.mirrors.duties ∙ at.owes

  -- ## Contexts

  pub alike : AnswersAlike (contexts_of (at_call l g others at.calls.settled)) kept.contexts
  alike = contexts_in_step.alike kept.contexts (contexts_of (at_call l g others at.calls.settled)) at.mirrors.contexts

  pub lives_kept : (c : ℕ) → is_live l.contexts c ≡ true → is_live kept.contexts.made c ≡ true
  lives_kept c lives = alike.live c ∙ lives

  pub live : RunsInLive kept g
  live f there =
      lives_kept f.context (subst (λ (c : ℕ). is_live l.contexts c ≡ true) (sym (same_context g) ∙ (stands_for g f there).context) at.calls.live)

  -- ## How many there are

  same_ready : length kept.ready ≡ length others
  same_ready = ap length (sym at.mirrors.ready)

  pub same_switches : length kept.switches ≡ length l.switches
  same_switches = ap length (sym at.mirrors.switches)

  pub same_groups : length kept.groups ≡ length l.groups
  same_groups = ap length (sym at.mirrors.groups)

  pub same_count : length kept.fibers ≡ length l.fibers
  same_count = sym at.mirrors.count ∙ set_keeps_length never_made l.fibers g behind

  count : count_by is_some kept.fibers ≡ live_fibers l.fibers
  count = sym (same_live nodes texts kept (at_call l g others at.calls.settled) at.mirrors)
      ∙ live_same (at_call l g others at.calls.settled).fibers l.fibers same_ended

  pub room : length kept.ready + 1 ≤ count_by is_some kept.fibers
  room = (let among : length others + 1 ≤ live_fibers l.fibers = at.calls.among_live in omega (arith, among, same_ready, count))

  pub most : count_by is_some kept.fibers ≤ 1024
  most = (let most : live_fibers l.fibers ≤ 1024 = at.sound.counted.live in omega (arith, count, most))

  pub few_contexts : length kept.contexts.made < 2 ^ 32 - 1
  few_contexts = (
      let same : length kept.contexts.made ≡ length l.contexts = alike.count in
      let made : length l.contexts ≤ l.lines + 1 = at.sound.counted.contexts_made in
      let few : l.lines < 1000000 = at.few in
      omega (arith, same, made, few))

  pub few_switches : length kept.switches < 2 ^ 32 - 1
  few_switches = (
      let made : length l.switches ≤ l.lines = at.sound.counted.switches_made in
      let few : l.lines < 1000000 = at.few in
      omega (arith, same_switches, made, few))

  pub few_groups : length kept.groups < 2 ^ 32 - 1
  few_groups = (
      let made : length l.groups ≤ l.lines = at.sound.counted.groups_made in
      let few : l.lines < 1000000 = at.few in
      omega (arith, same_groups, made, few))

  pub few_fibers : length kept.fibers < 2 ^ 32 - 1025
  few_fibers = (
      let made : length l.fibers ≤ l.lines + live_fibers l.fibers = at.sound.counted.fibers_made in
      let most : live_fibers l.fibers ≤ 1024 = at.sound.counted.live in
      let few : l.lines < 1000000 = at.few in
      omega (arith, same_count, made, most, few))

  -- ## Who is parked

  -- one that waits for others stands in no ready list, so that with all who do no more live than may
  pub parked : HasRoomForParked kept
  parked h waits = (
      let stands : (fiber_at l.fibers h).standing ≡ Parked (ForOthers waits.1) =
      sym (same_standing h) ∙ ((stands_for h waits.0 waits.2).standing ∙ waits.3) in
      let apart : Contains l.ready h → ⊥ = λ there. (
      let it : (next : Next) × ((fiber_at l.fibers h).standing ≡ Ready next) = at.sound.ready h there in
      ready_no_parked it.0 waits.1 (fiber_at l.fibers h).standing it.1 stands) in
      let lives : (x : ℕ) → Contains (h ∷ l.ready) x → has_ended (fiber_at l.fibers x) ≡ false = λ x there. (elim (contains_cases h x l.ready there) as (λ _. has_ended (fiber_at l.fibers x) ≡ false) [
        | inl e ↦ subst (λ (y : ℕ). has_ended (fiber_at l.fibers y) ≡ false) e (parked_lives waits.1 (fiber_at l.fibers h) stands)
        | inr it ↦ ready_live (scopes_of l) l.lines l at.sound x it
      ]) in
      let few : length (h ∷ l.ready) ≤ live_fibers l.fibers = few_stand (h ∷ l.ready) l.fibers (front_apart h l.ready at.sound.distinct apart) lives in
      let ready : length l.ready ≡ length (g ∷ others) = ap length at.ready in
      let most : live_fibers l.fibers ≤ 1024 = at.sound.counted.live in
      omega (arith, few, ready, most, same_ready))
