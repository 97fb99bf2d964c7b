-- In the midst of a move: the fiber that moves is out of the ready list, and its scopes aren't seen of it, but are those that it had before.
use Rattle.std.proofs.Common.{◌≡◌, ◌≢◌, inl, inr, ℕ, ◌+◌, ◌≤◌, Bool, true, false, List, [], ◌∷◌, ◌++◌, length, refl, ap, ap₂, ◌∙◌, sym, subst, arith}
use Rattle.std.specs.Prelude.{All}
use Rattle.std.specs.List.{Contains}
use Rattle.std.proofs.lemmas.List.Elements.{Contains-push_cases}
use Rattle.eio_value.specs.declared.value.Value.{Value}
use Rattle.spec_parts.specs.Contexts.{context_at, is_live}
use Rattle.spec_parts.specs.Groups.{Group, group_at}
use Rattle.spec_parts.specs.Switches.{switch_at}
use Rattle.spec_fiber.specs.Settling.{Settled}
use Rattle.spec_fiber.specs.Work.{Work}
use Rattle.spec_machine.specs.Domain.{Next, Wait, Standing, Ready, Parked, Ended, Fiber, DomainState, fiber_at, has_ended, live_fibers, stands, to_head, to_back}
use Rattle.spec_machine.specs.Preparing.{called_by}
use Rattle.law_domain.specs.Sound.Scopes.{Entered, scope_held, scopes, scopes_in, scopes_of}
use Rattle.law_domain.specs.Sound.SoundStates.{IsCounted, IsScoped, IsSoundFiber, IsSoundPosition, IsSoundState, IsSoundWith, IsStrike, IsBuiltNext, IsBuiltStanding, IsBuiltWait, attached_to, branches_of}
use Rattle.law_domain.proofs.Sound.Attaching.{attached_same}
use Rattle.law_domain.proofs.Sound.Changes.{OnlyAt, of_only, set_once}
use Rattle.law_domain.proofs.Sound.Counting.{lives_below, live_same}
use Rattle.law_domain.proofs.Sound.Into.{SamePeople, same_branches}
use Rattle.law_domain.proofs.Sound.Lists.{AreDistinct, contains_behind, contains_cases, contains_first, distinct_back, distinct_behind, front_apart, not_behind}
use Rattle.law_domain.proofs.Sound.Staying.{ScopesStay, scopes_stay}

pub record IsMid (g : ℕ) (held : ℕ → List Entered) (lines : ℕ) (l : DomainState) : Type 0 where
  pub sound : IsSoundWith held lines l
  pub moves : (next : Next) × ((fiber_at l.fibers g).standing ≡ Ready next)
  pub away : Contains l.ready g → ⊥
  pub others : (h : ℕ) → h ≢ g → held h ≡ scopes_of l h

-- a line more
abbrev pub one_more_line : DomainState → (stamp : ℕ) → DomainState
one_more_line l stamp = record l { stamp = stamp; lines = l.lines + 1 }

-- ## Standing

abbrev pub standing_ended : Standing → Bool
standing_ended standing = elim standing [ Ended it ↦ true | Ready next ↦ false | Parked wait ↦ false ]

pub is_ready_lives : (fiber : Fiber) (next : Next) → fiber.standing ≡ Ready next → has_ended fiber ≡ false
is_ready_lives fiber next is = ap standing_ended is

pub mid_lives : (g : ℕ) (held : ℕ → List Entered) (lines : ℕ) (l : DomainState) → IsMid g held lines l → has_ended (fiber_at l.fibers g) ≡ false
mid_lives g held lines l mid = is_ready_lives (fiber_at l.fibers g) mid.moves.0 mid.moves.1

-- ## More were made

-- what was sound where fewer were made is sound
pub position_grows : (switches contexts more others : ℕ) (work : List Work) (variables : List Value) → switches ≤ more → contexts ≤ others
    → IsSoundPosition switches contexts work variables → IsSoundPosition more others work variables
position_grows switches contexts more others work variables a b it = it

pub fiber_grows : (l k : DomainState) (g : ℕ) (fiber : Fiber) → length l.switches ≤ length k.switches → length l.contexts ≤ length k.contexts → IsSoundFiber l g fiber → IsSoundFiber k g fiber
fiber_grows l k g fiber switches contexts was = record {
  stand = was.stand;
  role = was.role;
  position = λ lives. position_grows (length l.switches) (length l.contexts) (length k.switches) (length k.contexts) fiber.work fiber.variables switches contexts (was.position lives);
}

-- ## Nothing that scopes are seen by has changed

pub record Untouched (l k : DomainState) : Type 0 where
  pub fibers : k.fibers ≡ l.fibers
  pub ready : k.ready ≡ l.ready
  pub owes : All IsStrike l.duties → All IsStrike k.duties
  pub sleeps : k.timers ≡ l.timers
  pub contexts_made : length k.contexts ≡ length l.contexts
  pub parents : (c : ℕ) → (context_at k.contexts c).parent ≡ (context_at l.contexts c).parent
  pub live : (c : ℕ) → is_live k.contexts c ≡ is_live l.contexts c
  pub switches_made : length k.switches ≡ length l.switches
  pub contexts : (n : ℕ) → (switch_at k.switches n).context ≡ (switch_at l.switches n).context
  pub finished : (n : ℕ) → (switch_at k.switches n).finished ≡ (switch_at l.switches n).finished
  pub lists : (n : ℕ) (daemon : Bool) → attached_to daemon (switch_at k.switches n) ≡ attached_to daemon (switch_at l.switches n)
  pub groups : k.groups ≡ l.groups
  pub lines : k.lines ≡ l.lines

pub untouched_after : (l k m : DomainState) → Untouched l k → Untouched k m → Untouched l m
untouched_after l k m one two = record {
  fibers = two.fibers ∙ one.fibers;
  ready = two.ready ∙ one.ready;
  owes = λ owes. two.owes (one.owes owes);
  sleeps = two.sleeps ∙ one.sleeps;
  contexts_made = two.contexts_made ∙ one.contexts_made;
  parents = λ c. two.parents c ∙ one.parents c;
  live = λ c. two.live c ∙ one.live c;
  switches_made = two.switches_made ∙ one.switches_made;
  contexts = λ n. two.contexts n ∙ one.contexts n;
  finished = λ n. two.finished n ∙ one.finished n;
  lists = λ n daemon. two.lists n daemon ∙ one.lists n daemon;
  groups = two.groups ∙ one.groups;
  lines = two.lines ∙ one.lines;
}

pub untouched_itself : (l : DomainState) → Untouched l l
untouched_itself l = record {
  fibers = refl;
  ready = refl;
  owes = λ owes. owes;
  sleeps = refl;
  contexts_made = refl;
  parents = λ c. refl;
  live = λ c. refl;
  switches_made = refl;
  contexts = λ n. refl;
  finished = λ n. refl;
  lists = λ n daemon. refl;
  groups = refl;
  lines = refl;
}

module _ (held : ℕ → List Entered) (lines : ℕ) (l k : DomainState) (sound : IsSoundWith held lines l) (same : Untouched l k) where
  same_fiber : (h : ℕ) → fiber_at k.fibers h ≡ fiber_at l.fibers h
  same_fiber h = ap (λ fs. fiber_at fs h) same.fibers

  same_people : SamePeople l k
  same_people = record { ended = λ h. ap has_ended (same_fiber h); role = λ h. ap (λ (f : Fiber). f.role) (same_fiber h) }

  stay_there : ScopesStay held held l k
  stay_there = record {
    fibers = λ h lives. inl (record {
      lived = ap has_ended (sym (same_fiber h)) ∙ lives;
      role = ap (λ (f : Fiber). f.role) (same_fiber h);
      context = ap (λ (f : Fiber). f.context) (same_fiber h);
      has = refl;
    });
    stay = λ h lives. inl (record { lives = ap has_ended (same_fiber h) ∙ lives; has = refl });
    contexts = same.contexts;
    finished = same.finished;
    group_contexts = λ n. ap (λ gs. (group_at gs n).context) same.groups;
    lefts = λ n. ap₂ (λ (gs : List Group) (fs : List Fiber). (group_at gs n).left + branches_of n fs) same.groups (sym same.fibers);
    parents = same.parents;
    live = λ c low. same.live c;
    body = λ live. ap has_ended (same_fiber 0) ∙ sound.scoped.body (sym (same.live 0) ∙ live);
    rooted = λ lives. same.live 0 ∙ sound.scoped.rooted (ap has_ended (sym (same_fiber 0)) ∙ lives);
  }

  counted_same : IsCounted lines k
  counted_same = (
      let live : live_fibers k.fibers ≡ live_fibers l.fibers = ap live_fibers same.fibers in
      let fibers : length k.fibers ≡ length l.fibers = ap length same.fibers in
      let groups : length k.groups ≡ length l.groups = ap length same.groups in
      let contexts = same.contexts_made in
      let switches = same.switches_made in
      let was = sound.counted in
      record {
        live = omega (arith, live, was.live);
        fibers_made = omega (arith, live, fibers, was.fibers_made);
        some_context = omega (arith, contexts, was.some_context);
        contexts_made = omega (arith, contexts, was.contexts_made);
        switches_made = omega (arith, switches, was.switches_made);
        groups_made = omega (arith, groups, was.groups_made);
      })

  pub untouched_sound : IsSoundWith held lines k
  untouched_sound = (
      let contexts = same.contexts_made in
      let switches = same.switches_made in
      record {
        owes = same.owes sound.owes;
        sleeps = ap (λ ts. ts.standing) same.sleeps ∙ sound.sleeps;
        fibers = λ h. subst (λ (f : Fiber). IsSoundFiber k h f) (sym (same_fiber h)) (fiber_grows l k h _ (omega (arith, switches)) (omega (arith, contexts)) (sound.fibers h));
        distinct = subst AreDistinct (sym same.ready) sound.distinct;
        ready = λ h there. (
            let was = sound.ready h (subst (λ xs. Contains xs h) same.ready there) in
            (was.0, ap (λ (f : Fiber). f.standing) (same_fiber h) ∙ was.1));
        attaching = attached_same l k sound.attaching (record { people = same_people; lists = same.lists; finished = λ n done. inl (sym (same.finished n) ∙ done) });
        scoped = scopes_stay held held l k sound.scoped stay_there;
        counted = counted_same;
      })

pub mid_untouched : (g : ℕ) (held : ℕ → List Entered) (lines : ℕ) (l k : DomainState) → IsMid g held lines l → Untouched l k → IsMid g held lines k
mid_untouched g held lines l k mid same = record {
  sound = untouched_sound held lines l k mid.sound same;
  moves = (mid.moves.0, ap (λ fs. (fiber_at fs g).standing) same.fibers ∙ mid.moves.1);
  away = λ there. mid.away (subst (λ xs. Contains xs g) same.ready there);
  others = λ h other. mid.others h other ∙ ap (λ fs. scopes (fiber_at fs h)) (sym same.fibers);
}

-- ## The same scopes, said otherwise

pub reheld : (held new : ℕ → List Entered) (lines more : ℕ) (l : DomainState) → lines ≤ more → ((h : ℕ) → has_ended (fiber_at l.fibers h) ≡ false → new h ≡ held h)
    → IsSoundWith held lines l → IsSoundWith new more l
reheld held new lines more l later same sound = record {
  owes = sound.owes;
  sleeps = sound.sleeps;
  fibers = sound.fibers;
  distinct = sound.distinct;
  ready = sound.ready;
  attaching = sound.attaching;
  scoped = scopes_stay held new l l sound.scoped (record {
    fibers = λ h lives. inl (record { lived = lives; role = refl; context = refl; has = same h lives });
    stay = λ h lives. inl (record { lives = lives; has = same h lives });
    contexts = λ n. refl;
    finished = λ n. refl;
    group_contexts = λ n. refl;
    lefts = λ n. refl;
    parents = λ c. refl;
    live = λ c low. refl;
    body = sound.scoped.body;
    rooted = sound.scoped.rooted;
  });
  counted = (let was = sound.counted in record {
    live = was.live;
    fibers_made = omega (arith, later, was.fibers_made);
    some_context = was.some_context;
    contexts_made = omega (arith, later, was.contexts_made);
    switches_made = omega (arith, later, was.switches_made);
    groups_made = omega (arith, later, was.groups_made);
  });
}

-- the line of the move is told
pub lined : (lines : ℕ) (l : DomainState) (stamp : ℕ) → lines ≤ l.lines + 1 → IsSoundWith (scopes_of l) lines l → IsSoundState (one_more_line l stamp)
lined lines l stamp later sound = (
    let it : IsSoundWith (scopes_of l) (l.lines + 1) l = reheld (scopes_of l) (scopes_of l) lines (l.lines + 1) l later (λ h lives. refl) sound in
    record {
      owes = it.owes;
      sleeps = it.sleeps;
      fibers = λ h. fiber_grows l (one_more_line l stamp) h _ (omega arith) (omega arith) (it.fibers h);
      distinct = it.distinct;
      ready = it.ready;
      attaching = record { attached = it.attaching.attached; attaches = it.attaching.attaches; emptied = it.attaching.emptied };
      scoped = scopes_stay (scopes_of l) (scopes_of l) l (one_more_line l stamp) it.scoped (record {
        fibers = λ h lives. inl (record { lived = lives; role = refl; context = refl; has = refl });
        stay = λ h lives. inl (record { lives = lives; has = refl });
        contexts = λ n. refl;
        finished = λ n. refl;
        group_contexts = λ n. refl;
        lefts = λ n. refl;
        parents = λ c. refl;
        live = λ c low. refl;
        body = it.scoped.body;
        rooted = it.scoped.rooted;
      });
      counted = (let was = it.counted in record {
        live = was.live;
        fibers_made = was.fibers_made;
        some_context = was.some_context;
        contexts_made = was.contexts_made;
        switches_made = was.switches_made;
        groups_made = was.groups_made;
      });
    })

-- ## A fiber stands otherwise

module _ (held : ℕ → List Entered) (lines : ℕ) (l : DomainState) (sound : IsSoundWith held lines l) (g : ℕ) (standing : Standing) (numbers : List ℕ)
    (lives : has_ended (fiber_at l.fibers g) ≡ false) (on : standing_ended standing ≡ false) (built : IsBuiltStanding standing)
    (distinct : AreDistinct numbers) (rest : (h : ℕ) → h ≢ g → Contains numbers h → Contains l.ready h)
    (itself : Contains numbers g → (next : Next) × (standing ≡ Ready next)) where
  abbrev stood : DomainState
  stood = (let t : DomainState = stands standing g l in record t { ready = numbers })

  abbrev one_stands : Fiber
  one_stands = record (fiber_at l.fibers g) { standing = standing }

  pub stands_only : OnlyAt g l.fibers stood.fibers one_stands
  stands_only = set_once g l.fibers one_stands (lives_below l.fibers g lives)

  people_stand : SamePeople l stood
  people_stand = record {
    ended = of_only g l.fibers stood.fibers one_stands stands_only (λ h f. has_ended f ≡ has_ended (fiber_at l.fibers h)) (on ∙ sym lives) (λ h other. refl);
    role = of_only g l.fibers stood.fibers one_stands stands_only (λ h f. f.role ≡ (fiber_at l.fibers h).role) refl (λ h other. refl);
  }

  contexts_stand : (h : ℕ) → (fiber_at stood.fibers h).context ≡ (fiber_at l.fibers h).context
  contexts_stand = of_only g l.fibers stood.fibers one_stands stands_only (λ h f. f.context ≡ (fiber_at l.fibers h).context) refl (λ h other. refl)

  scopes_stand : IsScoped held stood
  scopes_stand = scopes_stay held held l stood sound.scoped (record {
    fibers = λ h alive. inl (record { lived = sym (people_stand.ended h) ∙ alive; role = people_stand.role h; context = contexts_stand h; has = refl });
    stay = λ h lived. inl (record { lives = people_stand.ended h ∙ lived; has = refl });
    contexts = λ n. refl;
    finished = λ n. refl;
    group_contexts = λ n. refl;
    lefts = λ n. ap (λ (count : ℕ). (group_at l.groups n).left + count) (sym (same_branches l stood people_stand n));
    parents = λ c. refl;
    live = λ c low. refl;
    body = λ live. people_stand.ended 0 ∙ sound.scoped.body live;
    rooted = λ alive. sound.scoped.rooted (sym (people_stand.ended 0) ∙ alive);
  })

  counted_stand : IsCounted lines stood
  counted_stand = (
      let live : live_fibers stood.fibers ≡ live_fibers l.fibers = live_same stood.fibers l.fibers people_stand.ended in
      let fibers = stands_only.made in
      let was = sound.counted in
      record {
        live = omega (arith, live, was.live);
        fibers_made = omega (arith, live, fibers, was.fibers_made);
        some_context = was.some_context;
        contexts_made = was.contexts_made;
        switches_made = was.switches_made;
        groups_made = was.groups_made;
      })

  pub stood_sound : IsSoundWith held lines stood
  stood_sound = record {
    owes = sound.owes;
    sleeps = sound.sleeps;
    fibers = of_only g l.fibers stood.fibers one_stands stands_only (λ h f. IsSoundFiber stood h f)
        (record { stand = built; role = λ alive. (sound.fibers g).role lives; position = λ alive. (sound.fibers g).position lives })
        (λ h other. fiber_grows l stood h _ (omega arith) (omega arith) (sound.fibers h));
    distinct = distinct;
    ready = of_only g l.fibers stood.fibers one_stands stands_only (λ h f. Contains numbers h → (next : Next) × (f.standing ≡ Ready next))
        itself (λ h other there. sound.ready h (rest h other there));
    attaching = attached_same l stood sound.attaching (record { people = people_stand; lists = λ n daemon. refl; finished = λ n done. inl done });
    scoped = scopes_stand;
    counted = counted_stand;
  }

-- ## The move comes to its end

module _ (g : ℕ) (held : ℕ → List Entered) (lines : ℕ) (l : DomainState) (mid : IsMid g held lines l) (stamp : ℕ) (later : lines ≤ l.lines + 1) where
  caller_lives : has_ended (fiber_at l.fibers g) ≡ false
  caller_lives = mid_lives g held lines l mid

  module _ (standing : Standing) (numbers : List ℕ) (on : standing_ended standing ≡ false) (built : IsBuiltStanding standing)
      (distinct : AreDistinct numbers) (rest : (h : ℕ) → h ≢ g → Contains numbers h → Contains l.ready h)
      (itself : Contains numbers g → (next : Next) × (standing ≡ Ready next))
      (sees : held g ≡ scope_held standing ++ scopes_in (fiber_at l.fibers g).work) where
    abbrev then : DomainState
    then = (let t : DomainState = stands standing g l in record t { ready = numbers })

    seen : (h : ℕ) → scopes_of then h ≡ held h
    seen h = (
        let only : OnlyAt g l.fibers then.fibers (record (fiber_at l.fibers g) { standing = standing }) =
        stands_only held lines l mid.sound g standing numbers caller_lives on built distinct rest itself in
        of_only g l.fibers then.fibers _ only (λ h f. scopes f ≡ held h) (sym sees) (λ h other. sym (mid.others h other)) h)

    pub seen_sound : IsSoundWith (scopes_of then) lines then
    seen_sound = reheld held (scopes_of then) lines lines then (omega arith) (λ h lives. seen h)
        (stood_sound held lines l mid.sound g standing numbers caller_lives on built distinct rest itself)

    pub comes_to_end : IsSoundState (one_more_line then stamp)
    comes_to_end = lined lines then stamp later seen_sound

  at_front : (h : ℕ) → h ≢ g → Contains (g ∷ l.ready) h → Contains l.ready h
  at_front h other there = elim (contains_cases g h l.ready there) as (λ _. Contains l.ready h) [ inl e ↦ absurd (other (sym e)) | inr it ↦ it ]

  at_back : (h : ℕ) → h ≢ g → Contains (l.ready ++ g ∷ []) h → Contains l.ready h
  at_back h other there = elim (Contains-push_cases l.ready g h there) as (λ _. Contains l.ready h) [ inl it ↦ it | inr e ↦ absurd (other (sym e)) ]

  distinct_front : AreDistinct (g ∷ l.ready)
  distinct_front = front_apart g l.ready mid.sound.distinct mid.away

  -- the fiber goes on at the head
  pub ends_ahead : (next : Next) → IsBuiltNext next → held g ≡ scope_held (Ready next) ++ scopes_in (fiber_at l.fibers g).work
      → IsSoundState (one_more_line (to_head next g l) stamp)
  ends_ahead next built sees = comes_to_end (Ready next) (g ∷ l.ready) refl built distinct_front at_front (λ there. (next, refl)) sees

  pub seen_ahead : (next : Next) → IsBuiltNext next → held g ≡ scope_held (Ready next) ++ scopes_in (fiber_at l.fibers g).work
      → IsSoundWith (scopes_of (to_head next g l)) lines (to_head next g l)
  seen_ahead next built sees = seen_sound (Ready next) (g ∷ l.ready) refl built distinct_front at_front (λ there. (next, refl)) sees

  -- it goes to the back
  pub ends_behind : (next : Next) → IsBuiltNext next → held g ≡ scope_held (Ready next) ++ scopes_in (fiber_at l.fibers g).work
      → IsSoundState (one_more_line (to_back next g l) stamp)
  ends_behind next built sees = comes_to_end (Ready next) (l.ready ++ g ∷ []) refl built (distinct_back l.ready g mid.sound.distinct mid.away) at_back (λ there. (next, refl)) sees

  -- it waits
  pub ends_waiting : (wait : Wait) → IsBuiltWait wait → held g ≡ scope_held (Parked wait) ++ scopes_in (fiber_at l.fibers g).work
      → IsSoundState (one_more_line (stands (Parked wait) g l) stamp)
  ends_waiting wait built sees = comes_to_end (Parked wait) l.ready refl built mid.sound.distinct (λ h other there. there) (λ there. absurd (mid.away there)) sees

-- ## The move begins

-- the domain when a fiber calls
abbrev pub at_call : DomainState → (g : ℕ) → (others : List ℕ) → Settled → DomainState
at_call l g others settled = (called_by g (fiber_at l.fibers g) settled (record l { ready = others })).state

-- the fiber then
abbrev pub caller_at : DomainState → (g : ℕ) → Settled → Fiber
caller_at l g settled = record (fiber_at l.fibers g) { work = settled.behind; variables = settled.carry.variables }

module _ (l : DomainState) (sound : IsSoundState l) (g : ℕ) (others : List ℕ) (is : l.ready ≡ g ∷ others) (settled : Settled)
    (position : IsSoundPosition (length l.switches) (length l.contexts) settled.behind settled.carry.variables) where
  abbrev called : DomainState
  called = at_call l g others settled

  caller_ready : (next : Next) × ((fiber_at l.fibers g).standing ≡ Ready next)
  caller_ready = sound.ready g (subst (λ xs. Contains xs g) (sym is) (contains_first g others))

  lives_then : has_ended (fiber_at l.fibers g) ≡ false
  lives_then = is_ready_lives (fiber_at l.fibers g) caller_ready.0 caller_ready.1

  pub caller_only : OnlyAt g l.fibers called.fibers (caller_at l g settled)
  caller_only = set_once g l.fibers (caller_at l g settled) (lives_below l.fibers g lives_then)

  called_people : SamePeople l called
  called_people = record {
    ended = of_only g l.fibers called.fibers (caller_at l g settled) caller_only (λ h f. has_ended f ≡ has_ended (fiber_at l.fibers h)) refl (λ h other. refl);
    role = of_only g l.fibers called.fibers (caller_at l g settled) caller_only (λ h f. f.role ≡ (fiber_at l.fibers h).role) refl (λ h other. refl);
  }

  called_contexts : (h : ℕ) → (fiber_at called.fibers h).context ≡ (fiber_at l.fibers h).context
  called_contexts = of_only g l.fibers called.fibers (caller_at l g settled) caller_only (λ h f. f.context ≡ (fiber_at l.fibers h).context) refl (λ h other. refl)

  called_scoped : IsScoped (scopes_of l) called
  called_scoped = scopes_stay (scopes_of l) (scopes_of l) l called sound.scoped (record {
    fibers = λ h alive. inl (record { lived = sym (called_people.ended h) ∙ alive; role = called_people.role h; context = called_contexts h; has = refl });
    stay = λ h lived. inl (record { lives = called_people.ended h ∙ lived; has = refl });
    contexts = λ n. refl;
    finished = λ n. refl;
    group_contexts = λ n. refl;
    lefts = λ n. ap (λ (count : ℕ). (group_at l.groups n).left + count) (sym (same_branches l called called_people n));
    parents = λ c. refl;
    live = λ c low. refl;
    body = λ live. called_people.ended 0 ∙ sound.scoped.body live;
    rooted = λ alive. sound.scoped.rooted (sym (called_people.ended 0) ∙ alive);
  })

  called_counted : IsCounted l.lines called
  called_counted = (
      let live : live_fibers called.fibers ≡ live_fibers l.fibers = live_same called.fibers l.fibers called_people.ended in
      let fibers = caller_only.made in
      let was = sound.counted in
      record {
        live = omega (arith, live, was.live);
        fibers_made = omega (arith, live, fibers, was.fibers_made);
        some_context = was.some_context;
        contexts_made = was.contexts_made;
        switches_made = was.switches_made;
        groups_made = was.groups_made;
      })

  all_distinct : AreDistinct (g ∷ others)
  all_distinct = subst AreDistinct is sound.distinct

  pub in_the_midst : IsMid g (scopes_of l) l.lines called
  in_the_midst = record {
    sound = record {
      owes = sound.owes;
      sleeps = sound.sleeps;
      fibers = of_only g l.fibers called.fibers (caller_at l g settled) caller_only (λ h f. IsSoundFiber called h f)
          (record { stand = (sound.fibers g).stand; role = (sound.fibers g).role; position = λ alive. position })
          (λ h other. fiber_grows l called h _ (omega arith) (omega arith) (sound.fibers h));
      distinct = distinct_behind g others all_distinct;
      ready = λ h there. (
          let was = sound.ready h (subst (λ xs. Contains xs h) (sym is) (contains_behind g h others there)) in
          (was.0, of_only g l.fibers called.fibers (caller_at l g settled) caller_only (λ h f. f.standing ≡ (fiber_at l.fibers h).standing) refl (λ h other. refl) h ∙ was.1));
      attaching = attached_same l called sound.attaching (record { people = called_people; lists = λ n daemon. refl; finished = λ n done. inl done });
      scoped = called_scoped;
      counted = called_counted;
    };
    moves = (caller_ready.0, ap (λ (f : Fiber). f.standing) caller_only.there ∙ caller_ready.1);
    away = not_behind g others all_distinct;
    others = λ h other. ap scopes (sym (caller_only.others h other));
  }
