-- The end of a fiber: that of the body ends the first context, and that of another one takes it off its switch, which may wake who closes it.
use Rattle.std.proofs.Common.{◌≡◌, ◌≢◌, inl, inr, ℕ, ◌+◌, ◌<◌, ◌≤◌, Bool, true, false, not, List, [], ◌∷◌, length, Option, Some, None, refl, ap, ◌∙◌, sym, subst, true≢false, arith}
use Rattle.std.specs.List.{Contains}
use Rattle.eio_value.specs.declared.raised.Outcome.{Outcome}
use Rattle.spec_parts.specs.Contexts as contexts
use Rattle.spec_parts.specs.Contexts.{Context, context_at, is_live, end}
use Rattle.spec_parts.specs.Groups.{Group, group_at, with_group, never_gathered, branch_ends}
use Rattle.spec_parts.specs.Switches.{Switch, Closer, Nobody, ForFibers, ForDaemons, switch_at, never_opened, detach, wake_closer, woken_by, without}
use Rattle.spec_script.specs.Scripts.{Script}
use Rattle.spec_fiber.specs.Asks as ask
use Rattle.spec_fiber.specs.Asks.{Ask}
use Rattle.spec_machine.specs.Domain.{Role, OfBody, OfJob, OfSwitch, OfGroup, OfWriter, CallsAgain, OnObject, Asleep, ForCancel, ForOthers, Resting, Standing, Ready, Parked, Ended, Fiber, DomainState, fiber_at, has_ended, ended, to_back}
use Rattle.spec_machine.specs.GroupMoves.{cancels_if}
use Rattle.spec_machine.specs.EndMoves.{after_end, ends_context}
use Rattle.spec_machine.specs.Moves.{own_call}
use Rattle.spec_machine.specs.SwitchMoves.{given_up, with_switch_at, woken, woken_if}
use Rattle.law_domain.specs.Sound.Scopes.{Entered, InGroup, Nests, ScopeAt, base_of}
use Rattle.law_domain.specs.Sound.SoundStates.{IsBuiltRole, IsBuiltStanding, attached_to, branches_of, is_of_group}
use Rattle.law_domain.proofs.Sound.Branches.{fewer_branches, is_none, is_one, same_branches_aside, some_branch}
use Rattle.law_domain.proofs.Sound.ByNumber as numbers
use Rattle.law_domain.proofs.Sound.ByNumber.{same_or_other}
use Rattle.law_domain.proofs.Sound.Calling.{IsSoundUnless}
use Rattle.law_domain.proofs.Sound.Changes.{OnlyAt, set_once}
use Rattle.law_domain.proofs.Sound.Counting.{lives_below}
use Rattle.law_domain.proofs.Sound.EndOf.{EndsOne, ends_one_sound, same_lefts}
use Rattle.law_domain.proofs.Sound.GroupMidst.{less_one, untouched_cancels_if}
use Rattle.law_domain.proofs.Sound.Into.{forked_unfinished}
use Rattle.law_domain.proofs.Sound.Lists.{left_stood, other_left}
use Rattle.law_domain.proofs.Sound.Midst.{IsMid, Untouched, lined, mid_lives, one_more_line}
use Rattle.law_domain.proofs.Sound.Scoping.{groups_below, unfinished_below}
use Rattle.law_domain.proofs.Sound.Untouching.{untouched_given_up}
use Rattle.law_domain.proofs.Sound.Waking.{StillSound, parked_back}

-- ## Who is woken

abbrev woken_so : Standing → ℕ → DomainState → DomainState
woken_so standing g l = elim standing [
  | Parked wait ↦ elim wait [ ForOthers call ↦ to_back (CallsAgain call) g l | OnObject who ↦ l | Asleep ↦ l | ForCancel ↦ l | Resting ↦ l ]
  | Ready next ↦ l
  | Ended it ↦ l
]

module _ (lines told : ℕ) (l : DomainState) (still : StillSound lines told l) (g : ℕ) where
  by_standing : (standing : Standing) → (fiber_at l.fibers g).standing ≡ standing → StillSound lines told (woken_so standing g l)
  by_standing (Parked (ForOthers call)) is =
      parked_back lines told l still g (ForOthers call) (CallsAgain call) is refl (subst IsBuiltStanding is (still.sound.fibers g).stand)
  by_standing standing is = still

  woken_sound : StillSound lines told (woken g l)
  woken_sound = by_standing (fiber_at l.fibers g).standing refl

woken_if_sound : (found : Option ℕ) (lines told : ℕ) (l : DomainState) → StillSound lines told l → StillSound lines told (woken_if found l)
woken_if_sound None lines told l still = still
woken_if_sound (Some g) lines told l still = woken_sound lines told l still g

-- ## The switch that a fiber leaves

-- only who waits there may be another one then
record SameButCloser (old changed : Switch) : Type 0 where
  context : changed.context ≡ old.context
  finished : changed.finished ≡ old.finished
  lists : (daemon : Bool) → attached_to daemon changed ≡ attached_to daemon old

same_closer : (s : Switch) (closer : Closer) → SameButCloser s (record s { closer = closer })
same_closer s closer = record { context = refl; finished = refl; lists = lists } where
  lists : (daemon : Bool) → attached_to daemon (record s { closer = closer }) ≡ attached_to daemon s
  lists true = refl
  lists false = refl

woken_same : (left : List ℕ) (closer : ℕ) (s : Switch) → SameButCloser s (woken_by left closer s).switch
woken_same [] closer s = same_closer s Nobody
woken_same (f ∷ fs) closer s = same_closer s s.closer

closer_same : (closer : Closer) (s : Switch) → SameButCloser s (wake_closer closer s).switch
closer_same Nobody s = same_closer s s.closer
closer_same (ForFibers closer) s = woken_same s.fibers closer s
closer_same (ForDaemons closer) s = woken_same s.daemons closer s

without_lists : (g : ℕ) (s : Switch) (daemon : Bool) → attached_to daemon (record s { fibers = without g s.fibers; daemons = without g s.daemons }) ≡ without g (attached_to daemon s)
without_lists g s true = refl
without_lists g s false = refl

detach_lists : (g : ℕ) (s : Switch) (daemon : Bool) → attached_to daemon (detach g s).switch ≡ without g (attached_to daemon s)
detach_lists g s daemon = (closer_same s.closer (record s { fibers = without g s.fibers; daemons = without g s.daemons })).lists daemon ∙ without_lists g s daemon

detach_context : (g : ℕ) (s : Switch) → (detach g s).switch.context ≡ s.context
detach_context g s = (closer_same s.closer (record s { fibers = without g s.fibers; daemons = without g s.daemons })).context

detach_finished : (g : ℕ) (s : Switch) → (detach g s).switch.finished ≡ s.finished
detach_finished g s = (closer_same s.closer (record s { fibers = without g s.fibers; daemons = without g s.daemons })).finished

abbrev switch_of : Role → ℕ
switch_of role = elim role [ OfBody ↦ 0 | OfJob executor number ↦ 0 | OfSwitch switch daemon ↦ switch | OfGroup group ↦ 0 | OfWriter writer ↦ 0 ]

abbrev group_of : Role → ℕ
group_of role = elim role [ OfBody ↦ 0 | OfJob executor number ↦ 0 | OfSwitch switch daemon ↦ 0 | OfGroup group ↦ group | OfWriter writer ↦ 0 ]

abbrev is_of_switch : Role → Bool
is_of_switch role = elim role [ OfBody ↦ false | OfJob executor number ↦ false | OfSwitch switch daemon ↦ true | OfGroup group ↦ false | OfWriter writer ↦ false ]

-- ## The end

module _ (g : ℕ) (held : ℕ → List Entered) (l : DomainState) (mid : IsMid g held l.lines l) (none : held g ≡ []) (result : Outcome) (stamp : ℕ) where
  abbrev over_fiber : Fiber
  over_fiber = record (fiber_at l.fibers g) { work = []; variables = []; standing = Ended result }

  abbrev over : DomainState
  over = ended result g l

  alive : has_ended (fiber_at l.fibers g) ≡ false
  alive = mid_lives g held l.lines l mid

  over_only : OnlyAt g l.fibers over.fibers over_fiber
  over_only = set_once g l.fibers over_fiber (lives_below l.fibers g alive)

  -- it runs in the context that it began in
  at_base : (fiber_at l.fibers g).context ≡ base_of l (fiber_at l.fibers g).role
  at_base = subst (λ xs. Nests l (base_of l (fiber_at l.fibers g).role) xs (fiber_at l.fibers g).context) none (mid.sound.scoped.nests g alive)

  -- ### The body

  module _ (is_body : g ≡ 0) (role : (fiber_at l.fibers g).role ≡ OfBody) where
    module _ (c : ℕ) (root : c ≡ 0) where
      abbrev rootless : DomainState
      rootless = record (ended result g l) { contexts = end c l.contexts }

      below : c < length l.contexts
      below = (let some = mid.sound.counted.some_context in omega (arith, some, root))

      over_root : is_live (end c l.contexts) 0 ≡ false
      over_root = subst (λ (x : ℕ). is_live (end c l.contexts) x ≡ false) root (ap (λ (x : Context). not x.ended) (numbers.changed_itself contexts.never_made l.contexts c _ below))

      body_ends : EndsOne held g over_fiber l rootless
      body_ends = record {
        none = none;
        over = refl;
        stand = tt;
        fibers = over_only;
        owes = mid.sound.owes;
        sleeps = mid.sound.sleeps;
        ready = refl;
        groups_made = refl;
        group_contexts = λ n. refl;
        lefts = same_lefts g over_fiber l rootless over_only refl (λ n. ap (is_of_group n) role) refl;
        contexts_made = numbers.set_keeps_length contexts.never_made l.contexts c _;
        switches_made = refl;
        parents = numbers.set_same contexts.never_made (λ (x : Context). x.parent) l.contexts c _ refl;
        live = λ x low. ap (λ (y : Context). not y.ended) (numbers.others_unchanged contexts.never_made l.contexts c x _ (λ e. omega (arith, e, low, root)));
        body = λ live. absurd (true≢false (sym live ∙ over_root));
        rooted = λ other live. absurd (other (sym is_body));
        contexts = λ n. refl;
        finished = λ n. refl;
        detaches = record {
          over = ap has_ended over_only.there;
          others = over_only.others;
          left = λ m d h there. (
            there,
            λ e. (
                let was = mid.sound.attaching.attached m d h there in
                true≢false (ap is_of_switch (sym was.0 ∙ (ap (λ (x : ℕ). (fiber_at l.fibers x).role) e ∙ role)))),
          );
          stays = λ m d h other there. there;
          emptied = λ m d done. mid.sound.attaching.emptied m d done;
        };
      }

      body_sound : IsSoundUnless (one_more_line rootless stamp)
      body_sound runs = lined (l.lines + 1) rootless stamp (omega arith) (ends_one_sound g held l.lines over_fiber l rootless mid body_ends)

    body_kept : IsSoundUnless (one_more_line (ends_context (fiber_at over.fibers g).context over) stamp)
    body_kept = body_sound (fiber_at over.fibers g).context (ap (λ (f : Fiber). f.context) over_only.there ∙ (at_base ∙ ap (base_of l) role))

  -- ### Another one

  module _ (n : ℕ) (daemon : Bool) (later : 0 < g) (role : (fiber_at l.fibers g).role ≡ OfSwitch n daemon) where
    -- its switch, to which what it raised was given
    abbrev given : DomainState
    given = given_up g n daemon result over

    same : Untouched over given
    same = untouched_given_up g n daemon result over

    abbrev changed : Switch
    changed = (detach g (switch_at given.switches n)).switch

    abbrev off : DomainState
    off = with_switch_at n changed given

    still : (switch_at l.switches n).finished ≡ false
    still = forked_unfinished l mid.sound.attaching n daemon g role alive

    switch_there : n < length given.switches
    switch_there = (let count = same.switches_made in let below = unfinished_below l.switches n still in omega (arith, count, below))

    context_kept : (m : ℕ) → (switch_at off.switches m).context ≡ (switch_at l.switches m).context
    context_kept m = numbers.set_same never_opened (λ (s : Switch). s.context) given.switches n changed (detach_context g (switch_at given.switches n)) m ∙ same.contexts m

    finished_kept : (m : ℕ) → (switch_at off.switches m).finished ≡ (switch_at l.switches m).finished
    finished_kept m = numbers.set_same never_opened (λ (s : Switch). s.finished) given.switches n changed (detach_finished g (switch_at given.switches n)) m ∙ same.finished m

    list_here : (d : Bool) → attached_to d (switch_at off.switches n) ≡ without g (attached_to d (switch_at l.switches n))
    list_here d = ap (attached_to d) (numbers.changed_itself never_opened given.switches n changed switch_there)
        ∙ (detach_lists g (switch_at given.switches n) d ∙ ap (without g) (same.lists n d))

    list_elsewhere : (m : ℕ) → m ≢ n → (d : Bool) → attached_to d (switch_at off.switches m) ≡ attached_to d (switch_at l.switches m)
    list_elsewhere m other d = ap (attached_to d) (numbers.others_unchanged never_opened given.switches n m changed other) ∙ same.lists m d

    left_there : (m : ℕ) (d : Bool) (h : ℕ) → Contains (attached_to d (switch_at off.switches m)) h → Contains (attached_to d (switch_at l.switches m)) h × (h ≢ g)
    left_there m d h there = elim (same_or_other m n) as (λ _. Contains (attached_to d (switch_at l.switches m)) h × (h ≢ g)) [
      | inl e ↦ (
          let at : Contains (without g (attached_to d (switch_at l.switches n))) h =
          subst (λ xs. Contains xs h) (list_here d) (subst (λ (x : ℕ). Contains (attached_to d (switch_at off.switches x)) h) e there) in
          let it = left_stood g h (attached_to d (switch_at l.switches n)) at in
          (subst (λ (x : ℕ). Contains (attached_to d (switch_at l.switches x)) h) (sym e) it.0, it.1))
      | inr other ↦ (
          let was : Contains (attached_to d (switch_at l.switches m)) h = subst (λ xs. Contains xs h) (list_elsewhere m other d) there in
          (was, λ e. other (ap switch_of (sym (mid.sound.attaching.attached m d h was).0 ∙ (ap (λ (x : ℕ). (fiber_at l.fibers x).role) e ∙ role)))))
    ]

    stays_there : (m : ℕ) (d : Bool) (h : ℕ) → h ≢ g → Contains (attached_to d (switch_at l.switches m)) h → Contains (attached_to d (switch_at off.switches m)) h
    stays_there m d h away there = elim (same_or_other m n) as (λ _. Contains (attached_to d (switch_at off.switches m)) h) [
      | inl e ↦ (
          let at : Contains (attached_to d (switch_at l.switches n)) h = subst (λ (x : ℕ). Contains (attached_to d (switch_at l.switches x)) h) e there in
          subst (λ (x : ℕ). Contains (attached_to d (switch_at off.switches x)) h) (sym e)
          (subst (λ xs. Contains xs h) (sym (list_here d)) (other_left g h away (attached_to d (switch_at l.switches n)) at)))
      | inr other ↦ subst (λ xs. Contains xs h) (sym (list_elsewhere m other d)) there
    ]

    emptied_then : (m : ℕ) (d : Bool) → (switch_at off.switches m).finished ≡ true → attached_to d (switch_at off.switches m) ≡ []
    emptied_then m d done = (
        let was : (switch_at l.switches m).finished ≡ true = sym (finished_kept m) ∙ done in
        let other : m ≢ n = λ e. true≢false (sym was ∙ (ap (λ (x : ℕ). (switch_at l.switches x).finished) e ∙ still)) in
        list_elsewhere m other d ∙ mid.sound.attaching.emptied m d was)

    off_only : OnlyAt g l.fibers off.fibers over_fiber
    off_only = subst (λ fs. OnlyAt g l.fibers fs over_fiber) (sym same.fibers) over_only

    leaves_switch : EndsOne held g over_fiber l off
    leaves_switch = record {
      none = none;
      over = refl;
      stand = tt;
      fibers = off_only;
      owes = same.owes mid.sound.owes;
      sleeps = ap (λ ts. ts.standing) same.sleeps ∙ mid.sound.sleeps;
      ready = same.ready;
      groups_made = ap length same.groups;
      group_contexts = λ m. ap (λ gs. (group_at gs m).context) same.groups;
      lefts = same_lefts g over_fiber l off off_only refl (λ m. ap (is_of_group m) role) same.groups;
      contexts_made = same.contexts_made;
      switches_made = numbers.set_keeps_length never_opened given.switches n changed ∙ same.switches_made;
      parents = same.parents;
      live = λ c low. same.live c;
      body = λ live. (λ e. omega (arith, e, later), sym (same.live 0) ∙ live);
      rooted = λ other live. same.live 0 ∙ live;
      contexts = context_kept;
      finished = finished_kept;
      detaches = record {
        over = ap has_ended off_only.there;
        others = off_only.others;
        left = left_there;
        stays = stays_there;
        emptied = emptied_then;
      };
    }

    switch_kept : IsSoundUnless (one_more_line (after_end (OfSwitch n daemon) result g over) stamp)
    switch_kept runs = (
        let left : StillSound (l.lines + 1) l.lines off = record { sound = ends_one_sound g held l.lines over_fiber l off mid leaves_switch; told_by = same.lines } in
        let it = woken_if_sound (detach g (switch_at given.switches n)).woken (l.lines + 1) l.lines off left in
        let told = it.told_by in
        lined (l.lines + 1) (after_end (OfSwitch n daemon) result g over) stamp (omega (arith, told)) it.sound)

  -- ### A branch

  module _ (n : ℕ) (later : 0 < g) (role : (fiber_at l.fibers g).role ≡ OfGroup n) where
    abbrev old_group : Group
    old_group = group_at l.groups n

    abbrev changed_group : Group
    changed_group = (branch_ends result old_group).group

    -- its group was made, and it is one of the branches that are left
    there : (own : Bool) × (h : ℕ) × (i : ℕ) × ScopeAt held l (InGroup n own) h i
    there = mid.sound.scoped.gathered n g role alive

    group_there : n < length l.groups
    group_there = groups_below l.groups n (mid.sound.scoped.entered (InGroup n there.0) there.1 there.2 there.3).low

    some_left : 1 ≤ old_group.left
    some_left = (
        let left = mid.sound.scoped.left n there.0 there.1 there.2 there.3 in
        let some = some_branch n l.fibers g alive role in
        omega (arith, left, some))

    abbrev regrouped : DomainState
    regrouped = record (ended result g l) { groups = with_group n changed_group l.groups }

    abbrev cancelled : DomainState
    cancelled = cancels_if g changed_group.context (branch_ends result old_group).cancels regrouped

    unmoved : Untouched regrouped cancelled
    unmoved = untouched_cancels_if g changed_group.context (branch_ends result old_group).cancels regrouped

    branch_only : OnlyAt g l.fibers cancelled.fibers over_fiber
    branch_only = subst (λ fs. OnlyAt g l.fibers fs over_fiber) (sym unmoved.fibers) over_only

    fewer_here : branches_of n cancelled.fibers + 1 ≡ branches_of n l.fibers
    fewer_here = fewer_branches n g l.fibers cancelled.fibers over_fiber branch_only (is_one n (fiber_at l.fibers g) alive role) (is_none n over_fiber (λ lives r. true≢false lives))

    lefts_then : (m : ℕ) → (group_at cancelled.groups m).left + branches_of m l.fibers ≡ (group_at l.groups m).left + branches_of m cancelled.fibers
    lefts_then m = elim (same_or_other m n) as (λ _. (group_at cancelled.groups m).left + branches_of m l.fibers ≡ (group_at l.groups m).left + branches_of m cancelled.fibers) [
      | inl e ↦ subst (λ (x : ℕ). (group_at cancelled.groups x).left + branches_of x l.fibers ≡ (group_at l.groups x).left + branches_of x cancelled.fibers) (sym e) (
          let now : (group_at cancelled.groups n).left ≡ changed_group.left =
          ap (λ gs. (group_at gs n).left) unmoved.groups ∙ ap (λ (x : Group). x.left) (numbers.changed_itself never_gathered l.groups n changed_group group_there) in
          let less = (less_one result old_group).left in
          omega (arith, now, less, fewer_here, some_left))
      | inr other ↦ (
          let now : (group_at cancelled.groups m).left ≡ (group_at l.groups m).left =
          ap (λ gs. (group_at gs m).left) unmoved.groups ∙ ap (λ (x : Group). x.left) (numbers.others_unchanged never_gathered l.groups n m changed_group other) in
          let same : branches_of m cancelled.fibers ≡ branches_of m l.fibers = same_branches_aside m g l.fibers cancelled.fibers over_fiber branch_only
          (is_none m (fiber_at l.fibers g) (λ lives r. other (ap group_of (sym r ∙ role)))) (is_none m over_fiber (λ lives r. true≢false lives)) in
          omega (arith, now, same))
    ]

    leaves_group : EndsOne held g over_fiber l cancelled
    leaves_group = record {
      none = none;
      over = refl;
      stand = tt;
      fibers = branch_only;
      owes = unmoved.owes mid.sound.owes;
      sleeps = ap (λ ts. ts.standing) unmoved.sleeps ∙ mid.sound.sleeps;
      ready = unmoved.ready;
      groups_made = ap length unmoved.groups ∙ numbers.set_keeps_length never_gathered l.groups n changed_group;
      group_contexts = λ m. ap (λ gs. (group_at gs m).context) unmoved.groups
          ∙ numbers.set_same never_gathered (λ (x : Group). x.context) l.groups n changed_group (less_one result old_group).context m;
      lefts = lefts_then;
      contexts_made = unmoved.contexts_made;
      switches_made = unmoved.switches_made;
      parents = unmoved.parents;
      live = λ c low. unmoved.live c;
      body = λ live. (λ e. omega (arith, e, later), sym (unmoved.live 0) ∙ live);
      rooted = λ other live. unmoved.live 0 ∙ live;
      contexts = unmoved.contexts;
      finished = unmoved.finished;
      detaches = record {
        over = ap has_ended branch_only.there;
        others = branch_only.others;
        left = λ m d h stood. (
            let was : Contains (attached_to d (switch_at l.switches m)) h = subst (λ xs. Contains xs h) (unmoved.lists m d) stood in
            (was, λ e. true≢false (ap is_of_switch (sym (mid.sound.attaching.attached m d h was).0 ∙ (ap (λ (x : ℕ). (fiber_at l.fibers x).role) e ∙ role)))));
        stays = λ m d h other stood. subst (λ xs. Contains xs h) (sym (unmoved.lists m d)) stood;
        emptied = λ m d done. unmoved.lists m d ∙ mid.sound.attaching.emptied m d (sym (unmoved.finished m) ∙ done);
      };
    }

    branch_kept : IsSoundUnless (one_more_line (after_end (OfGroup n) result g over) stamp)
    branch_kept runs = (
        let left : StillSound (l.lines + 1) l.lines cancelled = record { sound = ends_one_sound g held l.lines over_fiber l cancelled mid leaves_group; told_by = unmoved.lines } in
        let it = woken_if_sound (branch_ends result old_group).woken (l.lines + 1) l.lines cancelled left in
        let told = it.told_by in
        lined (l.lines + 1) (after_end (OfGroup n) result g over) stamp (omega (arith, told)) it.sound)

  by_role : (role : Role) → (fiber_at l.fibers g).role ≡ role → IsBuiltRole g role → IsSoundUnless (one_more_line (after_end role result g over) stamp)
  by_role OfBody is may = body_kept may is
  by_role (OfSwitch n daemon) is may = switch_kept n daemon may is
  by_role (OfGroup n) is may = branch_kept n may is
  by_role role is may = absurd may

-- the end of a fiber keeps soundness
pub end_kept : (script : Script) (g : ℕ) (held : ℕ → List Entered) (l : DomainState) → IsMid g held l.lines l → held g ≡ [] → (result : Outcome) (stamp : ℕ)
    → IsSoundUnless (one_more_line (own_call script (ask.End result) g l).state stamp)
unfolding own_call
end_kept script g held l mid none result stamp =
    by_role g held l mid none result stamp (fiber_at l.fibers g).role refl ((mid.sound.fibers g).role (mid_lives g held l.lines l mid))
