-- Changes of a group in the midst of a move, and who is woken by them.
use Rattle.std.proofs.Common.{◌≡◌, ◌≢◌, inl, inr, ℕ, ◌+◌, ◌-◌, ◌==◌, Bool, true, false, List, [], ◌∷◌, ◌++◌, length, Option, Some, None, refl, ap, ◌∙◌, sym, subst, true≢false, arith}
use Rattle.std.specs.List.{Contains}
use Rattle.std.proofs.lemmas.List.Elements.{Contains-push_cases}
use Rattle.eio_value.specs.declared.plain.Plain.{Plain}
use Rattle.eio_value.specs.declared.plain.Plain.TheVariants.{NotFirst}
use Rattle.eio_value.specs.declared.raised.Outcome.{Outcome}
use Rattle.eio_value.specs.declared.raised.Outcome.TheVariants as outcome
use Rattle.eio_value.specs.declared.value.Value.{Value}
use Rattle.spec_parts.specs.Groups.{Group, BranchEnded, group_at, keeps_a_value, kept_value, outcome_in, wake_joiner, branch_ends}
use Rattle.spec_fiber.specs.Asks.{Ask}
use Rattle.spec_fiber.specs.Work.{Work}
use Rattle.spec_machine.specs.Domain.{CallsAgain, OnObject, Asleep, ForCancel, ForOthers, Resting, Standing, Ready, Parked, Ended, Fiber, DomainState, fiber_at, has_ended, to_back}
use Rattle.spec_machine.specs.GroupMoves.{cancels_if}
use Rattle.spec_machine.specs.SwitchMoves.{woken, woken_if}
use Rattle.law_domain.specs.Sound.Scopes.{Entered, InGroup, scope_held, scopes, scopes_in, scopes_of}
use Rattle.law_domain.specs.Sound.SoundStates.{HasAttached, IsCounted, IsBuiltStanding, branches_of}
use Rattle.law_domain.proofs.Sound.Attaching.{attached_same}
use Rattle.law_domain.proofs.Sound.Changes.{OnlyAt, of_only}
use Rattle.law_domain.proofs.Sound.Into.{SamePeople}
use Rattle.law_domain.proofs.Sound.Lists.{distinct_back}
use Rattle.law_domain.proofs.Sound.Midst.{IsMid, Untouched, fiber_grows, mid_lives, standing_ended, stands_only, stood_sound, untouched_itself}
use Rattle.law_domain.proofs.Sound.OwnEnding.{own_ends}
use Rattle.law_domain.proofs.Sound.Scoping.{with_held, held_here, held_elsewhere}
use Rattle.law_domain.proofs.Sound.Staying.{scopes_stay}
use Rattle.law_domain.proofs.Sound.Untouching.{untouched_cancels}

-- ## Other groups, by which scopes are the same

pub record SameGroups (old changed : List Group) : Type 0 where
  pub made : length changed ≡ length old
  pub contexts : (n : ℕ) → (group_at changed n).context ≡ (group_at old n).context
  pub lefts : (n : ℕ) → (group_at changed n).left ≡ (group_at old n).left

module _ (l : DomainState) (changed : List Group) where
  abbrev pub regrouped : DomainState
  regrouped = record l { groups = changed }

  people : SamePeople l regrouped
  people = record { ended = λ h. refl; role = λ h. refl }

  attached_there : HasAttached l → HasAttached regrouped
  attached_there attaching = attached_same l regrouped attaching (record { people = people; lists = λ n daemon. refl; finished = λ n done. inl done })

  counted_there : (lines : ℕ) → length changed ≡ length l.groups → IsCounted lines l → IsCounted lines regrouped
  counted_there lines made was = record {
    live = was.live;
    fibers_made = was.fibers_made;
    some_context = was.some_context;
    contexts_made = was.contexts_made;
    switches_made = was.switches_made;
    groups_made = omega (arith, made, was.groups_made);
  }

pub mid_regrouped : (g : ℕ) (held : ℕ → List Entered) (lines : ℕ) (l : DomainState) (changed : List Group) → IsMid g held lines l → SameGroups l.groups changed
    → IsMid g held lines (record l { groups = changed })
mid_regrouped g held lines l changed mid same = record {
  sound = record {
    owes = mid.sound.owes;
    sleeps = mid.sound.sleeps;
    fibers = λ h. fiber_grows l (record l { groups = changed }) h _ (omega arith) (omega arith) (mid.sound.fibers h);
    distinct = mid.sound.distinct;
    ready = mid.sound.ready;
    attaching = attached_there l changed mid.sound.attaching;
    scoped = scopes_stay held held l (record l { groups = changed }) mid.sound.scoped (record {
      fibers = λ h lives. inl (record { lived = lives; role = refl; context = refl; has = refl });
      stay = λ h lives. inl (record { lives = lives; has = refl });
      contexts = λ n. refl;
      finished = λ n. refl;
      group_contexts = same.contexts;
      lefts = λ n. ap (λ (left : ℕ). left + branches_of n l.fibers) (same.lefts n);
      parents = λ c. refl;
      live = λ c low. refl;
      body = mid.sound.scoped.body;
      rooted = mid.sound.scoped.rooted;
    });
    counted = counted_there l changed lines same.made mid.sound.counted;
  };
  moves = mid.moves;
  away = mid.away;
  others = mid.others;
}

-- ## The own branch has ended

pub mid_own_ends : (g : ℕ) (held : ℕ → List Entered) (lines : ℕ) (l : DomainState) (changed : List Group) (n : ℕ) (behind : List Entered) → IsMid g held lines l
    → held g ≡ InGroup n true ∷ behind → length changed ≡ length l.groups
    → ((m : ℕ) → (group_at changed m).context ≡ (group_at l.groups m).context) → (group_at changed n).left + 1 ≡ (group_at l.groups n).left
    → ((m : ℕ) → m ≢ n → (group_at changed m).left ≡ (group_at l.groups m).left)
    → IsMid g (with_held g (InGroup n false ∷ behind) held) lines (record l { groups = changed })
mid_own_ends g held lines l changed n behind mid had made contexts left elsewhere = (
    let new : ℕ → List Entered = with_held g (InGroup n false ∷ behind) held in
    record {
      sound = record {
        owes = mid.sound.owes;
        sleeps = mid.sound.sleeps;
        fibers = λ h. fiber_grows l (record l { groups = changed }) h _ (omega arith) (omega arith) (mid.sound.fibers h);
        distinct = mid.sound.distinct;
        ready = mid.sound.ready;
        attaching = attached_there l changed mid.sound.attaching;
        scoped = own_ends held (with_held g (InGroup n false ∷ behind) held) l (record l { groups = changed }) g n behind mid.sound.scoped (record {
          lives = mid_lives g held lines l mid;
          fibers = refl;
          contexts = refl;
          switches = refl;
          had = had;
          has = held_here g (InGroup n false ∷ behind) held;
          others = held_elsewhere g (InGroup n false ∷ behind) held;
          group_contexts = contexts;
          left = left;
          left_elsewhere = elsewhere;
        });
        counted = counted_there l changed lines made mid.sound.counted;
      };
      moves = mid.moves;
      away = mid.away;
      others = λ h other. held_elsewhere g (InGroup n false ∷ behind) held h other ∙ mid.others h other;
    })

-- ## What the end of a branch does to its group

pub record LessOne (old changed : Group) : Type 0 where
  pub context : changed.context ≡ old.context
  pub left : changed.left ≡ old.left - 1

kept_less : (it : Value) (group : Group) → ((kept_value it group).group.context ≡ group.context) × ((kept_value it group).group.left ≡ group.left)
kept_less it group = by_kept group.kept where
  by_kept : (kept : Option Value) → let ended : BranchEnded = elim kept [
    | None ↦ record { group = record group { kept = Some it }; cancels = Some NotFirst; woken = None }
    | Some first ↦ record { group = group; cancels = None; woken = None }
  ] in (ended.group.context ≡ group.context) × (ended.group.left ≡ group.left)
  by_kept None = (refl, refl)
  by_kept (Some first) = (refl, refl)

outcome_less : (result : Outcome) (group : Group) → ((outcome_in result group).group.context ≡ group.context) × ((outcome_in result group).group.left ≡ group.left)
outcome_less (outcome.Err raised) group = (refl, refl)
outcome_less (outcome.Ok it) group = by_kind (keeps_a_value group.kind) where
  by_kind : (keeps : Bool) → let ended : BranchEnded = elim keeps [ true ↦ kept_value it group | false ↦ record { group = group; cancels = None; woken = None } ] in
      (ended.group.context ≡ group.context) × (ended.group.left ≡ group.left)
  by_kind true = kept_less it group
  by_kind false = (refl, refl)

woken_less : (ended : BranchEnded) → ((wake_joiner ended).group.context ≡ ended.group.context) × ((wake_joiner ended).group.left ≡ ended.group.left)
woken_less ended = by_left (ended.group.left == 0) where
  by_left : (none : Bool) → let it : BranchEnded = elim none [
    | true ↦ (let group : Group = record (ended.group) { joiner = None } in record { group = group; cancels = ended.cancels; woken = ended.group.joiner })
    | false ↦ ended
  ] in (it.group.context ≡ ended.group.context) × (it.group.left ≡ ended.group.left)
  by_left true = (refl, refl)
  by_left false = (refl, refl)

pub less_one : (result : Outcome) (group : Group) → LessOne group (branch_ends result group).group
less_one result group = (
    let outcome = outcome_less result (record group { left = group.left - 1 }) in
    let woken = woken_less (outcome_in result (record group { left = group.left - 1 })) in
    record { context = woken.0 ∙ outcome.0; left = woken.1 ∙ outcome.1 })

-- ## Who is woken, in the midst of a move

pub record MidStill (g : ℕ) (held : ℕ → List Entered) (told : ℕ) (work : List Work) (l : DomainState) : Type 0 where
  pub mid : IsMid g held told l
  pub told_by : l.lines ≡ told
  pub same_work : (fiber_at l.fibers g).work ≡ work

pub untouched_cancels_if : (maker c : ℕ) (why : Option Plain) (l : DomainState) → Untouched l (cancels_if maker c why l)
untouched_cancels_if maker c None l = untouched_itself l
untouched_cancels_if maker c (Some why) l = untouched_cancels maker c why l

abbrev woken_so : Standing → ℕ → DomainState → DomainState
woken_so standing g l = elim standing [
  | Parked wait ↦ elim wait [ ForOthers call ↦ to_back (CallsAgain call) g l | OnObject who ↦ l | Asleep ↦ l | ForCancel ↦ l | Resting ↦ l ]
  | Ready next ↦ l
  | Ended it ↦ l
]

abbrev is_ready : Standing → Bool
is_ready standing = elim standing [ Ready next ↦ true | Parked wait ↦ false | Ended it ↦ false ]

module _ (g : ℕ) (held : ℕ → List Entered) (told : ℕ) (work : List Work) (l : DomainState) (still : MidStill g held told work l) (w : ℕ) where
  module _ (call : Ask) (is : (fiber_at l.fibers w).standing ≡ Parked (ForOthers call)) where
    lives : has_ended (fiber_at l.fibers w) ≡ false
    lives = ap standing_ended is

    not_ready : Contains l.ready w → ⊥
    not_ready there = (let it = still.mid.sound.ready w there in true≢false (ap is_ready (sym it.1 ∙ is)))

    -- it isn't the one that moves
    is_other : g ≢ w
    is_other e = true≢false (ap is_ready (sym still.mid.moves.1 ∙ (ap (λ (x : ℕ). (fiber_at l.fibers x).standing) e ∙ is)))

    rest : (h : ℕ) → h ≢ w → Contains (l.ready ++ w ∷ []) h → Contains l.ready h
    rest h other there = elim (Contains-push_cases l.ready w h there) as (λ _. Contains l.ready h) [ inl it ↦ it | inr e ↦ absurd (other (sym e)) ]

    may : IsBuiltStanding (Ready (CallsAgain call))
    may = subst IsBuiltStanding is (still.mid.sound.fibers w).stand

    abbrev then : DomainState
    then = to_back (CallsAgain call) w l

    only : OnlyAt w l.fibers then.fibers (record (fiber_at l.fibers w) { standing = Ready (CallsAgain call) })
    only = stands_only held told l still.mid.sound w (Ready (CallsAgain call)) (l.ready ++ w ∷ []) lives refl may
        (distinct_back l.ready w still.mid.sound.distinct not_ready) rest (λ there. (CallsAgain call, refl))

    same_scopes : (h : ℕ) → scopes_of then h ≡ scopes_of l h
    same_scopes = of_only w l.fibers then.fibers _ only (λ h f. scopes f ≡ scopes_of l h)
        (ap (λ (s : Standing). scope_held s ++ scopes_in (fiber_at l.fibers w).work) (sym is)) (λ h other. refl)

    calls_again : MidStill g held told work then
    calls_again = record {
      mid = record {
        sound = stood_sound held told l still.mid.sound w (Ready (CallsAgain call)) (l.ready ++ w ∷ []) lives refl may
            (distinct_back l.ready w still.mid.sound.distinct not_ready) rest (λ there. (CallsAgain call, refl));
        moves = (still.mid.moves.0, ap (λ (f : Fiber). f.standing) (only.others g is_other) ∙ still.mid.moves.1);
        away = λ there. still.mid.away (rest g is_other there);
        others = λ h other. still.mid.others h other ∙ sym (same_scopes h);
      };
      told_by = still.told_by;
      same_work = ap (λ (f : Fiber). f.work) (only.others g is_other) ∙ still.same_work;
    }

  by_standing : (standing : Standing) → (fiber_at l.fibers w).standing ≡ standing → MidStill g held told work (woken_so standing w l)
  by_standing (Parked (ForOthers call)) is = calls_again call is
  by_standing standing is = still

  mid_woken : MidStill g held told work (woken w l)
  mid_woken = by_standing (fiber_at l.fibers w).standing refl

pub mid_woken_if : (found : Option ℕ) (g : ℕ) (held : ℕ → List Entered) (told : ℕ) (work : List Work) (l : DomainState) → MidStill g held told work l
    → MidStill g held told work (woken_if found l)
mid_woken_if None g held told work l still = still
mid_woken_if (Some w) g held told work l still = mid_woken g held told work l still w
