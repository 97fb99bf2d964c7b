-- The end of a fiber in its switch or its group, and what it leaves.
use Rattle.std.proofs.Common.{◌≡◌, ◌⊎◌, inl, inr, ℕ, ◌+◌, ◌-◌, ◌<◌, Bool, true, false, ◌==◌, List, length, Option, Some, None, refl, ap, ◌∙◌, sym, subst}
use Rattle.eio_value.specs.declared.plain.Member.{Member}
use Rattle.eio_value.specs.declared.plain.Plain.{Plain}
use Rattle.eio_value.specs.declared.plain.Plain.TheVariants.{NotFirst}
use Rattle.eio_value.specs.declared.raised.Outcome.{Outcome}
use Rattle.eio_value.specs.declared.raised.Outcome.TheVariants as outcome
use Rattle.eio_value.specs.declared.raised.Raised.{Raised}
use Rattle.eio_value.specs.declared.raised.Raised.TheVariants as raised
use Rattle.eio_value.specs.declared.value.Value.{Value}
use Rattle.script_forms.specs.declared.node.Node.{Node}
use Rattle.spec_parts.specs.Groups.{Group, BranchEnded, branch_ends, group_at, never_gathered, keeps_a_value, kept_value, outcome_in, wake_joiner, with_group}
use Rattle.spec_parts.specs.Contexts.{is_live}
use Rattle.spec_parts.specs.ContextCalls.{Contexts}
use Rattle.spec_parts.specs.Switches.{Switch, detach, switch_at, with_switch}
use Rattle.switch_core.specs.Attaching.{IsAttached}
use Rattle.cancel_tree.specs.Endings.{HasNoLiveChild}
use Rattle.cancel_tree.specs.Waits.{waits_in}
use Rattle.spec_machine.specs.Domain.{DomainState}
use Rattle.spec_machine.specs.GroupMoves.{branch_ended, cancels_if}
use Rattle.spec_machine.specs.SwitchMoves.{detached, fails, given_up, with_switch_at, woken_if}
use Rattle.domain_core.specs.Answering.{BecomesUnder, SameFibers}
use Rattle.domain_core.specs.Conditions.{IsAwake, IsParked, LeavesGroups, LeavesScopes, MayEndContext}
use Rattle.domain_core.specs.Keeping.{KeptFiber, KeptDomain, kept_at}
use Rattle.domain_core.specs.Mirrors.{Mirrors}
use Rattle.domain_core.proofs.ByNumber as numbers
use Rattle.domain_core.proofs.ByNumber.{same_or_other}
use Rattle.domain_core.proofs.Awake.{awake_by}
use Rattle.domain_core.proofs.Mirroring.{groups_mirrors}
use Rattle.domain_core.proofs.Scoping.{switched_mirrors}

-- what is given up: all but the cancellation of a daemon
abbrev pub is_cancelled : Raised → Bool
is_cancelled (raised.One member) = false
is_cancelled (raised.Cancelled member) = true
is_cancelled (raised.Many several) = false

pub gives_up : (maker n : ℕ) (daemon : Bool) (what : Raised) (l : DomainState) → (daemon ≡ false) ⊎ (is_cancelled what ≡ false) → given_up maker n daemon (outcome.Err what) l ≡ fails maker n what l
gives_up maker n false (raised.One member) l by = refl
gives_up maker n false (raised.Cancelled member) l by = refl
gives_up maker n false (raised.Many several) l by = refl
gives_up maker n true (raised.One member) l by = refl
gives_up maker n true (raised.Many several) l by = refl
gives_up maker n true (raised.Cancelled member) l (inl is) = cc
gives_up maker n true (raised.Cancelled member) l (inr is) = cc

-- other switches on both sides, or other groups
module _ (nodes : List Node) (texts : List (List ℕ)) (kept : KeptDomain) (l : DomainState) (mirrors : Mirrors nodes texts kept l) (n : ℕ) where
  pub switch_mirrors : (change : Switch → Switch) (switches : List Switch) → switches ≡ with_switch n (change (switch_at kept.switches n)) kept.switches
      → Mirrors nodes texts (record kept { switches = switches }) (with_switch_at n (change (switch_at l.switches n)) l)
  switch_mirrors change switches are =
      switched_mirrors nodes texts kept l mirrors n (change (switch_at l.switches n)) switches (are ∙ ap (λ (xs : List Switch). with_switch n (change (switch_at xs n)) kept.switches) (sym mirrors.switches))

  pub group_mirrors : (change : Group → Group) (gathered : List Group) → gathered ≡ with_group n (change (group_at kept.groups n)) kept.groups
      → Mirrors nodes texts (record kept { groups = gathered }) (record l { groups = with_group n (change (group_at l.groups n)) l.groups })
  group_mirrors change gathered are =
      subst (λ (xs : List Group). Mirrors nodes texts (record kept { groups = xs }) (record l { groups = with_group n (change (group_at l.groups n)) l.groups }))
      (ap (λ (xs : List Group). with_group n (change (group_at xs n)) xs) mirrors.groups ∙ sym are)
      (groups_mirrors nodes texts kept l mirrors (with_group n (change (group_at l.groups n)) l.groups))

-- ## The end of a branch

-- it leaves the group its context, and one branch fewer
abbrev IsOf : Group → Group → Type 0
IsOf old new = (new.left ≡ old.left) × (new.context ≡ old.context)

abbrev value_by : Value → Group → Option Value → BranchEnded
value_by value g kept = elim kept [ None ↦ record { group = record g { kept = Some value }; cancels = Some NotFirst; woken = None } | Some first ↦ record { group = g; cancels = None; woken = None } ]

abbrev kept_by : Value → Group → Bool → BranchEnded
kept_by value g keeps = elim keeps [ true ↦ kept_value value g | false ↦ record { group = g; cancels = None; woken = None } ]

abbrev joiner_by : BranchEnded → Bool → BranchEnded
joiner_by it none = elim none [ true ↦ record { group = record (it.group) { joiner = None }; cancels = it.cancels; woken = it.group.joiner } | false ↦ it ]

with_value : (value : Value) (g : Group) (kept : Option Value) → kept ≡ g.kept → IsOf g (kept_value value g).group
with_value value g None is = subst (λ (it : BranchEnded). IsOf g it.group) (ap (value_by value g) is) (refl, refl)
with_value value g (Some first) is = subst (λ (it : BranchEnded). IsOf g it.group) (ap (value_by value g) is) (refl, refl)

by_outcome : (result : Outcome) (g : Group) (keeps : Bool) → keeps ≡ keeps_a_value g.kind → IsOf g (outcome_in result g).group
by_outcome (outcome.Err what) g keeps is = (refl, refl)
by_outcome (outcome.Ok value) g true is = subst (λ (it : BranchEnded). IsOf g it.group) (ap (kept_by value g) is) (with_value value g g.kept refl)
by_outcome (outcome.Ok value) g false is = subst (λ (it : BranchEnded). IsOf g it.group) (ap (kept_by value g) is) (refl, refl)

by_joiner : (it : BranchEnded) (none : Bool) → none ≡ (it.group.left == 0) → IsOf it.group (wake_joiner it).group
by_joiner it true is = subst (λ (e : BranchEnded). IsOf it.group e.group) (ap (joiner_by it) is) (refl, refl)
by_joiner it false is = subst (λ (e : BranchEnded). IsOf it.group e.group) (ap (joiner_by it) is) (refl, refl)

pub ended_left : (result : Outcome) (g : Group) → (branch_ends result g).group.left ≡ g.left - 1
ended_left result g = (
    let fewer : Group = record g { left = g.left - 1 } in
    (by_joiner (outcome_in result fewer) _ refl).0 ∙ (by_outcome result fewer _ refl).0)

pub ended_context : (result : Outcome) (g : Group) → (branch_ends result g).group.context ≡ g.context
ended_context result g = (
    let fewer : Group = record g { left = g.left - 1 } in
    (by_joiner (outcome_in result fewer) _ refl).1 ∙ (by_outcome result fewer _ refl).1)

pub none_cancelled : (what : Raised) → ((member : Member) → what ≡ raised.Cancelled member → ⊥) → is_cancelled what ≡ false
none_cancelled (raised.One member) none = refl
none_cancelled (raised.Cancelled member) none = absurd (none member refl)
none_cancelled (raised.Many several) none = refl

-- ## What is seen of what is kept

pub may_end_as : (kept other : KeptDomain) (c : ℕ) → other.contexts ≡ kept.contexts → MayEndContext kept c → MayEndContext other c
may_end_as kept other c same may = record {
  live = subst (λ (xs : Contexts). is_live xs.made c ≡ true) (sym same) may.live;
  childless = subst (λ (xs : Contexts). HasNoLiveChild xs.made c) (sym same) may.childless;
  idle = subst (λ (xs : Contexts). waits_in c xs.waiting ≡ false) (sym same) may.idle;
}

pub parked_as : (kept other : KeptDomain) (g : ℕ) → kept.fibers ≡ other.fibers → IsParked kept g → IsParked other g
parked_as kept other g same parked = (parked.0, parked.1, ap (λ (xs : List (Option KeptFiber)). kept_at xs g) (sym same) ∙ parked.2, parked.3)

-- ## A fiber leaves its switch

pub attached_still : (g n : ℕ) (old new : KeptDomain) → LeavesScopes old new → IsAttached g (switch_at old.switches n) → IsAttached g (switch_at new.switches n)
attached_still g n old new leaves attached = (
    let it = leaves.switches n in
    subst (λ (s : Switch). IsAttached g s) (sym it.1) attached)

pub detached_becomes : (nodes : List Node) (n g : ℕ) (daemon : Bool) (result : Outcome) (old given : KeptDomain) (switches : List Switch) (woken : Option ℕ) (new : KeptDomain)
    → BecomesUnder nodes (given_up g n daemon result) old given
    → woken ≡ (detach g (switch_at given.switches n)).woken → switches ≡ with_switch n (detach g (switch_at given.switches n)).switch given.switches
    → BecomesUnder nodes (woken_if woken) (record given { switches = switches }) new
    → BecomesUnder nodes (detached n daemon result g) old new
detached_becomes nodes n g daemon result old given switches woken new first is are second = λ texts l mirrors. (
    let t : DomainState = given_up g n daemon result l in
    let m : Mirrors nodes texts given t = first texts l mirrors in
    let left : Mirrors nodes texts (record given { switches = switches }) (with_switch_at n (detach g (switch_at t.switches n)).switch t)
    = switch_mirrors nodes texts given t m n (λ (s : Switch). (detach g s).switch) switches are in
    subst (λ (w : Option ℕ). Mirrors nodes texts new (woken_if w (with_switch_at n (detach g (switch_at t.switches n)).switch t)))
    (is ∙ ap (λ (xs : List Switch). (detach g (switch_at xs n)).woken) (sym m.switches))
    (second texts (with_switch_at n (detach g (switch_at t.switches n)).switch t) left))

-- ## A branch leaves its group

module _ (n g : ℕ) (result : Outcome) (old : KeptDomain) (gathered : List Group) (made : n < length old.groups)
    (are : gathered ≡ with_group n (branch_ends result (group_at old.groups n)).group old.groups) where
  abbrev ended_then : Group
  ended_then = (branch_ends result (group_at old.groups n)).group

  pub group_then : group_at gathered n ≡ (branch_ends result (group_at old.groups n)).group
  group_then = ap (λ (xs : List Group). group_at xs n) are ∙ numbers.changed_itself never_gathered old.groups n ended_then made

  pub same_made : length gathered ≡ length old.groups
  same_made = ap length are ∙ numbers.set_keeps_length never_gathered old.groups n ended_then

  same_context : (m : ℕ) → (group_at gathered m).context ≡ (group_at old.groups m).context
  same_context m = elim (same_or_other m n) as (λ _. (group_at gathered m).context ≡ (group_at old.groups m).context) [
    | inl e ↦ ap (λ (i : ℕ). (group_at gathered i).context) e ∙ (ap (λ (x : Group). x.context) group_then ∙ (ended_context result (group_at old.groups n) ∙ ap (λ (i : ℕ). (group_at old.groups i).context) (sym e)))
    | inr other ↦ ap (λ (xs : List Group). (group_at xs m).context) are ∙ ap (λ (x : Group). x.context) (numbers.others_unchanged never_gathered old.groups n m ended_then other)
  ]

  pub branch_becomes : (nodes : List Node) (context : ℕ) (cancels : Option Plain) (woken : Option ℕ) (between new : KeptDomain)
      → context ≡ (group_at gathered n).context → cancels ≡ (branch_ends result (group_at old.groups n)).cancels → woken ≡ (branch_ends result (group_at old.groups n)).woken
      → BecomesUnder nodes (cancels_if g context cancels) (record old { groups = gathered }) between → BecomesUnder nodes (woken_if woken) between new
      → BecomesUnder nodes (branch_ended n result g) old new
  branch_becomes nodes context cancels woken between new context_is cancels_is woken_is first second = λ texts l mirrors. (
      let it : BranchEnded = branch_ends result (group_at l.groups n) in
      let same : it ≡ branch_ends result (group_at old.groups n) = ap (λ (xs : List Group). branch_ends result (group_at xs n)) mirrors.groups in
      let t : DomainState = record l { groups = with_group n it.group l.groups } in
      let m : Mirrors nodes texts (record old { groups = gathered }) t = group_mirrors nodes texts old l mirrors n (λ (x : Group). (branch_ends result x).group) gathered are in
      let w : woken ≡ it.woken = woken_is ∙ ap (λ (x : BranchEnded). x.woken) (sym same) in
      let c : context ≡ it.group.context = context_is ∙ (ap (λ (x : Group). x.context) group_then ∙ ap (λ (x : BranchEnded). x.group.context) (sym same)) in
      let k : cancels ≡ it.cancels = cancels_is ∙ ap (λ (x : BranchEnded). x.cancels) (sym same) in
      subst (λ (who : Option ℕ). Mirrors nodes texts new (woken_if who (cancels_if g it.group.context it.cancels t))) w
      (subst (λ (d : ℕ). Mirrors nodes texts new (woken_if woken (cancels_if g d it.cancels t))) c
      (subst (λ (why : Option Plain). Mirrors nodes texts new (woken_if woken (cancels_if g context why t))) k
      (second texts (cancels_if g context cancels t) (first texts t m)))))

  pub branch_leaves : (between new : KeptDomain) → SameFibers (record old { groups = gathered }) between → between.groups ≡ gathered
      → ((c : ℕ) → MayEndContext (record old { groups = gathered }) c → MayEndContext between c)
      → ((h : ℕ) → IsAwake between h → IsAwake new h)
      → (new.ready ≡ between.ready) ⊎ ((h : ℕ) × IsParked between h × (length new.ready ≡ length between.ready + 1))
      → new.contexts ≡ between.contexts → new.groups ≡ between.groups
      → LeavesGroups old new
  branch_leaves between new fibers groups_are ends awake ready contexts groups_still = record {
    awake = λ h is. awake h (awake_by old between fibers.fibers h is);
    ready = elim ready as (λ _. (new.ready ≡ old.ready) ⊎ ((h : ℕ) × IsParked old h × (length new.ready ≡ length old.ready + 1))) [
      | inl same ↦ inl (same ∙ fibers.ready)
      | inr woken ↦ inr (woken.0, parked_as between old woken.0 fibers.fibers woken.1, woken.2 ∙ ap (λ (xs : List ℕ). length xs + 1) fibers.ready)
    ];
    ends = λ c may. may_end_as between new c contexts (ends c (may_end_as old (record old { groups = gathered }) c refl may));
    made = ap length (groups_still ∙ groups_are) ∙ same_made;
    contexts = λ m. ap (λ (xs : List Group). (group_at xs m).context) (groups_still ∙ groups_are) ∙ same_context m;
  }
