-- `join`: what it finds, and what has to be so where the group's context ends.
use Rattle.std.proofs.Common.{◌≡◌, inl, inr, ℕ, ◌-◌, ◌<◌, ◌≤◌, ◌==◌, Bool, true, false, List, length, Option, Some, refl, ap, ◌∙◌, sym, subst, arith}
use Rattle.std.specs.Prelude.{is_some}
use Rattle.std.proofs.lemmas.Bool.{eqb-true}
use Rattle.eio_value.specs.declared.raised.Outcome.{Outcome}
use Rattle.script_forms.specs.Flat.{nodes_of}
use Rattle.spec_script.specs.Scripts.{Script}
use Rattle.spec_fiber.specs.Asks as ask
use Rattle.spec_parts.specs.Groups.{Group, JoinStep, Joined, Wait, group_at, join, result_of, with_group}
use Rattle.law_domain.specs.Sound.SoundStates.{own_branches}
use Rattle.spec_machine.specs.Domain.{DomainState}
use Rattle.spec_machine.specs.GroupMoves.{joined_by, own_ended}
use Rattle.spec_machine.specs.Moves.{own_call}
use Rattle.domain_core.specs.declared.told.Told.{Told}
use Rattle.domain_core.specs.Answering.{BecomesUnder, MakesUnder}
use Rattle.domain_core.specs.Conditions.{HasRoomForParked, LeavesGroups, MayEndContext, KeptMayJoin}
use Rattle.domain_core.specs.Keeping.{KeptDomain}
use Rattle.domain_core.specs.Mirrors.{Mirrors}
use Rattle.domain_core.proofs.Composing.{makes_as, makes_after}
use Rattle.domain_core.proofs.Ends.{group_mirrors, may_end_as}

-- ## What it finds

abbrev joined : ℕ → Group → Bool → Joined
joined g x none = elim none [
  | false ↦ record { step = Wait; group = record x { joiner = Some g } }
  | true ↦ record { step = result_of x; group = x }
]

context_by : (g : ℕ) (x : Group) (none : Bool) → (joined g x none).group.context ≡ x.context
context_by g x true = refl
context_by g x false = refl

-- the group keeps its context
pub same_context : (g : ℕ) (x : Group) → (join g x).group.context ≡ x.context
same_context g x = context_by g x (x.left == 0)

left_by : (g : ℕ) (x : Group) (step : JoinStep) → (step ≡ Wait → ⊥) → (none : Bool) → step ≡ (joined g x none).step → none ≡ true
left_by g x step goes true is = refl
left_by g x step goes false is = absurd (goes is)

-- where it doesn't wait, no branch is left
pub none_waits : (g : ℕ) (x : Group) (step : JoinStep) → (step ≡ Wait → ⊥) → step ≡ (join g x).step → x.left ≡ 0
none_waits g x step goes is = eqb-true x.left 0 (left_by g x step goes (x.left == 0) is)

-- ## Behind the end of the caller's own branch

module _ (old given : KeptDomain) (leaves : LeavesGroups old given) where
  pub room_still : HasRoomForParked old → length old.ready < 1024 → length given.ready < 1024
  room_still parked room = elim leaves.ready as (λ _. length given.ready < 1024) [
    | inl same ↦ subst (λ (xs : List ℕ). length xs < 1024) (sym same) room
    | inr woken ↦ subst (λ (m : ℕ). m < 1024) (sym woken.2) (parked woken.0 woken.1)
  ]

  pub may_leave : (n : ℕ) (own : Option Outcome) (g : ℕ) (step : JoinStep) (context : ℕ) (gathered : List Group) → KeptMayJoin old n own
      → (group_at given.groups n).left ≡ (group_at old.groups n).left - own_branches (is_some own)
      → (step ≡ Wait → ⊥) → step ≡ (join g (group_at given.groups n)).step → context ≡ (group_at given.groups n).context
      → MayEndContext (record given { groups = gathered }) context
  may_leave n own g step context gathered may left goes is context_is = (
      let none : (group_at given.groups n).left ≡ 0 = none_waits g (group_at given.groups n) step goes is in
      let all : (group_at old.groups n).left ≡ own_branches (is_some own) = same_left (group_at old.groups n).left (own_branches (is_some own)) (sym left ∙ none) may.some_left in
      may_end_as given (record given { groups = gathered }) context refl
      (subst (λ (c : ℕ). MayEndContext given c) (sym (context_is ∙ leaves.contexts n)) (leaves.ends (group_at old.groups n).context (may.ends all))))
    where
      same_left : (m k : ℕ) → m - k ≡ 0 → k ≤ m → m ≡ k
      same_left m k none some = omega (arith, none, some)

-- ## What comes of it

pub joins_by : (script : Script) (n : ℕ) (own : Option Outcome) (g : ℕ) (step : JoinStep) (context : ℕ) (gathered : List Group) (old given : KeptDomain) (it : Told) (new : KeptDomain)
    → BecomesUnder (nodes_of script) (own_ended n own g) old given
    → step ≡ (join g (group_at given.groups n)).step → gathered ≡ with_group n (join g (group_at given.groups n)).group given.groups
    → context ≡ (group_at given.groups n).context
    → MakesUnder (nodes_of script) (joined_by (ask.Join n own) context step g) (record given { groups = gathered }) it new
    → MakesUnder (nodes_of script) (own_call script (ask.Join n own) g) old it new
unfolding own_call
joins_by script n own g step context gathered old given it new first is are context_is makes =
    makes_as (nodes_of script) (own_call script (ask.Join n own) g)
    (λ l. (let t : DomainState = own_ended n own g l in joined_by (ask.Join n own) context step g (record t { groups = with_group n (join g (group_at t.groups n)).group t.groups }))) old it new
    (λ texts l mirrors. (
    let t : DomainState = own_ended n own g l in
    let m : Mirrors (nodes_of script) texts given t = first texts l mirrors in
    let then : DomainState = record t { groups = with_group n (join g (group_at t.groups n)).group t.groups } in
    let same : (join g (group_at t.groups n)).step ≡ step = ap (λ (xs : List Group). (join g (group_at xs n)).step) m.groups ∙ sym is in
    let there : (join g (group_at t.groups n)).group.context ≡ context = same_context g (group_at t.groups n) ∙ (ap (λ (xs : List Group). (group_at xs n).context) m.groups ∙ sym context_is) in
    ap (λ (c : ℕ). joined_by (ask.Join n own) c (join g (group_at t.groups n)).step g then) there
    ∙ ap (λ (s : JoinStep). joined_by (ask.Join n own) context s g then) same))
    (makes_after (nodes_of script) (λ l. (let t : DomainState = own_ended n own g l in record t { groups = with_group n (join g (group_at t.groups n)).group t.groups }))
    (joined_by (ask.Join n own) context step g) old (record given { groups = gathered }) it new
    (λ texts l mirrors. group_mirrors (nodes_of script) texts given (own_ended n own g l) (first texts l mirrors) n (λ (x : Group). (join g x).group) gathered are) makes)
