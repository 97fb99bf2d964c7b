-- Calls of `join`: the own branch ends, and then the fiber waits for the others or goes out of its group.
use Rattle.std.proofs.Common.{◌≡◌, inl, ℕ, ◌+◌, ◌<◌, ◌==◌, Bool, true, false, List, ◌∷◌, length, Option, Some, None, refl, ap, ◌∙◌, sym, subst, eqb-true, arith}
use Rattle.std.specs.Prelude.{slice_get}
use Rattle.eio_value.specs.declared.raised.Outcome.{Outcome}
use Rattle.eio_value.specs.declared.raised.Outcome.TheVariants as outcome
use Rattle.spec_parts.specs.Groups as groups
use Rattle.spec_parts.specs.Groups.{Group, Joined, JoinStep, group_at, with_group, never_gathered, branch_ends, result_of, join}
use Rattle.spec_fiber.specs.Asks as ask
use Rattle.spec_fiber.specs.Asks.{Ask}
use Rattle.spec_fiber.specs.Work.{Work}
use Rattle.spec_machine.specs.Domain.{GoesOn, ForOthers, OfGroup, Fiber, DomainState, fiber_at, to_head}
use Rattle.spec_machine.specs.ContextMoves.{leaves}
use Rattle.spec_machine.specs.GroupMoves.{branch_ended, cancels_if, joined_by, own_ended}
use Rattle.spec_machine.specs.Moves.{own_call}
use Rattle.law_domain.specs.Sound.Scopes.{Entered, InGroup, ScopeAt, scopes_in}
use Rattle.law_domain.specs.Sound.SoundStates.{branches_of}
use Rattle.law_domain.proofs.Sound.Branches.{nobody_branches}
use Rattle.law_domain.proofs.Sound.ByNumber as numbers
use Rattle.law_domain.proofs.Sound.Calling.{CallKept, IsSoundUnless, goes_on}
use Rattle.law_domain.proofs.Sound.Changes.{set_once}
use Rattle.law_domain.proofs.Sound.Counting.{lives_below}
use Rattle.law_domain.proofs.Sound.GroupMidst.{LessOne, MidStill, SameGroups, less_one, mid_own_ends, mid_regrouped, mid_woken_if, untouched_cancels_if}
use Rattle.law_domain.proofs.Sound.Leaving.{LeavesOne, mid_leaves}
use Rattle.law_domain.proofs.Sound.Midst.{IsMid, ends_waiting, mid_lives, mid_untouched, one_more_line}
use Rattle.law_domain.proofs.Sound.Scoping.{with_held, held_here, groups_below, switch_no_group, group_in}

-- ## Once the own branch has ended

module _ (g : ℕ) (held : ℕ → List Entered) (t : DomainState) (mid : IsMid g held t.lines t) (n : ℕ) (own : Option Outcome)
    (sees : held g ≡ InGroup n false ∷ scopes_in (fiber_at t.fibers g).work) (stamp : ℕ) where
  abbrev group : Group
  group = group_at t.groups n

  abbrev IsJoined : Joined → Type 0
  IsJoined j = IsSoundUnless (one_more_line (joined_by (ask.Join n own) j.group.context j.step g (record t { groups = with_group n j.group t.groups })).state stamp)

  -- it waits
  same_groups : (changed : Group) → changed.context ≡ group.context → changed.left ≡ group.left → SameGroups t.groups (with_group n changed t.groups)
  same_groups changed context left = record {
    made = numbers.set_keeps_length never_gathered t.groups n changed;
    contexts = numbers.set_same never_gathered (λ (x : Group). x.context) t.groups n changed context;
    lefts = numbers.set_same never_gathered (λ (x : Group). x.left) t.groups n changed left;
  }

  waits_there : (changed : Group) → changed.context ≡ group.context → changed.left ≡ group.left → IsJoined (record { step = groups.Wait; group = changed })
  waits_there changed context left runs =
      ends_waiting g held t.lines (record t { groups = with_group n changed t.groups }) (mid_regrouped g held t.lines t (with_group n changed t.groups) mid (same_groups changed context left))
      stamp (omega arith) (ForOthers (ask.Join n None)) tt sees

  -- it goes out, where no branch is left
  module _ (none : group.left ≡ 0) where
    abbrev gone : DomainState
    gone = leaves group.context g (record t { groups = with_group n group t.groups })

    here : ScopeAt held t (InGroup n false) g 0
    here = record { lives = mid_lives g held t.lines t mid; there = ap (λ xs. slice_get xs 0) sees }

    no_branches_left : branches_of n t.fibers ≡ 0
    no_branches_left = (let left = mid.sound.scoped.left n false g 0 here in omega (arith, left, none))

    goes_out_of : LeavesOne g (InGroup n false) t gone
    goes_out_of = record {
      fibers = set_once g t.fibers _ (lives_below t.fibers g (mid_lives g held t.lines t mid));
      contexts = refl;
      switches = inl (refl, λ m e. switch_no_group m n false (sym e));
      nobody = λ m own h e role lives. nobody_branches n t.fibers no_branches_left h lives (role ∙ ap (λ (x : ℕ). OfGroup x) (sym (ap group_in e)));
      groups = numbers.set_itself never_gathered t.groups n;
      ready = refl;
      duties = refl;
      timers = refl;
    }

    abbrev outside : List Entered
    outside = scopes_in (fiber_at t.fibers g).work

    comes_to : (result : Outcome) → IsSoundUnless (one_more_line (to_head (GoesOn result) g gone) stamp)
    comes_to result =
        goes_on g (with_held g outside held) gone (mid_leaves g held t.lines t gone (InGroup n false) outside mid sees goes_out_of)
        (held_here g outside held ∙ ap (λ (f : Fiber). scopes_in f.work) (sym goes_out_of.fibers.there)) stamp result

    by_step : (step : JoinStep) → IsJoined (record { step = step; group = group })
    by_step groups.Wait = waits_there group refl refl
    by_step (groups.Give it) = comes_to (outcome.Ok it)
    by_step (groups.Raise raised) = comes_to (outcome.Err raised)

  by_left : (over : Bool) → (group.left == 0) ≡ over → IsJoined (elim over as (λ _. Joined) [
    | false ↦ record { step = groups.Wait; group = record group { joiner = Some g } }
    | true ↦ record { step = result_of group; group = group }
  ])
  by_left false is = waits_there (record group { joiner = Some g }) refl refl
  by_left true is = by_step (eqb-true group.left 0 is) (result_of group)

  pub join_sound : IsJoined (join g group)
  join_sound = by_left (group.left == 0) refl

-- ## The own branch ends

module _ (g : ℕ) (held : ℕ → List Entered) (l : DomainState) (mid : IsMid g held l.lines l) (n : ℕ) (result : Outcome)
    (sees : held g ≡ InGroup n true ∷ scopes_in (fiber_at l.fibers g).work) where
  abbrev behind : List Entered
  behind = scopes_in (fiber_at l.fibers g).work

  abbrev new : ℕ → List Entered
  new = with_held g (InGroup n false ∷ behind) held

  abbrev old_group : Group
  old_group = group_at l.groups n

  abbrev changed : Group
  changed = (branch_ends result old_group).group

  here_still : ScopeAt held l (InGroup n true) g 0
  here_still = record { lives = mid_lives g held l.lines l mid; there = ap (λ xs. slice_get xs 0) sees }

  -- the group was made, since its context isn't that of none
  group_below : n < length l.groups
  group_below = groups_below l.groups n (mid.sound.scoped.entered (InGroup n true) g 0 here_still).low

  one_less : LessOne old_group changed
  one_less = less_one result old_group

  left_there : (group_at (with_group n changed l.groups) n).left + 1 ≡ old_group.left
  left_there = (
      let same : (group_at (with_group n changed l.groups) n).left ≡ changed.left = ap (λ (x : Group). x.left) (numbers.changed_itself never_gathered l.groups n changed group_below) in
      let less = one_less.left in
      let was = mid.sound.scoped.left n true g 0 here_still in
      let some : old_group.left ≡ branches_of n l.fibers + 1 = was in
      omega (arith, same, less, some))

  abbrev regrouped : DomainState
  regrouped = record l { groups = with_group n changed l.groups }

  mid_regrouped_there : IsMid g new l.lines regrouped
  mid_regrouped_there = mid_own_ends g held l.lines l (with_group n changed l.groups) n behind mid sees (numbers.set_keeps_length never_gathered l.groups n changed)
      (numbers.set_same never_gathered (λ (x : Group). x.context) l.groups n changed one_less.context) left_there
      (λ m other. ap (λ (x : Group). x.left) (numbers.others_unchanged never_gathered l.groups n m changed other))

  own_ended_still : MidStill g new l.lines (fiber_at l.fibers g).work (branch_ended n result g l)
  own_ended_still = (
      let cancelled : DomainState = cancels_if g changed.context (branch_ends result old_group).cancels regrouped in
      let same = untouched_cancels_if g changed.context (branch_ends result old_group).cancels regrouped in
      mid_woken_if (branch_ends result old_group).woken g new l.lines (fiber_at l.fibers g).work cancelled (record {
        mid = mid_untouched g new l.lines regrouped cancelled mid_regrouped_there same;
        told_by = same.lines;
        same_work = ap (λ fs. (fiber_at fs g).work) same.fibers;
      }))

-- ## The call

pub join_kept : (n : ℕ) (own : Option Outcome) → CallKept (ask.Join n own)
unfolding own_call
join_kept n None script forms g held l mid sees built stamp = join_sound g held l mid n None sees stamp
join_kept n (Some result) script forms g held l mid sees built stamp = (
    let still = own_ended_still g held l mid n result sees in
    let t : DomainState = own_ended n (Some result) g l in
    let behind : List Entered = scopes_in (fiber_at l.fibers g).work in
    let new : ℕ → List Entered = with_held g (InGroup n false ∷ behind) held in
    join_sound g new t (subst (λ (told : ℕ). IsMid g new told t) (sym still.told_by) still.mid) n (Some result)
    (held_here g (InGroup n false ∷ behind) held ∙ ap (λ (items : List Work). InGroup n false ∷ scopes_in items) (sym still.same_work)) stamp)
