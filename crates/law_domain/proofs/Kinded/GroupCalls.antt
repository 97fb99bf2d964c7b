-- Calls on groups after which all variables hold what they are to hold.
use Rattle.std.proofs.Common.{ℕ, ◌-◌, ◌<◌, Bool, true, false, List, [], ◌∷◌, ◌++◌, length, Option, Some, None, append-nil, append_assoc, sym, subst, arith}
use Rattle.std.specs.Prelude.{All}
use Rattle.eio_value.specs.declared.plain.Plain.{Plain}
use Rattle.eio_value.specs.declared.raised.Outcome.{Outcome}
use Rattle.eio_value.specs.declared.raised.Outcome.TheVariants as outcome
use Rattle.eio_value.specs.declared.value.Value.{Value}
use Rattle.eio_value.specs.declared.value.Value.TheVariants as value
use Rattle.spec_parts.specs.Contexts.{is_full}
use Rattle.spec_parts.specs.Groups as groups
use Rattle.spec_parts.specs.Groups.{Group, JoinStep, Joined, group_at, gathered, with_group, join}
use Rattle.spec_parts.specs.Switches.{Switch}
use Rattle.spec_script.specs.Scripts.{Script}
use Rattle.spec_script.specs.Syntax as syntax
use Rattle.spec_script.specs.Syntax.{Block}
use Rattle.spec_fiber.specs.Asks as ask
use Rattle.spec_fiber.specs.Asks.{Ask}
use Rattle.spec_fiber.specs.Replies.{begun, entered, other_branches}
use Rattle.spec_machine.specs.Domain.{Cells, GoesOn, Ready, Fiber, DomainState, fiber_at, behind_next_cell, is_full_by, moved_to, off_for, placed, to_head}
use Rattle.spec_machine.specs.ContextMoves.{before_block, context_of, leaves}
use Rattle.spec_machine.specs.GroupMoves.{branches_in, did_branch, kind_of, joined_by, makes, numbers_from, own_ended}
use Rattle.spec_machine.specs.Moves.{own_call}
use Rattle.spec_machine.specs.Steps.{Step, halts, in_new, raises_cancelled}
use Rattle.law_fiber.specs.Kinded.Kinds.{HasKindsAt}
use Rattle.law_fiber.proofs.Kinded.Between.{kinds_stay_between}
use Rattle.law_domain.proofs.Sound.GroupCalls.{at_append, branch, branched_is, cells_after, new_branches}
use Rattle.law_domain.proofs.Sound.Lists.{all_rest}
use Rattle.law_domain.specs.Kinded.KindedStates.{AreKinded, CallsWithKinds, IsKinded, made_facts, names_made, position_of}
use Rattle.law_domain.proofs.Kinded.Calls.{CallKinded, by_room, calls_in_context, context_kinded, leaves_kinded, made_by, still, with_context}
use Rattle.law_domain.proofs.Kinded.Changing.{kinded_placed, kinded_pushed}
use Rattle.law_domain.proofs.Kinded.SwitchCalls.{branch_ended_kinded}

-- ## Branches

module _ (script : Script) (switches : List Switch) (contexts c n : ℕ) (variables : List Value) where
  abbrev Begins : Block → Type 0
  Begins block = HasKindsAt (made_facts script (length switches) contexts) (begun block variables)

  all_pushed : (blocks : List Block) (cells : Cells) (fibers : List Fiber) → AreKinded script fibers switches contexts → All Begins blocks
      → AreKinded script (fibers ++ new_branches c n variables blocks cells) switches contexts
  all_pushed [] cells fibers kinded all = subst (λ fs. AreKinded script fs switches contexts) (sym (append-nil fibers)) kinded
  all_pushed (block ∷ blocks) cells fibers kinded all =
      subst (λ fs. AreKinded script fs switches contexts) (append_assoc fibers (branch c n variables block cells ∷ []) (new_branches c n variables blocks (behind_next_cell cells)))
      (all_pushed blocks (behind_next_cell cells) (fibers ++ branch c n variables block cells ∷ [])
      (kinded_pushed script fibers switches contexts kinded (branch c n variables block cells) (all 0 block (omega arith))) (all_rest Begins block blocks all))

module _ (script : Script) (g : ℕ) (l : DomainState) (kinded : IsKinded script l) (kind : syntax.Group) (blocks : List Block) (below : g < length l.fibers)
    (calls : CallsWithKinds (made_facts script (length l.switches) (length l.contexts)) (ask.Branches kind blocks) (position_of (fiber_at l.fibers g))) where
  abbrev in_context : DomainState
  in_context = with_context script g l kinded false

  abbrev base : DomainState
  base = record in_context { groups = l.groups ++ gathered (kind_of kind) (length l.contexts) (length blocks) ∷ [] }

  abbrev variables : List Value
  variables = (fiber_at l.fibers g).variables

  abbrev news : List Fiber
  news = new_branches (length l.contexts) (length l.groups) variables (other_branches blocks) l.cells

  abbrev all_made : DomainState
  all_made = record base { fibers = l.fibers ++ news; cells = cells_after (other_branches blocks) l.cells }

  has : CallsWithKinds (made_facts script (length l.switches) (length in_context.contexts)) (ask.Branches kind blocks) (position_of (fiber_at l.fibers g))
  has = calls_in_context script g l kinded false (ask.Branches kind blocks) (position_of (fiber_at l.fibers g)) calls

  made_kinded : AreKinded script (l.fibers ++ news) l.switches (length in_context.contexts)
  made_kinded = all_pushed script l.switches (length in_context.contexts) (length l.contexts) (length l.groups) variables (other_branches blocks) l.cells l.fibers
      (context_kinded script g l kinded false)
      (kinds_stay_between.branches script (names_made (length l.switches) (length in_context.contexts)) has.slots kind blocks variables has.names has.variables)

  before_it : HasKindsAt (made_facts script (length l.switches) (length in_context.contexts)) (before_block (ask.Branches kind blocks) (length l.groups) g all_made)
  before_it = subst (λ (f : Fiber). HasKindsAt (made_facts script (length l.switches) (length in_context.contexts)) (entered (ask.Branches kind blocks) (length l.groups) f.work f.variables))
      (sym (at_append l.fibers news g below))
      (kinds_stay_between.enters script (names_made (length l.switches) (length in_context.contexts)) has.slots (ask.Branches kind blocks) (length l.groups)
      (fiber_at l.fibers g).work (fiber_at l.fibers g).variables has.names tt has.variables has.work)

  -- what comes of it, by the domain in which all branches were made
  abbrev comes_of : DomainState → DomainState
  comes_of t = (
      let k : DomainState = to_head (GoesOn (outcome.Ok value.Unit)) g (placed (before_block (ask.Branches kind blocks) (length l.groups) g t) g (moved_to (length l.contexts) g t)) in
      record k { ready = numbers_from (length l.fibers) (length (other_branches blocks)) ++ k.ready })

  all_kinded : IsKinded script (comes_of all_made)
  all_kinded = kinded_placed script (l.fibers ++ news) l.switches (length in_context.contexts) made_kinded g (length l.contexts)
      (before_block (ask.Branches kind blocks) (length l.groups) g all_made) (Ready (GoesOn (outcome.Ok value.Unit))) before_it

  in_kinded : IsKinded script (branches_in (ask.Branches kind blocks) kind blocks (length l.contexts) g in_context).state
  in_kinded = subst (λ t. IsKinded script (comes_of t)) (sym (branched_is (length l.contexts) (length l.groups) variables (other_branches blocks) base)) all_kinded

  by_full : (full : Bool) → IsKinded script (elim full as (λ _. Step) [
    | true ↦ halts g l
    | false ↦ in_new (made_by script g l kinded false (is_full l.contexts)) g l (λ c m. branches_in (ask.Branches kind blocks) kind blocks c g m)
  ]).state
  by_full true = kinded
  by_full false = by_room script g l kinded false (λ c m. branches_in (ask.Branches kind blocks) kind blocks c g m) in_kinded (is_full l.contexts)

  by_off : (why : Option Plain) → IsKinded script (elim why as (λ _. Step) [
    | Some reason ↦ raises_cancelled (did_branch kind (context_of l g)) reason g l
    | None ↦ makes (ask.Branches kind blocks) kind blocks g l
  ]).state
  by_off (Some reason) = still script l kinded g _
  by_off None = by_full (is_full_by (length blocks - 1) l.fibers)

pub branches_kinded : (kind : syntax.Group) (blocks : List Block) (script : Script) (g : ℕ) (l : DomainState) → IsKinded script l → g < length l.fibers
    → CallsWithKinds (made_facts script (length l.switches) (length l.contexts)) (ask.Branches kind blocks) (position_of (fiber_at l.fibers g))
    → IsKinded script (own_call script (ask.Branches kind blocks) g l).state
unfolding own_call
branches_kinded kind blocks script g l kinded below calls = by_off script g l kinded kind blocks below calls (off_for l g)

-- ## Joining

own_ended_kinded : (script : Script) (l : DomainState) → IsKinded script l → (n : ℕ) (own : Option Outcome) (g : ℕ) → IsKinded script (own_ended n own g l)
own_ended_kinded script l kinded n None g = kinded
own_ended_kinded script l kinded n (Some result) g = branch_ended_kinded script l kinded n result g

joined_kinded : (script : Script) (l : DomainState) → IsKinded script l → (call : Ask) (c g : ℕ) (step : JoinStep) → IsKinded script (joined_by call c step g l).state
joined_kinded script l kinded call c g groups.Wait = still script l kinded g _
joined_kinded script l kinded call c g (groups.Give it) = still script (leaves c g l) (leaves_kinded script l kinded c g) g _
joined_kinded script l kinded call c g (groups.Raise raised) = still script (leaves c g l) (leaves_kinded script l kinded c g) g _

pub join_kinded : (n : ℕ) (own : Option Outcome) → CallKinded (ask.Join n own)
unfolding own_call
join_kinded n own script forms g l kinded calls = (
    let t : DomainState = own_ended n own g l in
    let joined : Joined = join g (group_at t.groups n) in
    joined_kinded script (record t { groups = with_group n joined.group t.groups }) (own_ended_kinded script l kinded n own g) (ask.Join n own) joined.group.context g joined.step)
