-- The way up, by steps and by jumps.
use Rattle.std.specs.Prelude.{◌≡◌, ℕ, ◌<◌, ◌≤◌, ◌⊎◌, Bool, true, false, nat_le, List, Option, Some, None}
use Rattle.slab.specs.Slab.{Slab, get}
use Rattle.spec_parts.specs.Contexts.{Context, goes_up_to}
use Rattle.cancel_tree.specs.declared.kept.Jump.{Jump}
use Rattle.cancel_tree.specs.declared.kept.KeptContext.{KeptContext}
use Rattle.cancel_tree.specs.declared.kept.ContextKey.{ContextKey}
use Rattle.cancel_tree.specs.KeptContext.{contexts_in, reason_count, IsTree}
use Rattle.cancel_tree.specs.Places.{place_at}

-- one step up from what is kept
abbrev pub kept_above : KeptContext → Option ContextKey
kept_above kept = elim kept.protected [ true ↦ None | false ↦ kept.parent ]

-- a jump that doesn't pass a number, or else one step
abbrev pub kept_towards : ℕ → KeptContext → Option ContextKey
kept_towards c kept = elim kept.jump [ None ↦ kept_above kept | Some jump ↦ elim (nat_le c jump.place.number) [ true ↦ Some jump.place | false ↦ kept_above kept ] ]

-- two jumps up from a context
pub record TwoJumps (kept : Slab KeptContext) (from to : ContextKey) : Type 0 where
  pub context : KeptContext
  pub found : get kept from.key ≡ Some context
  pub first : Jump
  pub jumps : context.jump ≡ Some first
  pub far : KeptContext
  pub found_far : get kept first.place.key ≡ Some far
  pub second : Jump
  pub jumps_far : far.jump ≡ Some second
  pub ends : second.place ≡ to

-- the jump of a child of a context leads to the context, or two jumps up from it
abbrev pub JumpsFrom : Slab KeptContext → ContextKey → Jump → Type 0
JumpsFrom kept parent jump = (jump.place ≡ parent) ⊎ TwoJumps kept parent jump.place

-- the jump of a context with this parent, which isn't protected
pub record JumpsUnder (kept : Slab KeptContext) (parent : Option ContextKey) (protected : Bool) (jump : Jump) : Type 0 where
  pub open_above : protected ≡ false
  pub place : ContextKey
  pub under : parent ≡ Some place
  pub jumps : JumpsFrom kept place jump

-- whoever is no younger than the end of a jump is gone up to from both its ends alike
pub record JumpsTo (contexts : List Context) (places : List ContextKey) (c : ℕ) (to : ContextKey) : Type 0 where
  pub placed : place_at places to.number ≡ Some to
  pub further : to.number < c
  pub alike : (x : ℕ) → x ≤ to.number → goes_up_to contexts c x ≡ goes_up_to contexts to.number x

-- each jump that is kept is one
pub record HasJumps (made : ℕ) (kept : Slab KeptContext) (places : List ContextKey) : Type 0 where
  pub jumps : (c : ℕ) (place : ContextKey) (context : KeptContext) → place_at places c ≡ Some place → get kept place.key ≡ Some context → (jump : Jump) → context.jump ≡ Some jump
      → JumpsTo (contexts_in made kept places) places c jump.place

-- the invariant of the tree, of which so many have a reason, and whose places have so much room
pub record IsSound (made reasons : ℕ) (kept : Slab KeptContext) (places : List ContextKey) (capacity : ℕ) : Type 0 where
  pub tree : IsTree made kept places
  pub jumps : HasJumps made kept places
  pub counted : reason_count (contexts_in made kept places) ≡ reasons
  pub room : 4096 ≤ capacity
