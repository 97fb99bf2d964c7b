-- Contexts as the code keeps them: the live ones in a slab, found by their places. Of an ended one nothing is kept but that it was made.
use Rattle.std.specs.Prelude.{◌≡◌, ℕ, zero, suc, ◌<◌, ◌≤◌, false, List, [], ◌∷◌, ◌++◌, length, Option, Some, None, is_some, count_by}
use Rattle.std.specs.Option.{option_map, option_and_then}
use Rattle.slab.specs.Slab.{Slab, get, slab_len}
use Rattle.spec_parts.specs.Contexts.{Context, never_made, live_count}
use Rattle.cancel_tree.specs.declared.kept.KeptContext.{KeptContext}
use Rattle.cancel_tree.specs.declared.kept.ContextKey.{ContextKey}
use Rattle.cancel_tree.specs.Places.{place_at, AreBelow, Rise}

-- what is kept under a number
abbrev pub kept_at : Slab KeptContext → List ContextKey → ℕ → Option KeptContext
kept_at kept places c = option_and_then (λ place. get kept place.key) (place_at places c)

-- the definition's context; where nothing is kept, one that has ended
abbrev pub context_of : Option KeptContext → Context
context_of None = never_made
context_of (Some kept) = record { parent = option_map (λ place. place.number) kept.parent; protected = kept.protected; reason = kept.reason; ended = false }

-- the contexts of the numbers below n, in order
unfoldable pub listed : (n : ℕ) → (ℕ → Context) → List Context
listed zero at = []
listed (suc n) at = listed n at ++ at n ∷ []

-- all that were made, in which an ended one is forgotten: it stands as `never_made`
unfoldable pub contexts_in : (made : ℕ) → Slab KeptContext → List ContextKey → List Context
contexts_in made kept places = listed made (λ c. context_of (kept_at kept places c))

-- how many have a reason of their own
abbrev pub reason_count : List Context → ℕ
reason_count contexts = count_by (λ context. is_some context.reason) contexts

-- what stands at a place: the context of that number, which was made; its parent is older and stands at its place
pub record Stands (made : ℕ) (kept : Slab KeptContext) (places : List ContextKey) (place : ContextKey) : Type 0 where
  pub context : KeptContext
  pub found : get kept place.key ≡ Some context
  pub number : context.number ≡ place.number
  pub older : (parent : ContextKey) → context.parent ≡ Some parent → parent.number < place.number
  pub placed : (parent : ContextKey) → context.parent ≡ Some parent → place_at places parent.number ≡ Some parent

-- the invariant of the tree
pub record IsTree (made : ℕ) (kept : Slab KeptContext) (places : List ContextKey) : Type 0 where
  pub rise : Rise places
  pub below : AreBelow made places
  pub stands : (c : ℕ) (place : ContextKey) → place_at places c ≡ Some place → Stands made kept places place
  pub live : live_count (contexts_in made kept places) ≡ length places
  pub many : slab_len kept ≡ length places
  pub room : 4096 ≤ kept.capacity
