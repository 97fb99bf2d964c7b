-- The end of a context, after which nothing of it is known but that it was made.
use Rattle.std.specs.Prelude.{◌≡◌, ◌≢◌, ℕ, true, List, slice_set, Some}
use Rattle.spec_parts.specs.Contexts.{Context, never_made, context_at, is_live}

-- no live context has it as its parent
abbrev pub HasNoLiveChild : List Context → ℕ → Type 0
HasNoLiveChild contexts c = (x : ℕ) → is_live contexts x ≡ true → (context_at contexts x).parent ≢ Some c

-- in its place stands what stands under a number that no context has
abbrev pub without : ℕ → List Context → List Context
without c contexts = slice_set contexts c never_made
