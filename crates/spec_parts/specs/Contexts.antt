-- The contexts of one domain: what a cancellation is of, and whom it reaches.
-- Each fiber runs in a context. A root has no parent; a protected context isn't reached by what is cancelled above it. Contexts are
-- numbered from 0 in order of making, and no number is used again, so that a parent is older than its children. At most 4,096 live.
use Rattle.std.specs.Prelude.{ℕ, zero, suc, ◌+◌, Bool, true, false, ◌&&◌, ◌==◌, not, nat_le, is_none, List, [], ◌∷◌, ◌++◌, length, map, filter, count_by, slice_get, slice_set, Option, Some, None, unwrap_or}
use Rattle.std.specs.List.{list_any}
use Rattle.eio_value.specs.declared.plain.Plain.{Plain}

-- a context: its parent, whether it is protected, the reason by which it was itself cancelled, and whether it has ended
pub record Context : Type 0 where
  pub parent : Option ℕ
  pub protected : Bool
  pub reason : Option Plain
  pub ended : Bool

-- a waiting fiber, and the context that it runs in
pub record Waiting : Type 0 where
  pub fiber : ℕ
  pub context : ℕ

-- what stands under a number that no context has: a root that has ended
abbrev pub never_made : Context
never_made = record { parent = None; protected = false; reason = None; ended = true }

-- the contexts are a list, in which each stands at the place of its number
abbrev pub context_at : List Context → ℕ → Context
context_at contexts c = unwrap_or (slice_get contexts c) never_made

-- it was made and hasn't ended
abbrev pub is_live : List Context → ℕ → Bool
is_live contexts c = not (context_at contexts c).ended

abbrev pub live_count : List Context → ℕ
live_count contexts = count_by (λ context. not context.ended) contexts

abbrev pub most_contexts : ℕ
most_contexts = 4096

-- as many live as may
abbrev pub is_full : List Context → Bool
is_full contexts = nat_le most_contexts (live_count contexts)

-- Making and ending

-- the number of the new context, which is none where no more may live, and the contexts after that
pub record Made : Type 0 where
  pub number : Option ℕ
  pub contexts : List Context

abbrev pub new_context : Option ℕ → Bool → Context
new_context parent protected = record { parent = parent; protected = protected; reason = None; ended = false }

abbrev pub make : Context → List Context → Made
make context contexts = elim (is_full contexts) [
  | true ↦ record { number = None; contexts = contexts }
  | false ↦ record { number = Some (length contexts); contexts = contexts ++ context ∷ [] }
]

abbrev pub root : List Context → Made
root contexts = make (new_context None false) contexts

abbrev pub sub : (parent : ℕ) → List Context → Made
sub parent contexts = make (new_context (Some parent) false) contexts

abbrev pub protect : (parent : ℕ) → List Context → Made
protect parent contexts = make (new_context (Some parent) true) contexts

-- the context has ended; it keeps all else
abbrev pub end : ℕ → List Context → List Context
end c contexts = slice_set contexts c (record (context_at contexts c) { ended = true })

-- The way up

-- where a cancellation comes down to a context from: its parent, unless it is protected
abbrev pub above : List Context → ℕ → Option ℕ
above contexts c = elim (context_at contexts c).protected [ true ↦ None | false ↦ (context_at contexts c).parent ]

-- the way up from a context: the context itself, then the way up from where a cancellation comes down to it; no more than this many steps
unfoldable pub way_within : (steps : ℕ) → List Context → ℕ → List ℕ
way_within zero contexts c = []
way_within (suc steps) contexts c = c ∷ elim (above contexts c) [ None ↦ [] | Some parent ↦ way_within steps contexts parent ]

-- the whole way: each context on it is older than the one before, so that it has at most as many steps as there are numbers up to c
abbrev pub way_up : List Context → ℕ → List ℕ
way_up contexts c = way_within (c + 1) contexts c

-- the first context on a way that was itself cancelled tells the reason
abbrev pub first_reason : List Context → List ℕ → Option Plain
first_reason contexts [] = None
first_reason contexts (c ∷ way) = elim (context_at contexts c).reason [ Some why ↦ Some why | None ↦ first_reason contexts way ]

-- the reason by which a context is off: its own; else, where it isn't protected and has a parent, that by which the parent is off; else none
abbrev pub off : List Context → ℕ → Option Plain
off contexts c = first_reason contexts (way_up contexts c)

-- x is c, or goes up to c through contexts that aren't protected; c itself may be protected
abbrev pub goes_up_to : List Context → (x c : ℕ) → Bool
goes_up_to contexts x c = list_any (λ y. y == c) (way_up contexts x)

-- Cancelling

-- a cancellation takes effect where the context is live and isn't off
abbrev pub takes_effect : List Context → ℕ → Bool
takes_effect contexts c = is_live contexts c && is_none (off contexts c)

-- then the context has the reason; else nothing changes
abbrev pub cancel : ℕ → Plain → List Context → List Context
cancel c why contexts = elim (takes_effect contexts c) [
  | true ↦ slice_set contexts c (record (context_at contexts c) { reason = Some why })
  | false ↦ contexts
]

-- the waiting fibers that the cancellation of a context reaches, in the order in which they are given, which is that of their numbers
abbrev pub reached : List Context → List Waiting → ℕ → List ℕ
reached contexts waiting c = map (λ w. w.fiber) (filter (λ w. goes_up_to contexts w.context c) waiting)

-- the fibers to be struck for a cancellation: all that it reaches, where it takes effect
abbrev pub to_be_struck : List Context → List Waiting → ℕ → List ℕ
to_be_struck contexts waiting c = elim (takes_effect contexts c) [ true ↦ reached contexts waiting c | false ↦ [] ]
