-- Pools. Resources are the numbers from 0; a pool makes one only where none is idle and fewer than its size were made. The one put back last is
-- used first. A resource is out where it was made and isn't idle.
use Rattle.std.specs.Prelude.{ℕ, ◌+◌, ◌-◌, ◌==◌, Bool, true, false, ◌&&◌, not, nat_lt, List, [], ◌∷◌, ◌++◌, length, take, Option, Some, None}
use Rattle.std.specs.List.{list_any, last_or}
use Rattle.eio_value.specs.declared.call.Answer.TheVariants as answer
use Rattle.eio_value.specs.declared.call.Call.{Call}
use Rattle.eio_value.specs.declared.call.Call.TheVariants as call
use Rattle.eio_value.specs.declared.raised.Outcome.TheVariants as outcome
use Rattle.eio_value.specs.declared.value.Value.TheVariants as value
use Rattle.spec_parts.specs.Data.{Pool}
use Rattle.spec_parts.specs.Row.{Row, Takers, Alone, Waits, Does, Ignores, Looks, anybody, quiet, done, int, opening}

-- whether somebody has this resource
abbrev pub is_out : (made : ℕ) → (idle : List ℕ) → ℕ → Bool
is_out made idle resource = nat_lt resource made && not (list_any (λ other. other == resource) idle)

-- the idle resource that was put back last; with none, a new number below the size; else waits
abbrev pub use_last : ℕ → ℕ → List ℕ → Option ℕ → Alone
use_last size made idle (Some resource) = quiet (Pool size made (take (length idle - 1) idle)) (answer.Done (int resource))
use_last size made idle None =
    elim (nat_lt made size) [
      | true ↦ quiet (Pool size (made + 1) idle) (answer.Done (int made))
      | false ↦ Waits (Pool size made idle) Takers value.Unit 0
    ]

-- to the first waiter, else last among the idle; nothing where the resource isn't out
abbrev pub put_does : ℕ → ℕ → List ℕ → ℕ → Does
put_does size made idle resource =
    elim (is_out made idle resource) [
      | true ↦ Looks Takers anybody
          (λ waiter. record { values = Pool size made idle; answer = done; outcome = outcome.Ok (int resource) })
          (quiet (Pool size made (idle ++ resource ∷ [])) done)
      | false ↦ Ignores (quiet (Pool size made idle) answer.Nothing)
    ]

abbrev pub pool_does : ℕ → ℕ → List ℕ → Call → Does
pool_does size made idle (call.Use object) = Ignores (use_last size made idle (last_or None idle))
pool_does size made idle (call.Put object resource) = put_does size made idle resource
pool_does size made idle other = Ignores (quiet (Pool size made idle) answer.Nothing)

-- as declared: nothing made
abbrev pub pool : (size : ℕ) → Row
pool size = opening (Pool size 0 [])
