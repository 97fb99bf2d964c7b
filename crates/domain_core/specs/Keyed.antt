-- How the fibers are kept: in a slab, each number with the key of its fiber until that ends; the exceptions that fibers go on with lie in another one. And
-- what fibers are seen as.
use Rattle.std.specs.Prelude.{◌≡◌, ℕ, ◌≤◌, List, map, count_by, is_some, IsSome, slice_get, Option, Some, None}
use Rattle.std.specs.Option.{option_and_then, option_map, unwrap_or}
use Rattle.slab.specs.Slab.{Slab, get, slab_len, Updates}
use Rattle.eio_value.specs.declared.plain.Plain.TheVariants as plain
use Rattle.eio_value.specs.declared.raised.Outcome.TheVariants as outcome
use Rattle.eio_value.specs.declared.raised.Raised.{Raised}
use Rattle.eio_value.specs.declared.raised.Raised.TheVariants as raised
use Rattle.spec_fiber.specs.Asks as ask
use Rattle.spec_fiber.specs.Asks.{Ask}
use Rattle.spec_machine.specs.Domain as model
use Rattle.domain_core.specs.declared.fiber.Fiber.{Fiber}
use Rattle.domain_core.specs.declared.standing.Again.{Again}
use Rattle.domain_core.specs.declared.standing.Again.TheVariants as again
use Rattle.domain_core.specs.declared.standing.Next.{Next}
use Rattle.domain_core.specs.declared.standing.Next.TheVariants as next
use Rattle.domain_core.specs.declared.standing.Role.{Role}
use Rattle.domain_core.specs.declared.standing.Role.TheVariants as role
use Rattle.domain_core.specs.declared.standing.Standing.{Standing}
use Rattle.domain_core.specs.declared.standing.Standing.TheVariants as standing
use Rattle.domain_core.specs.Keeping.{KeptFiber, kept_at}

-- ## What a fiber is seen as

abbrev pub role_of : Role → model.Role
role_of role.Body = model.OfBody
role_of (role.Switched switch daemon) = model.OfSwitch switch daemon
role_of (role.Branch group) = model.OfGroup group

-- the call that is made again
abbrev pub call_of : Again → Ask
call_of (again.Close switch kept) = ask.Close switch None kept
call_of (again.Join group) = ask.Join group None

abbrev pub next_of : Next → model.Next
next_of (next.GoesOn given) = model.GoesOn (outcome.Ok given)
next_of next.LooksUp = model.LooksUp
next_of next.FindsOff = model.FindsOff
next_of (next.CallsAgain it) = model.CallsAgain (call_of it)

-- where these exceptions lie under the keys
abbrev pub standing_of : (thrown : ℕ → Raised) → Standing → model.Standing
standing_of thrown (standing.Ready it) = model.Ready (next_of it)
standing_of thrown (standing.Throws key) = model.Ready (model.GoesOn (outcome.Err (thrown key)))
standing_of thrown (standing.Parked it) = model.Parked (model.ForOthers (call_of it))
standing_of thrown standing.AwaitsCancel = model.Parked model.ForCancel

abbrev pub fiber_of : (thrown : ℕ → Raised) → Fiber → KeptFiber
fiber_of thrown fiber = record { number = fiber.number; context = fiber.context; role = role_of fiber.role; standing = standing_of thrown fiber.standing; frames = fiber.frames }

-- the key of the exception that it goes on with
abbrev pub thrown_under : Standing → Option ℕ
thrown_under (standing.Throws key) = Some key
thrown_under stands = None

-- an exception that stands for none
abbrev pub none_raised : Raised
none_raised = raised.One (record { serial = 0; what = plain.Exit })

-- one that goes on with no exception is seen so whatever lies beside
abbrev pub plain_standing : Standing → model.Standing
plain_standing = standing_of (λ key. none_raised)

abbrev pub raised_of : model.Standing → Option Raised
raised_of (model.Ready (model.GoesOn (outcome.Err it))) = Some it
raised_of stands = None

-- ## How they are kept

abbrev pub raised_in : Slab Raised → (key : ℕ) → Raised
raised_in thrown key = unwrap_or (get thrown key) none_raised

abbrev pub kept_under : Slab Fiber → Option ℕ → Option Fiber
kept_under kept key = option_and_then (λ k. get kept k) key

-- all that were made, by their numbers, as they lie there
abbrev pub kept_in : List (Option ℕ) → Slab Fiber → List (Option Fiber)
kept_in keys kept = map (kept_under kept) keys

-- and as they are seen
abbrev pub seen_as : (thrown : ℕ → Raised) → List (Option Fiber) → List (Option KeptFiber)
seen_as thrown fibers = map (option_map (fiber_of thrown)) fibers

abbrev pub fibers_in : List (Option ℕ) → Slab Fiber → Slab Raised → List (Option KeptFiber)
fibers_in keys kept thrown = seen_as (raised_in thrown) (kept_in keys kept)

-- the number has a key
abbrev pub HasKey : List (Option ℕ) → (number : ℕ) → Type 0
HasKey keys number = (key : ℕ) × (slice_get keys number ≡ Some (Some key))

-- the key of the exception that a fiber goes on with, if it is there and does
abbrev pub thrown_by : Option Fiber → Option ℕ
thrown_by found = option_and_then (λ (fiber : Fiber). thrown_under fiber.standing) found

abbrev pub thrown_at : List (Option Fiber) → (number : ℕ) → Option ℕ
thrown_at fibers number = thrown_by (kept_at fibers number)

-- each such key has its exception, and no two have the same one
pub record AreThrown (fibers : List (Option Fiber)) (thrown : Slab Raised) : Type 0 where
  pub there : (number key : ℕ) → thrown_at fibers number ≡ Some key → IsSome (get thrown key)
  pub apart : (number other key : ℕ) → thrown_at fibers number ≡ Some key → thrown_at fibers other ≡ Some key → number ≡ other

-- each key leads to the fiber of its number, and there are no others
pub record AreKeyed (keys : List (Option ℕ)) (kept : Slab Fiber) : Type 0 where
  pub found : (number key : ℕ) → slice_get keys number ≡ Some (Some key) → (fiber : Fiber) × (get kept key ≡ Some fiber) × (fiber.number ≡ number)
  pub many : slab_len kept ≡ count_by is_some keys
  pub room : 1024 ≤ kept.capacity

-- an exception was taken out, if there was one
abbrev pub IsWithout : Option ℕ → (old new : Slab Raised) → Type 0
IsWithout None old new = new ≡ old
IsWithout (Some key) old new = Updates old new key None
