-- Each call does to a mutex what its state allows, and leaves the state that this leads to.
use Rattle.std.proofs.Common.{◌≡◌, ℕ, Bool, true, false, List, [], ◌∷◌, ◌++◌, refl, sym, subst}
use Rattle.eio_value.specs.declared.call.Call.{Call}
use Rattle.eio_value.specs.declared.call.Call.TheVariants as call
use Rattle.eio_value.specs.declared.message.Waiter.{Waiter}
use Rattle.law_parts.specs.Items.{Move, Calls, Strikes}
use Rattle.spec_parts.specs.declared.hold.Hold.{Hold}
use Rattle.spec_parts.specs.declared.hold.Hold.TheVariants.{Free, Held, Poisoned}
use Rattle.spec_parts.specs.Data.{Mutex}
use Rattle.spec_parts.specs.Mutexes.{mutex}
use Rattle.spec_parts.specs.Objects.{called}
use Rattle.spec_parts.specs.Row.{Row, Queued, Stepped}
use Rattle.spec_parts.specs.Strikes.{struck}
use Rattle.resource_pool.specs.Locking.{LockChange, Locks, Unlocks, Poisons, turns_of, turns, AreInTurn, LockedInTurn}

-- the state that turns lead to
abbrev led : Hold → List LockChange → Hold
led state [] = state
led state (Locks ∷ others) = led Held others
led state (Unlocks ∷ others) = led Free others
led state (Poisons ∷ others) = led Poisoned others

-- turns one after the other
in_turn-append : (state : Hold) (first others : List LockChange) → AreInTurn state first → AreInTurn (led state first) others → AreInTurn state (first ++ others)
in_turn-append state [] others are more = more
in_turn-append state (Locks ∷ first) others are more = (are.0, in_turn-append Held first others are.1 more)
in_turn-append state (Unlocks ∷ first) others are more = (are.0, in_turn-append Free first others are.1 more)
in_turn-append state (Poisons ∷ first) others are more = in_turn-append Poisoned first others are more

abbrev row_of : Hold → List Queued → List Queued → Row
row_of state takers adders = record { values = Mutex state; takers = takers; adders = adders }

abbrev Leads : Hold → Call → Stepped → Type 0
Leads state call step = AreInTurn state (turns_of call step) × (step.row.values ≡ Mutex (led state (turns_of call step)))

module _ (who : Waiter) (serial : ℕ) where
  abbrev CallLeads : Bool → Call → Hold → List Queued → List Queued → Type 0
  CallLeads off call state takers adders = Leads state call (called (row_of state takers adders) who off serial call)

  lock_leads : (off : Bool) (object : ℕ) (state : Hold) (takers adders : List Queued) → CallLeads off (call.Lock object) state takers adders
  lock_leads off object Free takers adders = ((refl, tt), refl)
  lock_leads true object Held takers adders = (tt, refl)
  lock_leads false object Held takers adders = (tt, refl)
  lock_leads off object Poisoned takers adders = (tt, refl)

  try_lock_leads : (off : Bool) (object : ℕ) (state : Hold) (takers adders : List Queued) → CallLeads off (call.TryLock object) state takers adders
  try_lock_leads off object Free takers adders = ((refl, tt), refl)
  try_lock_leads off object Held takers adders = (tt, refl)
  try_lock_leads off object Poisoned takers adders = (tt, refl)

  unlock_leads : (off : Bool) (object : ℕ) (state : Hold) (takers adders : List Queued) → CallLeads off (call.Unlock object) state takers adders
  unlock_leads off object Free takers adders = (tt, refl)
  unlock_leads off object Held [] adders = ((refl, tt), refl)
  unlock_leads off object Held (taker ∷ takers) adders = ((refl, (refl, tt)), refl)
  unlock_leads off object Poisoned takers adders = (tt, refl)

  wake_leads : (off : Bool) (object : ℕ) (state : Hold) (takers adders : List Queued) → CallLeads off (call.NextWake object) state takers adders
  wake_leads off object Free takers adders = (tt, refl)
  wake_leads off object Held takers adders = (tt, refl)
  wake_leads off object Poisoned [] adders = (tt, refl)
  wake_leads off object Poisoned (taker ∷ takers) adders = (tt, refl)

  call_leads : (off : Bool) (call : Call) (state : Hold) (takers adders : List Queued) → CallLeads off call state takers adders
  call_leads off (call.Lock object) state takers adders = lock_leads off object state takers adders
  call_leads off (call.TryLock object) state takers adders = try_lock_leads off object state takers adders
  call_leads off (call.Unlock object) state takers adders = unlock_leads off object state takers adders
  call_leads off (call.NextWake object) state takers adders = wake_leads off object state takers adders
  call_leads off other state takers adders = (tt, refl)

row_leads : (row : Row) (who : Waiter) (off : Bool) (serial : ℕ) (call : Call) (state : Hold) → row.values ≡ Mutex state → Leads state call (called row who off serial call)
row_leads row who off serial call state is =
    let seen : row_of state row.takers row.adders ≡ row = λ i. record { values = sym is i; takers = row.takers; adders = row.adders } in
    subst (λ (r : Row). Leads state call (called r who off serial call)) seen (call_leads who serial off call state row.takers row.adders)

moves_lead : (row : Row) (moves : List Move) (state : Hold) → row.values ≡ Mutex state → AreInTurn state (turns row moves)
moves_lead row [] state is = tt
moves_lead row (Strikes who ∷ moves) state is = moves_lead (struck row who) moves state is
moves_lead row (Calls who off serial call ∷ moves) state is =
    let step : Stepped = called row who off serial call in
    let leads : Leads state call step = row_leads row who off serial call state is in
    in_turn-append state (turns_of call step) (turns step.row moves) leads.0 (moves_lead step.row moves (led state (turns_of call step)) leads.1)

pub locked_in_turn : LockedInTurn
locked_in_turn moves = moves_lead mutex moves Free refl
