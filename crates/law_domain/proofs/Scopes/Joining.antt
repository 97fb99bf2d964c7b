-- The next call of a fiber ends the caller's own branch of a group only by a mark of its work, which is gone then: the scopes of the work are those of the call and of
-- what is behind it (`scopes_settle`).
use Rattle.std.proofs.Common.{◌≡◌, ℕ, ◌+◌, ◌≤◌, true, false, List, [], ◌∷◌, ◌++◌, Some, None, refl, ap, ◌∙◌, sym, subst, arith}
use Rattle.eio_value.specs.declared.raised.Outcome.{Outcome}
use Rattle.eio_value.specs.declared.raised.Outcome.TheVariants as outcome
use Rattle.eio_value.specs.declared.raised.Raised.{Raised}
use Rattle.spec_fiber.specs.Asks as ask
use Rattle.spec_fiber.specs.Asks.{Ask}
use Rattle.spec_fiber.specs.Replies.{passed}
use Rattle.spec_fiber.specs.Settling.{Settled, thrown}
use Rattle.spec_fiber.specs.Work.{Work, Leave, Close, Closing, Join, Carry}
use Rattle.law_domain.specs.Sound.Scopes.{Entered, InGroup, called_scope, scopes_in}
use Rattle.law_domain.proofs.Sound.ScopesSettle.{scopes_settle}
use Rattle.law_domain.proofs.Scopes.Counts.{one, times}
use Rattle.law_domain.proofs.Scopes.Gathered.{joining, owed_call, JoinsMade}

pub made_more : (low high : ℕ) → low ≤ high → (call : Ask) → JoinsMade low call → JoinsMade high call
made_more low high le (ask.Join group None) h = omega (arith, h)
made_more low high le (ask.Join group (Some result)) h = tt
made_more low high le call h = tt

module _ (n : ℕ) where
  -- the marks behind the call, and what it ends, are no more than this
  abbrev pub Settles : (bound : ℕ) → Settled → Type 0
  Settles bound it = (joining n it.behind + times n (owed_call it.call) ≤ bound) × JoinsMade 0 it.call

  -- how often the caller's own branch of the group stands among these scopes
  abbrev own_in : List Entered → ℕ
  own_in [] = 0
  own_in (InGroup group true ∷ scopes) = one n group + own_in scopes
  own_in (scope ∷ scopes) = own_in scopes

  -- of each of their groups the own branch still runs
  abbrev Own : List Entered → Type 0
  Own [] = Unit {0}
  Own (InGroup group false ∷ scopes) = ⊥
  Own (scope ∷ scopes) = Own scopes

  joins : (work : List Work) → joining n work ≡ own_in (scopes_in work)
  joins [] = refl
  joins (Leave context late keep ∷ work) = joins work
  joins (Close switch keep ∷ work) = joins work
  joins (Closing switch kept ∷ work) = joins work
  joins (Join group keep ∷ work) = ap (λ (k : ℕ). one n group + k) (joins work)
  joins (mark ∷ work) = joins work

  own : (work : List Work) → Own (scopes_in work)
  own [] = tt
  own (Leave context late keep ∷ work) = own work
  own (Close switch keep ∷ work) = own work
  own (Closing switch kept ∷ work) = own work
  own (Join group keep ∷ work) = own work
  own (mark ∷ work) = own work

  abbrev Is : Ask → List Work → (bound : ℕ) → Type 0
  Is call behind bound = (joining n behind + times n (owed_call call) ≤ bound) × JoinsMade 0 call

  by_call : (call : Ask) (behind : List Work) → Own (called_scope call ++ scopes_in behind) → Is call behind (own_in (called_scope call ++ scopes_in behind))
  by_call (ask.Leave context late it) behind h = (omega (arith, joins behind), tt)
  by_call (ask.Close switch came kept) behind h = (omega (arith, joins behind), tt)
  by_call (ask.Join group None) behind h = absurd h
  by_call (ask.Join group (Some it)) behind h = (omega (arith, joins behind), tt)
  by_call call behind h = (omega (arith, joins behind), tt)

  pub passed_joins : (it : Outcome) (work : List Work) (c : Carry) → Settles (joining n work) (passed it work c)
  passed_joins it work c =
      let same = (scopes_settle it work c).0 in
      subst (Is (passed it work c).call (passed it work c).behind) (sym (joins work ∙ ap own_in same)) (by_call (passed it work c).call (passed it work c).behind (subst Own same (own work)))

  pub thrown_joins : (work : List Work) (r : Raised) (c : Carry) → Settles (joining n work) (thrown work r c)
  thrown_joins work r c = passed_joins (outcome.Err r) work c
