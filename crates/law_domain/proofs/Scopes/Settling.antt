-- The next call of a fiber closes a switch only by a mark of its work: the scopes of the work are those of the call and of what is behind it (`scopes_settle`).
use Rattle.std.proofs.Common.{ℕ, ◌<◌, List, [], ◌∷◌, ◌++◌, subst}
use Rattle.eio_value.specs.declared.raised.Outcome.{Outcome}
use Rattle.eio_value.specs.declared.raised.Outcome.TheVariants as outcome
use Rattle.eio_value.specs.declared.raised.Raised.{Raised}
use Rattle.spec_fiber.specs.Asks as ask
use Rattle.spec_fiber.specs.Asks.{Ask}
use Rattle.spec_fiber.specs.Replies.{passed}
use Rattle.spec_fiber.specs.Settling.{Settled, thrown}
use Rattle.spec_fiber.specs.Work.{Work, Leave, Close, Closing, Join, Carry}
use Rattle.law_domain.specs.Sound.Scopes.{Entered, InSwitch, called_scope, scopes_in}
use Rattle.law_domain.proofs.Sound.ScopesSettle.{scopes_settle}
use Rattle.law_domain.proofs.Scopes.Scopes.{Closes, ClosesCall}

-- the call and what is behind it close only switches below a bound
abbrev pub Settles : (bound : ℕ) → Settled → Type 0
Settles bound it = ClosesCall bound it.call × Closes bound it.behind

module _ (k : ℕ) where
  -- the switches among these scopes are below the bound
  abbrev Below : List Entered → Type 0
  Below [] = Unit {0}
  Below (InSwitch switch ∷ scopes) = (switch < k) × Below scopes
  Below (scope ∷ scopes) = Below scopes

  below : (work : List Work) → Closes k work → Below (scopes_in work)
  below [] h = tt
  below (Leave context late keep ∷ work) h = below work h
  below (Close switch keep ∷ work) h = (h.0, below work h.1)
  below (Closing switch kept ∷ work) h = (h.0, below work h.1)
  below (Join group keep ∷ work) h = below work h
  below (mark ∷ work) h = below work h

  closes : (work : List Work) → Below (scopes_in work) → Closes k work
  closes [] h = tt
  closes (Leave context late keep ∷ work) h = closes work h
  closes (Close switch keep ∷ work) h = (h.0, closes work h.1)
  closes (Closing switch kept ∷ work) h = (h.0, closes work h.1)
  closes (Join group keep ∷ work) h = closes work h
  closes (mark ∷ work) h = closes work h

  by_call : (call : Ask) (behind : List Work) → Below (called_scope call ++ scopes_in behind) → ClosesCall k call × Closes k behind
  by_call (ask.Leave context late it) behind h = (tt, closes behind h)
  by_call (ask.Close switch came kept) behind h = (h.0, closes behind h.1)
  by_call (ask.Join group own) behind h = (tt, closes behind h)
  by_call call behind h = (tt, closes behind h)

  pub passed_settles : (it : Outcome) (work : List Work) (c : Carry) → Closes k work → Settles k (passed it work c)
  passed_settles it work c h = by_call (passed it work c).call (passed it work c).behind (subst Below (scopes_settle it work c).0 (below work h))

  pub thrown_closes : (work : List Work) (r : Raised) (c : Carry) → Closes k work → Settles k (thrown work r c)
  thrown_closes work r c h = passed_settles (outcome.Err r) work c h
