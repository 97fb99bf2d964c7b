-- Behind the end of a handler's block no statement closes the switch: while the mark of the block's context stands in a fiber's work, its next call closes the switch only by
-- a mark before it, or is the end of the block. So it is since the scopes of the work are those of the call and of what is behind it (`scopes_settle`).
use Rattle.std.proofs.Common.{◌≡◌, ℕ, ◌+◌, Bool, true, false, List, [], ◌∷◌, ◌++◌, refl, ap, ◌∙◌, ◌==◌, sym, arith}
use Rattle.std.proofs.lemmas.Bool.{eqb-true}
use Rattle.eio_value.specs.declared.raised.Outcome.{Outcome}
use Rattle.eio_value.specs.declared.raised.Outcome.TheVariants as outcome
use Rattle.eio_value.specs.declared.raised.Raised.{Raised}
use Rattle.spec_fiber.specs.Asks as ask
use Rattle.spec_fiber.specs.Asks.{Ask}
use Rattle.spec_fiber.specs.Replies.{passed}
use Rattle.spec_fiber.specs.Settling.{Settled, thrown}
use Rattle.spec_fiber.specs.Work as work
use Rattle.spec_fiber.specs.Work.{Work, Carry}
use Rattle.spec_machine.specs.Domain.{CallsAgain, ForOthers, Standing, Ready, Parked, Fiber}
use Rattle.law_domain.specs.Sound.Scopes.{Entered, InContext, InSwitch, InGroup, called_scope, scopes_in}
use Rattle.law_domain.proofs.Sound.ScopesSettle.{scopes_settle}
use Rattle.law_domain.proofs.Scopes.Counts.{one}

module _ (n c : ℕ) where
  -- how many marks of a switch's closing stand before the mark of a context
  abbrev pub closing : List Work → ℕ
  closing [] = 0
  closing (work.Leave context late keep ∷ behind) = elim (context == c) [ true ↦ 0 | false ↦ closing behind ]
  closing (work.Close switch keep ∷ behind) = one n switch + closing behind
  closing (work.Closing switch kept ∷ behind) = one n switch + closing behind
  closing (mark ∷ behind) = closing behind

  abbrev pub closes : Ask → ℕ
  closes (ask.Close switch came kept) = one n switch
  closes call = 0

  -- a call to be made again
  abbrev pub stood : Standing → ℕ
  stood (Ready (CallsAgain call)) = closes call
  stood (Parked (ForOthers call)) = closes call
  stood standing = 0

  -- the fiber doesn't close the switch before it leaves the context
  pub record Veiled (fiber : Fiber) : Type 0 where
    pub work : closing fiber.work ≡ 0
    pub call : stood fiber.standing ≡ 0

  -- ## The next call

  -- it is the end of the block, or closes the switch neither now nor behind it
  pub data Settles (it : Settled) : Type 0 where
    Leaves : (late : Bool) → (result : Outcome) → it.call ≡ ask.Leave c late result → Settles it
    Goes_on : closes it.call ≡ 0 → closing it.behind ≡ 0 → Settles it

  -- how often the switch stands among these scopes, before the context
  abbrev before : List Entered → ℕ
  before [] = 0
  before (InContext context ∷ scopes) = elim (context == c) [ true ↦ 0 | false ↦ before scopes ]
  before (InSwitch switch ∷ scopes) = one n switch + before scopes
  before (InGroup group own ∷ scopes) = before scopes

  closing_is : (items : List Work) → closing items ≡ before (scopes_in items)
  closing_is [] = refl
  closing_is (work.Leave context late keep ∷ items) = ap (λ (k : ℕ). elim (context == c) as (λ _. ℕ) [ true ↦ 0 | false ↦ k ]) (closing_is items)
  closing_is (work.Close switch keep ∷ items) = ap (λ (k : ℕ). one n switch + k) (closing_is items)
  closing_is (work.Closing switch kept ∷ items) = ap (λ (k : ℕ). one n switch + k) (closing_is items)
  closing_is (work.Join group keep ∷ items) = closing_is items
  closing_is (mark ∷ items) = closing_is items

  by_leave : (context : ℕ) (late : Bool) (it : Outcome) (behind : List Work) (e : Carry) (b : Bool) → (context == c) ≡ b
      → elim b as (λ _. ℕ) [ true ↦ 0 | false ↦ before (scopes_in behind) ] ≡ 0 → Settles (record { call = ask.Leave context late it; behind = behind; carry = e })
  by_leave context late it behind e true is none = Leaves late it (ap (λ (k : ℕ). ask.Leave k late it) (eqb-true context c is))
  by_leave context late it behind e false is none = Goes_on refl (closing_is behind ∙ none)

  by_call : (call : Ask) (behind : List Work) (e : Carry) → before (called_scope call ++ scopes_in behind) ≡ 0 → Settles (record { call = call; behind = behind; carry = e })
  by_call (ask.Leave context late it) behind e none = by_leave context late it behind e (context == c) refl none
  by_call (ask.Close switch came kept) behind e none = Goes_on (omega (arith, none)) (omega (arith, none, closing_is behind))
  by_call (ask.Join group own) behind e none = Goes_on refl (closing_is behind ∙ none)
  by_call call behind e none = Goes_on refl (closing_is behind ∙ none)

  pub passed_veils : (it : Outcome) (work : List Work) (e : Carry) → closing work ≡ 0 → Settles (passed it work e)
  passed_veils it work e h =
      let next = passed it work e in
      by_call next.call next.behind next.carry (sym (closing_is work ∙ ap before (scopes_settle it work e).0) ∙ h)

  pub thrown_veils : (work : List Work) (r : Raised) (e : Carry) → closing work ≡ 0 → Settles (thrown work r e)
  thrown_veils work r e h = passed_veils (outcome.Err r) work e h
