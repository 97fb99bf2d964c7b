-- The next call of a fiber: its work goes on with a value or with an exception, over silent items, up to a call or the fiber's end, which is a
-- call too.
-- An exception drops work up to the next `try` or end mark. A `try` binds the bound text of the exception and goes into its second block.
-- An end mark is the next call, to which the value or the exception comes.
use Rattle.std.specs.Prelude.{ℕ, zero, suc, true, false, nat_le, List, [], ◌∷◌, ◌++◌, length, pos, Some, None}
use Rattle.eio_value.specs.declared.value.Value.{Value}
use Rattle.eio_value.specs.declared.value.Value.TheVariants as value
use Rattle.eio_value.specs.declared.raised.Outcome.{Outcome}
use Rattle.eio_value.specs.declared.raised.Outcome.TheVariants as outcome
use Rattle.eio_value.specs.declared.raised.Raised.{Raised}
use Rattle.spec_fiber.specs.Asks.{Ask}
use Rattle.spec_fiber.specs.Asks as ask
use Rattle.spec_fiber.specs.Work.{Work, Run, Cut, Restore, Try, Bind, Loop, Repeat, Leave, Close, Closing, Join, ShutReader, ShutWriter, Locking, Unlock, Using, Put, Resolve, Carry, cut, restored, bound, caught}
use Rattle.spec_fiber.specs.Silent.{Went, Past, Called, Threw, statements, block, items_of, repeats}

-- the next call, the work behind it, and what the fiber carries then
pub record Settled : Type 0 where
  pub call : Ask
  pub behind : List Work
  pub carry : Carry

-- ## Ends

-- a call at an end, with the variables that are kept
abbrev pub at_end : Ask → List Work → (keep : ℕ) → Carry → Settled
at_end call work keep c = record { call = call; behind = work; carry = cut keep c }

-- the greatest number that a resource can have
abbrev pub greatest_resource : ℕ
greatest_resource = 4294967295

-- the resource that a pool gave. No pool gives another value, for which the greatest number stands
abbrev pub resource_of : Value → ℕ
resource_of (value.Int (pos n)) = elim (nat_le n greatest_resource) [ true ↦ n | false ↦ greatest_resource ]
resource_of other = greatest_resource

-- ## What follows what

-- what silent statements come to, once this work stands behind them: it goes on with their value or their exception
abbrev pub settle : Went → (Value → Carry → Settled) → (Raised → Carry → Settled) → List Work → Settled
settle (Past it c) next catch work = next it c
settle (Called call behind c) next catch work = record { call = call; behind = behind ++ work; carry = c }
settle (Threw raised c) next catch work = catch raised c

unfoldable mutual
  -- the work goes on with a value: the reply of the call before it, which a statement alone drops
  pub answered : List Work → Value → Carry → Settled
  answered [] it c = record { call = ask.End (outcome.Ok it); behind = []; carry = c }
  answered (Run items ∷ work) it c = settle (statements items c) (λ u d. answered work u d) (λ r d. thrown work r d) work
  answered (Cut keep ∷ work) it c = answered work it (cut keep c)
  answered (Restore variables ∷ work) it c = answered work it (restored variables c)
  answered (Try handler keep ∷ work) it c = answered work it (cut keep c)
  answered (Bind slot ∷ work) it c = answered work value.Unit (bound slot it c)
  answered (Loop body keep ∷ work) it c = at_end ask.Turn (Run (items_of body) ∷ Loop body keep ∷ work) keep c
  answered (Repeat turn zero body keep ∷ work) it c = answered work value.Unit (cut keep c)
  answered (Repeat turn (suc left) body keep ∷ work) it c = settle (repeats turn left body keep c) (λ u d. answered work u d) (λ r d. thrown work r d) work
  answered (Leave context late keep ∷ work) it c = at_end (ask.Leave context late (outcome.Ok it)) work keep c
  answered (Close switch keep ∷ work) it c = at_end (ask.Close switch None it) work keep c
  answered (Closing switch kept ∷ work) it c = record { call = ask.Close switch None kept; behind = work; carry = c }
  answered (Join group keep ∷ work) it c = at_end (ask.Join group (Some (outcome.Ok it))) work keep c
  answered (ShutReader reader keep ∷ work) it c = at_end (ask.ShutReader reader (outcome.Ok it)) work keep c
  answered (ShutWriter writer keep ∷ work) it c = at_end (ask.ShutWriter writer (outcome.Ok it)) work keep c
  answered (Locking mutex body ∷ work) it c =
      let keep = length c.variables in
      settle (block body c) (λ u d. at_end (ask.UnlockEnd mutex u) work keep d) (λ r d. at_end (ask.PoisonEnd mutex r) work keep d) (Unlock mutex keep ∷ work)
  answered (Unlock mutex keep ∷ work) it c = at_end (ask.UnlockEnd mutex it) work keep c
  answered (Using pool body ∷ work) it c =
      let keep = length c.variables in
      let resource = resource_of it in
      let put : Outcome → Carry → Settled = λ o d. at_end (ask.PutEnd pool resource o) work keep d in
      settle (block body (bound keep it c)) (λ u d. put (outcome.Ok u) d) (λ r d. put (outcome.Err r) d) (Put pool resource keep ∷ work)
  answered (Put pool resource keep ∷ work) it c = at_end (ask.PutEnd pool resource (outcome.Ok it)) work keep c
  answered (Resolve promise ∷ work) it c = record { call = ask.ResolveEnd promise (outcome.Ok it); behind = work; carry = c }

  -- the work goes on with an exception
  pub thrown : List Work → Raised → Carry → Settled
  thrown [] r c = record { call = ask.End (outcome.Err r); behind = []; carry = c }
  thrown (Run items ∷ work) r c = thrown work r c
  thrown (Cut keep ∷ work) r c = thrown work r c
  thrown (Restore variables ∷ work) r c = thrown work r (restored variables c)
  thrown (Try handler keep ∷ work) r c =
      settle (block handler (caught keep r c)) (λ u d. answered work u (cut keep d)) (λ q d. thrown work q d) (Cut keep ∷ work)
  thrown (Bind slot ∷ work) r c = thrown work r c
  thrown (Loop body keep ∷ work) r c = thrown work r c
  thrown (Repeat turn left body keep ∷ work) r c = thrown work r c
  thrown (Leave context late keep ∷ work) r c = at_end (ask.Leave context late (outcome.Err r)) work keep c
  thrown (Close switch keep ∷ work) r c = at_end (ask.Close switch (Some r) value.Unit) work keep c
  thrown (Closing switch kept ∷ work) r c = record { call = ask.Close switch (Some r) kept; behind = work; carry = c }
  thrown (Join group keep ∷ work) r c = at_end (ask.Join group (Some (outcome.Err r))) work keep c
  thrown (ShutReader reader keep ∷ work) r c = at_end (ask.ShutReader reader (outcome.Err r)) work keep c
  thrown (ShutWriter writer keep ∷ work) r c = at_end (ask.ShutWriter writer (outcome.Err r)) work keep c
  thrown (Locking mutex body ∷ work) r c = thrown work r c
  thrown (Unlock mutex keep ∷ work) r c = at_end (ask.PoisonEnd mutex r) work keep c
  thrown (Using pool body ∷ work) r c = thrown work r c
  thrown (Put pool resource keep ∷ work) r c = at_end (ask.PutEnd pool resource (outcome.Err r)) work keep c
  thrown (Resolve promise ∷ work) r c = record { call = ask.ResolveEnd promise (outcome.Err r); behind = work; carry = c }
