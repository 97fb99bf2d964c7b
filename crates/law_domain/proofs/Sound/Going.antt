-- What holds of each call that silent statements come to, with the work behind it.
use Rattle.std.proofs.Common.{ℕ, Bool, true, false, List, [], ◌∷◌, ◌++◌}
use Rattle.eio_value.specs.declared.raised.Raised.{Raised}
use Rattle.eio_value.specs.declared.value.Value.{Value}
use Rattle.spec_fiber.specs.Asks.{Ask}
use Rattle.spec_fiber.specs.Evaluation.{Evaluated, Is, Raises}
use Rattle.spec_fiber.specs.Settling.{Settled, settle}
use Rattle.spec_fiber.specs.Silent.{Went, Past, Called, Threw, and_then, within, with_value}
use Rattle.spec_fiber.specs.Work as work
use Rattle.spec_fiber.specs.Work.{Work, Carry, cut}

module _ (P : Ask → List Work → Type 0) where
  abbrev pub EachCall : Went → Type 0
  EachCall (Past it c) = Unit {0}
  EachCall (Called call behind c) = P call behind
  EachCall (Threw raised c) = Unit {0}

  -- with more behind it
  abbrev pub Takes : List Work → Type 0
  Takes more = (call : Ask) (behind : List Work) → P call behind → P call (behind ++ more)

  pub each_then : (went : Went) (next : Value → Carry → Went) (catch : Raised → Carry → Went) (more : List Work) → Takes more → EachCall went
      → ((it : Value) (c : Carry) → EachCall (next it c)) → ((raised : Raised) (c : Carry) → EachCall (catch raised c)) → EachCall (and_then went next catch more)
  each_then (Past it c) next catch more takes is goes throws = goes it c
  each_then (Called call behind c) next catch more takes is goes throws = takes call behind is
  each_then (Threw raised c) next catch more takes is goes throws = throws raised c

  pub each_within : (keep : ℕ) (went : Went) → Takes (work.Cut keep ∷ []) → EachCall went → EachCall (within keep went)
  each_within keep went takes is = each_then went (λ it c. Past it (cut keep c)) Threw (work.Cut keep ∷ []) takes is (λ it c. tt) (λ raised c. tt)

  pub each_value : {A : Type 0} (found : Evaluated A) (c : Carry) (next : A → Went) → ((it : A) → EachCall (next it)) → EachCall (with_value found c next)
  each_value (Is it) c next goes = goes it
  each_value (Raises what) c next goes = tt

  pub each_either : (b : Bool) (one other : Went) → EachCall one → EachCall other → EachCall (elim b [ true ↦ one | false ↦ other ])
  each_either true one other is that = is
  each_either false one other is that = that

  -- up to a call, with this work behind them
  pub each_settles : (S : Settled → Type 0) (went : Went) (next : Value → Carry → Settled) (catch : Raised → Carry → Settled) (more : List Work) → EachCall went
      → ((call : Ask) (behind : List Work) (c : Carry) → P call behind → S (record { call = call; behind = behind ++ more; carry = c }))
      → ((it : Value) (c : Carry) → S (next it c)) → ((raised : Raised) (c : Carry) → S (catch raised c)) → S (settle went next catch more)
  each_settles S (Past it c) next catch more is calls goes throws = goes it c
  each_settles S (Called call behind c) next catch more is calls goes throws = calls call behind c is
  each_settles S (Threw raised c) next catch more is calls goes throws = throws raised c
