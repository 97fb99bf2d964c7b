-- What each step on a turn tells the pass that makes it.
use Rattle.std.specs.Prelude.{length, ◌≡◌, ℕ, ◌+◌, ◌-◌, ◌^◌, ◌<◌, true, false, List, [], ◌∷◌, ◌++◌, Some, None}
use Rattle.std.specs.Prelude.{Option as Maybe}
use Rattle.atomic_table.specs.Table.{Step, Me}
use Rattle.turn_lock.specs.declared.view.View.{View}
use Rattle.turn_lock.specs.History.{entries_by, StartsWith}

module _ {E : Type 0} where
  -- the pass, and the next one, which deals those behind it
  abbrev pub dealer : View E → View E
  dealer v = record v { ahead = 0 }

  abbrev pub dealt : View E → View E
  dealt v = record { number = v.number + 1; live = true; ahead = v.ahead - 1; seen = []; mine = []; waits = false; ticket = 0; holds = false; ended = [] }

  -- the first takes the second in, which has ended
  abbrev pub taking_in : View E → View E → View E
  taking_in v w = record v { ended = v.ended ++ (record { number = w.number; seen = w.seen; mine = w.mine }) ∷ [] }

  abbrev pub spent : View E
  spent = record { number = 0; live = false; ahead = 0; seen = []; mine = []; waits = false; ticket = 0; holds = false; ended = [] }

  -- a turn was given on with one entry more
  abbrev pub given_on : View E → Maybe E → View E
  given_on v None = v
  given_on v (Some e) = record v { waits = false; holds = false; seen = v.seen ++ (v.number, e) ∷ []; mine = v.mine ++ e ∷ [] }

  module _ {S : Type 0} where
    -- a ticket was drawn
    abbrev pub Draws : Step (Maybe S) → Me (Maybe S) (View E) → ℕ → Me (Maybe S) (View E) → Type 0
    Draws s me found after = (after.0 ≡ record me.0 { waits = true; ticket = found }) × (after.1 ≡ me.1)

    abbrev pub Leaves : Maybe E → Step (Maybe S) → Me (Maybe S) (View E) → ℕ → Me (Maybe S) (View E) → Type 0
    Leaves e s me found after = (after.0 ≡ given_on me.0 e) × (after.1 ≡ [])

    module _ (stands : S → List (ℕ × E) → Type 0) where
      -- the pass is served: it has the slot, whose value stands for all that it has now seen, which is below the limit and has its own entries and no others of it
      abbrev pub Takes : Me (Maybe S) (View E) → Me (Maybe S) (View E) → Type 0
      Takes me after =
          (x : S) × (seen : List (ℕ × E)) × (after.0 ≡ record me.0 { holds = true; seen = seen }) × (after.1 ≡ (0, Some x) ∷ me.1) × stands x seen × StartsWith seen me.0.seen × (length seen < 2 ^ 62)
          × (entries_by me.0.number seen ≡ me.0.mine)

      -- it is served where the number found is its ticket, or nothing has changed
      abbrev pub Looks : Step (Maybe S) → Me (Maybe S) (View E) → ℕ → Me (Maybe S) (View E) → Type 0
      Looks s me found after =
          ((found ≡ me.0.ticket) × (found < 2 ^ 62) → Takes me after)
          × (((found ≡ me.0.ticket) × (found < 2 ^ 62) → ⊥) → after ≡ me)
