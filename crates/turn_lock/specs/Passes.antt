-- What callers see of a turn and of its passes.
use Rattle.std.specs.Prelude.{◌≡◌, ℕ, ◌+◌, Bool, true, false, List, [], ◌∷◌, ◌++◌, if◌then◌else◌, None, Some}
use Rattle.std.specs.Prelude.{Option as Maybe}
use Rattle.atomic_table.specs.Seated.{TableId}
use Rattle.atomic_table.specs.Table.{Me}
use Rattle.turn_lock.specs.declared.view.View.{View}

-- which turn it is, and how many passes were made for it
pub record TurnView : Type 0 where
  pub id : TableId
  pub passes : ℕ

-- A pass: of which turn it is, and which of its passes; what it has seen of the history, each entry beside the number of the pass that made it, the entries that it made itself, and whether it holds the turn
pub record PassView (E : Type 0) : Type 0 where
  pub turn : TableId
  pub number : ℕ
  pub seen : List (ℕ × E)
  pub mine : List E
  pub holds : Bool

-- which slots are out with a pass: the one, empty, while it holds the turn
abbrev pub slots_out : {S : Type 0} → Bool → List (ℕ × Maybe S)
slots_out holds = if holds then (0, None) ∷ [] else []

module _ {E : Type 0} where
  -- a pass as it was made
  abbrev pub fresh_pass : TableId → ℕ → PassView E
  fresh_pass turn number = record { turn = turn; number = number; seen = []; mine = []; holds = false }

  -- passes as they were made, numbered from here on
  abbrev pub AreFresh : TableId → ℕ → List (PassView E) → Type 0
  AreFresh turn number [] = Unit {0}
  AreFresh turn number (p ∷ ps) = (p ≡ fresh_pass turn number) × AreFresh turn (number + 1) ps

  -- the value stands for what was seen with the named entry behind it, made by the pass with this number
  abbrev pub Adds : {S : Type 0} → (S → List (ℕ × E) → Type 0) → ℕ → List (ℕ × E) → S → Maybe E → Type 0
  Adds stands number seen x None = ⊥
  Adds stands number seen x (Some e) = stands x (seen ++ (number, e) ∷ [])

  -- the pass when it has given the turn on with the named entry
  abbrev pub left_with : PassView E → Maybe E → PassView E
  left_with p None = p
  left_with p (Some e) = record p { seen = p.seen ++ (p.number, e) ∷ []; mine = p.mine ++ e ∷ []; holds = false }

  -- What holds of a pass between two calls: it is at work, has none to deal and has taken none in, and it waits only while it holds the turn, with the slot then out with it
  pub record IsAtRest {S : Type 0} (me : Me (Maybe S) (View E)) : Type 0 where
    pub live : me.0.live ≡ true
    pub ahead : me.0.ahead ≡ 0
    pub ended : me.0.ended ≡ []
    pub waits : me.0.waits ≡ me.0.holds
    pub slots : me.1 ≡ slots_out me.0.holds
