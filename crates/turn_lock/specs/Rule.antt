-- What holds of a turn between any two steps. Two words count: the first the tickets that were drawn, the seventeenth the turns that were given on, which is the length of the history.
use Rattle.std.specs.Prelude.{◌≡◌, ℕ, ◌+◌, ◌-◌, ◌^◌, ◌<◌, ◌≤◌, ◌⊎◌, true, false, List, [], ◌∷◌, length, slice_index, if◌then◌else◌, Some}
use Rattle.std.specs.Prelude.{Option as Maybe}
use mathlib.Core.Option.{Option, none, some}
use lib.ListN.{get_elem?}
use Rattle.atomic_table.specs.Table.{State}
use Rattle.turn_lock.specs.declared.view.View.{View}
use Rattle.turn_lock.specs.History.{StartsWith}
use Rattle.turn_lock.specs.Numbers.{total, Numbered}

module _ {E : Type 0} where
  abbrev pub waiting : View E → ℕ
  waiting v = if v.waits then 1 else 0

  -- what a pass knows: a front of the history, and its ticket, which is not yet served; where it holds the turn, the whole history and that it is served
  pub record Fits (log : List (ℕ × E)) (next : ℕ) (v : View E) : Type 0 where
    pub seen : StartsWith log v.seen
    pub ticket : v.waits ≡ true → (v.live ≡ true) × (length log ≤ v.ticket) × (v.ticket < next)
    pub holds : v.holds ≡ true → (v.waits ≡ true) × (v.ticket ≡ length log) × (v.seen ≡ log) × (length log < 2 ^ 62)

  -- a pass that has done nothing and is to deal so many
  abbrev pub new_view : ℕ → ℕ → View E
  new_view number ahead = record { number = number; live = true; ahead = ahead; seen = []; mine = []; waits = false; ticket = 0; holds = false; ended = [] }

  -- the first pass, which is to deal the others
  abbrev pub first_view : ℕ → View E
  first_view passes = new_view 0 (passes - 1)

  module _ {S : Type 0} (stands : S → List (ℕ × E) → Type 0) where
    -- the slot is at home with a value that stands for the history, and nobody holds the turn; or it is out, and one pass holds it
    abbrev pub IsPlaced : List (ℕ × E) → List (Option (Maybe S)) → List (View E) → Type 0
    IsPlaced log homes views =
        ((x : S) × (homes ≡ some (Some x) ∷ []) × stands x log × ((by : ℕ) (v : View E) → get_elem? views by ≡ some v → v.holds ≡ false))
        ⊎ ((id : ℕ) × (holder : View E) × (homes ≡ none ∷ []) × (get_elem? views id ≡ some holder) × (holder.holds ≡ true) × ((by : ℕ) (v : View E) → get_elem? views by ≡ some v → v.holds ≡ true → by ≡ id))

    pub record KeptTurns (passes : ℕ) (s : State (Maybe S) (View E)) : Type 0 where
      pub log : List (ℕ × E)
      pub words : length s.words ≡ 17
      pub served : slice_index s.words 16 ≡ length log
      pub few : length log ≤ 2 ^ 62
      pub room : passes ≤ 2 ^ 61
      pub next : slice_index s.words 0 ≡ length log + total waiting s.views
      pub placed : IsPlaced log s.homes s.views
      pub fits : (by : ℕ) (v : View E) → get_elem? s.views by ≡ some v → Fits log (slice_index s.words 0) v
      pub apart : (i j : ℕ) (v w : View E) → get_elem? s.views i ≡ some v → get_elem? s.views j ≡ some w → v.waits ≡ true → w.waits ≡ true → v.ticket ≡ w.ticket → i ≡ j
      pub numbered : Numbered log s.views passes
