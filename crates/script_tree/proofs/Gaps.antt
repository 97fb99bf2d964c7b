-- One step over a gap.
use Rattle.std.proofs.Common.{◌≡◌, ℕ, ◌+◌, ◌<◌, ◌≤◌, List, [], ◌∷◌, length, get_or, drop, Bool, Some, None, refl, arith, drop-cons, add-one, ap, sym, ◌∙◌}
use Rattle.std.proofs.lemmas.Grind.{common_steps}
use Rattle.std.specs.declared.option.Option.{Option}
use Rattle.spec_script.specs.Reading.{Here, here, gap_step, past_gap}
use Rattle.script_tree.specs.Views.{from}

-- where a step over one byte leads to
gap_by : ℕ → ℕ → List ℕ → Option Bool → Here
gap_by at b bytes step = elim step [ Some next ↦ past_gap next (at + 1) bytes | None ↦ here at (b ∷ bytes) ]

at_front : (inside : Bool) (at b : ℕ) (bytes : List ℕ) → past_gap inside at (b ∷ bytes) ≡ gap_by at b bytes (gap_step inside b)
unfolding past_gap gap_by
at_front inside at b bytes = refl

pub split_at : (bytes : List ℕ) (at : ℕ) → at < length bytes → drop at bytes ≡ get_or bytes at 0 ∷ drop (at + 1) bytes
split_at bytes at less = rw (add-one, drop-cons bytes at 0) refl

pub gap_goes : (inside next : Bool) (at : ℕ) (bytes : List ℕ) → at < length bytes → gap_step inside (get_or bytes at 0) ≡ Some next → past_gap inside at (drop at bytes) ≡ past_gap next (at + 1) (drop (at + 1) bytes)
unfolding gap_by
gap_goes inside next at bytes less goes =
    ap (past_gap inside at) (split_at bytes at less) ∙ (at_front inside at _ _ ∙ ap (gap_by at (get_or bytes at 0) (drop (at + 1) bytes)) goes)

pub gap_stops : (inside : Bool) (at : ℕ) (bytes : List ℕ) → at < length bytes → gap_step inside (get_or bytes at 0) ≡ None → past_gap inside at (drop at bytes) ≡ from bytes at
unfolding gap_by
gap_stops inside at bytes less stops =
    ap (past_gap inside at) (split_at bytes at less) ∙ (at_front inside at _ _ ∙ (ap (gap_by at (get_or bytes at 0) (drop (at + 1) bytes)) stops ∙ ap (here at) (sym (split_at bytes at less))))

pub gap_ends : (inside : Bool) (at : ℕ) (bytes : List ℕ) → at ≤ length bytes → length bytes ≤ at → past_gap inside at (drop at bytes) ≡ from bytes at
unfolding past_gap
gap_ends inside at bytes most least =
    let none : drop at bytes ≡ [] = grind (arith, common_steps) in
    ap (past_gap inside at) none ∙ ap (here at) (sym none)
