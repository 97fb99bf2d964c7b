-- Places of the same list, one behind the other.
use Rattle.std.proofs.Common.{List, refl, arith, ap, ◌∙◌}
use Rattle.script_tree.specs.Pieces.{Piece, first, others}
use Rattle.script_draft.specs.Ahead.{IsPast, IsBehind, IsWithin}

pub within_here : (here : List Piece) → IsWithin here here
within_here here = record { around = refl; fewer = omega arith }

pub within_past : (old mid new : List Piece) → IsWithin old mid → IsPast mid new → IsWithin old new
within_past old mid new within past = record { around = past.around ∙ within.around; fewer = omega (arith, within.fewer, past.fewer) }

pub past_within : (old new : List Piece) → IsPast old new → IsWithin old new
past_within old new past = within_past old old new (within_here old) past

pub within_behind : (old mid new : List Piece) → IsWithin old mid → IsBehind mid new → IsBehind old new
within_behind old mid new within behind = record {
  trees = behind.trees ∙ ap first within.around;
  around = behind.around ∙ ap others within.around;
  fewer = omega (arith, within.fewer, behind.fewer);
}

pub past_behind : (old mid new : List Piece) → IsPast old mid → IsBehind mid new → IsBehind old new
past_behind old mid new past behind = within_behind old mid new (past_within old mid past) behind
