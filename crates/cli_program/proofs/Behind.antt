-- The place behind some bytes, byte by byte.
use Rattle.std.proofs.Common.{arith, Bool, true, false, ◌≡◌, ℕ, ◌+◌, ◌<◌, ◌≤◌, List, ◌∷◌, length, get_or, drop, refl, ap, sym, ◌∙◌, subst, add-one, drop-cons}
use Rattle.std.proofs.lemmas.List.{drop_all}
use Rattle.std.specs.Prelude.{◌==◌, if◌then◌else◌}
use Rattle.cli_program.specs.declared.line_column.LineColumn.{LineColumn}
use Rattle.cli_program.specs.Places.{behind, behind_all, column_behind, line_behind}

-- one byte more
pub passed : (place next whole : LineColumn) (bytes : List ℕ) (i byte : ℕ) → i < length bytes → byte ≡ get_or bytes i 0 → next ≡ behind place byte → behind_all place (drop i bytes) ≡ whole → behind_all next (drop (i + 1) bytes) ≡ whole
unfolding behind_all
passed place next whole bytes i byte less is gives e =
    let split : drop i bytes ≡ get_or bytes i 0 ∷ drop (i + 1) bytes = rw (add-one, drop-cons bytes i 0) refl in
    ap (λ (p : LineColumn). behind_all p (drop (i + 1) bytes)) (gives ∙ ap (behind place) is) ∙ (sym (ap (behind_all place) split) ∙ e)

-- none is left
pub at_end : (place whole : LineColumn) (bytes : List ℕ) (i : ℕ) → length bytes ≤ i → behind_all place (drop i bytes) ≡ whole → place ≡ whole
unfolding behind_all
at_end place whole bytes i end e = sym (ap (behind_all place) (drop_all i bytes end)) ∙ e

by_line : (place : LineColumn) (byte n : ℕ) (feed : Bool) → place.line ≤ n + 1 → (if feed then line_behind place else column_behind place).line ≤ n + 1 + 1
by_line place byte n true most = omega (arith, most)
by_line place byte n false most = omega (arith, most)

-- each byte brings one line or one column more at most
pub line_of : (place next : LineColumn) (byte n : ℕ) → next ≡ behind place byte → place.line ≤ n + 1 → next.line ≤ n + 1 + 1
line_of place next byte n gives most = subst (λ (p : LineColumn). p.line ≤ n + 1 + 1) (sym gives) (by_line place byte n (byte == 10) most)

by_column : (place : LineColumn) (byte n : ℕ) (feed : Bool) → place.column ≤ n + 1 → (if feed then line_behind place else column_behind place).column ≤ n + 1 + 1
by_column place byte n true most = omega arith
by_column place byte n false most = omega (arith, most)

pub column_of : (place next : LineColumn) (byte n : ℕ) → next ≡ behind place byte → place.column ≤ n + 1 → next.column ≤ n + 1 + 1
column_of place next byte n gives most = subst (λ (p : LineColumn). p.column ≤ n + 1 + 1) (sym gives) (by_column place byte n (byte == 10) most)
