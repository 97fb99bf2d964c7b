-- The canonical spelling spells the tree with the places that it has there (`canonical_is_read`); it hangs on no place
-- (`canonical_has_no_places`). What is spelled is within the limits (`read_is_within`).
use Rattle.std.proofs.Common.{◌≡◌, ℕ, zero, suc, ◌+◌, inl, Bool, false, List, [], ◌∷◌, ◌++◌, length, Ok, refl, sym, ap, ◌∙◌}
use Rattle.std.proofs.lemmas.Bool.{false≢true}
use Rattle.spec_script.specs.Bytes.{line_feed, space, close_paren, open_paren}
use Rattle.spec_script.specs.Limits.{most_open_lists}
use Rattle.spec_script.specs.Trees.{Tree, Word, Number, Text, Branch, Trees, Nil, And, is_run}
use Rattle.spec_script.specs.Spelling.{Spells, SpellsRow}
use Rattle.spec_script.specs.Reading.{reading}
use Rattle.spec_script.specs.Canonical.{canonical, canonical_row, canonical_rest, document}
use Rattle.law_script.specs.Trees.Places.{bare, bare_row}
use Rattle.law_script.specs.Trees.Within.{IsWithin, AreWithin}
use Rattle.law_script.specs.Trees.Readings.{IsReadAs}
use Rattle.law_script.proofs.Trees.Read.{read_is_spelled}
use Rattle.law_script.proofs.Trees.Back.{spelled_is_read}

-- the tree with the places of its canonical spelling, which begins at `at`
abbrev mutual
  placed : (at : ℕ) → Tree → Tree
  placed at (Word place word) = Word at word
  placed at (Number place z) = Number at z
  placed at (Text place text) = Text at text
  placed at (Branch place row) = Branch at (placed_row (at + 1) row)

  placed_row : (at : ℕ) → Trees → Trees
  placed_row at Nil = Nil
  placed_row at (And tree rest) = And (placed (at + 0) tree) (placed_rest (at + 0 + length (canonical tree)) rest)

  placed_rest : (at : ℕ) → Trees → Trees
  placed_rest at Nil = Nil
  placed_rest at (And tree rest) = And (placed (at + 1) tree) (placed_rest (at + 1 + length (canonical tree)) rest)

mutual
  unfolding canonical canonical_row canonical_rest IsWithin AreWithin

  placed_spells : (lists at : ℕ) (tree : Tree) → IsWithin lists tree → Spells lists at (canonical tree) (placed at tree)
  placed_spells lists at (Word place word) h = (refl, refl, h)
  placed_spells lists at (Number place z) h = (refl, refl, h)
  placed_spells lists at (Text place text) h = (refl, refl, h)
  placed_spells zero at (Branch place row) h = absurd h
  placed_spells (suc lists) at (Branch place row) h = (refl, canonical_row row, refl, row_spells lists (at + 1) row h)

  row_spells : (lists at : ℕ) (row : Trees) → AreWithin lists row → SpellsRow lists at (canonical_row row) (placed_row at row) false
  row_spells lists at Nil h = tt
  row_spells lists at (And tree rest) h = (
    [],
    canonical tree,
    canonical_rest rest,
    refl,
    tt,
    λ both none. false≢true both,
    placed_spells lists (at + 0) tree h.0,
    rest_spells lists (at + 0 + length (canonical tree)) rest (is_run (placed (at + 0) tree)) h.1,
  )

  rest_spells : (lists at : ℕ) (rest : Trees) (behind_run : Bool) → AreWithin lists rest → SpellsRow lists at (canonical_rest rest) (placed_rest at rest) behind_run
  rest_spells lists at Nil behind_run h = tt
  rest_spells lists at (And tree rest) behind_run h = (
    space ∷ [],
    canonical tree,
    canonical_rest rest,
    refl,
    inl (refl, tt),
    λ both none. cc,
    placed_spells lists (at + 1) tree h.0,
    rest_spells lists (at + 1 + length (canonical tree)) rest (is_run (placed (at + 1) tree)) h.1,
  )

both_same : {one other : Tree} {row others : Trees} → one ≡ other → row ≡ others → And one row ≡ And other others
both_same e h = cc

mutual
  unfolding bare bare_row

  placed_same : (at : ℕ) (tree : Tree) → bare (placed at tree) ≡ bare tree
  placed_same at (Word place word) = refl
  placed_same at (Number place z) = refl
  placed_same at (Text place text) = refl
  placed_same at (Branch place row) = ap (λ (r : Trees). Branch 0 r) (row_same (at + 1) row)

  row_same : (at : ℕ) (row : Trees) → bare_row (placed_row at row) ≡ bare_row row
  row_same at Nil = refl
  row_same at (And tree rest) = both_same (placed_same (at + 0) tree) (rest_same (at + 0 + length (canonical tree)) rest)

  rest_same : (at : ℕ) (rest : Trees) → bare_row (placed_rest at rest) ≡ bare_row rest
  rest_same at Nil = refl
  rest_same at (And tree rest) = both_same (placed_same (at + 1) tree) (rest_same (at + 1 + length (canonical tree)) rest)

pub canonical_is_read : (tree : Tree) → IsWithin most_open_lists tree → IsReadAs (document tree) tree
unfolding document
canonical_is_read tree h = record {
  read = placed 0 tree;
  reads = spelled_is_read (canonical tree ++ line_feed ∷ []) (placed 0 tree) ([], canonical tree, line_feed ∷ [], refl, tt, placed_spells most_open_lists 0 tree h, inl (refl, tt));
  same = placed_same 0 tree;
}

-- ## Limits

mutual
  unfolding IsWithin AreWithin

  spelled_within : (lists at : ℕ) (own : List ℕ) (tree : Tree) → Spells lists at own tree → IsWithin lists tree
  spelled_within lists at own (Word place word) h = h.2
  spelled_within lists at own (Number place z) h = h.2
  spelled_within lists at own (Text place text) h = h.2
  spelled_within zero at own (Branch place row) h = absurd h
  spelled_within (suc lists) at own (Branch place row) h = row_within lists (at + 1) h.1 row false h.3

  row_within : (lists at : ℕ) (bytes : List ℕ) (row : Trees) (behind_run : Bool) → SpellsRow lists at bytes row behind_run → AreWithin lists row
  row_within lists at bytes Nil behind_run h = tt
  row_within lists at bytes (And tree rest) behind_run h =
      (spelled_within lists (at + length h.0) h.1 tree h.6, row_within lists (at + length h.0 + length h.1) h.2 rest (is_run tree) h.7)

pub read_is_within : (bytes : List ℕ) (tree : Tree) → reading bytes ≡ Ok tree → IsWithin most_open_lists tree
read_is_within bytes tree e = let h = read_is_spelled bytes tree e in spelled_within most_open_lists (length h.0) h.1 tree h.5

-- ## Places

joined : {one other front back : List ℕ} → one ≡ other → front ≡ back → one ++ front ≡ other ++ back
joined e h = cc

mutual
  unfolding canonical canonical_row canonical_rest bare bare_row

  bare_spelling : (tree : Tree) → canonical (bare tree) ≡ canonical tree
  bare_spelling (Word at word) = refl
  bare_spelling (Number at z) = refl
  bare_spelling (Text at text) = refl
  bare_spelling (Branch at row) = ap (λ (bs : List ℕ). open_paren ∷ (bs ++ close_paren ∷ [])) (bare_row_spelling row)

  bare_row_spelling : (row : Trees) → canonical_row (bare_row row) ≡ canonical_row row
  bare_row_spelling Nil = refl
  bare_row_spelling (And tree rest) = joined (bare_spelling tree) (bare_rest_spelling rest)

  bare_rest_spelling : (rest : Trees) → canonical_rest (bare_row rest) ≡ canonical_rest rest
  bare_rest_spelling Nil = refl
  bare_rest_spelling (And tree rest) = ap (λ (bs : List ℕ). space ∷ bs) (joined (bare_spelling tree) (bare_rest_spelling rest))

pub canonical_has_no_places : (one other : Tree) → bare one ≡ bare other → document one ≡ document other
unfolding document
canonical_has_no_places one other e = ap (λ (bs : List ℕ). bs ++ line_feed ∷ []) (sym (bare_spelling one) ∙ (ap canonical e ∙ bare_spelling other))
