-- The limits of the notation, of a whole tree.
use Rattle.std.specs.Prelude.{ℕ, zero, suc, IsTrue}
use Rattle.spec_script.specs.Limits.{is_within}
use Rattle.spec_script.specs.Trees.{Tree, Word, Number, Text, Branch, Trees, Nil, And}
use Rattle.spec_script.specs.Spelling.{is_word, is_text}

-- each word, number and text can be spelled, and no more than so many lists are open in one another
unfoldable mutual
  pub IsWithin : (lists : ℕ) → Tree → Type 0
  IsWithin lists (Word at word) = IsTrue (is_word word)
  IsWithin lists (Number at z) = IsTrue (is_within z)
  IsWithin lists (Text at text) = IsTrue (is_text text)
  IsWithin zero (Branch at row) = ⊥
  IsWithin (suc lists) (Branch at row) = AreWithin lists row

  -- the same of each tree of a list
  pub AreWithin : (lists : ℕ) → Trees → Type 0
  AreWithin lists Nil = Unit {0}
  AreWithin lists (And tree rest) = IsWithin lists tree × AreWithin lists rest
