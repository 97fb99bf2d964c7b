-- The reader of trees and the grammar of the notation say the same, and a tree is read back from its canonical spelling.
use Rattle.std.specs.Prelude.{◌≡◌, ℕ, List, Ok}
use Rattle.spec_script.specs.Limits.{most_open_lists}
use Rattle.spec_script.specs.Trees.{Tree}
use Rattle.spec_script.specs.Spelling.{IsDocument}
use Rattle.spec_script.specs.Reading.{reading}
use Rattle.spec_script.specs.Canonical.{document}
use Rattle.law_script.specs.Trees.Places.{bare}
use Rattle.law_script.specs.Trees.Within.{IsWithin}

abbrev pub ReadIsSpelled : Type 0
ReadIsSpelled = (bytes : List ℕ) (tree : Tree) → reading bytes ≡ Ok tree → IsDocument bytes tree

abbrev pub SpelledIsRead : Type 0
SpelledIsRead = (bytes : List ℕ) (tree : Tree) → IsDocument bytes tree → reading bytes ≡ Ok tree

abbrev pub ReadIsWithin : Type 0
ReadIsWithin = (bytes : List ℕ) (tree : Tree) → reading bytes ≡ Ok tree → IsWithin most_open_lists tree

-- bytes are read as a tree, places aside
pub record IsReadAs (bytes : List ℕ) (tree : Tree) : Type 0 where
  pub read : Tree
  pub reads : reading bytes ≡ Ok read
  pub same : bare read ≡ bare tree

abbrev pub CanonicalIsRead : Type 0
CanonicalIsRead = (tree : Tree) → IsWithin most_open_lists tree → IsReadAs (document tree) tree

abbrev pub CanonicalHasNoPlaces : Type 0
CanonicalHasNoPlaces = (one other : Tree) → bare one ≡ bare other → document one ≡ document other
