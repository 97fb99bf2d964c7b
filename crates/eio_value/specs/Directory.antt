-- A scripted directory: its entries, in order; an entry is a file, a link or a directory.
use Rattle.std.specs.Prelude.{ℕ, ◌+◌, List}

mutual
  pub data Item : Type 0 where
    File : (name content : List ℕ) → Item
    Link : (name target : List ℕ) → Item
    Sub : (name : List ℕ) → Directory → Item

  pub data Directory : Type 0 where
    Empty : Directory
    And : Item → Directory → Directory

-- how many entries a directory has, at all depths
unfoldable mutual
  pub item_count : Item → ℕ
  item_count (File name content) = 1
  item_count (Link name target) = 1
  item_count (Sub name inner) = entry_count inner + 1

  pub entry_count : Directory → ℕ
  entry_count Empty = 0
  entry_count (And item rest) = item_count item + entry_count rest
