-- Which directories lie at or below one.
use Rattle.std.specs.Prelude.{◌≡◌, ℕ, ◌<◌, List, [], ◌∷◌, length, Some}
use Rattle.spec_parts.specs.Directories.{Tree, Inner, directory_at, held_by}
use Rattle.spec_parts.specs.Walk.{Step}

-- a directory stands right in another, under this name
abbrev pub StandsIn : Tree → (above : ℕ) → (name : List ℕ) → (directory : ℕ) → Type 0
StandsIn tree above name directory = held_by (directory_at tree above).entries name ≡ Some (Inner directory)

-- a directory lies at or below the one at the top: it is that one, or it stands right in one that lies so
pub data IsBelow (tree : Tree) (top : ℕ) : ℕ → Type 0 where
  Itself : IsBelow tree top top
  Under : (above : ℕ) (name : List ℕ) (directory : ℕ) → IsBelow tree top above → StandsIn tree above name directory → IsBelow tree top directory

-- these steps, the last one first, lead down from the top to a directory: each was made in a directory that has the next one
-- under its name
abbrev pub IsWay : Tree → (top : ℕ) → (here : ℕ) → List Step → Type 0
IsWay tree top here [] = here ≡ top
IsWay tree top here (step ∷ steps) = StandsIn tree step.above step.name here × IsWay tree top step.above steps

-- each directory that the old tree had, and that lies there neither at nor below the top, is the same in the new one
pub record KeepsOutside (old : Tree) (top : ℕ) (new : Tree) : Type 0 where
  pub same : (directory : ℕ) → directory < length old → (IsBelow old top directory → ⊥) → directory_at new directory ≡ directory_at old directory
