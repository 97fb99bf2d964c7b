-- Pieces that grow by what is read.
use Rattle.std.specs.Prelude.{ℕ, List, [], ◌∷◌, ◌++◌, Result, Ok, Err}
use Rattle.spec_script.specs.Faults.{TreeFault}
use Rattle.spec_script.specs.Reading.{Here, Found, Row}
use Rattle.script_tree.specs.Pieces.{Piece, Closes, pieces, row_pieces}
use Rattle.script_tree.specs.Views.{from}

-- the pieces so far, and the place behind what they stand for
pub record Grown : Type 0 where
  pub so_far : List Piece
  pub next : Here

abbrev pub grown : List ℕ → List Piece → ℕ → Grown
grown bytes so_far next = record { so_far = so_far; next = from bytes next }

-- pieces with those of a tree that was read behind them
abbrev pub grows : List Piece → Result Found TreeFault → Result Grown TreeFault
grows front (Ok x) = Ok (record { so_far = front ++ pieces x.tree; next = x.next })
grows front (Err e) = Err e

-- and with those of the rest of a list, with its end
abbrev pub grows_row : List Piece → Result Row TreeFault → Result Grown TreeFault
grows_row front (Ok x) = Ok (record { so_far = front ++ (row_pieces x.row ++ Closes ∷ []); next = x.next })
grows_row front (Err e) = Err e
