mod OutsideRows
mod RaisesOfMoves
