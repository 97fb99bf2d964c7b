use Rattle.law_parts.proofs.Waits.{calls_keep_cells, strikes_keep_cells}
use Rattle.law_parts.proofs.cells_stand_once.Goals as goal

pub returns-clause-calls : goal.returns-clause-calls
returns-clause-calls c = calls_keep_cells

pub returns-clause-strikes : goal.returns-clause-strikes
returns-clause-strikes c = strikes_keep_cells
