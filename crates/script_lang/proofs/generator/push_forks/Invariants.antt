use Rattle.std.proofs.Common.{◌≡◌, ◌++◌, ◌-◌}
use Rattle.spec_script.specs.Generator.{row_of, generated_forks}
use Rattle.script_tree.specs.Pieces.{row_pieces}
use Rattle.script_lang.proofs.generator.push_forks.Given as goal

-- with the forks that are left behind them the pieces are all that there will be
abbrev pub invariant-loop-at : goal.invariant-loop-at
invariant-loop-at l = l.tree ++ row_pieces (row_of (generated_forks (l.forks - l.at) l.at)) ≡ l.initial.tree ++ row_pieces (row_of (generated_forks l.forks 0))
