-- What a turn over the objects of a mocked domain is to the machine that is written down.
use Rattle.std.specs.Prelude.{◌≡◌, ℕ, ◌+◌, List, Some, None}
use Rattle.spec_script.specs.Scripts.{Script}
use Rattle.trace_lines.specs.declared.line.Line.{Line}
use Rattle.spec_machine.specs.Mock.{Mock, Moved as Made, move}
use Rattle.domain_core.specs.declared.turn.Turn.{Turn}
use Rattle.domain_core.specs.declared.turn.Turn.TheVariants.{Moved, Idle, Spent, Halted}
use Rattle.domain_core.specs.Keeping.{KeptDomain}
use Rattle.domain_core.specs.Turns.{StandsFor, Turns}
use Rattle.mock_backend.specs.declared.local.Local.{Local}
use Rattle.mock_backend.specs.Objects.{Calls, Strikes, Asks, Receives, Learns}

-- the domain's line is that of the machine's next move, and what is kept stands for the domain behind it
pub record IsMoved (script : Script) (m : Mock) (line : Line) (texts : List (List ℕ)) (kept : KeptDomain) : Type 0 where
  pub moved : Made
  pub is : move script m ≡ Some moved
  pub told : moved.line ≡ line
  pub stands : StandsFor script texts kept moved.next.local
  pub stamp : moved.next.local.stamp ≡ m.local.stamp + 1

-- a turn that made a line is the machine's next move; where it found nothing to do, or was halted, the machine has no move either; and it is spent
-- where the domain has made as many lines as it may
abbrev pub IsMove : Script → Mock → Turn → (texts : List (List ℕ)) → KeptDomain → Type 0
IsMove script m (Moved line) texts kept = IsMoved script m line texts kept
IsMove script m Idle texts kept = move script m ≡ None
IsMove script m Spent texts kept = kept.lines ≡ kept.budget
IsMove script m Halted texts kept = move script m ≡ None

-- whatever machine is stood for
abbrev pub TurnsAreMoves : Type 0
TurnsAreMoves =
    (script : Script) (turn : Turn) (old_texts new_texts : List (List ℕ)) (old new : KeptDomain) (before behind : Local)
    → Turns Calls Strikes Receives Asks Learns script turn old_texts new_texts old new before behind
    → (m : Mock) → StandsFor script old_texts old m.local → IsMove script m turn new_texts new
