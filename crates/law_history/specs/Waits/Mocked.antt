-- A run on one mocked domain as a run of several domains, of which that one alone moves. Where it asks nothing of the mocked outside, each of its moves is a
-- move of the domain by what the shared part gives, and all its moves are a legal history.
use Rattle.std.specs.Prelude.{◌≡◌, ℕ, ◌+◌, ◌<◌, ◌≤◌, List, [], ◌∷◌, length, map, Some}
use Rattle.spec_script.specs.Scripts.{Script}
use Rattle.spec_machine.specs.Histories.{domain_at_first, IsLegalHistory, domains_in, ending_of}
use Rattle.spec_machine.specs.Labels.{Asks, Idle, Own, Calls, Strikes, Mocks}
use Rattle.spec_machine.specs.Mock.{Mock, Moved, opening, move}
use Rattle.spec_machine.specs.Moves.{asks, raises_of}
use Rattle.spec_machine.specs.Runs.{Noted, domain_of, stamp_of, stamps_below, DomainMoves, SharedMoves, State}
use Rattle.spec_machine.specs.Shared.{stamp_at}
use Rattle.spec_machine.specs.Trace.{Run, run, ending_in}

-- ## One move

-- what is asked for is the domain's own or shared: nothing of the mocked outside, and a call only on one of the objects, of which there are so many
abbrev pub IsShared : (objects : ℕ) → Asks → Type 0
IsShared objects Idle = Unit {0}
IsShared objects Own = Unit {0}
IsShared objects (Calls asked) = asked.object < objects
IsShared objects (Strikes who) = Unit {0}
IsShared objects (Mocks asked) = ⊥

-- no object's last line is later than the domain's last one
abbrev pub NoneIsLater : Mock → Type 0
NoneIsLater m = (object : ℕ) → stamp_at m.shared.stamps object ≤ m.local.stamp

-- a move is one of the domain and of the shared part, by a line with what stands beside it, with the raises of that line; the mocked outside stays as it was
pub record IsMove (script : Script) (m : Mock) (moved : Moved) : Type 0 where
  pub noted : Noted
  pub line : noted.line ≡ moved.line
  pub raises : moved.raises ≡ raises_of script m.local noted.label
  pub stamp : stamp_of noted ≡ m.local.stamp + 1
  pub local : DomainMoves script m.local noted moved.next.local
  pub shared : SharedMoves m.shared (domain_of noted) (stamp_of noted) noted.label noted.away noted.from moved.next.shared
  pub world : moved.next.world ≡ m.world

abbrev pub MockMovesAreMoves : Type 0
MockMovesAreMoves =
    (script : Script) (m : Mock) (moved : Moved)
    → move script m ≡ Some moved
    → IsShared (length m.shared.rows) (asks m.local)
    → NoneIsLater m
    → IsMove script m moved

-- ## Runs

-- what is asked for before each of these moves is the domain's own or shared
abbrev pub AllShared : (objects : ℕ) → Mock → List Moved → Type 0
AllShared objects m [] = Unit {0}
AllShared objects m (moved ∷ others) = IsShared objects (asks m.local) × AllShared objects moved.next others

-- in a run of at most n moves no move asks anything of the mocked outside, and calls are on declared objects
abbrev pub AsksOnlyShared : Script → (n : ℕ) → Type 0
AsksOnlyShared script n = AllShared (length script.declarations) (opening script) (run script n).moves

-- the moves are the lines of a legal history, which leaves the domain and all that is shared as the run does, and all other domains as they opened. It ends as the
-- run does, if no timer stands there: a run may still jump to a timer's time, for which no history waits
pub record IsHistory (script : Script) (it : Run) : Type 0 where
  pub lines : List Noted
  pub final : State (DomainMoves script)
  pub legal : IsLegalHistory script lines final
  pub same : map (λ x. x.line) lines ≡ map (λ moved. moved.line) it.moves
  pub local : final.locals 0 ≡ it.last.local
  pub shared : final.shared ≡ it.last.shared
  pub others : (d : ℕ) → 0 < d → final.locals d ≡ domain_at_first script d
  pub ending : it.last.local.timers.standing ≡ [] → ending_of script (domains_in script final) ≡ ending_in script it.last

abbrev pub MockRunsAreLegal : Type 0
MockRunsAreLegal = (script : Script) (n : ℕ) → n < stamps_below → length script.bodies ≡ 1 → AsksOnlyShared script n → IsHistory script (run script n)
