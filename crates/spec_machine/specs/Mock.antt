-- A run on one mocked domain. All that is outside lies beside the domain, so that nothing in a move is free.
use Rattle.std.specs.Prelude.{ℕ, zero, suc, ◌+◌, Bool, true, false, ◌&&◌, ◌||◌, not, List, [], ◌∷◌, ◌*◌, length, map, Option, Some, None}
use Rattle.eio_value.specs.declared.plain.Member.{Member}
use Rattle.spec_parts.specs.Contexts.{root}
use Rattle.spec_parts.specs.Row.{Stepped}
use Rattle.spec_script.specs.Opening.{opening_texts}
use Rattle.spec_script.specs.Scripts.{Script}
use Rattle.spec_script.specs.Syntax.{Block, Begins, Done}
use Rattle.spec_fiber.specs.Replies.{begun}
use Rattle.trace_lines.specs.declared.line.Line.{Line}
use Rattle.spec_machine.specs.Domain.{OfBody, DomainState, nothing_made, made}
use Rattle.spec_machine.specs.Labels.{Asks, Idle, Own, Calls, Strikes, Mocks, Label, Inner, Called, Struck, Mocked}
use Rattle.spec_machine.specs.Shared.{SharedState, opening_shared, jobs_of_each, stepped, mine_of, after_call, strike_wins, after_strike}
use Rattle.spec_machine.specs.Outside.{World, opening_world, OutsideStep, outside}
use Rattle.spec_machine.specs.Preparing.{Prepared, prepared}
use Rattle.spec_machine.specs.Asking.{asks_by}
use Rattle.spec_machine.specs.Steps.{Step}
use Rattle.spec_machine.specs.Moves.{stepped_by, counted_as, line_by, raises_by}

-- the domain, the shared objects, and the mocked outside
pub record Mock : Type 0 where
  pub local : DomainState
  pub shared : SharedState
  pub world : World

-- ## The opening state

-- a domain whose body is fiber 0, which is ready, in root context 0
abbrev pub opening_domain : (number : ℕ) → (texts : List (List ℕ)) → Block → DomainState
opening_domain number texts body =
    let l : DomainState = made 0 OfBody (begun body []) (nothing_made number texts) in
    record l { contexts = (root []).contexts; ready = 0 ∷ [] }

abbrev pub first_body : List Block → Block
first_body [] = Begins 0 Done
first_body (main ∷ others) = main

abbrev pub most_jobs : Script → ℕ
most_jobs script = jobs_of_each * length script.bodies

abbrev pub opening : Script → Mock
opening script = record {
  local = opening_domain 0 (opening_texts script) (first_body script.bodies);
  shared = opening_shared (most_jobs script) script.declarations;
  world = opening_world script.declarations;
}

-- ## Moves

-- what comes from outside, and the outside after it
pub record Came : Type 0 where
  pub label : Label
  pub shared : SharedState
  pub world : World

abbrev pub comes : Mock → (stamp : ℕ) → Asks → Option Came
comes m stamp Idle = None
comes m stamp Own = Some (record { label = Inner; shared = m.shared; world = m.world })
comes m stamp (Calls asked) =
    let number = m.local.number in
    let step : Stepped = stepped m.shared asked in
    Some (record { label = Called asked step.answer (mine_of number stamp step.sent); shared = after_call m.shared number stamp asked step; world = m.world })
comes m stamp (Strikes who) = (let won = strike_wins m.shared who in Some (record { label = Struck who won; shared = after_strike m.shared who won; world = m.world }))
comes m stamp (Mocks asked) = (let it : OutsideStep = outside m.world asked.texts asked.serial asked.call in Some (record { label = Mocked asked it.answer it.texts; shared = m.shared; world = it.world }))

-- a move: its line, what is there then, and the raises that it made
pub record Moved : Type 0 where
  pub line : Line
  pub next : Mock
  pub raises : List Member

abbrev pub moved_by : Mock → (stamp : ℕ) → (silent : List Member) → Came → Step → Moved
moved_by m stamp silent came step = record {
  line = line_by m.local.number stamp step;
  next = record { local = counted_as stamp step; shared = came.shared; world = came.world };
  raises = raises_by silent came.label step;
}

-- the stamps of a mocked run are 1, 2, 3 and so on
abbrev pub move_by : Script → Mock → Prepared → Option Moved
move_by script m it = (let stamp = m.local.stamp + 1 in elim (comes m stamp (asks_by it)) [
  | None ↦ None
  | Some came ↦ Some (moved_by m stamp it.raises came (stepped_by script it came.label m.local))
])

-- the next move, if there is one
unfoldable pub move : Script → Mock → Option Moved
move script m = elim m.local.halted [ true ↦ None | false ↦ move_by script m (prepared m.local) ]

abbrev pub has_any : {A : Type 0} → List A → Bool
has_any [] = false
has_any (x ∷ xs) = true

-- something is left to be done: no limit was met, and there is an obligation, a fiber in the ready list, or a timer that stands
abbrev pub can_move : DomainState → Bool
can_move l = not l.halted && (has_any l.duties || has_any l.ready || has_any l.timers.standing)

-- at most n moves
unfoldable pub moves : Script → (n : ℕ) → Mock → List Moved
moves script zero m = []
moves script (suc n) m = elim (move script m) [ None ↦ [] | Some moved ↦ moved ∷ moves script n moved.next ]

-- ## Runs

-- the states of a run of at most n moves, the opening one first
unfoldable pub mock : Script → (n : ℕ) → List Mock
mock script n = opening script ∷ map (λ moved. moved.next) (moves script n (opening script))
