-- Release handlers in runs: which of them a switch accepted, and which have run, told by the lines of a run and by the states between them.
use Rattle.std.specs.Prelude.{◌≡◌, ℕ, ◌==◌, true, false, List, [], ◌∷◌, length, Some}
use Rattle.std.specs.List.{flat_map}
use Rattle.eio_value.specs.declared.raised.Outcome.TheVariants as outcome
use Rattle.eio_value.specs.declared.value.Value.{Value}
use Rattle.eio_value.specs.declared.value.Value.TheVariants as value
use Rattle.spec_parts.specs.Switches.{Handler, Switch, switch_at}
use Rattle.spec_script.specs.Scripts.{Script}
use Rattle.spec_fiber.specs.Asks as ask
use Rattle.spec_fiber.specs.Asks.{Ask}
use Rattle.spec_fiber.specs.Numbered.{number_of, block_numbered}
use Rattle.spec_fiber.specs.Silent.{items_of}
use Rattle.spec_fiber.specs.Work.{Work, Run, Leave, Restore, Closing}
use Rattle.law_parts.specs.SwitchLaws.{HaveRunOnce}
use Rattle.trace_lines.specs.declared.line.Did.{Did}
use Rattle.trace_lines.specs.declared.line.Did.TheVariants as did
use Rattle.trace_lines.specs.declared.line.Line.{Line}
use Rattle.trace_lines.specs.declared.line.Said2.{Said2}
use Rattle.trace_lines.specs.declared.line.Said2.TheVariants as said
use Rattle.spec_machine.specs.Domain.{GoesOn, Ready, DomainState, fiber_at}
use Rattle.spec_machine.specs.Histories.{domain_at_first, state_at_first, IsLegalHistory}
use Rattle.spec_machine.specs.Mock.{Mock, Moved, opening, move}
use Rattle.spec_machine.specs.Preparing as doing
use Rattle.spec_machine.specs.Preparing.{Doing, Prepared, prepared}
use Rattle.spec_machine.specs.Runs.{Noted, domain_of, key_of, DomainMoves, LocalRun, State, Legal}
use Rattle.spec_machine.specs.Runs.{Moves as MovesAll}
use Rattle.spec_machine.specs.Trace.{run}
use Rattle.law_domain.specs.Scopes.Finished.{Answers, Moves}

-- ## What is seen of a run

-- a line of a domain, and the domain before and after it
pub record Seen : Type 0 where
  pub before : DomainState
  pub line : Line
  pub after : DomainState

-- of a run of a domain
abbrev pub seen_in : (script : Script) → (l : DomainState) → (lines : List Noted) → (k : DomainState) → LocalRun (Moves script) l lines k → List Seen
seen_in script l [] k it = []
seen_in script l (x ∷ lines) k it = record { before = l; line = x.line; after = it.0 } ∷ seen_in script it.0 lines k it.2

-- of one domain in a legal run of several
abbrev pub seen_at : (script : Script) → (domain : ℕ) → (last : ℕ × ℕ) → (s : State (DomainMoves script)) → (lines : List Noted) → (t : State (DomainMoves script)) → Legal (DomainMoves script) last s lines t → List Seen
seen_at script d last s [] t it = []
seen_at script d last s (x ∷ lines) t it = elim (domain_of x == d) [
  | true ↦ record { before = s.locals (domain_of x); line = x.line; after = it.0.locals (domain_of x) } ∷ seen_at script d (key_of x) it.0 lines t it.4
  | false ↦ seen_at script d (key_of x) it.0 lines t it.4
]

-- of a mocked run from a state on
abbrev pub seen_of : Mock → List Moved → List Seen
seen_of m [] = []
seen_of m (moved ∷ others) = record { before = m.local; line = moved.line; after = moved.next.local } ∷ seen_of moved.next others

-- ## What a line tells of a switch

pub data Telling : Type 0 where
  -- `on-release` was answered `()`
  AcceptsHandler : Telling
  -- `close` was answered that a handler runs
  RunsHandler : Telling
  TellsElse : Telling

abbrev pub told_of : (switch : ℕ) → Did → Said2 → Telling
told_of n (did.OnRelease other) (said.Done it) = elim (other == n) [ true ↦ AcceptsHandler | false ↦ TellsElse ]
told_of n (did.Close other) said.Handler = elim (other == n) [ true ↦ RunsHandler | false ↦ TellsElse ]
told_of n it reply = TellsElse

abbrev pub telling : (switch : ℕ) → Seen → Telling
telling n seen = told_of n seen.line.did seen.line.reply

-- ## Accepted handlers

-- the handler of a fiber's `on-release`: its block, and the fiber's variables at the call
abbrev pub handler_of : Ask → (fiber : ℕ) → DomainState → List Handler
handler_of (ask.OnRelease switch block) g l = record { block = number_of block; values = (fiber_at l.fibers g).variables } ∷ []
handler_of call g l = []

abbrev pub handler_asked : Doing → DomainState → List Handler
handler_asked (doing.Calls g call) l = handler_of call g l
handler_asked what l = []

-- the handler that a switch accepts with this line
abbrev pub accepted_by : (switch : ℕ) → Seen → List Handler
accepted_by n seen = elim (telling n seen) [
  | AcceptsHandler ↦ handler_asked (prepared seen.before).doing (prepared seen.before).state
  | RunsHandler ↦ []
  | TellsElse ↦ []
]

abbrev pub accepted : (switch : ℕ) → List Seen → List Handler
accepted n run = flat_map (accepted_by n) run

-- ## Batches

-- where none is left of the batch before, all handlers that were accepted since then are the next batch
abbrev pub next_batch : Switch → List (List Handler)
next_batch switch = elim switch.batch [ [] ↦ switch.fresh ∷ [] | handler ∷ handlers ↦ [] ]

-- the batch that begins with this line
abbrev pub batch_by : (switch : ℕ) → Seen → List (List Handler)
batch_by n seen = elim (telling n seen) [ AcceptsHandler ↦ [] | RunsHandler ↦ next_batch (switch_at seen.before.switches n) | TellsElse ↦ [] ]

abbrev pub batches : (switch : ℕ) → List Seen → List (List Handler)
batches n run = flat_map (batch_by n) run

-- ## Handlers that have run

-- the fiber stands ready before the handler's block, in the handler's context and with the handler's variables. Behind the block it leaves the handler's context, has its own variables back, and closes the switch again
pub record StandsBefore (script : Script) (switch fiber : ℕ) (handler : Handler) (l : DomainState) : Type 0 where
  pub context : ℕ
  pub own : List Value
  pub kept : Value
  pub others : List Work
  pub work : (fiber_at l.fibers fiber).work ≡ Run (items_of (block_numbered script handler.block)) ∷ Leave context false (length handler.values) ∷ Restore own ∷ Closing switch kept ∷ others
  pub variables : (fiber_at l.fibers fiber).variables ≡ handler.values
  pub inside : (fiber_at l.fibers fiber).context ≡ context
  pub ready : (fiber_at l.fibers fiber).standing ≡ Ready (GoesOn (outcome.Ok value.Unit))

-- of these handlers the first runs with this line, if one does, and the others later
abbrev pub RunsFirst : Telling → (stands : Handler → Type 0) → (later : List Handler → Type 0) → List Handler → Type 0
RunsFirst RunsHandler stands later handlers = (first : Handler) × (others : List Handler) × (handlers ≡ first ∷ others) × stands first × later others
RunsFirst AcceptsHandler stands later handlers = later handlers
RunsFirst TellsElse stands later handlers = later handlers

-- with each line by which a handler of the switch runs, the fiber stands before the next one of these
abbrev pub HaveRun : (script : Script) → (switch : ℕ) → List Seen → List Handler → Type 0
HaveRun script n [] handlers = handlers ≡ []
HaveRun script n (seen ∷ run) handlers =
    RunsFirst (telling n seen) (λ handler. StandsBefore script n seen.line.fiber handler seen.after) (λ others. HaveRun script n run others) handlers

-- each handler that the switch accepted has run once, batch by batch, in each the last one first
pub record Released (script : Script) (switch : ℕ) (run : List Seen) : Type 0 where
  pub handlers : List Handler
  pub ran : HaveRun script switch run handlers
  pub once : HaveRunOnce (accepted switch run) (batches switch run) handlers

-- ## The laws

-- so it is when `close` of the switch answers a value or an exception, in every run of a domain in which messages resume only fibers that wait for one
abbrev pub ReleasesOnce : Type 0
ReleasesOnce =
    (script : Script) (d n : ℕ) (before : List Noted) (x : Noted) (l k : DomainState) (it : LocalRun (Moves script) (domain_at_first script d) before l)
    → Moves script l x k
    → Answers n x.line
    → Released script n (seen_in script (domain_at_first script d) before l it)

-- and in the run of every script on one mocked domain
abbrev pub ReleasesOnceInRuns : Type 0
ReleasesOnceInRuns =
    (script : Script) (n switch : ℕ) (moved : Moved)
    → move script (run script n).last ≡ Some moved
    → Answers switch moved.line
    → Released script switch (seen_of (opening script) (run script n).moves)

-- and in every legal history of a script, also with no condition
abbrev pub ReleasesOnceInHistories : Type 0
ReleasesOnceInHistories =
    (script : Script) (before : List Noted) (x : Noted) (n : ℕ) (s t : State (DomainMoves script)) (it : IsLegalHistory script before s)
    → MovesAll (DomainMoves script) s x t
    → Answers n x.line
    → Released script n (seen_at script (domain_of x) (0, 0) (state_at_first script) before s it)
