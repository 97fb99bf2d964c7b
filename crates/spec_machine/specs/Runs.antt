-- Runs of several domains: which lines lead from a state to another.
-- A domain moves by its own two functions; what comes to it from outside is what the shared part gives. So three things are free in a move: which domain makes it,
-- whether it takes a message or moves its ready head, and which message it takes.
use Rattle.std.specs.Prelude.{◌≡◌, ℕ, ◌<◌, ◌⊎◌, ◌^◌, ◌==◌, true, false, List, [], ◌∷◌, length, slice_get, Option, Some, None}
use Rattle.eio_value.specs.declared.message.Message.{Message}
use Rattle.eio_value.specs.declared.message.Message.TheVariants as message
use Rattle.eio_value.specs.Sending.{Sent}
use Rattle.spec_parts.specs.Row.{Stepped}
use Rattle.spec_script.specs.Scripts.{Script}
use Rattle.trace_lines.specs.declared.line.Line.{Line}
use Rattle.spec_machine.specs.Domain.{DomainState}
use Rattle.spec_machine.specs.Labels.{Own, Calls, Strikes, Mocks, Label, Inner, Called, Struck, Mocked, Took}
use Rattle.spec_machine.specs.Moves.{asks, after, line_of}
use Rattle.spec_machine.specs.Shared.{SharedState, stamp_at, stepped, message_of, receiver_of, mine_of, after_call, strike_wins, after_strike, after_take}

-- ## Lines with what stands beside them

-- a message with the domain that it goes to
pub record Letter : Type 0 where
  pub receiver : ℕ
  pub message : Message

-- a line, what came from outside for its move, the message that the move has sent to another domain, and, of a message that it took, the domain that had sent it
pub record Noted : Type 0 where
  pub line : Line
  pub label : Label
  pub away : Option Letter
  pub from : ℕ

abbrev pub domain_of : Noted → ℕ
domain_of x = x.line.domain

abbrev pub stamp_of : Noted → ℕ
stamp_of x = x.line.stamp

-- what a call sends to another domain than the caller's
abbrev pub away_of : (domain stamp : ℕ) → Option Sent → Option Letter
away_of domain stamp None = None
away_of domain stamp (Some sent) = elim (receiver_of sent == domain) [
  | true ↦ None
  | false ↦ Some (record { receiver = receiver_of sent; message = message_of stamp sent })
]

abbrev pub message_stamp : Message → ℕ
message_stamp (message.Resume who result stamp) = stamp
message_stamp (message.Start job number stamp) = stamp

-- ## One domain

-- what came is what the domain asked for; a message comes where it owes nothing
abbrev pub Fits : DomainState → Label → Type 0
Fits l Inner = asks l ≡ Own
Fits l (Called asked answer mine) = asks l ≡ Calls asked
Fits l (Struck who won) = asks l ≡ Strikes who
Fits l (Mocked asked answer texts) = asks l ≡ Mocks asked
Fits l (Took it) = l.duties ≡ []

-- a domain that isn't halted makes this line and is that one then
pub record DomainMoves (script : Script) (l : DomainState) (x : Noted) (k : DomainState) : Type 0 where
  pub runs : l.halted ≡ false
  pub fits : Fits l x.label
  pub later : l.stamp < x.line.stamp
  pub told : x.line ≡ line_of script l x.line.stamp x.label
  pub next : k ≡ after script l x.line.stamp x.label

-- ## What domains share

-- what came from the shared part, and that part then. The mocked outside isn't shared
abbrev pub SharedMoves : SharedState → (domain stamp : ℕ) → Label → (away : Option Letter) → (from : ℕ) → SharedState → Type 0
SharedMoves s d stamp Inner away from t = (away ≡ None) × (t ≡ s)
SharedMoves s d stamp (Called asked answer mine) away from t = (
    let step : Stepped = stepped s asked in
    (answer ≡ step.answer) × (mine ≡ mine_of d stamp step.sent) × (away ≡ away_of d stamp step.sent) × (stamp_at s.stamps asked.object < stamp) × (asked.object < length s.rows)
    × (t ≡ after_call s d stamp asked step))
SharedMoves s d stamp (Struck who won) away from t = (away ≡ None) × (won ≡ strike_wins s who) × (t ≡ after_strike s who won)
SharedMoves s d stamp (Mocked asked answer texts) away from t = ⊥
SharedMoves s d stamp (Took it) away from t = (place : ℕ) × (slice_get (s.posts d from) place ≡ Some it) × (message_stamp it < stamp) × (away ≡ None) × (t ≡ after_take s d from place)

-- ## Several domains

-- one thing more at this number
abbrev pub put : {A : Type 0} → ℕ → A → (ℕ → A) → ℕ → A
put n it others m = elim (n == m) [ true ↦ it | false ↦ others m ]

-- lines stand in order of their stamps, and where these are the same in order of their domains
abbrev pub Before : (last : ℕ × ℕ) → Noted → Type 0
Before last x = (last.0 < stamp_of x) ⊎ ((last.0 ≡ stamp_of x) × (last.1 < domain_of x))

abbrev pub key_of : Noted → ℕ × ℕ
key_of x = (stamp_of x, domain_of x)

-- no stamp comes to this
abbrev pub stamps_below : ℕ
stamps_below = 2 ^ 60

-- how domains move: any relation between what one is, its line, and what it is then
module _ {L : Type 0} (Steps : L → Noted → L → Type 0) where
  -- the lines of one domain lead from here to there
  abbrev pub LocalRun : L → List Noted → L → Type 0
  LocalRun l [] k = l ≡ k
  LocalRun l (x ∷ xs) k = (m : L) × Steps l x m × LocalRun m xs k

  -- each domain, and what all share
  pub record State : Type 0 where
    pub locals : ℕ → L
    pub shared : SharedState

  pub record Moves (s : State) (x : Noted) (t : State) : Type 0 where
    pub next : L
    pub steps : Steps (s.locals (domain_of x)) x next
    pub locals : t.locals ≡ put (domain_of x) next s.locals
    pub shared : SharedMoves s.shared (domain_of x) (stamp_of x) x.label x.away x.from t.shared

  -- the lines stand in order behind the last one, and lead from here to there
  abbrev pub Legal : (last : ℕ × ℕ) → State → List Noted → State → Type 0
  Legal last s [] t = s ≡ t
  Legal last s (x ∷ xs) t = (u : State) × Before last x × (stamp_of x < stamps_below) × Moves s x u × Legal (key_of x) u xs t
