-- The words in which rows say how each call of a fiber is answered, and what they look at.
use Rattle.std.specs.Prelude.{ℕ, true, List, [], ◌∷◌, map, Some, None}
use Rattle.eio_value.specs.declared.value.Value.{Value}
use Rattle.eio_value.specs.declared.value.Value.TheVariants as value
use Rattle.eio_value.specs.declared.plain.Member.{Member}
use Rattle.eio_value.specs.declared.plain.Misuse.TheVariants.{SwitchFinished}
use Rattle.eio_value.specs.declared.plain.Plain.{Plain}
use Rattle.eio_value.specs.declared.plain.Plain.TheVariants.{Invalid}
use Rattle.eio_value.specs.declared.raised.Raised.{Raised}
use Rattle.eio_value.specs.declared.raised.Raised.TheVariants.{One, Cancelled}
use Rattle.eio_value.specs.declared.raised.Outcome.TheVariants as outcome
use Rattle.spec_script.specs.Syntax.{Block, Begins, Statements, Done}
use Rattle.spec_fiber.specs.Asks.{Ask, again, passing}
use Rattle.spec_fiber.specs.Asks as ask
use Rattle.spec_fiber.specs.Work.{Work, Carry, restored, new_raise}
use Rattle.spec_fiber.specs.Settling.{Settled, answered, thrown}
use Rattle.spec_fiber.specs.Replies.{Position, passed, entered, handled}

pub data Reply : Type 0 where
  -- this value
  Gives : Value → Reply
  -- a new raise of this exception; a raise that was made before; a new Cancelled for this reason
  Throws : Plain → Reply
  ThrowsAgain : Raised → Reply
  Cancels : Plain → Reply
  -- the number of the new context, switch and so on, into whose block the fiber goes
  Enters : ℕ → Reply
  -- `()` at an end: what came there goes on
  Passes : Reply
  -- waits, and the call is made again
  Waits : Reply
  -- a handler with its variables, in a context of this number
  Handles : (context : ℕ) → Statements → List Value → Reply

-- the next call of a fiber that stands here
abbrev pub settled : Position → Carry → Settled
settled position c = answered position.work value.Unit (restored position.variables c)

-- goes on with a new raise of this exception, or of a cancellation for this reason
abbrev pub raised : Plain → List Work → Carry → Settled
raised what work c = new_raise what c (λ x d. thrown work (One x) d)

abbrev pub cancelled : (reason : Plain) → List Work → Carry → Settled
cancelled reason work c = new_raise reason c (λ x d. thrown work (Cancelled x) d)

-- goes on behind an end that was answered `()`. The value of a handler of a switch that had finished is refused
abbrev pub ended : Ask → List Work → Carry → Settled
ended (ask.Leave context true (outcome.Ok it)) work c = raised (Invalid SwitchFinished) work c
ended call work c = elim (passing call) [ Some it ↦ passed it work c | None ↦ answered work value.Unit c ]

abbrev pub replied : Reply → Settled → Settled
replied (Gives it) s = answered s.behind it s.carry
replied (Throws what) s = raised what s.behind s.carry
replied (ThrowsAgain r) s = thrown s.behind r s.carry
replied (Cancels reason) s = cancelled reason s.behind s.carry
replied (Enters number) s = settled (entered s.call number s.behind s.carry.variables) s.carry
replied Passes s = ended s.call s.behind s.carry
replied Waits s = record s { call = again s.call }
replied (Handles context items variables) s = settled (handled s.call context (Begins 0 items) variables s.behind s.carry.variables) s.carry

-- ## What rows look at

-- a block by its number alone
abbrev pub numbered : Block → Block
numbered (Begins number items) = Begins number Done

-- a call with its blocks by their numbers alone
abbrev pub shown : Ask → Ask
shown (ask.Sub b) = ask.Sub (numbered b)
shown (ask.Protect b) = ask.Protect (numbered b)
shown (ask.Switch b) = ask.Switch (numbered b)
shown (ask.Fork forking switch b) = ask.Fork forking switch (numbered b)
shown (ask.OnRelease switch b) = ask.OnRelease switch (numbered b)
shown (ask.Branches group bs) = ask.Branches group (map numbered bs)
shown (ask.Submit executor weight given b) = ask.Submit executor weight given (numbered b)
shown (ask.OpenReader flow limit b) = ask.OpenReader flow limit (numbered b)
shown (ask.OpenWriter flow b) = ask.OpenWriter flow (numbered b)
shown (ask.OpenDirectory place path b) = ask.OpenDirectory place path (numbered b)
shown call = call

-- the calls from here on under these replies, the last without one
abbrev pub calls_from : List Reply → Settled → List Ask
calls_from [] s = shown s.call ∷ []
calls_from (reply ∷ replies) s = shown s.call ∷ calls_from replies (replied reply s)

-- what is carried at the last
abbrev pub carried_from : List Reply → Settled → Carry
carried_from [] s = s.carry
carried_from (reply ∷ replies) s = carried_from replies (replied reply s)

-- ## Short words

-- any call that gives nothing
abbrev pub done : Reply
done = Gives value.Unit

abbrev pub member : (serial : ℕ) → Plain → Member
member serial what = record { serial = serial; what = what }

abbrev pub raise : (serial : ℕ) → Plain → Raised
raise serial what = One (member serial what)

abbrev pub ends : Value → Ask
ends it = ask.End (outcome.Ok it)

abbrev pub fails : (serial : ℕ) → Plain → Ask
fails serial what = ask.End (outcome.Err (raise serial what))

abbrev pub block : (number : ℕ) → Block
block number = Begins number Done
