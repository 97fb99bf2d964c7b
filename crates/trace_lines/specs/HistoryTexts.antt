-- The line of a history for each move.
use Rattle.std.specs.Prelude.{ℕ, List, [], ◌∷◌, ◌++◌, codes}
use Rattle.std.specs.Fmt.{decimal}
use Rattle.std.specs.List.{flat_map}
use Rattle.eio_value.specs.declared.raised.Outcome.{Outcome}
use Rattle.eio_value.specs.declared.raised.Outcome.TheVariants.{Ok, Err}
use Rattle.eio_value.specs.declared.raised.Raised.{Raised}
use Rattle.eio_value.specs.declared.value.TextId.{TextId}
use Rattle.eio_value.specs.declared.value.Value.{Value}
use Rattle.eio_value.specs.declared.value.Value.TheVariants.{Text}
use Rattle.eio_value.specs.Escapes.{quoted}
use Rattle.eio_value.specs.Exceptions.{raised_text}
use Rattle.eio_value.specs.Table.{text_at}
use Rattle.eio_value.specs.Values.{show, quote}
use Rattle.trace_lines.specs.declared.line.Did.{Did}
use Rattle.trace_lines.specs.declared.line.Did.TheVariants as did
use Rattle.trace_lines.specs.declared.line.Line.{Line}
use Rattle.trace_lines.specs.declared.line.Said2.{Said2}
use Rattle.trace_lines.specs.declared.line.Said2.TheVariants as said
use Rattle.trace_lines.specs.Names.{name_at}

-- two texts with a space between
abbrev pub spaced : List ℕ → List ℕ → List ℕ
spaced left right = left ++ 32 ∷ right

-- a context: `#` and its number
abbrev pub context_text : ℕ → List ℕ
context_text number = 35 ∷ decimal number

-- a switch: `%` and its number
abbrev pub switch_text : ℕ → List ℕ
switch_text number = 37 ∷ decimal number

-- a fiber: the number of its domain, a dot, and its number in that domain
abbrev pub fiber_text : (domain : ℕ) → (fiber : ℕ) → List ℕ
fiber_text domain fiber = decimal domain ++ 46 ∷ decimal fiber

-- what is raised: `!` and its text
abbrev pub raise_text : List (List ℕ) → Raised → List ℕ
raise_text texts raised = 33 ∷ raised_text texts raised

-- an outcome: a value by `quote`, or what is raised
abbrev pub outcome_text : List (List ℕ) → Outcome → List ℕ
outcome_text texts (Ok value) = quote texts value
outcome_text texts (Err raised) = raise_text texts raised

-- an operand of `trace`: a text by its bytes, any other value by `show`
abbrev pub bare : List (List ℕ) → Value → List ℕ
bare texts (Text id) = text_at texts id
bare texts value = show texts value

-- a call on a context: its word and the context
abbrev pub on_context : (word : List ℕ) → (context : ℕ) → List ℕ
on_context word context = spaced word (context_text context)

-- a call on a switch: its word and the switch
abbrev pub on_switch : (word : List ℕ) → (switch : ℕ) → List ℕ
on_switch word switch = spaced word (switch_text switch)

-- a call on an object: its word and the object's name
abbrev pub on_object : (texts : List (List ℕ)) → (names : List TextId) → (word : List ℕ) → (object : ℕ) → List ℕ
on_object texts names word object = spaced word (name_at texts names object)

-- what a move did: the word of the call, and its operands, each after a space.
-- The operands of `trace` are joined without a separator and quoted as one text; the texts of `cancel` and `fail` are
-- quoted. Moves of the mock clock and calls on the mocked outside stand in no history: their text is empty.
abbrev pub did_text : (texts : List (List ℕ)) → (names : List TextId) → Did → List ℕ
did_text texts names (did.Trace operands) = spaced (codes "trace") (quoted (flat_map (bare texts) operands))
did_text texts names did.Turn = codes "turn"
did_text texts names did.Yield = codes "yield"
did_text texts names did.Check = codes "check"
did_text texts names did.AwaitCancel = codes "await-cancel"
did_text texts names did.Sub = codes "sub"
did_text texts names did.Protect = codes "protect"
did_text texts names (did.Leave context) = on_context (codes "leave") context
did_text texts names (did.Cancel context id) = spaced (on_context (codes "cancel") context) (quoted (text_at texts id))
did_text texts names did.Switch = codes "switch"
did_text texts names (did.Fork switch) = on_switch (codes "fork") switch
did_text texts names (did.ForkDaemon switch) = on_switch (codes "fork-daemon") switch
did_text texts names (did.ForkPromise switch promise) = on_object texts names (on_switch (codes "fork-promise") switch) promise
did_text texts names (did.Fail switch id) = spaced (on_switch (codes "fail") switch) (quoted (text_at texts id))
did_text texts names (did.OnRelease switch) = on_switch (codes "on-release") switch
did_text texts names (did.Close switch) = on_switch (codes "close") switch
did_text texts names (did.Both context) = on_context (codes "both") context
did_text texts names (did.All context) = on_context (codes "all") context
did_text texts names (did.First context) = on_context (codes "first") context
did_text texts names (did.Any context) = on_context (codes "any") context
did_text texts names (did.Join context) = on_context (codes "join") context
did_text texts names (did.Add stream value) = spaced (on_object texts names (codes "add") stream) (quote texts value)
did_text texts names (did.Take stream) = on_object texts names (codes "take") stream
did_text texts names (did.TakeNonblocking stream) = on_object texts names (codes "take-nonblocking") stream
did_text texts names (did.Length stream) = on_object texts names (codes "length") stream
did_text texts names (did.Resolve promise outcome) = spaced (on_object texts names (codes "resolve") promise) (outcome_text texts outcome)
did_text texts names (did.TryResolve promise value) = spaced (on_object texts names (codes "try-resolve") promise) (quote texts value)
did_text texts names (did.Await promise) = on_object texts names (codes "await") promise
did_text texts names (did.Acquire semaphore) = on_object texts names (codes "acquire") semaphore
did_text texts names (did.Release semaphore) = on_object texts names (codes "release") semaphore
did_text texts names (did.Lock mutex) = on_object texts names (codes "lock") mutex
did_text texts names (did.TryLock mutex) = on_object texts names (codes "try-lock") mutex
did_text texts names (did.Unlock mutex) = on_object texts names (codes "unlock") mutex
did_text texts names (did.Poison mutex) = on_object texts names (codes "poison") mutex
did_text texts names (did.Use pool) = on_object texts names (codes "use") pool
did_text texts names (did.Put pool resource) = spaced (on_object texts names (codes "put") pool) (decimal resource)
did_text texts names (did.Submit executor weight) = spaced (on_object texts names (codes "submit") executor) (decimal weight)
did_text texts names (did.Done executor job) = spaced (on_object texts names (codes "done") executor) (decimal job)
did_text texts names (did.Strike domain fiber) = spaced (codes "strike") (fiber_text domain fiber)
did_text texts names (did.Wake object) = on_object texts names (codes "wake") object
did_text texts names (did.Start executor) = on_object texts names (codes "start") executor
did_text texts names did.Got = codes "got"
did_text texts names (did.GotJob executor job) = spaced (on_object texts names (codes "got") executor) (decimal job)
did_text texts names did.End = codes "end"
did_text texts names did.Limit = codes "limit"
did_text texts names (did.Tick now) = []
did_text texts names (did.Mock said) = []

-- what a move was answered: a value by `quote`, what is raised, a fiber, the number of a job and the domain that it was
-- started in, or the word of the answer
abbrev pub reply_text : List (List ℕ) → Said2 → List ℕ
reply_text texts (said.Done value) = quote texts value
reply_text texts (said.Raised raised) = raise_text texts raised
reply_text texts said.Back = codes "back"
reply_text texts said.Waits = codes "waits"
reply_text texts said.Off = codes "off"
reply_text texts said.Nothing = codes "none"
reply_text texts said.Handler = codes "handler"
reply_text texts (said.Fiber domain fiber) = fiber_text domain fiber
reply_text texts (said.Started domain number) = decimal number ++ (codes " on " ++ decimal domain)
reply_text texts said.Won = codes "won"
reply_text texts said.Lost = codes "lost"

-- the line of a move: its stamp, its fiber, what it did, `=` and what it was answered, with a space between each two,
-- and LF at the end
abbrev pub line_text : (texts : List (List ℕ)) → (names : List TextId) → Line → List ℕ
line_text texts names line =
    spaced (decimal line.stamp)
    (spaced (fiber_text line.domain line.fiber)
    (spaced (did_text texts names line.did)
    (spaced (codes "=") (reply_text texts line.reply))))
    ++ 10 ∷ []
