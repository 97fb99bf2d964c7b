-- The lines of the trace that a move writes.
use Rattle.std.specs.Prelude.{⊤, ℕ, ◌<◌, List, [], ◌∷◌, ◌++◌, length, All, codes}
use Rattle.std.specs.Fmt.{signed_decimal}
use Rattle.std.specs.List.{flat_map}
use Rattle.eio_value.specs.declared.mock_call.Said.{Said}
use Rattle.eio_value.specs.declared.mock_call.Said.TheVariants.{Nothing, Read, Wrote, Copied}
use Rattle.eio_value.specs.declared.value.TextId.{TextId}
use Rattle.eio_value.specs.Escapes.{quoted}
use Rattle.eio_value.specs.Table.{HasText, text_at}
use Rattle.eio_value.specs.Values.{HasTextsOf, show}
use Rattle.trace_lines.specs.declared.line.Did.{Did}
use Rattle.trace_lines.specs.declared.line.Did.TheVariants.{Trace, Tick, Mock}
use Rattle.trace_lines.specs.declared.line.Line.{Line}
use Rattle.trace_lines.specs.Names.{name_at}

-- a text as a line of the trace: a plus before it, and LF at its end
abbrev pub trace_line : List ℕ → List ℕ
trace_line text = 43 ∷ (text ++ 10 ∷ [])

-- what was done with these bytes of a flow: the flow's name, a colon, a space, what was done, a space, and the bytes in quotes
abbrev pub flow_line : (texts : List (List ℕ)) → (names : List TextId) → (flow : ℕ) → (what : List ℕ) → (bytes : TextId) → List ℕ
flow_line texts names flow what bytes = trace_line (name_at texts names flow ++ 58 ∷ 32 ∷ (what ++ 32 ∷ quoted (text_at texts bytes)))

-- these bytes were read from a flow
abbrev pub read_line : (texts : List (List ℕ)) → (names : List TextId) → (flow : ℕ) → (bytes : TextId) → List ℕ
read_line texts names flow bytes = flow_line texts names flow (codes "read") bytes

-- these bytes were written to a flow
abbrev pub wrote_line : (texts : List (List ℕ)) → (names : List TextId) → (flow : ℕ) → (bytes : TextId) → List ℕ
wrote_line texts names flow bytes = flow_line texts names flow (codes "wrote") bytes

-- the lines of a call on the outside: one for a read and one for a write; of a copy first that of the flow that was
-- read, then that of the flow that was written; else none
abbrev pub said_text : (texts : List (List ℕ)) → (names : List TextId) → Said → List ℕ
said_text texts names Nothing = []
said_text texts names (Read flow bytes) = read_line texts names flow bytes
said_text texts names (Wrote flow bytes) = wrote_line texts names flow bytes
said_text texts names (Copied from to bytes) = read_line texts names from bytes ++ wrote_line texts names to bytes

-- what a move writes to the trace: the operands of `trace` by `show`, one behind the other; the time that the mock
-- clock went on to; the lines of a call on the outside; any other move writes nothing
abbrev pub traced : (texts : List (List ℕ)) → (names : List TextId) → Did → List ℕ
traced texts names (Trace operands) = trace_line (flat_map (show texts) operands)
traced texts names (Tick now) = trace_line (codes "mock time is now " ++ signed_decimal now)
traced texts names (Mock said) = said_text texts names said
traced texts names did = []

-- the lines of the trace that a line's move wrote
abbrev pub trace_text : (texts : List (List ℕ)) → (names : List TextId) → Line → List ℕ
trace_text texts names line = traced texts names line.did

-- the flow has a name, and the table has these bytes of it
pub record HasFlowLine (texts : List (List ℕ)) (names : List TextId) (flow : ℕ) (bytes : TextId) : Type 0 where
  pub named : flow < length names
  pub text : HasText texts bytes

-- all flows and bytes of these lines are there
abbrev pub CanSay : (texts : List (List ℕ)) → (names : List TextId) → Said → Type 0
CanSay texts names Nothing = ⊤
CanSay texts names (Read flow bytes) = HasFlowLine texts names flow bytes
CanSay texts names (Wrote flow bytes) = HasFlowLine texts names flow bytes
CanSay texts names (Copied from to bytes) = HasFlowLine texts names from bytes × HasFlowLine texts names to bytes

-- all texts and flows that a move's lines show are there
abbrev pub CanTrace : (texts : List (List ℕ)) → (names : List TextId) → Did → Type 0
CanTrace texts names (Trace operands) = All (HasTextsOf texts) operands
CanTrace texts names (Mock said) = CanSay texts names said
CanTrace texts names did = ⊤
