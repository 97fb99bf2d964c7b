-- The table of texts with which a script starts: its texts and the names of its declarations, in reading order, and then the texts that
-- `try` can bind without flows and paths. So a script that has neither makes no text while it runs.
use Rattle.std.specs.Prelude.{ℕ, List, [], ◌∷◌, ◌++◌, false, map, fold}
use Rattle.eio_value.specs.declared.plain.Misuse.TheVariants.{SwitchFinished, Overflow, NotNumber, NotText, Resolved, NotLocked, Closed, ContextFinished}
use Rattle.eio_value.specs.declared.plain.Plain.{Plain}
use Rattle.eio_value.specs.declared.plain.Plain.TheVariants.{Failure, Invalid, EndOfFile, BufferLimit, Poisoned, Exit, NotFirst}
use Rattle.eio_value.specs.declared.plain.Member.{Member}
use Rattle.eio_value.specs.declared.raised.Raised.{Raised}
use Rattle.eio_value.specs.declared.raised.Raised.TheVariants.{One, Cancelled, Many}
use Rattle.eio_value.specs.Table.{intern}
use Rattle.eio_value.specs.Exceptions.{bound_text}
use Rattle.spec_script.specs.Scripts.{Script}

-- the exceptions that hold no text
abbrev pub textless : List Plain
textless =
    Invalid SwitchFinished
    ∷ Invalid Overflow
    ∷ Invalid NotNumber
    ∷ Invalid NotText
    ∷ Invalid Resolved
    ∷ Invalid NotLocked
    ∷ Invalid Closed
    ∷ Invalid ContextFinished
    ∷ EndOfFile
    ∷ BufferLimit
    ∷ Poisoned
    ∷ Exit
    ∷ NotFirst
    ∷ []

-- the exceptions of a script without flows and paths: a failure for each text of a `raise`, a `cancel` or a `fail`, and these
abbrev pub exceptions_of : Script → List Plain
exceptions_of script = map Failure script.failures ++ textless

-- how an exception can reach a `try`: alone, as the reason of a cancellation, and as the first of several
abbrev pub raises_of : Plain → List Raised
raises_of plain =
    let member : Member = record { serial = 0; what = plain } in
    One member ∷ Cancelled member ∷ Many (record { members = member ∷ []; cut = false }) ∷ []

abbrev pub with_text : List (List ℕ) → List ℕ → List (List ℕ)
with_text texts text = (intern texts text).texts

-- a table with the texts that are bound to an exception
abbrev pub with_bound : List (List ℕ) → Plain → List (List ℕ)
with_bound texts plain = fold with_text texts (map (bound_text texts) (raises_of plain))

unfoldable pub opening_texts : Script → List (List ℕ)
opening_texts script = fold with_bound script.texts (exceptions_of script)
