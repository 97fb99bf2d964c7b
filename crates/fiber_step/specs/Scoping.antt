-- Laws of the definitions on what blocks and exceptions leave as it was.
use Rattle.std.specs.Prelude.{◌≡◌, Bool, true, false, List, [], ◌∷◌, ◌++◌, length}
use Rattle.eio_value.specs.declared.raised.Raised.{Raised}
use Rattle.eio_value.specs.declared.value.Value.{Value}
use Rattle.spec_script.specs.Syntax.{Block}
use Rattle.spec_fiber.specs.Settling.{thrown}
use Rattle.spec_fiber.specs.Silent.{Past, within, block}
use Rattle.spec_fiber.specs.Work as work
use Rattle.spec_fiber.specs.Work.{Work, Carry}

-- whether an item is an end that makes a call with what comes to it
abbrev pub is_end_work : Work → Bool
is_end_work (work.Leave context late keep) = true
is_end_work (work.Close switch keep) = true
is_end_work (work.Closing switch kept) = true
is_end_work (work.Join group keep) = true
is_end_work (work.ShutReader reader keep) = true
is_end_work (work.ShutWriter writer keep) = true
is_end_work (work.Unlock mutex keep) = true
is_end_work (work.Put pool resource keep) = true
is_end_work (work.Resolve promise) = true
is_end_work other = false

-- whether it catches an exception
abbrev pub is_try_work : Work → Bool
is_try_work (work.Try handler keep) = true
is_try_work other = false

-- items among which there is no `try` and no end
abbrev pub NoneStops : List Work → Type 0
NoneStops [] = Unit {0}
NoneStops (it ∷ items) = (is_end_work it ≡ false) × (is_try_work it ≡ false) × NoneStops items

-- an exception goes no further than to the first end: that end makes the call, and the work behind it stays
abbrev pub EndsStop : Type 0
EndsStop = (front : List Work) (end : Work) (behind : List Work) (raised : Raised) (c : Carry) → NoneStops front → is_end_work end ≡ true
    → ((thrown (front ++ end ∷ behind) raised c).call ≡ (thrown (end ∷ []) raised c).call) × ((thrown (front ++ end ∷ behind) raised c).behind ≡ behind)

-- behind a block the variables are those before it
abbrev pub BlocksKeepVariables : Type 0
BlocksKeepVariables = (inner : Block) (c d : Carry) (it : Value) → within (length c.variables) (block inner c) ≡ Past it d → d.variables ≡ c.variables
