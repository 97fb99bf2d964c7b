-- How work goes on behind silent statements, and that a statement and the marks behind it say the same: what a block's end does is said by `Silent`
-- where no call came in between, and by its mark where one did.
use Rattle.std.specs.Prelude.{◌≡◌, ℕ, true, false, List, ◌∷◌, length}
use Rattle.eio_value.specs.declared.value.Value.{Value}
use Rattle.eio_value.specs.declared.value.Value.TheVariants as value
use Rattle.spec_script.specs.Syntax.{Statement, LetForm, Try, Block, Statements, Done, Then}
use Rattle.spec_fiber.specs.Settling.{Settled, settle, answered, thrown}
use Rattle.spec_fiber.specs.Silent.{Went, within, gives, items_of, statement, block}
use Rattle.spec_fiber.specs.Work as work
use Rattle.spec_fiber.specs.Work.{Work, Carry}

-- the next call, where silent statements came to this and then this work is left
abbrev pub goes : Went → List Work → Settled
goes went behind = settle went (λ it c. answered behind it c) (λ raised c. thrown behind raised c) behind

-- a statement leaves the rest of its block behind it, unless it gives the block's value
abbrev pub RestFollows : Type 0
RestFollows = (it : Statement) (rest : Statements) (behind : List Work) (before : Value) (c : Carry) → gives it ≡ false
    → answered (work.Run (Then it rest) ∷ behind) before c ≡ goes (statement it c) (work.Run rest ∷ behind)

abbrev pub GivenEnds : Type 0
GivenEnds = (it : Statement) (rest : Statements) (behind : List Work) (before : Value) (c : Carry) → gives it ≡ true
    → answered (work.Run (Then it rest) ∷ behind) before c ≡ goes (statement it c) behind

-- a block that ends without a value gives unit
abbrev pub EndGivesUnit : Type 0
EndGivesUnit = (behind : List Work) (before : Value) (c : Carry) → answered (work.Run Done ∷ behind) before c ≡ answered behind value.Unit c

-- a block within a statement leaves its cut behind it
abbrev pub BlockLeavesCut : Type 0
BlockLeavesCut = (inner : Block) (keep : ℕ) (behind : List Work) (before : Value) (c : Carry)
    → goes (within keep (block inner c)) behind ≡ answered (work.Run (items_of inner) ∷ work.Cut keep ∷ behind) before c

-- the form of a `let` leaves the binding behind it
abbrev pub LetLeavesBinding : Type 0
LetLeavesBinding = (form : Statement) (behind : List Work) (c : Carry) → goes (statement (LetForm form) c) behind ≡ goes (statement form c) (work.Bind (length c.variables) ∷ behind)

-- the first block of a `try` leaves the second one behind it
abbrev pub TryLeavesHandler : Type 0
TryLeavesHandler = (tried handler : Block) (behind : List Work) (before : Value) (c : Carry)
    → goes (statement (Try tried handler) c) behind ≡ answered (work.Run (items_of tried) ∷ work.Try handler (length c.variables) ∷ behind) before c

pub record MarksAgree : Type 0 where
  pub rest : RestFollows
  pub given : GivenEnds
  pub unit : EndGivesUnit
  pub cut : BlockLeavesCut
  pub binding : LetLeavesBinding
  pub handler : TryLeavesHandler
