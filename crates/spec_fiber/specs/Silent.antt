-- The silent part of a fiber's run: how statements go up to the first call, the first exception, or their end.
-- A block's value is that of the `give` that ends it, else unit. What a statement gives is dropped, unless a `let` binds it.
use Rattle.std.specs.Prelude.{ℕ, zero, suc, ◌+◌, Bool, true, false, List, [], ◌∷◌, ◌++◌, length, map, ℤ, pos}
use Rattle.eio_value.specs.declared.value.Value.{Value}
use Rattle.eio_value.specs.declared.value.Value.TheVariants.{Unit, Int}
use Rattle.eio_value.specs.declared.plain.Plain.{Plain as PlainException}
use Rattle.eio_value.specs.declared.plain.Plain.TheVariants.{Failure}
use Rattle.eio_value.specs.declared.raised.Raised.{Raised}
use Rattle.eio_value.specs.declared.raised.Raised.TheVariants.{One}
use Rattle.spec_script.specs.Syntax.{Statement, Let, LetForm, If, Give, Raise, Try, Repeat, Loop, Trace, Yield, Check, AwaitCancel, Sub, Protect, Cancel, Switch, Fork, Fail, OnRelease, Branches, OnObject, OnObjectWith, UseRw, UsePool, Submit, Sleep, Now, BufRead, OnReader, TakeBytes, Copy, BufWrite, Put, OpenDir, OnPath, Save, Lock, Group, All, Any, Directory, Block, Begins, Statements, Done, Then, Blocks, NoBlocks, AndBlock}
use Rattle.spec_script.specs.Syntax as syntax
use Rattle.spec_fiber.specs.Evaluation.{Evaluated, Is, Raises, value_at, held_context, held_switch, held_number, value_of, values_of, number_of, text_of}
use Rattle.spec_fiber.specs.Asks.{Ask, DirectoryRef}
use Rattle.spec_fiber.specs.Asks as ask
use Rattle.spec_fiber.specs.Work.{Work, Carry, cut, bound, new_raise, caught}
use Rattle.spec_fiber.specs.Work as work

-- how statements go: past them all with a value; to a call, with the work behind it; or to an exception
pub data Went : Type 0 where
  Past : Value → Carry → Went
  Called : Ask → List Work → Carry → Went
  Threw : Raised → Carry → Went

-- ## What follows what

-- goes on behind the end, or with the exception; a call comes first, and then has this more behind it
abbrev pub and_then : Went → (Value → Carry → Went) → (Raised → Carry → Went) → List Work → Went
and_then (Past value c) next catch more = next value c
and_then (Called call behind c) next catch more = Called call (behind ++ more) c
and_then (Threw raised c) next catch more = catch raised c

-- a block whose end cuts the variables
abbrev pub within : (keep : ℕ) → Went → Went
within keep went = and_then went (λ value c. Past value (cut keep c)) Threw (work.Cut keep ∷ [])

-- a new raise
abbrev pub raises : PlainException → Carry → Went
raises what c = new_raise what c (λ x d. Threw (One x) d)

-- goes on with what was evaluated, or raises
abbrev pub with_value : {A : Type 0} → Evaluated A → Carry → (A → Went) → Went
with_value (Is it) c next = next it
with_value (Raises what) c next = raises what c

-- a call with nothing behind it
abbrev pub asks : Ask → Carry → Went
asks call c = Called call [] c

-- ## Operands

abbrev pub blocks_of : Blocks → List Block
blocks_of NoBlocks = []
blocks_of (AndBlock block rest) = block ∷ blocks_of rest

abbrev pub place_in : List Value → Directory → DirectoryRef
place_in variables (syntax.Declared number) = ask.Declared number
place_in variables (syntax.Opened slot) = ask.Opened (held_number variables slot)

-- truth is any number but 0
abbrev pub is_zero : ℤ → Bool
is_zero (pos zero) = true
is_zero z = false

-- the statement that ends its block with a value
abbrev pub gives : Statement → Bool
gives (Give e) = true
gives statement = false

-- ## Forms

abbrev pub items_of : Block → Statements
items_of (Begins number items) = items

-- a turn of a `repeat` with its number in the slot behind those that are kept, and then so many turns more
abbrev pub repeats : (turn left : ℕ) → Block → (keep : ℕ) → Carry → Went
repeats turn left block keep c = Called ask.Turn (work.Run (items_of block) ∷ work.Repeat (turn + 1) left block keep ∷ []) (bound keep (Int (pos turn)) c)

-- a `repeat` of so many turns, of which the first begins at once; without turns it is past
abbrev pub repeated : ℤ → Block → Carry → Went
repeated (pos (suc left)) block c = repeats 0 left block (length c.variables) c
repeated z block c = Past Unit c

-- an `all` without branches is silent, and an `any` without branches awaits its cancellation
abbrev pub branched : Group → Blocks → Carry → Went
branched All NoBlocks c = Past Unit c
branched Any NoBlocks c = asks ask.AwaitCancel c
branched group blocks c = asks (ask.Branches group (blocks_of blocks)) c

unfoldable mutual
  -- a statement, with the value that it gives
  pub statement : Statement → Carry → Went
  statement (Let e) c = with_value (value_of c.variables e) c (λ value. Past Unit (bound (length c.variables) value c))
  statement (LetForm form) c =
      let slot = length c.variables in
      and_then (statement form c) (λ value d. Past Unit (bound slot value d)) Threw (work.Bind slot ∷ [])
  statement (If test first second) c =
      with_value (number_of c.variables test) c (λ z. within (length c.variables) (elim (is_zero z) [ true ↦ block second c | false ↦ block first c ]))
  statement (Give e) c = with_value (value_of c.variables e) c (λ value. Past value c)
  statement (Raise text) c = raises (Failure text) c
  statement (Try tried handler) c =
      let keep = length c.variables in
      and_then (block tried c) (λ value d. Past value (cut keep d)) (λ raised d. within keep (block handler (caught keep raised d))) (work.Try handler keep ∷ [])
  statement (Repeat times body) c = with_value (number_of c.variables times) c (λ z. repeated z body c)
  statement (Loop body) c = Called ask.Turn (work.Run (items_of body) ∷ work.Loop body (length c.variables) ∷ []) c
  statement (Trace operands) c = with_value (values_of c.variables operands) c (λ values. asks (ask.Trace values) c)
  statement Yield c = asks ask.Yield c
  statement Check c = asks ask.Check c
  statement AwaitCancel c = asks ask.AwaitCancel c
  statement (Sub body) c = asks (ask.Sub body) c
  statement (Protect body) c = asks (ask.Protect body) c
  statement (Cancel context text) c = asks (ask.Cancel (held_context c.variables context) text) c
  statement (Switch body) c = asks (ask.Switch body) c
  statement (Fork forking switch body) c = asks (ask.Fork forking (held_switch c.variables switch) body) c
  statement (Fail switch text) c = asks (ask.Fail (held_switch c.variables switch) text) c
  statement (OnRelease switch handler) c = asks (ask.OnRelease (held_switch c.variables switch) handler) c
  statement (Branches group branches) c = branched group branches c
  statement (OnObject call object) c = asks (ask.OnObject call object) c
  statement (OnObjectWith call object operand) c = with_value (value_of c.variables operand) c (λ value. asks (ask.OnObjectWith call object value) c)
  statement (UseRw mutex body) c = Called (ask.OnObject Lock mutex) (work.Locking mutex body ∷ []) c
  statement (UsePool pool body) c = Called (ask.Use pool) (work.Using pool body ∷ []) c
  statement (Submit executor weight captured job) c = asks (ask.Submit executor weight (map (value_at c.variables) captured) job) c
  statement (Sleep time) c = with_value (number_of c.variables time) c (λ z. asks (ask.Sleep z) c)
  statement Now c = asks ask.Now c
  statement (BufRead flow limit body) c = asks (ask.OpenReader flow limit body) c
  statement (OnReader call reader) c = asks (ask.OnReader call (held_number c.variables reader)) c
  statement (TakeBytes reader count) c = with_value (number_of c.variables count) c (λ z. asks (ask.TakeBytes (held_number c.variables reader) z) c)
  statement (Copy from to) c = asks (ask.Copy from to) c
  statement (BufWrite flow body) c = asks (ask.OpenWriter flow body) c
  statement (Put writer operand) c = with_value (text_of c.variables operand) c (λ text. asks (ask.PutText (held_number c.variables writer) text) c)
  statement (OpenDir directory path body) c = with_value (text_of c.variables path) c (λ text. asks (ask.OpenDirectory (place_in c.variables directory) text body) c)
  statement (OnPath call directory path) c = with_value (text_of c.variables path) c (λ text. asks (ask.OnPath call (place_in c.variables directory) text) c)
  statement (Save only_new directory path content) c =
      with_value (text_of c.variables path) c (λ name. with_value (text_of c.variables content) c (λ text. asks (ask.Save only_new (place_in c.variables directory) name text) c))

  -- the statements of a block; whoever goes into it says what its end does
  pub block : Block → Carry → Went
  block (Begins number items) c = statements items c

  -- the statements that are left of a block
  pub statements : Statements → Carry → Went
  statements Done c = Past Unit c
  statements (Then it rest) c = elim (gives it) [
    | true ↦ statement it c
    | false ↦ and_then (statement it c) (λ value d. statements rest d) Threw (work.Run rest ∷ [])
  ]
