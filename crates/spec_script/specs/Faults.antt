-- Why an input is refused, each fault with its place: an offset in the input's bytes.
use Rattle.std.specs.Prelude.{ℕ}

-- why bytes spell no tree
--   Byte      a byte that begins nothing and ends nothing, at it; a run that begins with `_`, at the run
--   Unclosed  the input ends too early: at the quote of the text that is open, else at the last paren that is open,
--             else at the input's end
--   Stray     a `)` where no list is open, or any byte but gap behind the whole tree, at it
--   Number    a run that begins with a digit or `-` and is no number, at the run
--   LongText  a word or a text that is too long, at the word or at the text's quote
--   Deep      a `(` where as many lists are open as may be, at it
pub data TreeFault : Type 0 where
  Byte : (at : ℕ) → TreeFault
  Unclosed : (at : ℕ) → TreeFault
  Stray : (at : ℕ) → TreeFault
  Number : (at : ℕ) → TreeFault
  LongText : (at : ℕ) → TreeFault
  Deep : (at : ℕ) → TreeFault

-- why a tree is no script
--   Shape  a node that fits no form of its position, at it
--   Size   a number outside its limits, or the first item too many, at it
--   Twice  a new name that is taken, at it
--   Name   a word used as a name that isn't in scope with the kind that is wanted, at it
pub data ScriptFault : Type 0 where
  Shape : (at : ℕ) → ScriptFault
  Size : (at : ℕ) → ScriptFault
  Twice : (at : ℕ) → ScriptFault
  Name : (at : ℕ) → ScriptFault
