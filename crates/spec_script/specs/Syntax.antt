-- The syntax of scripts: declarations, statements and expressions with their names resolved.
--
-- A name of a block stands for its slot: how many names were brought into scope before it in the enclosing blocks. The value
-- of a slot is the item at that place among a fiber's variables. A name of a declaration stands for its number, in order of
-- declaration. Texts and declared names stand for their numbers in the script's table.
-- Nodes are numbered in reading order from 0: each statement, each expression and the end of each block is a node. A block has
-- the number of the node that it begins with, by which a job or a handler names it.
use Rattle.std.specs.Prelude.{ℕ, ℤ, List, Bool}
use Rattle.eio_value.specs.declared.value.TextId.{TextId}

pub data Operator : Type 0 where
  Plus : Operator
  Minus : Operator
  Same : Operator
  Less : Operator

pub data Expression : Type 0 where
  NumberValue : (z : ℤ) → Expression
  TextValue : (text : TextId) → Expression
  Variable : (slot : ℕ) → Expression
  UnitValue : Expression
  Operation : Operator → Expression → Expression → Expression

-- a directory: a declared one by its number, or a capability by its slot
pub data Directory : Type 0 where
  Declared : (number : ℕ) → Directory
  Opened : (slot : ℕ) → Directory

-- calls on a declared object
pub data ObjectCall : Type 0 where
  Take : ObjectCall
  TakeNonblocking : ObjectCall
  Length : ObjectCall
  Await : ObjectCall
  Acquire : ObjectCall
  Release : ObjectCall
  Lock : ObjectCall
  TryLock : ObjectCall
  Unlock : ObjectCall

-- the same with an operand
pub data ObjectCallWith : Type 0 where
  Add : ObjectCallWith
  Resolve : ObjectCallWith
  TryResolve : ObjectCallWith

-- calls on a reader
pub data ReaderCall : Type 0 where
  Line : ReaderCall
  TakeAll : ReaderCall
  Char : ReaderCall
  AtEnd : ReaderCall

-- calls on a path that have no other operand
pub data PathCall : Type 0 where
  Load : PathCall
  Mkdir : PathCall
  ReadDir : PathCall
  Unlink : PathCall
  Rmdir : PathCall
  Kind : PathCall

-- the forms with branches
pub data Group : Type 0 where
  Both : Group
  All : Group
  First : Group
  Any : Group

-- how a fiber is forked onto a switch
pub data Forking : Type 0 where
  Plain : Forking
  Daemon : Forking
  Promising : (promise : ℕ) → Forking

mutual
  pub data Statement : Type 0 where
    Let : Expression → Statement
    LetForm : Statement → Statement
    If : Expression → Block → Block → Statement
    Give : Expression → Statement
    Raise : (text : TextId) → Statement
    Try : Block → Block → Statement
    Repeat : Expression → Block → Statement
    Loop : Block → Statement
    Trace : Expressions → Statement
    Yield : Statement
    Check : Statement
    AwaitCancel : Statement
    Sub : Block → Statement
    Protect : Block → Statement
    Cancel : (context : ℕ) → (text : TextId) → Statement
    Switch : Block → Statement
    Fork : Forking → (switch : ℕ) → Block → Statement
    Fail : (switch : ℕ) → (text : TextId) → Statement
    OnRelease : (switch : ℕ) → Block → Statement
    Branches : Group → Blocks → Statement
    OnObject : ObjectCall → (object : ℕ) → Statement
    OnObjectWith : ObjectCallWith → (object : ℕ) → Expression → Statement
    UseRw : (mutex : ℕ) → Block → Statement
    UsePool : (pool : ℕ) → Block → Statement
    Submit : (executor weight : ℕ) → (captured : List ℕ) → Block → Statement
    Sleep : Expression → Statement
    Now : Statement
    BufRead : (flow limit : ℕ) → Block → Statement
    OnReader : ReaderCall → (reader : ℕ) → Statement
    TakeBytes : (reader : ℕ) → Expression → Statement
    Copy : (from to : ℕ) → Statement
    BufWrite : (flow : ℕ) → Block → Statement
    Put : (writer : ℕ) → Expression → Statement
    OpenDir : Directory → Expression → Block → Statement
    OnPath : PathCall → Directory → Expression → Statement
    Save : (only_new : Bool) → Directory → Expression → Expression → Statement

  pub data Expressions : Type 0 where
    NoExpressions : Expressions
    AndExpression : Expression → Expressions → Expressions

  -- a block with the number of its first node
  pub data Block : Type 0 where
    Begins : (number : ℕ) → Statements → Block

  pub data Statements : Type 0 where
    Done : Statements
    Then : Statement → Statements → Statements

  pub data Blocks : Type 0 where
    NoBlocks : Blocks
    AndBlock : Block → Blocks → Blocks
