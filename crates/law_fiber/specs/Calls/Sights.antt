-- What work sees: the variables that it names, and the texts that stand in its script.
-- It is a judgement on the syntax alone. A job sees the variables that it was given, and nothing of its caller's: so of a `submit` the captured slots
-- are asked, and nothing of its block. Every other block is run with its fiber's variables, by that fiber or by a new one, and so is asked too.
use Rattle.std.specs.Prelude.{ℕ, ◌<◌, Bool, IsTrue, All}
use Rattle.eio_value.specs.declared.value.TextId.{TextId}
use Rattle.spec_script.specs.Syntax.{Expression, NumberValue, TextValue, Variable, UnitValue, Operation, Directory, Declared, Opened, Statement, Let, LetForm, If, Give, Raise, Try, Repeat, Loop, Trace, Yield, Check, AwaitCancel, Sub, Protect, Cancel, Switch, Fork, Fail, OnRelease, Branches, OnObject, OnObjectWith, UseRw, UsePool, Submit, Sleep, Now, BufRead, OnReader, TakeBytes, Copy, BufWrite, Put, OpenDir, OnPath, Save, Expressions, NoExpressions, AndExpression, Block, Begins, Statements, Done, Then, Blocks, NoBlocks, AndBlock}

-- what is in sight: the slots that are in scope, and so many first texts of a table
pub record Sight : Type 0 where
  pub slots : ℕ → Bool
  pub texts : ℕ

abbrev pub IsInScope : Sight → (slot : ℕ) → Type 0
IsInScope sight slot = IsTrue (sight.slots slot)

abbrev pub IsInSight : Sight → TextId → Type 0
IsInSight sight text = text.0 < sight.texts

-- ## Expressions

unfoldable pub SeesExpression : Sight → Expression → Type 0
SeesExpression sight (NumberValue z) = Unit {0}
SeesExpression sight (TextValue text) = IsInSight sight text
SeesExpression sight (Variable slot) = IsInScope sight slot
SeesExpression sight UnitValue = Unit {0}
SeesExpression sight (Operation operator left right) = SeesExpression sight left × SeesExpression sight right

unfoldable pub SeesExpressions : Sight → Expressions → Type 0
SeesExpressions sight NoExpressions = Unit {0}
SeesExpressions sight (AndExpression e rest) = SeesExpression sight e × SeesExpressions sight rest

abbrev pub SeesDirectory : Sight → Directory → Type 0
SeesDirectory sight (Declared number) = Unit {0}
SeesDirectory sight (Opened slot) = IsInScope sight slot

-- ## Statements

unfoldable mutual
  pub SeesStatement : Sight → Statement → Type 0
  SeesStatement sight (Let e) = SeesExpression sight e
  SeesStatement sight (LetForm form) = SeesStatement sight form
  SeesStatement sight (If test first second) = SeesExpression sight test × SeesBlock sight first × SeesBlock sight second
  SeesStatement sight (Give e) = SeesExpression sight e
  SeesStatement sight (Raise text) = IsInSight sight text
  SeesStatement sight (Try tried handler) = SeesBlock sight tried × SeesBlock sight handler
  SeesStatement sight (Repeat times body) = SeesExpression sight times × SeesBlock sight body
  SeesStatement sight (Loop body) = SeesBlock sight body
  SeesStatement sight (Trace operands) = SeesExpressions sight operands
  SeesStatement sight Yield = Unit {0}
  SeesStatement sight Check = Unit {0}
  SeesStatement sight AwaitCancel = Unit {0}
  SeesStatement sight (Sub body) = SeesBlock sight body
  SeesStatement sight (Protect body) = SeesBlock sight body
  SeesStatement sight (Cancel context text) = IsInScope sight context × IsInSight sight text
  SeesStatement sight (Switch body) = SeesBlock sight body
  SeesStatement sight (Fork forking switch body) = IsInScope sight switch × SeesBlock sight body
  SeesStatement sight (Fail switch text) = IsInScope sight switch × IsInSight sight text
  SeesStatement sight (OnRelease switch handler) = IsInScope sight switch × SeesBlock sight handler
  SeesStatement sight (Branches group branches) = SeesBlocks sight branches
  SeesStatement sight (OnObject call object) = Unit {0}
  SeesStatement sight (OnObjectWith call object operand) = SeesExpression sight operand
  SeesStatement sight (UseRw mutex body) = SeesBlock sight body
  SeesStatement sight (UsePool pool body) = SeesBlock sight body
  SeesStatement sight (Submit executor weight captured job) = All (IsInScope sight) captured
  SeesStatement sight (Sleep time) = SeesExpression sight time
  SeesStatement sight Now = Unit {0}
  SeesStatement sight (BufRead flow limit body) = SeesBlock sight body
  SeesStatement sight (OnReader call reader) = IsInScope sight reader
  SeesStatement sight (TakeBytes reader count) = IsInScope sight reader × SeesExpression sight count
  SeesStatement sight (Copy from to) = Unit {0}
  SeesStatement sight (BufWrite flow body) = SeesBlock sight body
  SeesStatement sight (Put writer operand) = IsInScope sight writer × SeesExpression sight operand
  SeesStatement sight (OpenDir directory path body) = SeesDirectory sight directory × SeesExpression sight path × SeesBlock sight body
  SeesStatement sight (OnPath call directory path) = SeesDirectory sight directory × SeesExpression sight path
  SeesStatement sight (Save only_new directory path content) =
      SeesDirectory sight directory × SeesExpression sight path × SeesExpression sight content

  pub SeesBlock : Sight → Block → Type 0
  SeesBlock sight (Begins number items) = SeesStatements sight items

  pub SeesStatements : Sight → Statements → Type 0
  SeesStatements sight Done = Unit {0}
  SeesStatements sight (Then it rest) = SeesStatement sight it × SeesStatements sight rest

  pub SeesBlocks : Sight → Blocks → Type 0
  SeesBlocks sight NoBlocks = Unit {0}
  SeesBlocks sight (AndBlock block rest) = SeesBlock sight block × SeesBlocks sight rest
