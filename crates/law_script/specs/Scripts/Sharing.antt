-- Scripts that several domains can run: nothing in them is for the mocked domain alone.
use Rattle.std.specs.Prelude.{All}
use Rattle.spec_script.specs.Declarations.{Declaration, Flow, Dir}
use Rattle.spec_script.specs.Scripts.{Script}
use Rattle.spec_script.specs.Syntax.{Statement, LetForm, If, Try, Repeat, Loop, Sub, Protect, Switch, Fork, OnRelease, Branches, UseRw, UsePool, Submit, Sleep, Now, BufRead, OnReader, TakeBytes, Copy, BufWrite, Put, OpenDir, OnPath, Save, Block, Begins, Statements, Done, Then, Blocks, NoBlocks, AndBlock}

-- no clock, no flow and no path, in whatever depth
unfoldable mutual
  pub IsSharedStatement : Statement → Type 0
  IsSharedStatement (LetForm form) = IsSharedStatement form
  IsSharedStatement (If test first second) = IsSharedBlock first × IsSharedBlock second
  IsSharedStatement (Try tried handler) = IsSharedBlock tried × IsSharedBlock handler
  IsSharedStatement (Repeat times body) = IsSharedBlock body
  IsSharedStatement (Loop body) = IsSharedBlock body
  IsSharedStatement (Sub body) = IsSharedBlock body
  IsSharedStatement (Protect body) = IsSharedBlock body
  IsSharedStatement (Switch body) = IsSharedBlock body
  IsSharedStatement (Fork forking switch body) = IsSharedBlock body
  IsSharedStatement (OnRelease switch handler) = IsSharedBlock handler
  IsSharedStatement (Branches group blocks) = AreSharedBlocks blocks
  IsSharedStatement (UseRw mutex body) = IsSharedBlock body
  IsSharedStatement (UsePool pool body) = IsSharedBlock body
  IsSharedStatement (Submit executor weight captured job) = IsSharedBlock job
  IsSharedStatement (Sleep time) = ⊥
  IsSharedStatement Now = ⊥
  IsSharedStatement (BufRead flow limit body) = ⊥
  IsSharedStatement (OnReader call reader) = ⊥
  IsSharedStatement (TakeBytes reader count) = ⊥
  IsSharedStatement (Copy from to) = ⊥
  IsSharedStatement (BufWrite flow body) = ⊥
  IsSharedStatement (Put writer operand) = ⊥
  IsSharedStatement (OpenDir directory path body) = ⊥
  IsSharedStatement (OnPath call directory path) = ⊥
  IsSharedStatement (Save only_new directory path content) = ⊥
  IsSharedStatement other = Unit {0}

  pub IsSharedBlock : Block → Type 0
  IsSharedBlock (Begins number items) = AreSharedStatements items

  pub AreSharedStatements : Statements → Type 0
  AreSharedStatements Done = Unit {0}
  AreSharedStatements (Then it rest) = IsSharedStatement it × AreSharedStatements rest

  pub AreSharedBlocks : Blocks → Type 0
  AreSharedBlocks NoBlocks = Unit {0}
  AreSharedBlocks (AndBlock block rest) = IsSharedBlock block × AreSharedBlocks rest

-- no flow and no directory
abbrev pub IsSharedDeclaration : Declaration → Type 0
IsSharedDeclaration (Flow steps) = ⊥
IsSharedDeclaration (Dir items) = ⊥
IsSharedDeclaration other = Unit {0}

pub record IsShared (script : Script) : Type 0 where
  pub declarations : All IsSharedDeclaration script.declarations
  pub bodies : All IsSharedBlock script.bodies
