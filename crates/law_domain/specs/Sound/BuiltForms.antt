-- The forms that are built, as far as the laws of a domain speak of them: what a fiber of such forms has to do, and what it calls.
-- A form more of contexts, switches and groups stands here alone; one that waits on an object or on the clock changes what holds between two moves too.
use Rattle.std.specs.Prelude.{◌≤◌, List, [], ◌∷◌, All, length}
use Rattle.spec_script.specs.Scripts.{Script}
use Rattle.spec_script.specs.Syntax.{Statement, Let, LetForm, If, Give, Raise, Try, Repeat, Loop, Trace, Yield, Check, AwaitCancel, Sub, Protect, Cancel, Switch, Fork, Plain, Daemon, Fail, OnRelease, Branches, Group, Both, First, Block, Begins, Statements, Done, Then, Blocks, NoBlocks, AndBlock}
use Rattle.spec_fiber.specs.Asks as ask
use Rattle.spec_fiber.specs.Asks.{Ask}
use Rattle.spec_fiber.specs.Work.{Work}
use Rattle.spec_fiber.specs.Work as work

-- ## Statements

-- `both` and `first` have branches; the other forms may have none
abbrev pub HasBranches : Group → Blocks → Type 0
HasBranches Both NoBlocks = ⊥
HasBranches First NoBlocks = ⊥
HasBranches group branches = Unit {0}

unfoldable mutual
  pub IsBuilt : Statement → Type 0
  IsBuilt (Let e) = Unit {0}
  IsBuilt (LetForm form) = IsBuilt form
  IsBuilt (If test first second) = IsBuiltBlock first × IsBuiltBlock second
  IsBuilt (Give e) = Unit {0}
  IsBuilt (Raise text) = Unit {0}
  IsBuilt (Try tried handler) = IsBuiltBlock tried × IsBuiltBlock handler
  IsBuilt (Repeat times body) = IsBuiltBlock body
  IsBuilt (Loop body) = IsBuiltBlock body
  IsBuilt (Trace operands) = Unit {0}
  IsBuilt Yield = Unit {0}
  IsBuilt Check = Unit {0}
  IsBuilt AwaitCancel = Unit {0}
  IsBuilt (Sub body) = IsBuiltBlock body
  IsBuilt (Protect body) = IsBuiltBlock body
  IsBuilt (Cancel context text) = Unit {0}
  IsBuilt (Switch body) = IsBuiltBlock body
  IsBuilt (Fork Plain switch body) = IsBuiltBlock body
  IsBuilt (Fork Daemon switch body) = IsBuiltBlock body
  IsBuilt (Fail switch text) = Unit {0}
  IsBuilt (OnRelease switch handler) = IsBuiltBlock handler
  IsBuilt (Branches group branches) = HasBranches group branches × AreBuiltBranches branches
  IsBuilt statement = ⊥

  pub IsBuiltBlock : Block → Type 0
  IsBuiltBlock (Begins number items) = AreBuilt items

  pub AreBuiltBranches : Blocks → Type 0
  AreBuiltBranches NoBlocks = Unit {0}
  AreBuiltBranches (AndBlock block rest) = IsBuiltBlock block × AreBuiltBranches rest

  pub AreBuilt : Statements → Type 0
  AreBuilt Done = Unit {0}
  AreBuilt (Then it rest) = IsBuilt it × AreBuilt rest

-- no body has another form
abbrev pub HasBuiltForms : Script → Type 0
HasBuiltForms script = All IsBuiltBlock script.bodies

-- ## Work and calls

-- what is left to a fiber of these forms
abbrev pub IsBuiltWork : Work → Type 0
IsBuiltWork (work.Run items) = AreBuilt items
IsBuiltWork (work.Cut keep) = Unit {0}
IsBuiltWork (work.Restore variables) = Unit {0}
IsBuiltWork (work.Try handler keep) = IsBuiltBlock handler
IsBuiltWork (work.Bind slot) = Unit {0}
IsBuiltWork (work.Loop body keep) = IsBuiltBlock body
IsBuiltWork (work.Repeat turn left body keep) = IsBuiltBlock body
IsBuiltWork (work.Leave context late keep) = Unit {0}
IsBuiltWork (work.Close switch keep) = Unit {0}
IsBuiltWork (work.Closing switch kept) = Unit {0}
IsBuiltWork (work.Join group keep) = Unit {0}
IsBuiltWork item = ⊥

abbrev pub AreBuiltWork : List Work → Type 0
AreBuiltWork [] = Unit {0}
AreBuiltWork (item ∷ items) = IsBuiltWork item × AreBuiltWork items

-- what it calls
abbrev pub IsBuiltCall : Ask → Type 0
IsBuiltCall (ask.Trace values) = Unit {0}
IsBuiltCall ask.Yield = Unit {0}
IsBuiltCall ask.Check = Unit {0}
IsBuiltCall ask.AwaitCancel = Unit {0}
IsBuiltCall ask.Turn = Unit {0}
IsBuiltCall (ask.Sub body) = IsBuiltBlock body
IsBuiltCall (ask.Protect body) = IsBuiltBlock body
IsBuiltCall (ask.Cancel context text) = Unit {0}
IsBuiltCall (ask.Switch body) = IsBuiltBlock body
IsBuiltCall (ask.Fork Plain switch body) = IsBuiltBlock body
IsBuiltCall (ask.Fork Daemon switch body) = IsBuiltBlock body
IsBuiltCall (ask.Fail switch text) = Unit {0}
IsBuiltCall (ask.OnRelease switch handler) = IsBuiltBlock handler
IsBuiltCall (ask.Branches group branches) = (1 ≤ length branches) × All IsBuiltBlock branches
IsBuiltCall (ask.Leave context late it) = Unit {0}
IsBuiltCall (ask.Close switch came kept) = Unit {0}
IsBuiltCall (ask.Join group own) = Unit {0}
IsBuiltCall (ask.End it) = Unit {0}
IsBuiltCall call = ⊥
