-- Each block has the number of the node that it begins with.
use Rattle.std.specs.Prelude.{◌≡◌, ℕ, ◌+◌, ◌≤◌, List, [], ◌∷◌, ◌++◌, length}
use Rattle.spec_script.specs.Limits.{limits_of}
use Rattle.spec_script.specs.Scripts.{Script}
use Rattle.spec_script.specs.Syntax.{Statement, LetForm, If, Try, Repeat, Loop, Sub, Protect, Switch, Fork, OnRelease, Branches, UseRw, UsePool, Submit, BufRead, BufWrite, OpenDir, Block, Begins, Statements, Done, Then, Blocks, NoBlocks, AndBlock}
use Rattle.script_forms.specs.Flat.{flat_expression, flat_statement, flat_block}

unfoldable mutual
  -- in a statement whose first node has this number
  pub IsNumbered : (at : ℕ) → Statement → Type 0
  IsNumbered at (LetForm form) = IsNumbered (at + 1) form
  IsNumbered at (If e first second) =
      let test = flat_expression e in
      IsNumberedBlock (at + 1 + length test) first × IsNumberedBlock (at + 1 + length (test ++ flat_block (at + 1 + length test) first)) second
  IsNumbered at (Try tried handler) = IsNumberedBlock (at + 1) tried × IsNumberedBlock (at + 1 + length (flat_block (at + 1) tried)) handler
  IsNumbered at (Repeat times body) = IsNumberedBlock (at + 1 + length (flat_expression times)) body
  IsNumbered at (Loop body) = IsNumberedBlock (at + 1) body
  IsNumbered at (Sub body) = IsNumberedBlock (at + 1) body
  IsNumbered at (Protect body) = IsNumberedBlock (at + 1) body
  IsNumbered at (Switch body) = IsNumberedBlock (at + 1) body
  IsNumbered at (Fork forking switch body) = IsNumberedBlock (at + 1) body
  IsNumbered at (OnRelease switch handler) = IsNumberedBlock (at + 1) handler
  IsNumbered at (Branches group blocks) = AreNumberedBlocks (at + 1) blocks
  IsNumbered at (UseRw mutex body) = IsNumberedBlock (at + 1) body
  IsNumbered at (UsePool pool body) = IsNumberedBlock (at + 1) body
  IsNumbered at (Submit executor weight captured job) = IsNumberedBlock (at + 1) job
  IsNumbered at (BufRead flow limit body) = IsNumberedBlock (at + 1) body
  IsNumbered at (BufWrite flow body) = IsNumberedBlock (at + 1) body
  IsNumbered at (OpenDir directory path body) = IsNumberedBlock (at + 1 + length (flat_expression path)) body
  IsNumbered at other = Unit {0}

  pub IsNumberedBlock : (at : ℕ) → Block → Type 0
  IsNumberedBlock at (Begins number items) = (number ≡ at) × AreNumbered at items

  pub AreNumbered : (at : ℕ) → Statements → Type 0
  AreNumbered at Done = Unit {0}
  AreNumbered at (Then it rest) = IsNumbered at it × AreNumbered (at + length (flat_statement at it)) rest

  pub AreNumberedBlocks : (at : ℕ) → Blocks → Type 0
  AreNumberedBlocks at NoBlocks = Unit {0}
  AreNumberedBlocks at (AndBlock block rest) = IsNumberedBlock at block × AreNumberedBlocks (at + length (flat_block at block)) rest

-- the same of bodies, one behind the other
unfoldable pub AreNumberedBodies : (at : ℕ) → List Block → Type 0
AreNumberedBodies at [] = Unit {0}
AreNumberedBodies at (block ∷ rest) = IsNumberedBlock at block × AreNumberedBodies (at + length (flat_block at block)) rest

-- the bodies of a script, from node 0 on; main is the first, and there are as few as may be
pub record HasNumbers (script : Script) : Type 0 where
  pub numbered : AreNumberedBodies 0 script.bodies
  pub few : length script.bodies ≤ (limits_of script.version).bodies
  pub main : 1 ≤ length script.bodies
