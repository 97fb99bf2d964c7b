-- What is left of soundness, and of being shared, in whatever a fiber has still to do: no form for the mocked domain alone in any depth, and the number of
-- each object is that of a declaration.
use Rattle.std.proofs.Common.{◌≡◌, ℕ, zero, suc, ◌<◌, ◌++◌, List, [], ◌∷◌, length, Some, arith}
use Rattle.std.specs.Prelude.{slice_get}
use Rattle.spec_script.specs.Syntax as syntax
use Rattle.spec_script.specs.Syntax.{Forking, Promising, ObjectCall, ObjectCallWith, Statement, LetForm, If, Try, Repeat, Loop, Sub, Protect, Switch, Fork, OnRelease, Branches, OnObject, OnObjectWith, UseRw, UsePool, Submit, Sleep, Now, BufRead, OnReader, TakeBytes, Copy, BufWrite, Put, OpenDir, OnPath, Save, Block, Begins, Statements, Done, Then, Blocks, NoBlocks, AndBlock}
use Rattle.spec_fiber.specs.Numbered.{blocks_of_statement, blocks_of_branches, blocks_from, blocks_of_statements}
use Rattle.spec_fiber.specs.Silent.{blocks_of}
use Rattle.law_script.specs.Scripts.Sharing.{IsSharedStatement, IsSharedBlock, AreSharedStatements, AreSharedBlocks}
use Rattle.law_script.specs.Scripts.Soundness.{Known, IsSoundForking, IsSoundStatement, IsSoundBlock, AreSoundStatements, AreSoundBlocks}

-- a promise that a fork resolves is declared
abbrev pub IsPlainForking : (objects : ℕ) → Forking → Type 0
IsPlainForking objects (Promising promise) = promise < objects
IsPlainForking objects forking = Unit {0}

unfoldable mutual
  pub IsPlainStatement : (objects : ℕ) → Statement → Type 0
  IsPlainStatement objects (LetForm form) = IsPlainStatement objects form
  IsPlainStatement objects (If test first second) = IsPlainBlock objects first × IsPlainBlock objects second
  IsPlainStatement objects (Try tried handler) = IsPlainBlock objects tried × IsPlainBlock objects handler
  IsPlainStatement objects (Repeat times body) = IsPlainBlock objects body
  IsPlainStatement objects (Loop body) = IsPlainBlock objects body
  IsPlainStatement objects (Sub body) = IsPlainBlock objects body
  IsPlainStatement objects (Protect body) = IsPlainBlock objects body
  IsPlainStatement objects (Switch body) = IsPlainBlock objects body
  IsPlainStatement objects (Fork forking switch body) = IsPlainForking objects forking × IsPlainBlock objects body
  IsPlainStatement objects (OnRelease switch handler) = IsPlainBlock objects handler
  IsPlainStatement objects (Branches group blocks) = ArePlainBlocks objects blocks
  IsPlainStatement objects (OnObject call object) = object < objects
  IsPlainStatement objects (OnObjectWith call object operand) = object < objects
  IsPlainStatement objects (UseRw mutex body) = (mutex < objects) × IsPlainBlock objects body
  IsPlainStatement objects (UsePool pool body) = (pool < objects) × IsPlainBlock objects body
  IsPlainStatement objects (Submit executor weight captured job) = (executor < objects) × IsPlainBlock objects job
  IsPlainStatement objects (Sleep time) = ⊥
  IsPlainStatement objects Now = ⊥
  IsPlainStatement objects (BufRead flow limit body) = ⊥
  IsPlainStatement objects (OnReader call reader) = ⊥
  IsPlainStatement objects (TakeBytes reader count) = ⊥
  IsPlainStatement objects (Copy from to) = ⊥
  IsPlainStatement objects (BufWrite flow body) = ⊥
  IsPlainStatement objects (Put writer operand) = ⊥
  IsPlainStatement objects (OpenDir directory path body) = ⊥
  IsPlainStatement objects (OnPath call directory path) = ⊥
  IsPlainStatement objects (Save only_new directory path content) = ⊥
  IsPlainStatement objects other = Unit {0}

  pub IsPlainBlock : (objects : ℕ) → Block → Type 0
  IsPlainBlock objects (Begins number items) = ArePlainStatements objects items

  pub ArePlainStatements : (objects : ℕ) → Statements → Type 0
  ArePlainStatements objects Done = Unit {0}
  ArePlainStatements objects (Then it rest) = IsPlainStatement objects it × ArePlainStatements objects rest

  pub ArePlainBlocks : (objects : ℕ) → Blocks → Type 0
  ArePlainBlocks objects NoBlocks = Unit {0}
  ArePlainBlocks objects (AndBlock block rest) = IsPlainBlock objects block × ArePlainBlocks objects rest

-- the same of a list
abbrev pub ArePlain : (objects : ℕ) → List Block → Type 0
ArePlain objects [] = Unit {0}
ArePlain objects (block ∷ blocks) = IsPlainBlock objects block × ArePlain objects blocks

pub plain_append : (objects : ℕ) (a b : List Block) → ArePlain objects a → ArePlain objects b → ArePlain objects (a ++ b)
plain_append objects [] b h k = k
plain_append objects (block ∷ a) b h k = (h.0, plain_append objects a b h.1 k)

pub plain_listed : (objects : ℕ) (blocks : Blocks) → ArePlainBlocks objects blocks → ArePlain objects (blocks_of blocks)
unfolding ArePlainBlocks
plain_listed objects NoBlocks h = tt
plain_listed objects (AndBlock block rest) h = (h.0, plain_listed objects rest h.1)

-- ## Of sound and shared statements

-- what stands under a number has a number below the length
pub stands_below : {A : Type 0} (xs : List A) (n : ℕ) (x : A) → slice_get xs n ≡ Some x → n < length xs
stands_below [] n x e = absurd (cc)
stands_below (y ∷ ys) zero x e = omega arith
stands_below (y ∷ ys) (suc n) x e = let below = stands_below ys n x e in omega (arith, below)

abbrev pub objects_of : Known → ℕ
objects_of known = length known.declared

forking_is_plain : (known : Known) (forking : Forking) → IsSoundForking known forking → IsPlainForking (objects_of known) forking
forking_is_plain known (Promising promise) sound = stands_below known.declared promise _ sound
forking_is_plain known syntax.Plain sound = tt
forking_is_plain known syntax.Daemon sound = tt

object_below : (known : Known) (call : ObjectCall) (object : ℕ) → IsSoundStatement known (OnObject call object) → object < objects_of known
unfolding IsSoundStatement
object_below known syntax.Take object sound = stands_below known.declared object _ sound
object_below known syntax.TakeNonblocking object sound = stands_below known.declared object _ sound
object_below known syntax.Length object sound = stands_below known.declared object _ sound
object_below known syntax.Await object sound = stands_below known.declared object _ sound
object_below known syntax.Acquire object sound = stands_below known.declared object _ sound
object_below known syntax.Release object sound = stands_below known.declared object _ sound
object_below known syntax.Lock object sound = stands_below known.declared object _ sound
object_below known syntax.TryLock object sound = stands_below known.declared object _ sound
object_below known syntax.Unlock object sound = stands_below known.declared object _ sound

object_below_with : (known : Known) (call : ObjectCallWith) (object : ℕ) (operand : syntax.Expression) → IsSoundStatement known (OnObjectWith call object operand) → object < objects_of known
unfolding IsSoundStatement
object_below_with known syntax.Add object operand sound = stands_below known.declared object _ sound.0
object_below_with known syntax.Resolve object operand sound = stands_below known.declared object _ sound.0
object_below_with known syntax.TryResolve object operand sound = stands_below known.declared object _ sound.0

mutual
  unfolding IsSoundStatement IsSoundBlock AreSoundStatements AreSoundBlocks IsSharedStatement IsSharedBlock AreSharedStatements AreSharedBlocks IsPlainStatement IsPlainBlock ArePlainStatements ArePlainBlocks

  statement_is_plain : (known : Known) (it : Statement) → IsSoundStatement known it → IsSharedStatement it → IsPlainStatement (objects_of known) it
  statement_is_plain known (LetForm form) sound shared = statement_is_plain known form sound shared
  statement_is_plain known (If test first second) sound shared = (block_is_plain known first sound.1 shared.0, block_is_plain known second sound.2 shared.1)
  statement_is_plain known (Try tried handler) sound shared = (block_is_plain known tried sound.0 shared.0, block_is_plain _ handler sound.1 shared.1)
  statement_is_plain known (Repeat times body) sound shared = block_is_plain _ body sound.1 shared
  statement_is_plain known (Loop body) sound shared = block_is_plain known body sound shared
  statement_is_plain known (Sub body) sound shared = block_is_plain _ body sound shared
  statement_is_plain known (Protect body) sound shared = block_is_plain known body sound shared
  statement_is_plain known (Switch body) sound shared = block_is_plain _ body sound shared
  statement_is_plain known (Fork forking switch body) sound shared = (forking_is_plain known forking sound.0, block_is_plain known body sound.2 shared)
  statement_is_plain known (OnRelease switch handler) sound shared = block_is_plain known handler sound.1 shared
  statement_is_plain known (Branches group blocks) sound shared = blocks_are_plain known blocks sound.0 shared
  statement_is_plain known (OnObject call object) sound shared = object_below known call object sound
  statement_is_plain known (OnObjectWith call object operand) sound shared = object_below_with known call object operand sound
  statement_is_plain known (UseRw mutex body) sound shared = (stands_below known.declared mutex _ sound.0, block_is_plain known body sound.1 shared)
  statement_is_plain known (UsePool pool body) sound shared = (stands_below known.declared pool _ sound.0, block_is_plain _ body sound.1 shared)
  statement_is_plain known (Submit executor weight captured job) sound shared = (stands_below known.declared executor _ sound.0, block_is_plain _ job sound.4 shared)
  statement_is_plain known (Sleep time) sound shared = absurd shared
  statement_is_plain known Now sound shared = absurd shared
  statement_is_plain known (BufRead flow limit body) sound shared = absurd shared
  statement_is_plain known (OnReader call reader) sound shared = absurd shared
  statement_is_plain known (TakeBytes reader count) sound shared = absurd shared
  statement_is_plain known (Copy from to) sound shared = absurd shared
  statement_is_plain known (BufWrite flow body) sound shared = absurd shared
  statement_is_plain known (Put writer operand) sound shared = absurd shared
  statement_is_plain known (OpenDir directory path body) sound shared = absurd shared
  statement_is_plain known (OnPath call directory path) sound shared = absurd shared
  statement_is_plain known (Save only_new directory path content) sound shared = absurd shared
  statement_is_plain known other sound shared = tt

  pub block_is_plain : (known : Known) (it : Block) → IsSoundBlock known it → IsSharedBlock it → IsPlainBlock (objects_of known) it
  block_is_plain known (Begins number items) sound shared = statements_are_plain known items sound shared

  statements_are_plain : (known : Known) (items : Statements) → AreSoundStatements known items → AreSharedStatements items → ArePlainStatements (objects_of known) items
  statements_are_plain known Done sound shared = tt
  statements_are_plain known (Then (syntax.Let e) rest) sound shared = (tt, statements_are_plain _ rest sound.1 shared.1)
  statements_are_plain known (Then (LetForm form) rest) sound shared = (statement_is_plain known (LetForm form) sound.0 shared.0, statements_are_plain _ rest sound.1 shared.1)
  statements_are_plain known (Then it rest) sound shared = (statement_is_plain known it sound.0 shared.0, statements_are_plain known rest sound.1 shared.1)

  blocks_are_plain : (known : Known) (blocks : Blocks) → AreSoundBlocks known blocks → AreSharedBlocks blocks → ArePlainBlocks (objects_of known) blocks
  blocks_are_plain known NoBlocks sound shared = tt
  blocks_are_plain known (AndBlock block rest) sound shared = (block_is_plain known block sound.0 shared.0, blocks_are_plain known rest sound.1 shared.1)

-- ## The blocks inside

mutual
  unfolding blocks_of_statement blocks_of_branches blocks_from blocks_of_statements IsPlainStatement IsPlainBlock ArePlainStatements ArePlainBlocks

  inside_statement : (objects : ℕ) (it : Statement) → IsPlainStatement objects it → ArePlain objects (blocks_of_statement it)
  inside_statement objects (LetForm form) plain = inside_statement objects form plain
  inside_statement objects (If test first second) plain = plain_append objects (blocks_from first) (blocks_from second) (inside_block objects first plain.0) (inside_block objects second plain.1)
  inside_statement objects (Try tried handler) plain = plain_append objects (blocks_from tried) (blocks_from handler) (inside_block objects tried plain.0) (inside_block objects handler plain.1)
  inside_statement objects (Repeat times body) plain = inside_block objects body plain
  inside_statement objects (Loop body) plain = inside_block objects body plain
  inside_statement objects (Sub body) plain = inside_block objects body plain
  inside_statement objects (Protect body) plain = inside_block objects body plain
  inside_statement objects (Switch body) plain = inside_block objects body plain
  inside_statement objects (Fork forking switch body) plain = inside_block objects body plain.1
  inside_statement objects (OnRelease switch handler) plain = inside_block objects handler plain
  inside_statement objects (Branches group blocks) plain = inside_blocks objects blocks plain
  inside_statement objects (UseRw mutex body) plain = inside_block objects body plain.1
  inside_statement objects (UsePool pool body) plain = inside_block objects body plain.1
  inside_statement objects (Submit executor weight captured job) plain = inside_block objects job plain.1
  inside_statement objects (BufRead flow limit body) plain = absurd plain
  inside_statement objects (BufWrite flow body) plain = absurd plain
  inside_statement objects (OpenDir directory path body) plain = absurd plain
  inside_statement objects other plain = tt

  pub inside_block : (objects : ℕ) (it : Block) → IsPlainBlock objects it → ArePlain objects (blocks_from it)
  inside_block objects (Begins number items) plain = (plain, inside_statements objects items plain)

  inside_statements : (objects : ℕ) (items : Statements) → ArePlainStatements objects items → ArePlain objects (blocks_of_statements items)
  inside_statements objects Done plain = tt
  inside_statements objects (Then it rest) plain = plain_append objects (blocks_of_statement it) (blocks_of_statements rest) (inside_statement objects it plain.0) (inside_statements objects rest plain.1)

  inside_blocks : (objects : ℕ) (blocks : Blocks) → ArePlainBlocks objects blocks → ArePlain objects (blocks_of_branches blocks)
  inside_blocks objects NoBlocks plain = tt
  inside_blocks objects (AndBlock block rest) plain = plain_append objects (blocks_from block) (blocks_of_branches rest) (inside_block objects block plain.0) (inside_blocks objects rest plain.1)
