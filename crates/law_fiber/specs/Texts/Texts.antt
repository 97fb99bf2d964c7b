-- Which texts and exceptions stand in what a fiber is and does: in its statements, its values, its work and its calls.
-- Statements name texts of their script, which never changes. Values and exceptions hold texts of a table, behind which others may be put.
use Rattle.std.specs.Prelude.{◌≡◌, ℕ, List, ◌++◌, Contains, IfSome}
use Rattle.std.specs.List.{AllByRecursion as Each}
use Rattle.eio_value.specs.Exceptions.{HasTextsOfPlain}
use Rattle.eio_value.specs.Table.{HasText}
use Rattle.eio_value.specs.declared.plain.Plain.{Plain}
use Rattle.eio_value.specs.declared.raised.Outcome.{Outcome}
use Rattle.eio_value.specs.declared.raised.Outcome.TheVariants as outcome
use Rattle.eio_value.specs.declared.raised.Raised.{Raised}
use Rattle.eio_value.specs.declared.raised.Raised.TheVariants as raised
use Rattle.eio_value.specs.declared.value.TextId.{TextId}
use Rattle.eio_value.specs.declared.value.Value.{Value}
use Rattle.eio_value.specs.declared.value.Value.TheVariants as value
use Rattle.spec_script.specs.Opening.{exceptions_of, opening_texts}
use Rattle.spec_script.specs.Scripts.{Script}
use Rattle.spec_script.specs.Syntax.{Expression, TextValue, Operation, Expressions, NoExpressions, AndExpression, Statement, Let, LetForm, If, Give, Raise, Try, Repeat, Loop, Trace, Sub, Protect, Cancel, Switch, Fork, Fail, OnRelease, Branches, OnObjectWith, UseRw, UsePool, Submit, Sleep, BufRead, TakeBytes, BufWrite, Put, OpenDir, OnPath, Save, Block, Begins, Statements, Done, Then, Blocks, NoBlocks, AndBlock}
use Rattle.spec_fiber.specs.Asks as ask
use Rattle.spec_fiber.specs.Asks.{Ask}
use Rattle.spec_fiber.specs.Settling.{Settled}
use Rattle.spec_fiber.specs.Work as work
use Rattle.spec_fiber.specs.Work.{Work}

-- what is known of each text that a statement names, and of each with which a `raise`, a `cancel` or a `fail` fails
pub record Written : Type 1 where
  pub text : TextId → Type 0
  pub failure : TextId → Type 0

-- what is known of the text of each value, and of each exception
pub record Held : Type 1 where
  pub text : TextId → Type 0
  pub exception : Plain → Type 0

-- ## Statements

unfoldable pub IsWrittenExpression : Written → Expression → Type 0
IsWrittenExpression written (TextValue text) = written.text text
IsWrittenExpression written (Operation operator left right) = IsWrittenExpression written left × IsWrittenExpression written right
IsWrittenExpression written other = Unit {0}

unfoldable pub AreWrittenExpressions : Written → Expressions → Type 0
AreWrittenExpressions written NoExpressions = Unit {0}
AreWrittenExpressions written (AndExpression e rest) = IsWrittenExpression written e × AreWrittenExpressions written rest

unfoldable mutual
  pub IsWrittenStatement : Written → Statement → Type 0
  IsWrittenStatement written (Let e) = IsWrittenExpression written e
  IsWrittenStatement written (LetForm form) = IsWrittenStatement written form
  IsWrittenStatement written (If test first second) = IsWrittenExpression written test × IsWrittenBlock written first × IsWrittenBlock written second
  IsWrittenStatement written (Give e) = IsWrittenExpression written e
  IsWrittenStatement written (Raise text) = written.failure text
  IsWrittenStatement written (Try tried handler) = IsWrittenBlock written tried × IsWrittenBlock written handler
  IsWrittenStatement written (Repeat times body) = IsWrittenExpression written times × IsWrittenBlock written body
  IsWrittenStatement written (Loop body) = IsWrittenBlock written body
  IsWrittenStatement written (Trace operands) = AreWrittenExpressions written operands
  IsWrittenStatement written (Sub body) = IsWrittenBlock written body
  IsWrittenStatement written (Protect body) = IsWrittenBlock written body
  IsWrittenStatement written (Cancel context text) = written.failure text
  IsWrittenStatement written (Switch body) = IsWrittenBlock written body
  IsWrittenStatement written (Fork forking switch body) = IsWrittenBlock written body
  IsWrittenStatement written (Fail switch text) = written.failure text
  IsWrittenStatement written (OnRelease switch handler) = IsWrittenBlock written handler
  IsWrittenStatement written (Branches group branches) = AreWrittenBlocks written branches
  IsWrittenStatement written (OnObjectWith call object operand) = IsWrittenExpression written operand
  IsWrittenStatement written (UseRw mutex body) = IsWrittenBlock written body
  IsWrittenStatement written (UsePool pool body) = IsWrittenBlock written body
  IsWrittenStatement written (Submit executor weight captured job) = IsWrittenBlock written job
  IsWrittenStatement written (Sleep time) = IsWrittenExpression written time
  IsWrittenStatement written (BufRead flow limit body) = IsWrittenBlock written body
  IsWrittenStatement written (TakeBytes reader count) = IsWrittenExpression written count
  IsWrittenStatement written (BufWrite flow body) = IsWrittenBlock written body
  IsWrittenStatement written (Put writer operand) = IsWrittenExpression written operand
  IsWrittenStatement written (OpenDir directory path body) = IsWrittenExpression written path × IsWrittenBlock written body
  IsWrittenStatement written (OnPath call directory path) = IsWrittenExpression written path
  IsWrittenStatement written (Save only_new directory path content) = IsWrittenExpression written path × IsWrittenExpression written content
  IsWrittenStatement written other = Unit {0}

  pub IsWrittenBlock : Written → Block → Type 0
  IsWrittenBlock written (Begins number items) = AreWritten written items

  pub AreWritten : Written → Statements → Type 0
  AreWritten written Done = Unit {0}
  AreWritten written (Then it rest) = IsWrittenStatement written it × AreWritten written rest

  pub AreWrittenBlocks : Written → Blocks → Type 0
  AreWrittenBlocks written NoBlocks = Unit {0}
  AreWrittenBlocks written (AndBlock block rest) = IsWrittenBlock written block × AreWrittenBlocks written rest

-- ## Values and exceptions

abbrev pub IsHeldValue : Held → Value → Type 0
IsHeldValue held (value.Text text) = held.text text
IsHeldValue held other = Unit {0}

abbrev pub AreHeldValues : Held → List Value → Type 0
AreHeldValues held variables = Each (IsHeldValue held) variables

abbrev pub IsHeldRaised : Held → Raised → Type 0
IsHeldRaised held (raised.One member) = held.exception member.what
IsHeldRaised held (raised.Cancelled member) = held.exception member.what
IsHeldRaised held (raised.Many several) = Each (λ member. held.exception member.what) several.members

abbrev pub IsHeldOutcome : Held → Outcome → Type 0
IsHeldOutcome held (outcome.Ok it) = IsHeldValue held it
IsHeldOutcome held (outcome.Err raised) = IsHeldRaised held raised

-- ## Work and calls

abbrev pub IsTextedItem : Written → Held → Work → Type 0
IsTextedItem written held (work.Run items) = AreWritten written items
IsTextedItem written held (work.Restore variables) = AreHeldValues held variables
IsTextedItem written held (work.Try handler keep) = IsWrittenBlock written handler
IsTextedItem written held (work.Loop body keep) = IsWrittenBlock written body
IsTextedItem written held (work.Repeat turn left body keep) = IsWrittenBlock written body
IsTextedItem written held (work.Closing switch kept) = IsHeldValue held kept
IsTextedItem written held (work.Locking mutex body) = IsWrittenBlock written body
IsTextedItem written held (work.Using pool body) = IsWrittenBlock written body
IsTextedItem written held other = Unit {0}

abbrev pub IsTextedWork : Written → Held → List Work → Type 0
IsTextedWork written held rest = Each (IsTextedItem written held) rest

abbrev pub IsTextedCall : Written → Held → Ask → Type 0
IsTextedCall written held (ask.Trace values) = AreHeldValues held values
IsTextedCall written held (ask.Sub body) = IsWrittenBlock written body
IsTextedCall written held (ask.Protect body) = IsWrittenBlock written body
IsTextedCall written held (ask.Cancel context text) = written.failure text
IsTextedCall written held (ask.Switch body) = IsWrittenBlock written body
IsTextedCall written held (ask.Fork forking switch body) = IsWrittenBlock written body
IsTextedCall written held (ask.Fail switch text) = written.failure text
IsTextedCall written held (ask.OnRelease switch handler) = IsWrittenBlock written handler
IsTextedCall written held (ask.Branches group blocks) = Each (IsWrittenBlock written) blocks
IsTextedCall written held (ask.OnObjectWith call object it) = IsHeldValue held it
IsTextedCall written held (ask.Submit executor weight given job) = AreHeldValues held given × IsWrittenBlock written job
IsTextedCall written held (ask.OpenReader flow limit body) = IsWrittenBlock written body
IsTextedCall written held (ask.OpenWriter flow body) = IsWrittenBlock written body
IsTextedCall written held (ask.PutText writer text) = held.text text
IsTextedCall written held (ask.OpenDirectory place path body) = held.text path × IsWrittenBlock written body
IsTextedCall written held (ask.OnPath call place path) = held.text path
IsTextedCall written held (ask.Save only_new place path content) = held.text path × held.text content
IsTextedCall written held (ask.Leave context late it) = IsHeldOutcome held it
IsTextedCall written held (ask.Close switch failed kept) = IfSome failed (IsHeldRaised held) × IsHeldValue held kept
IsTextedCall written held (ask.Join group own) = IfSome own (IsHeldOutcome held)
IsTextedCall written held (ask.ShutReader reader it) = IsHeldOutcome held it
IsTextedCall written held (ask.ShutWriter writer it) = IsHeldOutcome held it
IsTextedCall written held (ask.UnlockEnd mutex it) = IsHeldValue held it
IsTextedCall written held (ask.PoisonEnd mutex raised) = IsHeldRaised held raised
IsTextedCall written held (ask.PutEnd pool resource it) = IsHeldOutcome held it
IsTextedCall written held (ask.ResolveEnd promise it) = IsHeldOutcome held it
IsTextedCall written held (ask.End it) = IsHeldOutcome held it
IsTextedCall written held call = Unit {0}

-- the next call of a fiber, what it leaves behind and what it carries then
pub record IsTextedSettled (written : Written) (held : Held) (s : Settled) : Type 0 where
  pub call : IsTextedCall written held s.call
  pub behind : IsTextedWork written held s.behind
  pub variables : AreHeldValues held s.carry.variables

-- ## What is known

-- a text stands in the script's table, and one with which a fiber may fail among those that are listed
abbrev pub written_in : Script → Written
written_in script = record { text = HasText script.texts; failure = Contains script.failures }

-- this table has the texts
abbrev pub in_table : List (List ℕ) → Held
in_table texts = record { text = HasText texts; exception = HasTextsOfPlain texts }

-- the table with which the script starts has the texts, and the exceptions are those whose texts it has from the start
abbrev pub known_in : Script → Held
known_in script = record { text = HasText (opening_texts script); exception = Contains (exceptions_of script) }

-- a table with the same texts in front, and maybe others behind them
abbrev pub BeginsWith : (old new : List (List ℕ)) → Type 0
BeginsWith old new = (more : List (List ℕ)) × (new ≡ old ++ more)
