-- Each text of a script stands in its table.
use Rattle.std.specs.Prelude.{ℕ, ◌<◌, length}
use Rattle.std.specs.List.{AllByRecursion as Each}
use Rattle.eio_value.specs.declared.flow_step.FlowStep.{FlowStep}
use Rattle.eio_value.specs.declared.flow_step.FlowStep.TheVariants.{Fault}
use Rattle.eio_value.specs.declared.value.TextId.{TextId}
use Rattle.spec_script.specs.Declarations.{Declaration, Flow}
use Rattle.spec_script.specs.Scripts.{Script}
use Rattle.spec_script.specs.Syntax.{Expression, TextValue, Operation, Expressions, NoExpressions, AndExpression, Statement, Let, LetForm, If, Give, Raise, Try, Repeat, Loop, Trace, Sub, Protect, Cancel, Switch, Fork, Fail, OnRelease, Branches, OnObjectWith, UseRw, UsePool, Submit, Sleep, BufRead, TakeBytes, BufWrite, Put, OpenDir, OnPath, Save, Block, Begins, Statements, Done, Then, Blocks, NoBlocks, AndBlock}
use Rattle.script_forms.specs.declared.node.Node.{Node}
use Rattle.script_forms.specs.declared.node.Node.TheVariants as node

-- it has a number below that of all texts
abbrev pub IsAmong : (texts : ℕ) → TextId → Type 0
IsAmong texts id = id.0 < texts

unfoldable pub HasTextsOf : (texts : ℕ) → Expression → Type 0
HasTextsOf texts (TextValue id) = IsAmong texts id
HasTextsOf texts (Operation operator left right) = HasTextsOf texts left × HasTextsOf texts right
HasTextsOf texts other = Unit {0}

unfoldable pub HaveTextsOf : (texts : ℕ) → Expressions → Type 0
HaveTextsOf texts NoExpressions = Unit {0}
HaveTextsOf texts (AndExpression e rest) = HasTextsOf texts e × HaveTextsOf texts rest

unfoldable mutual
  pub HasTextsOfStatement : (texts : ℕ) → Statement → Type 0
  HasTextsOfStatement texts (Let e) = HasTextsOf texts e
  HasTextsOfStatement texts (LetForm form) = HasTextsOfStatement texts form
  HasTextsOfStatement texts (If e first second) = HasTextsOf texts e × HasTextsOfBlock texts first × HasTextsOfBlock texts second
  HasTextsOfStatement texts (Give e) = HasTextsOf texts e
  HasTextsOfStatement texts (Raise id) = IsAmong texts id
  HasTextsOfStatement texts (Try tried handler) = HasTextsOfBlock texts tried × HasTextsOfBlock texts handler
  HasTextsOfStatement texts (Repeat e body) = HasTextsOf texts e × HasTextsOfBlock texts body
  HasTextsOfStatement texts (Loop body) = HasTextsOfBlock texts body
  HasTextsOfStatement texts (Trace es) = HaveTextsOf texts es
  HasTextsOfStatement texts (Sub body) = HasTextsOfBlock texts body
  HasTextsOfStatement texts (Protect body) = HasTextsOfBlock texts body
  HasTextsOfStatement texts (Cancel context id) = IsAmong texts id
  HasTextsOfStatement texts (Switch body) = HasTextsOfBlock texts body
  HasTextsOfStatement texts (Fork forking switch body) = HasTextsOfBlock texts body
  HasTextsOfStatement texts (Fail switch id) = IsAmong texts id
  HasTextsOfStatement texts (OnRelease switch body) = HasTextsOfBlock texts body
  HasTextsOfStatement texts (Branches group blocks) = HaveTextsOfBlocks texts blocks
  HasTextsOfStatement texts (OnObjectWith call object e) = HasTextsOf texts e
  HasTextsOfStatement texts (UseRw mutex body) = HasTextsOfBlock texts body
  HasTextsOfStatement texts (UsePool pool body) = HasTextsOfBlock texts body
  HasTextsOfStatement texts (Submit executor weight captured body) = HasTextsOfBlock texts body
  HasTextsOfStatement texts (Sleep e) = HasTextsOf texts e
  HasTextsOfStatement texts (BufRead flow limit body) = HasTextsOfBlock texts body
  HasTextsOfStatement texts (TakeBytes reader e) = HasTextsOf texts e
  HasTextsOfStatement texts (BufWrite flow body) = HasTextsOfBlock texts body
  HasTextsOfStatement texts (Put writer e) = HasTextsOf texts e
  HasTextsOfStatement texts (OpenDir directory e body) = HasTextsOf texts e × HasTextsOfBlock texts body
  HasTextsOfStatement texts (OnPath call directory e) = HasTextsOf texts e
  HasTextsOfStatement texts (Save only_new directory path content) = HasTextsOf texts path × HasTextsOf texts content
  HasTextsOfStatement texts other = Unit {0}

  pub HasTextsOfBlock : (texts : ℕ) → Block → Type 0
  HasTextsOfBlock texts (Begins number items) = HaveTextsOfStatements texts items

  pub HaveTextsOfStatements : (texts : ℕ) → Statements → Type 0
  HaveTextsOfStatements texts Done = Unit {0}
  HaveTextsOfStatements texts (Then it rest) = HasTextsOfStatement texts it × HaveTextsOfStatements texts rest

  pub HaveTextsOfBlocks : (texts : ℕ) → Blocks → Type 0
  HaveTextsOfBlocks texts NoBlocks = Unit {0}
  HaveTextsOfBlocks texts (AndBlock block rest) = HasTextsOfBlock texts block × HaveTextsOfBlocks texts rest

-- a node's text stands in the table
abbrev pub HasTextOfNode : (texts : ℕ) → Node → Type 0
HasTextOfNode texts (node.Text id) = IsAmong texts id
HasTextOfNode texts (node.Raise id) = IsAmong texts id
HasTextOfNode texts (node.Cancel context id) = IsAmong texts id
HasTextOfNode texts (node.Fail switch id) = IsAmong texts id
HasTextOfNode texts other = Unit {0}

-- a step of a flow, a declaration, and what a script declares
abbrev pub HasTextOfStep : (texts : ℕ) → FlowStep → Type 0
HasTextOfStep texts (Fault id) = IsAmong texts id
HasTextOfStep texts other = Unit {0}

abbrev pub HasTextsOfDeclaration : (texts : ℕ) → Declaration → Type 0
HasTextsOfDeclaration texts (Flow steps) = Each (HasTextOfStep texts) steps
HasTextsOfDeclaration texts other = Unit {0}

pub record HasDeclaredTexts (script : Script) : Type 0 where
  pub names : Each (IsAmong (length script.texts)) script.names
  pub declarations : Each (HasTextsOfDeclaration (length script.texts)) script.declarations

-- the texts of a script's bodies
abbrev pub HasBodyTexts : Script → Type 0
HasBodyTexts script = Each (HasTextsOfBlock (length script.texts)) script.bodies
