-- What a node says of the statement that it begins, and the steps of statements by it.
use Rattle.std.proofs.Common.{◌≡◌, ℕ, List, sym, ap, ◌∙◌, subst}
use Rattle.eio_value.specs.declared.plain.Plain.{Plain}
use Rattle.eio_value.specs.declared.value.Value.{Value}
use Rattle.spec_script.specs.Syntax.{Statement, Then}
use Rattle.script_code.specs.Standing.{statements_at, States, Stands}
use Rattle.script_code.specs.Texted.{HasTextOfNode}
use Rattle.script_forms.specs.declared.node.Node.{Node}
use Rattle.spec_fiber.specs.Evaluation.{Evaluated, Is, Raises}
use Rattle.spec_fiber.specs.Silent.{Went, asks, raises, statement, with_value}
use Rattle.spec_fiber.specs.Work.{Carry}
use Rattle.fiber_step.specs.Calling.{first_statement, statement_at}
use Rattle.fiber_step.specs.Having.{HasStatements, BeginsStatement, HasParts}
use Rattle.fiber_step.specs.Standing.{ask_of}
use Rattle.fiber_step.specs.Stepping.{StatementGoes, IsRaise, HasBodiesOf, HasTextOfAsk, IsStepped}
use Rattle.fiber_step.specs.declared.ask.Ask.{Ask}
use Rattle.fiber_step.specs.declared.step.Step.TheVariants as step
use Rattle.fiber_step.proofs.Parts.{has_parts}
use Rattle.fiber_step.proofs.Places.{IsAt}

-- ## Nodes

-- what a node says, and what belongs to it
pub record Knows (nodes : List Node) (texts at : ℕ) (n : Node) : Type 0 where
  pub stands : Stands nodes at n
  pub parts : HasParts nodes at n
  pub text : HasTextOfNode texts n

pub knows_node : (nodes : List Node) (texts at : ℕ) (n : Node) → BeginsStatement nodes at → IsAt nodes at n → Stands nodes at n → HasTextOfNode texts n → Knows nodes texts at n
knows_node nodes texts at n begins is stands text = record { stands = stands; parts = has_parts nodes at n begins is; text = text }

pub known_at : (nodes : List Node) (texts at : ℕ) (n m : Node) → Knows nodes texts at n → n ≡ m → Knows nodes texts at m
known_at nodes texts at n m knows e = subst (λ it. Knows nodes texts at it) e knows

-- ## Statements

pub goes_by : (nodes : List Node) (at : ℕ) (variables : List Value) (it : Statement) (after : ℕ) (went : Carry → Went) → States nodes at it after
    → ((c : Carry) → c.variables ≡ variables → statement it c ≡ went c) → StatementGoes nodes at variables went
goes_by nodes at variables it after went says goes = λ c same. ap (λ these. statement (first_statement these) c) says ∙ goes c same

pub follows : (nodes : List Node) (at : ℕ) (it : Statement) (after : ℕ) → States nodes at it after → statements_at nodes at ≡ Then (statement_at nodes at) (statements_at nodes after)
follows nodes at it after says = says ∙ ap (λ these. Then (first_statement these) (statements_at nodes after)) (sym says)

-- ## Calls

abbrev pub IsCallStep : List Node → (texts at : ℕ) → List Value → Ask → (after : ℕ) → Type 0
IsCallStep nodes texts at variables call after = IsStepped nodes texts at variables (record { step = step.Calls call; after = after })

call_by : (nodes : List Node) (texts at : ℕ) (variables : List Value) (it : Statement) (call : Ask) (after : ℕ) → States nodes at it after → HasStatements nodes after → HasBodiesOf nodes call → HasTextOfAsk texts call
    → ((c : Carry) → c.variables ≡ variables → statement it c ≡ asks (ask_of nodes call) c) → IsCallStep nodes texts at variables call after
call_by nodes texts at variables it call after says left bodies text goes = record {
  is = goes_by nodes at variables it after (λ c. asks (ask_of nodes call) c) says goes;
  after = (follows nodes at it after says, left);
  bodies = bodies;
  text = text;
  light = tt;
}

-- a statement that makes this call
pub called : (nodes : List Node) (texts at : ℕ) (variables : List Value) (it : Statement) (call made : Ask) (after behind : ℕ) → call ≡ made → after ≡ behind
    → States nodes at it behind → HasStatements nodes behind → HasBodiesOf nodes made → HasTextOfAsk texts made
    → ((c : Carry) → c.variables ≡ variables → statement it c ≡ asks (ask_of nodes made) c) → IsCallStep nodes texts at variables call after
called nodes texts at variables it call made after behind call_is after_is says left bodies text goes =
    subst (λ k. IsCallStep nodes texts at variables call k) (sym after_is) (subst (λ a. IsCallStep nodes texts at variables a behind) (sym call_is) (call_by nodes texts at variables it made behind says left bodies text goes))

-- ## Operands

pub value_gives : {A : Type 0} (e : Evaluated A) (it : A) (c : Carry) (next : A → Went) → Is it ≡ e → with_value e c next ≡ next it
value_gives e it c next is = ap (λ x. with_value x c next) (sym is)

pub value_raises : {A : Type 0} (e : Evaluated A) (what : Plain) (c : Carry) (next : A → Went) → Raises what ≡ e → with_value e c next ≡ raises what c
value_raises e what c next is = ap (λ x. with_value x c next) (sym is)

-- a statement that raises
pub raised : (nodes : List Node) (at : ℕ) (variables : List Value) (it : Statement) (after : ℕ) (what : Plain) → States nodes at it after
    → ((c : Carry) → c.variables ≡ variables → statement it c ≡ raises what c) → IsRaise nodes at variables what
raised nodes at variables it after what says goes = goes_by nodes at variables it after (λ c. raises what c) says goes
