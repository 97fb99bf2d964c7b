-- The steps of statements that go on within the fiber.
use Rattle.std.proofs.Common.{◌≡◌, ℕ, zero, suc, ◌+◌, ◌≤◌, List, ◌++◌, length, Bool, true, false, if◌then◌else◌, refl, sym, ap, ◌∙◌, subst, ℤ, pos, negsuc, arith}
use Rattle.eio_value.specs.declared.plain.Plain.{Plain}
use Rattle.eio_value.specs.declared.value.TextId.{TextId}
use Rattle.eio_value.specs.declared.value.Value.{Value}
use Rattle.eio_value.specs.declared.value.Value.TheVariants as value
use Rattle.spec_script.specs.Syntax as syntax
use Rattle.spec_script.specs.Syntax.{Expression, Statement, Statements, Block, Then}
use Rattle.script_forms.specs.Flat.{flat_statements}
use Rattle.script_code.specs.ScriptCode.{unflat_statements}
use Rattle.script_code.specs.Standing.{statements_at, block_at, expression_at, behind_expression, States}
use Rattle.script_code.specs.Unflat.{Behind, first_rest, bound, unflat}
use Rattle.script_forms.specs.declared.node.Node.{Node}
use Rattle.script_forms.specs.declared.node.Node.TheVariants as node
use Rattle.spec_fiber.specs.Evaluation.{Is, Raises, value_of, number_of}
use Rattle.spec_fiber.specs.Silent.{Past, within, is_zero, repeated, statement, block}
use Rattle.spec_fiber.specs.Work as work
use Rattle.spec_fiber.specs.Work.{Carry}
use Rattle.fiber_step.specs.Calling.{first_statement, statement_at}
use Rattle.fiber_step.specs.Having.{HasStatements, BeginsStatement}
use Rattle.fiber_step.specs.Stepping.{StatementGoes, IsRaise, IsStepped, HasFewLeft, repeats_step}
use Rattle.fiber_step.specs.Weighing.{weight_of_statement, weight_of_block}
use Rattle.fiber_step.specs.declared.step.Step.{Step}
use Rattle.fiber_step.specs.declared.step.Step.TheVariants as step
use Rattle.fiber_step.proofs.Places.{Here, IsAt}
use Rattle.fiber_step.proofs.Steps.{Knows, known_at, goes_by, follows, raised, value_gives, value_raises}

-- ## Steps

abbrev pub IsStepAt : List Node → (texts at : ℕ) → List Value → Step → (after : ℕ) → Type 0
IsStepAt nodes texts at variables it after = IsStepped nodes texts at variables (record { step = it; after = after })

pub moved_step : (nodes : List Node) (texts at : ℕ) (variables : List Value) (it made : Step) (after behind : ℕ) → it ≡ made → after ≡ behind → IsStepAt nodes texts at variables made behind → IsStepAt nodes texts at variables it after
moved_step nodes texts at variables it made after behind it_is after_is stepped =
    subst (λ k. IsStepAt nodes texts at variables it k) (sym after_is) (subst (λ s. IsStepAt nodes texts at variables s behind) (sym it_is) stepped)

-- ## Names

pub let_raises : (nodes : List Node) (texts at : ℕ) (n_at : Node) (variables : List Value) (what : Plain) → Knows nodes texts at n_at → n_at ≡ node.Let
    → Raises what ≡ value_of variables (expression_at nodes (at + 1)) → IsRaise nodes at variables what
unfolding statement
let_raises nodes texts at n_at variables what knows e is =
    let here = known_at nodes texts at n_at node.Let knows e in
    let operand = expression_at nodes (at + 1) in
    raised nodes at variables (syntax.Let operand) _ what here.stands
    (λ c same. value_raises (value_of c.variables operand) what c (λ it. Past value.Unit (work.bound (length c.variables) it c)) (is ∙ ap (λ those. value_of those operand) (sym same)))

pub let_step : (nodes : List Node) (texts at : ℕ) (n_at : Node) (variables : List Value) (it : Step) (after : ℕ) (given : Value) → Knows nodes texts at n_at → n_at ≡ node.Let
    → Is given ≡ value_of variables (expression_at nodes (at + 1)) → it ≡ step.Named given → after ≡ behind_expression nodes (at + 1) → IsStepAt nodes texts at variables it after
unfolding statement
let_step nodes texts at n_at variables it after given knows e is it_is after_is =
    let here = known_at nodes texts at n_at node.Let knows e in
    let operand = expression_at nodes (at + 1) in
    moved_step nodes texts at variables it (step.Named given) after (behind_expression nodes (at + 1)) it_is after_is (record {
      is = goes_by nodes at variables (syntax.Let operand) (behind_expression nodes (at + 1)) (λ c. Past value.Unit (work.bound (length c.variables) given c)) here.stands
          (λ c same. value_gives (value_of c.variables operand) given c (λ v. Past value.Unit (work.bound (length c.variables) v c)) (is ∙ ap (λ those. value_of those operand) (sym same)));
      after = (follows nodes at (syntax.Let operand) (behind_expression nodes (at + 1)) here.stands, here.parts.1);
      bodies = tt;
      text = tt;
      light = tt;
    })

statements_here : (nodes : List Node) (at : ℕ) (items : Statements) (behind : List Node) → Here nodes at (flat_statements at items ++ behind) → statements_at nodes at ≡ items
unfolding statements_at
statements_here nodes at items behind here =
    ap (λ these. first_rest (unflat these).blocks) here ∙ ap (λ (b : Behind). first_rest b.blocks) (unflat_statements at items behind)

form_named : (nodes : List Node) (at : ℕ) (first : Statement) (others : Statements) → statements_at nodes at ≡ bound (statements_at nodes (at + 1)) → statements_at nodes (at + 1) ≡ Then first others
    → statement_at nodes at ≡ syntax.LetForm (statement_at nodes (at + 1))
form_named nodes at first others stands next =
    ap first_statement (stands ∙ ap bound next) ∙ ap syntax.LetForm (sym (ap first_statement next))

pub form_step : (nodes : List Node) (texts at : ℕ) (n_at : Node) (variables : List Value) (it : Step) (after : ℕ) → Knows nodes texts at n_at → IsAt nodes at n_at → n_at ≡ node.LetForm
    → it ≡ step.Form → after ≡ at + 1 → IsStepAt nodes texts at variables it after
form_step nodes texts at n_at variables it after knows is e it_is after_is =
    let here = known_at nodes texts at n_at node.LetForm knows e in
    let next : BeginsStatement nodes (at + 1) = here.parts in
    moved_step nodes texts at variables it step.Form after (at + 1) it_is after_is (record {
      is = (subst (λ it. IsAt nodes at it) e is, form_named nodes at next.first next.others here.stands (statements_here nodes (at + 1) (Then next.first next.others) next.behind next.is));
      after = (refl, next);
      bodies = tt;
      text = tt;
      light = tt;
    })

-- ## Values

pub give_raises : (nodes : List Node) (texts at : ℕ) (n_at : Node) (variables : List Value) (what : Plain) → Knows nodes texts at n_at → n_at ≡ node.Give
    → Raises what ≡ value_of variables (expression_at nodes (at + 1)) → IsRaise nodes at variables what
unfolding statement
give_raises nodes texts at n_at variables what knows e is =
    let here = known_at nodes texts at n_at node.Give knows e in
    let operand = expression_at nodes (at + 1) in
    raised nodes at variables (syntax.Give operand) _ what here.stands
    (λ c same. value_raises (value_of c.variables operand) what c (λ it. Past it c) (is ∙ ap (λ those. value_of those operand) (sym same)))

pub give_step : (nodes : List Node) (texts at : ℕ) (n_at : Node) (variables : List Value) (it : Step) (after : ℕ) (given : Value) → Knows nodes texts at n_at → n_at ≡ node.Give
    → Is given ≡ value_of variables (expression_at nodes (at + 1)) → it ≡ step.Past given → after ≡ behind_expression nodes (at + 1) → IsStepAt nodes texts at variables it after
unfolding statement
give_step nodes texts at n_at variables it after given knows e is it_is after_is =
    let here = known_at nodes texts at n_at node.Give knows e in
    let operand = expression_at nodes (at + 1) in
    moved_step nodes texts at variables it (step.Past given) after (behind_expression nodes (at + 1)) it_is after_is (record {
      is = goes_by nodes at variables (syntax.Give operand) (behind_expression nodes (at + 1)) (λ c. Past given c) here.stands
          (λ c same. value_gives (value_of c.variables operand) given c (λ v. Past v c) (is ∙ ap (λ those. value_of those operand) (sym same)));
      after = (follows nodes at (syntax.Give operand) (behind_expression nodes (at + 1)) here.stands, here.parts.1);
      bodies = tt;
      text = tt;
      light = tt;
    })

pub raise_step : (nodes : List Node) (texts at : ℕ) (n_at : Node) (variables : List Value) (it : Step) (after : ℕ) (text : TextId) → Knows nodes texts at n_at → n_at ≡ node.Raise text
    → it ≡ step.Raises text → after ≡ at + 1 → IsStepAt nodes texts at variables it after
unfolding statement
raise_step nodes texts at n_at variables it after text knows e it_is after_is =
    let here = known_at nodes texts at n_at (node.Raise text) knows e in
    moved_step nodes texts at variables it (step.Raises text) after (at + 1) it_is after_is (record {
      is = goes_by nodes at variables (syntax.Raise text) (at + 1) _ here.stands (λ c same. refl);
      after = (follows nodes at (syntax.Raise text) (at + 1) here.stands, here.parts);
      bodies = tt;
      text = here.text;
      light = tt;
    })

-- ## Branching

pub if_raises : (nodes : List Node) (texts at : ℕ) (n_at : Node) (variables : List Value) (what : Plain) (n m from_here : ℕ) → Knows nodes texts at n_at → n_at ≡ node.If n m from_here
    → Raises what ≡ number_of variables (expression_at nodes (at + 1)) → IsRaise nodes at variables what
unfolding statement
if_raises nodes texts at n_at variables what n m from_here knows e is =
    let here = known_at nodes texts at n_at (node.If n m from_here) knows e in
    let operand = expression_at nodes (at + 1) in
    raised nodes at variables (syntax.If operand (block_at nodes n) (block_at nodes m)) _ what here.stands
    (λ c same. value_raises (number_of c.variables operand) what c
    (λ z. within (length c.variables) (elim (is_zero z) [ true ↦ block (block_at nodes m) c | false ↦ block (block_at nodes n) c ])) (is ∙ ap (λ those. number_of those operand) (sym same)))

chosen_goes : (nodes : List Node) (n m : ℕ) (c : Carry) (b : Bool)
    → within (length c.variables) (elim b [ true ↦ block (block_at nodes m) c | false ↦ block (block_at nodes n) c ]) ≡ within (length c.variables) (block (block_at nodes (if b then m else n)) c)
chosen_goes nodes n m c true = refl
chosen_goes nodes n m c false = refl

chosen_begins : (nodes : List Node) (n m : ℕ) (b : Bool) → HasStatements nodes n → HasStatements nodes m → HasStatements nodes (if b then m else n)
chosen_begins nodes n m true first second = second
chosen_begins nodes n m false first second = first

chosen_light : (nodes : List Node) (e : Expression) (n m : ℕ) (b : Bool) → 2 + weight_of_block (block_at nodes (if b then m else n)) ≤ weight_of_statement (syntax.If e (block_at nodes n) (block_at nodes m))
unfolding weight_of_statement
chosen_light nodes e n m true = omega arith
chosen_light nodes e n m false = omega arith

pub if_step : (nodes : List Node) (texts at : ℕ) (n_at : Node) (variables : List Value) (it : Step) (after : ℕ) (z : ℤ) (body n m from_here : ℕ) → Knows nodes texts at n_at → n_at ≡ node.If n m from_here
    → Is z ≡ number_of variables (expression_at nodes (at + 1)) → body ≡ (if is_zero z then m else n) → it ≡ step.Block body → after ≡ from_here → IsStepAt nodes texts at variables it after
unfolding statement
if_step nodes texts at n_at variables it after z body n m from_here knows e is chosen it_is after_is =
    let here = known_at nodes texts at n_at (node.If n m from_here) knows e in
    let operand = expression_at nodes (at + 1) in
    let whole = syntax.If operand (block_at nodes n) (block_at nodes m) in
    let taken : ℕ = if is_zero z then m else n in
    moved_step nodes texts at variables it (step.Block taken) after from_here (it_is ∙ ap (λ k. step.Block k) chosen) after_is (record {
      is = goes_by nodes at variables whole from_here (λ c. within (length c.variables) (block (block_at nodes taken) c)) here.stands
          (λ c same. value_gives (number_of c.variables operand) z c
          (λ z. within (length c.variables) (elim (is_zero z) [ true ↦ block (block_at nodes m) c | false ↦ block (block_at nodes n) c ])) (is ∙ ap (λ those. number_of those operand) (sym same))
          ∙ chosen_goes nodes n m c (is_zero z));
      after = (follows nodes at whole from_here here.stands, here.parts.3);
      bodies = chosen_begins nodes n m (is_zero z) here.parts.1 here.parts.2;
      text = tt;
      light = subst (λ s. 2 + weight_of_block (block_at nodes taken) ≤ weight_of_statement s) (sym (ap first_statement here.stands)) (chosen_light nodes operand n m (is_zero z));
    })

-- ## Repeating

pub repeat_raises : (nodes : List Node) (texts at : ℕ) (n_at : Node) (variables : List Value) (what : Plain) (n from_here : ℕ) → Knows nodes texts at n_at → n_at ≡ node.Repeat n from_here
    → Raises what ≡ number_of variables (expression_at nodes (at + 1)) → IsRaise nodes at variables what
unfolding statement
repeat_raises nodes texts at n_at variables what n from_here knows e is =
    let here = known_at nodes texts at n_at (node.Repeat n from_here) knows e in
    let operand = expression_at nodes (at + 1) in
    raised nodes at variables (syntax.Repeat operand (block_at nodes n)) _ what here.stands
    (λ c same. value_raises (number_of c.variables operand) what c (λ z. repeated z (block_at nodes n) c) (is ∙ ap (λ those. number_of those operand) (sym same)))

-- a `repeat` by its number of turns
repeat_by : (nodes : List Node) (texts at : ℕ) (variables : List Value) (whole : Statement) (z : ℤ) (n after : ℕ) → States nodes at whole after → HasStatements nodes n → HasStatements nodes after
    → HasFewLeft (repeats_step z n) → StatementGoes nodes at variables (λ c. repeated z (block_at nodes n) c) → IsStepAt nodes texts at variables (repeats_step z n) after
repeat_by nodes texts at variables whole (pos zero) n after says body left few goes = record { is = goes; after = (follows nodes at whole after says, left); bodies = tt; text = tt; light = tt }
repeat_by nodes texts at variables whole (pos (suc turns)) n after says body left few goes = record { is = goes; after = (follows nodes at whole after says, left); bodies = (body, few); text = tt; light = tt }
repeat_by nodes texts at variables whole (negsuc k) n after says body left few goes = record { is = goes; after = (follows nodes at whole after says, left); bodies = tt; text = tt; light = tt }

pub repeat_step : (nodes : List Node) (texts at : ℕ) (n_at : Node) (variables : List Value) (it : Step) (after : ℕ) (z : ℤ) (n from_here : ℕ) → Knows nodes texts at n_at → n_at ≡ node.Repeat n from_here
    → Is z ≡ number_of variables (expression_at nodes (at + 1)) → it ≡ repeats_step z n → HasFewLeft it → after ≡ from_here → IsStepAt nodes texts at variables it after
unfolding statement
repeat_step nodes texts at n_at variables it after z n from_here knows e is it_is few after_is =
    let here = known_at nodes texts at n_at (node.Repeat n from_here) knows e in
    let operand = expression_at nodes (at + 1) in
    let whole = syntax.Repeat operand (block_at nodes n) in
    moved_step nodes texts at variables it (repeats_step z n) after from_here it_is after_is
    (repeat_by nodes texts at variables whole z n from_here here.stands here.parts.1.0 here.parts.1.1 (subst (λ s. HasFewLeft s) it_is few)
    (goes_by nodes at variables whole from_here (λ c. repeated z (block_at nodes n) c) here.stands
    (λ c same. value_gives (number_of c.variables operand) z c (λ z. repeated z (block_at nodes n) c) (is ∙ ap (λ those. number_of those operand) (sym same)))))

-- ## Blocks at once

no_more : (k : ℕ) → k ≤ k
no_more k = omega arith

tried_light : (nodes : List Node) (n m : ℕ) → 4 + weight_of_block (block_at nodes n) + weight_of_block (block_at nodes m) ≤ weight_of_statement (syntax.Try (block_at nodes n) (block_at nodes m))
unfolding weight_of_statement
tried_light nodes n m = no_more _

pub try_step : (nodes : List Node) (texts at : ℕ) (n_at : Node) (variables : List Value) (it : Step) (after n m from_here : ℕ) → Knows nodes texts at n_at → n_at ≡ node.Try n m from_here
    → it ≡ step.Tried n m → after ≡ from_here → IsStepAt nodes texts at variables it after
try_step nodes texts at n_at variables it after n m from_here knows e it_is after_is =
    let here = known_at nodes texts at n_at (node.Try n m from_here) knows e in
    let whole = syntax.Try (block_at nodes n) (block_at nodes m) in
    moved_step nodes texts at variables it (step.Tried n m) after from_here it_is after_is (record {
      is = goes_by nodes at variables whole from_here (λ c. statement whole c) here.stands (λ c same. refl);
      after = (follows nodes at whole from_here here.stands, here.parts.2);
      bodies = (here.parts.0, here.parts.1);
      text = tt;
      light = subst (λ s. 4 + weight_of_block (block_at nodes n) + weight_of_block (block_at nodes m) ≤ weight_of_statement s) (sym (ap first_statement here.stands)) (tried_light nodes n m);
    })

pub loop_step : (nodes : List Node) (texts at : ℕ) (n_at : Node) (variables : List Value) (it : Step) (after n from_here : ℕ) → Knows nodes texts at n_at → n_at ≡ node.Loop n from_here
    → it ≡ step.Looped n → after ≡ from_here → IsStepAt nodes texts at variables it after
loop_step nodes texts at n_at variables it after n from_here knows e it_is after_is =
    let here = known_at nodes texts at n_at (node.Loop n from_here) knows e in
    let whole = syntax.Loop (block_at nodes n) in
    moved_step nodes texts at variables it (step.Looped n) after from_here it_is after_is (record {
      is = goes_by nodes at variables whole from_here (λ c. statement whole c) here.stands (λ c same. refl);
      after = (follows nodes at whole from_here here.stands, here.parts.1);
      bodies = here.parts.0;
      text = tt;
      light = tt;
    })

pub use_rw_step : (nodes : List Node) (texts at : ℕ) (n_at : Node) (variables : List Value) (it : Step) (after mutex n from_here : ℕ) → Knows nodes texts at n_at → n_at ≡ node.UseRw mutex n from_here
    → it ≡ step.Locks mutex n → after ≡ from_here → IsStepAt nodes texts at variables it after
use_rw_step nodes texts at n_at variables it after mutex n from_here knows e it_is after_is =
    let here = known_at nodes texts at n_at (node.UseRw mutex n from_here) knows e in
    let whole = syntax.UseRw mutex (block_at nodes n) in
    moved_step nodes texts at variables it (step.Locks mutex n) after from_here it_is after_is (record {
      is = goes_by nodes at variables whole from_here (λ c. statement whole c) here.stands (λ c same. refl);
      after = (follows nodes at whole from_here here.stands, here.parts.1);
      bodies = here.parts.0;
      text = tt;
      light = tt;
    })

pub use_pool_step : (nodes : List Node) (texts at : ℕ) (n_at : Node) (variables : List Value) (it : Step) (after pool n from_here : ℕ) → Knows nodes texts at n_at → n_at ≡ node.UsePool pool n from_here
    → it ≡ step.Uses pool n → after ≡ from_here → IsStepAt nodes texts at variables it after
use_pool_step nodes texts at n_at variables it after pool n from_here knows e it_is after_is =
    let here = known_at nodes texts at n_at (node.UsePool pool n from_here) knows e in
    let whole = syntax.UsePool pool (block_at nodes n) in
    moved_step nodes texts at variables it (step.Uses pool n) after from_here it_is after_is (record {
      is = goes_by nodes at variables whole from_here (λ c. statement whole c) here.stands (λ c same. refl);
      after = (follows nodes at whole from_here here.stands, here.parts.1);
      bodies = here.parts.0;
      text = tt;
      light = tt;
    })
