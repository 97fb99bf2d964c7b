-- What the statements that are left of a block do.
use Rattle.std.proofs.Common.{◌≡◌, ◌<◌, ◌≤◌, ◌+◌, ◌-◌, ℕ, zero, suc, List, [], ◌∷◌, ◌++◌, length, drop, Bool, true, false, Some, refl, sym, ap, ◌∙◌, subst, arith}
use Rattle.std.specs.Prelude.{slice_get}
use Rattle.eio_value.specs.Exceptions.{HasTextsOfPlain}
use Rattle.eio_value.specs.declared.plain.Misuse.{Misuse}
use Rattle.eio_value.specs.declared.plain.Plain.{Plain}
use Rattle.eio_value.specs.declared.plain.Plain.TheVariants.{Failure, Invalid}
use Rattle.eio_value.specs.declared.raised.Outcome.TheVariants as outcome
use Rattle.eio_value.specs.declared.value.TextId.{TextId}
use Rattle.eio_value.specs.declared.value.Value.{Value}
use Rattle.eio_value.specs.declared.value.Value.TheVariants as value
use Rattle.spec_script.specs.Syntax.{Statement, Give, Expression, Statements, Done, Then}
use Rattle.script_code.specs.Standing.{statements_at, expression_at, behind_expression, Stands}
use Rattle.script_forms.specs.Flat.{flat_statements}
use Rattle.script_code.specs.ScriptCode.{unflat_statements}
use Rattle.script_code.specs.Unflat as unflat
use Rattle.script_code.specs.Unflat.{first_rest}
use Rattle.script_forms.specs.declared.node.Node.{Node}
use Rattle.script_forms.specs.declared.node.Node.TheVariants as node
use Rattle.spec_fiber.specs.Evaluation.{Evaluated, Is, Raises, value_of}
use Rattle.spec_fiber.specs.Settling.{answered, thrown}
use Rattle.spec_fiber.specs.Silent.{Went, Past, Threw, and_then, gives, raises, statement, with_value}
use Rattle.spec_fiber.specs.Work as work
use Rattle.spec_fiber.specs.Work.{Work, Carry, restored, bound}
use Rattle.fiber_step.specs.Calling.{first_statement, statement_at}
use Rattle.fiber_step.specs.Going.{goes}
use Rattle.fiber_step.specs.Having.{HasExpression, BeginsStatement, HasStatements, HasParts}
use Rattle.fiber_step.specs.Framing.{KeptFrames}
use Rattle.fiber_step.specs.Placing.{ArePlaced}
use Rattle.fiber_step.specs.Standing.{works_of}
use Rattle.fiber_step.specs.Stating.{lets_of, bound_by, IsBehindLets, IsForm, NoGive, binding, IsDone, IsDoneBy, IsSilentStep, IsLastStep}
use Rattle.fiber_step.specs.Stepping.{IsStep, IsStepped, IsAfter, HasBodies, HasText}
use Rattle.fiber_step.specs.Turning.{with_mark, IsTurn, IsTurnOrRaise, IsLighter}
use Rattle.fiber_step.specs.Weighing.{weight_of_statement, weight_of_statements, weight}
use Rattle.fiber_step.specs.declared.item.Item.TheVariants as item
use Rattle.fiber_step.specs.declared.mark.Mark.TheVariants as mark
use Rattle.fiber_step.specs.declared.step.Step.{Step}
use Rattle.fiber_step.specs.declared.step.Step.TheVariants as step
use Rattle.fiber_step.specs.declared.step.Stepped.{Stepped}
use Rattle.fiber_step.specs.declared.progress.Progress.{Progress}
use Rattle.fiber_step.specs.declared.progress.Progress.TheVariants as progress
use Rattle.fiber_step.proofs.Dones.{some_weight}
use Rattle.fiber_step.proofs.MarksAgree.{marks_agree}
use Rattle.fiber_step.proofs.Parts.{has_parts, begins}
use Rattle.fiber_step.proofs.Positions.{next_item}
use Rattle.fiber_step.proofs.Turns.{mark_next, mark_weight, mark_placed, placed_mark, turn_or_raise}

-- ## Which statement gives its block's value

-- of the nodes that begin one
gives_only : (nodes : List Node) (at : ℕ) (n : Node) → HasParts nodes at n → Stands nodes at n → (n ≡ node.Give → ⊥) → (n ≡ node.LetForm → ⊥) → gives (statement_at nodes at) ≡ false
gives_only nodes at node.End parts says no_give no_let = absurd parts
gives_only nodes at (node.Number z) parts says no_give no_let = absurd parts
gives_only nodes at (node.Text text) parts says no_give no_let = absurd parts
gives_only nodes at (node.Variable slot) parts says no_give no_let = absurd parts
gives_only nodes at node.Unit parts says no_give no_let = absurd parts
gives_only nodes at (node.Operation operator) parts says no_give no_let = absurd parts
gives_only nodes at node.Let parts says no_give no_let = ap (λ these. gives (first_statement these)) says
gives_only nodes at node.LetForm parts says no_give no_let = absurd (no_let refl)
gives_only nodes at (node.If n m after) parts says no_give no_let = ap (λ these. gives (first_statement these)) says
gives_only nodes at node.Give parts says no_give no_let = absurd (no_give refl)
gives_only nodes at (node.Raise text) parts says no_give no_let = ap (λ these. gives (first_statement these)) says
gives_only nodes at (node.Try n m after) parts says no_give no_let = ap (λ these. gives (first_statement these)) says
gives_only nodes at (node.Repeat n after) parts says no_give no_let = ap (λ these. gives (first_statement these)) says
gives_only nodes at (node.Loop n after) parts says no_give no_let = ap (λ these. gives (first_statement these)) says
gives_only nodes at (node.Trace count) parts says no_give no_let = ap (λ these. gives (first_statement these)) says
gives_only nodes at node.Yield parts says no_give no_let = ap (λ these. gives (first_statement these)) says
gives_only nodes at node.Check parts says no_give no_let = ap (λ these. gives (first_statement these)) says
gives_only nodes at node.AwaitCancel parts says no_give no_let = ap (λ these. gives (first_statement these)) says
gives_only nodes at (node.Sub n after) parts says no_give no_let = ap (λ these. gives (first_statement these)) says
gives_only nodes at (node.Protect n after) parts says no_give no_let = ap (λ these. gives (first_statement these)) says
gives_only nodes at (node.Cancel slot text) parts says no_give no_let = ap (λ these. gives (first_statement these)) says
gives_only nodes at (node.Switch n after) parts says no_give no_let = ap (λ these. gives (first_statement these)) says
gives_only nodes at (node.Fork forking slot n after) parts says no_give no_let = ap (λ these. gives (first_statement these)) says
gives_only nodes at (node.Fail slot text) parts says no_give no_let = ap (λ these. gives (first_statement these)) says
gives_only nodes at (node.OnRelease slot n after) parts says no_give no_let = ap (λ these. gives (first_statement these)) says
gives_only nodes at (node.Branches group numbers after) parts says no_give no_let = ap (λ these. gives (first_statement these)) says
gives_only nodes at (node.OnObject call object) parts says no_give no_let = ap (λ these. gives (first_statement these)) says
gives_only nodes at (node.OnObjectWith call object) parts says no_give no_let = ap (λ these. gives (first_statement these)) says
gives_only nodes at (node.UseRw mutex n after) parts says no_give no_let = ap (λ these. gives (first_statement these)) says
gives_only nodes at (node.UsePool pool n after) parts says no_give no_let = ap (λ these. gives (first_statement these)) says
gives_only nodes at (node.Submit executor weight captured n after) parts says no_give no_let = ap (λ these. gives (first_statement these)) says
gives_only nodes at node.Sleep parts says no_give no_let = ap (λ these. gives (first_statement these)) says
gives_only nodes at node.Now parts says no_give no_let = ap (λ these. gives (first_statement these)) says
gives_only nodes at (node.BufRead flow limit n after) parts says no_give no_let = ap (λ these. gives (first_statement these)) says
gives_only nodes at (node.OnReader call reader) parts says no_give no_let = ap (λ these. gives (first_statement these)) says
gives_only nodes at (node.TakeBytes reader) parts says no_give no_let = ap (λ these. gives (first_statement these)) says
gives_only nodes at (node.Copy from to) parts says no_give no_let = ap (λ these. gives (first_statement these)) says
gives_only nodes at (node.BufWrite flow n after) parts says no_give no_let = ap (λ these. gives (first_statement these)) says
gives_only nodes at (node.Put writer) parts says no_give no_let = ap (λ these. gives (first_statement these)) says
gives_only nodes at (node.OpenDir directory n after) parts says no_give no_let = ap (λ these. gives (first_statement these)) says
gives_only nodes at (node.OnPath call directory) parts says no_give no_let = ap (λ these. gives (first_statement these)) says
gives_only nodes at (node.Save only_new directory) parts says no_give no_let = ap (λ these. gives (first_statement these)) says

gives_lets : (n : ℕ) (form : Statement) → (n ≡ 0 → gives form ≡ false) → gives (lets_of n form) ≡ false
gives_lets zero form h = h refl
gives_lets (suc n) form h = refl

-- ## Lets before a form

bound_inside : (n : ℕ) (items : Statements) → bound_by n (unflat.bound items) ≡ bound_by (suc n) items
bound_inside zero items = refl
bound_inside (suc n) items = ap unflat.bound (bound_inside n items)

bound_first : (n : ℕ) (form : Statement) (rest : Statements) → bound_by n (Then form rest) ≡ Then (lets_of n form) rest
bound_first zero form rest = refl
bound_first (suc n) form rest = ap unflat.bound (bound_first n form rest)

-- none is passed yet
pub no_let : (nodes : List Node) (at : ℕ) → BeginsStatement nodes at → IsBehindLets nodes at at
no_let nodes at here = record { lets = 0; count = omega arith; is = refl; begins = here }

-- one more is passed
pub one_more_let : (nodes : List Node) (number form : ℕ) (n : Node) → IsBehindLets nodes number form → slice_get nodes form ≡ Some n → Stands nodes form n → n ≡ node.LetForm → IsBehindLets nodes number (form + 1)
one_more_let nodes number form n behind at stands is =
    let says : statements_at nodes form ≡ unflat.bound (statements_at nodes (form + 1)) = subst (λ m. Stands nodes form m) is stands in
    let count = behind.count in
    record {
      lets = suc behind.lets;
      count = omega (arith, count);
      is = behind.is ∙ (ap (bound_by behind.lets) says ∙ bound_inside behind.lets (statements_at nodes (form + 1)));
      begins = has_parts nodes form node.LetForm behind.begins (at ∙ ap (λ m. Some m) is);
    }

-- ## Their marks

pub binding_more : (left : ℕ) (old new : KeptFrames) → 0 < left → new ≡ with_mark (mark.Bind (length old.variables)) old → binding (left - 1) new ≡ binding left old
binding_more left old new some e =
    let is : suc (left - 1) ≡ left = omega (arith, some) in
    ap (binding (left - 1)) e ∙ ap (λ n. binding n old) is

binding_goes : (nodes : List Node) (n : ℕ) (form : Statement) (kept : KeptFrames) (c : Carry)
    → goes (statement (lets_of n form) (restored kept.variables c)) (works_of nodes kept.items) ≡ goes (statement form (restored (binding n kept).variables c)) (works_of nodes (binding n kept).items)
binding_goes nodes zero form kept c = refl
binding_goes nodes (suc n) form kept c =
    marks_agree.binding (lets_of n form) (works_of nodes kept.items) (restored kept.variables c)
    ∙ (ap (λ work. goes (statement (lets_of n form) (restored kept.variables c)) work) (sym (next_item nodes kept.items (item.Mark (mark.Bind (length kept.variables)))))
    ∙ binding_goes nodes n form (with_mark (mark.Bind (length kept.variables)) kept) c)

binding_placed : (nodes : List Node) (n : ℕ) (kept : KeptFrames) → ArePlaced nodes kept.items → ArePlaced nodes (binding n kept).items
binding_placed nodes zero kept all = all
binding_placed nodes (suc n) kept all =
    binding_placed nodes n (with_mark (mark.Bind (length kept.variables)) kept) (placed_mark nodes (mark.Bind (length kept.variables)) kept.items all (tt, tt))

binding_weight : (nodes : List Node) (n : ℕ) (kept : KeptFrames) → weight (works_of nodes (binding n kept).items) ≡ n + weight (works_of nodes kept.items)
binding_weight nodes zero kept = omega arith
binding_weight nodes (suc n) kept =
    let inner = binding_weight nodes n (with_mark (mark.Bind (length kept.variables)) kept) in
    let sum = mark_weight nodes (mark.Bind (length kept.variables)) kept in
    omega (arith, inner, sum)

lets_weight : (n : ℕ) (form : Statement) → n + weight_of_statement form ≤ weight_of_statement (lets_of n form)
unfolding weight_of_statement
lets_weight zero form = omega arith
lets_weight (suc n) form = let inner = lets_weight n form in omega (arith, inner)

-- ## A statement that raises nothing

-- a form behind lets, with what is left behind it
pub record Formed (nodes : List Node) (at form after : ℕ) : Type 0 where
  pub lets : ℕ
  pub count : form ≡ at + lets
  pub is : statements_at nodes at ≡ Then (lets_of lets (statement_at nodes form)) (statements_at nodes after)
  pub gives_none : gives (lets_of lets (statement_at nodes form)) ≡ false

pub formed : (nodes : List Node) (at form after : ℕ) (n : Node) → IsForm nodes at form → statements_at nodes form ≡ Then (statement_at nodes form) (statements_at nodes after)
    → slice_get nodes at ≡ Some n → Stands nodes at n → (n ≡ node.Give → ⊥) → Formed nodes at form after
formed nodes at form after n is rest found stands no_give =
    let behind = is.behind in
    record {
      lets = behind.lets;
      count = behind.count;
      is = behind.is ∙ (ap (bound_by behind.lets) rest ∙ bound_first behind.lets (statement_at nodes form) (statements_at nodes after));
      gives_none = gives_lets behind.lets (statement_at nodes form) (λ none. first_gives none);
    }
  where
    same : is.behind.lets ≡ 0 → form ≡ at
    same none = let count = is.behind.count in omega (arith, count, none)

    first_gives : is.behind.lets ≡ 0 → gives (statement_at nodes form) ≡ false
    first_gives none =
        let here = subst (λ k. slice_get nodes k ≡ Some n) (sym (same none)) found in
        let says = subst (λ k. Stands nodes k n) (sym (same none)) stands in
        gives_only nodes form n (has_parts nodes form n is.behind.begins here) says no_give (λ e. is.last (here ∙ ap (λ m. Some m) e))

-- it is followed by what is left of the block, behind the marks of its lets
formed_next : (nodes : List Node) (at form after : ℕ) (old : KeptFrames) (it : Value) (c : Carry) (f : Formed nodes at form after)
    → answered (work.Run (statements_at nodes at) ∷ works_of nodes old.items) it (restored old.variables c)
    ≡ goes (statement (statement_at nodes form) (restored (binding f.lets (with_mark (mark.Run after) old)).variables c)) (works_of nodes (binding f.lets (with_mark (mark.Run after) old)).items)
formed_next nodes at form after old it c f =
    ap (λ items. answered (work.Run items ∷ works_of nodes old.items) it (restored old.variables c)) f.is
    ∙ (marks_agree.rest (lets_of f.lets (statement_at nodes form)) (statements_at nodes after) (works_of nodes old.items) it (restored old.variables c) f.gives_none
    ∙ (ap (λ work. goes (statement (lets_of f.lets (statement_at nodes form)) (restored old.variables c)) work) (sym (next_item nodes old.items (item.Mark (mark.Run after))))
    ∙ binding_goes nodes f.lets (statement_at nodes form) (with_mark (mark.Run after) old) c))

run_weight : (nodes : List Node) (at form after : ℕ) (old : KeptFrames) (f : Formed nodes at form after)
    → weight (works_of nodes (with_mark (mark.Run at) old).items) ≡ weight_of_statement (lets_of f.lets (statement_at nodes form)) + weight_of_statements (statements_at nodes after) + weight (works_of nodes old.items)
unfolding weight_of_statements
run_weight nodes at form after old f = mark_weight nodes (mark.Run at) old ∙ ap (λ items. weight_of_statements items + weight (works_of nodes old.items)) f.is

formed_lighter : (nodes : List Node) (at form after : ℕ) (old new : KeptFrames) (t : Progress) (f : Formed nodes at form after) → IsDone nodes form (binding f.lets (with_mark (mark.Run after) old)) t new
    → IsLighter nodes (with_mark (mark.Run at) old) t new
formed_lighter nodes at form after old new (progress.Calls call) f done = tt
formed_lighter nodes at form after old new (progress.Raises what) f done = absurd done.quiet
formed_lighter nodes at form after old new (progress.GoesOn it) f done =
    let less = done.lighter in
    let inner = binding_weight nodes f.lets (with_mark (mark.Run after) old) in
    let rest = mark_weight nodes (mark.Run after) old in
    let whole = run_weight nodes at form after old f in
    let lets = lets_weight f.lets (statement_at nodes form) in
    omega (arith, less, inner, rest, whole, lets)

pub formed_turn : (nodes : List Node) (at form after lets : ℕ) (old mid new : KeptFrames) (it : Value) (t : Progress) → Formed nodes at form after → HasStatements nodes after → lets ≡ form - at
    → mid ≡ binding lets (with_mark (mark.Run after) old) → IsDone nodes form mid t new
    → IsTurn nodes (outcome.Ok it) (with_mark (mark.Run at) old) t new
formed_turn nodes at form after lets old mid new it t f has many same done =
    let count = f.count in
    let e : lets ≡ f.lets = omega (arith, count, many) in
    let all_same = same ∙ ap (λ n. binding n (with_mark (mark.Run after) old)) e in
    let is = subst (λ k. IsDone nodes form k t new) all_same done in
    record {
      next = λ c. mark_next nodes (outcome.Ok it) (mark.Run at) old c ∙ (formed_next nodes at form after old it c f ∙ is.next c);
      placed = λ all. let was = mark_placed nodes (mark.Run at) old all in
          is.placed (binding_placed nodes f.lets (with_mark (mark.Run after) old) (placed_mark nodes (mark.Run after) old.items was.0 (has, tt)));
      lighter = formed_lighter nodes at form after old new t f is;
      quiet = is.quiet;
    }

-- ## A statement that raises

statements_here : (nodes : List Node) (at : ℕ) (items : Statements) (behind : List Node) → drop at nodes ≡ flat_statements at items ++ behind → statements_at nodes at ≡ items
unfolding statements_at
statements_here nodes at items behind here =
    ap (λ these. first_rest (unflat.unflat these).blocks) here ∙ ap (λ (b : unflat.Behind). first_rest b.blocks) (unflat_statements at items behind)

begins_first : (nodes : List Node) (at : ℕ) (b : BeginsStatement nodes at) → statements_at nodes at ≡ Then (statement_at nodes at) b.others
begins_first nodes at b =
    let is = statements_here nodes at (Then b.first b.others) b.behind b.is in
    is ∙ ap (λ it. Then it b.others) (sym (ap first_statement is))

lets_raise : (n : ℕ) (form : Statement) (c : Carry) (what : Plain) → statement form c ≡ raises what c → statement (lets_of n form) c ≡ raises what c
unfolding statement
lets_raise zero form c what e = e
lets_raise (suc n) form c what e =
    ap (λ went. and_then went (λ it d. Past value.Unit (bound (length c.variables) it d)) Threw (work.Bind (length c.variables) ∷ [])) (lets_raise n form c what e)

first_raises : (it : Statement) (rest : Statements) (behind : List Work) (before : Value) (c : Carry) (what : Plain) (b : Bool) → gives it ≡ b → statement it c ≡ raises what c
    → answered (work.Run (Then it rest) ∷ behind) before c ≡ goes (raises what c) behind
unfolding thrown
first_raises it rest behind before c what true e raised = marks_agree.given it rest behind before c e ∙ ap (λ (w : Went). goes w behind) raised
first_raises it rest behind before c what false e raised = marks_agree.rest it rest behind before c e ∙ ap (λ (w : Went). goes w (work.Run rest ∷ behind)) raised

-- the first statement of those that are left
pub raising_turn : (nodes : List Node) (texts : List (List ℕ)) (at : ℕ) (old : KeptFrames) (it : Value) (what : Plain) (first : Statement) (rest : Statements)
    → statements_at nodes at ≡ Then first rest → ((c : Carry) → c.variables ≡ old.variables → statement first c ≡ raises what c) → HasTextsOfPlain texts what
    → IsTurnOrRaise nodes texts (outcome.Ok it) (with_mark (mark.Run at) old) (progress.Raises what) old
unfolding weight_of_statements
raising_turn nodes texts at old it what first rest is raised has = record {
  next = λ c. let d = restored old.variables c in
      mark_next nodes (outcome.Ok it) (mark.Run at) old c
      ∙ (ap (λ items. answered (work.Run items ∷ works_of nodes old.items) it d) is
      ∙ first_raises first rest (works_of nodes old.items) it d what (gives first) refl (raised d refl));
  placed = λ all. (mark_placed nodes (mark.Run at) old all).0;
  lighter = let sum = mark_weight nodes (mark.Run at) old in let these = ap weight_of_statements is in let some = some_weight first in omega (arith, sum, these, some);
  parts = has;
}

-- a form behind lets
pub form_raises : (nodes : List Node) (texts : List (List ℕ)) (at form : ℕ) (old : KeptFrames) (it : Value) (what : Plain) → IsForm nodes at form
    → ((c : Carry) → c.variables ≡ old.variables → statement (statement_at nodes form) c ≡ raises what c) → HasTextsOfPlain texts what
    → IsTurnOrRaise nodes texts (outcome.Ok it) (with_mark (mark.Run at) old) (progress.Raises what) old
form_raises nodes texts at form old it what is raised has =
    let here = is.behind.begins in
    raising_turn nodes texts at old it what (lets_of is.behind.lets (statement_at nodes form)) here.others
    (is.behind.is ∙ (ap (bound_by is.behind.lets) (begins_first nodes form here) ∙ bound_first is.behind.lets (statement_at nodes form) here.others))
    (λ c same. lets_raise is.behind.lets (statement_at nodes form) c what (raised c same)) has

-- ## The end of a block, and what gives its value

pub block_ends : (nodes : List Node) (texts : List (List ℕ)) (at : ℕ) (n : Node) (old : KeptFrames) (it : Value) → Stands nodes at n → n ≡ node.End
    → IsTurnOrRaise nodes texts (outcome.Ok it) (with_mark (mark.Run at) old) (progress.GoesOn value.Unit) old
unfolding weight_of_statements
block_ends nodes texts at n old it stands is =
    let says : statements_at nodes at ≡ Done = subst (λ m. Stands nodes at m) is stands in
    record {
      next = λ c. let d = restored old.variables c in
          mark_next nodes (outcome.Ok it) (mark.Run at) old c
          ∙ (ap (λ items. answered (work.Run items ∷ works_of nodes old.items) it d) says ∙ marks_agree.unit (works_of nodes old.items) it d);
      placed = λ all. (mark_placed nodes (mark.Run at) old all).0;
      lighter = let sum = mark_weight nodes (mark.Run at) old in let one = ap weight_of_statements says in omega (arith, sum, one);
      parts = tt;
    }

give_goes : (e : Expression) (c : Carry) (v : Value) (variables : List Value) → Is v ≡ value_of variables e → c.variables ≡ variables → statement (Give e) c ≡ Past v c
unfolding statement
give_goes e c v variables is same = ap (λ those. with_value (value_of those e) c (λ it. Past it c)) same ∙ ap (λ found. with_value found c (λ it. Past it c)) (sym is)

give_throws : (e : Expression) (c : Carry) (what : Plain) (variables : List Value) → Raises what ≡ value_of variables e → c.variables ≡ variables → statement (Give e) c ≡ raises what c
unfolding statement
give_throws e c what variables is same = ap (λ those. with_value (value_of those e) c (λ it. Past it c)) same ∙ ap (λ (found : Evaluated Value). with_value found c (λ it. Past it c)) (sym is)

pub give_turn : (nodes : List Node) (texts : List (List ℕ)) (at : ℕ) (old : KeptFrames) (it v : Value) → Stands nodes at node.Give → Is v ≡ value_of old.variables (expression_at nodes (at + 1))
    → IsTurnOrRaise nodes texts (outcome.Ok it) (with_mark (mark.Run at) old) (progress.GoesOn v) old
unfolding weight_of_statements
give_turn nodes texts at old it v says gives_it = record {
  next = λ c. let d = restored old.variables c in
      mark_next nodes (outcome.Ok it) (mark.Run at) old c
      ∙ (ap (λ items. answered (work.Run items ∷ works_of nodes old.items) it d) says
      ∙ (marks_agree.given (Give (expression_at nodes (at + 1))) (statements_at nodes (behind_expression nodes (at + 1))) (works_of nodes old.items) it d refl
      ∙ ap (λ (w : Went). goes w (works_of nodes old.items)) (give_goes (expression_at nodes (at + 1)) d v old.variables gives_it refl)));
  placed = λ all. (mark_placed nodes (mark.Run at) old all).0;
  lighter = let sum = mark_weight nodes (mark.Run at) old in let rest = ap weight_of_statements says in let some = some_weight (Give (expression_at nodes (at + 1))) in omega (arith, sum, rest, some);
  parts = tt;
}

pub give_raises : (nodes : List Node) (texts : List (List ℕ)) (at : ℕ) (old : KeptFrames) (it : Value) (why : Misuse) → Stands nodes at node.Give
    → Raises (Invalid why) ≡ value_of old.variables (expression_at nodes (at + 1)) → IsTurnOrRaise nodes texts (outcome.Ok it) (with_mark (mark.Run at) old) (progress.Raises (Invalid why)) old
give_raises nodes texts at old it why says raised =
    raising_turn nodes texts at old it (Invalid why) _ _ says (λ c same. give_throws (expression_at nodes (at + 1)) c (Invalid why) old.variables raised same) tt

-- ## Steps

-- a step is that of a form behind its lets, where its node isn't a `let`
pub last_step : (nodes : List Node) (number : ℕ) (variables : List Value) (s : Step) → IsStep nodes number variables s → HasBodies nodes s → (slice_get nodes number ≡ Some node.LetForm → ⊥) → IsLastStep s
last_step nodes number variables (step.Past it) is bodies no_let = tt
last_step nodes number variables (step.Named it) is bodies no_let = tt
last_step nodes number variables step.Form is bodies no_let = no_let is.0
last_step nodes number variables (step.Block body) is bodies no_let = tt
last_step nodes number variables (step.Tried tried handler) is bodies no_let = tt
last_step nodes number variables (step.Looped body) is bodies no_let = tt
last_step nodes number variables (step.Repeated left body) is bodies no_let = bodies.1
last_step nodes number variables (step.Locks mutex body) is bodies no_let = tt
last_step nodes number variables (step.Uses pool body) is bodies no_let = tt
last_step nodes number variables (step.Raises text) is bodies no_let = tt
last_step nodes number variables (step.Calls call) is bodies no_let = tt

-- it is silent where it raises nothing
pub silent_step : (s : Step) → IsLastStep s → ((text : TextId) → s ≡ step.Raises text → ⊥) → IsSilentStep s
silent_step (step.Past it) last quiet = tt
silent_step (step.Named it) last quiet = tt
silent_step step.Form last quiet = last
silent_step (step.Block body) last quiet = tt
silent_step (step.Tried tried handler) last quiet = tt
silent_step (step.Looped body) last quiet = tt
silent_step (step.Repeated left body) last quiet = last
silent_step (step.Locks mutex body) last quiet = tt
silent_step (step.Uses pool body) last quiet = tt
silent_step (step.Raises text) last quiet = quiet text refl
silent_step (step.Calls call) last quiet = tt

-- what stands behind its statement
pub step_after : (nodes : List Node) (number after : ℕ) (s : Step) → IsAfter nodes number s after → IsLastStep s
    → (statements_at nodes number ≡ Then (statement_at nodes number) (statements_at nodes after)) × HasStatements nodes after
step_after nodes number after (step.Past it) is last = is
step_after nodes number after (step.Named it) is last = is
step_after nodes number after step.Form is last = absurd last
step_after nodes number after (step.Block body) is last = is
step_after nodes number after (step.Tried tried handler) is last = is
step_after nodes number after (step.Looped body) is last = is
step_after nodes number after (step.Repeated left body) is last = is
step_after nodes number after (step.Locks mutex body) is last = is
step_after nodes number after (step.Uses pool body) is last = is
step_after nodes number after (step.Raises text) is last = is
step_after nodes number after (step.Calls call) is last = is

binding_variables : (n : ℕ) (kept : KeptFrames) → (binding n kept).variables ≡ kept.variables
binding_variables zero kept = refl
binding_variables (suc n) kept = binding_variables n (with_mark (mark.Bind (length kept.variables)) kept)

-- a statement that raises nothing, by what its step did
pub step_turns : (nodes : List Node) (texts : List (List ℕ)) (at form lets : ℕ) (stepped : Stepped) (old mid new : KeptFrames) (it : Value) (t : Progress) → IsForm nodes at form → NoGive nodes at
    → IsStepped nodes (length texts) form old.variables stepped → IsLastStep stepped.step → lets ≡ form - at → mid ≡ binding lets (with_mark (mark.Run stepped.after) old) → IsDoneBy stepped.step mid t new
    → IsTurnOrRaise nodes texts (outcome.Ok it) (with_mark (mark.Run at) old) t new
step_turns nodes texts at form lets stepped old mid new it t is first found last many same done =
    let after = step_after nodes form stepped.after stepped.step found.after last in
    let f = formed nodes at form stepped.after first.first is after.0 first.is first.stands first.other in
    let variables : old.variables ≡ mid.variables = sym (ap (λ (k : KeptFrames). k.variables) same ∙ binding_variables lets (with_mark (mark.Run stepped.after) old)) in
    let goes = subst (λ those. IsStep nodes form those stepped.step) variables found.is in
    turn_or_raise nodes texts (outcome.Ok it) (with_mark (mark.Run at) old) new t
    (formed_turn nodes at form stepped.after lets old mid new it t f after.1 many same (done nodes form goes found.bodies found.light))

-- a form behind lets that raises a text
pub step_raises : (nodes : List Node) (texts : List (List ℕ)) (at form : ℕ) (stepped : Stepped) (text : TextId) (old : KeptFrames) (it : Value) → IsForm nodes at form
    → IsStepped nodes (length texts) form old.variables stepped → stepped.step ≡ step.Raises text → IsTurnOrRaise nodes texts (outcome.Ok it) (with_mark (mark.Run at) old) (progress.Raises (Failure text)) old
step_raises nodes texts at form stepped text old it is found e =
    form_raises nodes texts at form old it (Failure text) is (subst (λ s. IsStep nodes form old.variables s) e found.is) (subst (λ s. HasText (length texts) s) e found.text)

-- ## The nodes of statements

pub give_operand : (nodes : List Node) (at : ℕ) (n : Node) → HasStatements nodes at → slice_get nodes at ≡ Some n → n ≡ node.Give → HasExpression nodes (at + 1)
give_operand nodes at n has found is =
    let here = found ∙ ap (λ m. Some m) is in
    (has_parts nodes at node.Give (begins nodes at node.Give has here (λ e. no_end e)) here).0
  where
    no_end : node.Give ≡ node.End → ⊥
    no_end e = cc

pub same_node : (n m : Node) → Some n ≡ Some m → n ≡ m
same_node n m e = cc
