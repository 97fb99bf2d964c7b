-- Forms by their heads, as the code reads them.
use Rattle.std.proofs.Common.{◌≡◌, ℕ, ◌+◌, ◌<◌, List, ◌∷◌, ◌++◌, length, Bool, false, Ok, Err, refl, arith, ap, sym, ◌∙◌, append_assoc, length-append}
use Rattle.std.specs.Prelude.{slice_set}
use Rattle.spec_script.specs.Faults as model
use Rattle.spec_script.specs.Trees.{Tree, Trees, Nil, And}
use Rattle.spec_script.specs.Reads.{Made, ◌>>>◌}
use Rattle.spec_script.specs.Kinds.{VariableKind}
use Rattle.spec_script.specs.Scopes.{Scope, bring}
use Rattle.spec_script.specs.Syntax as syntax
use Rattle.spec_script.specs.Syntax.{Begins, Branches}
use Rattle.spec_script.specs.Expressions.{item}
use Rattle.spec_script.specs.Forms as forms
use Rattle.spec_script.specs.Statements.{Stated, form, block, branches, stated, statements, value}
use Rattle.script_tree.specs.Pieces.{Piece, first_tree}
use Rattle.script_draft.specs.Ahead.{ahead, rest_of, tree_ahead, tree_count, IsPast}
use Rattle.script_statements.specs.Blocks.{HasBlock, HasValue}
use Rattle.script_statements.specs.Bodies.{IsOpened, node_of_body}
use Rattle.script_forms.specs.Calls.{group_of}
use Rattle.script_draft.specs.Drafts.{Drafted, made_of}
use Rattle.script_forms.specs.Flat.{flat_statement, flat_statements, flat_expression}
use Rattle.script_forms.specs.Heads.{head_of, arity_of, shape_of, Fits}
use Rattle.script_forms.specs.Faults.{Fails}
use Rattle.script_draft.specs.Readings.{HasGrown, HasStated}
use Rattle.script_statements.specs.declared.bodies.BodyForm.{BodyForm}
use Rattle.script_forms.specs.declared.fault.ScriptFault.{ScriptFault}
use Rattle.script_forms.specs.declared.heads.Head.{Head}
use Rattle.script_forms.specs.declared.heads.Head.TheVariants as code
use Rattle.script_forms.specs.declared.heads.Shape.TheVariants as shape
use Rattle.script_forms.specs.declared.node.Group.{Group}
use Rattle.script_forms.specs.declared.node.Node.{Node}
use Rattle.script_forms.specs.declared.node.Node.TheVariants as node
use Rattle.script_draft.proofs.Counts.{two_trees, two_ahead, one_passed, three_trees, one_more, count_past}
use Rattle.script_draft.proofs.Steps.{fails_first, fill_stated}

-- ## Items that don't fit

pub misfit : (scope : Scope) (last : Bool) (at : ℕ) (head : Head) (word : Tree) (items : Trees) (made : Made) → ¬ (Fits (arity_of head) (tree_count items)) → form scope last at (head_of head) (And word items) made ≡ Err (model.Shape at)
unfolding form
misfit scope last at code.Let word Nil made e = refl
misfit scope last at code.Let word (And i Nil) made e = refl
misfit scope last at code.Let word (And i (And j Nil)) made e = absurd (e refl)
misfit scope last at code.Let word (And i (And j (And k row))) made e = refl
misfit scope last at code.If word Nil made e = refl
misfit scope last at code.If word (And i Nil) made e = refl
misfit scope last at code.If word (And i (And j Nil)) made e = refl
misfit scope last at code.If word (And i (And j (And k Nil))) made e = absurd (e refl)
misfit scope last at code.If word (And i (And j (And k (And l row)))) made e = refl
misfit scope last at code.Give word Nil made e = refl
misfit scope last at code.Give word (And i Nil) made e = absurd (e refl)
misfit scope last at code.Give word (And i (And j row)) made e = refl
misfit scope last at code.Raise word Nil made e = refl
misfit scope last at code.Raise word (And i Nil) made e = absurd (e refl)
misfit scope last at code.Raise word (And i (And j row)) made e = refl
misfit scope last at code.Try word Nil made e = refl
misfit scope last at code.Try word (And i Nil) made e = refl
misfit scope last at code.Try word (And i (And j Nil)) made e = refl
misfit scope last at code.Try word (And i (And j (And k Nil))) made e = absurd (e refl)
misfit scope last at code.Try word (And i (And j (And k (And l row)))) made e = refl
misfit scope last at code.Repeat word Nil made e = refl
misfit scope last at code.Repeat word (And i Nil) made e = refl
misfit scope last at code.Repeat word (And i (And j row)) made e = absurd (e (omega arith))
misfit scope last at code.Loop word row made e = absurd (e (omega arith))
misfit scope last at code.Trace word row made e = absurd (e (omega arith))
misfit scope last at code.Yield word Nil made e = absurd (e refl)
misfit scope last at code.Yield word (And i row) made e = refl
misfit scope last at code.Check word Nil made e = absurd (e refl)
misfit scope last at code.Check word (And i row) made e = refl
misfit scope last at code.AwaitCancel word Nil made e = absurd (e refl)
misfit scope last at code.AwaitCancel word (And i row) made e = refl
misfit scope last at code.Sub word Nil made e = refl
misfit scope last at code.Sub word (And i row) made e = absurd (e (omega arith))
misfit scope last at code.Protect word row made e = absurd (e (omega arith))
misfit scope last at code.Cancel word Nil made e = refl
misfit scope last at code.Cancel word (And i Nil) made e = refl
misfit scope last at code.Cancel word (And i (And j Nil)) made e = absurd (e refl)
misfit scope last at code.Cancel word (And i (And j (And k row))) made e = refl
misfit scope last at code.Switch word Nil made e = refl
misfit scope last at code.Switch word (And i row) made e = absurd (e (omega arith))
misfit scope last at code.Fork word Nil made e = refl
misfit scope last at code.Fork word (And i row) made e = absurd (e (omega arith))
misfit scope last at code.ForkDaemon word Nil made e = refl
misfit scope last at code.ForkDaemon word (And i row) made e = absurd (e (omega arith))
misfit scope last at code.ForkPromise word Nil made e = refl
misfit scope last at code.ForkPromise word (And i Nil) made e = refl
misfit scope last at code.ForkPromise word (And i (And j row)) made e = absurd (e (omega arith))
misfit scope last at code.Fail word Nil made e = refl
misfit scope last at code.Fail word (And i Nil) made e = refl
misfit scope last at code.Fail word (And i (And j Nil)) made e = absurd (e refl)
misfit scope last at code.Fail word (And i (And j (And k row))) made e = refl
misfit scope last at code.OnRelease word Nil made e = refl
misfit scope last at code.OnRelease word (And i row) made e = absurd (e (omega arith))
misfit scope last at (code.Pair group) word Nil made e = refl
misfit scope last at (code.Pair group) word (And i Nil) made e = refl
misfit scope last at (code.Pair group) word (And i (And j Nil)) made e = absurd (e refl)
misfit scope last at (code.Pair group) word (And i (And j (And k row))) made e = refl
misfit scope last at (code.Row group) word row made e = absurd (e (omega arith))
misfit scope last at (code.Object call) word Nil made e = refl
misfit scope last at (code.Object call) word (And i Nil) made e = absurd (e refl)
misfit scope last at (code.Object call) word (And i (And j row)) made e = refl
misfit scope last at (code.ObjectWith call) word Nil made e = refl
misfit scope last at (code.ObjectWith call) word (And i Nil) made e = refl
misfit scope last at (code.ObjectWith call) word (And i (And j Nil)) made e = absurd (e refl)
misfit scope last at (code.ObjectWith call) word (And i (And j (And k row))) made e = refl
misfit scope last at code.UseRw word Nil made e = refl
misfit scope last at code.UseRw word (And i row) made e = absurd (e (omega arith))
misfit scope last at code.UsePool word Nil made e = refl
misfit scope last at code.UsePool word (And i Nil) made e = refl
misfit scope last at code.UsePool word (And i (And j row)) made e = absurd (e (omega arith))
misfit scope last at code.Submit word Nil made e = refl
misfit scope last at code.Submit word (And i Nil) made e = refl
misfit scope last at code.Submit word (And i (And j Nil)) made e = refl
misfit scope last at code.Submit word (And i (And j (And k row))) made e = absurd (e (omega arith))
misfit scope last at code.Sleep word Nil made e = refl
misfit scope last at code.Sleep word (And i Nil) made e = absurd (e refl)
misfit scope last at code.Sleep word (And i (And j row)) made e = refl
misfit scope last at code.Now word Nil made e = absurd (e refl)
misfit scope last at code.Now word (And i row) made e = refl
misfit scope last at code.BufRead word Nil made e = refl
misfit scope last at code.BufRead word (And i Nil) made e = refl
misfit scope last at code.BufRead word (And i (And j Nil)) made e = refl
misfit scope last at code.BufRead word (And i (And j (And k row))) made e = absurd (e (omega arith))
misfit scope last at (code.Reader call) word Nil made e = refl
misfit scope last at (code.Reader call) word (And i Nil) made e = absurd (e refl)
misfit scope last at (code.Reader call) word (And i (And j row)) made e = refl
misfit scope last at code.TakeBytes word Nil made e = refl
misfit scope last at code.TakeBytes word (And i Nil) made e = refl
misfit scope last at code.TakeBytes word (And i (And j Nil)) made e = absurd (e refl)
misfit scope last at code.TakeBytes word (And i (And j (And k row))) made e = refl
misfit scope last at code.Copy word Nil made e = refl
misfit scope last at code.Copy word (And i Nil) made e = refl
misfit scope last at code.Copy word (And i (And j Nil)) made e = absurd (e refl)
misfit scope last at code.Copy word (And i (And j (And k row))) made e = refl
misfit scope last at code.BufWrite word Nil made e = refl
misfit scope last at code.BufWrite word (And i Nil) made e = refl
misfit scope last at code.BufWrite word (And i (And j row)) made e = absurd (e (omega arith))
misfit scope last at code.Put word Nil made e = refl
misfit scope last at code.Put word (And i Nil) made e = refl
misfit scope last at code.Put word (And i (And j Nil)) made e = absurd (e refl)
misfit scope last at code.Put word (And i (And j (And k row))) made e = refl
misfit scope last at code.OpenDir word Nil made e = refl
misfit scope last at code.OpenDir word (And i Nil) made e = refl
misfit scope last at code.OpenDir word (And i (And j Nil)) made e = refl
misfit scope last at code.OpenDir word (And i (And j (And k row))) made e = absurd (e (omega arith))
misfit scope last at (code.Path call) word Nil made e = refl
misfit scope last at (code.Path call) word (And i Nil) made e = refl
misfit scope last at (code.Path call) word (And i (And j Nil)) made e = absurd (e refl)
misfit scope last at (code.Path call) word (And i (And j (And k row))) made e = refl
misfit scope last at (code.Save only_new) word Nil made e = refl
misfit scope last at (code.Save only_new) word (And i Nil) made e = refl
misfit scope last at (code.Save only_new) word (And i (And j Nil)) made e = refl
misfit scope last at (code.Save only_new) word (And i (And j (And k Nil))) made e = absurd (e refl)
misfit scope last at (code.Save only_new) word (And i (And j (And k (And l row)))) made e = refl

-- ## Heads by how they are read

pub gives_head : (head : Head) → shape_of head ≡ shape.Give → head ≡ code.Give
gives_head code.Let e = cc
gives_head code.If e = cc
gives_head code.Give e = refl
gives_head code.Raise e = cc
gives_head code.Try e = cc
gives_head code.Repeat e = cc
gives_head code.Loop e = cc
gives_head code.Trace e = cc
gives_head code.Yield e = cc
gives_head code.Check e = cc
gives_head code.AwaitCancel e = cc
gives_head code.Sub e = cc
gives_head code.Protect e = cc
gives_head code.Cancel e = cc
gives_head code.Switch e = cc
gives_head code.Fork e = cc
gives_head code.ForkDaemon e = cc
gives_head code.ForkPromise e = cc
gives_head code.Fail e = cc
gives_head code.OnRelease e = cc
gives_head (code.Pair group) e = cc
gives_head (code.Row group) e = cc
gives_head (code.Object call) e = cc
gives_head (code.ObjectWith call) e = cc
gives_head code.UseRw e = cc
gives_head code.UsePool e = cc
gives_head code.Submit e = cc
gives_head code.Sleep e = cc
gives_head code.Now e = cc
gives_head code.BufRead e = cc
gives_head (code.Reader call) e = cc
gives_head code.TakeBytes e = cc
gives_head code.Copy e = cc
gives_head code.BufWrite e = cc
gives_head code.Put e = cc
gives_head code.OpenDir e = cc
gives_head (code.Path call) e = cc
gives_head (code.Save only_new) e = cc

pub give_late : (scope : Scope) (at : ℕ) (word : Tree) (items : Trees) (made : Made) → tree_count items ≡ 1 → form scope false at forms.GiveHead (And word items) made ≡ Err (model.Shape at)
unfolding form
give_late scope at word Nil made e = refl
give_late scope at word (And i Nil) made e = refl
give_late scope at word (And i (And j row)) made e = refl

pub branches_head : (scope : Scope) (last : Bool) (at : ℕ) (head : Head) (g : Group) (word : Tree) (items : Trees) → shape_of head ≡ shape.Branches g → Fits (arity_of head) (tree_count items) → form scope last at (head_of head) (And word items) ≡ (branches scope 0 items >>> λ blocks. stated scope (Branches (group_of g) blocks))
unfolding form
branches_head scope last at code.Let g word items e fits = cc
branches_head scope last at code.If g word items e fits = cc
branches_head scope last at code.Give g word items e fits = cc
branches_head scope last at code.Raise g word items e fits = cc
branches_head scope last at code.Try g word items e fits = cc
branches_head scope last at code.Repeat g word items e fits = cc
branches_head scope last at code.Loop g word items e fits = cc
branches_head scope last at code.Trace g word items e fits = cc
branches_head scope last at code.Yield g word items e fits = cc
branches_head scope last at code.Check g word items e fits = cc
branches_head scope last at code.AwaitCancel g word items e fits = cc
branches_head scope last at code.Sub g word items e fits = cc
branches_head scope last at code.Protect g word items e fits = cc
branches_head scope last at code.Cancel g word items e fits = cc
branches_head scope last at code.Switch g word items e fits = cc
branches_head scope last at code.Fork g word items e fits = cc
branches_head scope last at code.ForkDaemon g word items e fits = cc
branches_head scope last at code.ForkPromise g word items e fits = cc
branches_head scope last at code.Fail g word items e fits = cc
branches_head scope last at code.OnRelease g word items e fits = cc
branches_head scope last at (code.Pair group) g word Nil e fits = absurd (omega (arith, fits))
branches_head scope last at (code.Pair group) g word (And i Nil) e fits = absurd (omega (arith, fits))
branches_head scope last at (code.Pair group) g word (And i (And j Nil)) e fits = let same : group ≡ g = cc in rw same refl
branches_head scope last at (code.Pair group) g word (And i (And j (And k row))) e fits = absurd (omega (arith, fits))
branches_head scope last at (code.Row group) g word items e fits = let same : group ≡ g = cc in rw same refl
branches_head scope last at (code.Object call) g word items e fits = cc
branches_head scope last at (code.ObjectWith call) g word items e fits = cc
branches_head scope last at code.UseRw g word items e fits = cc
branches_head scope last at code.UsePool g word items e fits = cc
branches_head scope last at code.Submit g word items e fits = cc
branches_head scope last at code.Sleep g word items e fits = cc
branches_head scope last at code.Now g word items e fits = cc
branches_head scope last at code.BufRead g word items e fits = cc
branches_head scope last at (code.Reader call) g word items e fits = cc
branches_head scope last at code.TakeBytes g word items e fits = cc
branches_head scope last at code.Copy g word items e fits = cc
branches_head scope last at code.BufWrite g word items e fits = cc
branches_head scope last at code.Put g word items e fits = cc
branches_head scope last at code.OpenDir g word items e fits = cc
branches_head scope last at (code.Path call) g word items e fits = cc
branches_head scope last at (code.Save only_new) g word items e fits = cc

-- ## Rows of three trees

third_by : (ts : Trees) → tree_count ts ≡ 3 → ts ≡ And (first_tree ts) (And (first_tree (rest_of ts)) (And (first_tree (rest_of (rest_of ts))) Nil))
third_by Nil e = absurd (omega (arith, e))
third_by (And a Nil) e = absurd (omega (arith, e))
third_by (And a (And b Nil)) e = absurd (omega (arith, e))
third_by (And a (And b (And c Nil))) e = refl
third_by (And a (And b (And c (And d row)))) e = absurd (omega (arith, e))

three_before : (c0 : List Piece) → tree_count (ahead c0) ≡ 3 → ahead c0 ≡ And (tree_ahead c0) (And (first_tree (rest_of (ahead c0))) (And (first_tree (rest_of (rest_of (ahead c0)))) Nil))
three_before c0 e = third_by (ahead c0) e

three_passed : (c0 c1 : List Piece) → tree_count (ahead c0) ≡ 3 → IsPast c0 c1 → ahead c0 ≡ And (tree_ahead c0) (And (tree_ahead c1) (And (first_tree (rest_of (ahead c1))) Nil))
three_passed c0 c1 e past =
    let n1 = count_past c0 c1 past in
    one_more c0 c1 (omega (arith, e)) past ∙ ap (λ ts. And (tree_ahead c0) ts) (two_ahead c1 (omega (arith, n1, e)))

three_passed_twice : (c0 c1 c2 : List Piece) → tree_count (ahead c0) ≡ 3 → IsPast c0 c1 → IsPast c1 c2 → ahead c0 ≡ And (tree_ahead c0) (And (tree_ahead c1) (And (tree_ahead c2) Nil))
three_passed_twice c0 c1 c2 e past again =
    let n1 = count_past c0 c1 past in
    one_more c0 c1 (omega (arith, e)) past ∙ ap (λ ts. And (tree_ahead c0) ts) (one_passed c1 c2 (omega (arith, n1, e)) again)

-- how many nodes there are behind some more
counted : (old new : Drafted) (more : List Node) (n : ℕ) → length old.nodes ≡ n → new.nodes ≡ old.nodes ++ more → n + length more ≡ length new.nodes
counted old new more n e grows = ap (λ k. k + length more) (sym e) ∙ (sym (length-append old.nodes more) ∙ ap length (sym grows))

-- ## `let`

pub let_name_fails : (scope : Scope) (last : Bool) (at : ℕ) (word : Tree) (c0 : List Piece) (made : Made) (f : ScriptFault) → tree_count (ahead c0) ≡ 2 → Fails f (bring VariableKind scope (tree_ahead c0) made) → Fails f (form scope last at forms.LetHead (And word (ahead c0)) made)
unfolding form
let_name_fails scope last at word c0 made f two e = rw (two_ahead c0 two) (fails_first f (bring VariableKind scope (tree_ahead c0) made) _ e)

pub let_value_fails : (scope behind : Scope) (last : Bool) (at : ℕ) (word : Tree) (c0 c1 : List Piece) (made : Made) (f : ScriptFault) → tree_count (ahead c0) ≡ 2 → IsPast c0 c1 → ((m : Made) → bring VariableKind scope (tree_ahead c0) m ≡ Ok (behind, m)) → Fails f (value scope (tree_ahead c1) made) → Fails f (form scope last at forms.LetHead (And word (ahead c0)) made)
unfolding form
let_value_fails scope behind last at word c0 c1 made f two past brought e = rw (one_passed c0 c1 two past, brought made) (fails_first f (value scope (tree_ahead c1) made) _ e)

pub let_read : (scope behind : Scope) (last : Bool) (at : ℕ) (word : Tree) (c0 c1 c2 : List Piece) (opened : ℕ) (n : Node) (d0 d1 d2 : Drafted) → tree_count (ahead c0) ≡ 2 → IsPast c0 c1 → IsPast c1 c2 → length d0.nodes ≡ opened + 1 → ((m : Made) → bring VariableKind scope (tree_ahead c0) m ≡ Ok (behind, m)) → HasValue (value scope (tree_ahead c1)) n d0 d1 → d2 ≡ record d1 { nodes = slice_set d1.nodes opened n } → HasStated (form scope last at forms.LetHead (And word (ahead c0))) behind opened d0 d2
unfolding form
let_read scope behind last at word c0 c1 c2 opened n d0 d1 d2 two past again one brought v filled =
    fill_stated _ behind opened d0 d1 d2 v.value n v.inner one
    (rw (two_trees c0 c1 c2 two past again, brought (made_of d0), v.gives) refl)
    v.grows filled (v.flat opened one)

-- ## `if`

pub if_test_fails : (scope : Scope) (last : Bool) (at : ℕ) (word : Tree) (c0 : List Piece) (made : Made) (f : ScriptFault) → tree_count (ahead c0) ≡ 3 → Fails f (item scope false (tree_ahead c0) made) → Fails f (form scope last at forms.IfHead (And word (ahead c0)) made)
unfolding form
if_test_fails scope last at word c0 made f three e = rw (three_before c0 three) (fails_first f (item scope false (tree_ahead c0) made) _ e)

pub if_then_fails : (scope : Scope) (last : Bool) (at : ℕ) (word : Tree) (c0 c1 : List Piece) (d0 d1 : Drafted) (f : ScriptFault) → tree_count (ahead c0) ≡ 3 → IsPast c0 c1 → HasGrown (item scope false (tree_ahead c0)) flat_expression d0 d1 → Fails f (block scope false (tree_ahead c1) (made_of d1)) → Fails f (form scope last at forms.IfHead (And word (ahead c0)) (made_of d0))
unfolding form
if_then_fails scope last at word c0 c1 d0 d1 f three past test e = rw (three_passed c0 c1 three past, test.gives) (fails_first f (block scope false (tree_ahead c1) (made_of d1)) _ e)

pub if_else_fails : (scope : Scope) (last : Bool) (at : ℕ) (word : Tree) (c0 c1 c2 : List Piece) (d0 d1 d2 : Drafted) (f : ScriptFault) → tree_count (ahead c0) ≡ 3 → IsPast c0 c1 → IsPast c1 c2 → HasGrown (item scope false (tree_ahead c0)) flat_expression d0 d1 → HasBlock (block scope false (tree_ahead c1)) d1 d2 → Fails f (block scope false (tree_ahead c2) (made_of d2)) → Fails f (form scope last at forms.IfHead (And word (ahead c0)) (made_of d0))
unfolding form
if_else_fails scope last at word c0 c1 c2 d0 d1 d2 f three past again test then_block e = rw (three_passed_twice c0 c1 c2 three past again, test.gives, then_block.gives) (fails_first f (block scope false (tree_ahead c2) (made_of d2)) _ e)

if_flat : (opened n m after : ℕ) (d0 d1 d2 d3 : Drafted) (test : syntax.Expression) (a b : syntax.Statements) → length d0.nodes ≡ opened + 1 → d1.nodes ≡ d0.nodes ++ flat_expression test → d2.nodes ≡ d1.nodes ++ flat_statements (length d1.nodes) a → d3.nodes ≡ d2.nodes ++ flat_statements (length d2.nodes) b → n ≡ length d1.nodes → m ≡ length d2.nodes → after ≡ length d3.nodes → flat_statement opened (syntax.If test (Begins n a) (Begins m b)) ≡ node.If n m after ∷ ((flat_expression test ++ flat_statements (length d1.nodes) a) ++ flat_statements (length d2.nodes) b)
unfolding flat_statement
if_flat opened n m after d0 d1 d2 d3 test a b one g1 g2 g3 e1 e2 e3 =
    let t = flat_expression test in
    let s1 : opened + 1 + length t ≡ length d1.nodes = counted d0 d1 t (opened + 1) one g1 in
    let g12 : d2.nodes ≡ d0.nodes ++ (t ++ flat_statements (length d1.nodes) a) = g2 ∙ (ap (λ ns. ns ++ flat_statements (length d1.nodes) a) g1 ∙ append_assoc d0.nodes t (flat_statements (length d1.nodes) a)) in
    let s2 : opened + 1 + length (t ++ flat_statements (length d1.nodes) a) ≡ length d2.nodes = counted d0 d2 (t ++ flat_statements (length d1.nodes) a) (opened + 1) one g12 in
    let g123 : d3.nodes ≡ d0.nodes ++ ((t ++ flat_statements (length d1.nodes) a) ++ flat_statements (length d2.nodes) b) = g3 ∙ (ap (λ ns. ns ++ flat_statements (length d2.nodes) b) g12 ∙ append_assoc d0.nodes (t ++ flat_statements (length d1.nodes) a) (flat_statements (length d2.nodes) b)) in
    let s3 : opened + 1 + length ((t ++ flat_statements (length d1.nodes) a) ++ flat_statements (length d2.nodes) b) ≡ length d3.nodes = counted d0 d3 ((t ++ flat_statements (length d1.nodes) a) ++ flat_statements (length d2.nodes) b) (opened + 1) one g123 in
    rw (s1, s2, s3, e3) refl

pub if_read : (scope : Scope) (last : Bool) (at : ℕ) (word : Tree) (c0 c1 c2 c3 : List Piece) (opened n m after : ℕ) (d0 d1 d2 d3 d4 : Drafted) → tree_count (ahead c0) ≡ 3 → IsPast c0 c1 → IsPast c1 c2 → IsPast c2 c3 → length d0.nodes ≡ opened + 1 → HasGrown (item scope false (tree_ahead c0)) flat_expression d0 d1 → HasBlock (block scope false (tree_ahead c1)) d1 d2 → HasBlock (block scope false (tree_ahead c2)) d2 d3 → n ≡ length d1.nodes → m ≡ length d2.nodes → after ≡ length d3.nodes → d4 ≡ record d3 { nodes = slice_set d3.nodes opened (node.If n m after) } → HasStated (form scope last at forms.IfHead (And word (ahead c0))) scope opened d0 d4
unfolding form
if_read scope last at word c0 c1 c2 c3 opened n m after d0 d1 d2 d3 d4 three past again then one test a b e1 e2 e3 filled =
    let g12 : d2.nodes ≡ d0.nodes ++ (flat_expression test.value ++ flat_statements (length d1.nodes) a.items) = a.grows ∙ (ap (λ ns. ns ++ flat_statements (length d1.nodes) a.items) test.grows ∙ append_assoc d0.nodes (flat_expression test.value) (flat_statements (length d1.nodes) a.items)) in
    fill_stated _ scope opened d0 d3 d4 (syntax.If test.value (Begins n a.items) (Begins m b.items)) (node.If n m after) ((flat_expression test.value ++ flat_statements (length d1.nodes) a.items) ++ flat_statements (length d2.nodes) b.items) one
    (rw (three_trees c0 c1 c2 c3 three past again then, test.gives, a.gives, b.gives, e1, e2) refl)
    (b.grows ∙ (ap (λ ns. ns ++ flat_statements (length d2.nodes) b.items) g12 ∙ append_assoc d0.nodes (flat_expression test.value ++ flat_statements (length d1.nodes) a.items) (flat_statements (length d2.nodes) b.items)))
    filled (if_flat opened n m after d0 d1 d2 d3 test.value a.items b.items one test.grows a.grows b.grows e1 e2 e3)

-- ## `try`

pub try_block_fails : (scope : Scope) (last : Bool) (at : ℕ) (word : Tree) (c0 : List Piece) (made : Made) (f : ScriptFault) → tree_count (ahead c0) ≡ 3 → Fails f (block scope false (tree_ahead c0) made) → Fails f (form scope last at forms.TryHead (And word (ahead c0)) made)
unfolding form
try_block_fails scope last at word c0 made f three e = rw (three_before c0 three) (fails_first f (block scope false (tree_ahead c0) made) _ e)

pub try_name_fails : (scope : Scope) (last : Bool) (at : ℕ) (word : Tree) (c0 c1 : List Piece) (d0 d1 : Drafted) (f : ScriptFault) → tree_count (ahead c0) ≡ 3 → IsPast c0 c1 → HasBlock (block scope false (tree_ahead c0)) d0 d1 → Fails f (bring VariableKind scope (tree_ahead c1) (made_of d1)) → Fails f (form scope last at forms.TryHead (And word (ahead c0)) (made_of d0))
unfolding form
try_name_fails scope last at word c0 c1 d0 d1 f three past tried e = rw (three_passed c0 c1 three past, tried.gives) (fails_first f (bring VariableKind scope (tree_ahead c1) (made_of d1)) _ e)

pub try_handler_fails : (scope inner : Scope) (last : Bool) (at : ℕ) (word : Tree) (c0 c1 c2 : List Piece) (d0 d1 : Drafted) (f : ScriptFault) → tree_count (ahead c0) ≡ 3 → IsPast c0 c1 → IsPast c1 c2 → HasBlock (block scope false (tree_ahead c0)) d0 d1 → ((m : Made) → bring VariableKind scope (tree_ahead c1) m ≡ Ok (inner, m)) → Fails f (block inner false (tree_ahead c2) (made_of d1)) → Fails f (form scope last at forms.TryHead (And word (ahead c0)) (made_of d0))
unfolding form
try_handler_fails scope inner last at word c0 c1 c2 d0 d1 f three past again tried brought e = rw (three_passed_twice c0 c1 c2 three past again, tried.gives, brought (made_of d1)) (fails_first f (block inner false (tree_ahead c2) (made_of d1)) _ e)

try_flat : (opened n m after : ℕ) (d0 d1 d2 : Drafted) (a b : syntax.Statements) → length d0.nodes ≡ opened + 1 → d1.nodes ≡ d0.nodes ++ flat_statements (length d0.nodes) a → d2.nodes ≡ d1.nodes ++ flat_statements (length d1.nodes) b → after ≡ length d2.nodes → flat_statement opened (syntax.Try (Begins n a) (Begins m b)) ≡ node.Try n m after ∷ (flat_statements (length d0.nodes) a ++ flat_statements (length d1.nodes) b)
unfolding flat_statement
try_flat opened n m after d0 d1 d2 a b one g1 g2 e =
    let t = flat_statements (length d0.nodes) a in
    let s1 : length d0.nodes + length t ≡ length d1.nodes = counted d0 d1 t (length d0.nodes) refl g1 in
    let g12 : d2.nodes ≡ d0.nodes ++ (t ++ flat_statements (length d1.nodes) b) = g2 ∙ (ap (λ ns. ns ++ flat_statements (length d1.nodes) b) g1 ∙ append_assoc d0.nodes t (flat_statements (length d1.nodes) b)) in
    let s2 : length d0.nodes + length (t ++ flat_statements (length d1.nodes) b) ≡ length d2.nodes = counted d0 d2 (t ++ flat_statements (length d1.nodes) b) (length d0.nodes) refl g12 in
    rw (← one, s1, s2, e) refl

pub try_read : (scope inner : Scope) (last : Bool) (at : ℕ) (word : Tree) (c0 c1 c2 c3 : List Piece) (opened n m after : ℕ) (d0 d1 d2 d3 : Drafted) → tree_count (ahead c0) ≡ 3 → IsPast c0 c1 → IsPast c1 c2 → IsPast c2 c3 → length d0.nodes ≡ opened + 1 → HasBlock (block scope false (tree_ahead c0)) d0 d1 → ((made : Made) → bring VariableKind scope (tree_ahead c1) made ≡ Ok (inner, made)) → HasBlock (block inner false (tree_ahead c2)) d1 d2 → n ≡ length d0.nodes → m ≡ length d1.nodes → after ≡ length d2.nodes → d3 ≡ record d2 { nodes = slice_set d2.nodes opened (node.Try n m after) } → HasStated (form scope last at forms.TryHead (And word (ahead c0))) scope opened d0 d3
unfolding form
try_read scope inner last at word c0 c1 c2 c3 opened n m after d0 d1 d2 d3 three past again then one a brought b e1 e2 e3 filled =
    fill_stated _ scope opened d0 d2 d3 (syntax.Try (Begins n a.items) (Begins m b.items)) (node.Try n m after) (flat_statements (length d0.nodes) a.items ++ flat_statements (length d1.nodes) b.items) one
    (rw (three_trees c0 c1 c2 c3 three past again then, a.gives, brought (made_of d1), b.gives, e1, e2) refl)
    (b.grows ∙ (ap (λ ns. ns ++ flat_statements (length d1.nodes) b.items) a.grows ∙ append_assoc d0.nodes (flat_statements (length d0.nodes) a.items) (flat_statements (length d1.nodes) b.items)))
    filled (try_flat opened n m after d0 d1 d2 a.items b.items one a.grows b.grows e3)

-- ## Forms with one block

pub fill_less : (opened : ℕ) (d0 d1 d2 : Drafted) (a b : List Node) → length d0.nodes ≡ opened + 1 → d1.nodes ≡ d0.nodes ++ a → d2.nodes ≡ d1.nodes ++ b → opened < length d2.nodes
fill_less opened d0 d1 d2 a b one g1 g2 =
    let s1 = counted d0 d1 a (opened + 1) one g1 in
    let s2 = counted d1 d2 b (length d1.nodes) refl g2 in
    omega (arith, s1, s2)

pub body_read : (read : Stated) (scope inner : Scope) (this : BodyForm) (items : Trees) (opened body after : ℕ) (n : Node) (d0 d1 d2 d3 : Drafted) → length d0.nodes ≡ opened + 1 → IsOpened read scope this inner items d0 d1 → HasGrown (statements inner items) (flat_statements (length d1.nodes)) d1 d2 → body ≡ length d1.nodes → after ≡ length d2.nodes → n ≡ node_of_body this body after → d3 ≡ record d2 { nodes = slice_set d2.nodes opened n } → HasStated read scope opened d0 d3
body_read read scope inner this items opened body after n d0 d1 d2 d3 one o s e1 e2 e3 filled =
    let these = flat_statements (length d1.nodes) s.value in
    let s1 : opened + 1 + length o.between ≡ length d1.nodes = counted d0 d1 o.between (opened + 1) one o.grows in
    let g12 : d2.nodes ≡ d0.nodes ++ (o.between ++ these) = s.grows ∙ (ap (λ ns. ns ++ these) o.grows ∙ append_assoc d0.nodes o.between these) in
    let s2 : opened + 1 + length (o.between ++ these) ≡ length d2.nodes = counted d0 d2 (o.between ++ these) (opened + 1) one g12 in
    let whole : flat_statement opened (o.make (Begins (length d1.nodes) s.value)) ≡ n ∷ (o.between ++ these) =
    o.flat opened (length d1.nodes) s.value ∙ rw (s1, s2, e3, e1, e2) refl in
    fill_stated read scope opened d0 d2 d3 (o.make (Begins (length d1.nodes) s.value)) n (o.between ++ these) one
    (o.gives ∙ rw s.gives refl) g12 filled whole

-- what stands before the block fails, or the block
pub body_fails : (read : Stated) (scope inner : Scope) (this : BodyForm) (items : Trees) (d0 d1 : Drafted) (f : ScriptFault) → IsOpened read scope this inner items d0 d1 → Fails f (statements inner items (made_of d1)) → Fails f (read (made_of d0))
body_fails read scope inner this items d0 d1 f o e = rw o.gives (fails_first f _ _ (fails_first f (statements inner items (made_of d1)) _ e))
