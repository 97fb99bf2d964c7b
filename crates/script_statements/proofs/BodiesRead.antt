-- Lists of at least so many trees, by the places between them; and what stands before a form's block.
use Rattle.std.proofs.Common.{◌≡◌, ℕ, ◌+◌, ◌≤◌, List, [], Result, Ok, Err, append-nil, refl, arith, ap, sym, ◌∙◌}
use Rattle.std.specs.Prelude.{IfOk, IfErr}
use Rattle.spec_script.specs.Trees.{Tree, Trees, Nil, And}
use Rattle.spec_script.specs.Faults as model
use Rattle.spec_script.specs.Kinds.{Kind, SwitchKind}
use Rattle.spec_script.specs.Reads.{Made, ◌>>>◌}
use Rattle.spec_script.specs.Results.{◌>>=◌}
use Rattle.spec_script.specs.Scopes.{Scope, bring, used}
use Rattle.spec_script.specs.Statements.{Stated, stated, statements, block_of}
use Rattle.spec_script.specs.Syntax as syntax
use Rattle.spec_script.specs.Syntax.{Statement, Statements, Block, Begins}
use Rattle.script_tree.specs.Pieces.{Piece, first_tree}
use Rattle.script_statements.specs.Bodies.{node_of_body, IsOpened, Opens, Names, IsFork, Forks}
use Rattle.script_forms.specs.Calls.{forking_in}
use Rattle.script_draft.specs.Drafts.{Drafted, made_of}
use Rattle.script_forms.specs.Flat.{headed, flat_statement, flat_statements}
use Rattle.script_statements.specs.declared.bodies.BodyForm.{BodyForm}
use Rattle.script_statements.specs.declared.bodies.BodyForm.TheVariants as form
use Rattle.script_statements.specs.declared.bodies.Opened.{Opened}
use Rattle.script_forms.specs.declared.fault.ScriptFault.{ScriptFault}
use Rattle.script_forms.specs.declared.fault.ScriptFault.TheVariants as fault
use Rattle.script_forms.specs.declared.node.Forking.{Forking}
use Rattle.script_forms.specs.declared.node.Node.TheVariants as node
use Rattle.script_forms.specs.declared.node.Node.{Node}
use Rattle.script_draft.specs.Ahead.{ahead, rest_of, tree_count, tree_ahead, IsPast}
use Rattle.script_draft.proofs.Counts.{count_past, one_more}
use Rattle.script_draft.proofs.Steps.{fails_first}

split_one : (ts : Trees) → 1 ≤ tree_count ts → ts ≡ And (first_tree ts) (rest_of ts)
split_one Nil some = absurd (omega (arith, some))
split_one (And t ts) some = refl

split_two : (ts : Trees) → 2 ≤ tree_count ts → ts ≡ And (first_tree ts) (And (first_tree (rest_of ts)) (rest_of (rest_of ts)))
split_two Nil some = absurd (omega (arith, some))
split_two (And a Nil) some = absurd (omega (arith, some))
split_two (And a (And b ts)) some = refl

split_three : (ts : Trees) → 3 ≤ tree_count ts → ts ≡ And (first_tree ts) (And (first_tree (rest_of ts)) (And (first_tree (rest_of (rest_of ts))) (rest_of (rest_of (rest_of ts)))))
split_three Nil some = absurd (omega (arith, some))
split_three (And a Nil) some = absurd (omega (arith, some))
split_three (And a (And b Nil)) some = absurd (omega (arith, some))
split_three (And a (And b (And c ts))) some = refl

-- ## One tree and more

pub one_before : (c0 : List Piece) → 1 ≤ tree_count (ahead c0) → ahead c0 ≡ And (tree_ahead c0) (rest_of (ahead c0))
one_before c0 some = split_one (ahead c0) some

pub one_behind : (c0 c1 : List Piece) → 1 ≤ tree_count (ahead c0) → IsPast c0 c1 → ahead c0 ≡ And (tree_ahead c0) (ahead c1)
one_behind c0 c1 some past = one_more c0 c1 (omega (arith, some)) past

-- ## Two trees and more

pub two_before : (c0 : List Piece) → 2 ≤ tree_count (ahead c0) → ahead c0 ≡ And (tree_ahead c0) (And (first_tree (rest_of (ahead c0))) (rest_of (rest_of (ahead c0))))
two_before c0 some = split_two (ahead c0) some

pub two_between : (c0 c1 : List Piece) → 2 ≤ tree_count (ahead c0) → IsPast c0 c1 → ahead c0 ≡ And (tree_ahead c0) (And (tree_ahead c1) (rest_of (ahead c1)))
two_between c0 c1 some past =
    let count = count_past c0 c1 past in
    one_more c0 c1 (omega (arith, some)) past ∙ ap (λ ts. And (tree_ahead c0) ts) (one_before c1 (omega (arith, some, count)))

pub two_behind : (c0 c1 c2 : List Piece) → 2 ≤ tree_count (ahead c0) → IsPast c0 c1 → IsPast c1 c2 → ahead c0 ≡ And (tree_ahead c0) (And (tree_ahead c1) (ahead c2))
two_behind c0 c1 c2 some past again =
    let count = count_past c0 c1 past in
    one_more c0 c1 (omega (arith, some)) past ∙ ap (λ ts. And (tree_ahead c0) ts) (one_behind c1 c2 (omega (arith, some, count)) again)

-- ## Three trees and more

pub three_before : (c0 : List Piece) → 3 ≤ tree_count (ahead c0) → ahead c0 ≡ And (tree_ahead c0) (And (first_tree (rest_of (ahead c0))) (And (first_tree (rest_of (rest_of (ahead c0)))) (rest_of (rest_of (rest_of (ahead c0))))))
three_before c0 some = split_three (ahead c0) some

pub three_after_one : (c0 c1 : List Piece) → 3 ≤ tree_count (ahead c0) → IsPast c0 c1 → ahead c0 ≡ And (tree_ahead c0) (And (tree_ahead c1) (And (first_tree (rest_of (ahead c1))) (rest_of (rest_of (ahead c1)))))
three_after_one c0 c1 some past =
    let count = count_past c0 c1 past in
    one_more c0 c1 (omega (arith, some)) past ∙ ap (λ ts. And (tree_ahead c0) ts) (two_before c1 (omega (arith, some, count)))

pub three_after_two : (c0 c1 c2 : List Piece) → 3 ≤ tree_count (ahead c0) → IsPast c0 c1 → IsPast c1 c2 → ahead c0 ≡ And (tree_ahead c0) (And (tree_ahead c1) (And (tree_ahead c2) (rest_of (ahead c2))))
three_after_two c0 c1 c2 some past again =
    let count = count_past c0 c1 past in
    one_more c0 c1 (omega (arith, some)) past ∙ ap (λ ts. And (tree_ahead c0) ts) (two_between c1 c2 (omega (arith, some, count)) again)

pub three_behind : (c0 c1 c2 c3 : List Piece) → 3 ≤ tree_count (ahead c0) → IsPast c0 c1 → IsPast c1 c2 → IsPast c2 c3 → ahead c0 ≡ And (tree_ahead c0) (And (tree_ahead c1) (And (tree_ahead c2) (ahead c3)))
three_behind c0 c1 c2 c3 some past again then =
    let count = count_past c0 c1 past in
    one_more c0 c1 (omega (arith, some)) past ∙ ap (λ ts. And (tree_ahead c0) ts) (two_behind c1 c2 c3 (omega (arith, some, count)) again then)

-- ## Nodes of a form

-- nothing stands before its block
pub block_alone : (at : ℕ) (head : ℕ → Node) (body : Statements) → headed at head (flat_statements (at + 1) body) ≡ headed at head (flat_statements (at + 1 + 0) body)
block_alone at head body = let e : at + 1 ≡ at + 1 + 0 = omega arith in ap (λ n. headed at head (flat_statements n body)) e

-- ## Forms that are read alike

-- nothing stands before the block
pub plain_opened : (r : Result Opened ScriptFault) (scope : Scope) (make : Block → Statement) (form : BodyForm) (read : Stated) (items : Trees) (d : Drafted) → IfOk r (λ it. (it.form ≡ form) × (it.inner ≡ scope)) → IfErr r (λ f. f ≡ fault.NoMemory) → read (made_of d) ≡ (block_of (statements scope items) >>> λ b. stated scope (make b)) (made_of d) → ((at number : ℕ) (body : Statements) → flat_statement at (make (Begins number body)) ≡ headed at (node_of_body form number) (flat_statements (at + 1) body)) → Opens r read scope items d d
plain_opened (Ok it) scope make form read items d ok failed e flat = record {
  make = make;
  between = [];
  gives = rw ok.1 e;
  grows = sym (append-nil _);
  flat = λ at number body. rw ok.0 (flat at number body ∙ block_alone at (node_of_body form number) body);
}
plain_opened (Err f) scope make form read items d ok failed e flat = rw failed tt

-- a name that the block sees
pub naming_opened : (r : Result Opened ScriptFault) (kind : Kind) (scope : Scope) (make : Block → Statement) (form : BodyForm) (step : Trees → Stated) (c0 c1 : List Piece) (d : Drafted) → 1 ≤ tree_count (ahead c0) → IfOk r (λ _. IsPast c0 c1) → IfOk r (λ it. it.form ≡ form) → Names r kind scope (tree_ahead c0) → ((tree : Tree) (items : Trees) → step (And tree items) (made_of d) ≡ (bring kind scope tree >>> λ inner. block_of (statements inner items) >>> λ b. stated scope (make b)) (made_of d)) → ((at number : ℕ) (body : Statements) → flat_statement at (make (Begins number body)) ≡ headed at (node_of_body form number) (flat_statements (at + 1) body)) → Opens r (step (ahead c0)) scope (ahead c1) d d
naming_opened (Ok it) kind scope make form step c0 c1 d some past is name e flat = record {
  make = make;
  between = [];
  gives = ap (λ items. step items (made_of d)) (one_behind c0 c1 some past) ∙ e (tree_ahead c0) (ahead c1) ∙ ap (λ (found : Result (Scope × Made) model.ScriptFault). found >>= λ more. (block_of (statements more.0 (ahead c1)) >>> λ b. stated scope (make b)) more.1) (name (made_of d));
  grows = sym (append-nil _);
  flat = λ at number body. rw is (flat at number body ∙ block_alone at (node_of_body form number) body);
}
naming_opened (Err f) kind scope make form step c0 c1 d some past is name e flat =
    rw (one_before c0 some, e (tree_ahead c0) (rest_of (ahead c0))) (fails_first f (bring kind scope (tree_ahead c0) (made_of d)) _ (name (made_of d)))

fork_by : (how : BodyForm) (inner : Scope) (scope : Scope) (forking : syntax.Forking) (code : Forking) (step : Trees → Stated) (c0 c1 : List Piece) (d : Drafted) → 1 ≤ tree_count (ahead c0) → IsPast c0 c1 → inner ≡ scope → forking_in forking ≡ code → IsFork code how (used SwitchKind scope (tree_ahead c0)) → ((tree : Tree) (items : Trees) → step (And tree items) (made_of d) ≡ (used SwitchKind scope tree >>> λ switch. block_of (statements scope items) >>> λ b. stated scope (syntax.Fork forking switch b)) (made_of d)) → IsOpened (step (ahead c0)) scope how inner (ahead c1) d d
unfolding flat_statement
fork_by (form.Fork it switch) inner scope forking code step c0 c1 d some past same is fork e = record {
  make = λ b. syntax.Fork forking switch b;
  between = [];
  gives = ap (λ items. step items (made_of d)) (one_behind c0 c1 some past) ∙ e (tree_ahead c0) (ahead c1) ∙ rw (fork.1 (made_of d), same) refl;
  grows = sym (append-nil _);
  flat = λ at number body. rw (fork.0, ← is) (block_alone at (λ after. node.Fork (forking_in forking) switch number after) body);
}
fork_by form.Repeat inner scope forking code step c0 c1 d some past same is fork e = absurd fork
fork_by form.Loop inner scope forking code step c0 c1 d some past same is fork e = absurd fork
fork_by form.Sub inner scope forking code step c0 c1 d some past same is fork e = absurd fork
fork_by form.Protect inner scope forking code step c0 c1 d some past same is fork e = absurd fork
fork_by form.Switch inner scope forking code step c0 c1 d some past same is fork e = absurd fork
fork_by (form.OnRelease switch) inner scope forking code step c0 c1 d some past same is fork e = absurd fork
fork_by (form.UseRw mutex) inner scope forking code step c0 c1 d some past same is fork e = absurd fork
fork_by (form.UsePool pool) inner scope forking code step c0 c1 d some past same is fork e = absurd fork
fork_by (form.Submit executor weight captured) inner scope forking code step c0 c1 d some past same is fork e = absurd fork
fork_by (form.BufRead flow limit) inner scope forking code step c0 c1 d some past same is fork e = absurd fork
fork_by (form.BufWrite flow) inner scope forking code step c0 c1 d some past same is fork e = absurd fork
fork_by (form.OpenDir it) inner scope forking code step c0 c1 d some past same is fork e = absurd fork

-- a fork onto a switch
pub fork_opened : (r : Result Opened ScriptFault) (scope : Scope) (forking : syntax.Forking) (code : Forking) (step : Trees → Stated) (c0 c1 : List Piece) (d : Drafted) → 1 ≤ tree_count (ahead c0) → IfOk r (λ _. IsPast c0 c1) → IfOk r (λ it. it.inner ≡ scope) → forking_in forking ≡ code → Forks code r (used SwitchKind scope (tree_ahead c0)) → ((tree : Tree) (items : Trees) → step (And tree items) (made_of d) ≡ (used SwitchKind scope tree >>> λ switch. block_of (statements scope items) >>> λ b. stated scope (syntax.Fork forking switch b)) (made_of d)) → Opens r (step (ahead c0)) scope (ahead c1) d d
fork_opened (Ok it) scope forking code step c0 c1 d some past same is fork e = fork_by it.form it.inner scope forking code step c0 c1 d some past same is fork e
fork_opened (Err f) scope forking code step c0 c1 d some past same is fork e =
    rw (one_before c0 some, e (tree_ahead c0) (rest_of (ahead c0))) (fails_first f (used SwitchKind scope (tree_ahead c0) (made_of d)) _ (fork (made_of d)))
