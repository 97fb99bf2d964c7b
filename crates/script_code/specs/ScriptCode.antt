-- A script as parts that have a code, its bodies as their nodes, which give it back.
use Rattle.std.specs.Prelude.{◌≡◌, ℕ, suc, ◌+◌, List, [], ◌∷◌, ◌++◌, length, map, Option, refl}
use Rattle.std.proofs.Common.{ap, sym, ◌∙◌, append_assoc, append-nil, arith}
use Rattle.std.specs.Coded.{Coded, code_by, codes}
use Rattle.eio_value.specs.declared.value.TextId.{TextId}
use Rattle.eio_value.specs.DirectoryCode.{directory_code}
use Rattle.spec_script.specs.Declarations as declaration
use Rattle.spec_script.specs.Declarations.{Declaration}
use Rattle.spec_script.specs.Reads.{Formed}
use Rattle.spec_script.specs.Scripts.{Script}
use Rattle.spec_script.specs.Syntax as syntax
use Rattle.spec_script.specs.Syntax.{Expression, Expressions, Statement, Statements, Block, Begins, Blocks, NoBlocks, AndBlock}
use Rattle.script_forms.specs.Calls.{operator_of, operator_in, object_call_of, object_call_in, object_call_with_of, object_call_with_in, reader_call_of, reader_call_in, path_call_of, path_call_in, group_of, group_in, forking_of, forking_in, directory_of, directory_in}
use Rattle.script_forms.specs.Declaring.{declaration_of, declaration_in}
use Rattle.script_forms.specs.Flat.{flat_expression, flat_expressions, expression_count, headed, number_of, numbers_of, flat_statement, flat_statements, flat_blocks, flat_bodies}
use Rattle.script_code.specs.Unflat.{Behind, operands, past_operands, branches, past_branches, with_expression, with_rest, states, onto, unflat, bodies_by, bodies_of}
use Rattle.script_forms.specs.declared.declaration.Decl.{Decl}
use Rattle.script_forms.specs.declared.node.Node.{Node}
use Rattle.script_forms.specs.declared.node.Node.TheVariants as node

-- ## The small enums and back

pub operator_back : (it : syntax.Operator) → operator_of (operator_in it) ≡ it
operator_back syntax.Plus = refl
operator_back syntax.Minus = refl
operator_back syntax.Same = refl
operator_back syntax.Less = refl

pub object_call_back : (it : syntax.ObjectCall) → object_call_of (object_call_in it) ≡ it
object_call_back syntax.Take = refl
object_call_back syntax.TakeNonblocking = refl
object_call_back syntax.Length = refl
object_call_back syntax.Await = refl
object_call_back syntax.Acquire = refl
object_call_back syntax.Release = refl
object_call_back syntax.Lock = refl
object_call_back syntax.TryLock = refl
object_call_back syntax.Unlock = refl

pub object_call_with_back : (it : syntax.ObjectCallWith) → object_call_with_of (object_call_with_in it) ≡ it
object_call_with_back syntax.Add = refl
object_call_with_back syntax.Resolve = refl
object_call_with_back syntax.TryResolve = refl

pub reader_call_back : (it : syntax.ReaderCall) → reader_call_of (reader_call_in it) ≡ it
reader_call_back syntax.Line = refl
reader_call_back syntax.TakeAll = refl
reader_call_back syntax.Char = refl
reader_call_back syntax.AtEnd = refl

pub path_call_back : (it : syntax.PathCall) → path_call_of (path_call_in it) ≡ it
path_call_back syntax.Load = refl
path_call_back syntax.Mkdir = refl
path_call_back syntax.ReadDir = refl
path_call_back syntax.Unlink = refl
path_call_back syntax.Rmdir = refl
path_call_back syntax.Kind = refl

pub group_back : (it : syntax.Group) → group_of (group_in it) ≡ it
group_back syntax.Both = refl
group_back syntax.All = refl
group_back syntax.First = refl
group_back syntax.Any = refl

pub forking_back : (it : syntax.Forking) → forking_of (forking_in it) ≡ it
forking_back syntax.Plain = refl
forking_back syntax.Daemon = refl
forking_back (syntax.Promising promise) = refl

pub directory_back : (it : syntax.Directory) → directory_of (directory_in it) ≡ it
directory_back (syntax.Declared number) = refl
directory_back (syntax.Opened slot) = refl

-- ## Expressions

pub unflat_expression : (e : Expression) (behind : List Node) → unflat (flat_expression e ++ behind) ≡ with_expression e (unflat behind)
unfolding flat_expression
unflat_expression (syntax.NumberValue z) behind = refl
unflat_expression (syntax.TextValue text) behind = refl
unflat_expression (syntax.Variable slot) behind = refl
unflat_expression syntax.UnitValue behind = refl
unflat_expression (syntax.Operation operator left right) behind =
    ap (onto (node.Operation (operator_in operator)))
    (ap unflat (append_assoc (flat_expression left) (flat_expression right) behind)
    ∙ (unflat_expression left (flat_expression right ++ behind) ∙ ap (with_expression left) (unflat_expression right behind)))
    ∙ ap (λ it. with_expression (syntax.Operation it left right) (unflat behind)) (operator_back operator)

-- two, one behind the other
pub unflat_two : (first second : Expression) (behind : List Node)
    → unflat ((flat_expression first ++ flat_expression second) ++ behind) ≡ with_expression first (with_expression second (unflat behind))
unflat_two first second behind =
    ap unflat (append_assoc (flat_expression first) (flat_expression second) behind)
    ∙ (unflat_expression first (flat_expression second ++ behind) ∙ ap (with_expression first) (unflat_expression second behind))

-- these before those that are behind
abbrev pub with_expressions : Expressions → Behind → Behind
with_expressions syntax.NoExpressions behind = behind
with_expressions (syntax.AndExpression e rest) behind = with_expression e (with_expressions rest behind)

pub unflat_expressions : (es : Expressions) (behind : List Node) → unflat (flat_expressions es ++ behind) ≡ with_expressions es (unflat behind)
unfolding flat_expressions
unflat_expressions syntax.NoExpressions behind = refl
unflat_expressions (syntax.AndExpression e rest) behind =
    ap unflat (append_assoc (flat_expression e) (flat_expressions rest) behind)
    ∙ (unflat_expression e (flat_expressions rest ++ behind) ∙ ap (with_expression e) (unflat_expressions rest behind))

one_more : (n : ℕ) → n + 1 ≡ suc n
one_more n = omega arith

pub operands_back : (es : Expressions) (behind : Behind) → operands (expression_count es) (with_expressions es behind) ≡ es
unfolding expression_count
operands_back syntax.NoExpressions behind = refl
operands_back (syntax.AndExpression e rest) behind =
    ap (λ n. operands n (with_expression e (with_expressions rest behind))) (one_more (expression_count rest)) ∙ ap (syntax.AndExpression e) (operands_back rest behind)

pub past_operands_back : (es : Expressions) (behind : Behind) → past_operands (expression_count es) (with_expressions es behind) ≡ behind
unfolding expression_count
past_operands_back syntax.NoExpressions behind = refl
past_operands_back (syntax.AndExpression e rest) behind =
    ap (λ n. past_operands n (with_expression e (with_expressions rest behind))) (one_more (expression_count rest)) ∙ past_operands_back rest behind

-- ## Blocks

abbrev pub with_blocks : Blocks → Behind → Behind
with_blocks NoBlocks behind = behind
with_blocks (AndBlock (Begins number items) rest) behind = with_rest items (with_blocks rest behind)

pub branches_back : (blocks : Blocks) (behind : Behind) → branches (numbers_of blocks) (with_blocks blocks behind) ≡ blocks
unfolding numbers_of
branches_back NoBlocks behind = refl
branches_back (AndBlock (Begins number items) rest) behind = ap (AndBlock (Begins number items)) (branches_back rest behind)

pub past_branches_back : (blocks : Blocks) (behind : Behind) → past_branches (numbers_of blocks) (with_blocks blocks behind) ≡ behind
unfolding numbers_of
past_branches_back NoBlocks behind = refl
past_branches_back (AndBlock (Begins number items) rest) behind = past_branches_back rest behind

-- ## Statements

-- a node before what begins behind it
heads : (at : ℕ) (head : ℕ → Node) (inner behind : List Node) (b : Behind) → unflat (inner ++ behind) ≡ b → unflat (headed at head inner ++ behind) ≡ onto (head (at + 1 + length inner)) b
heads at head inner behind b e = ap (onto (head (at + 1 + length inner))) e

-- operands, and a node of a call that the code writes otherwise
mutual
  unfolding flat_statement flat_statements flat_blocks

  pub unflat_statement : (at : ℕ) (it : Statement) (behind : List Node) → unflat (flat_statement at it ++ behind) ≡ states it (unflat behind)
  unflat_statement at (syntax.Let e) behind = ap (onto node.Let) (unflat_expression e behind)
  unflat_statement at (syntax.LetForm form) behind = ap (onto node.LetForm) (unflat_statement (at + 1) form behind)
  unflat_statement at (syntax.If e (Begins n then_items) (Begins m else_items)) behind =
      let test = flat_expression e in
      let then_nodes = flat_statements (at + 1 + length test) then_items in
      let first = test ++ then_nodes in
      let else_nodes = flat_statements (at + 1 + length first) else_items in
      heads at (λ after. node.If n m after) (first ++ else_nodes) behind _
      (ap unflat (append_assoc first else_nodes behind ∙ append_assoc test then_nodes (else_nodes ++ behind))
      ∙ (unflat_expression e (then_nodes ++ (else_nodes ++ behind))
      ∙ ap (with_expression e) (unflat_statements (at + 1 + length test) then_items (else_nodes ++ behind)
      ∙ ap (with_rest then_items) (unflat_statements (at + 1 + length first) else_items behind))))
  unflat_statement at (syntax.Give e) behind = ap (onto node.Give) (unflat_expression e behind)
  unflat_statement at (syntax.Raise text) behind = refl
  unflat_statement at (syntax.Try (Begins n tried) (Begins m handler)) behind =
      let first = flat_statements (at + 1) tried in
      let second = flat_statements (at + 1 + length first) handler in
      heads at (λ after. node.Try n m after) (first ++ second) behind _
      (ap unflat (append_assoc first second behind)
      ∙ (unflat_statements (at + 1) tried (second ++ behind) ∙ ap (with_rest tried) (unflat_statements (at + 1 + length first) handler behind)))
  unflat_statement at (syntax.Repeat times (Begins n body)) behind =
      let first = flat_expression times in
      let second = flat_statements (at + 1 + length first) body in
      heads at (λ after. node.Repeat n after) (first ++ second) behind _
      (ap unflat (append_assoc first second behind)
      ∙ (unflat_expression times (second ++ behind) ∙ ap (with_expression times) (unflat_statements (at + 1 + length first) body behind)))
  unflat_statement at (syntax.Trace es) behind =
      ap (onto (node.Trace (expression_count es))) (unflat_expressions es behind)
      ∙ (ap (λ it. states (syntax.Trace it) (past_operands (expression_count es) (with_expressions es (unflat behind)))) (operands_back es (unflat behind))
      ∙ ap (states (syntax.Trace es)) (past_operands_back es (unflat behind)))
  unflat_statement at syntax.Yield behind = refl
  unflat_statement at syntax.Check behind = refl
  unflat_statement at syntax.AwaitCancel behind = refl
  unflat_statement at (syntax.Cancel context text) behind = refl
  unflat_statement at (syntax.Fork forking switch (Begins n body)) behind =
      heads at (λ after. node.Fork (forking_in forking) switch n after) (flat_statements (at + 1) body) behind _ (unflat_statements (at + 1) body behind)
      ∙ ap (λ it. states (syntax.Fork it switch (Begins n body)) (unflat behind)) (forking_back forking)
  unflat_statement at (syntax.Fail switch text) behind = refl
  unflat_statement at (syntax.Branches group blocks) behind =
      heads at (λ after. node.Branches (group_in group) (numbers_of blocks) after) (flat_blocks (at + 1) blocks) behind _ (unflat_blocks (at + 1) blocks behind)
      ∙ (ap (λ it. states (syntax.Branches it (branches (numbers_of blocks) (with_blocks blocks (unflat behind)))) (past_branches (numbers_of blocks) (with_blocks blocks (unflat behind)))) (group_back group)
      ∙ (ap (λ it. states (syntax.Branches group it) (past_branches (numbers_of blocks) (with_blocks blocks (unflat behind)))) (branches_back blocks (unflat behind))
      ∙ ap (states (syntax.Branches group blocks)) (past_branches_back blocks (unflat behind))))
  unflat_statement at (syntax.OnObject call object) behind = ap (λ it. states (syntax.OnObject it object) (unflat behind)) (object_call_back call)
  unflat_statement at (syntax.OnObjectWith call object e) behind =
      ap (onto (node.OnObjectWith (object_call_with_in call) object)) (unflat_expression e behind)
      ∙ ap (λ it. states (syntax.OnObjectWith it object e) (unflat behind)) (object_call_with_back call)
  unflat_statement at (syntax.Sleep time) behind = ap (onto node.Sleep) (unflat_expression time behind)
  unflat_statement at syntax.Now behind = refl
  unflat_statement at (syntax.OnReader call reader) behind = ap (λ it. states (syntax.OnReader it reader) (unflat behind)) (reader_call_back call)
  unflat_statement at (syntax.TakeBytes reader count) behind = ap (onto (node.TakeBytes reader)) (unflat_expression count behind)
  unflat_statement at (syntax.Copy from to) behind = refl
  unflat_statement at (syntax.Put writer text) behind = ap (onto (node.Put writer)) (unflat_expression text behind)
  unflat_statement at (syntax.OpenDir directory path (Begins n body)) behind =
      let first = flat_expression path in
      let second = flat_statements (at + 1 + length first) body in
      heads at (λ after. node.OpenDir (directory_in directory) n after) (first ++ second) behind _
      (ap unflat (append_assoc first second behind)
      ∙ (unflat_expression path (second ++ behind) ∙ ap (with_expression path) (unflat_statements (at + 1 + length first) body behind)))
      ∙ ap (λ it. states (syntax.OpenDir it path (Begins n body)) (unflat behind)) (directory_back directory)
  unflat_statement at (syntax.OnPath call directory path) behind =
      ap (onto (node.OnPath (path_call_in call) (directory_in directory))) (unflat_expression path behind)
      ∙ (ap (λ it. states (syntax.OnPath it (directory_of (directory_in directory)) path) (unflat behind)) (path_call_back call)
      ∙ ap (λ it. states (syntax.OnPath call it path) (unflat behind)) (directory_back directory))
  unflat_statement at (syntax.Save only_new directory path content) behind =
      ap (onto (node.Save only_new (directory_in directory))) (unflat_two path content behind)
      ∙ ap (λ it. states (syntax.Save only_new it path content) (unflat behind)) (directory_back directory)
  unflat_statement at (syntax.Loop (Begins n body)) behind =
      heads at (λ after. node.Loop n after) (flat_statements (at + 1) body) behind _ (unflat_statements (at + 1) body behind)
  unflat_statement at (syntax.Sub (Begins n body)) behind =
      heads at (λ after. node.Sub n after) (flat_statements (at + 1) body) behind _ (unflat_statements (at + 1) body behind)
  unflat_statement at (syntax.Protect (Begins n body)) behind =
      heads at (λ after. node.Protect n after) (flat_statements (at + 1) body) behind _ (unflat_statements (at + 1) body behind)
  unflat_statement at (syntax.Switch (Begins n body)) behind =
      heads at (λ after. node.Switch n after) (flat_statements (at + 1) body) behind _ (unflat_statements (at + 1) body behind)
  unflat_statement at (syntax.OnRelease switch (Begins n body)) behind =
      heads at (λ after. node.OnRelease switch n after) (flat_statements (at + 1) body) behind _ (unflat_statements (at + 1) body behind)
  unflat_statement at (syntax.UseRw mutex (Begins n body)) behind =
      heads at (λ after. node.UseRw mutex n after) (flat_statements (at + 1) body) behind _ (unflat_statements (at + 1) body behind)
  unflat_statement at (syntax.UsePool pool (Begins n body)) behind =
      heads at (λ after. node.UsePool pool n after) (flat_statements (at + 1) body) behind _ (unflat_statements (at + 1) body behind)
  unflat_statement at (syntax.Submit executor weight captured (Begins n body)) behind =
      heads at (λ after. node.Submit executor weight captured n after) (flat_statements (at + 1) body) behind _ (unflat_statements (at + 1) body behind)
  unflat_statement at (syntax.BufRead flow limit (Begins n body)) behind =
      heads at (λ after. node.BufRead flow limit n after) (flat_statements (at + 1) body) behind _ (unflat_statements (at + 1) body behind)
  unflat_statement at (syntax.BufWrite flow (Begins n body)) behind =
      heads at (λ after. node.BufWrite flow n after) (flat_statements (at + 1) body) behind _ (unflat_statements (at + 1) body behind)

  pub unflat_statements : (at : ℕ) (items : Statements) (behind : List Node) → unflat (flat_statements at items ++ behind) ≡ with_rest items (unflat behind)
  unflat_statements at syntax.Done behind = refl
  unflat_statements at (syntax.Then it rest) behind =
      let first = flat_statement at it in
      let others = flat_statements (at + length first) rest in
      ap unflat (append_assoc first others behind) ∙ (unflat_statement at it (others ++ behind) ∙ ap (states it) (unflat_statements (at + length first) rest behind))

  pub unflat_blocks : (at : ℕ) (blocks : Blocks) (behind : List Node) → unflat (flat_blocks at blocks ++ behind) ≡ with_blocks blocks (unflat behind)
  unflat_blocks at NoBlocks behind = refl
  unflat_blocks at (AndBlock (Begins n items) rest) behind =
      let first = flat_statements at items in
      let others = flat_blocks (at + length first) rest in
      ap unflat (append_assoc first others behind) ∙ (unflat_statements at items (others ++ behind) ∙ ap (with_rest items) (unflat_blocks (at + length first) rest behind))

-- ## Scripts

rests_of : List Block → List Statements → List Statements
rests_of [] rests = rests
rests_of (Begins n items ∷ bodies) rests = items ∷ rests_of bodies rests

unflat_bodies : (at : ℕ) (bodies : List Block) (behind : List Node) → (unflat (flat_bodies at bodies ++ behind)).blocks ≡ rests_of bodies (unflat behind).blocks
unfolding flat_bodies rests_of
unflat_bodies at [] behind = refl
unflat_bodies at (Begins n items ∷ rest) behind =
    let first = flat_statements at items in
    let others = flat_bodies (at + length first) rest in
    ap (λ nodes. (unflat nodes).blocks) (append_assoc first others behind)
    ∙ (ap (λ (b : Behind). b.blocks) (unflat_statements at items (others ++ behind)) ∙ ap (λ rests. items ∷ rests) (unflat_bodies (at + length first) rest behind))

bodies_back : (bodies : List Block) (rests : List Statements) → bodies_by (map number_of bodies) (rests_of bodies rests) ≡ bodies
unfolding rests_of
bodies_back [] rests = refl
bodies_back (Begins n items ∷ bodies) rests = ap (λ others. Begins n items ∷ others) (bodies_back bodies rests)

-- bodies are those that their nodes stand for
pub bodies_of-flat : (bodies : List Block) → bodies_of (map number_of bodies) (flat_bodies 0 bodies) ≡ bodies
unfolding bodies_of
bodies_of-flat bodies =
    ap (λ rests. bodies_by (map number_of bodies) rests) (ap (λ nodes. (unflat nodes).blocks) (sym (append-nil (flat_bodies 0 bodies))) ∙ unflat_bodies 0 bodies [])
    ∙ bodies_back bodies []

pub declaration_back : (it : Declaration) → declaration_of (declaration_in it) ≡ it
declaration_back (declaration.Stream capacity) = refl
declaration_back declaration.Promise = refl
declaration_back (declaration.Semaphore count) = refl
declaration_back declaration.Mutex = refl
declaration_back (declaration.Pool size) = refl
declaration_back (declaration.Executor workers) = refl
declaration_back (declaration.Flow steps) = refl
declaration_back (declaration.Dir entries) = refl

declarations_back : (these : List Declaration) → map declaration_of (map declaration_in these) ≡ these
declarations_back [] = refl
declarations_back (it ∷ others) = ap (λ first. first ∷ map declaration_of (map declaration_in others)) (declaration_back it) ∙ ap (λ rest. it ∷ rest) (declarations_back others)

abbrev pub Parted : Type 0
Parted = List TextId × (List Decl × (List ℕ × (List Node × (List (List ℕ) × (List TextId × (List Formed × (Option ℕ × ℕ)))))))

abbrev pub parted : Script → Parted
parted s = (s.names, (map declaration_in s.declarations, (map number_of s.bodies, (flat_bodies 0 s.bodies, (s.texts, (s.failures, (s.formed, (s.first_domain, s.version))))))))

abbrev pub script_by : (declarations : List Declaration) (bodies : List Block) → Parted → Script
script_by declarations bodies p = record {
  version = p.1.1.1.1.1.1.1.1;
  names = p.0;
  declarations = declarations;
  bodies = bodies;
  texts = p.1.1.1.1.0;
  failures = p.1.1.1.1.1.0;
  formed = p.1.1.1.1.1.1.0;
  first_domain = p.1.1.1.1.1.1.1.0;
}

abbrev pub script_in : Parted → Script
script_in p = script_by (map declaration_of p.1.0) (bodies_of p.1.1.0 p.1.1.1.0) p

pub script_back : (s : Script) → script_in (parted s) ≡ s
script_back s =
    ap (λ these. script_by these (bodies_of (map number_of s.bodies) (flat_bodies 0 s.bodies)) (parted s)) (declarations_back s.declarations)
    ∙ ap (λ bodies. script_by s.declarations bodies (parted s)) (bodies_of-flat s.bodies)

pub parted_code : Coded Parted
parted_code = hlevel (codes, directory_code)

abbrev pub script_code : Coded Script
script_code = code_by Parted parted_code parted script_in script_back
