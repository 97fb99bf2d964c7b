-- Scripts with their slots, the numbers of their blocks, and their declarations.
use Rattle.std.proofs.Common.{◌≡◌, [], ◌∷◌, Some, refl}
use Rattle.std.specs.Prelude.{codes, pos}
use Rattle.eio_value.specs.Table.{text_id}
use Rattle.eio_value.specs.declared.flow_step.FlowStep.TheVariants.{Data, Fault, Pause}
use Rattle.spec_script.specs.Syntax.{Expression, NumberValue, TextValue, Variable, Operation, Plus as PlusOperator, NoExpressions, AndExpression, Declared, Opened, Load, Both, Statement, Let, LetForm, Give, Raise, Try, Repeat, Loop, Trace, Yield, Sub, Cancel, Branches, Submit, OpenDir, OnPath, Begins, Statements, Done, Then, NoBlocks, AndBlock}
use Rattle.eio_value.specs.Directory.{Empty, File, Link, Sub as SubEntry}
use Rattle.eio_value.specs.Directory as directory
use Rattle.spec_script.specs.Declarations.{Stream, Promise, Semaphore, Mutex, Pool, Executor, Flow, Dir}
use Rattle.test_commands.specs.Read.{bodies, declarations}

-- a `trace` of one operand
abbrev traces : Expression → Statement
traces e = Trace (AndExpression e NoExpressions)

abbrev one : Statement → Statements
one s = Then s Done

-- a name that was brought in an inner block is gone behind it, and so is its slot
nested_blocks : bodies (codes "(eio 1 (main (let x 1) (loop (let y x) (trace y)) (let z x) (trace z)))") ≡ Some (Begins 0 (Then (Let (NumberValue (pos 1))) (Then (Loop (Begins 3 (Then (Let (Variable 0)) (one (traces (Variable 1)))))) (Then (Let (Variable 0)) (one (traces (Variable 1)))))) ∷ [])
unfolding bodies
nested_blocks = refl

-- a hidden variable keeps its slot, and is there again where what hid it is gone
hidden_variables : bodies (codes "(eio 1 (main (let x 1) (let x x) (sub x (cancel x \"a\")) (trace x)))") ≡ Some (Begins 0 (Then (Let (NumberValue (pos 1))) (Then (Let (Variable 0)) (Then (Sub (Begins 5 (one (Cancel 2 (text_id 0))))) (one (traces (Variable 1)))))) ∷ [])
unfolding bodies
hidden_variables = refl

-- the slots of a job are those of its captured variables, in their order, and then its own
a_job : bodies (codes "(eio 1 (executor e 0) (main (let a 1) (let b 2) (let c 3) (let r (submit e 60 (c a) (let d c) (give (plus a d)))) (trace r)))") ≡ Some (Begins 0 (Then (Let (NumberValue (pos 1))) (Then (Let (NumberValue (pos 2))) (Then (Let (NumberValue (pos 3))) (Then (LetForm (Submit 0 60 (2 ∷ 0 ∷ []) (Begins 8 (Then (Let (Variable 0)) (one (Give (Operation PlusOperator (Variable 1) (Variable 2)))))))) (one (traces (Variable 3))))))) ∷ [])
unfolding bodies
a_job = refl

-- each block has the number of its first node, which is its end where it is empty
blocks_of_forms : bodies (codes "(eio 1 (main (try ((raise \"a\")) e ((trace e))) (repeat k 2 (yield)) (both ((yield)) ())))") ≡ Some (Begins 0 (Then (Try (Begins 1 (one (Raise (text_id 0)))) (Begins 3 (one (traces (Variable 0))))) (Then (Repeat (NumberValue (pos 2)) (Begins 8 (one Yield))) (one (Branches Both (AndBlock (Begins 11 (one Yield)) (AndBlock (Begins 13 Done) NoBlocks)))))) ∷ [])
unfolding bodies
blocks_of_forms = refl

-- nodes are numbered on from body to body
bodies_in_order : bodies (codes "(eio 1 (main (yield)) (domain) (domain (yield)))") ≡ Some (Begins 0 (one Yield) ∷ Begins 2 Done ∷ Begins 3 (one Yield) ∷ [])
unfolding bodies
bodies_in_order = refl

-- a capability by its slot, a declared directory by its number
directories : bodies (codes "(eio 1 (mutex m) (dir d) (main (open-dir d \"p\" c (load c \"q\") (load d \"q\"))))") ≡ Some (Begins 0 (one (OpenDir (Declared 1) (TextValue (text_id 2)) (Begins 2 (Then (OnPath Load (Opened 0) (TextValue (text_id 3))) (one (OnPath Load (Declared 1) (TextValue (text_id 3)))))))) ∷ [])
unfolding bodies
directories = refl

each_declaration : declarations (codes "(eio 1 (stream s 2) (promise p) (semaphore m 3) (mutex u) (pool r 4) (executor e 0 1) (flow f (data \"x\") (fault \"y\") (pause)) (dir d (file \"a\" \"b\") (sub \"c\" (link \"l\" \"..\"))) (main) (domain))") ≡ Some (Stream 2 ∷ Promise ∷ Semaphore 3 ∷ Mutex ∷ Pool 4 ∷ Executor (0 ∷ 1 ∷ []) ∷ Flow (Data (codes "x") ∷ Fault (text_id 8) ∷ Pause ∷ []) ∷ Dir (directory.And (File (codes "a") (codes "b")) (directory.And (SubEntry (codes "c") (directory.And (Link (codes "l") (codes "..")) Empty)) Empty)) ∷ [])
unfolding declarations
each_declaration = refl
