-- New names that are taken, and used names that aren't in scope with the kind that is wanted.
use Rattle.std.proofs.Common.{◌≡◌, Some, None, refl}
use Rattle.std.specs.Prelude.{codes}
use Rattle.spec_script.specs.Faults.{Name, Twice}
use Rattle.test_commands.specs.Read.{fault}

-- a new name may be no declaration's, nor that of a context, switch, reader, writer or capability in scope
a_declared_name : fault (codes "(eio 1 (stream s 1) (main (let s 1)))") ≡ Some (Twice 31)
unfolding fault
a_declared_name = refl

a_context : fault (codes "(eio 1 (main (sub c (let c 1))))") ≡ Some (Twice 25)
unfolding fault
a_context = refl

a_context_in_itself : fault (codes "(eio 1 (main (sub c (sub c))))") ≡ Some (Twice 25)
unfolding fault
a_context_in_itself = refl

a_switch : fault (codes "(eio 1 (main (switch s (try () s ()))))") ≡ Some (Twice 31)
unfolding fault
a_switch = refl

a_reader : fault (codes "(eio 1 (flow f) (main (buf-read b f 1 (repeat b 1))))") ≡ Some (Twice 46)
unfolding fault
a_reader = refl

a_writer : fault (codes "(eio 1 (flow f) (main (buf-write w f (buf-write w f))))") ≡ Some (Twice 48)
unfolding fault
a_writer = refl

a_capability : fault (codes "(eio 1 (dir d) (main (open-dir d \"\" c (open-dir c \"\" c))))") ≡ Some (Twice 53)
unfolding fault
a_capability = refl

a_declared_directory : fault (codes "(eio 1 (dir d) (main (open-dir d \"\" d)))") ≡ Some (Twice 36)
unfolding fault
a_declared_directory = refl

of_a_pool : fault (codes "(eio 1 (pool r 1) (main (use-pool r r)))") ≡ Some (Twice 36)
unfolding fault
of_a_pool = refl

-- a name comes before what stands behind it
before_a_value : fault (codes "(eio 1 (stream s 1) (main (let s (foo))))") ≡ Some (Twice 31)
unfolding fault
before_a_value = refl

a_name_captured_twice : fault (codes "(eio 1 (executor e 0) (main (let x 1) (submit e 1 (x x))))") ≡ Some (Twice 53)
unfolding fault
a_name_captured_twice = refl

-- a name is free again behind its block, and a variable may be hidden
free_again : fault (codes "(eio 1 (main (sub c) (sub c) (switch c)))") ≡ None
unfolding fault
free_again = refl

hidden_variables : fault (codes "(eio 1 (main (let x 1) (let x 2) (sub x) (try () x ()) (repeat x 2) (trace x)))") ≡ None
unfolding fault
hidden_variables = refl

not_declared : fault (codes "(eio 1 (main (take s)))") ≡ Some (Name 19)
unfolding fault
not_declared = refl

not_in_scope : fault (codes "(eio 1 (main (trace x)))") ≡ Some (Name 20)
unfolding fault
not_in_scope = refl

-- a name isn't in scope before it, in its own value, or behind its block
in_its_own_value : fault (codes "(eio 1 (main (let x x)))") ≡ Some (Name 20)
unfolding fault
in_its_own_value = refl

in_its_own_number : fault (codes "(eio 1 (main (repeat x x)))") ≡ Some (Name 23)
unfolding fault
in_its_own_number = refl

in_the_first_block : fault (codes "(eio 1 (main (try ((trace x)) x ())))") ≡ Some (Name 26)
unfolding fault
in_the_first_block = refl

in_its_own_path : fault (codes "(eio 1 (dir d) (main (open-dir d c c)))") ≡ Some (Name 33)
unfolding fault
in_its_own_path = refl

behind_its_block : fault (codes "(eio 1 (main (loop (let x 1)) (trace x)))") ≡ Some (Name 37)
unfolding fault
behind_its_block = refl

behind_its_switch : fault (codes "(eio 1 (main (switch s) (fork s)))") ≡ Some (Name 30)
unfolding fault
behind_its_switch = refl

of_another_body : fault (codes "(eio 1 (main (let x 1)) (domain (trace x)))") ≡ Some (Name 39)
unfolding fault
of_another_body = refl

-- of another kind
a_variable_for_a_stream : fault (codes "(eio 1 (main (let s 1) (take s)))") ≡ Some (Name 29)
unfolding fault
a_variable_for_a_stream = refl

a_stream_for_a_variable : fault (codes "(eio 1 (stream s 1) (main (trace s)))") ≡ Some (Name 33)
unfolding fault
a_stream_for_a_variable = refl

a_switch_for_a_context : fault (codes "(eio 1 (main (switch s (cancel s \"x\"))))") ≡ Some (Name 31)
unfolding fault
a_switch_for_a_context = refl

a_context_for_a_switch : fault (codes "(eio 1 (main (sub c (fork c))))") ≡ Some (Name 26)
unfolding fault
a_context_for_a_switch = refl

a_promise_for_a_stream : fault (codes "(eio 1 (promise p) (main (take p)))") ≡ Some (Name 31)
unfolding fault
a_promise_for_a_stream = refl

a_writer_for_a_reader : fault (codes "(eio 1 (flow f) (main (buf-write w f (line w))))") ≡ Some (Name 43)
unfolding fault
a_writer_for_a_reader = refl

a_reader_for_a_writer : fault (codes "(eio 1 (flow f) (main (buf-read b f 1 (put b \"x\"))))") ≡ Some (Name 43)
unfolding fault
a_reader_for_a_writer = refl

a_flow_for_a_directory : fault (codes "(eio 1 (flow f) (main (load f \"x\")))") ≡ Some (Name 28)
unfolding fault
a_flow_for_a_directory = refl

a_variable_for_a_directory : fault (codes "(eio 1 (main (let c 1) (load c \"x\")))") ≡ Some (Name 29)
unfolding fault
a_variable_for_a_directory = refl

a_declared_directory_and_a_capability : fault (codes "(eio 1 (dir d) (main (open-dir d \"\" c (load c \"x\") (load d \"x\"))))") ≡ None
unfolding fault
a_declared_directory_and_a_capability = refl

-- while a variable is hidden it isn't in scope
a_hidden_variable : fault (codes "(eio 1 (main (let x 1) (sub x (trace x))))") ≡ Some (Name 37)
unfolding fault
a_hidden_variable = refl

no_longer_hidden : fault (codes "(eio 1 (main (let x 1) (sub x) (trace x)))") ≡ None
unfolding fault
no_longer_hidden = refl

-- the block of a job sees what it captured and the declarations alone
what_a_job_sees : fault (codes "(eio 1 (executor e 0) (stream s 1) (main (let x 1) (submit e 1 (x) (add s x) (submit e 1 (x)))))") ≡ None
unfolding fault
what_a_job_sees = refl

not_captured : fault (codes "(eio 1 (executor e 0) (main (let x 1) (let y 2) (submit e 1 (x) (trace y))))") ≡ Some (Name 71)
unfolding fault
not_captured = refl

a_switch_in_a_job : fault (codes "(eio 1 (executor e 0) (main (switch s (submit e 1 () (fork s)))))") ≡ Some (Name 59)
unfolding fault
a_switch_in_a_job = refl

a_switch_captured : fault (codes "(eio 1 (executor e 0) (main (switch s (submit e 1 (s)))))") ≡ Some (Name 51)
unfolding fault
a_switch_captured = refl

an_unknown_name_captured : fault (codes "(eio 1 (executor e 0) (main (submit e 1 (x))))") ≡ Some (Name 41)
unfolding fault
an_unknown_name_captured = refl

a_new_name_in_a_job : fault (codes "(eio 1 (executor e 0) (main (switch s (submit e 1 () (switch s)))))") ≡ None
unfolding fault
a_new_name_in_a_job = refl
