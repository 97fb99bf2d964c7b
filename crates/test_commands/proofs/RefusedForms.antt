-- The forms that a command refuses: those for the mocked domain alone, further bodies, and what isn't built.
use Rattle.std.proofs.Common.{◌≡◌, [], ◌∷◌, Some, None, refl}
use Rattle.std.specs.Prelude.{codes}
use Rattle.spec_script.specs.declared.Feature.TheVariants.{FirstForms, Reading, Exceptions, Switches, Groups, StreamsAndPromises, Resources, Flows, Paths}
use Rattle.spec_script.specs.Features.{Built}
use Rattle.test_commands.specs.Read.{first_mock_only, first_domain, first_unbuilt}

-- what is built at one time and another
abbrev first : Built
first = FirstForms ∷ Reading ∷ []

abbrev with_exceptions : Built
with_exceptions = Exceptions ∷ first

abbrev with_switches : Built
with_switches = Switches ∷ with_exceptions

abbrev with_groups : Built
with_groups = Groups ∷ with_switches

abbrev with_streams : Built
with_streams = StreamsAndPromises ∷ with_groups

abbrev with_resources : Built
with_resources = Resources ∷ with_streams

abbrev with_flows : Built
with_flows = Flows ∷ with_resources

abbrev with_paths : Built
with_paths = Paths ∷ with_flows

-- the place is that of the form's own list
sleep : first_mock_only (codes "(eio 1 (main (sleep 1)))") ≡ Some 13
unfolding first_mock_only
sleep = refl

now_in_a_let : first_mock_only (codes "(eio 1 (main (let x (now))))") ≡ Some 20
unfolding first_mock_only
now_in_a_let = refl

in_a_block : first_mock_only (codes "(eio 1 (mutex m) (main (loop (loop (yield) (sleep 1) (now)))))") ≡ Some 43
unfolding first_mock_only
in_a_block = refl

a_flow : first_mock_only (codes "(eio 1 (mutex m) (flow f) (main (sleep 1)))") ≡ Some 17
unfolding first_mock_only
a_flow = refl

a_directory : first_mock_only (codes "(eio 1 (dir d) (main))") ≡ Some 7
unfolding first_mock_only
a_directory = refl

in_a_further_body : first_mock_only (codes "(eio 1 (main) (domain (sleep 1)))") ≡ Some 22
unfolding first_mock_only
in_a_further_body = refl

nothing_mocked : first_mock_only (codes "(eio 1 (stream s 1) (executor e 0) (main (submit e 1 () (give 1))))") ≡ None
unfolding first_mock_only
nothing_mocked = refl

a_domain : first_domain (codes "(eio 1 (main) (domain))") ≡ Some 14
unfolding first_domain
a_domain = refl

two_domains : first_domain (codes "(eio 1 (mutex m) (main (yield)) (domain (yield)) (domain))") ≡ Some 32
unfolding first_domain
two_domains = refl

no_domain : first_domain (codes "(eio 1 (main (yield)))") ≡ None
unfolding first_domain
no_domain = refl

-- the first forms; a `trace` is among them where its operands are texts and one at least
first_forms : first_unbuilt first (codes "(eio 1 (main (switch s (fork s (yield) (trace \"a\" \"b\")))))") ≡ None
unfolding first_unbuilt
first_forms = refl

a_trace_of_nothing : first_unbuilt first (codes "(eio 1 (main (trace)))") ≡ Some 13
unfolding first_unbuilt
a_trace_of_nothing = refl

a_trace_of_a_number : first_unbuilt first (codes "(eio 1 (main (trace \"a\" 1)))") ≡ Some 13
unfolding first_unbuilt
a_trace_of_a_number = refl

a_trace_of_an_expression : first_unbuilt first (codes "(eio 1 (main (trace (unit))))") ≡ Some 13
unfolding first_unbuilt
a_trace_of_an_expression = refl

a_let : first_unbuilt first (codes "(eio 1 (main (yield) (let x 1)))") ≡ Some 21
unfolding first_unbuilt
a_let = refl

-- a further body is never unbuilt
an_unused_domain : first_unbuilt first (codes "(eio 1 (main) (domain))") ≡ None
unfolding first_unbuilt
an_unused_domain = refl

in_a_domain : first_unbuilt first (codes "(eio 1 (main) (domain (check)))") ≡ Some 22
unfolding first_unbuilt
in_a_domain = refl

any_trace : first_unbuilt with_exceptions (codes "(eio 1 (main (trace) (let x (sub c (give 1))) (trace x (plus x 1)) (try ((await-cancel)) e ((raise \"a\")))))") ≡ None
unfolding first_unbuilt
any_trace = refl

a_fail : first_unbuilt with_exceptions (codes "(eio 1 (main (let x (switch s (trace 1) (fail s \"x\")))))") ≡ Some 40
unfolding first_unbuilt
a_fail = refl

a_switch : first_unbuilt with_switches (codes "(eio 1 (main (switch s (fail s \"x\") (fork-daemon s) (on-release s))))") ≡ None
unfolding first_unbuilt
a_switch = refl

a_both : first_unbuilt with_switches (codes "(eio 1 (main (loop (both ((yield)) ()))))") ≡ Some 19
unfolding first_unbuilt
a_both = refl

a_declaration_comes_first : first_unbuilt with_switches (codes "(eio 1 (stream s 1) (main (both () ())))") ≡ Some 7
unfolding first_unbuilt
a_declaration_comes_first = refl

groups : first_unbuilt with_groups (codes "(eio 1 (main (both () ()) (all) (let x (first () ())) (any)))") ≡ None
unfolding first_unbuilt
groups = refl

a_promise : first_unbuilt with_groups (codes "(eio 1 (promise p) (main (switch s (fork-promise s p))))") ≡ Some 7
unfolding first_unbuilt
a_promise = refl

streams : first_unbuilt with_streams (codes "(eio 1 (stream s 1) (promise p) (main (add s 1) (let x (take s)) (resolve p 1) (switch t (fork-promise t p))))") ≡ None
unfolding first_unbuilt
streams = refl

a_sleep : first_unbuilt with_streams (codes "(eio 1 (main (let x (now))))") ≡ Some 20
unfolding first_unbuilt
a_sleep = refl

resources : first_unbuilt with_resources (codes "(eio 1 (semaphore m 1) (mutex u) (pool r 1) (main (sleep (plus 1 2)) (use-pool r x) (use-rw u)))") ≡ None
unfolding first_unbuilt
resources = refl

a_flow_unbuilt : first_unbuilt with_resources (codes "(eio 1 (flow f) (main))") ≡ Some 7
unfolding first_unbuilt
a_flow_unbuilt = refl

flows : first_unbuilt with_flows (codes "(eio 1 (flow f) (main (buf-read b f 1 (line b)) (copy f f)))") ≡ None
unfolding first_unbuilt
flows = refl

a_directory_unbuilt : first_unbuilt with_flows (codes "(eio 1 (flow f) (dir d) (main))") ≡ Some 16
unfolding first_unbuilt
a_directory_unbuilt = refl

paths : first_unbuilt with_paths (codes "(eio 1 (dir d) (main (load d \"x\")))") ≡ None
unfolding first_unbuilt
paths = refl

an_executor : first_unbuilt with_paths (codes "(eio 1 (executor e 0) (main (submit e 1 ())))") ≡ Some 7
unfolding first_unbuilt
an_executor = refl
