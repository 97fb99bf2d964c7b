-- Declarations that are refused, and such as aren't.
use Rattle.std.proofs.Common.{◌≡◌, Some, None, refl}
use Rattle.std.specs.Prelude.{codes}
use Rattle.spec_script.specs.Faults.{Shape, Size, Twice}
use Rattle.test_commands.specs.Read.{fault}

a_number_for_a_name : fault (codes "(eio 1 (stream 5 1) (main))") ≡ Some (Shape 15)
unfolding fault
a_number_for_a_name = refl

no_capacity : fault (codes "(eio 1 (stream s) (main))") ≡ Some (Shape 7)
unfolding fault
no_capacity = refl

no_name : fault (codes "(eio 1 (stream) (main))") ≡ Some (Shape 7)
unfolding fault
no_name = refl

an_item_behind_a_promise : fault (codes "(eio 1 (promise p 1) (main))") ≡ Some (Shape 7)
unfolding fault
an_item_behind_a_promise = refl

a_word_for_a_count : fault (codes "(eio 1 (semaphore m x) (main))") ≡ Some (Shape 20)
unfolding fault
a_word_for_a_count = refl

no_worker : fault (codes "(eio 1 (executor e) (main))") ≡ Some (Shape 7)
unfolding fault
no_worker = refl

a_word_for_a_worker : fault (codes "(eio 1 (executor e 0 x) (main))") ≡ Some (Shape 21)
unfolding fault
a_word_for_a_worker = refl

-- steps of flows
all_steps : fault (codes "(eio 1 (flow f (data \"a\") (fault \"b\") (pause)) (flow g) (main))") ≡ None
unfolding fault
all_steps = refl

a_word_for_a_step : fault (codes "(eio 1 (flow f pause) (main))") ≡ Some (Shape 15)
unfolding fault
a_word_for_a_step = refl

an_unknown_step : fault (codes "(eio 1 (flow f (stop)) (main))") ≡ Some (Shape 15)
unfolding fault
an_unknown_step = refl

a_pause_with_an_item : fault (codes "(eio 1 (flow f (pause 1)) (main))") ≡ Some (Shape 15)
unfolding fault
a_pause_with_an_item = refl

a_data_without_a_text : fault (codes "(eio 1 (flow f (data)) (main))") ≡ Some (Shape 15)
unfolding fault
a_data_without_a_text = refl

a_data_of_no_bytes : fault (codes "(eio 1 (flow f (data \"\")) (main))") ≡ Some (Shape 21)
unfolding fault
a_data_of_no_bytes = refl

a_data_of_a_number : fault (codes "(eio 1 (flow f (data 5)) (main))") ≡ Some (Shape 21)
unfolding fault
a_data_of_a_number = refl

a_fault_of_no_bytes : fault (codes "(eio 1 (flow f (fault \"\")) (main))") ≡ None
unfolding fault
a_fault_of_no_bytes = refl

-- entries of directories
all_entries : fault (codes "(eio 1 (dir d (file \"a\" \"\") (link \"b\" \"\") (sub \"c\" (file \"a\" \"\"))) (main))") ≡ None
unfolding fault
all_entries = refl

a_word_for_an_entry : fault (codes "(eio 1 (dir d file) (main))") ≡ Some (Shape 14)
unfolding fault
a_word_for_an_entry = refl

an_unknown_entry : fault (codes "(eio 1 (dir d (dir \"a\")) (main))") ≡ Some (Shape 14)
unfolding fault
an_unknown_entry = refl

a_file_without_content : fault (codes "(eio 1 (dir d (file \"a\")) (main))") ≡ Some (Shape 14)
unfolding fault
a_file_without_content = refl

a_link_with_two_targets : fault (codes "(eio 1 (dir d (link \"a\" \"b\" \"c\")) (main))") ≡ Some (Shape 14)
unfolding fault
a_link_with_two_targets = refl

a_sub_without_a_name : fault (codes "(eio 1 (dir d (sub)) (main))") ≡ Some (Shape 14)
unfolding fault
a_sub_without_a_name = refl

a_number_for_an_entry_name : fault (codes "(eio 1 (dir d (file 5 \"x\")) (main))") ≡ Some (Shape 20)
unfolding fault
a_number_for_an_entry_name = refl

a_number_for_content : fault (codes "(eio 1 (dir d (file \"a\" 5)) (main))") ≡ Some (Shape 24)
unfolding fault
a_number_for_content = refl

an_empty_entry_name : fault (codes "(eio 1 (dir d (file \"\" \"x\")) (main))") ≡ Some (Shape 20)
unfolding fault
an_empty_entry_name = refl

a_dot : fault (codes "(eio 1 (dir d (file \".\" \"x\")) (main))") ≡ Some (Shape 20)
unfolding fault
a_dot = refl

two_dots : fault (codes "(eio 1 (dir d (sub \"..\")) (main))") ≡ Some (Shape 19)
unfolding fault
two_dots = refl

three_dots : fault (codes "(eio 1 (dir d (sub \"...\")) (main))") ≡ None
unfolding fault
three_dots = refl

a_slash_in_a_name : fault (codes "(eio 1 (dir d (link \"a/b\" \"x\")) (main))") ≡ Some (Shape 20)
unfolding fault
a_slash_in_a_name = refl

a_space_in_a_name : fault (codes "(eio 1 (dir d (file \"a b\" \"x\")) (main))") ≡ Some (Shape 20)
unfolding fault
a_space_in_a_name = refl

an_escape_in_a_name : fault (codes "(eio 1 (dir d (file \"a\\nb\" \"x\")) (main))") ≡ Some (Shape 20)
unfolding fault
an_escape_in_a_name = refl

the_longest_entry_name : fault (codes "(eio 1 (dir d (sub \"aaaaaaaaaaaaaaaaaaaaaaaaaaaaaaaaaaaaaaaaaaaaaaaaaaaaaaaaaaaaaaaa\")) (main))") ≡ None
unfolding fault
the_longest_entry_name = refl

an_entry_name_too_long : fault (codes "(eio 1 (dir d (sub \"aaaaaaaaaaaaaaaaaaaaaaaaaaaaaaaaaaaaaaaaaaaaaaaaaaaaaaaaaaaaaaaaa\")) (main))") ≡ Some (Shape 19)
unfolding fault
an_entry_name_too_long = refl

-- numbers
least_and_greatest : fault (codes "(eio 1 (stream a 0) (stream b 1024) (semaphore c 0) (semaphore d 1000000) (pool e 1) (pool f 64) (main))") ≡ None
unfolding fault
least_and_greatest = refl

a_capacity_too_great : fault (codes "(eio 1 (stream s 1025) (main))") ≡ Some (Size 17)
unfolding fault
a_capacity_too_great = refl

a_negative_capacity : fault (codes "(eio 1 (stream s -1) (main))") ≡ Some (Size 17)
unfolding fault
a_negative_capacity = refl

a_count_too_great : fault (codes "(eio 1 (semaphore s 1000001) (main))") ≡ Some (Size 20)
unfolding fault
a_count_too_great = refl

a_pool_of_none : fault (codes "(eio 1 (pool p 0) (main))") ≡ Some (Size 15)
unfolding fault
a_pool_of_none = refl

a_pool_too_great : fault (codes "(eio 1 (pool p 65) (main))") ≡ Some (Size 15)
unfolding fault
a_pool_too_great = refl

a_worker_on_no_body : fault (codes "(eio 1 (executor e 0 1) (main))") ≡ Some (Size 21)
unfolding fault
a_worker_on_no_body = refl

a_worker_on_a_negative_body : fault (codes "(eio 1 (executor e -1) (main))") ≡ Some (Size 19)
unfolding fault
a_worker_on_a_negative_body = refl

sixteen_workers : fault (codes "(eio 1 (executor e 0 0 0 0 0 0 0 0 0 0 0 0 0 0 0 0) (main))") ≡ None
unfolding fault
sixteen_workers = refl

seventeen_workers : fault (codes "(eio 1 (executor e 0 0 0 0 0 0 0 0 0 0 0 0 0 0 0 0 0) (main))") ≡ Some (Size 51)
unfolding fault
seventeen_workers = refl

-- names
a_name_twice : fault (codes "(eio 1 (stream s 1) (mutex s) (main))") ≡ Some (Twice 27)
unfolding fault
a_name_twice = refl

a_name_comes_before_its_numbers : fault (codes "(eio 1 (promise s) (stream s 2000) (main))") ≡ Some (Twice 27)
unfolding fault
a_name_comes_before_its_numbers = refl

an_entry_twice : fault (codes "(eio 1 (dir d (file \"a\" \"\") (link \"a\" \"\")) (main))") ≡ Some (Twice 34)
unfolding fault
an_entry_twice = refl

an_entry_in_two_directories : fault (codes "(eio 1 (dir d (file \"a\" \"\") (sub \"b\" (file \"a\" \"\") (file \"b\" \"\"))) (dir e (file \"a\" \"\")) (main))") ≡ None
unfolding fault
an_entry_in_two_directories = refl
