-- Statements and expressions of a wrong shape.
use Rattle.std.proofs.Common.{◌≡◌, Some, None, refl}
use Rattle.std.specs.Prelude.{codes}
use Rattle.spec_script.specs.Faults.{Shape}
use Rattle.test_commands.specs.Read.{fault}

an_unknown_form : fault (codes "(eio 1 (main (frace \"x\")))") ≡ Some (Shape 13)
unfolding fault
an_unknown_form = refl

an_empty_statement : fault (codes "(eio 1 (main ()))") ≡ Some (Shape 13)
unfolding fault
an_empty_statement = refl

a_word_for_a_statement : fault (codes "(eio 1 (main x))") ≡ Some (Shape 13)
unfolding fault
a_word_for_a_statement = refl

a_text_for_a_statement : fault (codes "(eio 1 (main \"x\"))") ≡ Some (Shape 13)
unfolding fault
a_text_for_a_statement = refl

a_list_in_front : fault (codes "(eio 1 (main ((yield))))") ≡ Some (Shape 13)
unfolding fault
a_list_in_front = refl

an_expression_for_a_statement : fault (codes "(eio 1 (main (plus 1 2)))") ≡ Some (Shape 13)
unfolding fault
an_expression_for_a_statement = refl

-- too few items, or too many, are refused at the list
an_item_too_many : fault (codes "(eio 1 (main (yield 1)))") ≡ Some (Shape 13)
unfolding fault
an_item_too_many = refl

too_few_of_let : fault (codes "(eio 1 (main (let x)))") ≡ Some (Shape 13)
unfolding fault
too_few_of_let = refl

too_many_of_let : fault (codes "(eio 1 (main (let x 1 2)))") ≡ Some (Shape 13)
unfolding fault
too_many_of_let = refl

one_branch_of_both : fault (codes "(eio 1 (main (both ())))") ≡ Some (Shape 13)
unfolding fault
one_branch_of_both = refl

three_branches_of_first : fault (codes "(eio 1 (main (first () () ())))") ≡ Some (Shape 13)
unfolding fault
three_branches_of_first = refl

no_name_of_a_switch : fault (codes "(eio 1 (main (switch)))") ≡ Some (Shape 13)
unfolding fault
no_name_of_a_switch = refl

no_items_of_submit : fault (codes "(eio 1 (executor e 0) (main (submit e 1)))") ≡ Some (Shape 28)
unfolding fault
no_items_of_submit = refl

no_limit_of_a_reader : fault (codes "(eio 1 (flow f) (main (buf-read b f)))") ≡ Some (Shape 22)
unfolding fault
no_limit_of_a_reader = refl

-- the list comes before its items
a_list_before_its_name : fault (codes "(eio 1 (main (cancel c)))") ≡ Some (Shape 13)
unfolding fault
a_list_before_its_name = refl

-- a node of the wrong kind is refused at itself
a_word_for_a_text : fault (codes "(eio 1 (main (raise x)))") ≡ Some (Shape 20)
unfolding fault
a_word_for_a_text = refl

a_number_for_a_text : fault (codes "(eio 1 (main (raise 5)))") ≡ Some (Shape 20)
unfolding fault
a_number_for_a_text = refl

a_number_for_a_new_name : fault (codes "(eio 1 (main (let 5 1)))") ≡ Some (Shape 18)
unfolding fault
a_number_for_a_new_name = refl

a_text_for_a_new_name : fault (codes "(eio 1 (main (switch \"s\")))") ≡ Some (Shape 21)
unfolding fault
a_text_for_a_new_name = refl

a_number_for_a_used_name : fault (codes "(eio 1 (main (fork 5)))") ≡ Some (Shape 19)
unfolding fault
a_number_for_a_used_name = refl

a_list_for_a_used_name : fault (codes "(eio 1 (main (take (s))))") ≡ Some (Shape 19)
unfolding fault
a_list_for_a_used_name = refl

a_word_for_a_block : fault (codes "(eio 1 (main (if 1 x ())))") ≡ Some (Shape 19)
unfolding fault
a_word_for_a_block = refl

a_word_for_a_branch : fault (codes "(eio 1 (main (all () x)))") ≡ Some (Shape 21)
unfolding fault
a_word_for_a_branch = refl

a_word_for_a_weight : fault (codes "(eio 1 (executor e 0) (main (submit e x ())))") ≡ Some (Shape 38)
unfolding fault
a_word_for_a_weight = refl

a_word_for_captured_names : fault (codes "(eio 1 (executor e 0) (main (submit e 1 x)))") ≡ Some (Shape 40)
unfolding fault
a_word_for_captured_names = refl

a_number_among_captured_names : fault (codes "(eio 1 (executor e 0) (main (submit e 1 (5))))") ≡ Some (Shape 41)
unfolding fault
a_number_among_captured_names = refl

a_number_for_a_directory : fault (codes "(eio 1 (main (load 5 \"x\")))") ≡ Some (Shape 19)
unfolding fault
a_number_for_a_directory = refl

-- an expression is no statement's value unless it gives one
a_statement_for_an_operand : fault (codes "(eio 1 (main (trace (yield))))") ≡ Some (Shape 20)
unfolding fault
a_statement_for_an_operand = refl

an_empty_expression : fault (codes "(eio 1 (main (trace ())))") ≡ Some (Shape 20)
unfolding fault
an_empty_expression = refl

one_operand_of_plus : fault (codes "(eio 1 (main (trace (plus 1))))") ≡ Some (Shape 20)
unfolding fault
one_operand_of_plus = refl

three_operands_of_less : fault (codes "(eio 1 (main (trace (less 1 2 3))))") ≡ Some (Shape 20)
unfolding fault
three_operands_of_less = refl

an_operand_of_unit : fault (codes "(eio 1 (main (trace (unit 1))))") ≡ Some (Shape 20)
unfolding fault
an_operand_of_unit = refl

a_form_that_gives_no_value : fault (codes "(eio 1 (main (let x (yield))))") ≡ Some (Shape 20)
unfolding fault
a_form_that_gives_no_value = refl

a_trace_for_a_value : fault (codes "(eio 1 (main (let x (trace 1))))") ≡ Some (Shape 20)
unfolding fault
a_trace_for_a_value = refl

a_form_of_too_few_items_for_a_value : fault (codes "(eio 1 (main (let x (take))))") ≡ Some (Shape 20)
unfolding fault
a_form_of_too_few_items_for_a_value = refl

a_let_for_a_value : fault (codes "(eio 1 (main (let x (let y 1))))") ≡ Some (Shape 20)
unfolding fault
a_let_for_a_value = refl

-- `give` ends a block
a_give_before_the_end : fault (codes "(eio 1 (main (give 1) (yield)))") ≡ Some (Shape 13)
unfolding fault
a_give_before_the_end = refl

a_give_for_a_value : fault (codes "(eio 1 (main (let x (give 1))))") ≡ Some (Shape 20)
unfolding fault
a_give_for_a_value = refl

a_give_at_the_end_of_main : fault (codes "(eio 1 (main (yield) (give 1)))") ≡ None
unfolding fault
a_give_at_the_end_of_main = refl

gives_that_nobody_uses : fault (codes "(eio 1 (main (if 1 ((give 1)) ((give 2))) (loop (give 3)) (all ((give 4)))))") ≡ None
unfolding fault
gives_that_nobody_uses = refl

-- the first node in reading order
the_first_of_two : fault (codes "(eio 1 (main (trace (foo) (bar))))") ≡ Some (Shape 20)
unfolding fault
the_first_of_two = refl

an_inner_one_before_the_next : fault (codes "(eio 1 (main (loop (loop (foo))) (bar)))") ≡ Some (Shape 25)
unfolding fault
an_inner_one_before_the_next = refl
