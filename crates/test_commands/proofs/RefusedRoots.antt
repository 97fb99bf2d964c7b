-- Trees whose root or whose parts are no script's: all Shape, but for a body too many.
use Rattle.std.proofs.Common.{◌≡◌, Some, None, refl}
use Rattle.std.specs.Prelude.{codes}
use Rattle.spec_script.specs.Faults.{Shape, Size}
use Rattle.test_commands.specs.Read.{fault}

a_word : fault (codes "eio") ≡ Some (Shape 0)
unfolding fault
a_word = refl

a_number : fault (codes "5") ≡ Some (Shape 0)
unfolding fault
a_number = refl

an_empty_list : fault (codes "()") ≡ Some (Shape 0)
unfolding fault
an_empty_list = refl

another_word : fault (codes "(oei 1 (main))") ≡ Some (Shape 0)
unfolding fault
another_word = refl

a_text_in_front : fault (codes "(\"eio\" 1 (main))") ≡ Some (Shape 0)
unfolding fault
a_text_in_front = refl

-- a version is missing where the second item is no number
no_version : fault (codes "(eio (main))") ≡ Some (Shape 0)
unfolding fault
no_version = refl

nothing_behind : fault (codes "(eio)") ≡ Some (Shape 0)
unfolding fault
nothing_behind = refl

a_word_for_a_version : fault (codes "(eio one (main))") ≡ Some (Shape 0)
unfolding fault
a_word_for_a_version = refl

version_two : fault (codes "(eio 2 (main))") ≡ Some (Shape 5)
unfolding fault
version_two = refl

version_zero : fault (codes "(eio 0 (main))") ≡ Some (Shape 5)
unfolding fault
version_zero = refl

a_negative_version : fault (codes "(eio -1 (main))") ≡ Some (Shape 5)
unfolding fault
a_negative_version = refl

-- without any `main` the root is refused, before anything in it
no_main : fault (codes "(eio 1)") ≡ Some (Shape 0)
unfolding fault
no_main = refl

no_main_comes_before_a_version : fault (codes "(eio 2)") ≡ Some (Shape 0)
unfolding fault
no_main_comes_before_a_version = refl

no_main_comes_before_declarations : fault (codes "(eio 1 (stream s 2000))") ≡ Some (Shape 0)
unfolding fault
no_main_comes_before_declarations = refl

a_word_main : fault (codes "(eio 1 main)") ≡ Some (Shape 0)
unfolding fault
a_word_main = refl

a_version_comes_before_declarations : fault (codes "(eio 2 (stream s 2000) (main))") ≡ Some (Shape 5)
unfolding fault
a_version_comes_before_declarations = refl

-- in front of `main` stand declarations, behind it further bodies
a_domain_before_main : fault (codes "(eio 1 (domain) (main))") ≡ Some (Shape 7)
unfolding fault
a_domain_before_main = refl

a_word_before_main : fault (codes "(eio 1 mutex (main))") ≡ Some (Shape 7)
unfolding fault
a_word_before_main = refl

an_unknown_declaration : fault (codes "(eio 1 (fiber f) (main))") ≡ Some (Shape 7)
unfolding fault
an_unknown_declaration = refl

a_statement_before_main : fault (codes "(eio 1 (yield) (main))") ≡ Some (Shape 7)
unfolding fault
a_statement_before_main = refl

a_second_main : fault (codes "(eio 1 (main) (main))") ≡ Some (Shape 14)
unfolding fault
a_second_main = refl

a_declaration_behind_main : fault (codes "(eio 1 (main) (mutex m))") ≡ Some (Shape 14)
unfolding fault
a_declaration_behind_main = refl

a_number_behind_main : fault (codes "(eio 1 (main) 5)") ≡ Some (Shape 14)
unfolding fault
a_number_behind_main = refl

a_bad_statement_of_main_comes_first : fault (codes "(eio 1 (main (leave)) 5)") ≡ Some (Shape 13)
unfolding fault
a_bad_statement_of_main_comes_first = refl

eight_bodies : fault (codes "(eio 1 (main) (domain) (domain) (domain) (domain) (domain) (domain) (domain))") ≡ None
unfolding fault
eight_bodies = refl

nine_bodies : fault (codes "(eio 1 (main) (domain) (domain) (domain) (domain) (domain) (domain) (domain) (domain))") ≡ Some (Size 77)
unfolding fault
nine_bodies = refl

-- workers may name each `domain` that stands there, also the one too many
a_worker_on_a_body_too_many : fault (codes "(eio 1 (executor e 8) (main) (domain) (domain) (domain) (domain) (domain) (domain) (domain) (domain))") ≡ Some (Size 92)
unfolding fault
a_worker_on_a_body_too_many = refl

a_worker_on_an_unsound_body : fault (codes "(eio 1 (executor e 1) (main) (domain (leave)))") ≡ Some (Shape 37)
unfolding fault
a_worker_on_an_unsound_body = refl

a_shape_comes_before_a_body_too_many : fault (codes "(eio 1 (main) (domain) (domain) (domain) (domain) (domain) (domain) (domain) (main))") ≡ Some (Shape 77)
unfolding fault
a_shape_comes_before_a_body_too_many = refl
