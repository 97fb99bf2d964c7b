-- Inputs that spell a tree, with the place of each of its nodes.
use Rattle.std.proofs.Common.{◌≡◌, [], ◌∷◌, Ok, refl}
use Rattle.std.specs.Prelude.{codes, pos, negsuc}
use Rattle.spec_script.specs.Trees.{Word, Number, Text, Branch, Nil, And}
use Rattle.test_commands.specs.Read.{tree}

empty_main : tree (codes "(eio 1 (main))") ≡ Ok (Branch 0 (And (Word 1 (codes "eio")) (And (Number 5 (pos 1)) (And (Branch 7 (And (Word 8 (codes "main")) Nil)) Nil))))
unfolding tree
empty_main = refl

-- a gap is missing before two parens, and a comment stands in the place of one
gaps_and_a_comment : tree (codes "( eio 1;c\n (main(trace \"a\\tb\" -5 )))") ≡ Ok (Branch 0 (And (Word 2 (codes "eio")) (And (Number 6 (pos 1)) (And (Branch 11 (And (Word 12 (codes "main")) (And (Branch 16 (And (Word 17 (codes "trace")) (And (Text 23 (codes "a\tb")) (And (Number 30 (negsuc 4)) Nil)))) Nil))) Nil))))
unfolding tree
gaps_and_a_comment = refl

a_word_alone : tree (codes "a-b_9") ≡ Ok (Word 0 (codes "a-b_9"))
unfolding tree
a_word_alone = refl

a_number_alone : tree (codes " -17\t\r\n") ≡ Ok (Number 1 (negsuc 16))
unfolding tree
a_number_alone = refl

a_text_alone : tree (codes "\"\"") ≡ Ok (Text 0 [])
unfolding tree
a_text_alone = refl

an_empty_list : tree (codes "()") ≡ Ok (Branch 0 Nil)
unfolding tree
an_empty_list = refl

-- a semicolon and a paren in a text are items
all_escapes : tree (codes "\"\\n\\r\\t\\\"\\\\;(~ \"") ≡ Ok (Text 0 (10 ∷ 13 ∷ 9 ∷ 34 ∷ 92 ∷ 59 ∷ 40 ∷ 126 ∷ 32 ∷ []))
unfolding tree
all_escapes = refl

texts_need_no_gap : tree (codes "(a\"b\"\"c\"1)") ≡ Ok (Branch 0 (And (Word 1 (codes "a")) (And (Text 2 (codes "b")) (And (Text 5 (codes "c")) (And (Number 8 (pos 1)) Nil)))))
unfolding tree
texts_need_no_gap = refl

comment_up_to_the_end : tree (codes "x;y") ≡ Ok (Word 0 (codes "x"))
unfolding tree
comment_up_to_the_end = refl

comments_around : tree (codes ";\"\n;(\nx ;)") ≡ Ok (Word 6 (codes "x"))
unfolding tree
comments_around = refl
