-- Canonical spellings.
use Rattle.std.proofs.Common.{◌≡◌, [], ◌∷◌, refl}
use Rattle.std.specs.Prelude.{codes, pos, negsuc}
use Rattle.std.specs.Fmt.{digits}
use Rattle.spec_script.specs.Trees.{Number, Text, Branch, Nil, And}
use Rattle.spec_script.specs.Canonical.{canonical, canonical_row, canonical_rest}
use Rattle.test_commands.specs.Read.{respelled}

gaps_and_a_comment : respelled (codes "( eio 1;c\n (main(trace \"a\\tb\" -5 )))") ≡ codes "(eio 1 (main (trace \"a\\tb\" -5)))\n"
unfolding respelled
gaps_and_a_comment = refl

a_canonical_script : respelled (codes "(eio 1 (main))\n") ≡ codes "(eio 1 (main))\n"
unfolding respelled
a_canonical_script = refl

empty_lists : respelled (codes " ( ( ) () ; \n) ") ≡ codes "(() ())\n"
unfolding respelled
empty_lists = refl

texts_side_by_side : respelled (codes "(\"\"\"\"a\"~ \")") ≡ codes "(\"\" \"\" a \"~ \")\n"
unfolding respelled
texts_side_by_side = refl

all_escapes : canonical (Text 0 (10 ∷ 13 ∷ 9 ∷ 34 ∷ 92 ∷ 47 ∷ [])) ≡ codes "\"\\n\\r\\t\\\"\\\\/\""
unfolding canonical canonical_row canonical_rest
all_escapes = refl

numbers : canonical (Branch 0 (And (Number 0 (pos 0)) (And (Number 0 (negsuc 0)) (And (Number 0 (pos 9223372036854775807)) (And (Number 0 (negsuc 9223372036854775807)) Nil))))) ≡ codes "(0 -1 9223372036854775807 -9223372036854775808)"
unfolding canonical canonical_row canonical_rest digits
numbers = refl
