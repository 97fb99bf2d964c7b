-- A worked tree, so that the premises of the laws can be met: `(a 7 "b")`.
use Rattle.std.proofs.Common.{◌≡◌, ℕ, List, codes, pos, Ok, refl}
use Rattle.spec_script.specs.Canonical.{document}
use Rattle.spec_script.specs.Limits.{most_open_lists}
use Rattle.spec_script.specs.Reading.{past_gap, text_items, run_tree, trees_by, tree_at, reading}
use Rattle.spec_script.specs.Spelling.{IsDocument}
use Rattle.spec_script.specs.Trees.{Tree, Word, Number, Text, Branch, Nil, And}
use Rattle.law_script.specs.Trees.Places.{bare}
use Rattle.law_script.specs.Trees.Readings.{IsReadAs}
use Rattle.law_script.specs.Trees.Within.{IsWithin}
use Rattle.law_script.proofs.Trees.Back.{spelled_is_read}
use Rattle.law_script.proofs.Trees.Canonical.{read_is_within, canonical_is_read, canonical_has_no_places}
use Rattle.law_script.proofs.Trees.Read.{read_is_spelled}

abbrev bytes : List ℕ
bytes = codes "(a 7 \"b\")"

abbrev tree : Tree
tree = Branch 0 (And (Word 1 (codes "a")) (And (Number 3 (pos 7)) (And (Text 5 (codes "b")) Nil)))

it_is_read : reading bytes ≡ Ok tree
unfolding past_gap text_items run_tree trees_by tree_at reading
it_is_read = refl

its_bytes_spell_it : IsDocument bytes tree
its_bytes_spell_it = read_is_spelled bytes tree it_is_read

what_is_spelled_is_read : reading bytes ≡ Ok tree
what_is_spelled_is_read = spelled_is_read bytes tree its_bytes_spell_it

it_is_within : IsWithin most_open_lists tree
it_is_within = read_is_within bytes tree it_is_read

its_spelling_is_read : IsReadAs (document tree) tree
its_spelling_is_read = canonical_is_read tree it_is_within

-- the same tree, further behind
abbrev behind : Tree
behind = Branch 4 (And (Word 5 (codes "a")) (And (Number 9 (pos 7)) (And (Text 11 (codes "b")) Nil)))

they_are_spelled_alike : document behind ≡ document tree
unfolding bare
they_are_spelled_alike = canonical_has_no_places behind tree refl
