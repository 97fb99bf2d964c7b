-- The script that `load` runs: n forks that add to one stream, and one fiber that takes and traces all that they add.
--   (eio 1 (stream q 4)
--     (main (switch s
--       (fork s (add q 0) (yield) (add q 0)) .. (fork s (add q n-1) (yield) (add q n-1))
--       (repeat k 2n (let x (take q)) (trace x))
--       (trace "done"))))
use Rattle.std.specs.Prelude.{ℕ, zero, suc, ◌+◌, ◌*◌, List, [], ◌∷◌, ◌++◌, codes, pos}
use Rattle.spec_script.specs.Trees.{Tree, Word, Number, Text, Branch, Trees, Nil, And}
use Rattle.spec_script.specs.Canonical.{document}

-- trees that stand in no input have the place 0
abbrev pub word : List ℕ → Tree
word = Word 0

abbrev pub number : ℕ → Tree
number n = Number 0 (pos n)

abbrev pub row_of : List Tree → Trees
row_of [] = Nil
row_of (tree ∷ trees) = And tree (row_of trees)

abbrev pub branch : List Tree → Tree
branch trees = Branch 0 (row_of trees)

-- the fork of number i
abbrev pub generated_fork : ℕ → Tree
generated_fork i =
    let add : Tree = branch (word (codes "add") ∷ word (codes "q") ∷ number i ∷ []) in
    branch (word (codes "fork") ∷ word (codes "s") ∷ add ∷ branch (word (codes "yield") ∷ []) ∷ add ∷ [])

-- `left` forks, the first of number i
unfoldable pub generated_forks : (left i : ℕ) → List Tree
generated_forks zero i = []
generated_forks (suc left) i = generated_fork i ∷ generated_forks left (i + 1)

-- `times` turns that take and trace
abbrev pub generated_taker : (times : ℕ) → Tree
generated_taker times =
    branch (word (codes "repeat") ∷ word (codes "k") ∷ number times
    ∷ branch (word (codes "let") ∷ word (codes "x") ∷ branch (word (codes "take") ∷ word (codes "q") ∷ []) ∷ [])
    ∷ branch (word (codes "trace") ∷ word (codes "x") ∷ [])
    ∷ [])

-- the switch of n forks
abbrev pub generated_switch : ℕ → Tree
generated_switch n =
    branch (word (codes "switch") ∷ word (codes "s")
    ∷ (generated_forks n 0 ++ generated_taker (2 * n) ∷ branch (word (codes "trace") ∷ Text 0 (codes "done") ∷ []) ∷ []))

-- the whole script
unfoldable pub generated : ℕ → Tree
generated n =
    branch (word (codes "eio") ∷ number 1
    ∷ branch (word (codes "stream") ∷ word (codes "q") ∷ number 4 ∷ [])
    ∷ branch (word (codes "main") ∷ generated_switch n ∷ [])
    ∷ [])

-- the same as an input
unfoldable pub generated_input : ℕ → List ℕ
generated_input n = document (generated n)
