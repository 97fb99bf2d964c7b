-- Trees that are made part by part: the pieces of the parts, put together.
use Rattle.std.proofs.Common.{◌≡◌, ℕ, suc, ◌+◌, ◌-◌, ◌<◌, ◌≤◌, List, [], ◌∷◌, ◌++◌, refl, arith, ap, sym, ◌∙◌, append_assoc, append-nil}
use Rattle.std.specs.Prelude.{codes, ◌*◌, pos}
use Rattle.spec_script.specs.Generator.{row_of, generated_fork, generated_forks, generated_taker, generated_switch, generated, word, number, branch}
use Rattle.spec_script.specs.Trees.{Tree, Text}
use Rattle.script_tree.specs.Pieces.{Piece, Words, Numbers, Opens, Closes, pieces, row_pieces}

abbrev forks_pieces : (left at : ℕ) → List Piece
forks_pieces left at = row_pieces (row_of (generated_forks left at))

-- ## The forks that are left, one after the other

one_made : (mid new all : List Piece) (left at : ℕ) → mid ++ forks_pieces (suc left) at ≡ all → new ≡ mid ++ pieces (generated_fork at) → new ++ forks_pieces left (at + 1) ≡ all
unfolding row_pieces generated_forks
one_made mid new all left at before it =
    ap (λ ps. ps ++ forks_pieces left (at + 1)) it ∙ (append_assoc mid (pieces (generated_fork at)) (forks_pieces left (at + 1)) ∙ before)

pub none_made : (old : List Piece) (forks : ℕ) → old ++ row_pieces (row_of (generated_forks (forks - 0) 0)) ≡ old ++ row_pieces (row_of (generated_forks forks 0))
none_made old forks = let all : forks - 0 ≡ forks = omega arith in ap (λ left. old ++ forks_pieces left 0) all

pub fork_made : (mid new all : List Piece) (forks at : ℕ) → at < forks → mid ++ row_pieces (row_of (generated_forks (forks - at) at)) ≡ all → new ≡ mid ++ pieces (generated_fork at)
    → new ++ row_pieces (row_of (generated_forks (forks - (at + 1)) (at + 1))) ≡ all
fork_made mid new all forks at less before it =
    let one : forks - at ≡ suc (forks - (at + 1)) = omega arith in
    one_made mid new all (forks - (at + 1)) at (ap (λ left. mid ++ forks_pieces left at) (sym one) ∙ before) it

pub forks_made : (made all : List Piece) (forks at : ℕ) → forks ≤ at → made ++ row_pieces (row_of (generated_forks (forks - at) at)) ≡ all → made ≡ all
unfolding row_pieces generated_forks
forks_made made all forks at past before =
    let none : forks - at ≡ 0 = omega arith in
    sym (append-nil made) ∙ (ap (λ left. made ++ forks_pieces left at) (sym none) ∙ before)

-- ## Rows of parts

-- the trees of a row are those of its front, and behind them the others
pub row_more : (front behind : List Tree) → row_pieces (row_of (front ++ behind)) ≡ row_pieces (row_of front) ++ row_pieces (row_of behind)
unfolding row_pieces
row_more [] behind = refl
row_more (tree ∷ front) behind = ap (λ ps. pieces tree ++ ps) (row_more front behind) ∙ sym (append_assoc (pieces tree) (row_pieces (row_of front)) (row_pieces (row_of behind)))

-- one part more
more : (old mid new xs ys : List Piece) → mid ≡ old ++ xs → new ≡ mid ++ ys → new ≡ old ++ (xs ++ ys)
more old mid new xs ys before it = it ∙ (ap (λ ps. ps ++ ys) before ∙ append_assoc old xs ys)

abbrev done : Tree
done = branch (word (codes "trace") ∷ Text 0 (codes "done") ∷ [])

pub switch_made : (old a b c d e new : List Piece) (n : ℕ) → a ≡ old ++ Opens 0 ∷ Words 0 (codes "switch") ∷ [] → b ≡ a ++ Words 0 (codes "s") ∷ []
    → c ≡ b ++ row_pieces (row_of (generated_forks n 0)) → d ≡ c ++ pieces (generated_taker (2 * n)) → e ≡ d ++ pieces (branch (word (codes "trace") ∷ Text 0 (codes "done") ∷ []))
    → new ≡ e ++ Closes ∷ [] → new ≡ old ++ pieces (generated_switch n)
unfolding pieces row_pieces
switch_made old a b c d e new n is_a is_b is_c is_d is_e is_new =
    let head : List Piece = Opens 0 ∷ Words 0 (codes "switch") ∷ Words 0 (codes "s") ∷ [] in
    let forks : List Piece = forks_pieces n 0 in
    let taker : List Piece = pieces (generated_taker (2 * n)) in
    let at_b : b ≡ old ++ head = more old a b (Opens 0 ∷ Words 0 (codes "switch") ∷ []) (Words 0 (codes "s") ∷ []) is_a is_b in
    let at_c : c ≡ old ++ (head ++ forks) = more old b c head forks at_b is_c in
    let at_d : d ≡ old ++ ((head ++ forks) ++ taker) = more old c d (head ++ forks) taker at_c is_d in
    let at_e : e ≡ old ++ (((head ++ forks) ++ taker) ++ pieces done) = more old d e ((head ++ forks) ++ taker) (pieces done) at_d is_e in
    let at_new : new ≡ old ++ ((((head ++ forks) ++ taker) ++ pieces done) ++ Closes ∷ []) = more old e new (((head ++ forks) ++ taker) ++ pieces done) (Closes ∷ []) at_e is_new in
    let row : (forks ++ taker) ++ pieces done ≡ row_pieces (row_of (generated_forks n 0 ++ generated_taker (2 * n) ∷ done ∷ [])) =
    append_assoc forks taker (pieces done) ∙ sym (row_more (generated_forks n 0) (generated_taker (2 * n) ∷ done ∷ [])) in
    at_new ∙ ap (λ ps. old ++ (head ++ (ps ++ Closes ∷ []))) row

abbrev stream : Tree
stream = branch (word (codes "stream") ∷ word (codes "q") ∷ number 4 ∷ [])

pub whole_made : (start a b c d e f new : List Piece) (n : ℕ) → start ≡ [] → a ≡ start ++ Opens 0 ∷ Words 0 (codes "eio") ∷ [] → b ≡ a ++ Numbers 0 (pos 1) ∷ []
    → c ≡ b ++ pieces (branch (word (codes "stream") ∷ word (codes "q") ∷ number 4 ∷ [])) → d ≡ c ++ Opens 0 ∷ Words 0 (codes "main") ∷ []
    → e ≡ d ++ pieces (generated_switch n) → f ≡ e ++ Closes ∷ [] → new ≡ f ++ Closes ∷ [] → new ≡ pieces (generated n)
unfolding pieces row_pieces generated
whole_made start a b c d e f new n is_start is_a is_b is_c is_d is_e is_f is_new =
    let root : List Piece = Opens 0 ∷ Words 0 (codes "eio") ∷ [] in
    let main : List Piece = Opens 0 ∷ Words 0 (codes "main") ∷ [] in
    let head : List Piece = root ++ (Numbers 0 (pos 1) ∷ (pieces stream ++ main)) in
    let switch : List Piece = pieces (generated_switch n) in
    let at_a : a ≡ [] ++ root = is_a ∙ ap (λ ps. ps ++ root) is_start in
    let at_b : b ≡ [] ++ (root ++ Numbers 0 (pos 1) ∷ []) = more [] a b root (Numbers 0 (pos 1) ∷ []) at_a is_b in
    let at_c : c ≡ [] ++ (root ++ Numbers 0 (pos 1) ∷ pieces stream) = more [] b c (root ++ Numbers 0 (pos 1) ∷ []) (pieces stream) at_b is_c in
    let at_d : d ≡ [] ++ head = more [] c d (root ++ Numbers 0 (pos 1) ∷ pieces stream) main at_c is_d in
    let at_e : e ≡ [] ++ (head ++ switch) = more [] d e head switch at_d is_e in
    let at_f : f ≡ [] ++ ((head ++ switch) ++ Closes ∷ []) = more [] e f (head ++ switch) (Closes ∷ []) at_e is_f in
    let at_new : new ≡ [] ++ (((head ++ switch) ++ Closes ∷ []) ++ Closes ∷ []) = more [] f new ((head ++ switch) ++ Closes ∷ []) (Closes ∷ []) at_f is_new in
    let inner : switch ++ Closes ∷ [] ≡ ((switch ++ []) ++ Closes ∷ []) ++ [] =
    ap (λ ps. ps ++ Closes ∷ []) (sym (append-nil switch)) ∙ sym (append-nil ((switch ++ []) ++ Closes ∷ [])) in
    at_new ∙ ap (λ ps. head ++ (ps ++ Closes ∷ [])) inner
