-- A whole script, from its root to its last body.
use Rattle.std.proofs.Common.{◌≡◌, ℕ, List, [], ◌∷◌, ◌++◌, length, true, Some, Result, Ok, Err, codes, refl, ap, sym, subst, ◌∙◌}
use Rattle.spec_script.specs.Faults as model
use Rattle.spec_script.specs.declared.Limits.{Limits}
use Rattle.spec_script.specs.Limits.{limits_of}
use Rattle.spec_script.specs.Results.{◌>>=◌}
use Rattle.spec_script.specs.Trees.{Tree, Word, Number, Text, Branch, Trees, Nil, And}
use Rattle.spec_script.specs.Reads.{Made, Reads, ◌>>>◌, gives, nothing_made}
use Rattle.spec_script.specs.Syntax.{Block}
use Rattle.spec_script.specs.Declarations as declarations
use Rattle.spec_script.specs.Declarations.{declarations_behind, nothing_declared}
use Rattle.spec_script.specs.Scripts.{Parts, script_of, read_parts, script_by, bodies_of, items_behind, parts_of, body, domains}
use Rattle.script_tree.specs.Pieces.{Piece, pieces, first_tree, tree_of}
use Rattle.script_tree.specs.TreeCode.{tree_of-pieces}
use Rattle.script_draft.specs.Ahead.{ahead, tree_ahead, has_tree}
use Rattle.script_declarations.specs.DeclarationsRead.{before_main, from_main, is_main, IsAtMain}
use Rattle.script_draft.specs.Drafts.{Drafted, made_of, nothing_drafted}
use Rattle.script_forms.specs.Flat.{flat_bodies}
use Rattle.script_forms.specs.Faults.{Fails}
use Rattle.script_lang.specs.ScriptsRead.{bodies_read, HasBodies, HasRoot}
use Rattle.script_forms.specs.declared.fault.ScriptFault.{ScriptFault}
use Rattle.script_declarations.proofs.DeclarationsRead.{parts_before, parts_from}
use Rattle.script_draft.proofs.Steps.{fails_first}

-- ## The tree

some_piece : (tree : Tree) → has_tree (pieces tree) ≡ true
unfolding pieces
some_piece (Word a w) = refl
some_piece (Number a w) = refl
some_piece (Text a w) = refl
some_piece (Branch a row) = refl

pub root_here : (c ps : List Piece) (tree : Tree) → c ≡ ps → ps ≡ pieces tree → has_tree c ≡ true
root_here c ps tree e f = ap has_tree (e ∙ f) ∙ some_piece tree

pub tree_here : (c ps : List Piece) (tree : Tree) → c ≡ ps → ps ≡ pieces tree → tree_ahead c ≡ tree
unfolding ahead tree_of
tree_here c ps tree e f = ap tree_ahead (e ∙ f) ∙ tree_of-pieces tree

-- ## Where main stands

parts_row : (tree : Tree) (main behind : Trees) → items_behind (codes "main") tree ≡ Some main → parts_of (And tree behind) ≡ Some (record { before = Nil; main = main; behind = behind })
parts_row tree main behind e = rw (parts_of, e) refl

pub parts_here : (c1 c2 rest : List Piece) (parts : Parts) → parts_of (ahead c1) ≡ Some parts → IsAtMain c1 c2 → rest ≡ c2 → parts_of (ahead rest) ≡ Some (record { before = Nil; main = parts.main; behind = parts.behind })
parts_here c1 c2 rest parts e main same =
    let at = parts_from (ahead c1) parts e in
    ap (λ ps. parts_of (ahead ps)) same ∙ (ap parts_of (main.trees ∙ at.0) ∙ parts_row (first_tree (from_main (ahead c1))) parts.main parts.behind at.1)

pub main_here : (c1 c2 rest : List Piece) (parts : Parts) → parts_of (ahead c1) ≡ Some parts → IsAtMain c1 c2 → rest ≡ c2 → is_main (tree_ahead rest) ≡ true
main_here c1 c2 rest parts e main same =
    let at = parts_from (ahead c1) parts e in
    ap (λ ps. is_main (tree_ahead ps)) same ∙ (ap (λ ts. is_main (first_tree ts)) main.trees ∙ rw at.1 refl)

-- ## The whole

abbrev paired : declarations.Declared → List Block × Made → Result ((declarations.Declared × List Block) × Made) model.ScriptFault
paired declared found = Ok ((declared, found.0), found.1)

abbrev given : declarations.Declared → List Block → Reads (declarations.Declared × List Block)
given declared blocks = gives (declared, blocks)

abbrev more_read : Limits → declarations.Declared → Trees → Block → Reads (declarations.Declared × List Block)
more_read limits declared behind one = domains limits declared 1 behind >>> λ others. given declared (one ∷ others)

abbrev more_blocks : Limits → declarations.Declared → Trees → Block → Reads (List Block)
more_blocks limits declared behind one = domains limits declared 1 behind >>> λ others. gives (one ∷ others)

abbrev consed : Block → List Block × Made → Result (List Block × Made) model.ScriptFault
consed first found = Ok (first ∷ found.0, found.1)

abbrev all_given : declarations.Declared → Block → List Block × Made → Result ((declarations.Declared × List Block) × Made) model.ScriptFault
all_given declared first found = Ok ((declared, first ∷ found.0), found.1)

tail_made : (declared : declarations.Declared) (first : Block) (r : Result (List Block × Made) model.ScriptFault) → (r >>= all_given declared first) ≡ ((r >>= consed first) >>= paired declared)
tail_made declared first (Ok found) = refl
tail_made declared first (Err e) = refl

tail_by : (limits : Limits) (declared : declarations.Declared) (behind : Trees) (r : Result (Block × Made) model.ScriptFault) → (r >>= λ one. more_read limits declared behind one.0 one.1) ≡ ((r >>= λ one. more_blocks limits declared behind one.0 one.1) >>= paired declared)
tail_by limits declared behind (Ok one) = tail_made declared one.0 (domains limits declared 1 behind one.1)
tail_by limits declared behind (Err e) = refl

tail : (limits : Limits) (declared : declarations.Declared) (main behind : Trees) (made : Made) → (body declared main >>> more_read limits declared behind) made ≡ (bodies_read limits declared main behind made >>= paired declared)
tail limits declared main behind made = tail_by limits declared behind (body declared main made)

-- a root gives what its parts give, by the limits of its version
root_gives : (tree : Tree) (c1 : List Piece) (version count : ℕ) (limits : Limits) (root : HasRoot (script_of tree) version count (ahead c1)) → limits ≡ limits_of version → script_of tree ≡ (read_parts limits root.parts nothing_made >>= λ found. Ok (script_by version root.parts found.0.0 found.0.1 found.1))
root_gives tree c1 version count limits root same = rw same root.gives

pub declarations_fail : (tree : Tree) (c1 : List Piece) (version count : ℕ) (limits : Limits) (d0 : Drafted) (f : ScriptFault) → HasRoot (script_of tree) version count (ahead c1) → limits ≡ limits_of version → d0 ≡ nothing_drafted → Fails f (declarations_behind limits count nothing_declared (before_main (ahead c1)) (made_of d0)) → Fails f (script_of tree)
declarations_fail tree c1 version count limits d0 f root same none e =
    let read : Fails f (declarations_behind limits (bodies_of root.parts) nothing_declared root.parts.before nothing_made) = rw (root.count, parts_before (ahead c1) root.parts root.is, none) at e in
    rw (root_gives tree c1 version count limits root same) (fails_first f _ _ (fails_first f (declarations_behind limits (bodies_of root.parts) nothing_declared root.parts.before nothing_made) _ read))

declared_made : (limits : Limits) (count : ℕ) (c1 : List Piece) (parts : Parts) (d0 d1 : Drafted) (declared : declarations.Declared) → count ≡ bodies_of parts → parts_of (ahead c1) ≡ Some parts → d0 ≡ nothing_drafted → declarations_behind limits count nothing_declared (before_main (ahead c1)) (made_of d0) ≡ Ok (declared, made_of d1) → declarations_behind limits (bodies_of parts) nothing_declared parts.before nothing_made ≡ Ok (declared, made_of d1)
declared_made limits count c1 parts d0 d1 declared e is none read = rw (e, parts_before (ahead c1) parts is, none) at read

pub bodies_stop : (tree : Tree) (c1 : List Piece) (version count : ℕ) (limits : Limits) (d0 d1 : Drafted) (declared : declarations.Declared) (f : ScriptFault) (root : HasRoot (script_of tree) version count (ahead c1)) → limits ≡ limits_of version → d0 ≡ nothing_drafted → declarations_behind limits count nothing_declared (before_main (ahead c1)) (made_of d0) ≡ Ok (declared, made_of d1) → Fails f (bodies_read limits declared root.parts.main root.parts.behind (made_of d1)) → Fails f (script_of tree)
bodies_stop tree c1 version count limits d0 d1 declared f root same none read e =
    let made = declared_made limits count c1 root.parts d0 d1 declared root.count root.is none read in
    let after : Fails f ((body declared root.parts.main >>> more_read limits declared root.parts.behind) (made_of d1)) =
    subst (λ r. Fails f r) (sym (tail limits declared root.parts.main root.parts.behind (made_of d1))) (fails_first f (bodies_read limits declared root.parts.main root.parts.behind (made_of d1)) _ e) in
    rw (root_gives tree c1 version count limits root same, made) (fails_first f _ _ after)

pub script_read : (tree : Tree) (c1 : List Piece) (version count : ℕ) (limits : Limits) (d0 d1 d2 : Drafted) (declared : declarations.Declared) (numbers : List ℕ) (root : HasRoot (script_of tree) version count (ahead c1)) → limits ≡ limits_of version → d0 ≡ nothing_drafted → declarations_behind limits count nothing_declared (before_main (ahead c1)) (made_of d0) ≡ Ok (declared, made_of d1) → (all : HasBodies (bodies_read limits declared root.parts.main root.parts.behind) numbers d1 d2) → script_of tree ≡ Ok (script_by version root.parts declared all.blocks (made_of d2))
script_read tree c1 version count limits d0 d1 d2 declared numbers root same none read all =
    let made = declared_made limits count c1 root.parts d0 d1 declared root.count root.is none read in
    let after : (body declared root.parts.main >>> more_read limits declared root.parts.behind) (made_of d1) ≡ Ok ((declared, all.blocks), made_of d2) =
    tail limits declared root.parts.main root.parts.behind (made_of d1) ∙ ap (λ r. r >>= paired declared) all.gives in
    root_gives tree c1 version count limits root same ∙ rw (made, after) refl

pub nodes_read : (read : Reads (List Block)) (numbers : List ℕ) (d0 d1 d2 : Drafted) → d0 ≡ nothing_drafted → d1.nodes ≡ d0.nodes → (all : HasBodies read numbers d1 d2) → d2.nodes ≡ flat_bodies 0 all.blocks
nodes_read read numbers d0 d1 d2 none same all =
    let empty : d1.nodes ≡ [] = same ∙ ap (λ (d : Drafted). d.nodes) none in
    all.grows ∙ ap (λ ns. ns ++ flat_bodies (length ns) all.blocks) empty
