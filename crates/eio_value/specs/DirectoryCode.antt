-- A directory as a list of tokens, which give it back: an entry's kind, its name and its text, and a kind of its own for the end of a directory.
use Rattle.std.specs.Prelude.{◌≡◌, ℕ, zero, suc, List, [], ◌∷◌, refl}
use Rattle.std.proofs.Common.{ap, ◌∙◌}
use Rattle.std.specs.Coded.{Coded, code_by, coded×, coded_ℕ, coded_list}
use Rattle.eio_value.specs.Directory.{Item, File, Link, Sub, Directory, Empty, And}

abbrev pub Token : Type 0
Token = ℕ × (List ℕ × List ℕ)

-- the tokens of a directory, before these
abbrev mutual
  pub item_tokens : Item → List Token → List Token
  item_tokens (File name content) behind = (1, (name, content)) ∷ behind
  item_tokens (Link name target) behind = (2, (name, target)) ∷ behind
  item_tokens (Sub name inner) behind = (3, (name, [])) ∷ tokens inner behind

  pub tokens : Directory → List Token → List Token
  tokens Empty behind = (0, ([], [])) ∷ behind
  tokens (And item rest) behind = item_tokens item (tokens rest behind)

-- a token before directories that were read behind it
abbrev pub onto : ℕ → (name text : List ℕ) → List Directory → List Directory
onto zero name text read = Empty ∷ read
onto (suc zero) name text (rest ∷ read) = And (File name text) rest ∷ read
onto (suc (suc zero)) name text (rest ∷ read) = And (Link name text) rest ∷ read
onto (suc (suc (suc zero))) name text (inner ∷ rest ∷ read) = And (Sub name inner) rest ∷ read
onto _ name text read = read

-- the directories that tokens stand for, read from the back
abbrev pub directories : List Token → List Directory
directories [] = []
directories (t ∷ ts) = onto t.0 t.1.0 t.1.1 (directories ts)

pub directories-tokens : (directory : Directory) (behind : List Token) → directories (tokens directory behind) ≡ directory ∷ directories behind
directories-tokens Empty behind = refl
directories-tokens (And (File name content) rest) behind = ap (onto 1 name content) (directories-tokens rest behind)
directories-tokens (And (Link name target) rest) behind = ap (onto 2 name target) (directories-tokens rest behind)
directories-tokens (And (Sub name inner) rest) behind =
    ap (onto 3 name []) (directories-tokens inner (tokens rest behind)) ∙ ap (λ read. onto 3 name [] (inner ∷ read)) (directories-tokens rest behind)

abbrev pub first : List Directory → Directory
first [] = Empty
first (directory ∷ read) = directory

abbrev pub directory_code : Coded Directory
directory_code = code_by (List Token) (coded_list (coded× coded_ℕ (coded× (coded_list coded_ℕ) (coded_list coded_ℕ)))) (λ directory. tokens directory []) (λ ts. first (directories ts)) (λ directory. ap first (directories-tokens directory []))
