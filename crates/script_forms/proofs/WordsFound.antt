-- What a word begins by a table of words is what the definitions find for it.
use Rattle.std.proofs.Common.{◌≡◌, Bool, true, false, List, ℕ, [], ◌∷◌, map, Option, Some, refl, ap, sym, if◌then◌else◌}
use Rattle.std.proofs.lemmas.Slice.Eq.{bytes_eq-Decides}
use Rattle.std.specs.Option.{option_map}
use Rattle.std.specs.List.{find}
use Rattle.std.specs.Str.{bytes_eq}
use Rattle.script_forms.specs.Words.{begun}

found_step : {A B : Type 0} (b : Bool) (see : List ℕ → A → B) (this word : List ℕ) (it : A) (rest : Option A) (others : Option B) → b ≡ bytes_eq this word → option_map (see word) rest ≡ others → option_map (see word) (if b then Some it else rest) ≡ (if b then Some (see this it) else others)
found_step true see this word it rest others e same = ap (λ w. Some (see w it)) (sym ((bytes_eq-Decides this word).0 (sym e)))
found_step false see this word it rest others e same = same

-- where a row's word names what it is seen as
pub found : {A B : Type 0} (see : List ℕ → A → B) (named : B → List ℕ) → ((this : List ℕ) (it : A) → named (see this it) ≡ this) → (word : List ℕ) (table : List (List ℕ × A)) → option_map (see word) (begun word table) ≡ find (λ it. bytes_eq (named it) word) (map (λ row. see row.0 row.1) table)
found see named same word [] = refl
found see named same word (row ∷ table) =
    rw (same row.0 row.1) (found_step (bytes_eq row.0 word) see row.0 word row.1 (begun word table) _ refl (found see named same word table))

alone_step : {A B : Type 0} (b : Bool) (see : A → B) (it : A) (rest : Option A) (others : Option B) → option_map see rest ≡ others → option_map see (if b then Some it else rest) ≡ (if b then Some (see it) else others)
alone_step true see it rest others same = refl
alone_step false see it rest others same = same

-- where what begins has a name of its own, which is the row's word
pub found_alone : {A B : Type 0} (see : A → B) (named : B → List ℕ) (word : List ℕ) (table : List (List ℕ × A)) → map (λ row. named (see row.1)) table ≡ map (λ row. row.0) table → option_map see (begun word table) ≡ find (λ it. bytes_eq (named it) word) (map (λ row. see row.1) table)
found_alone see named word [] same = refl
found_alone see named word (row ∷ table) same =
    let first : named (see row.1) ≡ row.0 = cc in
    let others : map (λ row. named (see row.1)) table ≡ map (λ row. row.0) table = cc in
    rw first (alone_step (bytes_eq row.0 word) see row.1 (begun word table) _ (found_alone see named word table others))

-- ## Words that the definitions compare one behind the other

either : (a b : Bool) → (a ≡ true → b ≡ true) → (b ≡ true → a ≡ true) → a ≡ b
either true b f g = sym (f refl)
either false true f g = g refl
either false false f g = refl

swapped : (this word : List ℕ) → bytes_eq this word ≡ bytes_eq word this
swapped this word =
    either (bytes_eq this word) (bytes_eq word this)
    (λ e. (bytes_eq-Decides word this).1 (sym ((bytes_eq-Decides this word).0 e)))
    (λ e. (bytes_eq-Decides this word).1 (sym ((bytes_eq-Decides word this).0 e)))

pub chosen : {A B : Type 0} (see : A → B) (this word : List ℕ) (it : A) (rest : Option A) (others : Option B) → option_map see rest ≡ others → option_map see (if bytes_eq this word then Some it else rest) ≡ (if bytes_eq word this then Some (see it) else others)
chosen see this word it rest others same = rw (swapped this word) (alone_step (bytes_eq word this) see it rest others same)
