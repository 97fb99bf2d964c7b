-- A table of texts as a row of keys that hold them.
use Rattle.std.specs.Prelude.{◌≡◌, ◌≢◌, All, ℕ, ◌+◌, nat_lt, Bool, false, not, if◌then◌else◌, List, [], ◌∷◌, ◌++◌, length, map, Some, None, position, refl}
use Rattle.std.specs.List.{list_any, position_or_len, IsDistinct}
use Rattle.std.specs.Cmp.Lexicographic.{bytes_decides}
use Rattle.std.specs.Str.{bytes_eq}
use Rattle.std.proofs.Common.{ap, subst, sym, ◌∙◌, cond, arith}
use Rattle.std.proofs.lemmas.Bool.{both_ways, le-ltb, or_parts}
use Rattle.std.proofs.lemmas.List.{length-map, map_push}
use Rattle.std.proofs.lemmas.List.Elements.{All-from_recursion, All-map}
use Rattle.std.proofs.lemmas.List.Kept.{AllPairs-cons}
use Rattle.std.proofs.lemmas.Map.Keys.{IsDistinct-head, IsDistinct-tail}
use Rattle.eio_value.specs.Table.{AreDifferent, Interned, text_id, intern}

abbrev interned : ℕ → List (List ℕ) → Interned
interned at texts = record { id = text_id at; texts = texts }

-- the first place at which a test passes, where each element stands for another
position_or_len-map : {X Y : Type 0} (p : Y → Bool) (f : X → Y) (xs : List X) → position_or_len p (map f xs) ≡ position_or_len (λ x. p (f x)) xs
position_or_len-map p f [] = refl
position_or_len-map p f (x ∷ xs) = ap (λ n. cond (not (p (f x))) (1 + n) 0) (position_or_len-map p f xs)

position-map : {X Y : Type 0} (p : Y → Bool) (f : X → Y) (xs : List X) → position p (map f xs) ≡ position (λ x. p (f x)) xs
position-map p f xs = λ j. cond (nat_lt (position_or_len-map p f xs j) (length-map xs f j)) (Some (position_or_len-map p f xs j)) None

-- where no element passes, that place is the end
place_of_none : {X : Type 0} (p : X → Bool) (xs : List X) → list_any p xs ≡ false → position_or_len p xs ≡ length xs
place_of_none p [] none = refl
place_of_none p (x ∷ xs) none =
    let parts = or_parts (p x) (list_any p xs) none in
    (λ j. cond (not (parts.0 j)) (1 + place_of_none p xs parts.1 j) 0) ∙ omega arith

none_passes : {X : Type 0} (p : X → Bool) (xs : List X) → list_any p xs ≡ false → position p xs ≡ None
none_passes p xs none =
    let past : nat_lt (position_or_len p xs) (length xs) ≡ false = le-ltb (position_or_len p xs) (length xs) (omega (arith, place_of_none p xs none)) in
    ap (λ b. cond b (Some (position_or_len p xs)) None) past

module _ {Key : Type 0} (text_of : Key → List ℕ) (keys : List Key) (bytes : List ℕ) where
  -- a text that is in the table
  pub found : (texts : List (List ℕ)) (at : ℕ) → map text_of keys ≡ texts → Some at ≡ position (λ key. bytes_eq bytes (text_of key)) keys → interned at texts ≡ intern texts bytes
  found texts at are is =
      subst (λ old. interned at old ≡ intern old bytes) are
      (ap (λ o. elim o [ None ↦ interned (length (map text_of keys)) (map text_of keys ++ bytes ∷ []) | Some n ↦ interned n (map text_of keys) ]) (is ∙ sym (position-map (bytes_eq bytes) text_of keys)))

  -- a text that isn't, behind the others
  pub added : (texts : List (List ℕ)) (more : List Key) (key : Key) (at : ℕ) → map text_of keys ≡ texts → false ≡ list_any (λ other. bytes_eq bytes (text_of other)) keys → text_of key ≡ bytes → more ≡ (if list_any (λ other. bytes_eq (text_of key) (text_of other)) keys then keys else keys ++ key ∷ []) → at ≡ position_or_len (λ other. bytes_eq (text_of key) (text_of other)) keys → interned at (map text_of more) ≡ intern texts bytes
  added texts more key at are none holds is place =
      let test : Key → Bool = λ other. bytes_eq bytes (text_of other) in
      let absent : list_any (λ other. bytes_eq (text_of key) (text_of other)) keys ≡ false = ap (λ own. list_any (λ other. bytes_eq own (text_of other)) keys) holds ∙ sym none in
      let last : at ≡ length (map text_of keys) = place ∙ (place_of_none (λ other. bytes_eq (text_of key) (text_of other)) keys absent ∙ sym (length-map keys text_of)) in
      let behind : map text_of more ≡ map text_of keys ++ bytes ∷ [] = ap (map text_of) (is ∙ ap (λ b. if b then keys else keys ++ key ∷ []) absent) ∙ (map_push text_of keys key ∙ ap (λ own. map text_of keys ++ own ∷ []) holds) in
      let nowhere : position (bytes_eq bytes) (map text_of keys) ≡ None = position-map (bytes_eq bytes) text_of keys ∙ none_passes test keys (sym none) in
      subst (λ old. interned at (map text_of more) ≡ intern old bytes) are
      ((λ j. interned (last j) (behind j)) ∙ ap (λ o. elim o [ None ↦ interned (length (map text_of keys)) (map text_of keys ++ bytes ∷ []) | Some n ↦ interned n (map text_of keys) ]) (sym nowhere))

-- keys that are different hold different texts
pub different : {Key : Type 0} (text_of : Key → List ℕ) (keys : List Key) (texts : List (List ℕ)) → map text_of keys ≡ texts → IsDistinct (λ a b. bytes_eq (text_of a) (text_of b)) keys → AreDifferent texts
different {Key} text_of keys texts are distinct = subst AreDifferent are (held keys distinct)
  where
    held : (ks : List Key) → IsDistinct (λ a b. bytes_eq (text_of a) (text_of b)) ks → AreDifferent (map text_of ks)
    held [] apart = λ i j d less within. absurd (omega arith)
    held (key ∷ ks) apart =
        let head : All (λ other. bytes_eq (text_of key) (text_of other) ≡ false) ks = All-from_recursion (λ other. bytes_eq (text_of key) (text_of other) ≡ false) ks (IsDistinct-head (λ a b. bytes_eq (text_of a) (text_of b)) key ks apart) in
        let others : All (λ other. text_of key ≢ text_of other) ks = λ k d less same. both_ways _ (head k d less) ((bytes_decides _ _).1 same) in
        AllPairs-cons (λ s t. s ≢ t) (text_of key) (map text_of ks) (All-map (λ t. text_of key ≢ t) text_of ks others) (held ks (IsDistinct-tail (λ a b. bytes_eq (text_of a) (text_of b)) key ks apart))
