-- A table that is copied text by text.
use Rattle.std.proofs.Common.{◌≡◌, ◌≢◌, ℕ, ◌+◌, ◌<◌, List, [], ◌∷◌, ◌++◌, length, take, get_or, refl, ap, sym, ◌∙◌, arith, Option, Some, None}
use Rattle.std.specs.Prelude.{position}
use Rattle.std.specs.Str.{bytes_eq}
use Rattle.std.proofs.lemmas.List.{take_more, get_or-take, length-take-le}
use Rattle.std.proofs.lemmas.List.Quantifiers.{position-Some}
use Rattle.std.proofs.lemmas.Slice.Eq.{bytes_eq-Decides}
use Rattle.std.proofs.lemmas.Option.{slice_get-get_or}
use Rattle.std.specs.Option.{unwrap_or}
use Rattle.eio_value.specs.Table.{AreDifferent, Interned, text_at, text_id, intern}

-- a text that isn't in a table is put behind the others
intern_new : (texts : List (List ℕ)) (text : List ℕ) → ((k : ℕ) → k < length texts → get_or texts k [] ≢ text) → (intern texts text).texts ≡ texts ++ text ∷ []
intern_new texts text fresh = go (position (bytes_eq text) texts) refl
  where
    by_place : Option ℕ → Interned
    by_place place = elim place [ Some at ↦ record { id = text_id at; texts = texts } | None ↦ record { id = text_id (length texts); texts = texts ++ text ∷ [] } ]

    go : (place : Option ℕ) → position (bytes_eq text) texts ≡ place → (by_place place).texts ≡ texts ++ text ∷ []
    go None e = refl
    go (Some at) e =
        let there = position-Some (bytes_eq text) texts at [] e in
        absurd (fresh at there.0 (sym ((bytes_eq-Decides text (get_or texts at [])).0 there.1)))

-- one text more was copied
pub copied_on : (texts before after : List (List ℕ)) (i : ℕ) (text : List ℕ) → AreDifferent texts → i < length texts → before ≡ take i texts → text ≡ get_or texts i [] → after ≡ (intern before text).texts → after ≡ take (i + 1) texts
copied_on texts before after i text different within so_far is one =
    one ∙ ((λ j. (intern (so_far j) (is j)).texts)
    ∙ (intern_new (take i texts) (get_or texts i []) (λ k less same. different k i [] (omega (arith, less, length-take-le i texts (omega (arith, within)))) within
    (sym (get_or-take i texts k [] (omega (arith, less, length-take-le i texts (omega (arith, within))))) ∙ same))
    ∙ sym (take_more texts i [] within)))

-- a text that is there stands at the place of its number
pub text_there : (texts : List (List ℕ)) (i : ℕ) → i < length texts → text_at texts (text_id i) ≡ get_or texts i []
text_there texts i within = ap (λ found. unwrap_or found []) (slice_get-get_or texts i [] within)
