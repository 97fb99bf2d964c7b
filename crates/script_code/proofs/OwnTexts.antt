-- The table that a script starts with begins with the texts of the script.
use Rattle.std.proofs.Common.{◌≡◌, ℕ, List, [], ◌∷◌, ◌++◌, length, take, Option, Some, None, refl, ap, sym, ◌∙◌, append_assoc, append-nil}
use Rattle.std.specs.Prelude.{map, fold, position}
use Rattle.std.specs.Str.{bytes_eq}
use Rattle.std.proofs.Math.Seq.{take-append_seam}
use Rattle.eio_value.specs.declared.plain.Plain.{Plain}
use Rattle.eio_value.specs.Exceptions.{bound_text}
use Rattle.eio_value.specs.Table.{Interned, text_id}
use Rattle.spec_script.specs.Opening.{raises_of, with_text, with_bound}

-- the new table is the old one, and perhaps more
record Extends (old new : List (List ℕ)) : Type 0 where
  more : List (List ℕ)
  is : new ≡ old ++ more

same : (texts : List (List ℕ)) → Extends texts texts
same texts = record { more = []; is = sym (append-nil texts) }

then_more : (one two three : List (List ℕ)) → Extends one two → Extends two three → Extends one three
then_more one two three first second = record {
  more = first.more ++ second.more;
  is = second.is ∙ (ap (λ texts. texts ++ second.more) first.is ∙ append_assoc one first.more second.more);
}

interned_extends : (texts : List (List ℕ)) (text : List ℕ) → Extends texts (with_text texts text)
interned_extends texts text = by (position (bytes_eq text) texts)
  where
    interned : Option ℕ → Interned
    interned found = elim found [
      | Some at ↦ record { id = text_id at; texts = texts }
      | None ↦ record { id = text_id (length texts); texts = texts ++ text ∷ [] }
    ]

    by : (found : Option ℕ) → Extends texts (interned found).texts
    by (Some at) = same texts
    by None = record { more = text ∷ []; is = refl }

texts_extend : (these texts : List (List ℕ)) → Extends texts (fold with_text texts these)
texts_extend [] texts = same texts
texts_extend (text ∷ these) texts =
    then_more texts (with_text texts text) (fold with_text (with_text texts text) these) (interned_extends texts text) (texts_extend these (with_text texts text))

bound_extend : (these : List Plain) (texts : List (List ℕ)) → Extends texts (fold with_bound texts these)
bound_extend [] texts = same texts
bound_extend (plain ∷ these) texts =
    then_more texts (with_bound texts plain) (fold with_bound (with_bound texts plain) these)
    (texts_extend (map (bound_text texts) (raises_of plain)) texts) (bound_extend these (with_bound texts plain))

-- the first texts of a table that was opened are those that it was opened with
pub own_texts : (texts : List (List ℕ)) (these : List Plain) → take (length texts) (fold with_bound texts these) ≡ texts
own_texts texts these = let it = bound_extend these texts in ap (take (length texts)) it.is ∙ take-append_seam texts it.more
