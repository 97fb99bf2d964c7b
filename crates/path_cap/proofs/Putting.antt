-- An entry put over the one of its name, which stands behind others.
use Rattle.std.proofs.Common.{◌≡◌, ℕ, ◌<◌, suc, List, ◌∷◌, ◌++◌, length, get_or, take, drop, ap, sym, ◌∙◌, drop-cons}
use Rattle.std.proofs.lemmas.List.{set_split}
use Rattle.std.specs.Prelude.{slice_set}
use Rattle.std.specs.declared.cmp.Ordering.{Ordering}
use Rattle.std.specs.declared.cmp.Ordering.TheVariants.{Less, Equal, Greater}
use Rattle.std.specs.Ordering.{nat_cmp}
use Rattle.std.specs.Cmp.Lexicographic.{slice_cmp}
use Rattle.spec_parts.specs.Directories.{Entry, with_entry}

over_first : (new old : Entry) (others : List Entry) → slice_cmp nat_cmp new.name old.name ≡ Equal → with_entry new (old ∷ others) ≡ new ∷ others
over_first new old others same = ap (λ (o : Ordering). elim o [ Less ↦ new ∷ old ∷ others | Equal ↦ new ∷ others | Greater ↦ old ∷ with_entry new others ]) same

pub put_over : (entries whole : List Entry) (at : ℕ) (new old : Entry) (new_name old_name : List ℕ) → (entries ≡ whole) × (with_entry new entries ≡ take at entries ++ with_entry new (drop at entries)) → at < length entries → old ≡ get_or entries at old → new_name ≡ new.name → old_name ≡ old.name → Equal ≡ slice_cmp nat_cmp new_name old_name → slice_set entries at new ≡ with_entry new whole
put_over entries whole at new old new_name old_name so_far within is new_is old_is same =
    let same_names : slice_cmp nat_cmp new.name old.name ≡ Equal = ap (λ (n : List ℕ). slice_cmp nat_cmp n old.name) (sym new_is) ∙ (ap (λ (n : List ℕ). slice_cmp nat_cmp new_name n) (sym old_is) ∙ sym same) in
    let cut : drop at entries ≡ old ∷ drop (suc at) entries = drop-cons entries at old within ∙ ap (λ (e : Entry). e ∷ drop (suc at) entries) (sym is) in
    set_split entries at new within
    ∙ (ap (λ (es : List Entry). take at entries ++ es) (sym (ap (with_entry new) cut ∙ over_first new old (drop (suc at) entries) same_names))
    ∙ (sym so_far.1 ∙ ap (with_entry new) so_far.0))
