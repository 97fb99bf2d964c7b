-- The forms of statements, found by their words.
use Rattle.std.proofs.Common.{◌≡◌, ℕ, Bool, IsTrue, List, map, refl, sym, ◌∙◌}
use Rattle.std.proofs.lemmas.Slice.Eq.{bytes_eq-Decides}
use Rattle.std.specs.Option.{option_map}
use Rattle.std.specs.Str.{bytes_eq}
use Rattle.spec_script.specs.declared.Feature.{Feature}
use Rattle.spec_script.specs.Forms as model
use Rattle.script_forms.specs.Heads.{head_of}
use Rattle.script_forms.specs.Words.{begun}
use Rattle.script_forms.specs.declared.heads.Head.{Head}
use Rattle.script_forms.specs.declared.heads.TheConstants.{FORMS}
use Rattle.script_forms.proofs.WordsFound.{found}

-- words that are the same byte by byte
pub same_word : (b : Bool) (this word : List ℕ) → b ≡ bytes_eq this word → IsTrue b → word ≡ this
same_word b this word e met = sym ((bytes_eq-Decides this word).0 (sym e ∙ met))

abbrev pub row_seen : List ℕ → Head × Bool × Bool × Feature → model.Form
row_seen word row = record { word = word; head = head_of row.0; gives = row.1; mocked = row.2; feature = row.3 }

pub form_found : (word : List ℕ) → option_map (row_seen word) (begun word (map (λ row. (row.0.now, row.1)) FORMS)) ≡ model.form_of word
unfolding model.form_of
form_found word = found row_seen (λ form. form.word) (λ this it. refl) word (map (λ row. (row.0.now, row.1)) FORMS)
