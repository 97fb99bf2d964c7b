-- What is declared, found by its word.
use Rattle.std.proofs.Common.{◌≡◌, ℕ, List, map, refl}
use Rattle.std.specs.Option.{option_map}
use Rattle.spec_script.specs.Declarations as declarations
use Rattle.script_declarations.specs.DeclarationsRead.{form_of}
use Rattle.script_forms.specs.Words.{begun}
use Rattle.script_declarations.specs.declared.declarations.TheConstants.{OBJECTS}
use Rattle.script_forms.proofs.WordsFound.{found_alone}

pub object_found : (word : List ℕ) → option_map form_of (begun word (map (λ row. (row.0.now, row.1)) OBJECTS)) ≡ declarations.declaration_form_of word
object_found word = found_alone form_of (λ form. form.word) word (map (λ row. (row.0.now, row.1)) OBJECTS) refl
