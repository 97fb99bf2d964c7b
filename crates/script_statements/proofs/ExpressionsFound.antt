-- What begins an expression, found by its word.
use Rattle.std.proofs.Common.{◌≡◌, ℕ, List, map, codes, refl}
use Rattle.std.specs.Option.{option_map}
use Rattle.spec_script.specs.Forms as model
use Rattle.script_statements.specs.ExpressionHeads.{expression_head_of}
use Rattle.script_forms.specs.Words.{begun}
use Rattle.script_statements.specs.declared.expressions.TheConstants.{EXPRESSIONS}
use Rattle.script_forms.proofs.WordsFound.{chosen}

pub expression_found : (word : List ℕ) → option_map expression_head_of (begun word (map (λ row. (row.0.now, row.1)) EXPRESSIONS)) ≡ model.expression_head word
expression_found word =
    chosen expression_head_of (codes "unit") word _ _ _
    (chosen expression_head_of (codes "plus") word _ _ _
    (chosen expression_head_of (codes "minus") word _ _ _
    (chosen expression_head_of (codes "same") word _ _ _
    (chosen expression_head_of (codes "less") word _ _ _ refl))))
