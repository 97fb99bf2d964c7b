-- The texts and the declarations of the rows.
use Rattle.std.specs.Prelude.{ℕ, List, [], ◌∷◌, map, codes}
use Rattle.eio_value.specs.declared.value.TextId.{TextId}
use Rattle.eio_value.specs.declared.value.Value.{Value}
use Rattle.eio_value.specs.declared.value.Value.TheVariants as value
use Rattle.eio_value.specs.Table.{text_id}

abbrev pub texts : List (List ℕ)
texts = codes "q" ∷ codes "p" ∷ codes "s" ∷ codes "m" ∷ codes "r" ∷ codes "e" ∷ codes "f" ∷ codes "g" ∷ codes "a\r\n\t\"\\" ∷ codes "boom" ∷ codes "got " ∷ []

-- a stream q, a promise p, a semaphore s, a mutex m, a pool r, an executor e, and flows f and g
abbrev pub names : List TextId
names = map text_id (0 ∷ 1 ∷ 2 ∷ 3 ∷ 4 ∷ 5 ∷ 6 ∷ 7 ∷ [])

-- the text that has every escape in it
abbrev pub odd : TextId
odd = text_id 8

abbrev pub boom : TextId
boom = text_id 9

abbrev pub got : Value
got = value.Text (text_id 10)
