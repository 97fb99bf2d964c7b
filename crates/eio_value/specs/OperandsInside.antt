-- How `Operands` keeps its values: in the first places of an array of eight, and `Unit` in all others.
use Rattle.std.specs.Prelude.{◌≡◌, ℕ, ◌-◌, ◌≤◌, List, ◌++◌, length, take, drop, replicate}
use Rattle.std.proofs.Common.{ap, ◌∙◌}
use Rattle.eio_value.specs.declared.value.Value.{Value}
use Rattle.eio_value.specs.declared.value.Value.TheVariants.{Unit}
use Rattle.eio_value.specs.declared.operands.Operands.TheInside.{Inside}
use Rattle.eio_value.specs.FilledPlaces.{padded_front, length_front}

-- what callers see
abbrev pub operands_of : Inside → List Value
operands_of o = take o.count o.places

-- at most eight places are filled, and the others hold `Unit`
pub record IsFilled (o : Inside) : Type 0 where
  pub whole : length o.places ≡ 8
  pub most : o.count ≤ 8
  pub rest : drop o.count o.places ≡ replicate (8 - o.count) Unit

-- the places that hold these values
abbrev pub filled : List Value → Inside
filled values = record { places = values ++ replicate (8 - length values) Unit; count = length values }

abbrev pub inside : List Value → ℕ → Inside
inside places count = record { places = places; count = count }

-- what callers see gives the places back
pub filled-operands_of : (o : Inside) → IsFilled o → filled (operands_of o) ≡ o
filled-operands_of o h =
    let places = padded_front Unit o.places o.count h.whole h.most h.rest in
    let count = length_front o.places o.count h.whole h.most in
    ap (λ xs. inside xs (length (take o.count o.places))) places ∙ ap (λ n. inside o.places n) count
